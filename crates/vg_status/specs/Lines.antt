-- The lines that the program writes to its second sink.
use Rattle.std.specs.Prelude.{ℕ, List, [], ◌++◌, codes, decimal}
use Rattle.vg_hex.specs.declared.fault.HexFault.{HexFault}
use Rattle.vg_hex.specs.declared.fault.HexFault.TheVariants.{Form, Sum, Twice, Beyond, NoEnd}
use Rattle.vg_rules.specs.declared.what.What.{What}
use Rattle.vg_rules.specs.declared.what.What.TheVariants.{Classes, Methods, Locals, Height}
use Rattle.vg_faults.specs.declared.fault.Fault.{Fault}
use Rattle.vg_faults.specs.declared.fault.Fault.TheVariants.{NoTree, TooDeep, TooMany, Broken, InitTrap, InitSteps, InitDepth, InitTouches, InitTooBig, Allocates, StaticFull, TableFull}
use Rattle.vg_faults.specs.declared.fault.Fault.TheVariants.{StackFull, CodeFull, NoMember, NotBuilt}
use Rattle.vg_faults.specs.Living.{place_text}
use Rattle.vg_script.specs.Traces.{byte_digits}
use Rattle.vg_status.specs.declared.lines.FaultLine.{FaultLine}
use Rattle.vg_status.specs.declared.lines.FaultLine.TheVariants.{Made, Held}
use Rattle.vg_status.specs.declared.status.Status.{Status}
use Rattle.vg_status.specs.declared.status.Status.TheVariants.{Refused, Usage, ReadFault, WriteFault, NoMemory, TooLong, HexRefused, ScriptRefused}

-- what there are too many of
abbrev pub what_text : What → List ℕ
what_text Classes = codes "classes"
what_text Methods = codes "methods"
what_text Locals = codes "locals"
what_text Height = codes "height"

abbrev pub refusal_line : Fault → List ℕ
refusal_line (NoTree place) = codes "no tree at " ++ place_text place ++ codes "\n"
refusal_line (TooDeep place) = codes "too deep at " ++ place_text place ++ codes "\n"
refusal_line (TooMany what limit place) = codes "too many " ++ what_text what ++ codes "\n"
refusal_line (Broken rule place) = codes "rule " ++ decimal rule ++ codes " broken at " ++ place_text place ++ codes "\n"
refusal_line (InitTrap code place) = codes "init stop " ++ decimal code ++ codes " at " ++ place_text place ++ codes "\n"
refusal_line InitSteps = codes "init steps\n"
refusal_line InitDepth = codes "init depth\n"
refusal_line (InitTouches address) = codes "init touches " ++ byte_digits address ++ codes "\n"
refusal_line InitTooBig = codes "init too big\n"
refusal_line (Allocates place line) = line
refusal_line (StaticFull need) = codes "static full " ++ decimal need ++ codes "\n"
refusal_line (TableFull need) = codes "table full " ++ decimal need ++ codes "\n"
refusal_line (StackFull need left) = codes "stack full " ++ decimal need ++ codes " " ++ decimal left ++ codes "\n"
refusal_line (CodeFull words) = codes "code full " ++ decimal words ++ codes "\n"
refusal_line NoMember = codes "no member\n"
refusal_line (NotBuilt place) = codes "not built at " ++ place_text place ++ codes "\n"

-- the line of a fault of a HEX text: the number of its line, or a byte address, in decimal
abbrev pub hex_line : HexFault → List ℕ
hex_line (Form line) = codes "hex form " ++ decimal line ++ codes "\n"
hex_line (Sum line) = codes "hex sum " ++ decimal line ++ codes "\n"
hex_line (Twice address) = codes "hex twice " ++ decimal address ++ codes "\n"
hex_line (Beyond address) = codes "hex beyond " ++ decimal address ++ codes "\n"
hex_line NoEnd = codes "hex no end\n"

-- the line that says why nothing was built or run; an answer that comes behind all puts has none
abbrev pub fault_line : Status → List ℕ
fault_line (Refused fault) = refusal_line fault
fault_line Usage = codes "usage\n"
fault_line ReadFault = codes "read fault\n"
fault_line WriteFault = codes "write fault\n"
fault_line NoMemory = codes "no memory\n"
fault_line TooLong = codes "too long\n"
fault_line (HexRefused fault) = hex_line fault
fault_line (ScriptRefused line) = codes "script form " ++ decimal line ++ codes "\n"
fault_line _ = []

-- the bytes of a line that was made, or that a fault has
abbrev pub line_bytes : FaultLine → List ℕ
line_bytes (Made line) = line.bytes
line_bytes (Held line) = line.now

-- ---- mirrors

-- the fault has no line of its own
abbrev pub IsMadeOf : Fault → Type 0
IsMadeOf (Allocates place line) = ⊥
IsMadeOf _ = Unit {0}

abbrev pub IsMade : Status → Type 0
IsMade (Refused fault) = IsMadeOf fault
IsMade _ = Unit {0}
