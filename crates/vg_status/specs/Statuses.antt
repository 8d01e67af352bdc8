-- The answers of the top call: their numbers, and the kinds that clauses speak of.
use Rattle.std.specs.Prelude.{ℕ}
use Rattle.vg_status.specs.declared.status.Status.{Status}
use Rattle.vg_status.specs.declared.status.Status.TheVariants.{Done, Refused, Usage, ReadFault, WriteFault, NoMemory, TooLong}
use Rattle.vg_status.specs.declared.status.Status.TheVariants.{Stopped, Wants, Budget, Depth, HexRefused, ScriptRefused, BadInstruction}

-- the number of each answer
abbrev pub code_of : Status → ℕ
code_of Done = 0
code_of (Refused fault) = 1
code_of Usage = 2
code_of ReadFault = 3
code_of WriteFault = 4
code_of NoMemory = 5
code_of TooLong = 6
code_of (Stopped code) = 7
code_of (Wants address) = 8
code_of Budget = 9
code_of Depth = 10
code_of (HexRefused fault) = 11
code_of (ScriptRefused line) = 12
code_of (BadInstruction pc word) = 13

-- all files were given whole, and memory sufficed
abbrev pub IsSettled : Status → Type 0
IsSettled Usage = ⊥
IsSettled ReadFault = ⊥
IsSettled NoMemory = ⊥
IsSettled TooLong = ⊥
IsSettled _ = Unit {0}

-- nothing was to be put: refusals, and the other answers that come before the first put
abbrev pub IsBeforePuts : Status → Type 0
IsBeforePuts (Refused fault) = Unit {0}
IsBeforePuts Usage = Unit {0}
IsBeforePuts ReadFault = Unit {0}
IsBeforePuts NoMemory = Unit {0}
IsBeforePuts TooLong = Unit {0}
IsBeforePuts (HexRefused fault) = Unit {0}
IsBeforePuts (ScriptRefused line) = Unit {0}
IsBeforePuts _ = ⊥

-- the same of `run`, which may have put lines before memory was wanting
abbrev pub IsBeforeLines : Status → Type 0
IsBeforeLines NoMemory = ⊥
IsBeforeLines s = IsBeforePuts s

-- all was put
abbrev pub IsShown : Status → Type 0
IsShown Done = Unit {0}
IsShown (Stopped code) = Unit {0}
IsShown (Wants address) = Unit {0}
IsShown Budget = Unit {0}
IsShown Depth = Unit {0}
IsShown (BadInstruction pc word) = Unit {0}
IsShown _ = ⊥

-- a text that may be built was built, or memory was wanting
abbrev pub IsDoneOrNoMemory : Status → Type 0
IsDoneOrNoMemory Done = Unit {0}
IsDoneOrNoMemory NoMemory = Unit {0}
IsDoneOrNoMemory _ = ⊥
