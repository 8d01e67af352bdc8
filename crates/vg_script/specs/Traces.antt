-- The lines of a trace.
use Rattle.std.specs.Prelude.{ℕ, ◌/◌, ◌%◌, List, [], ◌∷◌, ◌++◌, codes, decimal}
use Rattle.hex.specs.Hex.{encode_lower}
use Rattle.vg_meaning.specs.declared.event.Event.{Event}
use Rattle.vg_meaning.specs.declared.event.Event.TheVariants.{Read, Write, Enter}
use Rattle.vg_script.specs.declared.traces.EndLine.{EndLine}
use Rattle.vg_script.specs.declared.traces.EndLine.TheVariants.{Idle, Stop, Wants, Budget, Depth, Bad}

-- a byte as two hexadecimal digits, in lower case
abbrev pub byte_digits : ℕ → List ℕ
byte_digits byte = encode_lower (byte ∷ [])

-- a word as four
abbrev pub word_digits : ℕ → List ℕ
word_digits word = encode_lower (word / 256 ∷ word % 256 ∷ [])

-- the line of an event
abbrev pub event_line : Event → List ℕ
event_line (Read address value) = codes "r " ++ byte_digits address ++ codes " " ++ byte_digits value ++ codes "\n"
event_line (Write address value) = codes "w " ++ byte_digits address ++ codes " " ++ byte_digits value ++ codes "\n"
event_line (Enter vector) = codes "i " ++ decimal vector ++ codes "\n"

-- the line of an ending
abbrev pub ending_line : EndLine → List ℕ
ending_line Idle = codes "idle\n"
ending_line (Stop code) = codes "stop " ++ decimal code ++ codes "\n"
ending_line (Wants address) = codes "wants " ++ byte_digits address ++ codes "\n"
ending_line Budget = codes "budget\n"
ending_line Depth = codes "depth\n"
ending_line (Bad pc word) = codes "bad " ++ word_digits pc ++ codes " " ++ word_digits word ++ codes "\n"
