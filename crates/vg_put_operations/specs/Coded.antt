-- Code numbers in a list.
use Rattle.std.specs.Prelude.{ℕ, List, get_or}

-- the code number of a procedure, where the list has those of all procedures by their numbers
abbrev pub code_from : List ℕ → ℕ → ℕ
code_from codes q = get_or codes q 0
