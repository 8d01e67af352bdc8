-- What a sink holds behind a put.
use Rattle.std.specs.Prelude.{ℕ, ◌≡◌, List, ◌++◌, take, Option, Some, None}

-- where the sink tells: the whole piece stands behind what it held
abbrev pub AppendsAll : (old new : Option (List ℕ)) → (piece : List ℕ) → Type 0
AppendsAll None new piece = new ≡ None
AppendsAll (Some old) new piece = new ≡ Some (old ++ piece)

-- where the sink tells: a front of the piece stands behind what it held, no byte or all of them included
abbrev pub AppendsFront : (old new : Option (List ℕ)) → (piece : List ℕ) → Type 0
AppendsFront None new piece = new ≡ None
AppendsFront (Some old) new piece = (kept : ℕ) × (new ≡ Some (old ++ take kept piece))
