-- Mirrors of the code that reads a script: no public clause cites them.
use Rattle.std.specs.Prelude.{ℕ, ◌≡◌, ◌==◌, List, [], ◌∷◌, ◌++◌, Option, Some, None, if◌then◌else◌}
use Rattle.vg_script.specs.declared.reader.Taken.{Taken}
use Rattle.vg_script.specs.declared.reader.Taken.TheVariants.{Good, Bad as Refused}
use Rattle.vg_script.specs.declared.reader.Item.{Item}
use Rattle.vg_script.specs.Script.{Line, Passed, Reads, Interrupts, Bad, one_digit, spaced_pair, two_digits}

-- items in front of those that are still to be read
abbrev pub behind : List ℕ → Option (List ℕ) → Option (List ℕ)
behind front None = None
behind front (Some vs) = Some (front ++ vs)

-- what was taken of items
abbrev pub Takes : (old new : List ℕ) → Option (List ℕ) → Taken → Type 0
Takes old new (Some vs) Good = new ≡ old ++ vs
Takes old new None Refused = Unit {0}
Takes old new _ _ = ⊥

-- an item of this width
abbrev pub of_width : ℕ → Option ℕ → Option Item
of_width n None = None
of_width n (Some v) = Some (record { value = v; width = n })

-- the first of reads
abbrev pub first_read : List ℕ → Option Item
first_read [] = None
first_read (space ∷ []) = None
first_read (space ∷ high ∷ []) = None
first_read (space ∷ high ∷ low ∷ rest) = of_width 3 (spaced_pair space high low)

-- the first of interrupts
abbrev pub first_interrupt : List ℕ → Option Item
first_interrupt [] = None
first_interrupt (space ∷ []) = None
first_interrupt (space ∷ first ∷ []) = of_width 2 (one_digit space first)
first_interrupt (space ∷ first ∷ next ∷ rest) =
    if next == 32 then of_width 2 (one_digit space first) else of_width 3 (two_digits space first next)

-- what was taken of a line
abbrev pub TakesLine : Line → (reads reads' interrupts interrupts' : List ℕ) → Taken → Type 0
TakesLine Passed reads reads' interrupts interrupts' Good = (reads' ≡ reads) × (interrupts' ≡ interrupts)
TakesLine (Reads values) reads reads' interrupts interrupts' Good = (reads' ≡ reads ++ values) × (interrupts' ≡ interrupts)
TakesLine (Interrupts vectors) reads reads' interrupts interrupts' Good = (reads' ≡ reads) × (interrupts' ≡ interrupts ++ vectors)
TakesLine Bad reads reads' interrupts interrupts' Refused = Unit {0}
TakesLine _ reads reads' interrupts interrupts' _ = ⊥
