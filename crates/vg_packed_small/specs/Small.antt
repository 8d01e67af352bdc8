-- Numbers of cases that have two bytes, and procedures without parameters.
use Rattle.std.specs.Prelude.{◌≡◌, ℕ, ◌+◌, ◌<◌, ◌≤◌, List, Some, slice_get}
use Rattle.std.specs.List.{AllByRecursion}
use Rattle.vg_codes.specs.declared.case.Case.{Case}
use Rattle.vg_firm.specs.Program.{Procedure}

-- The numbers of a case have two bytes.
pub record IsSmall (c : Case) : Type 0 where
  pub first : c.first < 65536
  pub count : c.count < 65536
  pub last : c.first + c.count ≤ 65536

abbrev pub AreSmall : List Case → Type 0
AreSmall = AllByRecursion IsSmall

abbrev pub AreAllSmall : List (List Case) → Type 0
AreAllSmall = AllByRecursion AreSmall

-- The procedure of this number has no parameters, but for a receiver.
abbrev pub HasNoParameters : List Procedure → (number : ℕ) → Type 0
HasNoParameters ms q = (m : Procedure) × (slice_get ms q ≡ Some m) × (m.params ≡ 0)
