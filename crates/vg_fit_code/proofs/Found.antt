-- Code with calls of finders in place of look-ups, and the finders.
use Rattle.std.specs.Prelude.{ℕ, List, Option, slice_get}
use Rattle.std.specs.List.{AllByRecursion}
use Rattle.std.proofs.Common.{inl, refl}
use Rattle.vg_codes.specs.Dispatch.{cases_of}
use Rattle.vg_lin.specs.Program.{Procedure, Program}
use Rattle.vg_followed.specs.Tables.{AreCases}
use Rattle.vg_covered.specs.Fitting.{IsFit}
use Rattle.vg_finding.specs.Finders.{finder, with_finders}
use Rattle.vg_finding.proofs.Instructions.{each_found}

module _ (p : Program) where
  -- no argument of a call of a finder waits
  pub found_fit : (numbers : List (Option ℕ)) (m : Procedure) → AllByRecursion (IsFit p) m.code → AllByRecursion (IsFit p) (with_finders numbers m).code
  found_fit numbers m h = each_found (IsFit p) numbers (λ d q to a e fit. inl refl) m.code h

  pub finder_fit : (d : ℕ) → AreCases p.codes.code (cases_of (slice_get p.dispatches d)) → AllByRecursion (IsFit p) (finder d).code
  finder_fit d cases = (cases, (tt, tt))
