-- Procedures of a linear program, which may call finders.
use Rattle.std.specs.Prelude.{ℕ, List, map, Some, slice_get}
use Rattle.std.specs.Option.{option_map}
use Rattle.std.proofs.Common.{◌≡◌, ap, ◌∙◌}
use Rattle.std.proofs.lemmas.Option.{slice_get-map}
use Rattle.vg_codes.specs.declared.case.Case.{Case}
use Rattle.vg_lin.specs.Program.{Procedure}
use Rattle.vg_finding.specs.Finders.{finder, with_finders}
use Rattle.vg_finding.specs.Found.{AreFound}
use Rattle.vg_linear.proofs.Lists.{get_left}

-- each stands where it stood, with calls of finders
pub found_there : (count : ℕ) (olds news : List (List Case)) (old new : List Procedure) (found : AreFound count olds news old new) (q : ℕ) (m : Procedure)
    → slice_get old q ≡ Some m → slice_get new q ≡ Some (with_finders found.numbers m)
found_there count olds news old new found q m e =
    ap (λ z. slice_get z q) found.procedures
    ∙ get_left (map (with_finders found.numbers) old) (map finder found.finders) q (with_finders found.numbers m)
    (slice_get-map (with_finders found.numbers) old q ∙ ap (option_map (with_finders found.numbers)) e)
