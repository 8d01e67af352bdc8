use Rattle.std.specs.Prelude.{◌++◌, [], ◌∷◌}
use Rattle.std.proofs.Common.{ap, ◌∙◌}
use Rattle.vg_lin_rows.proofs.Soundness.{sample_sound_as}
use Rattle.vg_lin_rows.proofs.sample.sample_procedure.Goals as goal

pub new-requires : goal.new-requires
new-requires c =
    sample_sound_as c.push-3.new.self c.in_ok-code.code
    (c.in_ok-push-3.ensures.ok ∙ ap (λ z. z ++ 2 ∷ [])
    (c.in_ok-push-2.ensures.ok ∙ ap (λ z. z ++ 4 ∷ []) (c.in_ok-push.ensures.ok ∙ ap (λ z. z ++ 4 ∷ []) c.new-widths.ensures))) c.in_ok-code.ensures
