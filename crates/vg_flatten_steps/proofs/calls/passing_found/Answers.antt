use Rattle.std.proofs.Common.{◌≤◌, length, sym, ◌∙◌, subst}
use Rattle.vg_flatten_steps.proofs.Lengths.{few}
use Rattle.vg_flatten_steps.proofs.calls.passing_found.Goals as goal

pub passing-requires : goal.passing-requires
passing-requires c = subst (λ z. length z ≤ 256) (sym (c.as_slice.ensures ∙ c.in_ok-args.ensures)) (few _ c.args.args.now c.requires)
