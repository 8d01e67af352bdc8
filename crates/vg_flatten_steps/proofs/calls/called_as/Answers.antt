use Rattle.std.proofs.Common.{◌≤◌, length, sym, ap, ◌∙◌, subst}
use Rattle.vg_flatten_steps.specs.Calls.{in_widths}
use Rattle.vg_flatten_steps.proofs.Lengths.{with_few}
use Rattle.vg_flatten_steps.proofs.calls.called_as.Goals as goal

pub resulting-requires-clause-few : goal.resulting-requires-clause-few
resulting-requires-clause-few c =
    subst (λ z. length z ≤ 256)
    (sym (c.as_slice-3.ensures ∙ c.in_ok-args-2.ensures ∙ ap (in_widths c.as_slice.result.now) (c.as_slice-2.ensures ∙ c.in_ok-args.ensures)))
    (with_few c.as_slice.result.now c.args.passing.now.receives c.args.args c.requires.few)
