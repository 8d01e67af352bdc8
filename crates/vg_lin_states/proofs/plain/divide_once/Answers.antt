use Rattle.std.proofs.Common.{ap, ◌∙◌}
use Rattle.vg_lin.specs.State.{State, sets}
use Rattle.vg_lin_states.specs.Doing.{can_divide}
use Rattle.vg_lin_states.proofs.Dividing.{still}
use Rattle.vg_lin_states.proofs.plain.divide_once.Goals as goal

pub returns-clause-still : goal.returns-clause-still
returns-clause-still c =
    ap (λ (s : State). can_divide s c.args.remainder c.args.dividend c.args.divisor)
    (c.set-2.ensures ∙ ap (sets c.args.dividend c.next_dividend.result) c.set.ensures)
    ∙ still c.args.state.now c.args.remainder c.args.dividend c.args.divisor c.next_remainder.result c.next_dividend.result c.requires
