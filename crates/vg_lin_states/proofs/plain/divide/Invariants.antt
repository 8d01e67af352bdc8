use Rattle.std.proofs.Common.{◌≡◌, ◌-◌, true}
use Rattle.vg_meaning.specs.Outside.{Outside}
use Rattle.vg_lin.specs.State.{division_steps, divides}
use Rattle.vg_lin_states.specs.Doing.{can_divide}
use Rattle.vg_lin_states.proofs.plain.divide.Given as goal

abbrev pub invariant-loop-step : goal.invariant-loop-step
invariant-loop-step l =
    (can_divide l.state l.fn.remainder l.fn.dividend l.fn.divisor ≡ true)
    × ((o : Outside) → divides division_steps l.fn.remainder l.fn.dividend l.fn.divisor l.fn.state o
    ≡ divides (division_steps - l._step) l.fn.remainder l.fn.dividend l.fn.divisor l.state o)
