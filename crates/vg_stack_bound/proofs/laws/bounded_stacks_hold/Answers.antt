use Rattle.vg_stack_bound.proofs.Holding.{holds}
use Rattle.vg_stack_bound.proofs.laws.bounded_stacks_hold.Goals as goal

pub returns : goal.returns
returns g p h s n c f given ready from k codes costs bytes enough floor extra fits =
    holds p h s n c f given ready from k codes costs bytes enough floor extra fits
