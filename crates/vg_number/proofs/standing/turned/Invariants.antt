use Rattle.std.proofs.Common.{◌≡◌, [], drop}
use Rattle.vg_core.specs.State.{onto}
use Rattle.vg_number.proofs.standing.turned.Given as goal

abbrev pub invariant-loop-class : goal.invariant-loop-class
invariant-loop-class l = onto (drop l.class-index l.above) l.row ≡ onto l.above []
