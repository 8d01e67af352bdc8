use Rattle.std.proofs.Common.{take}
use Rattle.vg_linear.specs.Expanded.{AreAllExpanded}
use Rattle.vg_linear.proofs.expanding.expand_all.Given as goal

abbrev pub invariant-loop-procedure : goal.invariant-loop-procedure
invariant-loop-procedure l = AreAllExpanded l.first (take l.procedure-index l.procedures) l.row
