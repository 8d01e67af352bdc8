use Rattle.std.proofs.Common.{◌≡◌, ◌++◌, drop, length, map}
use Rattle.vg_plan_uses.specs.Binding.{is_bound}
use Rattle.vg_plan_uses.proofs.binding.are_bound.Given as goal

abbrev pub invariant-loop-procedure : goal.invariant-loop-procedure
invariant-loop-procedure l =
    l.row ++ map (is_bound (length l.set.marks) l.set.list) (drop l.procedure-index l.procedures)
    ≡ map (is_bound (length l.set.marks) l.set.list) l.procedures
