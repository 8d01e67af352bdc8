use Rattle.std.proofs.Common.{◌≡◌, ◌++◌, [], drop, map}
use Rattle.vg_core.specs.Heap.{default}
use Rattle.vg_interp_run.proofs.calling.push_locals.Given as goal

abbrev pub invariant-loop-type_ : goal.invariant-loop-type_
invariant-loop-type_ l =
    (l.run ≡ record l.fn.run { frames = record l.fn.run.frames { locals = l.run.frames.locals } })
    × (l.run.frames.locals ++ map default (drop l.type_-index l.others) ≡ l.fn.run.frames.locals ++ map default l.others)
