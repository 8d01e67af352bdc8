use Rattle.std.proofs.Common.{◌≡◌, ◌++◌, drop, map}
use Rattle.vg_flatten_shapes.specs.Blocks.{closed}
use Rattle.vg_flatten_control.proofs.flat.append_closed.Given as goal

abbrev pub invariant-loop-jump : goal.invariant-loop-jump
invariant-loop-jump l =
    l.code ++ map (closed l.fn.end l.fn.again) (drop l.jump-index l.body) ≡ l.fn.code ++ map (closed l.fn.end l.fn.again) l.body
