use Rattle.std.proofs.Common.{◌≡◌, ◌+◌, ◌++◌, take}
use Rattle.vg_alloc.specs.Frames.{pushed_spots}
use Rattle.vg_alloc.proofs.framing.all_spots.Given as goal

abbrev pub invariant-loop-spot : goal.invariant-loop-spot
invariant-loop-spot l = l.spots ≡ pushed_spots (l.fn.taken.slots + l.fn.taken.lasting + 4) l.parameters ++ take l.spot-index l.others
