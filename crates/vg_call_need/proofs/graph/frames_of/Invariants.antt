use Rattle.std.specs.Prelude.{◌≡◌, ◌*◌, ◌≤◌, ◌++◌, drop, length, sum}
use Rattle.vg_call_need.specs.Graph.{frames_of}
use Rattle.vg_call_need.proofs.graph.frames_of.Given as goal

abbrev pub invariant-loop-procedure : goal.invariant-loop-procedure
invariant-loop-procedure l =
    (l.row ++ frames_of l.frames (drop l.procedure-index l.all) ≡ frames_of l.frames l.all) × (sum l.row ≤ 4294967295 * length l.row)
