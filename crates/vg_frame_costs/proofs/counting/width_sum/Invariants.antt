use Rattle.std.proofs.Common.{◌≡◌, ◌≤◌, ◌+◌, ◌*◌, drop}
use Rattle.vg_frame_costs.specs.Bytes.{bytes_of}
use Rattle.vg_frame_costs.proofs.counting.width_sum.Given as goal

abbrev pub invariant-loop-width : goal.invariant-loop-width
invariant-loop-width l = (l.sum + bytes_of (drop l.width-index l.widths) ≡ bytes_of l.widths) × (l.sum ≤ 255 * l.width-index)
