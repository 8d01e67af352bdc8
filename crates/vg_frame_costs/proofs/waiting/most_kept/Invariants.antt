use Rattle.std.proofs.Common.{◌≡◌, ◌≤◌, max, [], drop, length}
use Rattle.std.specs.Prelude.{reverse}
use Rattle.vg_frame_costs.specs.Bytes.{most_kept}
use Rattle.vg_frame_costs.proofs.waiting.most_kept.Given as goal

abbrev pub invariant-loop-instr : goal.invariant-loop-instr
invariant-loop-instr l =
    (max l.most (most_kept (reverse l.waits.items) (drop l.instr-index l.code)) ≡ most_kept [] l.code) × (length l.waits.items ≤ l.instr-index)
