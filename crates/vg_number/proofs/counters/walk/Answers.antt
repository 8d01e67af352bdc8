use Rattle.std.proofs.Common.{sym, subst, map}
use Rattle.vg_core.specs.Heap.{kind_of}
use Rattle.vg_number.specs.Numbering.{has_reason}
use Rattle.vg_number.specs.Counting.{HasWalked}
use Rattle.vg_number.proofs.Walking.{kind_at, room_at, turn, walked_first}
use Rattle.vg_number.proofs.counters.walk.Goals as goal

pub loop-index-init : goal.loop-index-init
loop-index-init c =
    subst (λ z. HasWalked (map kind_of c.args.cells.now) (has_reason c.args.live.now) c.args.counters.now 0 z c.args.counters.now) (sym c.new-of_cell.ensures)
    (walked_first (map kind_of c.args.cells.now) (has_reason c.args.live.now) c.args.counters.now)

pub hand-number-requires : goal.hand-number-requires
hand-number-requires c =
    room_at (map kind_of c.args.cells.now) (has_reason c.args.live.now) c.args.counters.now c.loop-index.index c.loop-index.of_cell c.loop-index.counters
    (kind_of c.index-cells-index.result) c.is_kept.result
    (kind_at c.args.cells.now c.loop-index.index c.index-cells-index.result c.loop-index-test.true c.index-cells-index.is)
    c.is_kept.ensures c.requires c.loop-index.invariant

pub loop-index-preserved : goal.loop-index-preserved
loop-index-preserved c =
    turn (map kind_of c.args.cells.now) (has_reason c.args.live.now) c.args.counters.now c.loop-index.index c.loop-index.of_cell c.push.new.self
    c.loop-index.counters c.hand-number.new.self (kind_of c.index-cells-index.result) c.is_kept.result c.hand-number.result
    (kind_at c.args.cells.now c.loop-index.index c.index-cells-index.result c.loop-index-test.true c.index-cells-index.is)
    c.is_kept.ensures c.requires c.loop-index.invariant c.hand-number.ensures.handed c.hand-number.ensures.counted c.in_ok-push.ensures.ok
