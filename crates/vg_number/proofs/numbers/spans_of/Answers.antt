use Rattle.std.proofs.Common.{sym, subst, map}
use Rattle.vg_core.specs.Heap.{kind_of}
use Rattle.vg_number.specs.Numbering.{has_reason}
use Rattle.vg_number.specs.Counting.{AreSmall, AreSpansBy}
use Rattle.vg_number.proofs.Sums.{are_small, are_spans}
use Rattle.vg_number.proofs.numbers.spans_of.Goals as goal

pub spans-requires-clause-small : goal.spans-requires-clause-small
spans-requires-clause-small c =
    subst AreSmall (sym c.as_slice.ensures.value)
    (are_small c.args.tables.now (map kind_of c.args.cells.now) (has_reason c.args.live.now) c.requires.listed c.requires.few c.in_ok-own.own.items
    c.in_ok-own.ensures)

pub returns : goal.returns
returns c =
    are_spans c.args.tables.now (map kind_of c.args.cells.now) (has_reason c.args.live.now) c.requires.listed c.requires.few c.in_ok-own.own.items
    c.in_ok-own.ensures
    c.in_ok-rows.rows (subst (λ z. AreSpansBy c.args.tables.now z c.in_ok-rows.rows) c.as_slice.ensures.value c.in_ok-rows.ensures)
