use Rattle.vg_reach_holding.proofs.Places.{on_ok, holds_object, holds_array, holds_delegate}
use Rattle.vg_reach_holding.proofs.holding.hold.Goals as goal

pub returns-in-Obj : goal.returns-in-Obj
returns-in-Obj c =
    on_ok c.mark.result (holds_object c.args.marks.now c.mark.new.self c.args.value c.args.rule c.args.from c.args.also c.in-Obj.cell c.in-Obj.is) c.mark.ensures

pub returns-in-Arr : goal.returns-in-Arr
returns-in-Arr c =
    on_ok c.mark-in-Arr.result (holds_array c.args.marks.now c.mark-in-Arr.new.self c.args.value c.args.rule c.args.from c.args.also c.in-Arr.cell c.in-Arr.is)
    c.mark-in-Arr.ensures

pub returns-in-Bound : goal.returns-in-Bound
returns-in-Bound c =
    on_ok c.hold_delegate.result (holds_delegate c.args.marks.now c.hold_delegate.new.marks c.args.value c.args.rule c.args.from c.args.also c.in-Bound.receiver
    c.in-Bound.method c.in-Bound.is) c.hold_delegate.ensures
