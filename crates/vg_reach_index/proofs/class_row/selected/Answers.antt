use Rattle.std.proofs.Common.{drop, sym, subst, ap, ◌∙◌, ◌+◌, slice_get}
use Rattle.vg_reach_index.proofs.Rows.{Selects, select_step, select_last}
use Rattle.vg_reach_index.proofs.class_row.selected.Goals as goal

pub loop-method-preserved : goal.loop-method-preserved
loop-method-preserved c =
    subst (Selects c.args.tables.now c.args.methods.now (drop (c.loop-method.method-index + 1) c.args.methods.now)) (sym c.note.ensures)
    (select_step c.args.tables.now c.args.methods.now c.loop-method.method-index c.loop-method.row.items c.loop-method-test.true c.loop-method.invariant)

pub returns : goal.returns
returns c = λ s m e. select_last c.args.tables.now c.args.methods.now c.loop-method.method-index c.loop-method.row.items c.loop-method-test.false c.loop-method.invariant s m
    (ap (λ z. slice_get z s) (sym c.from_vec.ensures) ∙ e)
