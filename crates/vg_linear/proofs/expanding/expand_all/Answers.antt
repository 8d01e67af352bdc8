use Rattle.std.proofs.Common.{subst, sym, ◌+◌, take}
use Rattle.std.proofs.lemmas.List.Elements.{all_zip_more}
use Rattle.vg_linear.specs.Expanded.{AreAllExpanded, IsExpandedTo}
use Rattle.vg_linear.proofs.Expanded.{one_too_long}
use Rattle.vg_linear.proofs.expanding.expand_all.Goals as goal

pub returns-in-Err : goal.returns-in-Err
returns-in-Err c = record {
  meaning = tt;
  refusal = one_too_long c.args.procedures.now c.loop-procedure.procedure-index c.procedure-item.result c.loop-procedure-test.true
      c.procedure-item.is c.in-Err.why c.in-Err.ensures.refusal;
}

pub loop-procedure-preserved : goal.loop-procedure-preserved
loop-procedure-preserved c =
    subst (AreAllExpanded c.args.first (take (c.loop-procedure.procedure-index + 1) c.args.procedures.now)) (sym c.in_ok-push-in-Ok.ensures.ok)
    (all_zip_more (IsExpandedTo c.args.first) c.args.procedures.now c.loop-procedure.row c.loop-procedure.procedure-index c.procedure-item.result c.in-Ok.new
    c.loop-procedure-test.true c.procedure-item.is c.loop-procedure.invariant
    (record {
      sound = c.keeps.ensures;
      expands = c.in-Ok.ensures.meaning;
      exactly = c.in-Ok.ensures.exactly;
      simple = c.in-Ok.ensures.nothing_left;
      sound_too = c.keeps-in-Ok.ensures;
    }))
