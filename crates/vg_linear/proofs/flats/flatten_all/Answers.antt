use Rattle.std.proofs.Common.{refl, subst, sym, ◌+◌, map, take}
use Rattle.vg_firm.specs.Held.{procedure_of}
use Rattle.vg_flatten.specs.Flattened.{IsFlat}
use Rattle.vg_linear.specs.Flats.{AreAllFlat}
use Rattle.vg_linear.specs.Widths.{HasWidths}
use Rattle.vg_linear.proofs.AllFlat.{one_left, one_refused}
use Rattle.vg_linear.proofs.Lists.{all_rest, zip_more}
use Rattle.vg_linear.proofs.flats.flatten_all.Goals as goal

pub returns-in-Err : goal.returns-in-Err
returns-in-Err c = record {
  flat = tt;
  refusal = one_refused c.args.layout.now c.args.procedures.now c.loop-procedure.procedure-index c.procedure-item.result c.loop-procedure-test.true
      c.procedure-item.is c.in-Err.why c.in-Err.ensures.refusal;
  typed = one_left c.args.layout.now c.args.procedures.now c.loop-procedure.procedure-index c.procedure-item.result c.loop-procedure-test.true
      c.procedure-item.is c.in-Err.why c.in-Err.ensures.typed;
}

pub loop-procedure-preserved : goal.loop-procedure-preserved
loop-procedure-preserved c = record {
  flat = subst (AreAllFlat c.args.layout.now (map procedure_of (take (c.loop-procedure.procedure-index + 1) c.args.procedures.now)))
      (sym c.in_ok-push-in-Ok.ensures.ok)
      (zip_more (IsFlat c.args.layout.now) procedure_of c.args.procedures.now c.loop-procedure.procedure-index (c.loop-procedure.procedure-index + 1)
      c.procedure-item.result c.loop-procedure.row c.in-Ok.flat refl c.loop-procedure-test.true c.procedure-item.is c.loop-procedure.invariant.flat
      c.in-Ok.ensures.flat);
  widths = all_rest HasWidths c.args.procedures.now c.loop-procedure.procedure-index (c.loop-procedure.procedure-index + 1) refl
      c.loop-procedure.invariant.widths;
}
