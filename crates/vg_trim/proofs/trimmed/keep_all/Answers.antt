use Rattle.std.proofs.Common.{◌≡◌, subst, sym, ◌+◌, ◌≤◌, take, length}
use Rattle.std.proofs.lemmas.List.Elements.{all_zip_more}
use Rattle.std.specs.List.{AllZip}
use Rattle.vg_trimming.specs.Trimmed.{AreAllTrimmed, IsTrimmedTo}
use Rattle.vg_apt.specs.Apt.{AllKeepApt, KeepsApt}
use Rattle.vg_trim.specs.Looked.{AreNoLonger}
use Rattle.vg_trim.proofs.trimmed.keep_all.Goals as goal

pub loop-procedure-preserved : goal.loop-procedure-preserved
loop-procedure-preserved c = (
  subst (AreAllTrimmed (take (c.loop-procedure.procedure-index + 1) c.args.procedures.now)) (sym c.in_ok-push-in-Ok.ensures.ok)
      (all_zip_more IsTrimmedTo c.args.procedures.now c.loop-procedure.row c.loop-procedure.procedure-index c.procedure-item.result c.in-Ok.new
      c.loop-procedure-test.true c.procedure-item.is c.loop-procedure.invariant.0 c.in-Ok.ensures.trimmed),
  subst (AreNoLonger (take (c.loop-procedure.procedure-index + 1) c.args.procedures.now)) (sym c.in_ok-push-in-Ok.ensures.ok)
      (all_zip_more (λ old new. length new.code ≤ length old.code) c.args.procedures.now c.loop-procedure.row c.loop-procedure.procedure-index
      c.procedure-item.result c.in-Ok.new c.loop-procedure-test.true c.procedure-item.is c.loop-procedure.invariant.1 c.in-Ok.ensures.short),
  subst (AllKeepApt (take (c.loop-procedure.procedure-index + 1) c.args.procedures.now)) (sym c.in_ok-push-in-Ok.ensures.ok)
      (all_zip_more KeepsApt c.args.procedures.now c.loop-procedure.row c.loop-procedure.procedure-index
      c.procedure-item.result c.in-Ok.new c.loop-procedure-test.true c.procedure-item.is c.loop-procedure.invariant.2 c.in-Ok.ensures.apt),
  subst (AllZip (λ old new. new ≡ old) (take (c.loop-procedure.procedure-index + 1) c.args.procedures.now)) (sym c.in_ok-push-in-Ok.ensures.ok)
      (all_zip_more (λ old new. new ≡ old) c.args.procedures.now c.loop-procedure.row c.loop-procedure.procedure-index
      c.procedure-item.result c.in-Ok.new c.loop-procedure-test.true c.procedure-item.is c.loop-procedure.invariant.3 c.in-Ok.ensures.same),
)
