use Rattle.std.proofs.Common.{subst}
use Rattle.vg_io.specs.Piece.{AppendsAll, AppendsFront}
use Rattle.avr_sim.proofs.Following.{ended_from_reset, told_trace}
use Rattle.avr_sim.proofs.Told.{on_err}
use Rattle.avr_sim.proofs.machine.Machine.run.Goals as goal

pub returns-in_err-go-clause-failed : goal.returns-in_err-go-clause-failed
returns-in_err-go-clause-failed g c =
    let t = told_trace c.args.self c.self.inside.flash c.args.script.now.reads c.args.script.now.interrupts _ _ c.args.budget _ c.self.view_is
    c.reads.ensures.value c.interrupts.ensures.value c.from_reset-running.ensures in
    on_err c.from_residual.result _ (subst (AppendsFront _ _) t c.in_err-go.ensures.failed)

pub returns-clause-ending : goal.returns-clause-ending
returns-clause-ending g c =
    ended_from_reset c.args.self c.self.inside.flash c.args.script.now.reads c.args.script.now.interrupts _ _ c.args.budget _ c.go.new.running
    c.ended.result c.self.view_is c.reads.ensures.value c.interrupts.ensures.value c.from_reset-running.ensures c.in_ok-go.ensures.ended c.ended.ensures

pub returns-clause-trace : goal.returns-clause-trace
returns-clause-trace g c =
    let t = told_trace c.args.self c.self.inside.flash c.args.script.now.reads c.args.script.now.interrupts _ _ c.args.budget _ c.self.view_is
    c.reads.ensures.value c.interrupts.ensures.value c.from_reset-running.ensures in
    subst (AppendsAll _ _) t c.in_ok-go.ensures.trace
