use Rattle.avr_sim.specs.Run.{simulated}
use Rattle.avr_sim.proofs.Told.{on_err}
use Rattle.vg_sim.proofs.Endings.{failed_run, failed_end}
use Rattle.vg_sim.proofs.simulate.put_run.Goals as goal

pub returns-in_err-end-clause-failed : goal.returns-in_err-end-clause-failed
returns-in_err-end-clause-failed g c =
    on_err c.from_residual.result _ (failed_run (simulated c.args.started c.args.script.now.reads c.args.script.now.interrupts c.args.budget) _ _
    c.in_err-end.ensures.failed)

pub returns-in_err-put_ending-clause-failed :
    goal.returns-in_err-put_ending-clause-failed
returns-in_err-put_ending-clause-failed g c =
    on_err c.from_residual-in_err-put_ending.result _
    (failed_end (simulated c.args.started c.args.script.now.reads c.args.script.now.interrupts c.args.budget) c.in_ok-end.end c.end_line.result _ _ _
    c.in_ok-end.ensures.ending c.end_line.ensures c.in_ok-end.ensures.trace c.in_err-put_ending.ensures.failed)
