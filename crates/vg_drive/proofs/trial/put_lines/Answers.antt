use Rattle.std.specs.Prelude.{OnErr, OnOk}
use Rattle.std.proofs.Common.{◌++◌, subst}
use Rattle.vg_io.specs.Piece.{AppendsAll, AppendsFront}
use Rattle.avr_sim.specs.Run.{simulated}
use Rattle.vg_sim.specs.Shown.{lines_of}
use Rattle.vg_drive.proofs.Tries.{lines_all, lines_front, summary_front}
use Rattle.vg_drive.proofs.trial.put_lines.Goals as goal

pub returns-in-Err-clause-failed : goal.returns-in-Err-clause-failed
returns-in-Err-clause-failed g c = summary_front _ _ _ _ c.in-Err.ensures.failed

pub returns-in-Ok-clause-lines : goal.returns-in-Ok-clause-lines
returns-in-Ok-clause-lines g c =
    subst (λ steps. OnOk c.put_run.result (AppendsAll (g.O.Sink.told c.args.out.now) (g.O.Sink.told c.put_run.new.out)
    (c.args.summary.now ++ lines_of (simulated c.args.machine c.args.script.now.reads c.args.script.now.interrupts steps)))) c.most_steps.ensures
    (lines_all c.put_run.result _ _ _ _ _ c.in-Ok.ensures.ok c.put_run.ensures.lines)

pub returns-in-Ok-clause-failed : goal.returns-in-Ok-clause-failed
returns-in-Ok-clause-failed g c =
    subst (λ steps. OnErr c.put_run.result (AppendsFront (g.O.Sink.told c.args.out.now) (g.O.Sink.told c.put_run.new.out)
    (c.args.summary.now ++ lines_of (simulated c.args.machine c.args.script.now.reads c.args.script.now.interrupts steps)))) c.most_steps.ensures
    (lines_front c.put_run.result _ _ _ _ _ c.in-Ok.ensures.ok c.put_run.ensures.failed)
