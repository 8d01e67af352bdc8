use Rattle.std.proofs.Common.{sym, subst}
use Rattle.vg_core.specs.HeldProgram.{program_at}
use Rattle.vg_interp_run.specs.Run.{state, world, Signals}
use Rattle.vg_interp.specs.Running.{calling}
use Rattle.vg_interp.proofs.Turns.{exits_told}
use Rattle.vg_interp.proofs.execution.call.Goals as goal

pub returns-in-Err-clause-answers : goal.returns-in-Err-clause-answers
returns-in-Err-clause-answers g c =
    let r = c.call_target.new.play.run in
    let asked = calling (program_at c.args.program.now) c.args.most c.args.call.target c.args.call.count c.args.call.receiver
    (state c.args.play.now.run) (world c.args.play.now.run) in
    subst (λ x. Signals x (state r) (world r) asked) (sym c.signal.ensures) (exits_told c.in-Err.why r asked c.in-Err.ensures.answers)
