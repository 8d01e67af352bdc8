use Rattle.vg_core.specs.HeldProgram.{program_at}
use Rattle.vg_interp_run.specs.Run.{state, world}
use Rattle.vg_interp_sessions.proofs.Outgoing.{of_call}
use Rattle.vg_interp_sessions.proofs.initialisation.call_alone.Goals as goal

pub returns-in_err-call-clause-puts : goal.returns-in_err-call-clause-puts
returns-in_err-call-clause-puts g c =
    of_call _ _ (program_at c.args.program.now) c.clock-most.result c.args.target (state c.args.play.now.run) (world c.args.play.now.run) c.clock-most.ensures
    c.in_err-call.ensures.puts

pub returns-in_err-pop-clause-puts : goal.returns-in_err-pop-clause-puts
returns-in_err-pop-clause-puts g c =
    of_call _ _ (program_at c.args.program.now) c.clock-most.result c.args.target (state c.args.play.now.run) (world c.args.play.now.run) c.clock-most.ensures
    c.in_ok-call.ensures.puts

pub returns-clause-puts : goal.returns-clause-puts
returns-clause-puts g c =
    of_call _ _ (program_at c.args.program.now) c.clock-most.result c.args.target (state c.args.play.now.run) (world c.args.play.now.run) c.clock-most.ensures
    c.in_ok-call.ensures.puts
