use Rattle.std.proofs.Common.{ap, length, sym}
use Rattle.vg_meaning.specs.History.{depth_alone}
use Rattle.vg_meaning.specs.Interrupts.{idles}
use Rattle.vg_core.specs.declared.program.Target.TheVariants as targets
use Rattle.vg_core.specs.HeldProgram.{program_at}
use Rattle.vg_core.specs.Session.{handle}
use Rattle.vg_interp_run.specs.Run.{state, world}
use Rattle.vg_interp.proofs.Outgoing.{of_same}
use Rattle.vg_interp_sessions.proofs.Outgoing.{of_main, then_idle}
use Rattle.vg_interp_sessions.proofs.idling.go.Goals as goal

pub returns-in-Ok-clause-puts : goal.returns-in-Ok-clause-puts
returns-in-Ok-clause-puts g c =
    let p = program_at c.args.program.now in
    let main = targets.Run c.args.program.now.main in
    let s = state c.args.play.now.run in
    let w = world c.args.play.now.run in
    let u = state c.call_alone.new.play.run in
    let v = world c.call_alone.new.play.run in
    then_idle _ _ _ p main (length w.outside.interrupts) s u w v c.in-Ok.ensures.answers c.in-Ok.ensures.puts
    (of_same _ _ _ _ (ap (λ n. idles n (handle depth_alone p) u v) (sym c.interrupts_left-count.ensures)) c.idle.ensures.puts)

pub returns-in-Err-clause-puts : goal.returns-in-Err-clause-puts
returns-in-Err-clause-puts g c =
    of_main _ _ (program_at c.args.program.now) (targets.Run c.args.program.now.main) _ (state c.args.play.now.run) (world c.args.play.now.run)
    c.in-Err.ensures.puts
