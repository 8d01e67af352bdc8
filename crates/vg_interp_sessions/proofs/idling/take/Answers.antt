use Rattle.std.proofs.Common.{ap, sym}
use Rattle.vg_meaning.specs.History.{depth_alone}
use Rattle.vg_meaning.specs.Interrupts.{take_interrupt}
use Rattle.vg_core.specs.HeldProgram.{program_at}
use Rattle.vg_core.specs.Session.{handle}
use Rattle.vg_interp_run.specs.Run.{state, world}
use Rattle.vg_interp.proofs.Outgoing.{of_same, of_start}
use Rattle.vg_interp_sessions.proofs.Outgoing.{grows_taking, then_vector}
use Rattle.vg_interp_sessions.proofs.idling.take.Goals as goal

pub returns-in_err-offer-clause-puts : goal.returns-in_err-offer-clause-puts
returns-in_err-offer-clause-puts g c =
    let p = program_at c.args.program.now in
    let r = c.offer.new.self.run in
    of_same _ _ _ _ (ap (λ x. take_interrupt (handle depth_alone p) (state x) (world x)) (sym c.in_err-offer.ensures.run))
    (of_start _ _ (take_interrupt (handle depth_alone p)) (state r) (world r) (grows_taking p) c.in_err-offer.ensures.puts)

pub returns-in_err-vector-clause-puts : goal.returns-in_err-vector-clause-puts
returns-in_err-vector-clause-puts g c =
    let p = program_at c.args.program.now in
    let r = c.offer.new.self.run in
    of_same _ _ _ _ (ap (λ x. take_interrupt (handle depth_alone p) (state x) (world x)) (sym c.in_ok-offer.ensures.run))
    (of_start _ _ (take_interrupt (handle depth_alone p)) (state r) (world r) (grows_taking p) c.in_ok-offer.ensures.puts)

pub returns-clause-puts : goal.returns-clause-puts
returns-clause-puts g c =
    let p = program_at c.args.program.now in
    let r = c.offer.new.self.run in
    of_same _ _ _ _ (ap (λ x. take_interrupt (handle depth_alone p) (state x) (world x)) (sym c.in_ok-offer.ensures.run))
    (then_vector _ _ _ p (state r) (world r) _ _ c.in_ok-vector.ensures.0 c.in_ok-vector.ensures.1 c.in_ok-offer.ensures.puts c.handle.ensures.puts)
