use Rattle.std.proofs.Common.{◌≡◌, ◌+◌, ◌-◌, sym, ap, ◌∙◌, subst, arith}
use Rattle.vg_meaning.specs.Answer.{and_then}
use Rattle.vg_meaning.specs.History.{depth_alone}
use Rattle.vg_meaning.specs.Interrupts.{idles, take_interrupt}
use Rattle.vg_core.specs.HeldProgram.{program_at}
use Rattle.vg_core.specs.Session.{handle}
use Rattle.vg_interp_run.specs.Run.{state, world, Signals}
use Rattle.vg_interp.proofs.Turns.{signals_on}
use Rattle.vg_interp.proofs.Outgoing.{then_same}
use Rattle.vg_interp_sessions.proofs.Ends.{idles_on}
use Rattle.vg_interp_sessions.proofs.Outgoing.{then_taken}
use Rattle.vg_interp_sessions.proofs.idling.idle.Goals as goal

pub returns-in-Err-clause-answers : goal.returns-in-Err-clause-answers
returns-in-Err-clause-answers g c =
    let handles = handle depth_alone (program_at c.args.program.now) in
    let r = c.take.new.play.run in
    let s = state c.loop-turn.play.run in
    let w = world c.loop-turn.play.run in
    let left = c.args.count - (c.loop-turn._turn + 1) in
    let fewer : c.args.count - c.loop-turn._turn ≡ left + 1 = omega (arith, c.loop-turn-test.true) in
    let on = c.loop-turn.invariant.0 ∙ idles_on (c.args.count - c.loop-turn._turn) left handles s w fewer in
    subst (Signals c.in-Err.why (state r) (world r)) (sym on)
    (signals_on c.in-Err.why (state r) (world r) (take_interrupt handles s w) (idles left handles) c.in-Err.ensures.answers)

pub returns-in-Err-clause-puts : goal.returns-in-Err-clause-puts
returns-in-Err-clause-puts g c =
    let left = c.args.count - (c.loop-turn._turn + 1) in
    let fewer : c.args.count - c.loop-turn._turn ≡ left + 1 = omega (arith, c.loop-turn-test.true) in
    then_taken _ _ _ (program_at c.args.program.now) _ (c.args.count - c.loop-turn._turn) left (state c.loop-turn.play.run) (world c.loop-turn.play.run)
    c.loop-turn.invariant.0 fewer c.loop-turn.invariant.1 c.in-Err.ensures.puts

pub loop-turn-preserved : goal.loop-turn-preserved
loop-turn-preserved g c =
    let handles = handle depth_alone (program_at c.args.program.now) in
    let s = state c.loop-turn.play.run in
    let w = world c.loop-turn.play.run in
    let left = c.args.count - (c.loop-turn._turn + 1) in
    let fewer : c.args.count - c.loop-turn._turn ≡ left + 1 = omega (arith, c.loop-turn-test.true) in
    let on = c.loop-turn.invariant.0 ∙ idles_on (c.args.count - c.loop-turn._turn) left handles s w fewer in (
      on ∙ ap (λ a. and_then a (idles left handles)) c.in-Ok.ensures.answers,
      then_taken _ _ _ (program_at c.args.program.now) _ (c.args.count - c.loop-turn._turn) left s w c.loop-turn.invariant.0 fewer c.loop-turn.invariant.1
          c.in-Ok.ensures.puts,
    )

pub returns-clause-puts : goal.returns-clause-puts
returns-clause-puts g c =
    let handles = handle depth_alone (program_at c.args.program.now) in
    let s = state c.loop-turn.play.run in
    let w = world c.loop-turn.play.run in
    let none : c.args.count - c.loop-turn._turn ≡ 0 = omega (arith, c.loop-turn-test.false) in
    then_same _ _ _ _ _ (c.loop-turn.invariant.0 ∙ ap (λ n. idles n handles s w) none) c.loop-turn.invariant.1 c.take-2.ensures.puts
