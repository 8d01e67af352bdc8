use Rattle.std.proofs.Common.{◌≡◌, ℕ, ◌+◌, ◌-◌, drop, sym, ap, ◌∙◌, subst, arith}
use Rattle.std.specs.Prelude.{Err}
use Rattle.std.proofs.Math.ListN.{drop_of_length-le}
use Rattle.vg_meaning.specs.Answer.{Piece, OutOfClock, over, and_then}
use Rattle.vg_meaning.specs.Code.{If, Nothing}
use Rattle.vg_meaning_laws.proofs.Grows.{grows_over}
use Rattle.vg_meaning.specs.Calls.{closed}
use Rattle.vg_meaning.specs.History.{depth_alone}
use Rattle.vg_meaning.specs.Loops.{Tested, turned, turns, where_holds}
use Rattle.vg_core.specs.HeldProgram.{body_at, code_of, code_chain, code_row, program_at}
use Rattle.vg_core.specs.State.{State}
use Rattle.vg_core.specs.Meaning as meaning
use Rattle.vg_core.specs.Meaning.{truth}
use Rattle.vg_interp_run.specs.Exits.{Comes, Exits}
use Rattle.vg_interp_run.specs.Run.{state, world}
use Rattle.vg_interp.specs.Running.{calling, does, opens, Chooses}
use Rattle.vg_interp.specs.Weights.{arm_then, arms_list}
use Rattle.vg_interp.proofs.Rows.{row_same, chain_same, arms_same, parts_then, none_then}
use Rattle.vg_interp.proofs.Outgoing.{grows_one, grows_opens, grows_rest, of_body, of_condition, of_first, of_same, of_start, of_then}
use Rattle.vg_interp.proofs.Outgoing.{then_opened, then_same}
use Rattle.vg_interp.proofs.Outgoing.{arm_goes, arm_skips, arms_at, chain_at, row_at, then_in_chain, then_in_row}
use Rattle.vg_interp.proofs.Outgoing.{ticked_is, turn_before, turn_in_body, turn_onward}
use Rattle.vg_interp.proofs.Turns.{turn_of, turns_on, turns_end, arm_over, call_is, chosen, not_chosen, open_is, exits_on}
use Rattle.vg_interp.proofs.execution.+exec.Goals as goal

pub exec-returns-in-Row-clause-answers : goal.exec-returns-in-Row-clause-answers
exec-returns-in-Row-clause-answers g t c =
    subst (λ z. Comes c.row.result c.row.new.play.run
    (does (program_at c.args.program.now) c.args.most z (state c.args.play.now.run) (world c.args.play.now.run)))
    (sym (row_same c.args.code.now c.in-Row.codes c.as_slice.result.now c.in-Row.is c.as_slice.ensures.value)) c.row.ensures.answers

pub exec-returns-in-Chain-clause-answers : goal.exec-returns-in-Chain-clause-answers
exec-returns-in-Chain-clause-answers g t c =
    subst (λ z. Comes c.chain.result c.chain.new.play.run
    (does (program_at c.args.program.now) c.args.most z (state c.args.play.now.run) (world c.args.play.now.run)))
    (sym (chain_same c.args.code.now c.in-Chain.codes c.as_slice-in-Chain.result.now c.in-Chain.is c.as_slice-in-Chain.ensures.value)) c.chain.ensures.answers

pub exec-returns-in-Arms-clause-answers : goal.exec-returns-in-Arms-clause-answers
exec-returns-in-Arms-clause-answers g t c =
    subst (λ z. Comes c.arms.result c.arms.new.play.run
    (does (program_at c.args.program.now) c.args.most z (state c.args.play.now.run) (world c.args.play.now.run)))
    (sym (arms_same c.args.code.now c.in-Arms.all c.in-Arms.last c.as_slice-in-Arms.result.now c.deref-in-Arms.result.now c.in-Arms.is
    c.as_slice-in-Arms.ensures.value c.deref-in-Arms.ensures)) c.arms.ensures.answers

pub call_target-returns-clause-answers : goal.call_target-returns-clause-answers
call_target-returns-clause-answers g t c =
    subst (Comes c.find.result c.find.new.play.run)
    (sym (call_is (program_at c.args.program.now) c.args.most c.args.call.target c.args.call.count c.args.call.receiver (state c.args.play.now.run) (world c.args.play.now.run) c.if-most-eq0.false))
    c.find.ensures.answers

pub perform_call-returns-in-Ok-clause-answers : goal.perform_call-returns-in-Ok-clause-answers
perform_call-returns-in-Ok-clause-answers g t c =
    let caller = calling (program_at c.args.program.now) c.args.most in
    subst (λ x. Comes c.call_target.result c.call_target.new.play.run
    (meaning.step c.args.program.now.tables caller x (state c.args.play.now.run) (world c.args.play.now.run))) (sym c.in-CallMethod.is)
    (subst (Comes c.call_target.result c.call_target.new.play.run) (sym (c.in-Ok.ensures.calls caller)) c.call_target.ensures.answers)

pub perform_call-returns-in-Err-clause-answers : goal.perform_call-returns-in-Err-clause-answers
perform_call-returns-in-Err-clause-answers g t c =
    let caller = calling (program_at c.args.program.now) c.args.most in
    subst (λ x. Comes {A = Unit {0}} (Err c.in-Err.why) c.method_call.new.run
    (meaning.step c.args.program.now.tables caller x (state c.args.play.now.run) (world c.args.play.now.run))) (sym c.in-CallMethod.is)
    (c.in-Err.ensures.calls caller)

pub perform_call-returns-in-Ok-value_call-clause-answers : goal.perform_call-returns-in-Ok-value_call-clause-answers
perform_call-returns-in-Ok-value_call-clause-answers g t c =
    let caller = calling (program_at c.args.program.now) c.args.most in
    subst (λ x. Comes c.call_target-in-Ok-value_call.result c.call_target-in-Ok-value_call.new.play.run
    (meaning.step c.args.program.now.tables caller x (state c.args.play.now.run) (world c.args.play.now.run))) (sym c.in-CallValue.is)
    (subst (Comes c.call_target-in-Ok-value_call.result c.call_target-in-Ok-value_call.new.play.run) (sym (c.in-Ok-value_call.ensures.calls caller)) c.call_target-in-Ok-value_call.ensures.answers)

pub perform_call-returns-in-Err-value_call-clause-answers : goal.perform_call-returns-in-Err-value_call-clause-answers
perform_call-returns-in-Err-value_call-clause-answers g t c =
    let caller = calling (program_at c.args.program.now) c.args.most in
    subst (λ x. Comes {A = Unit {0}} (Err c.in-Err-value_call.why) c.value_call.new.run
    (meaning.step c.args.program.now.tables caller x (state c.args.play.now.run) (world c.args.play.now.run))) (sym c.in-CallValue.is)
    (c.in-Err-value_call.ensures.calls caller)

pub construct-returns-in-Ok-clause-answers : goal.construct-returns-in-Ok-clause-answers
construct-returns-in-Ok-clause-answers g t c =
    let go : ℕ → Piece State ℕ = meaning.constructing (calling (program_at c.args.program.now) c.args.most) c.args.class c.args.count in
    subst (Comes c.build.result c.build.new.play.run) (sym (c.in-Ok.ensures.makes go)) c.build.ensures.answers

pub construct-returns-in-Err-clause-answers : goal.construct-returns-in-Err-clause-answers
construct-returns-in-Err-clause-answers g t c =
    let go : ℕ → Piece State ℕ = meaning.constructing (calling (program_at c.args.program.now) c.args.most) c.args.class c.args.count in
    c.in-Err.ensures.makes go

pub repeat-returns-in-Err-clause-answers : goal.repeat-returns-in-Err-clause-answers
repeat-returns-in-Err-clause-answers g t c =
    let p = program_at c.args.program.now in
    let test : Piece State ℕ → Piece State ℕ = where_holds (does p c.args.most (code_of c.args.condition.now)) truth in
    let body : Piece State ℕ = does p c.args.most (code_of c.args.body.now) in
    let next : Piece State ℕ = does p c.args.most (code_of c.args.next.now) in
    let s = state c.args.play.now.run in
    let w = world c.args.play.now.run in
    let all : turns depth_alone w.clock test body next s w ≡ turns depth_alone c.clock-all.result test body next s w =
    ap (λ n. turns depth_alone n test body next s w) (sym c.clock-all.ensures) in
    let left = c.clock-all.result - (c.loop-turn._turn + 1) in
    let rest : Piece State ℕ = turns depth_alone left test body next in
    let fewer : c.clock-all.result - c.loop-turn._turn ≡ left + 1 = omega (arith, c.loop-turn-test.true) in
    let start = all ∙ c.loop-turn.invariant.0 ∙ turns_on (c.clock-all.result - c.loop-turn._turn) left test body next (state c.loop-turn.play.run) (world c.loop-turn.play.run) fewer in
    subst (Exits c.in-Err.why c.holds.new.play.run) (sym start) (c.in-Err.ensures.answers (turn_of body next rest))

pub repeat-returns-then-not-goes-clause-answers : goal.repeat-returns-then-not-goes-clause-answers
repeat-returns-then-not-goes-clause-answers g t c =
    let p = program_at c.args.program.now in
    let test : Piece State ℕ → Piece State ℕ = where_holds (does p c.args.most (code_of c.args.condition.now)) truth in
    let body : Piece State ℕ = does p c.args.most (code_of c.args.body.now) in
    let next : Piece State ℕ = does p c.args.most (code_of c.args.next.now) in
    let s = state c.args.play.now.run in
    let w = world c.args.play.now.run in
    let all : turns depth_alone w.clock test body next s w ≡ turns depth_alone c.clock-all.result test body next s w =
    ap (λ n. turns depth_alone n test body next s w) (sym c.clock-all.ensures) in
    let left = c.clock-all.result - (c.loop-turn._turn + 1) in
    let rest : Piece State ℕ = turns depth_alone left test body next in
    let fewer : c.clock-all.result - c.loop-turn._turn ≡ left + 1 = omega (arith, c.loop-turn-test.true) in
    let start = all ∙ c.loop-turn.invariant.0 ∙ turns_on (c.clock-all.result - c.loop-turn._turn) left test body next (state c.loop-turn.play.run) (world c.loop-turn.play.run) fewer in
    start ∙ not_chosen c.in-Ok.goes (turn_of body next rest) c.holds.new.play.run
    (test (turn_of body next rest) (state c.loop-turn.play.run) (world c.loop-turn.play.run)) c.if-not-goes.true (c.in-Ok.ensures.answers (turn_of body next rest))

pub repeat-returns-in-Err-turn-clause-answers : goal.repeat-returns-in-Err-turn-clause-answers
repeat-returns-in-Err-turn-clause-answers g t c =
    let p = program_at c.args.program.now in
    let test : Piece State ℕ → Piece State ℕ = where_holds (does p c.args.most (code_of c.args.condition.now)) truth in
    let body : Piece State ℕ = does p c.args.most (code_of c.args.body.now) in
    let next : Piece State ℕ = does p c.args.most (code_of c.args.next.now) in
    let s = state c.args.play.now.run in
    let w = world c.args.play.now.run in
    let all : turns depth_alone w.clock test body next s w ≡ turns depth_alone c.clock-all.result test body next s w =
    ap (λ n. turns depth_alone n test body next s w) (sym c.clock-all.ensures) in
    let left = c.clock-all.result - (c.loop-turn._turn + 1) in
    let rest : Piece State ℕ = turns depth_alone left test body next in
    let fewer : c.clock-all.result - c.loop-turn._turn ≡ left + 1 = omega (arith, c.loop-turn-test.true) in
    let start = all ∙ c.loop-turn.invariant.0 ∙ turns_on (c.clock-all.result - c.loop-turn._turn) left test body next (state c.loop-turn.play.run) (world c.loop-turn.play.run) fewer in
    let went = start ∙ chosen c.in-Ok.goes (turn_of body next rest) c.holds.new.play.run
    (test (turn_of body next rest) (state c.loop-turn.play.run) (world c.loop-turn.play.run)) c.if-not-goes.false (c.in-Ok.ensures.answers (turn_of body next rest)) in
    subst (Exits c.in-Err-turn.why c.turn.new.play.run) (sym went) (c.in-Err-turn.ensures.answers rest)

pub repeat-returns-then-not-stays-clause-answers : goal.repeat-returns-then-not-stays-clause-answers
repeat-returns-then-not-stays-clause-answers g t c =
    let p = program_at c.args.program.now in
    let test : Piece State ℕ → Piece State ℕ = where_holds (does p c.args.most (code_of c.args.condition.now)) truth in
    let body : Piece State ℕ = does p c.args.most (code_of c.args.body.now) in
    let next : Piece State ℕ = does p c.args.most (code_of c.args.next.now) in
    let s = state c.args.play.now.run in
    let w = world c.args.play.now.run in
    let all : turns depth_alone w.clock test body next s w ≡ turns depth_alone c.clock-all.result test body next s w =
    ap (λ n. turns depth_alone n test body next s w) (sym c.clock-all.ensures) in
    let left = c.clock-all.result - (c.loop-turn._turn + 1) in
    let rest : Piece State ℕ = turns depth_alone left test body next in
    let fewer : c.clock-all.result - c.loop-turn._turn ≡ left + 1 = omega (arith, c.loop-turn-test.true) in
    let start = all ∙ c.loop-turn.invariant.0 ∙ turns_on (c.clock-all.result - c.loop-turn._turn) left test body next (state c.loop-turn.play.run) (world c.loop-turn.play.run) fewer in
    let went = start ∙ chosen c.in-Ok.goes (turn_of body next rest) c.holds.new.play.run
    (test (turn_of body next rest) (state c.loop-turn.play.run) (world c.loop-turn.play.run)) c.if-not-goes.false (c.in-Ok.ensures.answers (turn_of body next rest)) in
    went ∙ not_chosen c.in-Ok-turn.stays rest c.turn.new.play.run
    (turn_of body next rest (state c.holds.new.play.run) (world c.holds.new.play.run)) c.if-not-stays.true (c.in-Ok-turn.ensures.answers rest)

pub repeat-loop-turn-preserved : goal.repeat-loop-turn-preserved
repeat-loop-turn-preserved g t c =
    let p = program_at c.args.program.now in
    let n = c.args.most in
    let test : Piece State ℕ → Piece State ℕ = where_holds (does p n (code_of c.args.condition.now)) truth in
    let body : Piece State ℕ = does p n (code_of c.args.body.now) in
    let next : Piece State ℕ = does p n (code_of c.args.next.now) in
    let s = state c.args.play.now.run in
    let w = world c.args.play.now.run in
    let sl = state c.loop-turn.play.run in
    let wl = world c.loop-turn.play.run in
    let all : turns depth_alone w.clock test body next s w ≡ turns depth_alone c.clock-all.result test body next s w =
    ap (λ k. turns depth_alone k test body next s w) (sym c.clock-all.ensures) in
    let left = c.clock-all.result - (c.loop-turn._turn + 1) in
    let rest : Piece State ℕ = turns depth_alone left test body next in
    let fewer : c.clock-all.result - c.loop-turn._turn ≡ left + 1 = omega (arith, c.loop-turn-test.true) in
    let start = c.loop-turn.invariant.0 ∙ turns_on (c.clock-all.result - c.loop-turn._turn) left test body next sl wl fewer in
    let one = grows_one p n (code_of c.args.condition.now) (code_of c.args.body.now) (code_of c.args.next.now) rest
    (grows_rest p n (code_of c.args.condition.now) (code_of c.args.body.now) (code_of c.args.next.now) left) in
    let first = then_same _ _ _ _ _ start c.loop-turn.invariant.2 (c.in-Ok.ensures.puts (turn_of body next rest) one) in
    let went = start ∙ chosen c.in-Ok.goes (turn_of body next rest) c.holds.new.play.run (test (turn_of body next rest) sl wl) c.if-not-goes.false
    (c.in-Ok.ensures.answers (turn_of body next rest)) in
    let more = grows_rest p n (code_of c.args.condition.now) (code_of c.args.body.now) (code_of c.args.next.now) left in
    let onward = went ∙ chosen c.in-Ok-turn.stays rest c.turn.new.play.run (turn_of body next rest (state c.holds.new.play.run) (world c.holds.new.play.run))
    c.if-not-stays.false (c.in-Ok-turn.ensures.answers rest) in
    (onward, c.in-Ok-turn.ensures.kept ∙ c.in-Ok.ensures.kept ∙ c.loop-turn.invariant.1, then_same _ _ _ _ _ went first (c.in-Ok-turn.ensures.puts rest more))

pub repeat-returns-in-Err-holds-clause-answers : goal.repeat-returns-in-Err-holds-clause-answers
repeat-returns-in-Err-holds-clause-answers g t c =
    let p = program_at c.args.program.now in
    let test : Piece State ℕ → Piece State ℕ = where_holds (does p c.args.most (code_of c.args.condition.now)) truth in
    let body : Piece State ℕ = does p c.args.most (code_of c.args.body.now) in
    let next : Piece State ℕ = does p c.args.most (code_of c.args.next.now) in
    let s = state c.args.play.now.run in
    let w = world c.args.play.now.run in
    let all : turns depth_alone w.clock test body next s w ≡ turns depth_alone c.clock-all.result test body next s w =
    ap (λ n. turns depth_alone n test body next s w) (sym c.clock-all.ensures) in
    let none : c.clock-all.result - c.loop-turn._turn ≡ 0 = omega (arith, c.loop-turn-test.false) in
    let start = all ∙ c.loop-turn.invariant.0 ∙ turns_end (c.clock-all.result - c.loop-turn._turn) test body next (state c.loop-turn.play.run) (world c.loop-turn.play.run) none in
    subst (Exits c.in-Err-holds.why c.holds-2.new.play.run) (sym start) (c.in-Err-holds.ensures.answers (over OutOfClock))

pub repeat-returns-then-goes-clause-answers : goal.repeat-returns-then-goes-clause-answers
repeat-returns-then-goes-clause-answers g t c =
    let p = program_at c.args.program.now in
    let test : Piece State ℕ → Piece State ℕ = where_holds (does p c.args.most (code_of c.args.condition.now)) truth in
    let body : Piece State ℕ = does p c.args.most (code_of c.args.body.now) in
    let next : Piece State ℕ = does p c.args.most (code_of c.args.next.now) in
    let s = state c.args.play.now.run in
    let w = world c.args.play.now.run in
    let all : turns depth_alone w.clock test body next s w ≡ turns depth_alone c.clock-all.result test body next s w =
    ap (λ n. turns depth_alone n test body next s w) (sym c.clock-all.ensures) in
    let none : c.clock-all.result - c.loop-turn._turn ≡ 0 = omega (arith, c.loop-turn-test.false) in
    let start = all ∙ c.loop-turn.invariant.0 ∙ turns_end (c.clock-all.result - c.loop-turn._turn) test body next (state c.loop-turn.play.run) (world c.loop-turn.play.run) none in
    start ∙ chosen c.in-Ok-holds.goes (over OutOfClock) c.holds-2.new.play.run
    (test (over OutOfClock) (state c.loop-turn.play.run) (world c.loop-turn.play.run)) c.if-goes.true (c.in-Ok-holds.ensures.answers (over OutOfClock))

pub repeat-returns-else-goes-clause-answers : goal.repeat-returns-else-goes-clause-answers
repeat-returns-else-goes-clause-answers g t c =
    let p = program_at c.args.program.now in
    let test : Piece State ℕ → Piece State ℕ = where_holds (does p c.args.most (code_of c.args.condition.now)) truth in
    let body : Piece State ℕ = does p c.args.most (code_of c.args.body.now) in
    let next : Piece State ℕ = does p c.args.most (code_of c.args.next.now) in
    let s = state c.args.play.now.run in
    let w = world c.args.play.now.run in
    let all : turns depth_alone w.clock test body next s w ≡ turns depth_alone c.clock-all.result test body next s w =
    ap (λ n. turns depth_alone n test body next s w) (sym c.clock-all.ensures) in
    let none : c.clock-all.result - c.loop-turn._turn ≡ 0 = omega (arith, c.loop-turn-test.false) in
    let start = all ∙ c.loop-turn.invariant.0 ∙ turns_end (c.clock-all.result - c.loop-turn._turn) test body next (state c.loop-turn.play.run) (world c.loop-turn.play.run) none in
    start ∙ not_chosen c.in-Ok-holds.goes (over OutOfClock) c.holds-2.new.play.run
    (test (over OutOfClock) (state c.loop-turn.play.run) (world c.loop-turn.play.run)) c.if-goes.false (c.in-Ok-holds.ensures.answers (over OutOfClock))

pub open-returns-in-Err-clause-answers : goal.open-returns-in-Err-clause-answers
open-returns-in-Err-clause-answers g t c =
    let p = program_at c.args.program.now in
    let r = c.offer.new.self.run in
    let call = c.args.call in
    let checks = sym c.has_arguments.ensures.same ∙ c.if-not-has_arguments.false in
    let e = open_is p (c.args.most - 1) call.target c.args.params.now c.args.result_type (body_at c.args.body.now) call.count call.receiver (state r) (world r)
    c.open.new.self checks c.in_ok-open.ensures.0.0 c.in_ok-open.ensures.0.1 c.in_ok-open.ensures.1 in
    subst (λ x. Exits c.in-Err.why c.run_body.new.play.run (opens p (c.args.most - 1) call.target c.args.params.now c.args.result_type (body_at c.args.body.now) call.count call.receiver (state x) (world x)))
    c.in_ok-offer.ensures.run
    (subst (Exits c.in-Err.why c.run_body.new.play.run) (sym e)
    (exits_on c.in-Err.why c.run_body.new.play.run _ (closed depth_alone) c.in-Err.ensures.answers))

pub exec-returns-in-Row-clause-puts : goal.exec-returns-in-Row-clause-puts
exec-returns-in-Row-clause-puts g t c =
    let p = program_at c.args.program.now in
    let s = state c.args.play.now.run in
    let w = world c.args.play.now.run in
    of_same _ _ _ _ (ap (λ z. does p c.args.most z s w) (row_same c.args.code.now c.in-Row.codes c.as_slice.result.now c.in-Row.is c.as_slice.ensures.value)) c.row.ensures.puts

pub exec-returns-in-Chain-clause-puts : goal.exec-returns-in-Chain-clause-puts
exec-returns-in-Chain-clause-puts g t c =
    let p = program_at c.args.program.now in
    let s = state c.args.play.now.run in
    let w = world c.args.play.now.run in
    of_same _ _ _ _ (ap (λ z. does p c.args.most z s w) (chain_same c.args.code.now c.in-Chain.codes c.as_slice-in-Chain.result.now c.in-Chain.is c.as_slice-in-Chain.ensures.value)) c.chain.ensures.puts

pub exec-returns-in-Arms-clause-puts : goal.exec-returns-in-Arms-clause-puts
exec-returns-in-Arms-clause-puts g t c =
    let p = program_at c.args.program.now in
    let s = state c.args.play.now.run in
    let w = world c.args.play.now.run in
    of_same _ _ _ _ (ap (λ z. does p c.args.most z s w) (arms_same c.args.code.now c.in-Arms.all c.in-Arms.last c.as_slice-in-Arms.result.now c.deref-in-Arms.result.now c.in-Arms.is
    c.as_slice-in-Arms.ensures.value c.deref-in-Arms.ensures)) c.arms.ensures.puts

pub row-returns-in_err-part-clause-puts : goal.row-returns-in_err-part-clause-puts
row-returns-in_err-part-clause-puts g t c =
    let p = program_at c.args.program.now in
    then_in_row p c.args.most c.args.codes.now c.loop-code.code-index c.code-item.result c.loop-code-test.true c.code-item.is (state c.loop-code.play.run)
    (world c.loop-code.play.run) _ _ _ _ c.loop-code.invariant.2 c.in_err-part.ensures.puts c.loop-code.invariant.0

pub row-loop-code-preserved : goal.row-loop-code-preserved
row-loop-code-preserved g t c =
    let p = program_at c.args.program.now in
    let s = state c.loop-code.play.run in
    let w = world c.loop-code.play.run in
    let n = c.args.most in
    let codes = c.args.codes.now in
    let i = c.loop-code.code-index in (
      c.loop-code.invariant.0 ∙ row_at p n codes i c.code-item.result c.loop-code-test.true c.code-item.is s w
          ∙ ap (λ a. and_then a (does p n (code_row (drop (i + 1) codes)))) c.in_ok-part.ensures.answers,
      c.in_ok-part.ensures.kept ∙ c.loop-code.invariant.1,
      then_in_row p n codes i c.code-item.result c.loop-code-test.true c.code-item.is s w _ _ _ _ c.loop-code.invariant.2 c.in_ok-part.ensures.puts
          c.loop-code.invariant.0,
    )

pub chain-returns-in_err-part-clause-puts : goal.chain-returns-in_err-part-clause-puts
chain-returns-in_err-part-clause-puts g t c =
    let p = program_at c.args.program.now in
    then_in_chain p c.args.most c.args.codes.now c.loop-code.code-index c.code-item.result c.loop-code-test.true c.code-item.is (state c.loop-code.play.run)
    (world c.loop-code.play.run) _ _ _ _ c.loop-code.invariant.2 c.in_err-part.ensures.puts c.loop-code.invariant.0

pub chain-loop-code-preserved : goal.chain-loop-code-preserved
chain-loop-code-preserved g t c =
    let p = program_at c.args.program.now in
    let s = state c.loop-code.play.run in
    let w = world c.loop-code.play.run in
    let n = c.args.most in
    let codes = c.args.codes.now in
    let i = c.loop-code.code-index in (
      c.loop-code.invariant.0 ∙ chain_at p n codes i c.code-item.result c.loop-code-test.true c.code-item.is s w
          ∙ ap (λ a. and_then a (does p n (code_chain (drop (i + 1) codes)))) c.in_ok-part.ensures.answers,
      c.in_ok-part.ensures.kept ∙ c.loop-code.invariant.1,
      then_in_chain p n codes i c.code-item.result c.loop-code-test.true c.code-item.is s w _ _ _ _ c.loop-code.invariant.2 c.in_ok-part.ensures.puts
          c.loop-code.invariant.0,
    )

pub arm_fails-returns-in-Ok-clause-answers : goal.arm_fails-returns-in-Ok-clause-answers
arm_fails-returns-in-Ok-clause-answers g t c =
    λ rest.
    let p = program_at c.args.program.now in
    let n = c.args.most in
    let s = state c.args.play.now.run in
    let w = world c.args.play.now.run in
    let condition = code_of c.args.condition.now in
    let block = code_of c.args.block.now in
    let holds = c.in_ok-test.ensures.tests ∙ ap (λ b. Tested b (state c.test.new.run)) c.if-branch.true in
    let goes = arm_goes p n condition block rest s (state c.exec.new.play.run) (state c.test.new.run) w (world c.exec.new.play.run) (world c.test.new.run)
    c.in_ok-exec.ensures.answers c.in_ok-test.ensures.world holds in
    goes ∙ c.in-Ok.ensures.answers

pub arm_fails-returns-in-Err-clause-answers : goal.arm_fails-returns-in-Err-clause-answers
arm_fails-returns-in-Err-clause-answers g t c =
    λ rest.
    let p = program_at c.args.program.now in
    let n = c.args.most in
    let s = state c.args.play.now.run in
    let w = world c.args.play.now.run in
    let condition = code_of c.args.condition.now in
    let block = code_of c.args.block.now in
    let holds = c.in_ok-test.ensures.tests ∙ ap (λ b. Tested b (state c.test.new.run)) c.if-branch.true in
    let goes = arm_goes p n condition block rest s (state c.exec.new.play.run) (state c.test.new.run) w (world c.exec.new.play.run) (world c.test.new.run)
    c.in_ok-exec.ensures.answers c.in_ok-test.ensures.world holds in
    subst (Exits c.in-Err.why c.exec-then-branch.new.play.run) (sym goes) c.in-Err.ensures.answers

pub arm_fails-returns-else-branch-clause-answers : goal.arm_fails-returns-else-branch-clause-answers
arm_fails-returns-else-branch-clause-answers g t c =
    λ rest.
    let p = program_at c.args.program.now in
    let n = c.args.most in
    let s = state c.args.play.now.run in
    let w = world c.args.play.now.run in
    let condition = code_of c.args.condition.now in
    let block = code_of c.args.block.now in
    let fails = c.in_ok-test.ensures.tests ∙ ap (λ b. Tested b (state c.test.new.run)) c.if-branch.false in
    arm_skips p n condition block rest s (state c.exec.new.play.run) (state c.test.new.run) w (world c.exec.new.play.run) (world c.test.new.run)
    c.in_ok-exec.ensures.answers c.in_ok-test.ensures.world fails

pub arm_fails-returns-in_err-exec-clause-puts : goal.arm_fails-returns-in_err-exec-clause-puts
arm_fails-returns-in_err-exec-clause-puts g t c =
    λ rest.
    let p = program_at c.args.program.now in
    let n = c.args.most in
    let s = state c.args.play.now.run in
    let w = world c.args.play.now.run in
    let condition = code_of c.args.condition.now in
    let block = code_of c.args.block.now in
    of_then _ _ p n condition (If block rest) s w c.in_err-exec.ensures.puts

pub arm_fails-returns-in_err-test-clause-puts : goal.arm_fails-returns-in_err-test-clause-puts
arm_fails-returns-in_err-test-clause-puts g t c =
    λ rest.
    let p = program_at c.args.program.now in
    let n = c.args.most in
    let s = state c.args.play.now.run in
    let w = world c.args.play.now.run in
    let condition = code_of c.args.condition.now in
    let block = code_of c.args.block.now in
    of_then _ _ p n condition (If block rest) s w c.in_ok-exec.ensures.puts

pub arm_fails-returns-else-branch-clause-puts : goal.arm_fails-returns-else-branch-clause-puts
arm_fails-returns-else-branch-clause-puts g t c =
    λ rest.
    let p = program_at c.args.program.now in
    let n = c.args.most in
    let s = state c.args.play.now.run in
    let w = world c.args.play.now.run in
    let condition = code_of c.args.condition.now in
    let block = code_of c.args.block.now in
    of_then _ _ p n condition (If block rest) s w c.in_ok-exec.ensures.puts

pub arm_fails-returns-in-Ok-clause-puts : goal.arm_fails-returns-in-Ok-clause-puts
arm_fails-returns-in-Ok-clause-puts g t c =
    λ rest.
    let p = program_at c.args.program.now in
    let n = c.args.most in
    let s = state c.args.play.now.run in
    let w = world c.args.play.now.run in
    let condition = code_of c.args.condition.now in
    let block = code_of c.args.block.now in
    let holds = c.in_ok-test.ensures.tests ∙ ap (λ b. Tested b (state c.test.new.run)) c.if-branch.true in
    let goes = arm_goes p n condition block rest s (state c.exec.new.play.run) (state c.test.new.run) w (world c.exec.new.play.run) (world c.test.new.run)
    c.in_ok-exec.ensures.answers c.in_ok-test.ensures.world holds in
    then_same _ _ _ _ _ goes (of_then _ _ p n condition (If block rest) s w c.in_ok-exec.ensures.puts) c.in-Ok.ensures.puts

pub arm_fails-returns-in-Err-clause-puts : goal.arm_fails-returns-in-Err-clause-puts
arm_fails-returns-in-Err-clause-puts g t c =
    λ rest.
    let p = program_at c.args.program.now in
    let n = c.args.most in
    let s = state c.args.play.now.run in
    let w = world c.args.play.now.run in
    let condition = code_of c.args.condition.now in
    let block = code_of c.args.block.now in
    let holds = c.in_ok-test.ensures.tests ∙ ap (λ b. Tested b (state c.test.new.run)) c.if-branch.true in
    let goes = arm_goes p n condition block rest s (state c.exec.new.play.run) (state c.test.new.run) w (world c.exec.new.play.run) (world c.test.new.run)
    c.in_ok-exec.ensures.answers c.in_ok-test.ensures.world holds in
    then_same _ _ _ _ _ goes (of_then _ _ p n condition (If block rest) s w c.in_ok-exec.ensures.puts) c.in-Err.ensures.puts

pub arm-returns-in-Ok-clause-answers : goal.arm-returns-in-Ok-clause-answers
arm-returns-in-Ok-clause-answers g t c =
    arm_over c.in-Ok._fails (program_at c.args.program.now) c.args.most c.arm_fails.new.play.run _ (c.in-Ok.ensures.answers Nothing)

pub arm-returns-in-Err-clause-answers : goal.arm-returns-in-Err-clause-answers
arm-returns-in-Err-clause-answers g t c =
    c.in-Err.ensures.answers Nothing

pub arm-returns-in-Ok-clause-puts : goal.arm-returns-in-Ok-clause-puts
arm-returns-in-Ok-clause-puts g t c =
    c.in-Ok.ensures.puts Nothing

pub arm-returns-in-Err-clause-puts : goal.arm-returns-in-Err-clause-puts
arm-returns-in-Err-clause-puts g t c =
    c.in-Err.ensures.puts Nothing

pub fails-returns-in-Some-clause-answers : goal.fails-returns-in-Some-clause-answers
fails-returns-in-Some-clause-answers g t c =
    λ rest.
    let p = program_at c.args.program.now in
    let n = c.args.most in
    let s = state c.args.play.now.run in
    let w = world c.args.play.now.run in
    let is = ap (λ z. does p n z s w) (parts_then c.args.code.now c.in-Some.parts.0.now c.in-Some.parts.1.now rest c.in-Some.ensures) in
    subst (Chooses c.arm_fails.result (does p n rest) c.arm_fails.new.play.run) (sym is) (c.arm_fails.ensures.answers rest)

pub fails-returns-in-Some-clause-puts : goal.fails-returns-in-Some-clause-puts
fails-returns-in-Some-clause-puts g t c =
    λ rest.
    let p = program_at c.args.program.now in
    let n = c.args.most in
    let s = state c.args.play.now.run in
    let w = world c.args.play.now.run in
    let is = ap (λ z. does p n z s w) (parts_then c.args.code.now c.in-Some.parts.0.now c.in-Some.parts.1.now rest c.in-Some.ensures) in
    of_same _ _ _ _ is (c.arm_fails.ensures.puts rest)

pub fails-returns-in-Ok-clause-answers : goal.fails-returns-in-Ok-clause-answers
fails-returns-in-Ok-clause-answers g t c =
    λ rest.
    let p = program_at c.args.program.now in
    let n = c.args.most in
    let s = state c.args.play.now.run in
    let w = world c.args.play.now.run in
    let is = ap (λ z. does p n z s w) (none_then c.args.code.now rest c.in-None.ensures) in
    is ∙ ap (λ a. and_then a (does p n rest)) c.in-Ok.ensures.answers

pub fails-returns-in-Err-clause-answers : goal.fails-returns-in-Err-clause-answers
fails-returns-in-Err-clause-answers g t c =
    λ rest.
    let p = program_at c.args.program.now in
    let n = c.args.most in
    let s = state c.args.play.now.run in
    let w = world c.args.play.now.run in
    let is = ap (λ z. does p n z s w) (none_then c.args.code.now rest c.in-None.ensures) in
    subst (Exits c.in-Err.why c.exec.new.play.run) (sym is)
    (exits_on c.in-Err.why c.exec.new.play.run (does p n (code_of c.args.code.now) s w) (does p n rest) c.in-Err.ensures.answers)

pub fails-returns-in-Ok-clause-puts : goal.fails-returns-in-Ok-clause-puts
fails-returns-in-Ok-clause-puts g t c =
    λ rest.
    let p = program_at c.args.program.now in
    let n = c.args.most in
    let s = state c.args.play.now.run in
    let w = world c.args.play.now.run in
    let is = ap (λ z. does p n z s w) (none_then c.args.code.now rest c.in-None.ensures) in
    of_same _ _ _ _ is (of_then _ _ p n (code_of c.args.code.now) rest s w c.in-Ok.ensures.puts)

pub fails-returns-in-Err-clause-puts : goal.fails-returns-in-Err-clause-puts
fails-returns-in-Err-clause-puts g t c =
    λ rest.
    let p = program_at c.args.program.now in
    let n = c.args.most in
    let s = state c.args.play.now.run in
    let w = world c.args.play.now.run in
    let is = ap (λ z. does p n z s w) (none_then c.args.code.now rest c.in-None.ensures) in
    of_same _ _ _ _ is (of_then _ _ p n (code_of c.args.code.now) rest s w c.in-Err.ensures.puts)

pub arms-returns-in-Err-clause-answers : goal.arms-returns-in-Err-clause-answers
arms-returns-in-Err-clause-answers g t c =
    let p = program_at c.args.program.now in
    let n = c.args.most in
    let last = code_of c.args.last.now in
    let s = state c.loop-code.play.run in
    let w = world c.loop-code.play.run in
    let rest = arms_list (drop (c.loop-code.code-index + 1) c.args.all.now) last in
    let start = c.loop-code.invariant.0 ∙ arms_at p n c.args.all.now last c.loop-code.code-index c.code-item.result c.loop-code-test.true c.code-item.is s w in
    subst (Exits c.in-Err.why c.fails.new.play.run) (sym start) (c.in-Err.ensures.answers rest)

pub arms-returns-in-Err-clause-puts : goal.arms-returns-in-Err-clause-puts
arms-returns-in-Err-clause-puts g t c =
    let p = program_at c.args.program.now in
    let n = c.args.most in
    let last = code_of c.args.last.now in
    let s = state c.loop-code.play.run in
    let w = world c.loop-code.play.run in
    let rest = arms_list (drop (c.loop-code.code-index + 1) c.args.all.now) last in
    let start = c.loop-code.invariant.0 ∙ arms_at p n c.args.all.now last c.loop-code.code-index c.code-item.result c.loop-code-test.true c.code-item.is s w in
    then_same _ _ _ _ _ start c.loop-code.invariant.2 (c.in-Err.ensures.puts rest)

pub arms-returns-then-not-goes-clause-answers : goal.arms-returns-then-not-goes-clause-answers
arms-returns-then-not-goes-clause-answers g t c =
    let p = program_at c.args.program.now in
    let n = c.args.most in
    let last = code_of c.args.last.now in
    let s = state c.loop-code.play.run in
    let w = world c.loop-code.play.run in
    let rest = arms_list (drop (c.loop-code.code-index + 1) c.args.all.now) last in
    let start = c.loop-code.invariant.0 ∙ arms_at p n c.args.all.now last c.loop-code.code-index c.code-item.result c.loop-code-test.true c.code-item.is s w in
    start ∙ not_chosen c.in-Ok.goes (does p n rest) c.fails.new.play.run (does p n (arm_then c.code-item.result rest) s w) c.if-not-goes.true (c.in-Ok.ensures.answers rest)

pub arms-returns-then-not-goes-clause-puts : goal.arms-returns-then-not-goes-clause-puts
arms-returns-then-not-goes-clause-puts g t c =
    let p = program_at c.args.program.now in
    let n = c.args.most in
    let last = code_of c.args.last.now in
    let s = state c.loop-code.play.run in
    let w = world c.loop-code.play.run in
    let rest = arms_list (drop (c.loop-code.code-index + 1) c.args.all.now) last in
    let start = c.loop-code.invariant.0 ∙ arms_at p n c.args.all.now last c.loop-code.code-index c.code-item.result c.loop-code-test.true c.code-item.is s w in
    then_same _ _ _ _ _ start c.loop-code.invariant.2 (c.in-Ok.ensures.puts rest)

pub arms-loop-code-preserved : goal.arms-loop-code-preserved
arms-loop-code-preserved g t c =
    let p = program_at c.args.program.now in
    let n = c.args.most in
    let last = code_of c.args.last.now in
    let s = state c.loop-code.play.run in
    let w = world c.loop-code.play.run in
    let rest = arms_list (drop (c.loop-code.code-index + 1) c.args.all.now) last in
    let start = c.loop-code.invariant.0 ∙ arms_at p n c.args.all.now last c.loop-code.code-index c.code-item.result c.loop-code-test.true c.code-item.is s w in (
      start ∙ chosen c.in-Ok.goes (does p n rest) c.fails.new.play.run (does p n (arm_then c.code-item.result rest) s w) c.if-not-goes.false (c.in-Ok.ensures.answers rest),
      c.in-Ok.ensures.kept ∙ c.loop-code.invariant.1,
      then_same _ _ _ _ _ start c.loop-code.invariant.2 (c.in-Ok.ensures.puts rest),
    )

pub arms-returns-clause-answers : goal.arms-returns-clause-answers
arms-returns-clause-answers g t c =
    let p = program_at c.args.program.now in
    let n = c.args.most in
    let last = code_of c.args.last.now in
    let s = state c.loop-code.play.run in
    let w = world c.loop-code.play.run in
    let none = drop_of_length-le c.args.all.now {i = c.loop-code.code-index} (omega (arith, c.loop-code-test.false)) in
    let start = c.loop-code.invariant.0 ∙ ap (λ cs. does p n (arms_list cs last) s w) none in
    subst (Comes c.exec.result c.exec.new.play.run) (sym start) c.exec.ensures.answers

pub arms-returns-clause-puts : goal.arms-returns-clause-puts
arms-returns-clause-puts g t c =
    let p = program_at c.args.program.now in
    let n = c.args.most in
    let last = code_of c.args.last.now in
    let s = state c.loop-code.play.run in
    let w = world c.loop-code.play.run in
    let none = drop_of_length-le c.args.all.now {i = c.loop-code.code-index} (omega (arith, c.loop-code-test.false)) in
    let start = c.loop-code.invariant.0 ∙ ap (λ cs. does p n (arms_list cs last) s w) none in
    then_same _ _ _ _ _ start c.loop-code.invariant.2 c.exec.ensures.puts

pub call_target-returns-clause-puts : goal.call_target-returns-clause-puts
call_target-returns-clause-puts g t c =
    let p = program_at c.args.program.now in
    let s = state c.args.play.now.run in
    let w = world c.args.play.now.run in
    of_same _ _ _ _ (call_is p c.args.most c.args.call.target c.args.call.count c.args.call.receiver s w c.if-most-eq0.false) c.find.ensures.puts

pub construct-returns-in-Ok-clause-puts : goal.construct-returns-in-Ok-clause-puts
construct-returns-in-Ok-clause-puts g t c =
    let go : ℕ → Piece State ℕ = meaning.constructing (calling (program_at c.args.program.now) c.args.most) c.args.class c.args.count in
    of_same _ _ _ _ (c.in-Ok.ensures.makes go) c.build.ensures.puts

pub holds-returns-in_err-exec-clause-puts : goal.holds-returns-in_err-exec-clause-puts
holds-returns-in_err-exec-clause-puts g t c =
    λ go grows.
    of_condition _ _ (program_at c.args.program.now) c.args.most (code_of c.args.condition.now) go (state c.args.play.now.run) (world c.args.play.now.run) grows
    c.in_err-exec.ensures.puts

pub holds-returns-clause-puts : goal.holds-returns-clause-puts
holds-returns-clause-puts g t c =
    λ go grows.
    of_condition _ _ (program_at c.args.program.now) c.args.most (code_of c.args.condition.now) go (state c.args.play.now.run) (world c.args.play.now.run) grows
    c.in_ok-exec.ensures.puts

pub open-returns-in_err-offer-clause-puts : goal.open-returns-in_err-offer-clause-puts
open-returns-in_err-offer-clause-puts g t c =
    let p = program_at c.args.program.now in
    let r = c.offer.new.self.run in
    let call = c.args.call in
    let b = body_at c.args.body.now in
    of_same _ _ _ _ (ap (λ x. opens p (c.args.most - 1) call.target c.args.params.now c.args.result_type b call.count call.receiver (state x) (world x)) (sym c.in_err-offer.ensures.run))
    (of_start _ _ (opens p (c.args.most - 1) call.target c.args.params.now c.args.result_type b call.count call.receiver) (state r) (world r)
    (grows_opens p (c.args.most - 1) call.target c.args.params.now c.args.result_type b call.count call.receiver) c.in_err-offer.ensures.puts)

pub open-returns-in_err-open-clause-puts : goal.open-returns-in_err-open-clause-puts
open-returns-in_err-open-clause-puts g t c =
    let p = program_at c.args.program.now in
    let r = c.offer.new.self.run in
    let call = c.args.call in
    let b = body_at c.args.body.now in
    of_same _ _ _ _ (ap (λ x. opens p (c.args.most - 1) call.target c.args.params.now c.args.result_type b call.count call.receiver (state x) (world x)) (sym c.in_ok-offer.ensures.run))
    (of_start _ _ (opens p (c.args.most - 1) call.target c.args.params.now c.args.result_type b call.count call.receiver) (state r) (world r)
    (grows_opens p (c.args.most - 1) call.target c.args.params.now c.args.result_type b call.count call.receiver) c.in_ok-offer.ensures.puts)

pub open-returns-then-not-has_arguments-clause-puts : goal.open-returns-then-not-has_arguments-clause-puts
open-returns-then-not-has_arguments-clause-puts g t c =
    let p = program_at c.args.program.now in
    let r = c.offer.new.self.run in
    let call = c.args.call in
    let b = body_at c.args.body.now in
    of_same _ _ _ _ (ap (λ x. opens p (c.args.most - 1) call.target c.args.params.now c.args.result_type b call.count call.receiver (state x) (world x)) (sym c.in_ok-offer.ensures.run))
    (of_start _ _ (opens p (c.args.most - 1) call.target c.args.params.now c.args.result_type b call.count call.receiver) (state r) (world r)
    (grows_opens p (c.args.most - 1) call.target c.args.params.now c.args.result_type b call.count call.receiver) c.in_ok-offer.ensures.puts)

pub open-returns-in-Ok-clause-puts : goal.open-returns-in-Ok-clause-puts
open-returns-in-Ok-clause-puts g t c =
    let p = program_at c.args.program.now in
    let r = c.offer.new.self.run in
    let call = c.args.call in
    let b = body_at c.args.body.now in
    let checks = sym c.has_arguments.ensures.same ∙ c.if-not-has_arguments.false in
    let e = open_is p (c.args.most - 1) call.target c.args.params.now c.args.result_type b call.count call.receiver (state r) (world r) c.open.new.self checks
    c.in_ok-open.ensures.0.0 c.in_ok-open.ensures.0.1 c.in_ok-open.ensures.1 in
    of_same _ _ _ _ (ap (λ x. opens p (c.args.most - 1) call.target c.args.params.now c.args.result_type b call.count call.receiver (state x) (world x)) (sym c.in_ok-offer.ensures.run))
    (then_opened _ _ _ p (c.args.most - 1) call.target c.args.params.now c.args.result_type b call.count call.receiver (state r) (world r) c.open.new.self e
    c.in_ok-offer.ensures.puts c.in-Ok.ensures.puts)

pub open-returns-in-Err-clause-puts : goal.open-returns-in-Err-clause-puts
open-returns-in-Err-clause-puts g t c =
    let p = program_at c.args.program.now in
    let r = c.offer.new.self.run in
    let call = c.args.call in
    let b = body_at c.args.body.now in
    let checks = sym c.has_arguments.ensures.same ∙ c.if-not-has_arguments.false in
    let e = open_is p (c.args.most - 1) call.target c.args.params.now c.args.result_type b call.count call.receiver (state r) (world r) c.open.new.self checks
    c.in_ok-open.ensures.0.0 c.in_ok-open.ensures.0.1 c.in_ok-open.ensures.1 in
    of_same _ _ _ _ (ap (λ x. opens p (c.args.most - 1) call.target c.args.params.now c.args.result_type b call.count call.receiver (state x) (world x)) (sym c.in_ok-offer.ensures.run))
    (then_opened _ _ _ p (c.args.most - 1) call.target c.args.params.now c.args.result_type b call.count call.receiver (state r) (world r) c.open.new.self e
    c.in_ok-offer.ensures.puts c.in-Err.ensures.puts)

pub perform_call-returns-in-Ok-clause-puts : goal.perform_call-returns-in-Ok-clause-puts
perform_call-returns-in-Ok-clause-puts g t c =
    let caller = calling (program_at c.args.program.now) c.args.most in
    of_same _ _ _ _ (ap (λ x. meaning.step c.args.program.now.tables caller x (state c.args.play.now.run) (world c.args.play.now.run)) c.in-CallMethod.is) (of_same _ _ _ _ (c.in-Ok.ensures.calls caller) c.call_target.ensures.puts)

pub perform_call-returns-in-Ok-value_call-clause-puts : goal.perform_call-returns-in-Ok-value_call-clause-puts
perform_call-returns-in-Ok-value_call-clause-puts g t c =
    let caller = calling (program_at c.args.program.now) c.args.most in
    of_same _ _ _ _ (ap (λ x. meaning.step c.args.program.now.tables caller x (state c.args.play.now.run) (world c.args.play.now.run)) c.in-CallValue.is) (of_same _ _ _ _ (c.in-Ok-value_call.ensures.calls caller) c.call_target-in-Ok-value_call.ensures.puts)

pub run_body-returns-in_err-value_of-clause-puts : goal.run_body-returns-in_err-value_of-clause-puts
run_body-returns-in_err-value_of-clause-puts g t c =
    of_body _ _ (program_at c.args.program.now) (c.args.most - 1) c.args.result_type (body_at c.args.body.now) c.args.call.count c.args.call.receiver
    (state c.args.play.now.run) _ (world c.args.play.now.run) _ c.in_ok-outside.ensures.1 c.in_ok-outside.ensures.2 c.in_err-value_of.ensures.puts

pub run_body-returns-clause-puts : goal.run_body-returns-clause-puts
run_body-returns-clause-puts g t c =
    of_body _ _ (program_at c.args.program.now) (c.args.most - 1) c.args.result_type (body_at c.args.body.now) c.args.call.count c.args.call.receiver
    (state c.args.play.now.run) _ (world c.args.play.now.run) _ c.in_ok-outside.ensures.1 c.in_ok-outside.ensures.2 c.in_ok-value_of.ensures.puts

pub turn-returns-in_err-offer-clause-puts : goal.turn-returns-in_err-offer-clause-puts
turn-returns-in_err-offer-clause-puts g t c =
    λ rest grows.
    let p = program_at c.args.program.now in
    let r = c.offer.new.self.run in
    let body = code_of c.args.body.now in
    let next = code_of c.args.next.now in
    of_same _ _ _ _ (ap (λ x. turn_of (does p c.args.most body) (does p c.args.most next) rest (state x) (world x)) (sym c.in_err-offer.ensures.run))
    (turn_before p c.args.most body next rest grows (state r) (world r) _ _ c.in_err-offer.ensures.puts)

pub turn-returns-in-Err-Break-clause-puts : goal.turn-returns-in-Err-Break-clause-puts
turn-returns-in-Err-Break-clause-puts g t c =
    λ rest grows.
    let p = program_at c.args.program.now in
    let r = c.offer.new.self.run in
    let body = code_of c.args.body.now in
    let next = code_of c.args.next.now in
    of_same _ _ _ _ (ap (λ x. turn_of (does p c.args.most body) (does p c.args.most next) rest (state x) (world x)) (sym c.in_ok-offer.ensures.run))
    (turn_in_body p c.args.most body next rest grows (state r) (world r) c.tick.new.self _ _ _ c.in_ok-offer.ensures.puts c.in_ok-tick.ensures.0 c.in_ok-tick.ensures.1
    c.in-Err-Break.ensures.puts)

pub turn-returns-in-Err-Return-clause-puts : goal.turn-returns-in-Err-Return-clause-puts
turn-returns-in-Err-Return-clause-puts g t c =
    λ rest grows.
    let p = program_at c.args.program.now in
    let r = c.offer.new.self.run in
    let body = code_of c.args.body.now in
    let next = code_of c.args.next.now in
    of_same _ _ _ _ (ap (λ x. turn_of (does p c.args.most body) (does p c.args.most next) rest (state x) (world x)) (sym c.in_ok-offer.ensures.run))
    (turn_in_body p c.args.most body next rest grows (state r) (world r) c.tick.new.self _ _ _ c.in_ok-offer.ensures.puts c.in_ok-tick.ensures.0 c.in_ok-tick.ensures.1
    c.in-Err-Return.ensures.puts)

pub turn-returns-in-Err-Stops-clause-puts : goal.turn-returns-in-Err-Stops-clause-puts
turn-returns-in-Err-Stops-clause-puts g t c =
    λ rest grows.
    let p = program_at c.args.program.now in
    let r = c.offer.new.self.run in
    let body = code_of c.args.body.now in
    let next = code_of c.args.next.now in
    of_same _ _ _ _ (ap (λ x. turn_of (does p c.args.most body) (does p c.args.most next) rest (state x) (world x)) (sym c.in_ok-offer.ensures.run))
    (turn_in_body p c.args.most body next rest grows (state r) (world r) c.tick.new.self _ _ _ c.in_ok-offer.ensures.puts c.in_ok-tick.ensures.0 c.in_ok-tick.ensures.1
    c.in-Err-Stops.ensures.puts)

pub turn-returns-in-Err-Wants-clause-puts : goal.turn-returns-in-Err-Wants-clause-puts
turn-returns-in-Err-Wants-clause-puts g t c =
    λ rest grows.
    let p = program_at c.args.program.now in
    let r = c.offer.new.self.run in
    let body = code_of c.args.body.now in
    let next = code_of c.args.next.now in
    of_same _ _ _ _ (ap (λ x. turn_of (does p c.args.most body) (does p c.args.most next) rest (state x) (world x)) (sym c.in_ok-offer.ensures.run))
    (turn_in_body p c.args.most body next rest grows (state r) (world r) c.tick.new.self _ _ _ c.in_ok-offer.ensures.puts c.in_ok-tick.ensures.0 c.in_ok-tick.ensures.1
    c.in-Err-Wants.ensures.puts)

pub turn-returns-in-Err-Touches-clause-puts : goal.turn-returns-in-Err-Touches-clause-puts
turn-returns-in-Err-Touches-clause-puts g t c =
    λ rest grows.
    let p = program_at c.args.program.now in
    let r = c.offer.new.self.run in
    let body = code_of c.args.body.now in
    let next = code_of c.args.next.now in
    of_same _ _ _ _ (ap (λ x. turn_of (does p c.args.most body) (does p c.args.most next) rest (state x) (world x)) (sym c.in_ok-offer.ensures.run))
    (turn_in_body p c.args.most body next rest grows (state r) (world r) c.tick.new.self _ _ _ c.in_ok-offer.ensures.puts c.in_ok-tick.ensures.0 c.in_ok-tick.ensures.1
    c.in-Err-Touches.ensures.puts)

pub turn-returns-in-Err-Done-clause-puts : goal.turn-returns-in-Err-Done-clause-puts
turn-returns-in-Err-Done-clause-puts g t c =
    λ rest grows.
    let p = program_at c.args.program.now in
    let r = c.offer.new.self.run in
    let body = code_of c.args.body.now in
    let next = code_of c.args.next.now in
    of_same _ _ _ _ (ap (λ x. turn_of (does p c.args.most body) (does p c.args.most next) rest (state x) (world x)) (sym c.in_ok-offer.ensures.run))
    (turn_in_body p c.args.most body next rest grows (state r) (world r) c.tick.new.self _ _ _ c.in_ok-offer.ensures.puts c.in_ok-tick.ensures.0 c.in_ok-tick.ensures.1
    c.in-Err-Done.ensures.puts)

pub turn-returns-in-Err-OutOfClock-clause-puts : goal.turn-returns-in-Err-OutOfClock-clause-puts
turn-returns-in-Err-OutOfClock-clause-puts g t c =
    λ rest grows.
    let p = program_at c.args.program.now in
    let r = c.offer.new.self.run in
    let body = code_of c.args.body.now in
    let next = code_of c.args.next.now in
    of_same _ _ _ _ (ap (λ x. turn_of (does p c.args.most body) (does p c.args.most next) rest (state x) (world x)) (sym c.in_ok-offer.ensures.run))
    (turn_in_body p c.args.most body next rest grows (state r) (world r) c.tick.new.self _ _ _ c.in_ok-offer.ensures.puts c.in_ok-tick.ensures.0 c.in_ok-tick.ensures.1
    c.in-Err-OutOfClock.ensures.puts)

pub turn-returns-in-Err-OutOfDepth-clause-puts : goal.turn-returns-in-Err-OutOfDepth-clause-puts
turn-returns-in-Err-OutOfDepth-clause-puts g t c =
    λ rest grows.
    let p = program_at c.args.program.now in
    let r = c.offer.new.self.run in
    let body = code_of c.args.body.now in
    let next = code_of c.args.next.now in
    of_same _ _ _ _ (ap (λ x. turn_of (does p c.args.most body) (does p c.args.most next) rest (state x) (world x)) (sym c.in_ok-offer.ensures.run))
    (turn_in_body p c.args.most body next rest grows (state r) (world r) c.tick.new.self _ _ _ c.in_ok-offer.ensures.puts c.in_ok-tick.ensures.0 c.in_ok-tick.ensures.1
    c.in-Err-OutOfDepth.ensures.puts)

pub turn-returns-in-Err-OutOfRoom-clause-puts : goal.turn-returns-in-Err-OutOfRoom-clause-puts
turn-returns-in-Err-OutOfRoom-clause-puts g t c =
    λ rest grows.
    let p = program_at c.args.program.now in
    let r = c.offer.new.self.run in
    let body = code_of c.args.body.now in
    let next = code_of c.args.next.now in
    of_same _ _ _ _ (ap (λ x. turn_of (does p c.args.most body) (does p c.args.most next) rest (state x) (world x)) (sym c.in_ok-offer.ensures.run))
    (turn_in_body p c.args.most body next rest grows (state r) (world r) c.tick.new.self _ _ _ c.in_ok-offer.ensures.puts c.in_ok-tick.ensures.0 c.in_ok-tick.ensures.1
    c.in-Err-OutOfRoom.ensures.puts)

pub turn-returns-in-Err-Wrong-clause-puts : goal.turn-returns-in-Err-Wrong-clause-puts
turn-returns-in-Err-Wrong-clause-puts g t c =
    λ rest grows.
    let p = program_at c.args.program.now in
    let r = c.offer.new.self.run in
    let body = code_of c.args.body.now in
    let next = code_of c.args.next.now in
    of_same _ _ _ _ (ap (λ x. turn_of (does p c.args.most body) (does p c.args.most next) rest (state x) (world x)) (sym c.in_ok-offer.ensures.run))
    (turn_in_body p c.args.most body next rest grows (state r) (world r) c.tick.new.self _ _ _ c.in_ok-offer.ensures.puts c.in_ok-tick.ensures.0 c.in_ok-tick.ensures.1
    c.in-Err-Wrong.ensures.puts)

pub turn-returns-in-Err-NoMemory-clause-puts : goal.turn-returns-in-Err-NoMemory-clause-puts
turn-returns-in-Err-NoMemory-clause-puts g t c =
    λ rest grows.
    let p = program_at c.args.program.now in
    let r = c.offer.new.self.run in
    let body = code_of c.args.body.now in
    let next = code_of c.args.next.now in
    of_same _ _ _ _ (ap (λ x. turn_of (does p c.args.most body) (does p c.args.most next) rest (state x) (world x)) (sym c.in_ok-offer.ensures.run))
    (turn_in_body p c.args.most body next rest grows (state r) (world r) c.tick.new.self _ _ _ c.in_ok-offer.ensures.puts c.in_ok-tick.ensures.0 c.in_ok-tick.ensures.1
    c.in-Err-NoMemory.ensures.puts)

pub turn-returns-in-Ok-clause-answers : goal.turn-returns-in-Ok-clause-answers
turn-returns-in-Ok-clause-answers g t c =
    λ rest.
    let p = program_at c.args.program.now in
    let n = c.args.most in
    let r = c.offer.new.self.run in
    let body : Piece State ℕ = does p n (code_of c.args.body.now) in
    let next : Piece State ℕ = does p n (code_of c.args.next.now) in
    let behind : Piece State ℕ = λ s w. and_then (next s w) rest in
    let went = ap (λ x. turn_of body next rest (state x) (world x)) (sym c.in_ok-offer.ensures.run)
    ∙ ticked_is (λ s w. turned (body s w) behind) (state r) (world r) c.tick.new.self c.in_ok-tick.ensures.0 c.in_ok-tick.ensures.1
    ∙ ap (λ a. turned a behind) c.in-Ok.ensures.answers in
    subst (Chooses c.onward.result rest c.onward.new.play.run) (sym went) (c.onward.ensures.answers rest)

pub turn-returns-in-Err-Continue-clause-answers : goal.turn-returns-in-Err-Continue-clause-answers
turn-returns-in-Err-Continue-clause-answers g t c =
    λ rest.
    let p = program_at c.args.program.now in
    let n = c.args.most in
    let r = c.offer.new.self.run in
    let body : Piece State ℕ = does p n (code_of c.args.body.now) in
    let next : Piece State ℕ = does p n (code_of c.args.next.now) in
    let behind : Piece State ℕ = λ s w. and_then (next s w) rest in
    let went = ap (λ x. turn_of body next rest (state x) (world x)) (sym c.in_ok-offer.ensures.run)
    ∙ ticked_is (λ s w. turned (body s w) behind) (state r) (world r) c.tick.new.self c.in_ok-tick.ensures.0 c.in_ok-tick.ensures.1
    ∙ ap (λ a. turned a behind) (rw c.in-Err-Continue.field-0-is at c.in-Err-Continue.ensures.answers) in
    subst (Chooses c.onward-in-Err-Continue.result rest c.onward-in-Err-Continue.new.play.run) (sym went) (c.onward-in-Err-Continue.ensures.answers rest)

pub turn-returns-in-Ok-clause-puts : goal.turn-returns-in-Ok-clause-puts
turn-returns-in-Ok-clause-puts g t c =
    λ rest grows.
    let p = program_at c.args.program.now in
    let r = c.offer.new.self.run in
    let body = code_of c.args.body.now in
    let next = code_of c.args.next.now in
    let behind : Piece State ℕ = λ s w. and_then (does p c.args.most next s w) rest in
    of_same _ _ _ _ (ap (λ x. turn_of (does p c.args.most body) (does p c.args.most next) rest (state x) (world x)) (sym c.in_ok-offer.ensures.run))
    (turn_onward p c.args.most body next rest grows (state r) (world r) c.tick.new.self _ _ _ c.in_ok-offer.ensures.puts c.in_ok-tick.ensures.0 c.in_ok-tick.ensures.1
    c.in-Ok.ensures.puts _ (state c.exec.new.play.run) (world c.exec.new.play.run) (ap (λ a. turned a behind) c.in-Ok.ensures.answers) (c.onward.ensures.puts rest grows))

pub turn-returns-in-Err-Continue-clause-puts : goal.turn-returns-in-Err-Continue-clause-puts
turn-returns-in-Err-Continue-clause-puts g t c =
    λ rest grows.
    let p = program_at c.args.program.now in
    let r = c.offer.new.self.run in
    let body = code_of c.args.body.now in
    let next = code_of c.args.next.now in
    let behind : Piece State ℕ = λ s w. and_then (does p c.args.most next s w) rest in
    of_same _ _ _ _ (ap (λ x. turn_of (does p c.args.most body) (does p c.args.most next) rest (state x) (world x)) (sym c.in_ok-offer.ensures.run))
    (turn_onward p c.args.most body next rest grows (state r) (world r) c.tick.new.self _ _ _ c.in_ok-offer.ensures.puts c.in_ok-tick.ensures.0 c.in_ok-tick.ensures.1
    c.in-Err-Continue.ensures.puts _ (state c.exec.new.play.run) (world c.exec.new.play.run) (ap (λ a. turned a behind) (rw c.in-Err-Continue.field-0-is at c.in-Err-Continue.ensures.answers)) (c.onward-in-Err-Continue.ensures.puts rest grows))

pub onward-returns-in-Ok-clause-answers : goal.onward-returns-in-Ok-clause-answers
onward-returns-in-Ok-clause-answers g t c =
    λ rest. ap (λ a. and_then a rest) c.in-Ok.ensures.answers

pub onward-returns-in-Err-clause-answers : goal.onward-returns-in-Err-clause-answers
onward-returns-in-Err-clause-answers g t c =
    λ rest.
    let p = program_at c.args.program.now in
    let next = code_of c.args.next.now in
    let s = state c.args.play.now.run in
    let w = world c.args.play.now.run in
    exits_on c.in-Err.why c.exec.new.play.run (does p c.args.most next s w) rest c.in-Err.ensures.answers

pub onward-returns-in-Ok-clause-puts : goal.onward-returns-in-Ok-clause-puts
onward-returns-in-Ok-clause-puts g t c =
    λ rest grows.
    let p = program_at c.args.program.now in
    let next = code_of c.args.next.now in
    let s = state c.args.play.now.run in
    let w = world c.args.play.now.run in
    of_first _ _ (does p c.args.most next s w) rest grows c.in-Ok.ensures.puts

pub onward-returns-in-Err-clause-puts : goal.onward-returns-in-Err-clause-puts
onward-returns-in-Err-clause-puts g t c =
    λ rest grows.
    let p = program_at c.args.program.now in
    let next = code_of c.args.next.now in
    let s = state c.args.play.now.run in
    let w = world c.args.play.now.run in
    of_first _ _ (does p c.args.most next s w) rest grows c.in-Err.ensures.puts

pub repeat-returns-in-Err-clause-puts : goal.repeat-returns-in-Err-clause-puts
repeat-returns-in-Err-clause-puts g t c =
    let p = program_at c.args.program.now in
    let n = c.args.most in
    let test : Piece State ℕ → Piece State ℕ = where_holds (does p n (code_of c.args.condition.now)) truth in
    let body : Piece State ℕ = does p n (code_of c.args.body.now) in
    let next : Piece State ℕ = does p n (code_of c.args.next.now) in
    let s = state c.args.play.now.run in
    let w = world c.args.play.now.run in
    let sl = state c.loop-turn.play.run in
    let wl = world c.loop-turn.play.run in
    let all : turns depth_alone w.clock test body next s w ≡ turns depth_alone c.clock-all.result test body next s w =
    ap (λ k. turns depth_alone k test body next s w) (sym c.clock-all.ensures) in
    let left = c.clock-all.result - (c.loop-turn._turn + 1) in
    let rest : Piece State ℕ = turns depth_alone left test body next in
    let fewer : c.clock-all.result - c.loop-turn._turn ≡ left + 1 = omega (arith, c.loop-turn-test.true) in
    let start = c.loop-turn.invariant.0 ∙ turns_on (c.clock-all.result - c.loop-turn._turn) left test body next sl wl fewer in
    let one = grows_one p n (code_of c.args.condition.now) (code_of c.args.body.now) (code_of c.args.next.now) rest
    (grows_rest p n (code_of c.args.condition.now) (code_of c.args.body.now) (code_of c.args.next.now) left) in
    of_same _ _ _ _ all (then_same _ _ _ _ _ start c.loop-turn.invariant.2 (c.in-Err.ensures.puts (turn_of body next rest) one))

pub repeat-returns-then-not-goes-clause-puts : goal.repeat-returns-then-not-goes-clause-puts
repeat-returns-then-not-goes-clause-puts g t c =
    let p = program_at c.args.program.now in
    let n = c.args.most in
    let test : Piece State ℕ → Piece State ℕ = where_holds (does p n (code_of c.args.condition.now)) truth in
    let body : Piece State ℕ = does p n (code_of c.args.body.now) in
    let next : Piece State ℕ = does p n (code_of c.args.next.now) in
    let s = state c.args.play.now.run in
    let w = world c.args.play.now.run in
    let sl = state c.loop-turn.play.run in
    let wl = world c.loop-turn.play.run in
    let all : turns depth_alone w.clock test body next s w ≡ turns depth_alone c.clock-all.result test body next s w =
    ap (λ k. turns depth_alone k test body next s w) (sym c.clock-all.ensures) in
    let left = c.clock-all.result - (c.loop-turn._turn + 1) in
    let rest : Piece State ℕ = turns depth_alone left test body next in
    let fewer : c.clock-all.result - c.loop-turn._turn ≡ left + 1 = omega (arith, c.loop-turn-test.true) in
    let start = c.loop-turn.invariant.0 ∙ turns_on (c.clock-all.result - c.loop-turn._turn) left test body next sl wl fewer in
    let one = grows_one p n (code_of c.args.condition.now) (code_of c.args.body.now) (code_of c.args.next.now) rest
    (grows_rest p n (code_of c.args.condition.now) (code_of c.args.body.now) (code_of c.args.next.now) left) in
    of_same _ _ _ _ all (then_same _ _ _ _ _ start c.loop-turn.invariant.2 (c.in-Ok.ensures.puts (turn_of body next rest) one))

pub repeat-returns-in-Err-turn-clause-puts : goal.repeat-returns-in-Err-turn-clause-puts
repeat-returns-in-Err-turn-clause-puts g t c =
    let p = program_at c.args.program.now in
    let n = c.args.most in
    let test : Piece State ℕ → Piece State ℕ = where_holds (does p n (code_of c.args.condition.now)) truth in
    let body : Piece State ℕ = does p n (code_of c.args.body.now) in
    let next : Piece State ℕ = does p n (code_of c.args.next.now) in
    let s = state c.args.play.now.run in
    let w = world c.args.play.now.run in
    let sl = state c.loop-turn.play.run in
    let wl = world c.loop-turn.play.run in
    let all : turns depth_alone w.clock test body next s w ≡ turns depth_alone c.clock-all.result test body next s w =
    ap (λ k. turns depth_alone k test body next s w) (sym c.clock-all.ensures) in
    let left = c.clock-all.result - (c.loop-turn._turn + 1) in
    let rest : Piece State ℕ = turns depth_alone left test body next in
    let fewer : c.clock-all.result - c.loop-turn._turn ≡ left + 1 = omega (arith, c.loop-turn-test.true) in
    let start = c.loop-turn.invariant.0 ∙ turns_on (c.clock-all.result - c.loop-turn._turn) left test body next sl wl fewer in
    let one = grows_one p n (code_of c.args.condition.now) (code_of c.args.body.now) (code_of c.args.next.now) rest
    (grows_rest p n (code_of c.args.condition.now) (code_of c.args.body.now) (code_of c.args.next.now) left) in
    let first = then_same _ _ _ _ _ start c.loop-turn.invariant.2 (c.in-Ok.ensures.puts (turn_of body next rest) one) in
    let went = start ∙ chosen c.in-Ok.goes (turn_of body next rest) c.holds.new.play.run (test (turn_of body next rest) sl wl) c.if-not-goes.false
    (c.in-Ok.ensures.answers (turn_of body next rest)) in
    let more = grows_rest p n (code_of c.args.condition.now) (code_of c.args.body.now) (code_of c.args.next.now) left in
    of_same _ _ _ _ all (then_same _ _ _ _ _ went first (c.in-Err-turn.ensures.puts rest more))

pub repeat-returns-then-not-stays-clause-puts : goal.repeat-returns-then-not-stays-clause-puts
repeat-returns-then-not-stays-clause-puts g t c =
    let p = program_at c.args.program.now in
    let n = c.args.most in
    let test : Piece State ℕ → Piece State ℕ = where_holds (does p n (code_of c.args.condition.now)) truth in
    let body : Piece State ℕ = does p n (code_of c.args.body.now) in
    let next : Piece State ℕ = does p n (code_of c.args.next.now) in
    let s = state c.args.play.now.run in
    let w = world c.args.play.now.run in
    let sl = state c.loop-turn.play.run in
    let wl = world c.loop-turn.play.run in
    let all : turns depth_alone w.clock test body next s w ≡ turns depth_alone c.clock-all.result test body next s w =
    ap (λ k. turns depth_alone k test body next s w) (sym c.clock-all.ensures) in
    let left = c.clock-all.result - (c.loop-turn._turn + 1) in
    let rest : Piece State ℕ = turns depth_alone left test body next in
    let fewer : c.clock-all.result - c.loop-turn._turn ≡ left + 1 = omega (arith, c.loop-turn-test.true) in
    let start = c.loop-turn.invariant.0 ∙ turns_on (c.clock-all.result - c.loop-turn._turn) left test body next sl wl fewer in
    let one = grows_one p n (code_of c.args.condition.now) (code_of c.args.body.now) (code_of c.args.next.now) rest
    (grows_rest p n (code_of c.args.condition.now) (code_of c.args.body.now) (code_of c.args.next.now) left) in
    let first = then_same _ _ _ _ _ start c.loop-turn.invariant.2 (c.in-Ok.ensures.puts (turn_of body next rest) one) in
    let went = start ∙ chosen c.in-Ok.goes (turn_of body next rest) c.holds.new.play.run (test (turn_of body next rest) sl wl) c.if-not-goes.false
    (c.in-Ok.ensures.answers (turn_of body next rest)) in
    let more = grows_rest p n (code_of c.args.condition.now) (code_of c.args.body.now) (code_of c.args.next.now) left in
    of_same _ _ _ _ all (then_same _ _ _ _ _ went first (c.in-Ok-turn.ensures.puts rest more))

pub repeat-returns-in-Err-holds-clause-puts : goal.repeat-returns-in-Err-holds-clause-puts
repeat-returns-in-Err-holds-clause-puts g t c =
    let p = program_at c.args.program.now in
    let n = c.args.most in
    let test : Piece State ℕ → Piece State ℕ = where_holds (does p n (code_of c.args.condition.now)) truth in
    let body : Piece State ℕ = does p n (code_of c.args.body.now) in
    let next : Piece State ℕ = does p n (code_of c.args.next.now) in
    let s = state c.args.play.now.run in
    let w = world c.args.play.now.run in
    let sl = state c.loop-turn.play.run in
    let wl = world c.loop-turn.play.run in
    let all : turns depth_alone w.clock test body next s w ≡ turns depth_alone c.clock-all.result test body next s w =
    ap (λ k. turns depth_alone k test body next s w) (sym c.clock-all.ensures) in
    let none : c.clock-all.result - c.loop-turn._turn ≡ 0 = omega (arith, c.loop-turn-test.false) in
    let start = c.loop-turn.invariant.0 ∙ turns_end (c.clock-all.result - c.loop-turn._turn) test body next sl wl none in
    of_same _ _ _ _ all (then_same _ _ _ _ _ start c.loop-turn.invariant.2 (c.in-Err-holds.ensures.puts (over OutOfClock) (grows_over OutOfClock)))

pub repeat-returns-then-goes-clause-puts : goal.repeat-returns-then-goes-clause-puts
repeat-returns-then-goes-clause-puts g t c =
    let p = program_at c.args.program.now in
    let n = c.args.most in
    let test : Piece State ℕ → Piece State ℕ = where_holds (does p n (code_of c.args.condition.now)) truth in
    let body : Piece State ℕ = does p n (code_of c.args.body.now) in
    let next : Piece State ℕ = does p n (code_of c.args.next.now) in
    let s = state c.args.play.now.run in
    let w = world c.args.play.now.run in
    let sl = state c.loop-turn.play.run in
    let wl = world c.loop-turn.play.run in
    let all : turns depth_alone w.clock test body next s w ≡ turns depth_alone c.clock-all.result test body next s w =
    ap (λ k. turns depth_alone k test body next s w) (sym c.clock-all.ensures) in
    let none : c.clock-all.result - c.loop-turn._turn ≡ 0 = omega (arith, c.loop-turn-test.false) in
    let start = c.loop-turn.invariant.0 ∙ turns_end (c.clock-all.result - c.loop-turn._turn) test body next sl wl none in
    of_same _ _ _ _ all (then_same _ _ _ _ _ start c.loop-turn.invariant.2 (c.in-Ok-holds.ensures.puts (over OutOfClock) (grows_over OutOfClock)))

pub repeat-returns-else-goes-clause-puts : goal.repeat-returns-else-goes-clause-puts
repeat-returns-else-goes-clause-puts g t c =
    let p = program_at c.args.program.now in
    let n = c.args.most in
    let test : Piece State ℕ → Piece State ℕ = where_holds (does p n (code_of c.args.condition.now)) truth in
    let body : Piece State ℕ = does p n (code_of c.args.body.now) in
    let next : Piece State ℕ = does p n (code_of c.args.next.now) in
    let s = state c.args.play.now.run in
    let w = world c.args.play.now.run in
    let sl = state c.loop-turn.play.run in
    let wl = world c.loop-turn.play.run in
    let all : turns depth_alone w.clock test body next s w ≡ turns depth_alone c.clock-all.result test body next s w =
    ap (λ k. turns depth_alone k test body next s w) (sym c.clock-all.ensures) in
    let none : c.clock-all.result - c.loop-turn._turn ≡ 0 = omega (arith, c.loop-turn-test.false) in
    let start = c.loop-turn.invariant.0 ∙ turns_end (c.clock-all.result - c.loop-turn._turn) test body next sl wl none in
    of_same _ _ _ _ all (then_same _ _ _ _ _ start c.loop-turn.invariant.2 (c.in-Ok-holds.ensures.puts (over OutOfClock) (grows_over OutOfClock)))
