-- What open procedures take, by procedures: what is pushed for one of them is counted once, with it.
use Rattle.std.specs.Prelude.{ℕ, suc, ◌+◌, ◌≤◌, List, [], ◌∷◌, length, Option, Some, None, slice_get}
use Rattle.std.proofs.Common.{◌≡◌, refl, sym, ap, ◌∙◌, subst, arith}
use Rattle.vg_lin.specs.declared.instr.Call.{Call as CallTo}
use Rattle.vg_lin.specs.declared.instr.Instr.{Instr}
use Rattle.vg_lin.specs.declared.instr.Instr.TheVariants.{Call, Idle}
use Rattle.vg_lin.specs.Meaning.{operands, codes_in}
use Rattle.vg_lin.specs.Program.{Procedure, Program}
use Rattle.vg_lin.specs.Sound.{behind, waits_of}
use Rattle.vg_lin.specs.State.{State}
use Rattle.vg_lin.specs.Steps.{Awaits, Result, Interrupt, Frame, Entry, Config, fetch}
use Rattle.vg_lin.proofs.Scanned.{waits_marked}
use Rattle.vg_templates.specs.Flow.{goes_by_registers, pushed_by_call, IsDivided}
use Rattle.vg_open_calls.specs.Open.{IsReady, waiting_widths, HasWaits, IsOpener, AreOpen, IsOpen}
use Rattle.vg_open_calls.proofs.Entering.{Entered, entered_widths}
use Rattle.vg_open_calls.proofs.Moving.{fetch_in}
use Rattle.vg_frame_costs.specs.Bytes.{bytes_of, kept_at, procedure_bytes}
use Rattle.vg_frame_costs.proofs.Pushed.{taken_within}
use Rattle.vg_open_costs.specs.Taken.{opening_in, pushed_in, pushed_of, frame_of, between, callers_take, stack_takes}
use Rattle.vg_open_costs.proofs.Fitted.{kept_counted, bytes_cut}

-- a procedure with the most that is kept in it
abbrev pub whole_in : Option Procedure → ℕ
whole_in (Some m) = procedure_bytes m
whole_in None = 0

abbrev pub whole_of : Program → (m : ℕ) → ℕ
whole_of p m = whole_in (slice_get p.procedures m)

-- the procedures that wait for others, and the one that runs as well
abbrev pub callers_whole : Program → List (Frame State) → ℕ
callers_whole p [] = 0
callers_whole p (f ∷ fs) = between f.awaits + (whole_of p f.proc + callers_whole p fs)

abbrev pub all_whole : Program → Config State → ℕ
all_whole p c = whole_of p c.proc + callers_whole p c.frames

frame_in_whole : (o : Option Procedure) → opening_in o + pushed_in o ≤ whole_in o
frame_in_whole (Some m) = omega arith
frame_in_whole None = omega arith

pub frame_within : (p : Program) (m : ℕ) → frame_of p m ≤ whole_of p m
frame_within p m = frame_in_whole (slice_get p.procedures m)

module _ (p : Program) where
  -- what is kept at an instruction, where these values wait
  kept_few : (m pc : ℕ) (procedure : Procedure) → slice_get p.procedures m ≡ Some procedure → (ws : List ℕ) → ws ≡ waits_of procedure pc → (i : Instr)
      → fetch (codes_in p.procedures) m pc ≡ Some i → kept_at ws i + frame_of p m ≤ whole_of p m
  kept_few m pc procedure there ws waits i e =
      let whole = ap whole_in there in
      let frame = ap (λ o. opening_in o + pushed_in o) there in
      let same = ap (λ z. kept_at z i) waits in
      let counted = kept_counted [] procedure.code pc i (sym (fetch_in p.procedures m procedure there pc) ∙ e) in
      omega (arith, whole, frame, same, counted)

  -- what waits behind an instruction that waits, where that is what is kept there
  waiter_few : (f : Frame State) → HasWaits p f.proc (suc f.pc) f.kept → (i : Instr) → fetch (codes_in p.procedures) f.proc f.pc ≡ Some i
      → ((ws : List ℕ) → bytes_of (behind i ws) ≡ kept_at ws i) → bytes_of (waiting_widths f.kept.waiting) + frame_of p f.proc ≤ whole_of p f.proc
  waiter_few f w i e same =
      let at = sym (fetch_in p.procedures f.proc w.procedure w.there f.pc) ∙ e in
      let waits = ap bytes_of (w.waits ∙ waits_marked [] w.procedure.code f.pc i at) ∙ same (waits_of w.procedure f.pc) in
      let few = kept_few f.proc f.pc w.procedure w.there (waits_of w.procedure f.pc) refl i e in omega (arith, waits, few)

  caller_few : (q : ℕ) (f : Frame State) (a : Awaits) → IsOpener p q f a → HasWaits p f.proc (suc f.pc) f.kept
      → bytes_of (waiting_widths f.kept.waiting) + frame_of p f.proc ≤ whole_of p f.proc
  caller_few q f Interrupt (e, h) w = waiter_few f w Idle e (λ ws. refl)
  caller_few q f (Result call) (e, aim, passing) w = waiter_few f w (Call call) e (λ ws. refl)

  pub callers_few : (q : ℕ) (fs : List (Frame State)) → AreOpen p q fs → callers_take p fs ≤ callers_whole p fs
  callers_few q [] h = omega arith
  callers_few q (f ∷ fs) (opener, (w, rest)) =
      let few = caller_few q f f.awaits opener w in let others = callers_few f.proc fs rest in omega (arith, few, others)

  module _ (c : Config State) (h : IsOpen p c) where
    -- all that stands in a configuration, where all that waits is kept
    pub stack_few : (i : Instr) → fetch (codes_in p.procedures) c.proc c.pc ≡ Some i → ((ws : List ℕ) → bytes_of ws ≡ kept_at ws i)
        → stack_takes p c.proc c.state c.frames ≤ all_whole p c
    stack_few i e same =
        let all = same (waiting_widths c.state.waiting) in
        let here = kept_few c.proc c.pc h.here.procedure h.here.there (waiting_widths c.state.waiting) h.here.waits i e in
        let others = callers_few c.proc c.frames h.callers in omega (arith, all, here, others)

    module _ (ready : IsReady p) (call : CallTo) (e : fetch (codes_in p.procedures) c.proc c.pc ≡ Some (Call call)) (divided : IsDivided call) where
      enough : call.pushed ≤ length (waiting_widths c.state.waiting)
      enough =
          subst (λ ws. call.pushed ≤ length ws) (sym h.here.waits)
          ((ready.sound c.proc h.here.procedure h.here.there).goes_on c.pc (Call call)
          (sym (fetch_in p.procedures c.proc h.here.procedure h.here.there c.pc) ∙ e)).0

      -- and with what a call pushes, where it enters a procedure
      pub call_few : (entry : Entry State) → Entered p call c.state entry
          → stack_takes p c.proc c.state c.frames + pushed_by_call (goes_by_registers call) (operands call.registers)
          ≤ pushed_of p entry.proc + (whole_of p c.proc + callers_whole p c.frames)
      call_few entry y =
          let here = kept_few c.proc c.pc h.here.procedure h.here.there (waiting_widths c.state.waiting) h.here.waits (Call call) e in
          let cut = bytes_cut call.pushed (waiting_widths c.state.waiting) in
          let pushed = ap pushed_in y.there in
          let within =
          taken_within y.procedure call (waiting_widths c.state.waiting) enough divided (entered_widths p call c.state entry y) in
          let others = callers_few c.proc c.frames h.callers in omega (arith, here, cut, pushed, within, others)
