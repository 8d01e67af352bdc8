-- The depth of a configuration, bounded by the procedures that are open in it.
use Rattle.std.specs.Prelude.{ℕ, ◌+◌, ◌<◌, ◌≤◌, List, [], ◌∷◌, length, Option, Some, None, slice_get}
use Rattle.std.proofs.Common.{◌≡◌, inl, inr, refl, sym, ap, ◌∙◌, arith}
use Rattle.vg_meaning.specs.Answer.{Wrong}
use Rattle.vg_source.specs.Peak.{most}
use Rattle.vg_lin.specs.declared.instr.Call.{Call as CallTo}
use Rattle.vg_lin.specs.declared.instr.Instr.{Instr}
use Rattle.vg_lin.specs.declared.instr.Instr.TheVariants.{Plain, When, Unless, Jump, Call, Return, Idle}
use Rattle.vg_lin.specs.Meaning.{enter, codes_in, run}
use Rattle.vg_lin.specs.Program.{Procedure, Program}
use Rattle.vg_lin.specs.State.{State, Waiting}
use Rattle.vg_lin.specs.Steps.{Awaits, Result, Interrupt, Frame, Entry, Config, fetch}
use Rattle.avr_view.specs.Run.{Run}
use Rattle.vg_templates.specs.Frames.{Places}
use Rattle.vg_templates.specs.Frames as frames
use Rattle.vg_templates.specs.Layouts.{Layout, frame_size}
use Rattle.vg_templates.specs.Framed.{framed}
use Rattle.vg_templates.specs.Whole.{Links}
use Rattle.vg_followed.specs.Depth.{frames_bytes, opening_bytes as opening_bytes_at, entry_bytes, handler_bytes, instr_bytes, step_bytes, depth}
use Rattle.vg_followed.specs.Depth.{between_bytes}
use Rattle.vg_followed.specs.Stands.{Stands}
use Rattle.vg_followed.specs.Runs.{Begins, IsDeepRun}
use Rattle.vg_followed.proofs.Places.{placed}
use Rattle.vg_open_calls.specs.Open.{IsReady, waiting_widths, AreOpen, IsOpen}
use Rattle.vg_open_calls.proofs.Entering.{entered}
use Rattle.vg_open_calls.proofs.Along.{runs_open}
use Rattle.vg_frame_costs.specs.Bytes.{bytes_of, opening_bytes, pushed_bytes}
use Rattle.vg_open_costs.specs.Taken.{opening_in, opening_of, pushed_in, frame_of, between, callers_take, entry_takes, handler_takes, instr_takes}
use Rattle.vg_open_costs.specs.Taken.{step_takes, taken, CallsAreDivided, EndsUnpushed}
use Rattle.vg_open_costs.proofs.Costing.{opening_takes, costs}
use Rattle.vg_deep_costs.specs.Fit.{HasFitFrames}

-- ---- sums

same_waiting : (ws : List Waiting) → frames.bytes_of ws ≡ bytes_of (waiting_widths ws)
same_waiting [] = refl
same_waiting (w ∷ ws) = ap (λ n. w.width + n) (same_waiting ws)

same_between : (a : Awaits) → between_bytes a ≡ between a
same_between (Result call) = refl
same_between Interrupt = refl

-- ---- what stands in a configuration

-- the layout of a procedure
same_opening : (procedure : Procedure) → opening_bytes procedure ≡ 2 + length (framed procedure).saved + (framed procedure).slots
unfolding opening_bytes
same_opening procedure = refl

same_pushed : (procedure : Procedure) → pushed_bytes procedure ≡ (framed procedure).pushed
unfolding pushed_bytes
same_pushed procedure = refl

same_frame : (procedure : Procedure) → opening_bytes procedure + pushed_bytes procedure ≡ frame_size (framed procedure)
unfolding opening_bytes pushed_bytes
same_frame procedure = omega arith

-- Each of these numbers is at most what the program's procedures take.
module _ (x : Links) (p : Program) (extra : ℕ) (cs : List ℕ) (ready : IsReady p) (has : HasFitFrames x p extra cs) where
  few_frame : (m : ℕ) (procedure : Procedure) → slice_get p.procedures m ≡ Some procedure → frame_size (x.places.layouts m) ≤ frame_of p m
  few_frame m procedure e =
      let there : frame_of p m ≡ opening_bytes procedure + pushed_bytes procedure = ap (λ o. opening_in o + pushed_in o) e in
      let same = ap frame_size (has.layouts m procedure e) ∙ sym (same_frame procedure) in omega (arith, there, same)

  few_opening : (m : ℕ) (procedure : Procedure) → slice_get p.procedures m ≡ Some procedure → opening_bytes_at x.places m ≤ opening_of p m
  few_opening m procedure e =
      let there : opening_of p m ≡ opening_bytes procedure = ap opening_in e in
      let same = ap (λ (l : Layout). 2 + length l.saved + l.slots) (has.layouts m procedure e) ∙ sym (same_opening procedure) in
      omega (arith, there, same)

  few_callers : (m : ℕ) (fs : List (Frame State)) → AreOpen p m fs → frames_bytes x.places fs ≤ callers_take p fs
  few_callers m [] h = omega arith
  few_callers m (f ∷ fs) (opener, (w, rest)) =
      let space = same_between f.awaits in
      let waits = same_waiting f.kept.waiting in
      let frame = few_frame f.proc w.procedure w.there in
      let others = few_callers f.proc fs rest in omega (arith, space, waits, frame, others)

  few_entry : (call : CallTo) (s : State) (o : Option (Entry State)) → enter p call s ≡ o → entry_bytes x.places o ≤ entry_takes p o
  few_entry call s None e = omega arith
  few_entry call s (Some entry) e = let y = entered p call s entry e in few_opening entry.proc y.procedure y.there

  few_handler : (v : ℕ) (o : Option ℕ) → p.handler v ≡ o → handler_bytes x.places o ≤ handler_takes p o
  few_handler v None e = omega arith
  few_handler v (Some q) e = let there = ready.handlers v q e in few_opening q there.0 there.1

  few_instr : (s : State) (o : Option Instr) → instr_bytes x.places p s o ≤ instr_takes p s o
  few_instr s None = omega arith
  few_instr s (Some (Plain q)) = omega arith
  few_instr s (Some (When t to)) = omega arith
  few_instr s (Some (Unless t to)) = omega arith
  few_instr s (Some (Jump to)) = omega arith
  few_instr s (Some (Call call)) = let entry = few_entry call s (enter p call s) refl in omega (arith, entry)
  few_instr s (Some (Return w a)) = omega arith
  few_instr s (Some Idle) = omega arith

  few_step : (c : Config State) (w : Option ℕ) → step_bytes x.places p c w ≤ step_takes p c w
  few_step c (Some v) = let few = few_handler v (p.handler v) refl in omega (arith, few)
  few_step c None = few_instr c.state (fetch (codes_in p.procedures) c.proc c.pc)

  few_depth : (c : Config State) → IsOpen p c → depth x.places p c ≤ taken p c
  few_depth c h =
      let waits = same_waiting c.state.waiting in
      let frame = few_frame c.proc h.here.procedure h.here.there in
      let callers = few_callers c.proc c.frames h.callers in
      let steps = few_step c c.woken in omega (arith, waits, frame, callers, steps)

-- ---- programs that stand are ready

pub is_ready : (e : Run) (x : Links) (p : Program) (extra : ℕ) (cs : List ℕ) → Stands e x p → Begins e x p → HasFitFrames x p extra cs → IsReady p
is_ready e x p extra cs st b has =
    record {
      sound = has.sound;
      first = b.first;
      start = b.there;
      handlers = λ v q h. let s = st.handlers v q h in (s.procedure, s.there);
    }

-- and their calls are divided
calls_divided : (e : Run) (x : Links) (p : Program) → Stands e x p → CallsAreDivided p
calls_divided e x p st m pc call h = (placed e x p st m pc (Call call) h).instr.covers.divided

-- ---- deep runs

pub deep_costs : (e : Run) (x : Links) (p : Program) (extra : ℕ) (cs : List ℕ) → Stands e x p → Begins e x p → HasFitFrames x p extra cs
    → (n : ℕ) (reads interrupts : List ℕ) → EndsUnpushed p n reads interrupts → ((run p n reads interrupts).ending ≡ Some Wrong → ⊥)
    → IsDeepRun e x p n reads interrupts → 0x1100 < e.floor + (extra + most cs (run p n reads interrupts).openings)
deep_costs e x p extra cs st b has n reads interrupts unpushed legal (inl first) =
    let ready = is_ready e x p extra cs st b has in
    let opening = few_opening x p extra cs ready has p.start b.first b.there in
    let few = opening_takes p ready has.before extra cs has.fit in omega (arith, first, opening, few)
deep_costs e x p extra cs st b has n reads interrupts unpushed legal (inr (j, (less, deep))) =
    let ready = is_ready e x p extra cs st b has in
    let most_taken = few_depth x p extra cs ready has (run p j reads interrupts) (runs_open p ready j reads interrupts) in
    let cost = costs p ready has.before (calls_divided e x p st) extra cs has.fit reads interrupts j n less unpushed legal in
    omega (arith, deep, most_taken, cost)
