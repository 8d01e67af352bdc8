-- What the next step takes of the stack, and how the bytes of all open procedures bound it.
use Rattle.std.specs.Prelude.{ℕ, zero, suc, ◌+◌, ◌<◌, ◌≤◌, Bool, true, false, List, [], ◌∷◌, Option, Some, None}
use Rattle.std.specs.List.{AllByRecursion}
use Rattle.std.proofs.Common.{◌≡◌, ◌⊎◌, inl, inr, refl, sym, ap, ◌∙◌, subst, arith}
use Rattle.vg_meaning.specs.Answer.{End, Stops, Wants, Done, Wrong}
use Rattle.vg_meaning.specs.Outside.{before}
use Rattle.avr_view.specs.Run.{Run}
use Rattle.vg_lin.specs.declared.instr.Plain.{Plain as PlainInstr}
use Rattle.vg_lin.specs.declared.instr.Plain.TheVariants.{Copy, Compute, Product, DivideSteps, Load, Store, ReadDevice, WriteDevice}
use Rattle.vg_lin.specs.declared.instr.Plain.TheVariants.{Push, Pop, Find, CodeOf, Stop}
use Rattle.vg_lin.specs.declared.instr.Passed.{Passed}
use Rattle.vg_lin.specs.declared.instr.Registers.{Registers}
use Rattle.vg_lin.specs.declared.instr.Registers.TheVariants.{Empty, One, Two, Three, Four}
use Rattle.vg_lin.specs.declared.instr.Call.{Call as Calling}
use Rattle.vg_lin.specs.declared.instr.Instr.{Instr}
use Rattle.vg_lin.specs.declared.instr.Instr.TheVariants.{Plain, When, Unless, Jump, Call, Return, Idle}
use Rattle.vg_lin.specs.Meaning.{operands, enter, language, codes_in, at_start, run}
use Rattle.vg_lin.specs.Program.{Procedure, Program}
use Rattle.vg_lin.specs.Sound.{IsPassed, IsPlain}
use Rattle.vg_lin.specs.State.{State}
use Rattle.vg_lin.specs.Steps.{Awaits, Result, Interrupt, Frame, Went, Goes, Raises, Lacks, Fails, Entry, Config, fetch}
use Rattle.vg_lin.specs.Steps.{ends, went, branched, calls, returns, goes_back}
use Rattle.vg_lin.specs.Steps.{takes, handles, performed, stepped}
use Rattle.vg_templates.specs.Frames.{Places}
use Rattle.vg_templates.specs.Layouts.{frame_size}
use Rattle.vg_templates.specs.Straight.{pushed_by}
use Rattle.vg_templates.specs.Flow.{passed_bytes, goes_by_registers, pushed_by_call}
use Rattle.vg_templates.specs.Whole.{Links}
use Rattle.vg_followed.specs.Depth.{frames_bytes, stack_bytes, opening_bytes, entry_bytes, handler_bytes, instr_bytes, step_bytes, depth}
use Rattle.vg_followed.specs.Depth.{between_bytes as between}
use Rattle.vg_templates.specs.Depths.{most_bytes, AtMostWait}
use Rattle.vg_templates.specs.Depths.{between_bytes as between'}
use Rattle.vg_followed.specs.Followed.{next, behind}
use Rattle.vg_followed.proofs.Places.{fetched}
use Rattle.vg_followed.specs.Runs.{IsDeepRun}
use Rattle.vg_deep_stacks.specs.Passing.{AreSound, WaitAtMost, PassesStack}

-- ---- the stack as it is

same_between : (a : Awaits) → between a ≡ between' a
same_between (Result call) = refl
same_between Interrupt = refl

frames_bound : (i : Places) (most : ℕ → ℕ) (fs : List (Frame State)) (m : ℕ) → AtMostWait most fs
    → most m + frame_size (i.layouts m) + frames_bytes i fs ≤ most_bytes i most m fs
frames_bound i most [] m h = omega arith
frames_bound i most (f ∷ fs) m (h, hs) =
    let rest = frames_bound i most fs f.proc hs in
    let same = same_between f.awaits in omega (arith, h, rest, same)

stack_bound : (i : Places) (most : ℕ → ℕ) (c : Config State) → WaitAtMost most c → stack_bytes i c.proc c.state c.frames ≤ most_bytes i most c.proc c.frames
stack_bound i most c (h, hs) = let frames = frames_bound i most c.frames c.proc hs in omega (arith, h, frames)

opening_fits : (i : Places) (q : ℕ) → opening_bytes i q ≤ frame_size (i.layouts q)
opening_fits i q = omega arith

-- ---- what an instruction pushes

passed_few : (m : Procedure) (rs : Registers) → AllByRecursion (IsPassed m) (operands rs) → passed_bytes (operands rs) ≤ 16
passed_few m Empty h = omega arith
passed_few m (One a) (ha, h) = let x = ha.0.1 in omega (arith, x)
passed_few m (Two a b) (ha, (hb, h)) = let x = ha.0.1 in let y = hb.0.1 in omega (arith, x, y)
passed_few m (Three a b c) (ha, (hb, (hc, h))) = let x = ha.0.1 in let y = hb.0.1 in let z = hc.0.1 in omega (arith, x, y, z)
passed_few m (Four a b c d) (ha, (hb, (hc, (hd, h)))) =
    let x = ha.0.1 in
    let y = hb.0.1 in
    let z = hc.0.1 in
    let w = hd.0.1 in omega (arith, x, y, z, w)

some_few : (by_registers : Bool) (as' : List Passed) → passed_bytes as' ≤ 16 → pushed_by_call by_registers as' ≤ 16
some_few true as' h = omega arith
some_few false as' h = h

pushed_few : (m : Procedure) (q : PlainInstr) → IsPlain m q → pushed_by q ≤ 16
pushed_few m (Push w a) (h, k) = let x = h.1 in omega (arith, x)
pushed_few m (Copy to a) h = omega arith
pushed_few m (Compute c) h = omega arith
pushed_few m (Product to a b) h = omega arith
pushed_few m (DivideSteps r d a) h = omega arith
pushed_few m (Load memory w to a) h = omega arith
pushed_few m (Store w a from) h = omega arith
pushed_few m (ReadDevice to address) h = omega arith
pushed_few m (WriteDevice address a) h = omega arith
pushed_few m (Pop w to) h = omega arith
pushed_few m (Find place to a) h = omega arith
pushed_few m (CodeOf q to) h = omega arith
pushed_few m (Stop code) h = omega arith

module _ (p : Program) (sound : AreSound p) where
  plain_few : (m pc : ℕ) (q : PlainInstr) → fetch (codes_in p.procedures) m pc ≡ Some (Plain q) → pushed_by q ≤ 16
  plain_few m pc q e = let f = fetched p.procedures m pc (Plain q) e in pushed_few f.procedure q ((sound m f.procedure f.there).operands pc (Plain q) f.instr)

  call_few : (m pc : ℕ) (call : Calling) → fetch (codes_in p.procedures) m pc ≡ Some (Call call) → pushed_by_call (goes_by_registers call) (operands call.registers) ≤ 16
  call_few m pc call e =
      let f = fetched p.procedures m pc (Call call) e in
      let h = (sound m f.procedure f.there).operands pc (Call call) f.instr in
      some_few (goes_by_registers call) (operands call.registers) (passed_few f.procedure call.registers h.1)

  module _ (i : Places) (most : ℕ → ℕ) where
    -- a run goes on, or its next step takes no more than one instruction pushes
    abbrev Quiet : Config State → Type 0
    Quiet c = (c.ending ≡ None) ⊎ (step_bytes i p c c.woken ≤ 16)

    -- the bytes of the open procedures are enough for the depth of a configuration
    abbrev Bounds : (now : Config State) → Config State → Type 0
    Bounds now c = depth i p now ≤ 16 + most_bytes i most c.proc c.frames

    quiet_end : (c : Config State) (why : End) → c.woken ≡ None → instr_bytes i p c.state (fetch (codes_in p.procedures) c.proc c.pc) ≤ 16 → Quiet (ends c why)
    quiet_end c why e few = inr (subst (λ w. step_bytes i p (ends c why) w ≤ 16) (sym e) few)

    module _ (c : Config State) (going : c.ending ≡ None) where
      abbrev instr : Option Instr
      instr = fetch (codes_in p.procedures) c.proc c.pc

      few_at : (o : Option Instr) → instr ≡ o → instr_bytes i p c.state o ≤ 16 → instr_bytes i p c.state instr ≤ 16
      few_at o e h = subst (λ z. instr_bytes i p c.state z ≤ 16) (sym e) h

      quiet_went : (w : Went State) → c.woken ≡ None → instr_bytes i p c.state instr ≤ 16 → Quiet (went c w)
      quiet_went (Goes s o) e few = inl going
      quiet_went (Raises code) e few = quiet_end c (Stops code None) e few
      quiet_went (Lacks address) e few = quiet_end c (Wants address) e few
      quiet_went Fails e few = quiet_end c Wrong e few

      quiet_branched : (wanted : Bool) (to : ℕ) (b : Option Bool) → c.woken ≡ None → instr_bytes i p c.state instr ≤ 16 → Quiet (branched c wanted to b)
      quiet_branched true to (Some true) e few = inl going
      quiet_branched true to (Some false) e few = inl going
      quiet_branched false to (Some true) e few = inl going
      quiet_branched false to (Some false) e few = inl going
      quiet_branched true to None e few = quiet_end c Wrong e few
      quiet_branched false to None e few = quiet_end c Wrong e few

      quiet_calls : (call : Calling) (o : Option (Entry State)) → enter p call c.state ≡ o → instr ≡ Some (Call call) → c.woken ≡ None
          → Quiet (calls (language p) c call o)
      quiet_calls call (Some entered) eo ei e = inl going
      quiet_calls call None eo ei e =
          quiet_end c Wrong e
          (few_at (Some (Call call)) ei
          (subst (λ z. pushed_by_call (goes_by_registers call) (operands call.registers) + entry_bytes i z ≤ 16) (sym eo) (let few = call_few c.proc c.pc call ei in omega (arith, few))))

      quiet_back : (fs : List (Frame State)) (v : ℕ) → c.woken ≡ None → instr_bytes i p c.state instr ≤ 16 → Quiet (goes_back (language p) c fs v)
      quiet_back (f ∷ fs) v e few = inl going
      quiet_back [] v e few = quiet_end c Wrong e few

      quiet_returns : (o : Option ℕ) → c.woken ≡ None → instr_bytes i p c.state instr ≤ 16 → Quiet (returns (language p) c o)
      quiet_returns (Some v) e few = quiet_back c.frames v e few
      quiet_returns None e few = quiet_end c Wrong e few

      quiet_takes : (vectors : List ℕ) → c.woken ≡ None → instr_bytes i p c.state instr ≤ 16 → Quiet (takes c vectors)
      quiet_takes [] e few = quiet_end c Done e few
      quiet_takes (v ∷ vs) e few = inl going

      quiet_performed : (o : Option Instr) → instr ≡ o → c.woken ≡ None → Quiet (performed (language p) c o)
      quiet_performed None ei e = quiet_end c Wrong e (few_at None ei (omega arith))
      quiet_performed (Some (Plain q)) ei e = quiet_went _ e (few_at (Some (Plain q)) ei (plain_few c.proc c.pc q ei))
      quiet_performed (Some (When t to)) ei e = quiet_branched true to _ e (few_at (Some (When t to)) ei (omega arith))
      quiet_performed (Some (Unless t to)) ei e = quiet_branched false to _ e (few_at (Some (Unless t to)) ei (omega arith))
      quiet_performed (Some (Jump to)) ei e = inl going
      quiet_performed (Some (Call call)) ei e = quiet_calls call (enter p call c.state) refl ei e
      quiet_performed (Some (Return w a)) ei e = quiet_returns _ e (few_at (Some (Return w a)) ei (omega arith))
      quiet_performed (Some Idle) ei e = quiet_takes c.outside.interrupts e (few_at (Some Idle) ei (omega arith))

      quiet_handles : (o : Option ℕ) → Quiet (handles (language p) c o)
      quiet_handles None = inl going
      quiet_handles (Some q) = inl going

      quiet_stepped : (w : Option ℕ) → c.woken ≡ w → Quiet (stepped (language p) (codes_in p.procedures) c None w)
      quiet_stepped (Some vector) e = quiet_handles (p.handler vector)
      quiet_stepped None e = quiet_performed instr refl e

    quiet_next : (c : Config State) → Quiet c → Quiet (next p c)
    quiet_next c h = by_ending c.ending refl
      where
        by_ending : (o : Option End) → c.ending ≡ o → Quiet (stepped (language p) (codes_in p.procedures) c o c.woken)
        by_ending (Some why) e = h
        by_ending None e = quiet_stepped c e c.woken refl

    -- ---- the depth of a configuration, by the procedures that are open in it, or behind the next step

    module _ (c : Config State) (waits : WaitAtMost most c) where
      by_few : step_bytes i p c c.woken ≤ 16 → Bounds c c
      by_few few = let stack = stack_bound i most c waits in omega (arith, few, stack)

      abbrev Here : (Config State) → Type 0
      Here d = Bounds c c ⊎ Bounds c d

      few_here : (o : Option Instr) → fetch (codes_in p.procedures) c.proc c.pc ≡ o → c.woken ≡ None → instr_bytes i p c.state o ≤ 16 → Bounds c c
      few_here o ei e few =
          by_few (subst (λ w. step_bytes i p c w ≤ 16) (sym e) (subst (λ z. instr_bytes i p c.state z ≤ 16) (sym ei) few))

      opens : (q : ℕ) (f : Frame State) (passed : ℕ) → f.proc ≡ c.proc → passed ≤ 16 + between f.awaits
          → step_bytes i p c c.woken ≡ passed + opening_bytes i q
          → depth i p c ≤ 16 + most_bytes i most q (f ∷ c.frames)
      opens q f passed same few e =
          let stack = stack_bound i most c waits in
          let opening = opening_fits i q in
          let between_is = same_between f.awaits in
          let callers : most_bytes i most f.proc c.frames ≡ most_bytes i most c.proc c.frames = ap (λ m. most_bytes i most m c.frames) same in
          omega (arith, stack, opening, between_is, callers, few, e)

      here_calls : (call : Calling) (o : Option (Entry State)) → enter p call c.state ≡ o
          → fetch (codes_in p.procedures) c.proc c.pc ≡ Some (Call call) → c.woken ≡ None → Here (calls (language p) c call o)
      here_calls call (Some entered) eo ei e =
          let few = call_few c.proc c.pc call ei in
          inr (opens entered.proc (record { proc = c.proc; pc = c.pc; kept = entered.kept; awaits = Result call }) (pushed_by_call (goes_by_registers call) (operands call.registers)) refl
          (omega (arith, few))
          (ap (step_bytes i p c) e ∙ ap (instr_bytes i p c.state) ei ∙ ap (λ z. pushed_by_call (goes_by_registers call) (operands call.registers) + entry_bytes i z) eo))
      here_calls call None eo ei e =
          inl (few_here (Some (Call call)) ei e
          (subst (λ z. pushed_by_call (goes_by_registers call) (operands call.registers) + entry_bytes i z ≤ 16) (sym eo) (let few = call_few c.proc c.pc call ei in omega (arith, few))))

      here_performed : (o : Option Instr) → fetch (codes_in p.procedures) c.proc c.pc ≡ o → c.woken ≡ None → Here (performed (language p) c o)
      here_performed None ei e = inl (few_here None ei e (omega arith))
      here_performed (Some (Plain q)) ei e = inl (few_here (Some (Plain q)) ei e (plain_few c.proc c.pc q ei))
      here_performed (Some (When t to)) ei e = inl (few_here (Some (When t to)) ei e (omega arith))
      here_performed (Some (Unless t to)) ei e = inl (few_here (Some (Unless t to)) ei e (omega arith))
      here_performed (Some (Jump to)) ei e = inl (few_here (Some (Jump to)) ei e (omega arith))
      here_performed (Some (Call call)) ei e = here_calls call (enter p call c.state) refl ei e
      here_performed (Some (Return w a)) ei e = inl (few_here (Some (Return w a)) ei e (omega arith))
      here_performed (Some Idle) ei e = inl (few_here (Some Idle) ei e (omega arith))

      here_handles : (vector : ℕ) (o : Option ℕ) → p.handler vector ≡ o → c.woken ≡ Some vector → Here (handles (language p) c o)
      here_handles vector None eo e =
          inl (by_few (subst (λ w. step_bytes i p c w ≤ 16) (sym e) (subst (λ z. 4 + handler_bytes i z ≤ 16) (sym eo) (omega arith))))
      here_handles vector (Some q) eo e =
          inr (opens q (record { proc = c.proc; pc = c.pc; kept = c.state; awaits = Interrupt }) 4 refl (omega arith)
          (ap (step_bytes i p c) e ∙ ap (λ z. 4 + handler_bytes i z) eo))

      here_stepped : (w : Option ℕ) → c.woken ≡ w → Here (stepped (language p) (codes_in p.procedures) c None w)
      here_stepped (Some vector) e = here_handles vector (p.handler vector) refl e
      here_stepped None e = here_performed (fetch (codes_in p.procedures) c.proc c.pc) refl e

      here : Quiet c → Here (next p c)
      here quiet = by_ending c.ending refl
        where
          by_quiet : (why : End) → c.ending ≡ Some why → Quiet c → step_bytes i p c c.woken ≤ 16
          by_quiet why e (inr few) = few
          by_quiet why e (inl going) = absurd (let clash : None ≡ Some why = sym going ∙ e in cc)

          by_ending : (o : Option End) → c.ending ≡ o → Here (stepped (language p) (codes_in p.procedures) c o c.woken)
          by_ending (Some why) e = inl (by_few (by_quiet why e quiet))
          by_ending None e = here_stepped c.woken refl

  module _ (e : Run) (x : Links) (most : ℕ → ℕ) where
    later : (n : ℕ) (c : Config State) → PassesStack e x p most n (next p c) → PassesStack e x p most (suc n) c
    later n c (j, (k, deep)) = (suc j, (omega (arith, k), deep))

    passes : (j n : ℕ) (c : Config State) → Quiet x.places most c → ((k : ℕ) → k ≤ n → WaitAtMost most (behind p k c)) → j < n
        → 0x1100 < e.floor + depth x.places p (behind p j c) → PassesStack e x p most n c
    passes j zero c quiet waits less deep = absurd (omega (arith, less))
    passes zero (suc n) c quiet waits less deep = by_place (here x.places most c (waits 0 (omega arith)) quiet)
      where
        by_place : Here x.places most c (waits 0 (omega arith)) (next p c) → PassesStack e x p most (suc n) c
        by_place (inl h) = (0, (omega arith, omega (arith, deep, h)))
        by_place (inr h) = (1, (omega arith, omega (arith, deep, h)))
    passes (suc j) (suc n) c quiet waits less deep =
        later n c
        (passes j n (next p c) (quiet_next x.places most c quiet) (λ k low. waits (suc k) (omega (arith, low))) (omega (arith, less)) deep)

pub deep_passes : (e : Run) (x : Links) (p : Program) (most : ℕ → ℕ) → AreSound p → (n : ℕ) (reads interrupts : List ℕ)
    → ((j : ℕ) → j ≤ n → WaitAtMost most (run p j reads interrupts)) → IsDeepRun e x p n reads interrupts
    → PassesStack e x p most n (at_start p (before reads interrupts))
deep_passes e x p most sound n reads interrupts waits (inl first) = (0, (omega arith, omega (arith, first)))
deep_passes e x p most sound n reads interrupts waits (inr (j, (less, deep))) =
    passes p sound e x most j n (at_start p (before reads interrupts)) (inl refl) waits less deep
