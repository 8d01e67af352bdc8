-- What one step takes of the stack is there behind it, but for the four bytes of an instruction that idles. What a push takes is taken before the next step.
use Rattle.std.specs.Prelude.{ℕ, suc, ◌+◌, ◌≤◌, Bool, true, false, List, [], ◌∷◌, Option, Some, None}
use Rattle.std.proofs.Common.{◌≡◌, ◌⊎◌, inl, inr, refl, sym, ap, ◌∙◌, arith}
use Rattle.std.proofs.lemmas.Option.{none-some}
use Rattle.vg_meaning.specs.Answer.{End, Stops, Wants, Done, Wrong}
use Rattle.vg_lin.specs.declared.instr.Plain.{Plain as PlainInstr}
use Rattle.vg_lin.specs.declared.instr.Plain.TheVariants.{Copy, Compute, Product, DivideSteps, Load, Store, ReadDevice, WriteDevice}
use Rattle.vg_lin.specs.declared.instr.Plain.TheVariants.{Push, Pop, Find, CodeOf, Stop}
use Rattle.vg_lin.specs.declared.instr.Operand.{Operand}
use Rattle.vg_lin.specs.declared.instr.Call.{Call as CallTo}
use Rattle.vg_lin.specs.declared.instr.Instr.{Instr}
use Rattle.vg_lin.specs.declared.instr.Instr.TheVariants.{Plain, When, Unless, Jump, Call, Return, Idle}
use Rattle.vg_lin.specs.Meaning.{language, operands, codes_in, enter, result}
use Rattle.vg_lin.specs.Program.{Program}
use Rattle.vg_lin.specs.State.{State, value, using, pushes as pushing, plain, holds}
use Rattle.vg_lin.specs.Steps.{Frame, Went, Goes, Raises, Lacks, Fails, Entry, Config, ends, went, branched, calls, goes_back, returns}
use Rattle.vg_lin.specs.Steps.{takes, handles, performed, fetch, stepped, step}
use Rattle.vg_expand.specs.Unpushed.{is_push, step_pushes, next_pushes}
use Rattle.vg_templates.specs.Flow.{goes_by_registers, pushed_by_call}
use Rattle.vg_open_calls.specs.Open.{IsReady, IsOpen}
use Rattle.vg_open_calls.proofs.Entering.{entered}
use Rattle.vg_frame_costs.specs.Bytes.{bytes_of, kept_at}
use Rattle.vg_open_costs.specs.Taken.{stack_takes, entry_takes, handler_takes, instr_takes, step_takes, taken, CallsAreDivided}
use Rattle.vg_open_costs.proofs.Once.{all_whole, frame_within, stack_few, call_few}

module _ (p : Program) (ready : IsReady p) (divided : CallsAreDivided p) where
  -- ---- one step

  abbrev pub stack_of : Config State → ℕ
  stack_of c = stack_takes p c.proc c.state c.frames

  -- the step takes nothing, or four bytes where it idles
  abbrev TakesLittle : Config State → Type 0
  TakesLittle c = (step_takes p c c.woken ≡ 0) ⊎ ((step_takes p c c.woken ≤ 4) × (fetch (codes_in p.procedures) c.proc c.pc ≡ Some Idle))

  -- and what stands is what the procedures take that are open
  abbrev pub IsQuiet : Config State → Type 0
  IsQuiet c = (stack_of c ≤ all_whole p c) × TakesLittle c

  -- a run goes on, or its next step takes little, or it ended wrongly
  abbrev pub IsSettled : Config State → Type 0
  IsSettled c = (c.ending ≡ None) ⊎ (IsQuiet c ⊎ (c.ending ≡ Some Wrong))

  -- what a push takes is taken before the next step
  abbrev pub IsPassedOn : (now next : Config State) → Type 0
  IsPassedOn c d = (step_pushes (codes_in p.procedures) c ≡ true) × (taken p c ≤ taken p d)

  -- What is taken before the step and in it: little more than what stands there, or what the procedures take that are open behind it, or, where it is a push,
  -- what is taken before the next step and in that one.
  abbrev pub IsHeld : (now next : Config State) → Type 0
  IsHeld c d = IsQuiet c ⊎ ((taken p c ≤ all_whole p d) ⊎ (IsPassedOn c d ⊎ (d.ending ≡ Some Wrong)))

  abbrev Both : (now next : Config State) → Type 0
  Both c d = IsHeld c d × IsSettled d

  module _ (c : Config State) where
    abbrev instr : Option Instr
    instr = fetch (codes_in p.procedures) c.proc c.pc

    quiet_ends : (why : End) → IsQuiet c → Both c (ends c why)
    quiet_ends why q = (inl q, inr (inl q))

    quiet_goes : (d : Config State) → IsQuiet c → d.ending ≡ None → Both c d
    quiet_goes d q e = (inl q, inl e)

    wrongly : Both c (ends c Wrong)
    wrongly = (inr (inr (inr refl)), inr (inr refl))

    grown : (d : Config State) → taken p c ≤ all_whole p d → d.ending ≡ None → Both c d
    grown d h e = (inr (inl h), inl e)

    module _ (open' : IsOpen p c) (going : c.ending ≡ None) (asleep : c.woken ≡ None) where
      quiet : (i : Instr) → instr ≡ Some i → ((ws : List ℕ) → bytes_of ws ≡ kept_at ws i) → instr_takes p c.state (Some i) ≡ 0 → IsQuiet c
      quiet i e same none = (stack_few p c open' i e same, inl (ap (step_takes p c) asleep ∙ (ap (instr_takes p c.state) e ∙ none)))

      both_went : (w : Went State) → IsQuiet c → Both c (went c w)
      both_went (Goes s o) q = quiet_goes (record c { pc = suc c.pc; state = s; outside = o }) q going
      both_went (Raises code) q = quiet_ends (Stops code None) q
      both_went (Lacks address) q = quiet_ends (Wants address) q
      both_went Fails q = quiet_ends Wrong q

      pushes_here : (w : ℕ) (a : Operand) → instr ≡ Some (Plain (Push w a)) → step_pushes (codes_in p.procedures) c ≡ true
      pushes_here w a e =
          ap (λ o. next_pushes (codes_in p.procedures) c o c.woken) going ∙ ap (next_pushes (codes_in p.procedures) c None) asleep ∙ ap is_push e

      both_pushed : (w : ℕ) (a : Operand) → instr ≡ Some (Plain (Push w a)) → (v : Option ℕ)
          → Both c (went c (using v (λ x. Goes (pushing w x c.state) c.outside)))
      both_pushed w a e None = wrongly
      both_pushed w a e (Some x) =
          let takes = ap (step_takes p c) asleep ∙ ap (instr_takes p c.state) e in
          (inr (inr (inl (pushes_here w a e, omega (arith, takes)))), inl going)

      both_plain : (q : PlainInstr) → instr ≡ Some (Plain q) → Both c (went c (plain p q c.state c.outside))
      both_plain (Push w a) e = both_pushed w a e (value a c.state)
      both_plain (Copy to a) e = both_went (plain p (Copy to a) c.state c.outside) (quiet _ e (λ ws. refl) refl)
      both_plain (Compute x) e = both_went (plain p (Compute x) c.state c.outside) (quiet _ e (λ ws. refl) refl)
      both_plain (Product to a b) e = both_went (plain p (Product to a b) c.state c.outside) (quiet _ e (λ ws. refl) refl)
      both_plain (DivideSteps r d a) e = both_went (plain p (DivideSteps r d a) c.state c.outside) (quiet _ e (λ ws. refl) refl)
      both_plain (Load memory w to a) e = both_went (plain p (Load memory w to a) c.state c.outside) (quiet _ e (λ ws. refl) refl)
      both_plain (Store w a from) e = both_went (plain p (Store w a from) c.state c.outside) (quiet _ e (λ ws. refl) refl)
      both_plain (ReadDevice to address) e = both_went (plain p (ReadDevice to address) c.state c.outside) (quiet _ e (λ ws. refl) refl)
      both_plain (WriteDevice address a) e = both_went (plain p (WriteDevice address a) c.state c.outside) (quiet _ e (λ ws. refl) refl)
      both_plain (Pop w to) e = both_went (plain p (Pop w to) c.state c.outside) (quiet _ e (λ ws. refl) refl)
      both_plain (Find d to a) e = both_went (plain p (Find d to a) c.state c.outside) (quiet _ e (λ ws. refl) refl)
      both_plain (CodeOf q to) e = both_went (plain p (CodeOf q to) c.state c.outside) (quiet _ e (λ ws. refl) refl)
      both_plain (Stop code) e = both_went (plain p (Stop code) c.state c.outside) (quiet _ e (λ ws. refl) refl)

      both_branched : (wanted : Bool) (to : ℕ) (b : Option Bool) → IsQuiet c → Both c (branched c wanted to b)
      both_branched true to (Some true) q = quiet_goes (record c { pc = to }) q going
      both_branched true to (Some false) q = quiet_goes (record c { pc = suc c.pc }) q going
      both_branched false to (Some true) q = quiet_goes (record c { pc = suc c.pc }) q going
      both_branched false to (Some false) q = quiet_goes (record c { pc = to }) q going
      both_branched true to None q = quiet_ends Wrong q
      both_branched false to None q = quiet_ends Wrong q

      both_calls : (call : CallTo) (o : Option (Entry State)) → enter p call c.state ≡ o → instr ≡ Some (Call call)
          → Both c (calls (language p) c call o)
      both_calls call None eo e = wrongly
      both_calls call (Some entry) eo e =
          let takes =
          ap (step_takes p c) asleep ∙ ap (instr_takes p c.state) e
          ∙ ap (λ z. pushed_by_call (goes_by_registers call) (operands call.registers) + entry_takes p z) eo in
          let few = call_few p c open' ready call e (divided c.proc c.pc call e) entry (entered p call c.state entry eo) in
          let frame = frame_within p entry.proc in
          grown (calls (language p) c call (Some entry)) (omega (arith, takes, few, frame)) going

      both_back : (fs : List (Frame State)) (v : ℕ) → IsQuiet c → Both c (goes_back (language p) c fs v)
      both_back [] v q = quiet_ends Wrong q
      both_back (f ∷ fs) v q = (inl q, inl going)

      both_returns : (o : Option ℕ) → IsQuiet c → Both c (returns (language p) c o)
      both_returns (Some v) q = both_back c.frames v q
      both_returns None q = quiet_ends Wrong q

      both_takes : (vectors : List ℕ) → IsQuiet c → Both c (takes c vectors)
      both_takes [] q = quiet_ends Done q
      both_takes (v ∷ vs) q = (inl q, inl going)

      idling : instr ≡ Some Idle → IsQuiet c
      idling e =
          let takes = ap (step_takes p c) asleep ∙ ap (instr_takes p c.state) e in
          (stack_few p c open' Idle e (λ ws. refl), inr (omega (arith, takes), e))

      both_performed : (o : Option Instr) → instr ≡ o → Both c (performed (language p) c o)
      both_performed None e = wrongly
      both_performed (Some (Plain q)) e = both_plain q e
      both_performed (Some (When t to)) e = both_branched true to (holds t c.state) (quiet _ e (λ ws. refl) refl)
      both_performed (Some (Unless t to)) e = both_branched false to (holds t c.state) (quiet _ e (λ ws. refl) refl)
      both_performed (Some (Jump to)) e = quiet_goes (record c { pc = to }) (quiet _ e (λ ws. refl) refl) going
      both_performed (Some (Call call)) e = both_calls call (enter p call c.state) refl e
      both_performed (Some (Return w a)) e = both_returns (result w a c.state) (quiet _ e (λ ws. refl) refl)
      both_performed (Some Idle) e = both_takes c.outside.interrupts (idling e)

    both_handles : IsOpen p c → c.ending ≡ None → (v : ℕ) → c.woken ≡ Some v → (o : Option ℕ) → p.handler v ≡ o → Both c (handles (language p) c o)
    both_handles h going v woken None e =
        let takes = ap (step_takes p c) woken ∙ ap (λ z. 4 + handler_takes p z) e in
        (inl (stack_few p c h Idle (h.awake v woken) (λ ws. refl), inr (omega (arith, takes), h.awake v woken)), inl going)
    both_handles h going v woken (Some q) e =
        let takes = ap (step_takes p c) woken ∙ ap (λ z. 4 + handler_takes p z) e in
        let stands = stack_few p c h Idle (h.awake v woken) (λ ws. refl) in
        let frame = frame_within p q in grown (handles (language p) c (Some q)) (omega (arith, takes, stands, frame)) going

    ended_held : (why : End) → c.ending ≡ Some why → IsSettled c → Both c c
    ended_held why e (inl going) = absurd (none-some why (sym going ∙ e))
    ended_held why e (inr (inl q)) = (inl q, inr (inl q))
    ended_held why e (inr (inr w)) = (inr (inr (inr w)), inr (inr w))

    both_stepped : IsOpen p c → IsSettled c → (o : Option End) → c.ending ≡ o → (w : Option ℕ) → c.woken ≡ w
        → Both c (stepped (language p) (codes_in p.procedures) c o w)
    both_stepped h settled (Some why) eo w ew = ended_held why eo settled
    both_stepped h settled None eo (Some v) ew = both_handles h eo v ew (p.handler v) refl
    both_stepped h settled None eo None ew = both_performed h eo ew instr refl

    pub held : IsOpen p c → IsSettled c → IsHeld c (step (language p) (codes_in p.procedures) c)
    held h settled = (both_stepped h settled c.ending refl c.woken refl).0

    pub settled_next : IsOpen p c → IsSettled c → IsSettled (step (language p) (codes_in p.procedures) c)
    settled_next h settled = (both_stepped h settled c.ending refl c.woken refl).1
