-- What one step of linear code does to the procedures that are open.
use Rattle.std.specs.Prelude.{ℕ, zero, suc, ◌+◌, ◌<◌, ◌==◌, Bool, true, false, List, [], ◌∷◌, length, drop, Option, Some, None, slice_get, if◌then◌else◌}
use Rattle.std.proofs.Common.{◌≡◌, refl, sym, ap, ◌∙◌}
use Rattle.std.proofs.lemmas.List.{drop-map}
use Rattle.std.proofs.lemmas.Option.{same_Some, none-some}
use Rattle.vg_meaning.specs.Answer.{End, Stops, Wants, Done, Wrong}
use Rattle.vg_meaning.specs.Outside.{Outside}
use Rattle.vg_codes.specs.Dispatch.{dispatched}
use Rattle.vg_lin.specs.declared.instr.Plain.{Plain as PlainInstr}
use Rattle.vg_lin.specs.declared.instr.Plain.TheVariants.{Copy, Compute, Product, DivideSteps, Load, Store, ReadDevice, WriteDevice, Push, Pop, Find, CodeOf, Stop}
use Rattle.vg_lin.specs.declared.instr.Memory.TheVariants.{Ram}
use Rattle.vg_lin.specs.declared.instr.Call.{Call as Calling}
use Rattle.vg_lin.specs.declared.instr.Target.{Target}
use Rattle.vg_lin.specs.declared.instr.Instr.{Instr}
use Rattle.vg_lin.specs.declared.instr.Instr.TheVariants.{Plain, When, Unless, Jump, Call, Return, Idle}
use Rattle.vg_lin.specs.declared.instr.Operand.{Operand}
use Rattle.vg_lin.specs.declared.instr.Operand.TheVariants.{Local}
use Rattle.vg_lin.specs.Meaning.{language, codes_in, enter, result, resume, with_result, wake}
use Rattle.vg_lin.specs.Program.{Procedure, Program}
use Rattle.vg_lin.specs.Sound.{behind, behind_plain, waits_of, GoesOn, PlainWaits, Waits}
use Rattle.vg_lin.specs.State.{State, Waiting, value, using, sets, stores, loaded, number_at, index_of, pops_from, reads_from, division_steps, divides, plain, holds}
use Rattle.vg_lin.specs.Values.{computed, next_remainder, next_dividend}
use Rattle.vg_lin.specs.Steps.{Awaits, Result, Interrupt, Frame, Went, Goes, Raises, Lacks, Fails, Entry, Config, begins, ends, went, branched, calls, goes_back, returns}
use Rattle.vg_lin.specs.Steps.{takes, handles, performed, fetch, stepped, step}
use Rattle.vg_lin.proofs.Scanned.{waits_marked}
use Rattle.vg_open_calls.specs.Open.{IsReady, waiting_widths, HasWaits, argument_widths, IsPassing, IsOpener, AreOpen, IsAwake, IsOpen}
use Rattle.vg_open_calls.proofs.Entering.{entered, entered_widths}

-- A step stays in a procedure, opens another one above it, or closes it.
pub data Move (p : Program) (c : Config State) : Config State → Type 0 where
  stays : {d : Config State} → d.proc ≡ c.proc → d.frames ≡ c.frames → d.openings ≡ c.openings → HasWaits p d.proc d.pc d.state → IsAwake p d → Move p c d
  opens : {q : ℕ} {s : State} {f : Frame State} → IsOpener p q f f.awaits → f.proc ≡ c.proc → HasWaits p f.proc (suc f.pc) f.kept → HasWaits p q 0 s
      → Move p c (begins (language p) c q s f)
  closes : {f : Frame State} {fs : List (Frame State)} {s : State} → c.frames ≡ f ∷ fs → c.woken ≡ None → HasWaits p f.proc (suc f.pc) s
      → Move p c (record c { proc = f.proc; pc = suc f.pc; state = s; frames = fs })

-- ---- plain instructions

-- The place is one of the code, and what waits has these widths.
abbrev GoesTo : Procedure → (at : ℕ) → (held : List ℕ) → Went State → Type 0
GoesTo m at held (Goes s o) = (at < length m.code) × (waiting_widths s.waiting ≡ held)
GoesTo m at held _ = Unit {0}

with_value : (m : Procedure) (at : ℕ) (held : List ℕ) (v : Option ℕ) (go : ℕ → Went State) → ((x : ℕ) → GoesTo m at held (go x)) → GoesTo m at held (using v go)
with_value m at held (Some x) go h = h x
with_value m at held None go h = tt

pops : (m : Procedure) (at : ℕ) → at < length m.code → (xs : List Waiting) (w to : ℕ) (s : State) (o : Outside)
    → GoesTo m at (drop 1 (waiting_widths xs)) (pops_from xs w to s o)
pops m at h [] w to s o = tt
pops m at h (x ∷ xs) w to s o = by_test (x.width == w)
  where
    by_test : (b : Bool) → GoesTo m at (waiting_widths xs) (if b then Goes (sets to x.value (record s { waiting = xs })) o else Fails)
    by_test true = (h, refl)
    by_test false = tt

reads : (m : Procedure) (at : ℕ) → at < length m.code → (vs : List ℕ) (to address : ℕ) (s : State) (o : Outside)
    → GoesTo m at (waiting_widths s.waiting) (reads_from vs to address s o)
reads m at h [] to address s o = tt
reads m at h (v ∷ vs) to address s o = (h, refl)

stored : (m : Procedure) (at : ℕ) → at < length m.code → (s : State) (o : Outside) (w x : ℕ) (i : Option ℕ)
    → GoesTo m at (waiting_widths s.waiting) (stores s o w x i)
stored m at h s o w x None = tt
stored m at h s o w x (Some i) = with_value m at (waiting_widths s.waiting) (number_at s.ram w i) _ (λ old. (h, refl))

divided : (m : Procedure) (at : ℕ) → at < length m.code → (n r d : ℕ) (a : Operand) (s : State) (o : Outside)
    → GoesTo m at (waiting_widths s.waiting) (divides n r d a s o)
divided m at h zero r d a s o = (h, refl)
divided m at h (suc n) r d a s o =
    with_value m at (waiting_widths s.waiting) (value (Local r) s) _ (λ x. with_value m at (waiting_widths s.waiting) (value (Local d) s) _ (λ y.
    with_value m at (waiting_widths s.waiting) (value a s) _ (λ z.
    divided m at h n r d a (sets d (next_dividend x y z) (sets r (next_remainder x y z) s)) o)))

module _ (p : Program) (m : Procedure) (at : ℕ) (s : State) (o : Outside) where
  abbrev held : List ℕ
  held = waiting_widths s.waiting

  plain_goes : (q : PlainInstr) → PlainWaits m (waits_of m) at q → GoesTo m (suc at) (behind_plain q held) (plain p q s o)
  plain_goes (Copy to a) h = with_value m (suc at) held (value a s) _ (λ x. (h.0, refl))
  plain_goes (Compute c) h =
      with_value m (suc at) held (value c.left s) _ (λ x. with_value m (suc at) held (value c.right s) _ (λ y.
      with_value m (suc at) held (computed c.operator c.width x y) _ (λ z. (h.0, refl))))
  plain_goes (Product to a b) h = with_value m (suc at) held (value a s) _ (λ x. with_value m (suc at) held (value b s) _ (λ y. (h.0, refl)))
  plain_goes (DivideSteps r d a) h = divided m (suc at) h.0 division_steps r d a s o
  plain_goes (Load memory w to a) h =
      with_value m (suc at) held (value a.index s) _ (λ i.
      with_value m (suc at) held (loaded p memory s w (index_of memory (a.base + i))) _ (λ x. (h.0, refl)))
  plain_goes (Store w a from) h =
      with_value m (suc at) held (value a.index s) _ (λ i. with_value m (suc at) held (value from s) _ (λ x.
      stored m (suc at) h.0 s o w x (index_of Ram (a.base + i))))
  plain_goes (ReadDevice to address) h = reads m (suc at) h.0 o.reads to address s o
  plain_goes (WriteDevice address a) h = with_value m (suc at) held (value a s) _ (λ x. (h.0, refl))
  plain_goes (Push w a) h = with_value m (suc at) (w ∷ held) (value a s) _ (λ x. (h.0, refl))
  plain_goes (Pop w to) h = pops m (suc at) h.2.0 s.waiting w to s o
  plain_goes (Find d to a) h =
      with_value m (suc at) held (value a s) _ (λ n. with_value m (suc at) held (dispatched p.dispatches d n) _ (λ q. (h.0, refl)))
  plain_goes (CodeOf q to) h = (h.0, refl)
  plain_goes (Stop code) h = tt

-- ---- steps

pub fetch_in : (ps : List Procedure) (q : ℕ) (m : Procedure) → slice_get ps q ≡ Some m → (at : ℕ) → fetch (codes_in ps) q at ≡ slice_get m.code at
fetch_in [] q m e at = absurd (none-some m e)
fetch_in (a ∷ ps) zero m e at = ap (λ x. slice_get x.code at) (same_Some a m e)
fetch_in (a ∷ ps) (suc q) m e at = fetch_in ps q m e at

kept_waiting : (awaits : Awaits) (kept returned : State) (v : ℕ) → (resume awaits kept returned v).waiting ≡ kept.waiting
kept_waiting Interrupt kept returned v = refl
kept_waiting (Result call) kept returned v = by_target call.to
  where
    by_target : (to : Option Target) → (with_result to v (record kept { ram = returned.ram })).waiting ≡ kept.waiting
    by_target None = refl
    by_target (Some to) = refl

module _ (p : Program) (ready : IsReady p) where
  abbrev procs : List (List Instr)
  procs = codes_in p.procedures

  -- an instruction of a sound procedure
  instr_waits : (m pc : ℕ) (s : State) (h : HasWaits p m pc s) (i : Instr) → fetch procs m pc ≡ Some i → Waits h.procedure (waits_of h.procedure) pc i
  instr_waits m pc s h i e = (ready.sound m h.procedure h.there).goes_on pc i (sym (fetch_in p.procedures m h.procedure h.there pc) ∙ e)

  same_waiting : (m pc : ℕ) (s t : State) → t.waiting ≡ s.waiting → HasWaits p m pc s → HasWaits p m pc t
  same_waiting m pc s t e h = record { procedure = h.procedure; there = h.there; within = h.within; waits = ap waiting_widths e ∙ h.waits }

  -- a place with these widths
  at_place : (m pc to : ℕ) (s t : State) (h : HasWaits p m pc s) → to < length h.procedure.code → waiting_widths t.waiting ≡ waits_of h.procedure to
      → HasWaits p m to t
  at_place m pc to s t h within waits = record { procedure = h.procedure; there = h.there; within = within; waits = waits }

  pub first_place : (m : ℕ) (procedure : Procedure) (s : State) → slice_get p.procedures m ≡ Some procedure → s.waiting ≡ [] → HasWaits p m 0 s
  first_place m procedure s there e =
      record { procedure = procedure; there = there; within = (ready.sound m procedure there).begins.0; waits = ap waiting_widths e }

  module _ (c : Config State) (now : IsOpen p c) where
    abbrev M : Procedure
    M = now.here.procedure

    waits_here : (i : Instr) → fetch procs c.proc c.pc ≡ Some i → Waits M (waits_of M) c.pc i
    waits_here i e = instr_waits c.proc c.pc c.state now.here i e

    -- what waits behind an instruction is what it leaves
    marked : (i : Instr) → fetch procs c.proc c.pc ≡ Some i → waits_of M (suc c.pc) ≡ behind i (waits_of M c.pc)
    marked i e = waits_marked [] M.code c.pc i (sym (fetch_in p.procedures c.proc M now.here.there c.pc) ∙ e)

    ending : (why : End) → Move p c (ends c why)
    ending why = stays refl refl refl now.here now.awake

    module _ (asleep : c.woken ≡ None) where
      sleeping : (d : Config State) → d.woken ≡ c.woken → IsAwake p d
      sleeping d e v h = absurd (none-some v (sym (e ∙ asleep) ∙ h))

      going : (to : ℕ) (s : State) (o : Outside) → to < length M.code → waiting_widths s.waiting ≡ waits_of M to
          → Move p c (record c { pc = to; state = s; outside = o })
      going to s o within waits = stays refl refl refl (at_place c.proc c.pc to c.state s now.here within waits)
          (sleeping (record c { pc = to; state = s; outside = o }) refl)

      jumping : (to : ℕ) → GoesOn M (waits_of M) to (waits_of M c.pc) → Move p c (record c { pc = to })
      jumping to (within, same) = going to c.state c.outside within (now.here.waits ∙ sym same)

      moves_went : (q : PlainInstr) (w : Went State) → fetch procs c.proc c.pc ≡ Some (Plain q)
          → GoesTo M (suc c.pc) (behind_plain q (waiting_widths c.state.waiting)) w → Move p c (went c w)
      moves_went q (Goes s o) e (within, waits) =
          going (suc c.pc) s o within (waits ∙ ap (behind_plain q) now.here.waits ∙ sym (marked (Plain q) e))
      moves_went q (Raises code) e h = ending (Stops code None)
      moves_went q (Lacks address) e h = ending (Wants address)
      moves_went q Fails e h = ending Wrong

      moves_branched : (wanted : Bool) (to : ℕ) (b : Option Bool) → GoesOn M (waits_of M) to (waits_of M c.pc)
          → GoesOn M (waits_of M) (suc c.pc) (waits_of M c.pc) → Move p c (branched c wanted to b)
      moves_branched true to (Some true) h k = jumping to h
      moves_branched true to (Some false) h k = jumping (suc c.pc) k
      moves_branched false to (Some true) h k = jumping (suc c.pc) k
      moves_branched false to (Some false) h k = jumping to h
      moves_branched true to None h k = ending Wrong
      moves_branched false to None h k = ending Wrong

      moves_calls : (call : Calling) (o : Option (Entry State)) → enter p call c.state ≡ o → fetch procs c.proc c.pc ≡ Some (Call call)
          → Move p c (calls (language p) c call o)
      moves_calls call None eo e = ending Wrong
      moves_calls call (Some entry) eo e =
          let x = entered p call c.state entry eo in
          let w = waits_here (Call call) e in
          let passing : IsPassing p c.proc c.pc call entry.proc = record {
            caller = M;
            calls = now.here.there;
            callee = x.procedure;
            there = x.there;
            widths = entered_widths p call c.state entry x ∙ ap (λ ws. argument_widths ws call) now.here.waits;
          } in
          opens (e, x.aim, passing) refl
          (at_place c.proc c.pc (suc c.pc) c.state entry.kept now.here w.1.0
          (ap waiting_widths x.kept ∙ sym (drop-map (λ (z : Waiting). z.width) call.pushed c.state.waiting) ∙ ap (drop call.pushed) now.here.waits ∙ sym w.1.1))
          (first_place entry.proc x.procedure entry.state x.there x.empty)

      moves_back : (fs : List (Frame State)) → c.frames ≡ fs → AreOpen p c.proc fs → (v : ℕ) → Move p c (goes_back (language p) c fs v)
      moves_back [] e h v = ending Wrong
      moves_back (f ∷ fs) e (opener, (waits, rest)) v =
          closes e asleep (same_waiting f.proc (suc f.pc) f.kept (resume f.awaits f.kept c.state v) (kept_waiting f.awaits f.kept c.state v) waits)

      moves_returns : (o : Option ℕ) → Move p c (returns (language p) c o)
      moves_returns (Some v) = moves_back c.frames refl now.callers v
      moves_returns None = ending Wrong

      moves_takes : (vectors : List ℕ) → fetch procs c.proc c.pc ≡ Some Idle → Move p c (takes c vectors)
      moves_takes [] e = ending Done
      moves_takes (v ∷ vs) e = stays refl refl refl now.here (λ u h. e)

      moves_performed : (o : Option Instr) → fetch procs c.proc c.pc ≡ o → Move p c (performed (language p) c o)
      moves_performed None e = ending Wrong
      moves_performed (Some (Plain q)) e =
          moves_went q (plain p q c.state c.outside) e (plain_goes p M c.pc c.state c.outside q (waits_here (Plain q) e))
      moves_performed (Some (When t to)) e = let w = waits_here (When t to) e in moves_branched true to (holds t c.state) w.0.1 w.1
      moves_performed (Some (Unless t to)) e = let w = waits_here (Unless t to) e in moves_branched false to (holds t c.state) w.0.1 w.1
      moves_performed (Some (Jump to)) e = let w = waits_here (Jump to) e in jumping to w.1
      moves_performed (Some (Call call)) e = moves_calls call (enter p call c.state) refl e
      moves_performed (Some (Return w a)) e = moves_returns (result w a c.state)
      moves_performed (Some Idle) e = moves_takes c.outside.interrupts e

    moves_handles : (v : ℕ) → c.woken ≡ Some v → (o : Option ℕ) → p.handler v ≡ o → Move p c (handles (language p) c o)
    moves_handles v woken None e =
        let w = waits_here Idle (now.awake v woken) in
        stays refl refl refl (at_place c.proc c.pc (suc c.pc) c.state c.state now.here w.0 (now.here.waits ∙ sym w.1)) (λ u h. absurd (none-some u h))
    moves_handles v woken (Some q) e =
        let w = waits_here Idle (now.awake v woken) in
        let there = ready.handlers v q e in
        opens (now.awake v woken, (v, e)) refl
        (at_place c.proc c.pc (suc c.pc) c.state c.state now.here w.0 (now.here.waits ∙ sym w.1))
        (first_place q there.0 (wake p q c.state) there.1 refl)

    moves_stepped : (o : Option End) (w : Option ℕ) → c.woken ≡ w → Move p c (stepped (language p) procs c o w)
    moves_stepped (Some why) w e = stays refl refl refl now.here now.awake
    moves_stepped None (Some v) e = moves_handles v e (p.handler v) refl
    moves_stepped None None e = moves_performed e (fetch procs c.proc c.pc) refl

    pub moves : Move p c (step (language p) procs c)
    moves = moves_stepped c.ending c.woken refl
