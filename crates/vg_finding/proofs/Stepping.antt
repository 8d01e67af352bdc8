-- That a program whose procedures look up by finders does each step of the older one: from each configuration of a run of that, the newer one
-- leads to the same next one. A look-up is a call of a finder, or finds the same; all else is the same step.
use Rattle.std.specs.Prelude.{ℕ, Bool, true, false, List, [], ◌∷◌, ◌++◌, length, map, Option, Some, None, slice_get}
use Rattle.std.specs.List.{AllByRecursion}
use Rattle.std.specs.Option.{option_map}
use Rattle.std.proofs.Common.{◌≡◌, refl, sym, ap, ◌∙◌, subst}
use Rattle.std.proofs.lemmas.Option.{slice_get-map}
use Rattle.vg_codes.specs.declared.case.Case.{Case}
use Rattle.vg_codes.specs.Codes.{AreCodes}
use Rattle.vg_codes.specs.Dispatch.{cases_of, dispatched}
use Rattle.vg_meaning.specs.Outside.{Outside}
use Rattle.vg_meaning.specs.History.{Active}
use Rattle.vg_meaning.specs.Answer.{End, Wrong}
use Rattle.vg_lin.specs.declared.instr.Operand.{Operand}
use Rattle.vg_lin.specs.declared.instr.Plain.{Plain as PlainInstr}
use Rattle.vg_lin.specs.declared.instr.Plain.TheVariants.{Copy, Compute, Product, DivideSteps, Load, Store, ReadDevice, WriteDevice, Push, Pop, Find, CodeOf, Stop}
use Rattle.vg_lin.specs.declared.instr.Callee.{Callee}
use Rattle.vg_lin.specs.declared.instr.Callee.TheVariants.{Procedure as ByNumber, Code as ByCode}
use Rattle.vg_lin.specs.declared.instr.Memory.TheVariants.{Ram, Flash}
use Rattle.vg_lin.specs.declared.instr.Call.{Call as Calling}
use Rattle.vg_lin.specs.declared.instr.Instr.{Instr}
use Rattle.vg_lin.specs.declared.instr.Instr.TheVariants.{Plain, When, Unless, Jump, Call, Return, Idle}
use Rattle.vg_lin.specs.Program.{Procedure, Program}
use Rattle.vg_lin.specs.State.{State, value, using, sets, holds}
use Rattle.vg_lin.specs.Meaning.{with_code, begun, called, entry_of, entry_at, result, wake, widths_of, name_of, language, codes_in, first_state}
use Rattle.vg_lin.specs.Steps.{Result, Interrupt, Frame, Went, Goes, Raises, Lacks, Fails, Entry, Config, with_named, open_below, noted}
use Rattle.vg_lin.specs.Steps.{begins, went, branched, calls, goes_back, returns, takes, handles, performed, fetch, step}
use Rattle.vg_lin.specs.Follows.{Leads}
use Rattle.vg_lin.proofs.Followed.{leads_step}
use Rattle.vg_expand.specs.Unpushed.{is_push, next_pushes, step_pushes}
use Rattle.vg_expand.specs.Runs.{IsClosed}
use Rattle.vg_finding.specs.Finders.{finder, finder_in, looked_up, instr_found, with_finders}
use Rattle.vg_finding.specs.Found.{IsFinderOf, AreFound, with_dispatches}
use Rattle.vg_finding.proofs.Placed.{Has, has_within, found_at, finder_at, fetch_of}
use Rattle.vg_finding.proofs.Pushing.{found_pushes}
use Rattle.vg_finding.proofs.Entering.{entry_same, Enters, entry_enters}
use Rattle.vg_finding.proofs.Finding.{is_found_within, leads_by_finder}

module _ (p : Program) (count : ℕ) (ms : List Procedure) (ds : List (List Case)) (found : AreFound count p.dispatches ds p.procedures ms)
    (codes : AreCodes count p.codes) (closed : IsClosed p) where
  abbrev pub new : Program
  new = with_dispatches p ms ds

  -- ---- what does not look at procedures or dispatches is the same in both

  called_same : (c : Callee) (s : State) → called new c s ≡ called p c s
  called_same (ByNumber q) s = refl
  called_same (ByCode a) s = by_value (value a s)
    where
      by_value : (v : Option ℕ) → with_code new v ≡ with_code p v
      by_value (Some x) = refl
      by_value None = refl

  -- ---- where procedures stand

  at_number : (q : ℕ) (m : Procedure) → slice_get p.procedures q ≡ Some m → slice_get ms q ≡ Some (with_finders found.numbers m)
  at_number q m e = ap (λ z. slice_get z q) found.procedures ∙ found_at found.numbers p.procedures _ q m e

  fetch_same : (q : ℕ) (m : Procedure) → slice_get p.procedures q ≡ Some m → (at : ℕ)
      → fetch (codes_in ms) q at ≡ option_map (instr_found found.numbers) (slice_get m.code at)
  fetch_same q m e at =
      fetch_of ms q (with_finders found.numbers m) (at_number q m e) at ∙ slice_get-map (instr_found found.numbers) m.code at

  finder_there : (d k : ℕ) (i : IsFinderOf count (length p.procedures) p.dispatches ds found.finders d k) → slice_get ms k ≡ Some (finder i.dispatch)
  finder_there d k i =
      ap (λ z. slice_get z k) found.procedures ∙ ap (slice_get (map (with_finders found.numbers) p.procedures ++ map finder found.finders)) i.number
      ∙ finder_at found.numbers p.procedures found.finders i.place i.dispatch i.there

  -- a procedure that runs or waits is one of the first program
  abbrev AllHave : List (Frame State) → Type 0
  AllHave = AllByRecursion (λ (f : Frame State). Has p.procedures f.proc)

  abbrev pub Inside : Config State → Type 0
  Inside c = Has p.procedures c.proc × AllHave c.frames

  -- ---- names and openings

  name_same : (q : ℕ) → Has p.procedures q → name_of (slice_get ms q) ≡ name_of (slice_get p.procedures q)
  name_same q (m, e) = ap name_of (at_number q m e) ∙ sym (ap name_of e)

  below_same : (fs : List (Frame State)) → AllHave fs → open_below (language new) fs ≡ open_below (language p) fs
  below_same [] h = refl
  below_same (f ∷ fs) (h, hs) =
      ap (λ a. with_named a (open_below (language new) fs)) (name_same f.proc h)
      ∙ ap (with_named (name_of (slice_get p.procedures f.proc))) (below_same fs hs)

  begins_same : (c : Config State) (r : ℕ) (s : State) (f : Frame State) → Has p.procedures r → AllHave (f ∷ c.frames)
      → begins (language new) c r s f ≡ begins (language p) c r s f
  begins_same c r s f h hs =
      ap (λ a. record c {
        proc = r;
        pc = 0;
        state = s;
        frames = f ∷ c.frames;
        woken = None;
        openings = noted a (open_below (language new) (f ∷ c.frames)) c.openings;
      }) (name_same r h)
      ∙ ap (λ b. record c {
        proc = r;
        pc = 0;
        state = s;
        frames = f ∷ c.frames;
        woken = None;
        openings = noted (name_of (slice_get p.procedures r)) b c.openings;
      }) (below_same (f ∷ c.frames) hs)

  wake_same : (r : ℕ) (s : State) → Has p.procedures r → wake new r s ≡ wake p r s
  wake_same r s (m, e) =
      ap (λ k. record { locals = begun (widths_of k) []; waiting = []; ram = s.ram }) (at_number r m e)
      ∙ sym (ap (λ k. record { locals = begun (widths_of k) []; waiting = []; ram = s.ram }) e)

  -- ---- one step

  abbrev pub To : Config State → Config State → Type 0
  To c d = Leads (language new) (codes_in ms) 1 c d

  -- a step of the first program leads from c to x; the second one comes as far
  pub data Stepped (c x : Config State) : Type 0 where
    goes : To c x → Inside x → Stepped c x
    fails : x.ending ≡ Some Wrong → Stepped c x

  abbrev next : Config State → Config State
  next c = step (language new) (codes_in ms) c

  once : (c x : Config State) → next c ≡ x → Inside x → Stepped c x
  once c x e h = goes (leads_step (language new) (codes_in ms) c x e) h

  abbrev going : (q pc : ℕ) → State → List (Frame State) → Outside → List (List Active) → Config State
  going q pc s fs o opens = record { proc = q; pc = pc; state = s; frames = fs; woken = None; outside = o; openings = opens; ending = None }

  module _ (q pc : ℕ) (s : State) (fs : List (Frame State)) (o : Outside) (opens : List (List Active)) (h : Inside (going q pc s fs o opens)) where
    abbrev c : Config State
    c = going q pc s fs o opens

    by_went : (z : Went State) → next c ≡ went c z → Stepped c (went c z)
    by_went (Goes s1 o1) e = once c _ e h
    by_went (Raises code) e = once c _ e h
    by_went (Lacks address) e = once c _ e h
    by_went Fails e = fails refl

    -- a look-up
    by_finder : (d to : ℕ) (a : Operand) (n r : ℕ) → value a s ≡ Some n → dispatched p.dispatches d n ≡ Some r → (k : Option ℕ)
        → finder_in found.numbers d ≡ k → next c ≡ performed (language new) c (Some (looked_up k d to a))
        → Stepped c (went c (Goes (sets to (p.codes.code r) s) o))
    by_finder d to a n r e g None f t =
        once c _
        (t ∙ ap (λ v. went c (using v (λ n. using (dispatched ds d n) (λ r. Goes (sets to (p.codes.code r) s) o)))) e
        ∙ ap (λ v. went c (using v (λ r. Goes (sets to (p.codes.code r) s) o))) ((found.fewer.each d).covers n r g))
        h
    by_finder d to a n r e g (Some k) f t = by_place (found.each d k f)
      where
        by_place : IsFinderOf count (length p.procedures) p.dispatches ds found.finders d k → Stepped c (went c (Goes (sets to (p.codes.code r) s) o))
        by_place i =
            let small = is_found_within count (cases_of (slice_get p.dispatches d)) n r i.within g in
            let leads = leads_by_finder new k i.dispatch to a (finder_there d k i) q pc s fs o opens n r e small.0 (i.covers n r g) in
            goes (leads (codes.two_bytes r small.1) t) h

    find : (d to : ℕ) (a : Operand) → next c ≡ performed (language new) c (Some (looked_up (finder_in found.numbers d) d to a))
        → Stepped c (performed (language p) c (Some (Plain (Find d to a))))
    find d to a t = by_value (value a s) refl
      where
        by_dispatch : (n : ℕ) → value a s ≡ Some n → (r : Option ℕ) → dispatched p.dispatches d n ≡ r
            → Stepped c (went c (using r (λ r. Goes (sets to (p.codes.code r) s) o)))
        by_dispatch n e (Some r) g = by_finder d to a n r e g (finder_in found.numbers d) refl t
        by_dispatch n e None g = fails refl

        by_value : (v : Option ℕ) → value a s ≡ v
            → Stepped c (went c (using v (λ n. using (dispatched p.dispatches d n) (λ r. Goes (sets to (p.codes.code r) s) o))))
        by_value (Some n) e = by_dispatch n e (dispatched p.dispatches d n) refl
        by_value None e = fails refl

    plain_step : (i : PlainInstr) → next c ≡ performed (language new) c (Some (instr_found found.numbers (Plain i)))
        → Stepped c (performed (language p) c (Some (Plain i)))
    plain_step (Copy to a) t = by_went _ t
    plain_step (Compute i) t = by_went _ t
    plain_step (Product to a b) t = by_went _ t
    plain_step (DivideSteps r e a) t = by_went _ t
    plain_step (Load Ram w to a) t = by_went _ t
    plain_step (Load Flash w to a) t = by_went _ t
    plain_step (Store w a from) t = by_went _ t
    plain_step (ReadDevice to address) t = by_went _ t
    plain_step (WriteDevice address a) t = by_went _ t
    plain_step (Push w a) t = by_went _ t
    plain_step (Pop w to) t = by_went _ t
    plain_step (Find d to a) t = find d to a t
    plain_step (CodeOf r to) t = once c _ t h
    plain_step (Stop code) t = once c _ t h

    by_test : (wanted : Bool) (to : ℕ) (b : Option Bool) → next c ≡ branched c wanted to b → Stepped c (branched c wanted to b)
    by_test true to (Some true) t = once c _ t h
    by_test true to (Some false) t = once c _ t h
    by_test false to (Some true) t = once c _ t h
    by_test false to (Some false) t = once c _ t h
    by_test wanted to None t = fails refl

    call : (i : Calling) → next c ≡ performed (language new) c (Some (Call i)) → Stepped c (performed (language p) c (Some (Call i)))
    call i t = by_callee (called p i.callee s) (t ∙ ap (λ k. calls (language new) c i (entry_at new k i s)) (called_same i.callee s))
      where
        by_entry : (r : ℕ) (m : Procedure) → slice_get p.procedures r ≡ Some m → (x : Option (Entry State)) → Enters r x
            → next c ≡ calls (language new) c i x → Stepped c (calls (language p) c i x)
        by_entry r m e None f t = fails refl
        by_entry r m e (Some x) f t =
            let there : Has p.procedures x.proc = subst (Has p.procedures) (sym f) (m, e) in
            once c _ (t ∙ begins_same c x.proc x.state (record { proc = q; pc = pc; kept = x.kept; awaits = Result i }) there h) (there, h)

        by_procedure : (r : ℕ) (m : Option Procedure) → slice_get p.procedures r ≡ m
            → next c ≡ calls (language new) c i (entry_of r (slice_get ms r) i s) → Stepped c (calls (language p) c i (entry_of r m i s))
        by_procedure r None e t = fails refl
        by_procedure r (Some m) e t =
            by_entry r m e (entry_of r (Some m) i s) (entry_enters r m i s)
            (t ∙ ap (λ z. calls (language new) c i (entry_of r z i s)) (at_number r m e) ∙ ap (calls (language new) c i) (entry_same found.numbers r m i s))

        by_callee : (k : Option ℕ) → next c ≡ calls (language new) c i (entry_at new k i s) → Stepped c (calls (language p) c i (entry_at p k i s))
        by_callee None t = fails refl
        by_callee (Some r) t = by_procedure r (slice_get p.procedures r) refl t

    return : (width : ℕ) (a : Operand) → next c ≡ performed (language new) c (Some (Return width a))
        → Stepped c (performed (language p) c (Some (Return width a)))
    return width a t = by_value (result width a s) t
      where
        to_caller : (v : ℕ) (gs : List (Frame State)) → AllHave gs → next c ≡ goes_back (language new) c gs v → Stepped c (goes_back (language p) c gs v)
        to_caller v [] hs t = fails refl
        to_caller v (f ∷ gs) hs t = once c _ t hs

        by_value : (v : Option ℕ) → next c ≡ returns (language new) c v → Stepped c (returns (language p) c v)
        by_value None t = fails refl
        by_value (Some v) t = to_caller v fs h.1 t

    idle : next c ≡ performed (language new) c (Some Idle) → Stepped c (performed (language p) c (Some Idle))
    idle t = by_interrupts o.interrupts t
      where
        by_interrupts : (vs : List ℕ) → next c ≡ takes c vs → Stepped c (takes c vs)
        by_interrupts [] t = once c _ t h
        by_interrupts (v ∷ vs) t = once c _ t h

    by_instr : (i : Instr) → next c ≡ performed (language new) c (Some (instr_found found.numbers i)) → Stepped c (performed (language p) c (Some i))
    by_instr (Plain i) t = plain_step i t
    by_instr (When test to) t = by_test true to (holds test s) t
    by_instr (Unless test to) t = by_test false to (holds test s) t
    by_instr (Jump to) t = once c _ t h
    by_instr (Call i) t = call i t
    by_instr (Return width a) t = return width a t
    by_instr Idle t = idle t

    at_place : Stepped c (step (language p) (codes_in p.procedures) c)
    at_place = in_procedure h.0
      where
        by_fetch : (m : Procedure) → slice_get p.procedures q ≡ Some m → (i : Option Instr) → slice_get m.code pc ≡ i
            → Stepped c (performed (language p) c i)
        by_fetch m e (Some i) f =
            by_instr i (ap (performed (language new) c) (fetch_same q m e pc ∙ ap (option_map (instr_found found.numbers)) f))
        by_fetch m e None f = fails refl

        in_procedure : Has p.procedures q → Stepped c (step (language p) (codes_in p.procedures) c)
        in_procedure (m, e) =
            subst (λ i. Stepped c (performed (language p) c i)) (sym (fetch_of p.procedures q m e pc)) (by_fetch m e (slice_get m.code pc) refl)

  -- the handler of an interrupt is called, where there is one
  abbrev taken : ℕ → Config State → Config State
  taken v c = record c { woken = Some v }

  handled : (v q pc : ℕ) (s : State) (fs : List (Frame State)) (o : Outside) (opens : List (List Active)) → Inside (going q pc s fs o opens)
      → Stepped (taken v (going q pc s fs o opens)) (handles (language p) (taken v (going q pc s fs o opens)) (p.handler v))
  handled v q pc s fs o opens h = by_handler (p.handler v) refl refl
    where
      d : Config State
      d = taken v (going q pc s fs o opens)

      by_handler : (k : Option ℕ) → p.handler v ≡ k → next d ≡ handles (language new) d k → Stepped d (handles (language p) d k)
      by_handler None e t = once d _ t h
      by_handler (Some r) e t =
          let there = has_within p.procedures r (closed.handlers v r e) in
          let f : Frame State = record { proc = q; pc = pc; kept = s; awaits = Interrupt } in
          once d _ (t ∙ begins_same d r (wake new r s) f there h ∙ ap (λ z. begins (language p) d r z f) (wake_same r s there)) (there, h)

  abbrev in_parts : Config State → Option End → Option ℕ → Config State
  in_parts c e v = record c { woken = v; ending = e }

  pub step_same : (c : Config State) → Inside c → Stepped c (step (language p) (codes_in p.procedures) c)
  step_same c h = by_parts c.ending c.woken
    where
      by_parts : (e : Option End) (v : Option ℕ) → Stepped (in_parts c e v) (step (language p) (codes_in p.procedures) (in_parts c e v))
      by_parts (Some why) v = once (in_parts c (Some why) v) _ refl h
      by_parts None (Some v) = handled v c.proc c.pc c.state c.frames c.outside c.openings h
      by_parts None None = at_place c.proc c.pc c.state c.frames c.outside c.openings h

  -- ---- pushes

  pub pushes_same : (c : Config State) → Inside c → step_pushes (codes_in ms) c ≡ step_pushes (codes_in p.procedures) c
  pushes_same c h = by_parts c.ending c.woken h.0
    where
      by_parts : (e : Option End) (v : Option ℕ) → Has p.procedures c.proc → next_pushes (codes_in ms) c e v ≡ next_pushes (codes_in p.procedures) c e v
      by_parts (Some why) v g = refl
      by_parts None (Some v) g = refl
      by_parts None None (m, e) =
          ap is_push (fetch_same c.proc m e c.pc) ∙ found_pushes found.numbers (slice_get m.code c.pc)
          ∙ sym (ap is_push (fetch_of p.procedures c.proc m e c.pc))

  -- ---- the beginning

  pub begins_inside : Has p.procedures p.start
  begins_inside = has_within p.procedures p.start closed.start

  pub first_same : first_state new ≡ first_state p
  first_same = wake_same p.start (first_state p) begins_inside
