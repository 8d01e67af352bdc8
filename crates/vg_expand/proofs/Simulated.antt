-- That a program with expanded procedures does what it did. Both are at places that stand for one another, in the same state, under
-- frames that do; each step of the first is one or more of the second, by cases of its instruction, and whole runs follow by induction.
use Rattle.std.specs.Prelude.{◌≢◌, ℕ, zero, suc, ◌<◌, ◌≤◌, Bool, true, false, not, ◌==◌, ◌&&◌, List, [], ◌∷◌, ◌++◌, length, take, drop, reverse}
use Rattle.std.specs.Prelude.{Option, Some, None, slice_get, if◌then◌else◌}
use Rattle.std.proofs.Common.{◌≡◌, refl, sym, ap, ◌∙◌, subst, arith, inl, inr, ◌⊎◌}
use Rattle.vg_meaning.specs.declared.event.Event.TheVariants.{Enter}
use Rattle.vg_meaning.specs.Outside.{Outside, before, with_event}
use Rattle.vg_meaning.specs.History.{Active, History}
use Rattle.vg_meaning.specs.World.{World, Running}
use Rattle.vg_meaning.specs.Answer.{End, Stops, Wants, Done, Wrong}
use Rattle.vg_lin.specs.declared.instr.Operand.{Operand}
use Rattle.vg_lin.specs.declared.instr.Computation.{Computation}
use Rattle.vg_lin.specs.declared.instr.Plain.{Plain as PlainInstr}
use Rattle.vg_lin.specs.declared.instr.Plain.TheVariants.{Copy, Compute, Product, DivideSteps, Load, Store, ReadDevice, WriteDevice, Push, Pop, Find, CodeOf, Stop}
use Rattle.vg_lin.specs.declared.instr.Callee.{Callee}
use Rattle.vg_lin.specs.declared.instr.Callee.TheVariants.{Procedure as ByNumber, Code as ByCode}
use Rattle.vg_lin.specs.declared.instr.Memory.TheVariants.{Ram, Flash}
use Rattle.vg_lin.specs.declared.instr.Target.{Target}
use Rattle.vg_lin.specs.declared.instr.Call.{Call as Calling}
use Rattle.vg_lin.specs.declared.instr.Instr.{Instr}
use Rattle.vg_lin.specs.declared.instr.Instr.TheVariants.{Plain, When, Unless, Jump, Call, Return, Idle}
use Rattle.vg_lin.specs.Values.{computed}
use Rattle.vg_lin.specs.Sound.{IsSound}
use Rattle.vg_lin.specs.Program.{Procedure, Program}
use Rattle.vg_lin.specs.State.{LocalState, Waiting, State, value, using, sets, computes, plain, holds}
use Rattle.vg_lin.specs.Meaning.{with_code}
use Rattle.vg_lin.specs.Meaning.{begun, called, entry_with, entry_of, entry_at, values, values_of, operands, same_widths, gives_to, result}
use Rattle.vg_lin.specs.Meaning.{resume, wake, widths_of, call_of, name_of, language, codes_in, at_start}
use Rattle.vg_lin.specs.Steps.{stepped}
use Rattle.vg_lin.specs.Steps.{Awaits, Result, Interrupt, Frame, Went, Goes, Raises, Lacks, Fails, Entry, Config, with_named, open_below, noted}
use Rattle.vg_lin.specs.Steps.{begins, went, branched, calls, goes_back, returns, takes, handles, performed, step, steps}
use Rattle.vg_lin.specs.Turns.{one_more}
use Rattle.vg_lin.specs.Follows.{Leads}
use Rattle.vg_lin.proofs.Followed.{leads_step}
use Rattle.vg_arith.proofs.ShiftRoutines.{fetch_of}
use Rattle.vg_expand.specs.Expansion.{HasRoutines, Holds, Does, Kept, PlainStands, StandsFor, Expands}
use Rattle.vg_expand.specs.Unpushed.{is_push, step_pushes, unpushed}
use Rattle.vg_expand.specs.Runs.{with_procedures, AllExpand, IsClosed, ShowsSame, RunsAs}
use Rattle.vg_expand.proofs.Unpushed.{unpushed_within, leads_unpushed, ended_unpushed}
use Rattle.vg_expand.proofs.Holding.{begun_holds, sets_holds, Keeps, plain_keeps, resume_holds}

-- ---- the entry of a call

-- an entry of a procedure with these locals: its locals are held, and the caller keeps its own
pub record Enters (ws : List ℕ) (r : ℕ) (s : State) (e : Entry State) : Type 0 where
  pub proc : e.proc ≡ r
  pub holds : Holds ws e.state.locals
  pub kept : e.kept.locals ≡ s.locals

abbrev pub EntersAt : List ℕ → ℕ → State → Option (Entry State) → Type 0
EntersAt ws r s (Some e) = Enters ws r s e
EntersAt ws r s None = Unit {0}

entry_if : (ws : List ℕ) (r : ℕ) (s : State) (b : Bool) (o : Option (Entry State)) → EntersAt ws r s o → EntersAt ws r s (if b then o else None)
entry_if ws r s true o h = h
entry_if ws r s false o h = tt {0}

entry_with_enters : (r : ℕ) (m : Procedure) (to : Option Target) (pushed : List Waiting) (s kept : State) (o : Option (List Waiting))
    → kept.locals ≡ s.locals → EntersAt m.widths r s (entry_with r m to pushed kept o)
entry_with_enters r m to pushed s kept None h = tt {0}
entry_with_enters r m to pushed s kept (Some xs) h =
    entry_if m.widths r s ((length (pushed ++ xs) == m.params) && same_widths m.widths (pushed ++ xs) && gives_to m.result to) _
    (record { proc = refl; holds = begun_holds m.widths (values_of (pushed ++ xs)); kept = h })

entry_enters : (r : ℕ) (m : Procedure) (c : Calling) (s : State) → EntersAt m.widths r s (entry_of r (Some m) c s)
entry_enters r m c s =
    entry_if m.widths r s (length (take c.pushed s.waiting) == c.pushed) _
    (entry_with_enters r m c.to (reverse (take c.pushed s.waiting)) s (record s { waiting = drop c.pushed s.waiting }) (values (operands c.registers) s) refl)

-- procedures with the same locals have the same entries
entry_with_same : (r : ℕ) (m n : Procedure) (to : Option Target) (pushed : List Waiting) (kept : State) (o : Option (List Waiting))
    → n.params ≡ m.params → n.result ≡ m.result → n.widths ≡ m.widths → entry_with r n to pushed kept o ≡ entry_with r m to pushed kept o
entry_with_same r m n to pushed kept None e f h = refl
entry_with_same r m n to pushed kept (Some xs) e f h =
    ap (λ a. by_parts a n.result n.widths) e ∙ ap (λ b. by_parts m.params b n.widths) f ∙ ap (λ ws. by_parts m.params m.result ws) h
  where
    by_parts : (params result : ℕ) → List ℕ → Option (Entry State)
    by_parts a b ws =
        if (length (pushed ++ xs) == a) && same_widths ws (pushed ++ xs) && gives_to b to
        then Some (record { proc = r; state = record { locals = begun ws (values_of (pushed ++ xs)); waiting = []; ram = kept.ram }; kept = kept })
        else None

entry_same : (r : ℕ) (m n : Procedure) (c : Calling) (s : State) → n.params ≡ m.params → n.result ≡ m.result → n.widths ≡ m.widths
    → entry_of r (Some n) c s ≡ entry_of r (Some m) c s
entry_same r m n c s e f h =
    ap (λ o. if length (take c.pushed s.waiting) == c.pushed then o else None)
    (entry_with_same r m n c.to (reverse (take c.pushed s.waiting)) (record s { waiting = drop c.pushed s.waiting }) (values (operands c.registers) s) e f h)

pub within : {A : Type 0} (xs : List A) (k : ℕ) → k < length xs → (x : A) × (slice_get xs k ≡ Some x)
within [] k h = absurd (omega arith)
within (x ∷ xs) zero h = (x, refl)
within (x ∷ xs) (suc k) h = within xs k (omega arith)

module _ (first : ℕ) (p : Program) (ms : List Procedure) (all : AllExpand first p.procedures ms) (routines : HasRoutines first (with_procedures p ms))
    (closed : IsClosed p) where
  abbrev pub new : Program
  new = with_procedures p ms

  -- what does not look at procedures is the same in both
  plain_same : (i : PlainInstr) (s : State) (o : Outside) → plain new i s o ≡ plain p i s o
  plain_same (Copy to a) s o = refl
  plain_same (Compute c) s o = refl
  plain_same (Product to a b) s o = refl
  plain_same (DivideSteps r d a) s o = refl
  plain_same (Load Ram w to a) s o = refl
  plain_same (Load Flash w to a) s o = refl
  plain_same (Store w a from) s o = refl
  plain_same (ReadDevice to address) s o = refl
  plain_same (WriteDevice address a) s o = refl
  plain_same (Push w a) s o = refl
  plain_same (Pop w to) s o = refl
  plain_same (Find d to a) s o = refl
  plain_same (CodeOf q to) s o = refl
  plain_same (Stop code) s o = refl

  called_same : (c : Callee) (s : State) → called new c s ≡ called p c s
  called_same (ByNumber q) s = refl
  called_same (ByCode a) s = by_value (value a s)
    where
      by_value : (v : Option ℕ) → with_code new v ≡ with_code p v
      by_value (Some x) = refl
      by_value None = refl

  -- procedure q is at a place in both, with these locals
  pub record Stands (q pc at : ℕ) (ls : List LocalState) : Type 0 where
    pub old : Procedure
    pub now : Procedure
    pub has : slice_get p.procedures q ≡ Some old
    pub has_now : slice_get ms q ≡ Some now
    pub sound : IsSound old
    pub expands : Expands first old now
    pub here : at ≡ expands.place pc
    pub holds : Holds old.widths ls

  -- a caller will go on behind its call in both
  abbrev pub FrameStands : Frame State → Frame State → Type 0
  FrameStands f g = (at : ℕ) × (g ≡ record f { pc = at }) × Stands f.proc (suc f.pc) (suc at) f.kept.locals

  abbrev pub FramesStand : List (Frame State) → List (Frame State) → Type 0
  FramesStand [] [] = Unit {0}
  FramesStand (f ∷ fs) (g ∷ gs) = FrameStands f g × FramesStand fs gs
  FramesStand _ _ = ⊥

  abbrev pub going : (q pc : ℕ) → State → List (Frame State) → Option ℕ → Outside → List (List Active) → Config State
  going q pc s fs woken o opens =
      record { proc = q; pc = pc; state = s; frames = fs; woken = woken; outside = o; openings = opens; ending = None }

  pub data Related : Config State → Config State → Type 0 where
    at_place : (q pc at : ℕ) (s : State) (fs gs : List (Frame State)) (o : Outside) (opens : List (List Active)) → Stands q pc at s.locals
        → FramesStand fs gs → Related (going q pc s fs None o opens) (going q at s gs None o opens)
    taken : (v q pc at : ℕ) (s : State) (fs gs : List (Frame State)) (o : Outside) (opens : List (List Active)) → Stands q (suc pc) (suc at) s.locals
        → FramesStand fs gs → Related (going q pc s fs (Some v) o opens) (going q at s gs (Some v) o opens)

  abbrev pub To : Config State → Config State → Type 0
  To c d = Leads (language new) (codes_in ms) 1 c d

  -- a step of the first program leads to c; from d the second one comes as far
  pub data Stepped (d c : Config State) : Type 0 where
    goes : (e : Config State) → To d e → Related c e → Stepped d c
    stops : (e : Config State) (why : End) → To d e → c.ending ≡ Some why → e.ending ≡ Some why → e.outside ≡ c.outside → e.openings ≡ c.openings
        → Stepped d c
    fails : c.ending ≡ Some Wrong → Stepped d c

  -- ---- names and openings

  name_same : (q : ℕ) (m n : Procedure) → slice_get p.procedures q ≡ Some m → slice_get ms q ≡ Some n → n.method ≡ m.method
      → name_of (slice_get ms q) ≡ name_of (slice_get p.procedures q)
  name_same q m n e g h = ap name_of g ∙ ap call_of h ∙ ap name_of (sym e)

  below_same : (fs gs : List (Frame State)) → FramesStand fs gs → open_below (language new) gs ≡ open_below (language p) fs
  below_same [] [] h = refl
  below_same [] (g ∷ gs) h = absurd h
  below_same (f ∷ fs) [] h = absurd h
  below_same (f ∷ fs) (g ∷ gs) ((at, e, st), h) =
      ap (λ g. with_named (name_of (slice_get ms g.proc)) (open_below (language new) gs)) e
      ∙ ap (λ a. with_named a (open_below (language new) gs)) (name_same f.proc st.old st.now st.has st.has_now st.expands.method)
      ∙ ap (λ b. with_named (name_of (slice_get p.procedures f.proc)) b) (below_same fs gs h)

  -- ---- one step at a place

  module _ (q pc : ℕ) (s : State) (fs gs : List (Frame State)) (o : Outside) (opens : List (List Active)) (old now : Procedure)
      (has : slice_get p.procedures q ≡ Some old) (has_now : slice_get ms q ≡ Some now) (sound : IsSound old) (ex : Expands first old now)
      (held : Holds old.widths s.locals) (frames : FramesStand fs gs) where
    abbrev pub c : Config State
    c = going q pc s fs None o opens

    abbrev pub d : Config State
    d = going q (ex.place pc) s gs None o opens

    one : (i : Instr) → slice_get now.code (ex.place pc) ≡ Some i → To d (performed (language new) d (Some i))
    one i e = leads_step (language new) (codes_in ms) d _ (ap (performed (language new) d) (fetch_of ms q now has_now (ex.place pc) ∙ e))

    -- both go on at a place, in a state with these locals
    goes_to : (to at : ℕ) (s1 : State) (o1 : Outside) → at ≡ ex.place to → Holds old.widths s1.locals → To d (going q at s1 gs None o1 opens)
        → Stepped d (going q to s1 fs None o1 opens)
    goes_to to at s1 o1 e h t =
        goes (going q at s1 gs None o1 opens) t
        (at_place q to at s1 fs gs o1 opens
        (record { old = old; now = now; has = has; has_now = has_now; sound = sound; expands = ex; here = e; holds = h }) frames)

    by_went : (z : Went State) → Keeps old.widths z → ex.place (suc pc) ≡ suc (ex.place pc) → To d (went d z) → Stepped d (went c z)
    by_went (Goes s1 o1) h e t = goes_to (suc pc) (suc (ex.place pc)) s1 o1 (sym e) h t
    by_went (Raises code) h e t = stops _ (Stops code None) t refl refl refl refl
    by_went (Lacks address) h e t = stops _ (Wants address) t refl refl refl refl
    by_went Fails h e t = fails refl

    kept_plain : (i : PlainInstr) → Kept now ex.place pc (Plain i) → Stepped d (performed (language p) c (Some (Plain i)))
    kept_plain i (e, g) =
        by_went (plain p i s o) (plain_keeps p i old.widths s o held) g
        (subst (λ z. To d (went d z)) (plain_same i s o) (one (Plain i) e))

    computation : (i : Computation) → Does first now (ex.place pc) (ex.place (suc pc)) i → Stepped d (performed (language p) c (Some (Plain (Compute i))))
    computation i does = by_left (value i.left s) refl
      where
        world : World History
        world =
            record {
              phase = Running;
              deepest = None;
              largest = None;
              clock = 0;
              outside = o;
              history = record { active = []; behind_ticks = []; at_openings = opens };
            }

        by_result : (x y : ℕ) → value i.left s ≡ Some x → value i.right s ≡ Some y → (z : Option ℕ) → computed i.operator i.width x y ≡ z
            → Stepped d (went c (using z (λ v. Goes (sets i.to v s) o)))
        by_result x y e g (Some z) h =
            goes_to (suc pc) (ex.place (suc pc)) (sets i.to z s) o refl (sets_holds old.widths s.locals i.to z held)
            (does new q has_now routines gs s world x y z (subst (λ ws. Holds ws s.locals) (sym ex.widths) held) e g h)
        by_result x y e g None h = fails refl

        by_right : (x : ℕ) → value i.left s ≡ Some x → (b : Option ℕ) → value i.right s ≡ b → Stepped d (went c (using b (computes i s o x)))
        by_right x e (Some y) g = by_result x y e g (computed i.operator i.width x y) refl
        by_right x e None g = fails refl

        by_left : (a : Option ℕ) → value i.left s ≡ a → Stepped d (went c (using a (λ x. using (value i.right s) (computes i s o x))))
        by_left (Some x) e = by_right x e (value i.right s) refl
        by_left None e = fails refl

    -- a branch
    by_test : (wanted : Bool) (to : ℕ) (b : Option Bool) → ex.place (suc pc) ≡ suc (ex.place pc) → To d (branched d wanted (ex.place to) b)
        → Stepped d (branched c wanted to b)
    by_test true to (Some true) e t = goes_to to (ex.place to) s o refl held t
    by_test true to (Some false) e t = goes_to (suc pc) (suc (ex.place pc)) s o (sym e) held t
    by_test false to (Some true) e t = goes_to (suc pc) (suc (ex.place pc)) s o (sym e) held t
    by_test false to (Some false) e t = goes_to to (ex.place to) s o refl held t
    by_test wanted to None e t = fails refl

    -- a procedure is entered
    entering : (f : Frame State) (at r : ℕ) (m n : Procedure) (s1 : State) → slice_get p.procedures r ≡ Some m → slice_get ms r ≡ Some n → IsSound m
        → Expands first m n → Holds m.widths s1.locals → FrameStands f (record f { pc = at })
        → To d (begins (language new) d r s1 (record f { pc = at })) → Stepped d (begins (language p) c r s1 f)
    entering f at r m n s1 e g so en h st t =
        goes (going r 0 s1 (record f { pc = at } ∷ gs) None o (noted (name_of (slice_get p.procedures r)) (open_below (language p) (f ∷ fs)) opens))
        (subst (λ a. To d (going r 0 s1 (record f { pc = at } ∷ gs) None o (noted a (open_below (language p) (f ∷ fs)) opens)))
        (name_same r m n e g en.method)
        (subst (λ b. To d (going r 0 s1 (record f { pc = at } ∷ gs) None o (noted (name_of (slice_get ms r)) b opens)))
        (below_same (f ∷ fs) (record f { pc = at } ∷ gs) (st, frames)) t))
        (at_place r 0 0 s1 (f ∷ fs) (record f { pc = at } ∷ gs) o _
        (record { old = m; now = n; has = e; has_now = g; sound = so; expands = en; here = sym en.begins; holds = h }) (st, frames))

    -- the caller of a procedure that is entered
    waits : (kept : State) (awaits : Awaits) → kept.locals ≡ s.locals → ex.place (suc pc) ≡ suc (ex.place pc)
        → FrameStands (record { proc = q; pc = pc; kept = kept; awaits = awaits }) (record { proc = q; pc = ex.place pc; kept = kept; awaits = awaits })
    waits kept awaits e g = (
      ex.place pc,
      refl,
      record {
        old = old;
        now = now;
        has = has;
        has_now = has_now;
        sound = sound;
        expands = ex;
        here = sym g;
        holds = subst (Holds old.widths) (sym e) held;
      },
    )

    call : (i : Calling) → Kept now ex.place pc (Call i) → Stepped d (performed (language p) c (Some (Call i)))
    call i (e, g) =
        by_callee (called p i.callee s) (subst (λ k. To d (calls (language new) d i (entry_at new k i s))) (called_same i.callee s) (one (Call i) e))
      where
        by_entry : (r : ℕ) (m n : Procedure) → slice_get p.procedures r ≡ Some m → slice_get ms r ≡ Some n → IsSound m → Expands first m n
            → (x : Option (Entry State)) → EntersAt m.widths r s x → To d (calls (language new) d i x) → Stepped d (calls (language p) c i x)
        by_entry r m n h k so en (Some x) f t =
            subst (λ z. Stepped d (begins (language p) c z x.state (record { proc = q; pc = pc; kept = x.kept; awaits = Result i }))) (sym f.proc)
            (entering (record { proc = q; pc = pc; kept = x.kept; awaits = Result i }) (ex.place pc) r m n x.state h k so en f.holds
            (waits x.kept (Result i) f.kept g)
            (subst (λ z. To d (begins (language new) d z x.state (record { proc = q; pc = ex.place pc; kept = x.kept; awaits = Result i }))) f.proc t))
        by_entry r m n h k so en None f t = fails refl

        by_procedure : (r : ℕ) (o : Option Procedure) → slice_get p.procedures r ≡ o → To d (calls (language new) d i (entry_of r (slice_get ms r) i s))
            → Stepped d (calls (language p) c i (entry_of r o i s))
        by_procedure r (Some m) h t = with_expanded (all r m h)
          where
            with_expanded : IsSound m × ((n : Procedure) × (slice_get ms r ≡ Some n) × Expands first m n)
                → Stepped d (calls (language p) c i (entry_of r (Some m) i s))
            with_expanded (so, (n, k, en)) =
                by_entry r m n h k so en (entry_of r (Some m) i s) (entry_enters r m i s)
                (subst (λ z. To d (calls (language new) d i z)) (ap (λ z. entry_of r z i s) k ∙ entry_same r m n i s en.params en.result en.widths) t)
        by_procedure r None h t = fails refl

        by_callee : (k : Option ℕ) → To d (calls (language new) d i (entry_at new k i s)) → Stepped d (calls (language p) c i (entry_at p k i s))
        by_callee (Some r) t = by_procedure r (slice_get p.procedures r) refl t
        by_callee None t = fails refl

    return : (width : ℕ) (a : Operand) → slice_get now.code (ex.place pc) ≡ Some (Return width a)
        → Stepped d (performed (language p) c (Some (Return width a)))
    return width a e = by_value (result width a s) (one (Return width a) e)
      where
        to_caller : (v : ℕ) (hs ks : List (Frame State)) → FramesStand hs ks → To d (goes_back (language new) d ks v)
            → Stepped d (goes_back (language p) c hs v)
        to_caller v [] [] h t = fails refl
        to_caller v [] (k ∷ ks) h t = absurd h
        to_caller v (f ∷ hs) [] h t = absurd h
        to_caller v (f ∷ hs) (k ∷ ks) ((at, g, st), h) t =
            goes (going f.proc (suc at) (resume f.awaits f.kept s v) ks None o opens)
            (subst (λ k. To d (going k.proc (suc k.pc) (resume k.awaits k.kept s v) ks None o opens)) g t)
            (at_place f.proc (suc f.pc) (suc at) (resume f.awaits f.kept s v) hs ks o opens
            (record {
              old = st.old;
              now = st.now;
              has = st.has;
              has_now = st.has_now;
              sound = st.sound;
              expands = st.expands;
              here = st.here;
              holds = resume_holds st.old.widths f.awaits f.kept s v st.holds;
            }) h)

        by_value : (v : Option ℕ) → To d (returns (language new) d v) → Stepped d (returns (language p) c v)
        by_value (Some v) t = to_caller v fs gs frames t
        by_value None t = fails refl

    idle : Kept now ex.place pc Idle → Stepped d (performed (language p) c (Some Idle))
    idle (e, g) = by_interrupts o.interrupts (one Idle e)
      where
        by_interrupts : (vs : List ℕ) → To d (takes d vs) → Stepped d (takes c vs)
        by_interrupts [] t = stops _ Done t refl refl refl refl
        by_interrupts (v ∷ vs) t =
            goes (going q (ex.place pc) s gs (Some v) (with_event (record o { interrupts = vs }) (Enter v)) opens) t
            (taken v q pc (ex.place pc) s fs gs _ opens
            (record { old = old; now = now; has = has; has_now = has_now; sound = sound; expands = ex; here = sym g; holds = held }) frames)

    plain_step : (i : PlainInstr) → PlainStands first now ex.place pc i → Stepped d (performed (language p) c (Some (Plain i)))
    plain_step (Copy to a) k = kept_plain (Copy to a) k
    plain_step (Compute i) k = computation i k.1
    plain_step (Product to a b) k = kept_plain (Product to a b) k
    plain_step (DivideSteps r e a) k = kept_plain (DivideSteps r e a) k
    plain_step (Load m w to a) k = kept_plain (Load m w to a) k
    plain_step (Store w a from) k = kept_plain (Store w a from) k
    plain_step (ReadDevice to address) k = kept_plain (ReadDevice to address) k
    plain_step (WriteDevice address a) k = kept_plain (WriteDevice address a) k
    plain_step (Push w a) k = kept_plain (Push w a) k
    plain_step (Pop w to) k = kept_plain (Pop w to) k
    plain_step (Find e to a) k = kept_plain (Find e to a) k
    plain_step (CodeOf q to) k = kept_plain (CodeOf q to) k
    plain_step (Stop code) k = kept_plain (Stop code) k

    by_instr : (i : Instr) → StandsFor first now ex.place pc i → Stepped d (performed (language p) c (Some i))
    by_instr (Plain i) k = plain_step i k
    by_instr (When t to) (e, g) = by_test true to (holds t s) g (one (When t (ex.place to)) e)
    by_instr (Unless t to) (e, g) = by_test false to (holds t s) g (one (Unless t (ex.place to)) e)
    by_instr (Jump to) e = goes_to to (ex.place to) s o refl held (one (Jump (ex.place to)) e)
    by_instr (Call i) k = call i k
    by_instr (Return width a) e = return width a e
    by_instr Idle k = idle k

    by_fetch : (i : Option Instr) → slice_get old.code pc ≡ i → Stepped d (performed (language p) c i)
    by_fetch (Some i) e = by_instr i (ex.each pc i e)
    by_fetch None e = fails refl

    at_once : Stepped d (step (language p) (codes_in p.procedures) c)
    at_once = subst (λ i. Stepped d (performed (language p) c i)) (sym (fetch_of p.procedures q old has pc)) (by_fetch (slice_get old.code pc) refl)

  -- a step at a place
  step_at_place : (q pc at : ℕ) (s : State) (fs gs : List (Frame State)) (o : Outside) (opens : List (List Active)) → Stands q pc at s.locals
      → FramesStand fs gs
      → Stepped (going q at s gs None o opens) (step (language p) (codes_in p.procedures) (going q pc s fs None o opens))
  step_at_place q pc at s fs gs o opens st h =
      subst (λ k. Stepped (going q k s gs None o opens) (step (language p) (codes_in p.procedures) (going q pc s fs None o opens))) (sym st.here)
      (at_once q pc s fs gs o opens st.old st.now st.has st.has_now st.sound st.expands st.holds h)

  -- a step in which the handler of an interrupt is called, where there is one
  step_taken : (v q pc at : ℕ) (s : State) (fs gs : List (Frame State)) (o : Outside) (opens : List (List Active)) → Stands q (suc pc) (suc at) s.locals
      → FramesStand fs gs
      → Stepped (going q at s gs (Some v) o opens) (step (language p) (codes_in p.procedures) (going q pc s fs (Some v) o opens))
  step_taken v q pc at s fs gs o opens st h =
      by_handler (p.handler v) refl (leads_step (language new) (codes_in ms) (going q at s gs (Some v) o opens) _ refl)
    where
      c : Config State
      c = going q pc s fs (Some v) o opens

      d : Config State
      d = going q at s gs (Some v) o opens

      caller : Frame State
      caller = record { proc = q; pc = pc; kept = s; awaits = Interrupt }

      enters : (r : ℕ) (m n : Procedure) → slice_get p.procedures r ≡ Some m → slice_get ms r ≡ Some n → Expands first m n → IsSound m
          → To d (handles (language new) d (Some r)) → Stepped d (handles (language p) c (Some r))
      enters r m n e g en so t =
          goes (going r 0 (wake p r s) (record caller { pc = at } ∷ gs) None o (noted (name_of (slice_get p.procedures r)) (open_below (language p)
          (caller ∷ fs)) opens))
          (subst (λ a. To d (going r 0 (wake p r s) (record caller { pc = at } ∷ gs) None o (noted a (open_below (language p) (caller ∷ fs)) opens)))
          (name_same r m n e g en.method)
          (subst (λ b. To d (going r 0 (wake p r s) (record caller { pc = at } ∷ gs) None o (noted (name_of (slice_get ms r)) b opens)))
          (below_same (caller ∷ fs) (record caller { pc = at } ∷ gs) ((at, refl, st), h))
          (subst (λ ws. To d (going r 0 (record { locals = begun ws []; waiting = []; ram = s.ram }) (record caller { pc = at } ∷ gs) None o
          (noted (name_of (slice_get ms r)) (open_below (language new) (record caller { pc = at } ∷ gs)) opens))) widths t)))
          (at_place r 0 0 (wake p r s) (caller ∷ fs) (record caller { pc = at } ∷ gs) o _
          (record {
            old = m;
            now = n;
            has = e;
            has_now = g;
            sound = so;
            expands = en;
            here = sym en.begins;
            holds = subst (λ k. Holds m.widths (begun (widths_of k) [])) (sym e) (begun_holds m.widths []);
          }) ((at, refl, st), h))
        where
          widths : widths_of (slice_get ms r) ≡ widths_of (slice_get p.procedures r)
          widths = ap widths_of g ∙ en.widths ∙ ap widths_of (sym e)

      by_handler : (k : Option ℕ) → p.handler v ≡ k → To d (handles (language new) d k) → Stepped d (handles (language p) c k)
      by_handler None e t = goes (going q (suc at) s gs None o opens) t (at_place q (suc pc) (suc at) s fs gs o opens st h)
      by_handler (Some r) e t = with_procedure (within p.procedures r (closed.handlers v r e))
        where
          with_expanded : (m : Procedure) → slice_get p.procedures r ≡ Some m → IsSound m × ((n : Procedure) × (slice_get ms r ≡ Some n) × Expands first m n)
              → Stepped d (handles (language p) c (Some r))
          with_expanded m f (so, (n, g, en)) = enters r m n f g en so t

          with_procedure : (m : Procedure) × (slice_get p.procedures r ≡ Some m) → Stepped d (handles (language p) c (Some r))
          with_procedure (m, f) = with_expanded m f (all r m f)

  -- ---- pushes

  -- a step of the second program is a push only where that of the first one is, or where this one is Wrong
  abbrev AsPushed : (c d : Config State) → Type 0
  AsPushed c d =
      (step_pushes (codes_in ms) d ≡ step_pushes (codes_in p.procedures) c) ⊎ ((step (language p) (codes_in p.procedures) c).ending ≡ Some Wrong)

  plain_pushes : (now : Procedure) (place : ℕ → ℕ) (pc : ℕ) (i : PlainInstr) → PlainStands first now place pc i
      → is_push (slice_get now.code (place pc)) ≡ is_push (Some (Plain i))
  plain_pushes now place pc (Copy to a) k = ap is_push k.0
  plain_pushes now place pc (Compute i) k = k.0
  plain_pushes now place pc (Product to a b) k = ap is_push k.0
  plain_pushes now place pc (DivideSteps r e a) k = ap is_push k.0
  plain_pushes now place pc (Load m w to a) k = ap is_push k.0
  plain_pushes now place pc (Store w a from) k = ap is_push k.0
  plain_pushes now place pc (ReadDevice to address) k = ap is_push k.0
  plain_pushes now place pc (WriteDevice address a) k = ap is_push k.0
  plain_pushes now place pc (Push w a) k = ap is_push k.0
  plain_pushes now place pc (Pop w to) k = ap is_push k.0
  plain_pushes now place pc (Find e to a) k = ap is_push k.0
  plain_pushes now place pc (CodeOf q to) k = ap is_push k.0
  plain_pushes now place pc (Stop code) k = ap is_push k.0

  instr_pushes : (now : Procedure) (place : ℕ → ℕ) (pc : ℕ) (i : Instr) → StandsFor first now place pc i
      → is_push (slice_get now.code (place pc)) ≡ is_push (Some i)
  instr_pushes now place pc (Plain i) k = plain_pushes now place pc i k
  instr_pushes now place pc (When t to) k = ap is_push k.0
  instr_pushes now place pc (Unless t to) k = ap is_push k.0
  instr_pushes now place pc (Jump to) k = ap is_push k
  instr_pushes now place pc (Call c) k = ap is_push k.0
  instr_pushes now place pc (Return w a) k = ap is_push k
  instr_pushes now place pc Idle k = ap is_push k.0

  pushed_as : (c d : Config State) → Related c d → AsPushed c d
  pushed_as _ _ (taken v q pc at s fs gs o opens st h) = inl refl
  pushed_as _ _ (at_place q pc at s fs gs o opens st h) = by_code (slice_get st.old.code pc) refl
    where
      by_code : (i : Option Instr) → slice_get st.old.code pc ≡ i → AsPushed (going q pc s fs None o opens) (going q at s gs None o opens)
      by_code (Some i) e =
          inl (ap is_push (fetch_of ms q st.now st.has_now at) ∙ ap (λ k. is_push (slice_get st.now.code k)) st.here
          ∙ instr_pushes st.now st.expands.place pc i (st.expands.each pc i e) ∙ sym (ap is_push (fetch_of p.procedures q st.old st.has pc ∙ e)))
      by_code None e =
          inr (ap (λ i. (performed (language p) (going q pc s fs None o opens) i).ending) (fetch_of p.procedures q st.old st.has pc ∙ e))

  step_related : (c d : Config State) → Related c d → Stepped d (step (language p) (codes_in p.procedures) c)
  step_related _ _ (at_place q pc at s fs gs o opens st h) = step_at_place q pc at s fs gs o opens st h
  step_related _ _ (taken v q pc at s fs gs o opens st h) = step_taken v q pc at s fs gs o opens st h

  -- ---- whole runs

  -- so many steps of the first program, and of the second one
  abbrev after : (n : ℕ) → Config State → Config State
  after n c = steps (language p) (codes_in p.procedures) n c

  abbrev after_new : (n : ℕ) → Config State → Config State
  after_new n d = steps (language new) (codes_in ms) n d

  -- how many of them are no pushes
  abbrev made : (n : ℕ) → Config State → ℕ
  made n c = unpushed (language p) (codes_in p.procedures) n c

  abbrev made_new : (n : ℕ) → Config State → ℕ
  made_new n d = unpushed (language new) (codes_in ms) n d

  -- where the first program comes in n steps from c, the second one comes from d in as many that are no pushes, and shows the same
  abbrev pub Shows : (n : ℕ) → (d c : Config State) → Type 0
  Shows n d c = (after n c).ending ≢ Some Wrong → (j : ℕ) × (made n c ≤ made_new j d) × ShowsSame (after n c) (after_new j d)

  shows_here : (c d : Config State) → Related c d → ShowsSame c d
  shows_here _ _ (at_place q pc at s fs gs o opens st h) = record { outside = refl; openings = refl; ending = refl }
  shows_here _ _ (taken v q pc at s fs gs o opens st h) = record { outside = refl; openings = refl; ending = refl }

  -- a run that has ended stays as it is
  stays_old : (n : ℕ) (c : Config State) (why : End) → c.ending ≡ Some why → after n c ≡ c
  stays_old zero c why e = refl
  stays_old (suc n) c why e = ap (λ k. after n (stepped (language p) (codes_in p.procedures) c k c.woken)) e ∙ stays_old n c why e

  stays_new : (n : ℕ) (c : Config State) (why : End) → c.ending ≡ Some why → after_new n c ≡ c
  stays_new zero c why e = refl
  stays_new (suc n) c why e = ap (λ k. after_new n (stepped (language new) (codes_in ms) c k c.woken)) e ∙ stays_new n c why e

  runs_on : (n : ℕ) (c d : Config State) → Related c d → Shows n d c
  runs_on zero c d r = λ legal. (0, omega arith, shows_here c d r)
  runs_on (suc n) c d r = by_pushes (λ x e g. runs_on n x e g) (pushed_as c d r)
    where
      pushes : Bool
      pushes = step_pushes (codes_in p.procedures) c

      -- with the first step
      AllShown : Config State → Type 0
      AllShown x = (j : ℕ) × (one_more (not pushes) (made n x) ≤ made_new j d) × ShowsSame (after n x) (after_new j d)

      as_many : (b : Bool) (k m i : ℕ) → k ≤ m → one_more b m ≤ i → one_more b k ≤ i
      as_many true k m i h g = omega (arith, h, g)
      as_many false k m i h g = omega (arith, h, g)

      -- by the way from d to e
      along : (x e : Config State) → step_pushes (codes_in ms) d ≡ pushes → To d e → (m : ℕ) → made n x ≤ made_new m e
          → ShowsSame (after n x) (after_new m e) → AllShown x
      along x e same t m h sh = further (leads_unpushed (language new) (codes_in ms) d e t m)
        where
          further : (i : ℕ) × (one_more (not (step_pushes (codes_in ms) d)) (made_new m e) ≤ made_new i d) × (after_new i d ≡ after_new m e) → AllShown x
          further (i, g, q) = (
            i,
            as_many (not pushes) (made n x) (made_new m e) (made_new i d) h (subst (λ b. one_more (not b) (made_new m e) ≤ made_new i d) same g),
            subst (ShowsSame (after n x)) (sym q) sh,
          )

      by_step : ((x e : Config State) → Related x e → Shows n e x) → step_pushes (codes_in ms) d ≡ pushes → (x : Config State) → Stepped d x
          → (after n x).ending ≢ Some Wrong → AllShown x
      by_step runs same x (goes e t g) legal = onto (runs x e g legal)
        where
          onto : (j : ℕ) × (made n x ≤ made_new j e) × ShowsSame (after n x) (after_new j e) → AllShown x
          onto (j, h, sh) = along x e same t j h sh
      by_step runs same x (stops e why t f g a o) legal =
          along x e same t n
          (let h = unpushed_within (language p) (codes_in p.procedures) n x in
          let k = ended_unpushed (language new) (codes_in ms) n e why g in omega (arith, h, k))
          (subst (λ z. ShowsSame z (after_new n e)) (sym (stays_old n x why f))
          (subst (ShowsSame x) (sym (stays_new n e why g)) (record { outside = a; openings = o; ending = g ∙ sym f })))
      by_step runs same x (fails f) legal = absurd (legal (ap (λ z. z.ending) (stays_old n x Wrong f) ∙ f))

      by_pushes : ((x e : Config State) → Related x e → Shows n e x) → AsPushed c d → Shows (suc n) d c
      by_pushes runs (inl same) = by_step runs same (step (language p) (codes_in p.procedures) c) (step_related c d r)
      by_pushes runs (inr f) = λ legal.
          absurd (legal (ap (λ z. z.ending) (stays_old n (step (language p) (codes_in p.procedures) c) Wrong f) ∙ f))

  pub runs_same : RunsAs p new
  runs_same n reads interrupts = runs_on n (at_start p (before reads interrupts)) (at_start new (before reads interrupts)) (starts
      (within p.procedures p.start closed.start))
    where
      o : Outside
      o = before reads interrupts

      starts : (m : Procedure) × (slice_get p.procedures p.start ≡ Some m) → Related (at_start p o) (at_start new o)
      starts (m, e) = with_expanded (all p.start m e)
        where
          with_expanded : IsSound m × ((n : Procedure) × (slice_get ms p.start ≡ Some n) × Expands first m n) → Related (at_start p o) (at_start new o)
          with_expanded (so, (n, g, en)) =
              subst (λ ws. Related (at_start p o) (going p.start 0 (record { locals = begun ws []; waiting = []; ram = p.ram }) [] None o []))
              (ap widths_of e ∙ sym en.widths ∙ ap widths_of (sym g))
              (at_place p.start 0 0 _ [] [] o []
              (record {
                old = m;
                now = n;
                has = e;
                has_now = g;
                sound = so;
                expands = en;
                here = sym en.begins;
                holds = subst (λ k. Holds m.widths (begun (widths_of k) [])) (sym e) (begun_holds m.widths []);
              }) (tt {0}))
