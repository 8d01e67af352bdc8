-- That a program with trimmed procedures does what it did. Both are at a place, or the second one is ahead, under frames that go on so; each step of the
-- first is none, one or two of the second, by what both instructions do there, and whole runs follow by induction.
use Rattle.std.specs.Prelude.{ℕ, zero, suc, ◌+◌, ◌≤◌, Bool, true, false, not, ◌&&◌, ◌||◌, List, [], ◌∷◌, drop}
use Rattle.std.specs.Prelude.{Option, Some, None, slice_get, if◌then◌else◌}
use Rattle.std.proofs.Common.{◌≡◌, refl, sym, ap, ◌∙◌, subst, arith, inl, inr, ◌⊎◌}
use Rattle.std.proofs.lemmas.Option.{same_Some, none-some}
use Rattle.vg_meaning.specs.declared.event.Event.TheVariants.{Enter}
use Rattle.vg_meaning.specs.Outside.{Outside, AreReads, with_event}
use Rattle.vg_meaning.specs.History.{Active}
use Rattle.vg_meaning.specs.Answer.{End, Stops, Wants, Done, Wrong}
use Rattle.vg_lin.specs.declared.instr.Operand.{Operand}
use Rattle.vg_lin.specs.declared.instr.Test.{Test}
use Rattle.vg_lin.specs.declared.instr.Plain.{Plain as PlainInstr}
use Rattle.vg_lin.specs.declared.instr.Plain.TheVariants.{Load, Stop}
use Rattle.vg_lin.specs.declared.instr.Callee.{Callee}
use Rattle.vg_lin.specs.declared.instr.Callee.TheVariants.{Procedure as ByNumber, Code as ByCode}
use Rattle.vg_lin.specs.declared.instr.Memory.TheVariants.{Ram, Flash}
use Rattle.vg_lin.specs.declared.instr.Call.{Call as Calling}
use Rattle.vg_lin.specs.declared.instr.Instr.{Instr}
use Rattle.vg_lin.specs.declared.instr.Instr.TheVariants.{Plain, When, Unless, Jump, Call, Return, Idle}
use Rattle.vg_lin.specs.Program.{Procedure, Program}
use Rattle.vg_lin.specs.State.{State, value, plain, holds}
use Rattle.vg_lin.specs.Meaning.{begun, called, with_code, entry_of, entry_at, result, resume, wake, widths_of, call_of, name_of, language, codes_in}
use Rattle.vg_lin.specs.Steps.{Result, Interrupt, Frame, Went, Entry, Config, with_named, open_below, noted}
use Rattle.vg_lin.specs.Steps.{begins, went, branched, calls, goes_back, returns, takes, handles, performed, code_of, step, steps}
use Rattle.vg_lin.specs.Turns.{instr_counts, counts_at, step_counts, one_more}
use Rattle.vg_arith.proofs.ShiftRoutines.{fetch_of}
use Rattle.vg_expand.specs.Unpushed.{is_push, step_pushes, unpushed}
use Rattle.vg_expand.specs.Runs.{with_procedures, IsClosed}
use Rattle.vg_expand.proofs.Unpushed.{no_less}
use Rattle.vg_expand.proofs.Simulated.{within}
use Rattle.vg_trimming.specs.Trimmed.{IsTrimmedTo, AreAllTrimmed}
use Rattle.vg_trimming.specs.Runs.{AreBytes}
use Rattle.vg_trimming.proofs.Homes.{no}
use Rattle.vg_trimming.proofs.Places.{SameWent, both_go, both_raise, both_lack, wrong, Alone, alone_goes, alone_fails}
use Rattle.vg_trimming.proofs.Calls.{AtPlace, same, trimmed, with_ram, alike, fresh, begins_at, BothEnter, entered, no_entry, SameCall, entries}
use Rattle.vg_trimming.proofs.Walks.{Ahead, there}
use Rattle.vg_trimming.proofs.Standing.{Onward, Does, plainly, when_so, unless_so, when_turned, unless_turned, never_so, always_so, jumps, calls_so}
use Rattle.vg_trimming.proofs.Standing.{returns_so, returns_there, stops_there, idles}
use Rattle.vg_trimming.proofs.Standing.{Passes, step_passed, jump_passed, when_passed, unless_passed, Moves, moves_at, ahead_moves}

-- ---- procedures, one for one

abbrev Paired : Option Procedure → Option Procedure → Type 0
Paired (Some m) (Some n) = IsTrimmedTo m n
Paired None None = Unit {0}
Paired _ _ = ⊥

paired : (ms ns : List Procedure) → AreAllTrimmed ms ns → (q : ℕ) → Paired (slice_get ms q) (slice_get ns q)
paired [] [] h q = tt {0}
paired [] (n ∷ ns) h q = absurd h
paired (m ∷ ms) [] h q = absurd h
paired (m ∷ ms) (n ∷ ns) (g, h) zero = g
paired (m ∷ ms) (n ∷ ns) (g, h) (suc q) = paired ms ns h q

name_paired : (x y : Option Procedure) → Paired x y → name_of y ≡ name_of x
name_paired (Some m) (Some n) h = ap call_of (alike m n h).method
name_paired None None h = refl
name_paired (Some m) None h = absurd h
name_paired None (Some n) h = absurd h

-- the two programs have the same bytes in RAM at a place
ram_at : (old now : Procedure) (pc at : ℕ) (s u : State) → AtPlace old now pc at s u → (u.ram ≡ s.ram) × AreBytes s.ram
ram_at old now pc at s u (same en ep eu h) = (ap (λ x. x.ram) eu, h)
ram_at old now pc at s u (trimmed fs ps trim a f k g) = (g.ram, g.steady.bytes)

-- ---- steps that count

code_is : (ps : List Procedure) (q : ℕ) (m : Procedure) → slice_get ps q ≡ Some m → code_of (slice_get (codes_in ps) q) ≡ m.code
code_is [] q m e = absurd (none-some m e)
code_is (a ∷ ps) zero m e = ap (λ x. x.code) (same_Some a m e)
code_is (a ∷ ps) (suc q) m e = code_is ps q m e

-- how many steps may still count on a way
abbrev pub credit : (spent : Bool) → ℕ
credit true = 0
credit false = 1

paid_one : (counts : Bool) → one_more counts 0 ≤ 1
paid_one true = omega arith
paid_one false = omega arith

paid_way : (counts : Bool) → one_more counts (credit counts) ≤ 1
paid_way true = omega arith
paid_way false = omega arith

paid_jump : (counts : Bool) → counts ≡ false → one_more counts 1 ≤ 1
paid_jump true e = no (sym e)
paid_jump false e = omega arith

paid_none : (counts spent : Bool) → counts ≡ false → one_more counts (credit spent) ≤ 0 + credit spent
paid_none true spent e = no (sym e)
paid_none false spent e = omega arith

paid_past : (counts spent : Bool) → (spent && counts) ≡ false → one_more counts (credit (spent || counts)) ≤ 0 + credit spent
paid_past true true e = no (sym e)
paid_past true false e = omega arith
paid_past false true e = omega arith
paid_past false false e = omega arith

module _ (p : Program) (ms : List Procedure) (all : AreAllTrimmed p.procedures ms) (closed : IsClosed p) (tables : AreBytes p.tables) where
  abbrev pub new : Program
  new = with_procedures p ms

  -- what does not look at procedures is the same in both
  plain_same : (i : PlainInstr) (s : State) (o : Outside) → plain new i s o ≡ plain p i s o
  plain_same (Load Ram w to a) s o = refl
  plain_same (Load Flash w to a) s o = refl
  plain_same _ s o = refl

  called_same : (c : Callee) (s : State) → called new c s ≡ called p c s
  called_same (ByNumber q) s = refl
  called_same (ByCode a) s = by_value (value a s)
    where
      by_value : (v : Option ℕ) → with_code new v ≡ with_code p v
      by_value (Some x) = refl
      by_value None = refl

  name_same : (q : ℕ) → name_of (slice_get ms q) ≡ name_of (slice_get p.procedures q)
  name_same q = name_paired (slice_get p.procedures q) (slice_get ms q) (paired p.procedures ms all q)

  pub newer : (q : ℕ) (m : Procedure) → slice_get p.procedures q ≡ Some m → (n : Procedure) × (slice_get ms q ≡ Some n) × IsTrimmedTo m n
  newer q m e = by_new (slice_get ms q) refl (subst (λ x. Paired x (slice_get ms q)) e (paired p.procedures ms all q))
    where
      by_new : (y : Option Procedure) → slice_get ms q ≡ y → Paired (Some m) y → (n : Procedure) × (slice_get ms q ≡ Some n) × IsTrimmedTo m n
      by_new (Some n) f h = (n, f, h)
      by_new None f h = absurd h

  -- procedure q is in both where this is said of its two forms
  pub record Stands (q : ℕ) (Is : Procedure → Procedure → Type 0) : Type 0 where
    pub old : Procedure
    pub now : Procedure
    pub has : slice_get p.procedures q ≡ Some old
    pub has_now : slice_get ms q ≡ Some now
    pub is : IsTrimmedTo old now
    pub here : Is old now

  -- procedure q is at a place in both
  abbrev pub StandsAt : (q pc at : ℕ) → State → State → Type 0
  StandsAt q pc at s u = Stands q (λ old now. AtPlace old now pc at s u)

  at_ease : (q pc at : ℕ) (s u : State) → StandsAt q pc at s u → Stands q (λ old now. Ahead old now true pc at s u)
  at_ease q pc at s u st = record { old = st.old; now = st.now; has = st.has; has_now = st.has_now; is = st.is; here = there st.here }

  -- a caller will go on behind its call in both, whatever it is given back
  pub record FrameStands (f g : Frame State) : Type 0 where
    pub proc : g.proc ≡ f.proc
    pub onward : (v : ℕ) (t t' : State) → t'.ram ≡ t.ram → AreBytes t.ram
        → StandsAt f.proc (suc f.pc) (suc g.pc) (resume f.awaits f.kept t v) (resume g.awaits g.kept t' v)

  abbrev pub FramesStand : List (Frame State) → List (Frame State) → Type 0
  FramesStand [] [] = Unit {0}
  FramesStand (f ∷ fs) (g ∷ gs) = FrameStands f g × FramesStand fs gs
  FramesStand _ _ = ⊥

  abbrev pub going : (q pc : ℕ) → State → List (Frame State) → Option ℕ → Outside → List (List Active) → Config State
  going q pc s fs woken o opens =
      record { proc = q; pc = pc; state = s; frames = fs; woken = woken; outside = o; openings = opens; ending = None }

  pub data Related : (spent : Bool) → Config State → Config State → Type 0 where
    at_place : (spent : Bool) (q pc at : ℕ) (s u : State) (fs gs : List (Frame State)) (o : Outside) (opens : List (List Active))
        → Stands q (λ old now. Ahead old now spent pc at s u)
        → FramesStand fs gs → AreReads o.reads → Related spent (going q pc s fs None o opens) (going q at u gs None o opens)
    taken : (v q pc at : ℕ) (s u : State) (fs gs : List (Frame State)) (o : Outside) (opens : List (List Active)) → StandsAt q (suc pc) (suc at) s u
        → FramesStand fs gs → AreReads o.reads → Related true (going q pc s fs (Some v) o opens) (going q at u gs (Some v) o opens)

  -- from c the second program comes to d in at least t steps that are no pushes
  pub record To (t : ℕ) (c d : Config State) : Type 0 where
    pub by : (k : ℕ) → (j : ℕ)
        × (unpushed (language new) (codes_in ms) k d + t ≤ unpushed (language new) (codes_in ms) j c)
        × (steps (language new) (codes_in ms) j c ≡ steps (language new) (codes_in ms) k d)

  to_here : (d : Config State) → To 0 d d
  to_here d = record { by = λ k. (k, omega arith, refl) }

  -- behind a first step
  to_next : (t : ℕ) (c d : Config State) → t ≤ one_more (not (step_pushes (codes_in ms) c)) 0 → step (language new) (codes_in ms) c ≡ d → To t c d
  to_next t c d h e = record { by = λ k. (suc k, as_many k, ap (steps (language new) (codes_in ms) k) e) }
    where
      one : (b : Bool) (m n : ℕ) → m ≡ n → t ≤ one_more b 0 → n + t ≤ one_more b m
      one true m n f h = omega (arith, f, h)
      one false m n f h = omega (arith, f, h)

      as_many : (k : ℕ) → unpushed (language new) (codes_in ms) k d + t ≤ unpushed (language new) (codes_in ms) (suc k) c
      as_many k = one (not (step_pushes (codes_in ms) c)) _ _ (ap (unpushed (language new) (codes_in ms) k) e) h

  -- a step more
  to_then : (c d e : Config State) → To 1 c d → step (language new) (codes_in ms) d ≡ e → To 1 c e
  to_then c d e t f = record { by = λ k. behind k (t.by (suc k)) }
    where
      behind : (k : ℕ) → (j : ℕ) × (unpushed (language new) (codes_in ms) (suc k) d + 1 ≤ unpushed (language new) (codes_in ms) j c)
          × (steps (language new) (codes_in ms) j c ≡ steps (language new) (codes_in ms) (suc k) d)
          → (j : ℕ) × (unpushed (language new) (codes_in ms) k e + 1 ≤ unpushed (language new) (codes_in ms) j c)
          × (steps (language new) (codes_in ms) j c ≡ steps (language new) (codes_in ms) k e)
      behind k (j, h, g) = (
        j,
        let m = unpushed (language new) (codes_in ms) k (step (language new) (codes_in ms) d) in
            let a = no_less (not (step_pushes (codes_in ms) d)) m m (omega arith) in
            let b = ap (unpushed (language new) (codes_in ms) k) f in omega (arith, a, b, h),
        g ∙ ap (steps (language new) (codes_in ms) k) f,
      )

  -- a step of the first program, which may count, leads to c; from d the second one comes as far, in as many steps that are no pushes as count
  pub data Stepped (spent counts : Bool) (d c : Config State) : Type 0 where
    goes : (e : Config State) (t : ℕ) (spent' : Bool) → To t d e → one_more counts (credit spent') ≤ t + credit spent → Related spent' c e
        → Stepped spent counts d c
    stops : (e : Config State) (why : End) → To (one_more counts 0) d e → c.ending ≡ Some why → e.ending ≡ Some why → e.outside ≡ c.outside
        → e.openings ≡ c.openings → Stepped spent counts d c
    fails : c.ending ≡ Some Wrong → Stepped spent counts d c

  more_credit : (spent counts : Bool) (d c : Config State) → Stepped true counts d c → Stepped spent counts d c
  more_credit spent counts d c (goes e t spent' k h r) = goes e t spent' k (omega (arith, h)) r
  more_credit spent counts d c (stops e why k f g h i) = stops e why k f g h i
  more_credit spent counts d c (fails f) = fails f

  below_same : (fs gs : List (Frame State)) → FramesStand fs gs → open_below (language new) gs ≡ open_below (language p) fs
  below_same [] [] h = refl
  below_same [] (g ∷ gs) h = absurd h
  below_same (f ∷ fs) [] h = absurd h
  below_same (f ∷ fs) (g ∷ gs) (st, h) =
      ap (λ q. with_named (name_of (slice_get ms q)) (open_below (language new) gs)) st.proc
      ∙ ap (λ a. with_named a (open_below (language new) gs)) (name_same f.proc)
      ∙ ap (λ b. with_named (name_of (slice_get p.procedures f.proc)) b) (below_same fs gs h)

  -- ---- one step at a place

  module _ (q pc at : ℕ) (s u : State) (fs gs : List (Frame State)) (o : Outside) (opens : List (List Active)) (old now : Procedure)
      (has : slice_get p.procedures q ≡ Some old) (has_now : slice_get ms q ≡ Some now) (is : IsTrimmedTo old now)
      (frames : FramesStand fs gs) (reads : AreReads o.reads) where
    abbrev pub c : Config State
    c = going q pc s fs None o opens

    abbrev pub d : Config State
    d = going q at u gs None o opens

    -- the step of the first program counts
    abbrev counts : Bool
    counts = counts_at old.code pc

    abbrev Steps : Config State → Type 0
    Steps = Stepped true counts d

    uncounted : (i : Instr) → slice_get old.code pc ≡ Some i → instr_counts old.code pc (Some i) ≡ false → counts ≡ false
    uncounted i e f = ap (instr_counts old.code pc) e ∙ f

    once : (t : ℕ) (j : Instr) → t ≤ one_more (not (is_push (Some j))) 0 → slice_get now.code at ≡ Some j → To t d (performed (language new) d (Some j))
    once t j h e =
        to_next t d _ (subst (λ k. t ≤ one_more (not (is_push k)) 0) (sym (fetch_of ms q now has_now at ∙ e)) h)
        (ap (performed (language new) d) (fetch_of ms q now has_now at ∙ e))

    one : (j : Instr) → is_push (Some j) ≡ false → slice_get now.code at ≡ Some j → To 1 d (performed (language new) d (Some j))
    one j f e = once 1 j (subst (λ b. 1 ≤ one_more (not b) 0) (sym f) (omega arith)) e

    -- both go on
    goes_to : (spent spent' : Bool) (t to to' : ℕ) (s1 u1 : State) (o1 : Outside) → Ahead old now spent' to to' s1 u1 → AreReads o1.reads
        → one_more counts (credit spent') ≤ t + credit spent → To t d (going q to' u1 gs None o1 opens)
        → Stepped spent counts d (going q to s1 fs None o1 opens)
    goes_to spent spent' t to to' s1 u1 o1 h r le k =
        goes (going q to' u1 gs None o1 opens) t spent' k le
        (at_place spent' q to to' s1 u1 fs gs o1 opens (record { old = old; now = now; has = has; has_now = has_now; is = is; here = h }) frames r)

    -- where no step counts
    for_none : (e : Config State) → counts ≡ false → To 0 d e → To (one_more counts 0) d e
    for_none e f t = subst (λ b. To (one_more b 0) d e) (sym f) t

    -- one is enough
    for_one : (e : Config State) → To 1 d e → To (one_more counts 0) d e
    for_one e t = record { by = λ k. less k (t.by k) }
      where
        less : (k : ℕ) → (j : ℕ) × (unpushed (language new) (codes_in ms) k e + 1 ≤ unpushed (language new) (codes_in ms) j d)
            × (steps (language new) (codes_in ms) j d ≡ steps (language new) (codes_in ms) k e)
            → (j : ℕ) × (unpushed (language new) (codes_in ms) k e + one_more counts 0 ≤ unpushed (language new) (codes_in ms) j d)
            × (steps (language new) (codes_in ms) j d ≡ steps (language new) (codes_in ms) k e)
        less k (j, h, g) = (j, let f = paid_one counts in omega (arith, f, h), g)

    -- behind a branch
    leads_to : (to to' : ℕ) → Ahead old now counts to to' s u → To 1 d (going q to' u gs None o opens) → Steps (going q to s fs None o opens)
    leads_to to to' h k = goes_to true counts 1 to to' s u o h reads (paid_way counts) k

    -- a plain instruction does not count, and may be a push
    by_went : (z z' : Went State) → SameWent (Onward old now pc at) z z' → counts ≡ false → To 0 d (went d z') → Steps (went c z)
    by_went _ _ (both_go s1 u1 o1 h) f t = goes_to true true 0 (suc pc) (suc at) s1 u1 o1 (there h.0) h.1 (paid_none counts true f) t
    by_went _ _ (both_raise code) f t = stops _ (Stops code None) (for_none _ f t) refl refl refl refl
    by_went _ _ (both_lack address) f t = stops _ (Wants address) (for_none _ f t) refl refl refl refl
    by_went _ _ (wrong z) f t = fails refl

    plain_step : (i j : PlainInstr) → slice_get old.code pc ≡ Some (Plain i) → SameWent (Onward old now pc at) (plain p i s o) (plain p j u o)
        → slice_get now.code at ≡ Some (Plain j) → Steps (performed (language p) c (Some (Plain i)))
    plain_step i j has h e =
        by_went (plain p i s o) (plain p j u o) h (uncounted (Plain i) has refl)
        (subst (λ z. To 0 d (went d z)) (plain_same j u o) (once 0 (Plain j) (omega arith) e))

    -- a branch
    when_step : (t t' : Test) (to to' : ℕ) → ((b : Bool) → holds t s ≡ Some b → holds t' u ≡ Some b) → (holds t s ≡ Some true → Ahead old now counts to to' s u)
        → (holds t s ≡ Some false → Ahead old now counts (suc pc) (suc at) s u) → To 1 d (branched d true to' (holds t' u))
        → Steps (branched c true to (holds t s))
    when_step t t' to to' h f g k = by_test (holds t s) refl
      where
        by_test : (x : Option Bool) → holds t s ≡ x → Steps (branched c true to x)
        by_test (Some true) e = leads_to to to' (f e) (subst (λ x. To 1 d (branched d true to' x)) (h true e) k)
        by_test (Some false) e = leads_to (suc pc) (suc at) (g e) (subst (λ x. To 1 d (branched d true to' x)) (h false e) k)
        by_test None e = fails refl

    unless_step : (t t' : Test) (to to' : ℕ) → ((b : Bool) → holds t s ≡ Some b → holds t' u ≡ Some b) → (holds t s ≡ Some false → Ahead old now counts to to' s u)
        → (holds t s ≡ Some true → Ahead old now counts (suc pc) (suc at) s u) → To 1 d (branched d false to' (holds t' u))
        → Steps (branched c false to (holds t s))
    unless_step t t' to to' h f g k = by_test (holds t s) refl
      where
        by_test : (x : Option Bool) → holds t s ≡ x → Steps (branched c false to x)
        by_test (Some false) e = leads_to to to' (f e) (subst (λ x. To 1 d (branched d false to' x)) (h false e) k)
        by_test (Some true) e = leads_to (suc pc) (suc at) (g e) (subst (λ x. To 1 d (branched d false to' x)) (h true e) k)
        by_test None e = fails refl

    -- a branch for which the second program has the other one
    when_turned_step : (t t' : Test) (to to' : ℕ) → ((b : Bool) → holds t s ≡ Some b → holds t' u ≡ Some b)
        → (holds t s ≡ Some true → Ahead old now counts to (suc at) s u) → (holds t s ≡ Some false → Ahead old now counts (suc pc) to' s u)
        → To 1 d (branched d false to' (holds t' u)) → Steps (branched c true to (holds t s))
    when_turned_step t t' to to' h f g k = by_test (holds t s) refl
      where
        by_test : (x : Option Bool) → holds t s ≡ x → Steps (branched c true to x)
        by_test (Some true) e = leads_to to (suc at) (f e) (subst (λ x. To 1 d (branched d false to' x)) (h true e) k)
        by_test (Some false) e = leads_to (suc pc) to' (g e) (subst (λ x. To 1 d (branched d false to' x)) (h false e) k)
        by_test None e = fails refl

    unless_turned_step : (t t' : Test) (to to' : ℕ) → ((b : Bool) → holds t s ≡ Some b → holds t' u ≡ Some b)
        → (holds t s ≡ Some false → Ahead old now counts to (suc at) s u) → (holds t s ≡ Some true → Ahead old now counts (suc pc) to' s u)
        → To 1 d (branched d true to' (holds t' u)) → Steps (branched c false to (holds t s))
    unless_turned_step t t' to to' h f g k = by_test (holds t s) refl
      where
        by_test : (x : Option Bool) → holds t s ≡ x → Steps (branched c false to x)
        by_test (Some false) e = leads_to to (suc at) (f e) (subst (λ x. To 1 d (branched d true to' x)) (h false e) k)
        by_test (Some true) e = leads_to (suc pc) to' (g e) (subst (λ x. To 1 d (branched d true to' x)) (h true e) k)
        by_test None e = fails refl

    -- a branch that is always taken, for which the second program jumps
    never_step : (t : Test) (to to' : ℕ) → ((b : Bool) → holds t s ≡ Some b → b ≡ false) → Ahead old now counts to to' s u
        → To 1 d (going q to' u gs None o opens) → Steps (branched c false to (holds t s))
    never_step t to to' never h k = by_test (holds t s) refl
      where
        by_test : (x : Option Bool) → holds t s ≡ x → Steps (branched c false to x)
        by_test (Some false) e = leads_to to to' h k
        by_test (Some true) e = no (sym (never true e))
        by_test None e = fails refl

    always_step : (t : Test) (to to' : ℕ) → ((b : Bool) → holds t s ≡ Some b → b ≡ true) → Ahead old now counts to to' s u
        → To 1 d (going q to' u gs None o opens) → Steps (branched c true to (holds t s))
    always_step t to to' always h k = by_test (holds t s) refl
      where
        by_test : (x : Option Bool) → holds t s ≡ x → Steps (branched c true to x)
        by_test (Some true) e = leads_to to to' h k
        by_test (Some false) e = no (always false e)
        by_test None e = fails refl

    -- a procedure is entered
    entering : (f g : Frame State) (r : ℕ) (m n : Procedure) (s1 u1 : State) → slice_get p.procedures r ≡ Some m → slice_get ms r ≡ Some n
        → IsTrimmedTo m n → AtPlace m n 0 0 s1 u1 → FrameStands f g → To 1 d (begins (language new) d r u1 g) → Steps (begins (language p) c r s1 f)
    entering f g r m n s1 u1 e k i h st t =
        goes (going r 0 u1 (g ∷ gs) None o (noted (name_of (slice_get p.procedures r)) (open_below (language p) (f ∷ fs)) opens)) 1 true
        (subst (λ a. To 1 d (going r 0 u1 (g ∷ gs) None o (noted a (open_below (language p) (f ∷ fs)) opens))) (name_same r)
        (subst (λ b. To 1 d (going r 0 u1 (g ∷ gs) None o (noted (name_of (slice_get ms r)) b opens))) (below_same (f ∷ fs) (g ∷ gs) (st, frames)) t))
        (paid_one counts)
        (at_place true r 0 0 s1 u1 (f ∷ fs) (g ∷ gs) o _ (record { old = m; now = n; has = e; has_now = k; is = i; here = there h }) (st, frames) reads)

    call_step : (i j : Calling) → SameCall p old now pc at i j s u → To 1 d (calls (language new) d j (entry_at new (called new j.callee u) j u))
        → Steps (calls (language p) c i (entry_at p (called p i.callee s) i s))
    call_step i j h t = by_callee (called p i.callee s) refl
      where
        kept : State
        kept = record s { waiting = drop i.pushed s.waiting }

        kept' : State
        kept' = record u { waiting = drop j.pushed u.waiting }

        caller : Frame State
        caller = record { proc = q; pc = pc; kept = kept; awaits = Result i }

        caller' : Frame State
        caller' = record { proc = q; pc = at; kept = kept'; awaits = Result j }

        waits : FrameStands caller caller'
        waits =
            record {
              proc = refl;
              onward = λ v t t' e k. record {
                old = old;
                now = now;
                has = has;
                has_now = has_now;
                is = is;
                here = h.onward v t t' e k;
              };
            }

        by_entry : (r : ℕ) (m n : Procedure) → slice_get p.procedures r ≡ Some m → slice_get ms r ≡ Some n → IsTrimmedTo m n
            → (x y : Option (Entry State)) → BothEnter m n r kept kept' x y → To 1 d (calls (language new) d j y) → Steps (calls (language p) c i x)
        by_entry r m n e k is' _ _ (entered s1 u1 a) t = entering caller caller' r m n s1 u1 e k is' a waits t
        by_entry r m n e k is' _ _ (no_entry z) t = fails refl

        by_procedure : (r : ℕ) (x : Option Procedure) → slice_get p.procedures r ≡ x → To 1 d (calls (language new) d j (entry_of r (slice_get ms r) j u))
            → Steps (calls (language p) c i (entry_of r x i s))
        by_procedure r (Some m) e t = with_new (newer r m e)
          where
            with_new : (n : Procedure) × (slice_get ms r ≡ Some n) × IsTrimmedTo m n → Steps (calls (language p) c i (entry_of r (Some m) i s))
            with_new (n, k, is') =
                by_entry r m n e k is' (entry_of r (Some m) i s) (entry_of r (Some n) j u) (entries p old now pc at i j s u h m n is' r)
                (subst (λ x. To 1 d (calls (language new) d j (entry_of r x j u))) k t)
        by_procedure r None e t = fails refl

        by_callee : (k : Option ℕ) → called p i.callee s ≡ k → Steps (calls (language p) c i (entry_at p k i s))
        by_callee (Some r) e =
            by_procedure r (slice_get p.procedures r) refl
            (subst (λ k. To 1 d (calls (language new) d j (entry_at new k j u))) (called_same j.callee u ∙ h.callee r e) t)
        by_callee None e = fails refl

    -- a return, of the newer code at this place or another one
    return_step : (w : ℕ) (x y : Operand) (from : ℕ) → ((v : ℕ) → result w x s ≡ Some v → result w y u ≡ Some v) → u.ram ≡ s.ram → AreBytes s.ram
        → To 1 d (returns (language new) (going q from u gs None o opens) (result w y u)) → Steps (returns (language p) c (result w x s))
    return_step w x y from h er bytes t = by_value (result w x s) refl
      where
        to_caller : (v : ℕ) (hs ks : List (Frame State)) → FramesStand hs ks → To 1 d (goes_back (language new) (going q from u gs None o opens) ks v)
            → Steps (goes_back (language p) c hs v)
        to_caller v [] [] h t = fails refl
        to_caller v [] (k ∷ ks) h t = absurd h
        to_caller v (f ∷ hs) [] h t = absurd h
        to_caller v (f ∷ hs) (k ∷ ks) (st, h) t =
            goes (going f.proc (suc k.pc) (resume k.awaits k.kept u v) ks None o opens) 1 true
            (subst (λ a. To 1 d (going a (suc k.pc) (resume k.awaits k.kept u v) ks None o opens)) st.proc t) (paid_one counts)
            (at_place true f.proc (suc f.pc) (suc k.pc) (resume f.awaits f.kept s v) (resume k.awaits k.kept u v) hs ks o opens
            (at_ease f.proc (suc f.pc) (suc k.pc) _ _ (st.onward v s u er bytes)) h reads)

        by_value : (k : Option ℕ) → result w x s ≡ k → Steps (returns (language p) c k)
        by_value (Some v) e = to_caller v fs gs frames (subst (λ k. To 1 d (returns (language new) (going q from u gs None o opens) k)) (h v e) t)
        by_value None e = fails refl

    -- a jump, and the instruction there
    two_steps : (to : ℕ) (j : Instr) → slice_get now.code at ≡ Some (Jump to) → slice_get now.code to ≡ Some j
        → To 1 d (performed (language new) (going q to u gs None o opens) (Some j))
    two_steps to j e f = to_then d (going q to u gs None o opens) _ (one (Jump to) refl e)
        (ap (performed (language new) (going q to u gs None o opens)) (fetch_of ms q now has_now to ∙ f))

    idle_step : AtPlace old now (suc pc) (suc at) s u → (vs : List ℕ) → To 1 d (takes d vs) → Steps (takes c vs)
    idle_step h [] t = stops _ Done (for_one _ t) refl refl refl refl
    idle_step h (v ∷ vs) t =
        goes (going q at u gs (Some v) (with_event (record o { interrupts = vs }) (Enter v)) opens) 1 true t (paid_one counts)
        (taken v q pc at s u fs gs _ opens (record { old = old; now = now; has = has; has_now = has_now; is = is; here = h }) frames reads)

    by_does : (i j : Instr) → slice_get old.code pc ≡ Some i → Does p old now pc at s u o i j → slice_get now.code at ≡ Some j
        → Steps (performed (language p) c (Some i))
    by_does _ _ has (plainly i j h) e = plain_step i j has h e
    by_does _ _ has (when_so t t' to to' h f g) e = when_step t t' to to' h f g (one (When t' to') refl e)
    by_does _ _ has (unless_so t t' to to' h f g) e = unless_step t t' to to' h f g (one (Unless t' to') refl e)
    by_does _ _ has (when_turned t t' to to' h f g) e = when_turned_step t t' to to' h f g (one (Unless t' to') refl e)
    by_does _ _ has (unless_turned t t' to to' h f g) e = unless_turned_step t t' to to' h f g (one (When t' to') refl e)
    by_does _ _ has (never_so t to to' h f) e = never_step t to to' h f (one (Jump to') refl e)
    by_does _ _ has (always_so t to to' h f) e = always_step t to to' h f (one (Jump to') refl e)
    by_does _ _ has (jumps to to' h) e =
        goes_to true false 1 to to' s u o h reads (paid_jump counts (uncounted (Jump to) has refl)) (one (Jump to') refl e)
    by_does _ _ has (calls_so i j h) e = call_step i j h (one (Call j) refl e)
    by_does _ _ has (returns_so w x y h er bytes) e = return_step w x y at h er bytes (one (Return w y) refl e)
    by_does _ _ has (returns_there w x y to f h er bytes) e = return_step w x y to h er bytes (two_steps to (Return w y) e f)
    by_does _ _ has (stops_there code to f) e = stops _ (Stops code None) (for_one _ (two_steps to (Plain (Stop code)) e f)) refl refl refl refl
    by_does _ _ has (idles h) e = idle_step h o.interrupts (one Idle refl e)

    -- the first program makes a step alone
    alone_step : (spent : Bool) (z : Went State) → counts ≡ false → Alone (λ s1. Ahead old now spent (suc pc) at s1 u) o z
        → Stepped spent counts d (went c z)
    alone_step spent _ e (alone_goes s1 h) = goes_to spent spent 0 (suc pc) at s1 u o h reads (paid_none counts spent e) (to_here d)
    alone_step spent _ e alone_fails = fails refl

    past_goes : (spent : Bool) (to : ℕ) → (spent && counts) ≡ false → Ahead old now (spent || counts) to at s u
        → Stepped spent counts d (going q to s fs None o opens)
    past_goes spent to e h = goes_to spent (spent || counts) 0 to at s u o h reads (paid_past counts spent e) (to_here d)

    when_past : (spent : Bool) (t : Test) (to : ℕ) (b : Bool) → ((r : Bool) → holds t s ≡ Some r → r ≡ b) → (spent && counts) ≡ false
        → Ahead old now (spent || counts) (if b then to else suc pc) at s u → Stepped spent counts d (branched c true to (holds t s))
    when_past spent t to b f e h = by_test (holds t s) refl
      where
        by_truth : (r : Bool) → Ahead old now (spent || counts) (if r then to else suc pc) at s u → Stepped spent counts d (branched c true to (Some r))
        by_truth true h = past_goes spent to e h
        by_truth false h = past_goes spent (suc pc) e h

        by_test : (x : Option Bool) → holds t s ≡ x → Stepped spent counts d (branched c true to x)
        by_test (Some r) g = by_truth r (subst (λ k. Ahead old now (spent || counts) (if k then to else suc pc) at s u) (sym (f r g)) h)
        by_test None g = fails refl

    unless_past : (spent : Bool) (t : Test) (to : ℕ) (b : Bool) → ((r : Bool) → holds t s ≡ Some r → r ≡ b) → (spent && counts) ≡ false
        → Ahead old now (spent || counts) (if b then suc pc else to) at s u → Stepped spent counts d (branched c false to (holds t s))
    unless_past spent t to b f e h = by_test (holds t s) refl
      where
        by_truth : (r : Bool) → Ahead old now (spent || counts) (if r then suc pc else to) at s u → Stepped spent counts d (branched c false to (Some r))
        by_truth true h = past_goes spent (suc pc) e h
        by_truth false h = past_goes spent to e h

        by_test : (x : Option Bool) → holds t s ≡ x → Stepped spent counts d (branched c false to x)
        by_test (Some r) g = by_truth r (subst (λ k. Ahead old now (spent || counts) (if k then suc pc else to) at s u) (sym (f r g)) h)
        by_test None g = fails refl

    by_passes : (spent : Bool) (i : Instr) → slice_get old.code pc ≡ Some i → Passes p old now spent pc at s u o i
        → Stepped spent counts d (performed (language p) c (Some i))
    by_passes spent _ has (step_passed i h) = alone_step spent (plain p i s o) (uncounted (Plain i) has refl) h
    by_passes spent _ has (jump_passed to h) =
        goes_to spent spent 0 to at s u o h reads (paid_none counts spent (uncounted (Jump to) has refl)) (to_here d)
    by_passes spent _ has (when_passed t to b f e h) = when_past spent t to b f e h
    by_passes spent _ has (unless_passed t to b f e h) = unless_past spent t to b f e h

    -- by the instruction at the first one's place
    by_instr : (spent : Bool) (i : Instr) → slice_get old.code pc ≡ Some i → Stepped spent counts d (performed (language p) c (Some i))
        → Stepped spent counts d (step (language p) (codes_in p.procedures) c)
    by_instr spent i e k =
        subst (λ x. Stepped spent counts d (performed (language p) c x)) (sym (fetch_of p.procedures q old has pc ∙ e)) k

    at_once : AtPlace old now pc at s u → Steps (step (language p) (codes_in p.procedures) c)
    at_once h = by_code (slice_get old.code pc) refl
      where
        moves : (i : Instr) → slice_get old.code pc ≡ Some i → Moves p old now pc at s u o i → Steps (performed (language p) c (Some i))
        moves i e (inl k) = by_passes true i e k
        moves i e (inr (j, f, k)) = by_does i j e k f

        by_code : (k : Option Instr) → slice_get old.code pc ≡ k → Steps (step (language p) (codes_in p.procedures) c)
        by_code (Some i) e = by_instr true i e (moves i e (moves_at p tables old now is pc at s u o reads h i e))
        by_code None e = subst (λ x. Steps (performed (language p) c x)) (sym (fetch_of p.procedures q old has pc ∙ e)) (fails refl)

    pub ahead_step : (spent : Bool) → Ahead old now spent pc at s u → Stepped spent counts d (step (language p) (codes_in p.procedures) c)
    ahead_step spent h = by_way (ahead_moves p old now is spent pc at s u o h)
      where
        by_way : AtPlace old now pc at s u ⊎ ((i : Instr) × (slice_get old.code pc ≡ Some i) × Passes p old now spent pc at s u o i)
            → Stepped spent counts d (step (language p) (codes_in p.procedures) c)
        by_way (inl k) = more_credit spent counts d _ (at_once k)
        by_way (inr (i, e, k)) = by_instr spent i e (by_passes spent i e k)

  -- a procedure begins without arguments
  pub wakes : (r : ℕ) (m n : Procedure) → slice_get p.procedures r ≡ Some m → slice_get ms r ≡ Some n → IsTrimmedTo m n → (s u : State) → u.ram ≡ s.ram
      → AreBytes s.ram → AtPlace m n 0 0 (wake p r s) (wake new r u)
  wakes r m n e f is s u er h =
      subst (λ ws. AtPlace m n 0 0 (record { locals = begun ws []; waiting = []; ram = s.ram }) (wake new r u)) (sym (ap widths_of e))
      (subst (λ ws. AtPlace m n 0 0 (fresh m [] s.ram) (record { locals = begun ws []; waiting = []; ram = u.ram })) (sym (ap widths_of f))
      (begins_at m n is [] s.ram u.ram er h (omega arith)))

  -- a step in which the handler of an interrupt is called, where there is one
  step_taken : (v q pc at : ℕ) (s u : State) (fs gs : List (Frame State)) (o : Outside) (opens : List (List Active)) → StandsAt q (suc pc) (suc at) s u
      → FramesStand fs gs → AreReads o.reads
      → Stepped true true (going q at u gs (Some v) o opens) (step (language p) (codes_in p.procedures) (going q pc s fs (Some v) o opens))
  step_taken v q pc at s u fs gs o opens st h reads =
      by_handler (p.handler v) refl (to_next 1 (going q at u gs (Some v) o opens) _ (omega arith) refl)
    where
      c : Config State
      c = going q pc s fs (Some v) o opens

      d : Config State
      d = going q at u gs (Some v) o opens

      caller : Frame State
      caller = record { proc = q; pc = pc; kept = s; awaits = Interrupt }

      caller' : Frame State
      caller' = record { proc = q; pc = at; kept = u; awaits = Interrupt }

      waits : FrameStands caller caller'
      waits =
          record {
            proc = refl;
            onward = λ v t t' e k. record {
              old = st.old;
              now = st.now;
              has = st.has;
              has_now = st.has_now;
              is = st.is;
              here = with_ram st.old st.now (suc pc) (suc at) s u t.ram t'.ram e k st.here;
            };
          }

      enters : (r : ℕ) (m n : Procedure) → slice_get p.procedures r ≡ Some m → slice_get ms r ≡ Some n → IsTrimmedTo m n
          → To 1 d (handles (language new) d (Some r)) → Stepped true true d (handles (language p) c (Some r))
      enters r m n e g is t =
          let ram = ram_at st.old st.now (suc pc) (suc at) s u st.here in
          goes (going r 0 (wake new r u) (caller' ∷ gs) None o (noted (name_of (slice_get p.procedures r)) (open_below (language p) (caller ∷ fs)) opens)) 1 true
          (subst (λ a. To 1 d (going r 0 (wake new r u) (caller' ∷ gs) None o (noted a (open_below (language p) (caller ∷ fs)) opens))) (name_same r)
          (subst (λ b. To 1 d (going r 0 (wake new r u) (caller' ∷ gs) None o (noted (name_of (slice_get ms r)) b opens)))
          (below_same (caller ∷ fs) (caller' ∷ gs) (waits, h)) t)) (omega arith)
          (at_place true r 0 0 (wake p r s) (wake new r u) (caller ∷ fs) (caller' ∷ gs) o _
          (record { old = m; now = n; has = e; has_now = g; is = is; here = there (wakes r m n e g is s u ram.0 ram.1) }) (waits, h) reads)

      by_handler : (k : Option ℕ) → p.handler v ≡ k → To 1 d (handles (language new) d k) → Stepped true true d (handles (language p) c k)
      by_handler None e t =
          goes (going q (suc at) u gs None o opens) 1 true t (omega arith) (at_place true q (suc pc) (suc at) s u fs gs o opens (at_ease q (suc pc) (suc at) s u st) h reads)
      by_handler (Some r) e t = with_procedure (within p.procedures r (closed.handlers v r e))
        where
          with_new : (m : Procedure) → slice_get p.procedures r ≡ Some m → (n : Procedure) × (slice_get ms r ≡ Some n) × IsTrimmedTo m n
              → Stepped true true d (handles (language p) c (Some r))
          with_new m f (n, g, is) = enters r m n f g is t

          with_procedure : (m : Procedure) × (slice_get p.procedures r ≡ Some m) → Stepped true true d (handles (language p) c (Some r))
          with_procedure (m, f) = with_new m f (newer r m f)

  pub step_related : (spent : Bool) (c d : Config State) → Related spent c d
      → Stepped spent (step_counts (codes_in p.procedures) c) d (step (language p) (codes_in p.procedures) c)
  step_related _ _ _ (at_place spent q pc at s u fs gs o opens st h r) =
      subst (λ k. Stepped spent (counts_at k pc) (going q at u gs None o opens) (step (language p) (codes_in p.procedures) (going q pc s fs None o opens)))
      (sym (code_is p.procedures q st.old st.has))
      (ahead_step q pc at s u fs gs o opens st.old st.now st.has st.has_now st.is h r spent st.here)
  step_related _ _ _ (taken v q pc at s u fs gs o opens st h r) = step_taken v q pc at s u fs gs o opens st h r
