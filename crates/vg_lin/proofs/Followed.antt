-- That linear code follows structured code, where it stands.
use Rattle.std.specs.Prelude.{ℕ, zero, suc, ◌+◌, ◌≤◌, Bool, true, false, not, List, [], ◌∷◌, drop, length, Option, Some, None, slice_get}
use Rattle.std.proofs.Common.{◌≡◌, refl, sym, ap, ◌∙◌, subst, arith}
use Rattle.vg_meaning.specs.declared.event.Event.TheVariants.{Enter}
use Rattle.vg_meaning.specs.Outside.{before as outside_before, with_event}
use Rattle.vg_meaning.specs.History.{Active, History, full, note_tick}
use Rattle.vg_meaning.specs.World.{World}
use Rattle.vg_meaning.specs.Answer.{Stops as StopsAt, Wants, Done, OutOfClock, OutOfDepth, Wrong, Signal, Breaks, Continues}
use Rattle.vg_meaning.specs.Answer.{Returns, Over, Answer, Gives, Ends, go_on, over, and_then, unless, passes}
use Rattle.vg_meaning.specs.Clock.{tick_at, ticked}
use Rattle.vg_meaning.specs.Calls.{closed, closing, unless_deep, note_call, opened, returned}
use Rattle.vg_meaning.specs.Loops.{choose, where_holds, turned, turns}
use Rattle.vg_meaning.specs.Interrupts.{interrupt_from, take_interrupt, idles}
use Rattle.vg_meaning.specs.Code.{Code, performed as does}
use Rattle.vg_lin.specs.declared.instr.Operand.{Operand}
use Rattle.vg_lin.specs.declared.instr.Plain.{Plain as PlainInstr}
use Rattle.vg_lin.specs.declared.instr.Test.{Test as Testing}
use Rattle.vg_lin.specs.declared.instr.Call.{Call as Calling}
use Rattle.vg_lin.specs.declared.instr.Instr.{Instr}
use Rattle.vg_lin.specs.declared.instr.Instr.TheVariants.{Plain, When, Unless, Jump, Call, Return, Idle}
use Rattle.vg_lin.specs.Steps.{Result, Interrupt, Frame, Went, Goes, Raises, Lacks, Fails, Entry, Language, Config, with_named, open_below}
use Rattle.vg_lin.specs.Steps.{open_calls, noted, went, branched, calls, returns, takes, handles, performed, code_of, fetch, step}
use Rattle.vg_lin.specs.Steps.{steps, ends}
use Rattle.vg_lin.specs.Turns.{leaves_loop, instr_counts, step_counts, one_more, counted}
use Rattle.vg_lin.specs.Structured.{Step, Deciding, fresh, Doing, with_found, lifted, with_truth, resumed}
use Rattle.vg_lin.specs.Structured.{Caller, entered, handle, taken, truth, body, called, running, step as does_step}
use Rattle.vg_lin.specs.Stands.{Goal, Next, Either, Pays, Stands, nothing, sequence, plain, call, idle, when, unless as unless_test, holds, fails}
use Rattle.vg_lin.specs.Stands.{flip, choice, loop, break', continue', return, before, behind, AllStand, StandsFirst}
use Rattle.vg_lin.specs.Follows.{Leads, Reaches, conf, EndsBy, Finishes, Follows, by_truth, arriving, more_steps, back, leaving, Opened}
use Rattle.vg_lin.specs.Follows.{FollowsFrom, entry, FollowsCalls, FollowsRun}
use Rattle.vg_lin.specs.Program.{Program}
use Rattle.vg_lin.specs.State.{State}
use Rattle.vg_lin.specs.Meaning.{language, codes_in, first_state, at_start, run, counted_steps}
use Rattle.vg_lin.specs.Sessions.{world, ShowsEnd, FollowsSessions}

abbrev pub To' : Type 0 → Type 0
To' S = Deciding S → World History → Config S

abbrev pub Leave' : Type 0 → Type 0
Leave' S = Signal → Deciding S → World History → Config S

module _ {S : Type 0} (l : Language S) (procs : List (List Instr)) where
  -- ---- steps

  pub leads_then : (t u : ℕ) (c d e : Config S) → Leads l procs t c d → Leads l procs u d e → Leads l procs (t + u) c e
  leads_then t u c d e p q = record { by = λ k. via k (q.by k) }
    where
      onto : (k j : ℕ) → k + u ≤ j → steps l procs j d ≡ steps l procs k e → (i : ℕ) × (j + t ≤ i) × (steps l procs i c ≡ steps l procs j d)
          → (i : ℕ) × (k + (t + u) ≤ i) × (steps l procs i c ≡ steps l procs k e)
      onto k j h f (i, g, r) = (i, omega arith, r ∙ f)

      via : (k : ℕ) → (j : ℕ) × (k + u ≤ j) × (steps l procs j d ≡ steps l procs k e) → (i : ℕ) × (k + (t + u) ≤ i) × (steps l procs i c ≡ steps l procs k e)
      via k (j, h, f) = onto k j h f (p.by j)

  pub leads_step : (c d : Config S) → step l procs c ≡ d → Leads l procs 1 c d
  leads_step c d e = record { by = λ k. (suc k, omega arith, ap (steps l procs k) e) }

  pub free : (m pc : ℕ) (fs : List (Frame S)) (s : S) (w : World History) (i : Instr) (d : Config S) → fetch procs m pc ≡ Some i
      → performed l (conf m pc fs s w) (Some i) ≡ d
      → Leads l procs 0 (conf m pc fs s w) d
  free m pc fs s w i d h e = record { by = λ k. (suc k, omega arith, ap (steps l procs k) (ap (performed l (conf m pc fs s w)) h ∙ e)) }

  -- ---- steps that count

  reaches_here : (c : Config S) → Reaches l procs 0 c c
  reaches_here c = record { by = λ k. (k, omega arith, refl) }

  reaches_then : (t u : ℕ) (c d e : Config S) → Reaches l procs t c d → Reaches l procs u d e → Reaches l procs (t + u) c e
  reaches_then t u c d e p q = record { by = λ k. via k (q.by k) }
    where
      onto : (k j : ℕ) → counted l procs k e + u ≤ counted l procs j d → steps l procs j d ≡ steps l procs k e
          → (i : ℕ) × (counted l procs j d + t ≤ counted l procs i c) × (steps l procs i c ≡ steps l procs j d)
          → (i : ℕ) × (counted l procs k e + (t + u) ≤ counted l procs i c) × (steps l procs i c ≡ steps l procs k e)
      onto k j h f (i, g, r) = (i, omega arith, r ∙ f)

      via : (k : ℕ) → (j : ℕ) × (counted l procs k e + u ≤ counted l procs j d) × (steps l procs j d ≡ steps l procs k e)
          → (i : ℕ) × (counted l procs k e + (t + u) ≤ counted l procs i c) × (steps l procs i c ≡ steps l procs k e)
      via k (j, h, f) = onto k j h f (p.by j)

  reaches_fewer : (t u : ℕ) (c d : Config S) → u ≤ t → Reaches l procs t c d → Reaches l procs u c d
  reaches_fewer t u c d h p = record { by = λ k. less k (p.by k) }
    where
      less : (k : ℕ) → (j : ℕ) × (counted l procs k d + t ≤ counted l procs j c) × (steps l procs j c ≡ steps l procs k d)
          → (j : ℕ) × (counted l procs k d + u ≤ counted l procs j c) × (steps l procs j c ≡ steps l procs k d)
      less k (j, g, e) = (j, omega arith, e)

  -- no more steps count than are made
  pub counted_within : (n : ℕ) (c : Config S) → counted l procs n c ≤ n
  counted_within zero c = omega arith
  counted_within (suc n) c = one_within (step_counts procs c) (counted l procs n (step l procs c)) (counted_within n (step l procs c))
    where
      one_within : (b : Bool) (k : ℕ) → k ≤ n → one_more b k ≤ suc n
      one_within true k h = omega arith
      one_within false k h = omega arith

  -- a step that may count
  reaches_next : (c d : Config S) → step l procs c ≡ d → Reaches l procs 0 c d
  reaches_next c d e = record { by = λ k. (suc k, as_many k, ap (steps l procs k) e) }
    where
      no_less : (b : Bool) (n : ℕ) → n ≤ one_more b n
      no_less true n = omega arith
      no_less false n = omega arith

      as_many : (k : ℕ) → counted l procs k d + 0 ≤ one_more (step_counts procs c) (counted l procs k (step l procs c))
      as_many k =
          let h = no_less (step_counts procs c) (counted l procs k (step l procs c)) in
          let f = ap (counted l procs k) e in omega (arith, h, f)

  -- a step that counts
  reaches_more : (c d : Config S) → step l procs c ≡ d → step_counts procs c ≡ true → Reaches l procs 1 c d
  reaches_more c d e counts = record { by = λ k. (suc k, one_for k, ap (steps l procs k) e) }
    where
      one_for : (k : ℕ) → counted l procs k d + 1 ≤ one_more (step_counts procs c) (counted l procs k (step l procs c))
      one_for k =
          let h = ap (λ b. one_more b (counted l procs k (step l procs c))) counts in
          let f = ap (counted l procs k) e in omega (arith, h, f)

  -- an instruction that may count
  goes_on : (m pc : ℕ) (fs : List (Frame S)) (s : S) (w : World History) (i : Instr) (d : Config S) → fetch procs m pc ≡ Some i
      → performed l (conf m pc fs s w) (Some i) ≡ d
      → Reaches l procs 0 (conf m pc fs s w) d
  goes_on m pc fs s w i d h e = reaches_next (conf m pc fs s w) d (ap (performed l (conf m pc fs s w)) h ∙ e)

  -- one that counts
  pays : (m pc : ℕ) (fs : List (Frame S)) (s : S) (w : World History) (i : Instr) (d : Config S) → fetch procs m pc ≡ Some i
      → performed l (conf m pc fs s w) (Some i) ≡ d
      → instr_counts (code_of (slice_get procs m)) pc (Some i) ≡ true → Reaches l procs 1 (conf m pc fs s w) d
  pays m pc fs s w i d h e counts =
      reaches_more (conf m pc fs s w) d (ap (performed l (conf m pc fs s w)) h ∙ e) (ap (instr_counts (code_of (slice_get procs m)) pc) h ∙ counts)

  -- a branch, which counts where its goal asks for that
  branches : (m pc to u v : ℕ) (fs : List (Frame S)) (s : S) (w : World History) (i : Instr) (d : Config S) (paid : Bool) → fetch procs m pc ≡ Some i
      → performed l (conf m pc fs s w) (Some i) ≡ d
      → instr_counts (code_of (slice_get procs m)) pc (Some i) ≡ leaves_loop (code_of (slice_get procs m)) pc to
      → Pays (code_of (slice_get procs m)) pc to paid
      → Reaches l procs (0 + more_steps (Either u v paid)) (conf m pc fs s w) d
  branches m pc to u v fs s w i d true h e is counts = pays m pc fs s w i d h e (is ∙ counts)
  branches m pc to u v fs s w i d false h e is counts = goes_on m pc fs s w i d h e

  -- some steps first, of which t are for ticks
  follows_after : (t t' n k : ℕ) (c d : Config S) (open' : List Active) (m m' : ℕ) (to : To' S) (leave : Leave' S) (a : Answer (Deciding S) History)
      → t + k ≡ n → t ≤ t' → t + m ≤ t' + m' → Reaches l procs t' c d → Follows l procs d k open' m' to leave a → Follows l procs c n open' m to leave a
  follows_after t t' n k c d o' m m' to leave (Gives s w) e h g p (u, f, o, q) =
      (t + u, omega arith, o, reaches_fewer (t' + (u + m')) (t + u + m) c _ (omega arith) (reaches_then t' (u + m') c d _ p q))
  follows_after t t' n k c d o' m m' to leave (Ends (Over why) s w) e h g p f = λ legal. finishes (f legal)
    where
      finishes : Finishes l procs d k why w → Finishes l procs c n why w
      finishes (u, f, x, q, r, o, y) = (t + u, omega arith, x, reaches_fewer (t' + u) (t + u) c x (omega arith) (reaches_then t' u c d x p q), r, o, y)
  follows_after t t' n k c d o' m m' to leave (Ends Breaks s w) e h g p (u, f, o, q) =
      (t + u, omega arith, o, reaches_fewer (t' + (u + 0)) (t + u + 0) c _ (omega arith) (reaches_then t' (u + 0) c d _ p q))
  follows_after t t' n k c d o' m m' to leave (Ends Continues s w) e h g p (u, f, o, q) =
      (t + u, omega arith, o, reaches_fewer (t' + (u + 0)) (t + u + 0) c _ (omega arith) (reaches_then t' (u + 0) c d _ p q))
  follows_after t t' n k c d o' m m' to leave (Ends Returns s w) e h g p (u, f, o, q) =
      (t + u, omega arith, o, reaches_fewer (t' + (u + 0)) (t + u + 0) c _ (omega arith) (reaches_then t' (u + 0) c d _ p q))

  -- one piece and then another
  follows_then : (n : ℕ) (c : Config S) (open' : List Active) (m1 m2 m : ℕ) (to to' : To' S) (leave : Leave' S) (a : Answer (Deciding S) History) (go : Doing S)
      → m ≤ m1 + m2 → Follows l procs c n open' m1 to leave a
      → ((s : Deciding S) (w : World History) → w.history.active ≡ open' → Follows l procs (to s w) w.clock open' m2 to' leave (go s w))
      → Follows l procs c n open' m to' leave (and_then a go)
  follows_then n c o' m1 m2 m to to' leave (Gives s w) go h (t, e, o, p) k =
      follows_after t (t + m1) n w.clock c (to s w) o' m m2 to' leave (go s w) e (omega arith) (omega arith) p (k s w o)
  follows_then n c o' m1 m2 m to to' leave (Ends (Over why) s w) go h p k = p
  follows_then n c o' m1 m2 m to to' leave (Ends Breaks s w) go h p k = p
  follows_then n c o' m1 m2 m to to' leave (Ends Continues s w) go h p k = p
  follows_then n c o' m1 m2 m to to' leave (Ends Returns s w) go h p k = p

  -- the same, and then some steps that are for no tick
  follows_onto : (n : ℕ) (c : Config S) (open' : List Active) (m : ℕ) (to to' : To' S) (leave : Leave' S) (a : Answer (Deciding S) History)
      → Follows l procs c n open' m to leave a → ((s : Deciding S) (w : World History) → Reaches l procs 0 (to s w) (to' s w))
      → Follows l procs c n open' m to' leave a
  follows_onto n c o' m to to' leave (Gives s w) (t, e, o, p) k =
      (t, e, o, reaches_fewer (t + m + 0) (t + m) c _ (omega arith) (reaches_then (t + m) 0 c (to s w) (to' s w) p (k s w)))
  follows_onto n c o' m to to' leave (Ends (Over why) s w) p k = p
  follows_onto n c o' m to to' leave (Ends Breaks s w) p k = p
  follows_onto n c o' m to to' leave (Ends Continues s w) p k = p
  follows_onto n c o' m to to' leave (Ends Returns s w) p k = p

  -- code of procedure m, under the frame of its caller and those below it, is followed to a goal
  abbrev pub In : ℕ → Frame S → List (Frame S) → Config S → ℕ → Goal → ℕ → ℕ → Answer (Deciding S) History → Type 0
  In m f fs c n g x y a = Follows l procs c n (open_calls l m (f ∷ fs)) (more_steps g) (arriving m (f ∷ fs) g) (leaving l m f fs x y) a

  -- what is done with an interrupt that was taken is followed
  abbrev pub Handles : (ℕ → Doing S) → Type 0
  Handles go = (v m at : ℕ) (fs : List (Frame S)) (leave : Leave' S) (s : Deciding S) (w : World History) → Opened l m fs w
      → Follows l procs (record (conf m at fs s.state w) { woken = Some v }) w.clock (open_calls l m fs) 0 (arriving m fs (Next (suc at))) leave (go v s w)

  follows_plain : (m at x y : ℕ) (f : Frame S) (fs : List (Frame S)) (p : PlainInstr) → fetch procs m at ≡ Some (Plain p)
      → (s : Deciding S) (w : World History) → Opened l m (f ∷ fs) w
      → (z : Went S) → l.plain p s.state w.outside ≡ z → In m f fs (conf m at (f ∷ fs) s.state w) w.clock (Next (suc at)) x y (lifted z s w)
  follows_plain m at x y f fs p h s w o (Goes s1 out) e = (
    0,
    omega arith,
    o,
    goes_on m at (f ∷ fs) s.state w (Plain p) (conf m (suc at) (f ∷ fs) s1 (record w { outside = out })) h
        (ap (went (conf m at (f ∷ fs) s.state w)) e),
  )
  follows_plain m at x y f fs p h s w o (Raises code) e =
      λ legal. (
        0,
        omega arith,
        _,
        goes_on m at (f ∷ fs) s.state w (Plain p) (ends (conf m at (f ∷ fs) s.state w) (StopsAt code None)) h
            (ap (went (conf m at (f ∷ fs) s.state w)) e),
        refl,
        refl,
        refl,
      )
  follows_plain m at x y f fs p h s w o (Lacks address) e =
      λ legal. (
        0,
        omega arith,
        _,
        goes_on m at (f ∷ fs) s.state w (Plain p) (ends (conf m at (f ∷ fs) s.state w) (Wants address)) h
            (ap (went (conf m at (f ∷ fs) s.state w)) e),
        refl,
        refl,
        refl,
      )
  follows_plain m at x y f fs p h s w o Fails e = λ legal. absurd legal

  follows_when : (m at x y met : ℕ) (f : Frame S) (fs : List (Frame S)) (t : Testing) (paid : Bool) → fetch procs m at ≡ Some (When t met)
      → Pays (code_of (slice_get procs m)) at met paid → (s : Deciding S) (w : World History) → Opened l m (f ∷ fs) w
      → (z : Option Bool) → l.holds t s.state ≡ z → In m f fs (conf m at (f ∷ fs) s.state w) w.clock (Either met (suc at) paid) x y
      (with_found z with_truth s w)
  follows_when m at x y met f fs t paid h counts s w o (Some true) e = (
    0,
    omega arith,
    o,
    branches m at met met (suc at) (f ∷ fs) s.state w (When t met) (conf m met (f ∷ fs) s.state w) paid h
        (ap (branched (conf m at (f ∷ fs) s.state w) true met) e) refl counts,
  )
  follows_when m at x y met f fs t paid h counts s w o (Some false) e = (
    0,
    omega arith,
    o,
    branches m at met met (suc at) (f ∷ fs) s.state w (When t met) (conf m (suc at) (f ∷ fs) s.state w) paid h
        (ap (branched (conf m at (f ∷ fs) s.state w) true met) e) refl counts,
  )
  follows_when m at x y met f fs t paid h counts s w o None e = λ legal. absurd legal

  follows_unless : (m at x y unmet : ℕ) (f : Frame S) (fs : List (Frame S)) (t : Testing) (paid : Bool) → fetch procs m at ≡ Some (Unless t unmet)
      → Pays (code_of (slice_get procs m)) at unmet paid → (s : Deciding S) (w : World History) → Opened l m (f ∷ fs) w
      → (z : Option Bool) → l.holds t s.state ≡ z → In m f fs (conf m at (f ∷ fs) s.state w) w.clock (Either (suc at) unmet paid) x y
      (with_found z with_truth s w)
  follows_unless m at x y unmet f fs t paid h counts s w o (Some true) e = (
    0,
    omega arith,
    o,
    branches m at unmet (suc at) unmet (f ∷ fs) s.state w (Unless t unmet) (conf m (suc at) (f ∷ fs) s.state w) paid h
        (ap (branched (conf m at (f ∷ fs) s.state w) false unmet) e) refl counts,
  )
  follows_unless m at x y unmet f fs t paid h counts s w o (Some false) e = (
    0,
    omega arith,
    o,
    branches m at unmet (suc at) unmet (f ∷ fs) s.state w (Unless t unmet) (conf m unmet (f ∷ fs) s.state w) paid h
        (ap (branched (conf m at (f ∷ fs) s.state w) false unmet) e) refl counts,
  )
  follows_unless m at x y unmet f fs t paid h counts s w o None e = λ legal. absurd legal

  -- the way that a truth value takes
  chosen : (m u v x y : ℕ) (f : Frame S) (fs : List (Frame S)) (g : Goal) (p q : Doing S) → FollowsFrom l procs m f fs u g x y p
      → FollowsFrom l procs m f fs v g x y q
      → (b : Option Bool) (s : Deciding S) (w : World History) → Opened l m (f ∷ fs) w
      → In m f fs (conf m (by_truth u v b) (f ∷ fs) s.state w) w.clock g x y (choose (taken b s) p q s w)
  chosen m u v x y f fs g p q hp hq (Some true) s w o = hp (record s { truth = None }) w o
  chosen m u v x y f fs g p q hp hq (Some false) s w o = hq (record s { truth = None }) w o
  chosen m u v x y f fs g p q hp hq None s w o = λ legal. absurd legal

  flipped : (m met unmet x y : ℕ) (f : Frame S) (fs : List (Frame S)) (b : Option Bool) (s : Deciding S) (w : World History) → Opened l m (f ∷ fs) w
      → Follows l procs (conf m (by_truth unmet met b) (f ∷ fs) s.state w) w.clock (open_calls l m (f ∷ fs)) 0
      (arriving m (f ∷ fs) (Either met unmet false)) (leaving l m f fs x y) (with_found b (λ d. with_truth (not d)) s w)
  flipped m met unmet x y f fs (Some true) s w o = (0, omega arith, o, reaches_here _)
  flipped m met unmet x y f fs (Some false) s w o = (0, omega arith, o, reaches_here _)
  flipped m met unmet x y f fs None s w o = λ legal. absurd legal

  -- a loop's test, and the tick behind it: where the test holds, one step more counts than there are ticks
  holding : (m u to x y n : ℕ) (f : Frame S) (fs : List (Frame S)) (c : Config S) (a : Answer (Deciding S) History) (go : Doing S)
      → In m f fs c n (Either u to true) x y a → FollowsFrom l procs m f fs u (Next to) x y go
      → In m f fs c n (Next to) x y (and_then a (λ s1 w1. choose (truth s1) (ticked full go) go_on s1 w1))
  holding m u to x y n f fs c (Gives s w) go (t, e, o, p) k = at_truth s.truth p
    where
      at_clock : (j : ℕ) → j ≡ w.clock → Reaches l procs (t + 1) c (conf m u (f ∷ fs) s.state w)
          → In m f fs c n (Next to) x y (tick_at note_tick j go (record s { truth = None }) w)
      at_clock zero d q = λ legal. (t, e, conf m u (f ∷ fs) s.state w, reaches_fewer (t + 1) t c _ (omega arith) q, refl, refl, refl)
      at_clock (suc j) d q =
          follows_after (t + 1) (t + 1) n j c (conf m u (f ∷ fs) s.state w) (open_calls l m (f ∷ fs)) 0 0 (arriving m (f ∷ fs) (Next to))
          (leaving l m f fs x y) _
          (omega (arith, e, d)) (omega arith) (omega arith) q (k (record s { truth = None }) (record w { clock = j; history = note_tick w.history }) o)

      at_truth : (b : Option Bool) → Reaches l procs (t + 1) c (conf m (by_truth u to b) (f ∷ fs) s.state w)
          → In m f fs c n (Next to) x y (choose (taken b s) (ticked full go) go_on s w)
      at_truth (Some true) q = at_clock w.clock refl q
      at_truth (Some false) q = (t, e, o, reaches_fewer (t + 1) (t + 0) c _ (omega arith) q)
      at_truth None q = λ legal. absurd legal
  holding m u to x y n f fs c (Ends (Over why) s w) go p k = p
  holding m u to x y n f fs c (Ends Breaks s w) go p k = p
  holding m u to x y n f fs c (Ends Continues s w) go p k = p
  holding m u to x y n f fs c (Ends Returns s w) go p k = p

  -- the same where no turn is left
  holding_out : (m u to x y n : ℕ) (f : Frame S) (fs : List (Frame S)) (c : Config S) (a : Answer (Deciding S) History) → In m f fs c n (Either u to true) x y a
      → In m f fs c n (Next to) x y (and_then a (λ s1 w1. choose (truth s1) (over OutOfClock) go_on s1 w1))
  holding_out m u to x y n f fs c (Gives s w) (t, e, o, p) = at_truth s.truth p
    where
      at_truth : (b : Option Bool) → Reaches l procs (t + 1) c (conf m (by_truth u to b) (f ∷ fs) s.state w)
          → In m f fs c n (Next to) x y (choose (taken b s) (over OutOfClock) go_on s w)
      at_truth (Some true) q = λ legal. (t, e, conf m u (f ∷ fs) s.state w, reaches_fewer (t + 1) t c _ (omega arith) q, refl, refl, refl)
      at_truth (Some false) q = (t, e, o, reaches_fewer (t + 1) (t + 0) c _ (omega arith) q)
      at_truth None q = λ legal. absurd legal
  holding_out m u to x y n f fs c (Ends (Over why) s w) p = p
  holding_out m u to x y n f fs c (Ends Breaks s w) p = p
  holding_out m u to x y n f fs c (Ends Continues s w) p = p
  holding_out m u to x y n f fs c (Ends Returns s w) p = p

  -- a loop's body and what comes behind it
  follows_turned : (m to v x y n : ℕ) (f : Frame S) (fs : List (Frame S)) (c : Config S) (a : Answer (Deciding S) History) (go : Doing S)
      → In m f fs c n (Next v) to v a → FollowsFrom l procs m f fs v (Next to) x y go
      → In m f fs c n (Next to) x y (turned a go)
  follows_turned m to v x y n f fs c (Gives s w) go (t, e, o, p) k =
      follows_after t (t + 0) n w.clock c (conf m v (f ∷ fs) s.state w) _ 0 0 (arriving m (f ∷ fs) (Next to)) (leaving l m f fs x y) (go s w) e
      (omega arith) (omega arith) p (k s w o)
  follows_turned m to v x y n f fs c (Ends Continues s w) go (t, e, o, p) k =
      follows_after t (t + 0) n w.clock c (conf m v (f ∷ fs) s.state w) _ 0 0 (arriving m (f ∷ fs) (Next to)) (leaving l m f fs x y) (go s w) e
      (omega arith) (omega arith) p (k s w o)
  follows_turned m to v x y n f fs c (Ends Breaks s w) go p k = p
  follows_turned m to v x y n f fs c (Ends Returns s w) go p k = p
  follows_turned m to v x y n f fs c (Ends (Over why) s w) go p k = p

  -- a loop of at most so many turns
  follows_turns : (m at u v to x y : ℕ) (f : Frame S) (fs : List (Frame S)) (condition inside next : Doing S)
      → FollowsFrom l procs m f fs at (Either u to true) x y condition → FollowsFrom l procs m f fs u (Next v) to v inside
      → FollowsFrom l procs m f fs v (Next at) x y next
      → (n : ℕ) → FollowsFrom l procs m f fs at (Next to) x y (turns full n (where_holds condition truth) inside next)
  follows_turns m at u v to x y f fs condition inside next hc hb hn zero s w o =
      holding_out m u to x y w.clock f fs (conf m at (f ∷ fs) s.state w) (condition s w) (hc s w o)
  follows_turns m at u v to x y f fs condition inside next hc hb hn (suc n) s w o =
      holding m u to x y w.clock f fs (conf m at (f ∷ fs) s.state w) (condition s w) _ (hc s w o)
      (λ s1 w1 o1. follows_turned m to v x y w1.clock f fs (conf m u (f ∷ fs) s1.state w1) (inside s1 w1) _ (hb s1 w1 o1)
      (λ s2 w2 o2. follows_then w2.clock (conf m v (f ∷ fs) s2.state w2) _ 0 0 0 (arriving m (f ∷ fs) (Next at)) (arriving m (f ∷ fs) (Next to))
      (leaving l m f fs x y) (next s2 w2) _ (omega arith) (hn s2 w2 o2)
      (λ s3 w3 o3. follows_turns m at u v to x y f fs condition inside next hc hb hn n s3 w3 o3)))

  follows_return : (m at x y : ℕ) (f : Frame S) (fs : List (Frame S)) (r : ℕ) (a : Operand) (g : Goal) → fetch procs m at ≡ Some (Return r a)
      → (s : Deciding S) (w : World History) → Opened l m (f ∷ fs) w
      → (z : Option ℕ) → l.value r a s.state ≡ z → In m f fs (conf m at (f ∷ fs) s.state w) w.clock g x y
      (and_then (with_found z (λ v s1 w1. Gives (record s1 { result = v }) w1) s w) (λ s1 w1. Ends Returns s1 w1))
  follows_return m at x y f fs r a g h s w o (Some v) e =
      (0, omega arith, o, goes_on m at (f ∷ fs) s.state w (Return r a) (back l f fs (record s { result = v }) w) h (ap (returns l (conf m at (f ∷ fs) s.state w)) e))
  follows_return m at x y f fs r a g h s w o None e = λ legal. absurd legal

  follows_call : (go : Caller S) → FollowsCalls l procs go → (m at : ℕ) (fs : List (Frame S)) (leave : Leave' S) (c : Calling)
      → fetch procs m at ≡ Some (Call c) → (s : Deciding S) (w : World History) → Opened l m fs w
      → (z : Option (Entry S)) → l.enter c s.state ≡ z → Follows l procs (conf m at fs s.state w) w.clock (open_calls l m fs) 0
      (arriving m fs (Next (suc at))) leave (with_found z (entered l go c) s w)
  follows_call go hgo m at fs leave c h s w o (Some e) eq =
      follows_then w.clock _ (open_calls l m fs) 0 0 0 (back l frame fs) (arriving m fs (Next (suc at))) leave (go e.proc (fresh e.state) w)
      (resumed l (Result c) e.kept s) (omega arith)
      (hgo e.proc frame fs (conf m at fs s.state w) e.state w leave refl refl refl
      (pays m at fs s.state w (Call c) _ h (ap (calls l (conf m at fs s.state w) c) eq) refl) o)
      (λ b w1 o1. (0, omega arith, o1, reaches_here _))
    where
      frame : Frame S
      frame = record { proc = m; pc = at; kept = e.kept; awaits = Result c }
  follows_call go hgo m at fs leave c h s w o None eq = λ legal. absurd legal

  -- the handler of an interrupt that was taken, where there is one
  follows_handle : (go : Caller S) → FollowsCalls l procs go → Handles (λ v. handle l go (l.handler v))
  follows_handle go hgo v m at fs leave s w o = by_handler (l.handler v) refl
    where
      woken' : Config S
      woken' = record (conf m at fs s.state w) { woken = Some v }

      frame : Frame S
      frame = record { proc = m; pc = at; kept = s.state; awaits = Interrupt }

      by_handler : (z : Option ℕ) → l.handler v ≡ z → Follows l procs woken' w.clock (open_calls l m fs) 0 (arriving m fs (Next (suc at))) leave
          (handle l go z s w)
      by_handler None e = (0, omega arith, o, reaches_next woken' (conf m (suc at) fs s.state w) (ap (handles l woken') e))
      by_handler (Some q) e =
          follows_then w.clock woken' (open_calls l m fs) 0 0 0 (back l frame fs) (arriving m fs (Next (suc at))) leave
          (go q (fresh (l.wake q s.state)) w) (resumed l Interrupt s.state s) (omega arith)
          (hgo q frame fs woken' (l.wake q s.state) w leave refl refl refl (reaches_more woken' _ (ap (handles l woken') e) refl) o)
          (λ b w1 o1. (0, omega arith, o1, reaches_here _))

  follows_idle : (go : ℕ → Doing S) → Handles go → (m at : ℕ) (fs : List (Frame S)) (leave : Leave' S) → fetch procs m at ≡ Some Idle
      → (s : Deciding S) (w : World History) → Opened l m fs w
      → (vs : List ℕ) → w.outside.interrupts ≡ vs → Follows l procs (conf m at fs s.state w) w.clock (open_calls l m fs) 0
      (arriving m fs (Next (suc at))) leave (interrupt_from vs go s w)
  follows_idle go hgo m at fs leave h s w o [] e =
      λ legal. (0, omega arith, _, goes_on m at fs s.state w Idle (ends (conf m at fs s.state w) Done) h (ap (takes (conf m at fs s.state w)) e), refl, refl, refl)
  follows_idle go hgo m at fs leave h s w o (v ∷ vs) e =
      follows_after 0 0 w.clock w.clock (conf m at fs s.state w) _ (open_calls l m fs) 0 0 (arriving m fs (Next (suc at))) leave _ (omega arith)
      (omega arith) (omega arith)
      (goes_on m at fs s.state w Idle (takes (conf m at fs s.state w) (v ∷ vs)) h (ap (takes (conf m at fs s.state w)) e))
      (hgo v m at fs leave s (record w { outside = with_event (record w.outside { interrupts = vs }) (Enter v) }) o)

  -- structured code, where its linear code stands
  pub follows_code : (go : Caller S) → FollowsCalls l procs go → (m x y at : ℕ) (f : Frame S) (fs : List (Frame S)) (c : Code Step) (g : Goal)
      → Stands (code_of (slice_get procs m)) x y c at g
      → FollowsFrom l procs m f fs at g x y (does full (does_step l go) truth c)
  follows_code go hgo m x y at f fs _ _ nothing s w o = (0, omega arith, o, reaches_here _)
  follows_code go hgo m x y at f fs _ g (sequence {mid = mid} {a = a} {b = b} ha hb) s w o =
      follows_then w.clock _ _ 0 (more_steps g) (more_steps g) (arriving m (f ∷ fs) (Next mid)) (arriving m (f ∷ fs) g) (leaving l m f fs x y) _ _ (omega arith)
      (follows_code go hgo m x y at f fs a (Next mid) ha s w o) (follows_code go hgo m x y mid f fs b g hb)
  follows_code go hgo m x y at f fs _ _ (plain {p = p} h) s w o = follows_plain m at x y f fs p h s w o (l.plain p s.state w.outside) refl
  follows_code go hgo m x y at f fs _ _ (call {c = c} h) s w o = follows_call go hgo m at (f ∷ fs) (leaving l m f fs x y) c h s w o (l.enter c s.state) refl
  follows_code go hgo m x y at f fs _ _ (idle h) s w o =
      follows_idle (λ v. handle l go (l.handler v)) (follows_handle go hgo) m at (f ∷ fs) (leaving l m f fs x y) h s w o w.outside.interrupts refl
  follows_code go hgo m x y at f fs _ _ (when {met = met} {t = t} {paid = paid} h counts) s w o =
      follows_when m at x y met f fs t paid h counts s w o (l.holds t s.state) refl
  follows_code go hgo m x y at f fs _ _ (unless_test {unmet = unmet} {t = t} {paid = paid} h counts) s w o =
      follows_unless m at x y unmet f fs t paid h counts s w o (l.holds t s.state) refl
  follows_code go hgo m x y at f fs _ _ holds s w o = (0, omega arith, o, reaches_here _)
  follows_code go hgo m x y at f fs _ _ fails s w o = (0, omega arith, o, reaches_here _)
  follows_code go hgo m x y at f fs _ _ (flip {met = met} {unmet = unmet} {c = c} {paid = paid} h) s w o =
      follows_then w.clock _ _ (more_steps (Either unmet met paid)) 0 (more_steps (Either met unmet paid))
      (arriving m (f ∷ fs) (Either unmet met paid)) (arriving m (f ∷ fs) (Either met unmet paid)) (leaving l m f fs x y) _ _ (same_more unmet met paid)
      (follows_code go hgo m x y at f fs c (Either unmet met paid) h s w o) (λ s1 w1 o1. flipped m met unmet x y f fs s1.truth s1 w1 o1)
    where
      same_more : (unmet met : ℕ) (paid : Bool) → more_steps (Either met unmet paid) ≤ more_steps (Either unmet met paid) + 0
      same_more unmet met true = omega arith
      same_more unmet met false = omega arith
  follows_code go hgo m x y at f fs _ g (choice {u = u} {v = v} {c = c} {a = a} {b = b} hc ha hb) s w o =
      follows_then w.clock _ _ 0 (more_steps g) (more_steps g) (arriving m (f ∷ fs) (Either u v false)) (arriving m (f ∷ fs) g)
      (leaving l m f fs x y) _ _ (omega arith)
      (follows_code go hgo m x y at f fs c (Either u v false) hc s w o)
      (λ s1 w1 o1. chosen m u v x y f fs g _ _ (follows_code go hgo m x y u f fs a g ha) (follows_code go hgo m x y v f fs b g hb) s1.truth s1 w1 o1)
  follows_code go hgo m x y at f fs _ _ (loop {u = u} {v = v} {to = to} {c = c} {body = inside} {next = next} hc hb hn) s w o =
      follows_turns m at u v to x y f fs _ _ _ (follows_code go hgo m x y at f fs c (Either u to true) hc)
      (follows_code go hgo m to v u f fs inside (Next v) hb) (follows_code go hgo m x y v f fs next (Next at) hn) w.clock s w o
  follows_code go hgo m x y at f fs _ _ break' s w o = (0, omega arith, o, reaches_here _)
  follows_code go hgo m x y at f fs _ _ continue' s w o = (0, omega arith, o, reaches_here _)
  follows_code go hgo m x y at f fs _ g (return {width = r} {a = a} h) s w o = follows_return m at x y f fs r a g h s w o (l.value r a s.state) refl
  follows_code go hgo m x y at f fs c g (before {mid = mid} h k) s w o =
      follows_after 0 0 w.clock w.clock _ (conf m mid (f ∷ fs) s.state w) _ (more_steps g) (more_steps g) (arriving m (f ∷ fs) g) (leaving l m f fs x y) _
      (omega arith) (omega arith) (omega arith)
      (goes_on m at (f ∷ fs) s.state w (Jump mid) _ h refl) (follows_code go hgo m x y mid f fs c g k s w o)
  follows_code go hgo m x y at f fs c _ (behind {mid = mid} {to = to} k h) s w o =
      follows_onto w.clock _ _ 0 (arriving m (f ∷ fs) (Next mid)) (arriving m (f ∷ fs) (Next to)) (leaving l m f fs x y) _
      (follows_code go hgo m x y at f fs c (Next mid) k s w o)
      (λ s1 w1. goes_on m mid (f ∷ fs) s1.state w1 (Jump to) _ h refl)

  -- the end of a body, and then its call is closed
  follows_closed : (k x y to n : ℕ) (f : Frame S) (fs : List (Frame S)) (c : Config S) (leave : Leave' S) (a : Active) → l.named k ≡ Some a
      → (b : Answer (Deciding S) History) → In k f fs c n (Next to) x y b
      → Follows l procs c n (open_below l (f ∷ fs)) 0 (back l f fs) leave (and_then (returned b (over Wrong)) (closed full))
  follows_closed k x y to n f fs c leave a named (Gives s w) p = λ legal. absurd legal
  follows_closed k x y to n f fs c leave a named (Ends Returns s w) (t, e, o, p) =
      (t, e, ap (drop 1) (o ∙ ap (λ z. with_named z (open_below l (f ∷ fs))) named), p)
  follows_closed k x y to n f fs c leave a named (Ends (Over why) s w) p = p
  follows_closed k x y to n f fs c leave a named (Ends Breaks s w) p = λ legal. absurd legal
  follows_closed k x y to n f fs c leave a named (Ends Continues s w) p = λ legal. absurd legal

  -- an active call: the tick, the look at the depth, and the body
  follows_opened : (go : Caller S) → FollowsCalls l procs go → (code : Code Step) (k to : ℕ) → Stands (code_of (slice_get procs k)) 0 0 code 0 (Next to)
      → (a : Active) → l.named k ≡ Some a
      → (f : Frame S) (fs : List (Frame S)) (c : Config S) (s : S) (w : World History) (leave : Leave' S)
      → c.ending ≡ None → c.outside ≡ w.outside → c.openings ≡ w.history.at_openings
      → Reaches l procs 1 c (entry l k f fs s w)
      → w.history.active ≡ open_below l (f ∷ fs)
      → (j : ℕ) → j ≡ w.clock → Follows l procs c w.clock (open_below l (f ∷ fs)) 0 (back l f fs) leave
      (tick_at (note_call full a) j (unless_deep full (closing full (body l go code))) (fresh s) w)
  follows_opened go hgo code k to st a named f fs c s w leave h1 h2 h3 p o zero e = λ legal. (0, omega arith, c, reaches_here c, h1, h2, h3)
  follows_opened go hgo code k to st a named f fs c s w leave h1 h2 h3 p o (suc j) e = in_body (passes w.deepest (full.depth w1.history))
    where
      w1 : World History
      w1 = record w { clock = j; history = note_call full a w.history }

      there : entry l k f fs s w ≡ conf k 0 (f ∷ fs) s w1
      there = ap (λ z. record (conf k 0 (f ∷ fs) s w) { openings = noted z (open_below l (f ∷ fs)) w.history.at_openings }) named
          ∙ ap (λ z. record (conf k 0 (f ∷ fs) s w) { openings = (a ∷ z) ∷ w.history.at_openings }) (sym o)

      onto : Reaches l procs 1 c (conf k 0 (f ∷ fs) s w1)
      onto = subst (λ d. Reaches l procs 1 c d) there p

      opened' : Opened l k (f ∷ fs) w1
      opened' = ap (λ z. a ∷ z) o ∙ sym (ap (λ z. with_named z (open_below l (f ∷ fs))) named)

      in_body : (b : Bool) → Follows l procs c w.clock (open_below l (f ∷ fs)) 0 (back l f fs) leave
          (unless b OutOfDepth (closing full (body l go code)) (fresh s) w1)
      in_body true = λ legal. (1, omega (arith, e), conf k 0 (f ∷ fs) s w1, onto, refl, refl, refl)
      in_body false =
          follows_after 1 1 w.clock j c (conf k 0 (f ∷ fs) s w1) (open_below l (f ∷ fs)) 0 0 (back l f fs) leave _ (omega (arith, e)) (omega arith)
          (omega arith) onto
          (follows_closed k 0 0 to j f fs (conf k 0 (f ∷ fs) s w1) leave a named (does full (does_step l go) truth code (fresh s) w1)
          (follows_code go hgo k 0 0 0 f fs code (Next to) st (fresh s) w1 opened'))

  -- every call is followed
  pub follows_called : (bodies : ℕ → Code Step) → AllStand procs bodies → (n : ℕ) → FollowsCalls l procs (called l bodies n)
  follows_called bodies st zero k f fs c s w leave h1 h2 h3 p o = λ legal. (0, omega arith, c, reaches_here c, h1, h2, h3)
  follows_called bodies st (suc n) k f fs c s w leave h1 h2 h3 p o = by_name (follows_called bodies st n) (st k) (l.named k) refl
    where
      by_name : FollowsCalls l procs (called l bodies n) → (end : ℕ) × Stands (code_of (slice_get procs k)) 0 0 (bodies k) 0 (Next end) → (z : Option Active) → l.named k ≡ z
          → Follows l procs c w.clock (open_below l (f ∷ fs)) 0 (back l f fs) leave
          (with_found z (λ a. opened full a (body l (called l bodies n) (bodies k))) (fresh s) w)
      by_name hgo (to, sk) (Some a) e = follows_opened (called l bodies n) hgo (bodies k) k to sk a e f fs c s w leave h1 h2 h3 p o w.clock refl
      by_name hgo (to, sk) None e = λ legal. absurd legal

  -- the idle loop of the procedure with which a run begins
  follows_idles : (go : ℕ → Doing S) → Handles go → (m : ℕ) (c : Calling) (leave : Leave' S) → StandsFirst (code_of (slice_get procs m)) c
      → (n : ℕ) (s : Deciding S) (w : World History) → Opened l m [] w
      → Follows l procs (conf m 1 [] s.state w) w.clock (open_calls l m []) 0 (arriving m [] (Next 2)) leave (idles n go s w)
  follows_idles go hgo m c leave st zero s w o = follows_idle go hgo m 1 [] leave st.idle s w o w.outside.interrupts refl
  follows_idles go hgo m c leave st (suc n) s w o =
      follows_then w.clock _ _ 0 0 0 (arriving m [] (Next 2)) (arriving m [] (Next 2)) leave (take_interrupt go s w) (idles n go) (omega arith)
      (follows_idle go hgo m 1 [] leave st.idle s w o w.outside.interrupts refl)
      (λ s1 w1 o1. follows_after 0 0 w1.clock w1.clock _ (conf m 1 [] s1.state w1) _ 0 0 (arriving m [] (Next 2)) leave _ (omega arith)
      (omega arith) (omega arith)
      (goes_on m 2 [] s1.state w1 (Jump 1) _ st.again refl) (follows_idles go hgo m c leave st n s1 w1 o1))

  -- a whole run
  pub follows_running : (bodies : ℕ → Code Step) → AllStand procs bodies → (m : ℕ) (c : Calling) (leave : Leave' S)
      → StandsFirst (code_of (slice_get procs m)) c → (n : ℕ) (s : Deciding S) (w : World History) → Opened l m [] w
      → Follows l procs (conf m 0 [] s.state w) w.clock (open_calls l m []) 0 (arriving m [] (Next 2)) leave (running l bodies c n s w)
  follows_running bodies st m c leave first n s w o =
      follows_then w.clock _ _ 0 0 0 (arriving m [] (Next 1)) (arriving m [] (Next 2)) leave _ _ (omega arith)
      (follows_call (called l bodies w.clock) (follows_called bodies st w.clock) m 0 [] leave c first.first s w o (l.enter c s.state) refl)
      (λ s1 w1 o1. follows_idles (λ v s2 w2. handle l (called l bodies w2.clock) (l.handler v) s2 w2)
      (λ v m2 at fs leave2 s2 w2 o2. follows_handle (called l bodies w2.clock) (follows_called bodies st w2.clock) v m2 at fs leave2 s2 w2 o2)
      m c leave first n s1 w1 o1)

  pub follows_run : (bodies : ℕ → Code Step) → AllStand procs bodies → (m : ℕ) (c : Calling) → StandsFirst (code_of (slice_get procs m)) c
      → l.named m ≡ None → FollowsRun l procs bodies m c
  follows_run bodies st m c first e interrupts s t w v why o legal is =
      subst (λ a. Follows l procs (conf m 0 [] s.state w) w.clock (open_calls l m []) 0 (arriving m [] (Next 2)) (λ x y z. conf m 0 [] y.state z) a) is
      (follows_running bodies st m c (λ x y z. conf m 0 [] y.state z) first interrupts s w (o ∙ sym (ap (λ z. with_named z []) e))) legal

-- the same of a program
pub follows_sessions : (p : Program) (bodies : ℕ → Code Step) (c : Calling) → AllStand (codes_in p.procedures) bodies
    → StandsFirst (code_of (slice_get (codes_in p.procedures) p.start)) c → (language p).named p.start ≡ None → FollowsSessions p bodies c
follows_sessions p bodies c st first e clock deepest reads interrupts t v why legal is =
    shows (follows_run (language p) (codes_in p.procedures) bodies st p.start c first e (length interrupts) (fresh (first_state p)) t
    (world clock deepest reads interrupts) v why refl legal is)
  where
    at : (n : ℕ) → n + v.clock ≡ clock → (d : Config State) → EndsBy why d → d.outside ≡ v.outside → d.openings ≡ v.history.at_openings
        → (j : ℕ) × (0 + n ≤ counted_steps p j reads interrupts) × (run p j reads interrupts ≡ d)
        → (j : ℕ) × (clock ≤ v.clock + counted_steps p j reads interrupts) × ShowsEnd why v (run p j reads interrupts)
    at n h d a b g (j, le, same) = (j, omega (arith, h, le), subst (λ x. ShowsEnd why v x) (sym same) (record { ending = a; outside = b; openings = g }))

    shows : Finishes (language p) (codes_in p.procedures) (at_start p (outside_before reads interrupts)) clock why v
        → (j : ℕ) × (clock ≤ v.clock + counted_steps p j reads interrupts) × ShowsEnd why v (run p j reads interrupts)
    shows (n, h, d, reaches, a, b, g) = at n h d a b g (reaches.by 0)
