-- Linear code follows a structured answer: with at least one step that counts for each tick, the same outside, and the same calls open
-- at each opening.
use Rattle.std.specs.Prelude.{◌≡◌, ℕ, suc, ◌+◌, ◌≤◌, Bool, true, false, List, [], ◌∷◌, Option, Some, None}
use Rattle.vg_meaning.specs.History.{Active, History}
use Rattle.vg_meaning.specs.World.{World}
use Rattle.vg_meaning.specs.Answer.{End, OutOfClock, OutOfDepth, Wrong, Signal, Breaks, Continues, Returns, Over, Answer, Gives, Ends}
use Rattle.vg_lin.specs.declared.instr.Instr.{Instr}
use Rattle.vg_meaning.specs.Code.{Code}
use Rattle.vg_lin.specs.declared.instr.Call.{Call}
use Rattle.vg_lin.specs.Steps.{Frame, Language, Config, steps, open_below, open_calls, noted}
use Rattle.vg_lin.specs.Turns.{counted}
use Rattle.vg_lin.specs.Structured.{Step, Deciding, fresh, Doing, Caller, running}
use Rattle.vg_lin.specs.Stands.{Goal, Next, Either}

-- From c the run comes to d in at least t steps: however many steps are to follow there, so many and at least t more lead to the
-- same from c.
pub record Leads {S : Type 0} (l : Language S) (procs : List (List Instr)) (t : ℕ) (c d : Config S) : Type 0 where
  pub by : (k : ℕ) → (j : ℕ) × (k + t ≤ j) × (steps l procs j c ≡ steps l procs k d)

-- The same for steps that count: however many of them are to follow there, so many and at least t more are made from c.
pub record Reaches {S : Type 0} (l : Language S) (procs : List (List Instr)) (t : ℕ) (c d : Config S) : Type 0 where
  pub by : (k : ℕ) → (j : ℕ) × (counted l procs k d + t ≤ counted l procs j c) × (steps l procs j c ≡ steps l procs k d)

-- The configuration of a procedure at a place, under these frames, in this state and this world.
abbrev pub conf : {S : Type 0} → (m pc : ℕ) → List (Frame S) → S → World History → Config S
conf m pc fs s w =
    record { proc = m; pc = pc; state = s; frames = fs; woken = None; outside = w.outside; openings = w.history.at_openings; ending = None }

-- How linear code shows why a run is over. It has no clock and no limit on calls: where these end a structured run it goes on.
abbrev pub EndsBy : {S : Type 0} → End → Config S → Type 0
EndsBy OutOfClock d = d.ending ≡ None
EndsBy OutOfDepth d = d.ending ≡ None
EndsBy why d = d.ending ≡ Some why

-- What no legal program does owes nothing.
abbrev pub IsLegal : End → Type 0
IsLegal Wrong = ⊥
IsLegal why = Unit {0}

-- From c, with n ticks left: the run is over for this reason, in this world.
abbrev pub Finishes : {S : Type 0} → Language S → List (List Instr) → Config S → ℕ → End → World History → Type 0
Finishes {S} l procs c n why w =
    (t : ℕ) × (t + w.clock ≡ n) × (d : Config S) × Reaches l procs t c d × EndsBy why d × (d.outside ≡ w.outside) × (d.openings ≡ w.history.at_openings)

-- From c, with n ticks left: the run comes to d in this world, where these calls are active; so many more steps count than there are
-- ticks.
abbrev pub Comes : {S : Type 0} → Language S → List (List Instr) → Config S → (n : ℕ) → List Active → (more : ℕ) → Config S → World History → Type 0
Comes l procs c n calls more d w = (t : ℕ) × (t + w.clock ≡ n) × (w.history.active ≡ calls) × Reaches l procs (t + more) c d

-- From c, with n ticks left, linear code does what the answer says: it comes to `to` where that goes on, and to `leave` where it
-- leaves for a reason.
abbrev pub Follows : {S : Type 0} → Language S → List (List Instr) → Config S → (n : ℕ) → List Active → (more : ℕ)
    → (Deciding S → World History → Config S) → (Signal → Deciding S → World History → Config S) → Answer (Deciding S) History → Type 0
Follows l procs c n calls more to leave (Gives s w) = Comes l procs c n calls more (to s w) w
Follows l procs c n calls more to leave (Ends (Over why) s w) = IsLegal why → Finishes l procs c n why w
Follows l procs c n calls more to leave (Ends why s w) = Comes l procs c n calls 0 (leave why s w) w

-- The place of a truth value.
abbrev pub by_truth : (met unmet : ℕ) → Option Bool → ℕ
by_truth met unmet (Some true) = met
by_truth met unmet (Some false) = unmet
by_truth met unmet None = unmet

-- Where procedure m is when its code goes on at a goal, and how many more of its steps count than there are ticks.
abbrev pub arriving : {S : Type 0} → ℕ → List (Frame S) → Goal → Deciding S → World History → Config S
arriving m fs (Next to) s w = conf m to fs s.state w
arriving m fs (Either met unmet paid) s w = conf m (by_truth met unmet s.truth) fs s.state w

abbrev pub more_steps : Goal → ℕ
more_steps (Next to) = 0
more_steps (Either met unmet true) = 1
more_steps (Either met unmet false) = 0

-- The caller behind its call.
abbrev pub back : {S : Type 0} → Language S → Frame S → List (Frame S) → Deciding S → World History → Config S
back l f fs s w = conf f.proc (suc f.pc) fs (l.resume f.awaits f.kept s.state s.result) w

-- Where procedure m is when its code leaves, under the frame of its caller and those below it.
abbrev pub leaving : {S : Type 0} → Language S → ℕ → Frame S → List (Frame S) → (break' continue' : ℕ) → Signal → Deciding S → World History → Config S
leaving l m f fs x y Breaks s w = conf m x (f ∷ fs) s.state w
leaving l m f fs x y Continues s w = conf m y (f ∷ fs) s.state w
leaving l m f fs x y Returns s w = back l f fs s w
leaving l m f fs x y (Over why) s w = conf m 0 (f ∷ fs) s.state w

-- ---- pieces, calls and runs

abbrev pub Opened : {S : Type 0} → Language S → (m : ℕ) → List (Frame S) → World History → Type 0
Opened l m fs w = w.history.active ≡ open_calls l m fs

-- From a place of procedure m, from all states, a piece is followed to a goal; where it breaks or continues, to the place x or y.
abbrev pub FollowsFrom : {S : Type 0} → Language S → List (List Instr) → (m : ℕ) → Frame S → List (Frame S) → (at : ℕ) → Goal → (x y : ℕ) → Doing S → Type 0
FollowsFrom {S} l procs m f fs at g x y go =
    (s : Deciding S) (w : World History) → Opened l m (f ∷ fs) w
    → Follows l procs (conf m at (f ∷ fs) s.state w) w.clock (open_calls l m (f ∷ fs)) (more_steps g) (arriving m (f ∷ fs) g) (leaving l m f fs x y) (go s w)

-- The configuration in which procedure k begins, with the frame that waits for it.
abbrev pub entry : {S : Type 0} → Language S → (k : ℕ) → Frame S → List (Frame S) → S → World History → Config S
entry l k f fs s w = record (conf k 0 (f ∷ fs) s w) { openings = noted (l.named k) (open_below l (f ∷ fs)) w.history.at_openings }

-- Calls are followed, from wherever one step that counts leads to the entry of the procedure.
abbrev pub FollowsCalls : {S : Type 0} → Language S → List (List Instr) → Caller S → Type 0
FollowsCalls {S} l procs go =
    (k : ℕ) (f : Frame S) (fs : List (Frame S)) (c : Config S) (s : S) (w : World History) (leave : Signal → Deciding S → World History → Config S)
    → c.ending ≡ None → c.outside ≡ w.outside → c.openings ≡ w.history.at_openings → Reaches l procs 1 c (entry l k f fs s w)
    → w.history.active ≡ open_below l (f ∷ fs)
    → Follows l procs c w.clock (open_below l (f ∷ fs)) 0 (back l f fs) leave (go k (fresh s) w)

-- Where a structured run is over, so is the run from place 0 of procedure m.
abbrev pub FollowsRun : {S : Type 0} → Language S → List (List Instr) → (ℕ → Code Step) → (m : ℕ) → Call → Type 0
FollowsRun {S} l procs bodies m c =
    (interrupts : ℕ) (s t : Deciding S) (w v : World History) (why : End) → w.history.active ≡ [] → IsLegal why
    → running l bodies c interrupts s w ≡ Ends (Over why) t v → Finishes l procs (conf m 0 [] s.state w) w.clock why v
