-- What the procedures of linear code take of the stack, within the frames of methods, and these within what methods cost.
use Rattle.std.specs.Prelude.{ℕ, suc, ◌≡◌, ◌≢◌, ◌+◌, ◌<◌, ◌≤◌, List, [], ◌∷◌, take, drop, Option, Some, None, slice_get}
use Rattle.std.specs.List.{AllByRecursion}
use Rattle.vg_lin.specs.declared.instr.Callee.{Callee}
use Rattle.vg_lin.specs.declared.instr.Callee.TheVariants.{Procedure as ByNumber, Code as ByCode}
use Rattle.vg_lin.specs.declared.instr.Instr.{Instr}
use Rattle.vg_lin.specs.declared.instr.Instr.TheVariants.{Call, Idle}
use Rattle.vg_lin.specs.Program.{Procedure}
use Rattle.vg_source.specs.Peak.{cost_of}
use Rattle.vg_frame_costs.specs.Bytes.{procedure_bytes}

-- ---- the code of methods, of routines and of the procedure with which a run begins

-- A callee is not this procedure, where it is one by its number. Code numbers are to stand for methods alone.
abbrev pub IsOther : (start : ℕ) → Callee → Type 0
IsOther start (ByNumber q) = q ≢ start
IsOther start (ByCode a) = Unit {0}

-- A method does not idle, and does not call the procedure with which a run begins.
abbrev pub IsOfMethod : (start : ℕ) → Instr → Type 0
IsOfMethod start (Call c) = IsOther start c.callee
IsOfMethod start Idle = ⊥
IsOfMethod start i = Unit {0}

-- A routine does not idle, and calls nothing.
abbrev pub IsOfRoutine : Instr → Type 0
IsOfRoutine (Call c) = ⊥
IsOfRoutine Idle = ⊥
IsOfRoutine i = Unit {0}

-- A callee is a method, where it is one by its number: methods come first.
abbrev pub IsBefore : (start : ℕ) → Callee → Type 0
IsBefore start (ByNumber q) = q < start
IsBefore start (ByCode a) = Unit {0}

-- The procedure with which a run begins calls methods alone.
abbrev pub IsOfStart : (start : ℕ) → Instr → Type 0
IsOfStart start (Call c) = IsBefore start c.callee
IsOfStart start i = Unit {0}

abbrev pub IsByNumber : Callee → Type 0
IsByNumber (ByNumber q) = Unit {0}
IsByNumber (ByCode a) = ⊥

abbrev pub BeginsWithCall : List Instr → Type 0
BeginsWithCall (Call c ∷ is) = IsByNumber c.callee
BeginsWithCall is = ⊥

-- ---- frames

-- A method takes at most the frame of its number.
pub record IsMethodWithin (start : ℕ) (frames : List ℕ) (p : Procedure) : Type 0 where
  pub method : ℕ
  pub named : p.method ≡ Some method
  pub bytes : procedure_bytes p ≤ cost_of frames method
  pub code : AllByRecursion (IsOfMethod start) p.code

-- A routine is no method, and all that it takes lies above the frames of methods.
pub record IsRoutineWithin (above : ℕ) (p : Procedure) : Type 0 where
  pub unnamed : p.method ≡ None
  pub bytes : procedure_bytes p ≤ above
  pub code : AllByRecursion IsOfRoutine p.code

-- The procedure with which a run begins is no method, and first calls one by its number. What it takes lies below the frames of methods, and so do the four
-- bytes that it takes when it idles: the return addresses into its code and into the stub of a handler.
pub record IsStartWithin (start below : ℕ) (p : Procedure) : Type 0 where
  pub unnamed : p.method ≡ None
  pub bytes : procedure_bytes p + 4 ≤ below
  pub first : BeginsWithCall p.code
  pub code : AllByRecursion (IsOfStart start) p.code

abbrev pub IsStartIn : (start below : ℕ) → Option Procedure → Type 0
IsStartIn start below (Some p) = IsStartWithin start below p
IsStartIn start below None = ⊥

-- The procedures before the one with which a run begins are methods, each within the frame of its number, and those behind it are routines. So many bytes may
-- lie below the frames of the methods that are open at one time, and so many above them.
pub record FramesWithin (ps : List Procedure) (start : ℕ) (frames : List ℕ) (below above : ℕ) : Type 0 where
  pub methods : AllByRecursion (IsMethodWithin start frames) (take start ps)
  pub first : IsStartIn start below (slice_get ps start)
  pub routines : AllByRecursion (IsRoutineWithin above) (drop (suc start) ps)

-- ---- costs

-- Each frame is at most the cost at its place, and so it is with all that lies beside frames, but for so many bytes.
abbrev pub ArePaid : (beside extra : ℕ) → (frames costs : List ℕ) → Type 0
ArePaid b x [] cs = Unit {0}
ArePaid b x (f ∷ fs) [] = ⊥
ArePaid b x (f ∷ fs) (c ∷ cs) = (f ≤ c) × (f + b ≤ x + c) × ArePaid b x fs cs

-- The procedures of a program fit by costs of methods, and by so many bytes beside these: they are within frames that such costs pay. Of what lies below frames
-- all but the four bytes of idling is paid by the bytes beside the costs.
pub record FramesFit (ps : List Procedure) (start extra : ℕ) (costs : List ℕ) : Type 0 where
  pub frames : List ℕ
  pub below : ℕ
  pub above : ℕ
  pub within : FramesWithin ps start frames below above
  pub paid : ArePaid (below + above) extra frames costs
  pub begins : below ≤ extra + 4
