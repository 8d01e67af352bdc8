-- What was looked at in a guess at a trimmed procedure.
use Rattle.std.specs.Prelude.{◌≡◌, ◌⊎◌, ℕ, ◌≤◌, ◌<◌, true, List, length, take, Some, slice_get}
use Rattle.std.specs.List.{AllByRecursion, AllZip}
use Rattle.vg_lin.specs.declared.instr.Instr.{Instr}
use Rattle.vg_lin.specs.Program.{Procedure}
use Rattle.vg_lin.specs.Sound.{IsWidth, AreOperands}
use Rattle.vg_trimming.specs.declared.facts.Facts.{Facts}
use Rattle.vg_trimming.specs.Facts.{begins_with}
use Rattle.vg_trimming.specs.Trimming.{Both, stands_at}
use Rattle.vg_trim.specs.Flow.{FlowsAs, FlowsFreely}
use Rattle.vg_trim.specs.Ranges.{with_locals}

-- The instruction of the newer code has its operands in range, and leads where that of the older code at the same place leads.
pub record IsInOrder (new : List ℕ) (result : ℕ) (newer : List Instr) (at : ℕ) (i j : Instr) : Type 0 where
  pub operands : AreOperands (with_locals new result) j
  pub flows : FlowsAs newer at i j

-- It has its operands in range, and leads only within code where nothing waits.
pub record IsInFreeOrder (new : List ℕ) (result count at : ℕ) (j : Instr) : Type 0 where
  pub operands : AreOperands (with_locals new result) j
  pub flows : FlowsFreely count at j

-- At a place of both codes.
pub record IsPlaceInOrder (new : List ℕ) (result : ℕ) (older newer : List Instr) (at : ℕ) : Type 0 where
  pub order : (i j : Instr) → slice_get older at ≡ Some i → slice_get newer at ≡ Some j → IsInOrder new result newer at i j

-- At a place of the newer code.
pub record IsPlaceFree (new : List ℕ) (result : ℕ) (newer : List Instr) (at : ℕ) : Type 0 where
  pub order : (j : Instr) → slice_get newer at ≡ Some j → IsInFreeOrder new result (length newer) at j

-- The newer code flows as the older one, place by place.
pub record FlowsAlong (result : ℕ) (b : Both) : Type 0 where
  pub long : length b.newer ≡ length b.older
  pub each : (at : ℕ) → at < length b.newer → IsPlaceInOrder b.new result b.older b.newer at

-- Nothing waits in the newer code, which is no longer than the older one.
pub record IsFree (result : ℕ) (b : Both) : Type 0 where
  pub some : 0 < length b.newer
  pub short : length b.newer ≤ length b.older
  pub each : (at : ℕ) → at < length b.newer → IsPlaceFree b.new result b.newer at

-- The locals are few, of one to four bytes, and the parameters are the same.
pub record HasLocals (params : ℕ) (old new : List ℕ) : Type 0 where
  pub few : length new ≤ 252
  pub enough : params ≤ length new
  pub widths : AllByRecursion IsWidth new
  pub same : take params new ≡ take params old

abbrev pub IsStoodFor : Both → (at : ℕ) → Type 0
IsStoodFor b at = stands_at b at (slice_get b.facts at) (slice_get b.older at) (slice_get b.places at) ≡ true

-- The guess stands for a procedure with so many parameters and as wide a result.
pub record IsLookedAtBy (params result : ℕ) (b : Both) : Type 0 where
  pub locals : HasLocals params b.old b.new
  pub begins : begins_with params (slice_get b.facts 0) ≡ true
  pub begins_at : slice_get b.places 0 ≡ Some 0
  pub each : (at : ℕ) → at < length b.older → IsStoodFor b at
  pub order : IsFree result b ⊎ FlowsAlong result b

abbrev pub IsLookedAt : Procedure → (widths : List ℕ) → (code : List Instr) → List Facts → (places : List ℕ) → Type 0
IsLookedAt p ws js fs ps =
    IsLookedAtBy p.params p.result (record { old = p.widths; new = ws; older = p.code; newer = js; facts = fs; places = ps })

-- One for one, no procedure is longer than it was.
abbrev pub AreNoLonger : List Procedure → List Procedure → Type 0
AreNoLonger = AllZip (λ old new. length new.code ≤ length old.code)
