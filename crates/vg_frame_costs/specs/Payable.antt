-- Procedures that costs of methods can pay: there are frames of these that the costs pay, with all that lies beside them.
use Rattle.std.specs.Prelude.{ℕ, suc, ◌≡◌, ◌+◌, ◌^◌, ◌<◌, ◌≤◌, List, take, drop, length, Option, Some, None, slice_get}
use Rattle.std.specs.List.{AllByRecursion}
use Rattle.vg_lin.specs.Program.{Procedure}
use Rattle.vg_source.specs.Peak.{cost_of}
use Rattle.vg_frame_costs.specs.declared.frames.Frames.{Frames}
use Rattle.vg_frame_costs.specs.Bytes.{procedure_bytes}
use Rattle.vg_frame_costs.specs.Fitting.{IsOfMethod, IsRoutineWithin, IsStartWithin, ArePaid}

-- A method has a cost, which pays what it takes, and with four bytes more also the six that may lie below it and what a routine takes above it.
pub record IsMethodPaid (start above : ℕ) (costs : List ℕ) (p : Procedure) : Type 0 where
  pub method : ℕ
  pub named : p.method ≡ Some method
  pub known : method < length costs
  pub cost : procedure_bytes p ≤ cost_of costs method
  pub beside : procedure_bytes p + (6 + above) ≤ 4 + cost_of costs method
  pub code : AllByRecursion (IsOfMethod start) p.code
  pub short : length p.code ≤ 65535

-- A routine is one whose code has at most 65,535 instructions, and takes at most so many bytes.
pub record IsRoutineShort (above : ℕ) (p : Procedure) : Type 0 where
  pub routine : IsRoutineWithin above p
  pub short : length p.code ≤ 65535

-- The procedure with which a run begins takes at most six bytes with the four of its idling, and its code has at most 65,535 instructions.
pub record IsStartShort (start : ℕ) (p : Procedure) : Type 0 where
  pub within : IsStartWithin start 6 p
  pub short : length p.code ≤ 65535

-- There is such a procedure, with which a run begins.
abbrev pub IsStartThere : (start : ℕ) → Option Procedure → Type 0
IsStartThere start (Some p) = IsStartShort start p
IsStartThere start None = ⊥

-- Costs of methods can pay procedures: each procedure before the one with which a run begins is a method that is paid, those behind it are routines, and each
-- cost is small, and large enough for what lies beside a frame, also where no procedure has its number.
pub record CanBePaid (ps : List Procedure) (start : ℕ) (costs : List ℕ) : Type 0 where
  pub above : ℕ
  pub few : (m : ℕ) → m < length costs → 6 + above ≤ 4 + cost_of costs m
  pub small : (m : ℕ) → cost_of costs m < 2 ^ 31
  pub methods : AllByRecursion (IsMethodPaid start above costs) (take start ps)
  pub first : IsStartThere start (slice_get ps start)
  pub routines : AllByRecursion (IsRoutineShort above) (drop (suc start) ps)

-- There are frames, and costs pay for them and for what lies beside them, but for four bytes.
abbrev pub HasPaid : (costs : List ℕ) → Option Frames → Type 0
HasPaid costs (Some f) = ArePaid f.beside 4 f.by_method costs
HasPaid costs None = ⊥
