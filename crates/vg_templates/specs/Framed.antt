-- The layout of a procedure: where its locals lie.
use Rattle.std.specs.Prelude.{ℕ, zero, suc, ◌+◌, ◌-◌, ◌<◌, ◌≤◌, Bool, true, false, not, ◌&&◌, ◌||◌, nat_lt, nat_le, if◌then◌else◌}
use Rattle.std.specs.Prelude.{List, [], ◌∷◌, take, drop, length, slice_index}
use Rattle.vg_lin.specs.Program.{Procedure}
use Rattle.vg_templates.specs.Spots.{Spot, InFrame, InRegisters}
use Rattle.vg_templates.specs.Layouts.{Layout}
use Rattle.vg_templates.specs.Calls.{sum_of, behind_width, by_registers, lives_from}
use Rattle.vg_templates.specs.Living.{is_live, lasts}

-- How many bytes are taken: of the registers from r2 on, which outlive calls; of those from r8 on, which do not; and of the slots.
pub record Taken : Type 0 where
  pub lasting : ℕ
  pub passing : ℕ
  pub slots : ℕ

abbrev pub taken : (lasting passing slots : ℕ) → Taken
taken a b c = record { lasting = a; passing = b; slots = c }

pub data Seat : Type 0 where
  Lasting : Seat
  Passing : Seat
  Slot : Seat

-- A local goes to registers that do not outlive calls, if its value need not; else to those that do; and to a slot where there is no room.
abbrev pub seat_for : Taken → (lasts : Bool) (width : ℕ) → Seat
seat_for t lasts w = if not lasts && nat_le (t.passing + w) 10 then Passing else if nat_le (t.lasting + w) 6 then Lasting else Slot

abbrev pub seat_spot : Taken → Seat → Spot
seat_spot t Lasting = InRegisters (2 + t.lasting)
seat_spot t Passing = InRegisters (8 + t.passing)
seat_spot t Slot = InFrame t.slots

abbrev pub with_seat : Taken → Seat → (width : ℕ) → Taken
with_seat t Lasting w = taken (t.lasting + w) t.passing t.slots
with_seat t Passing w = taken t.lasting (t.passing + w) t.slots
with_seat t Slot w = taken t.lasting t.passing (t.slots + w)

-- the spots of locals with these widths, from one on, and what is taken behind them
abbrev pub spots_from : (lasts : ℕ → Bool) (local : ℕ) → (widths : List ℕ) → Taken → List Spot
spots_from c k [] t = []
spots_from c k (w ∷ ws) t = seat_spot t (seat_for t (c k) w) ∷ spots_from c (suc k) ws (with_seat t (seat_for t (c k) w) w)

abbrev pub taken_from : (lasts : ℕ → Bool) (local : ℕ) → (widths : List ℕ) → Taken → Taken
taken_from c k [] t = t
taken_from c k (w ∷ ws) t = taken_from c (suc k) ws (with_seat t (seat_for t (c k) w) w)

abbrev pub spot_at : List Spot → (index : ℕ) → Spot
spot_at [] j = InFrame 0
spot_at (s ∷ ss) zero = s
spot_at (s ∷ ss) (suc j) = spot_at ss j

-- so many registers, from one on
abbrev pub registers_from : (first count : ℕ) → List ℕ
registers_from r zero = []
registers_from r (suc n) = r ∷ registers_from (suc r) n

-- Y, where it is the frame pointer, and the registers of locals that outlive calls
abbrev pub saved_for : (pointed : Bool) (bytes : ℕ) → List ℕ
saved_for true n = 28 ∷ 29 ∷ registers_from 2 n
saved_for false n = registers_from 2 n

-- how many parameters are pushed: all of them, or none where they go in registers; and of those that do, whether each is live where the procedure begins
abbrev pub on_stack : (widths : List ℕ) (params : ℕ) → ℕ
on_stack ws p = if by_registers (take p ws) then 0 else p

abbrev pub arriving : (live : ℕ → Bool) (widths : List ℕ) (params : ℕ) → List Bool
arriving live ws p = if by_registers (take p ws) then lives_from live 0 p else []

-- The first locals, so many, are parameters that were pushed: they lie where they were pushed, behind the slots, the saved registers with Y, and the return
-- address. Y is the frame pointer where there are such parameters or slots.
abbrev pub is_pointed : (pushed slots : ℕ) → Bool
is_pointed p n = nat_lt 0 p || nat_lt 0 n

abbrev pub all_taken : (lasts : ℕ → Bool) (widths : List ℕ) (pushed : ℕ) → Taken
all_taken c ws p = taken_from c p (drop p ws) (taken 0 0 0)

abbrev pub lying_by : (lasts : ℕ → Bool) (arrives : List Bool) (widths : List ℕ) (pushed : ℕ) → Taken → Layout
lying_by c bs ws p t =
    record {
      widths = ws;
      spots = λ k. if nat_lt k p then InFrame (t.slots + t.lasting + 4 + behind_width (take p ws) k)
          else spot_at (spots_from c p (drop p ws) (taken 0 0 0)) (k - p);
      slots = t.slots;
      saved = saved_for (is_pointed p t.slots) t.lasting;
      pointed = is_pointed p t.slots;
      pushed = sum_of (take p ws);
      arrives = bs;
    }

abbrev pub lying : (lasts : ℕ → Bool) (arrives : List Bool) (widths : List ℕ) (pushed : ℕ) → Layout
lying c bs ws p = lying_by c bs ws p (all_taken c ws p)

abbrev pub framed : Procedure → Layout
framed m = lying (lasts m.code) (arriving (λ k. is_live m.code k 0) m.widths m.params) m.widths (on_stack m.widths m.params)

-- its locals that are live at a place
abbrev pub live_in : Procedure → (place local : ℕ) → Bool
live_in m pc k = nat_lt k (length m.widths) && is_live m.code k pc

-- widths of at most four bytes, and fewer than 4,096 in all
pub record CanBeFramed (ws : List ℕ) (p : ℕ) : Type 0 where
  pub narrow : (k : ℕ) → k < length ws → slice_index ws k ≤ 4
  pub params : p ≤ length ws
  pub small : sum_of ws < 0x1000
