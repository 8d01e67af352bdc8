-- The spots of locals in registers and in a frame.
use Rattle.std.specs.Prelude.{ℕ, suc, ◌+◌, ◌≤◌, Bool, List, [], ◌∷◌, ◌++◌, take, drop}
use Rattle.vg_templates.specs.Calls.{sum_of}
use Rattle.vg_lin.specs.declared.instr.Instr.{Instr}
use Rattle.vg_templates.specs.Living.{is_live, lasts}
use Rattle.vg_templates.specs.Framed.{Taken, taken, Seat, Lasting, Passing, Slot, seat_for, with_seat, all_taken, saved_for, is_pointed, on_stack, arriving}
use Rattle.vg_alloc.specs.declared.seats.Taken.{Taken as Held}
use Rattle.vg_alloc.specs.declared.spot.Spot.{Spot}
use Rattle.vg_alloc.specs.declared.spot.Spot.TheVariants.{Frame, Registers}
use Rattle.vg_alloc.specs.Locations.{Located}

abbrev pub taken_of : Held → Taken
taken_of t = taken t.lasting t.passing t.slots

-- no more registers are taken than there are
abbrev pub IsFew : Held → Type 0
IsFew t = (t.lasting ≤ 6) × (t.passing ≤ 10)

-- of parameters that were pushed, behind so many bytes: the last one lies first
abbrev pub pushed_spots : (front : ℕ) → (widths : List ℕ) → List Spot
pushed_spots n [] = []
pushed_spots n (w ∷ ws) = Frame (n + sum_of ws) ∷ pushed_spots n ws

-- of the other locals, one behind the other
abbrev pub held_spot : Taken → Seat → Spot
held_spot t Lasting = Registers (2 + t.lasting)
held_spot t Passing = Registers (8 + t.passing)
held_spot t Slot = Frame t.slots

abbrev pub held_spots : (lasts : ℕ → Bool) (local : ℕ) → (widths : List ℕ) → Taken → List Spot
held_spots c k [] t = []
held_spots c k (w ∷ ws) t = held_spot t (seat_for t (c k) w) ∷ held_spots c (suc k) ws (with_seat t (seat_for t (c k) w) w)

-- Behind the slots lie the saved registers, the saved Y and the return address, and then the parameters that were pushed, so many.
abbrev pub located_by : (lasts : ℕ → Bool) (arrives : List Bool) (ws : List ℕ) (pushed : ℕ) → Taken → Located
located_by c bs ws p t =
    record {
      widths = ws;
      spots = pushed_spots (t.slots + t.lasting + 4) (take p ws) ++ held_spots c p (drop p ws) (taken 0 0 0);
      slots = t.slots;
      saved = saved_for (is_pointed p t.slots) t.lasting;
      pointed = is_pointed p t.slots;
      pushed = sum_of (take p ws);
      arrives = bs;
    }

abbrev pub all_located : (lasts : ℕ → Bool) (arrives : List Bool) (ws : List ℕ) (pushed : ℕ) → Located
all_located c bs ws p = located_by c bs ws p (all_taken c ws p)

-- the same of code whose first locals, so many, are parameters: these are all pushed, or all arrive in registers
abbrev pub code_located : (code : List Instr) (ws : List ℕ) (params : ℕ) → Located
code_located is ws p = all_located (lasts is) (arriving (λ k. is_live is k 0) ws p) ws (on_stack ws p)
