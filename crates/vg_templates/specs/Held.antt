-- How a procedure of linear code lies in what the code sees, between two of its instructions; and what code makes of it that reads an operand or
-- sets a local.
use Rattle.std.specs.Prelude.{ℕ, ◌≡◌, ◌≢◌, ◌<◌, ◌≤◌, Bool, true, List, length}
use Rattle.avr_instr.specs.declared.instr.Instr.{Instr}
use Rattle.vg_lin.specs.declared.instr.Operand.{Operand}
use Rattle.vg_lin.specs.declared.instr.Operand.TheVariants.{Local, Known}
use Rattle.vg_lin.specs.Steps.{Frame}
use Rattle.vg_lin.specs.State.{State}
use Rattle.avr_view.specs.View.{View}
use Rattle.vg_templates.specs.Spots.{Apart}
use Rattle.vg_templates.specs.Layouts.{Layout, width_of}
use Rattle.vg_templates.specs.Frames.{Places, Stacked}
use Rattle.vg_templates.specs.Transfers.{known_number, fetch, keep}
use Rattle.vg_templates.specs.Transferred.{Fetched}

-- the stack of procedure m, whose live locals lie at their spots; r1 holds zero, and the static area holds the columns
pub record Held (i : Places) (m : ℕ) (live : ℕ → Bool) (s : State) (frames : List (Frame State)) (v : View) : Type 0 where
  pub stacked : Stacked i m live s frames v.stack v.regs
  pub r1 : v.regs.of 1 ≡ 0
  pub ram : v.static ≡ s.ram

-- an operand that is there to be read: a live local, or a known value
abbrev pub IsReady : Layout → (live : ℕ → Bool) → Operand → Type 0
IsReady l live (Local k) = (k < length l.widths) × (live k ≡ true)
IsReady l live (Known x) = Unit {0}

-- A local can be set where some locals are live, and others behind it: those were live before, and share no byte with it.
pub record IsSet (l : Layout) (live behind : ℕ → Bool) (to : ℕ) : Type 0 where
  pub there : to < length l.widths
  pub others : (k : ℕ) → behind k ≡ true → k ≢ to → (live k ≡ true) × Apart (l.spots to) (width_of l to) (l.spots k) (width_of l k)

-- the low bytes of an operand's value come into `count` registers from d on
abbrev pub brings : Layout → Operand → (d count : ℕ) → List Instr
brings l (Local k) d n = fetch (l.spots k) (width_of l k) d n
brings l (Known x) d n = known_number d n x

-- the number in `count` registers from r on goes to a local
abbrev pub gives : Layout → (to r count : ℕ) → List Instr
gives l to r n = keep (l.spots to) (width_of l to) r n

-- registers hold the low bytes of a value, and the procedure lies as before
pub record Brought (i : Places) (m : ℕ) (live : ℕ → Bool) (s : State) (frames : List (Frame State)) (d count value : ℕ) (old new : View) : Type 0 where
  pub held : Held i m live s frames new
  pub fetched : Fetched d count value old new

-- the procedure lies there in a state, scratch registers from r18 to r27 are as they were, and nothing was shown
pub record Given (i : Places) (m : ℕ) (live : ℕ → Bool) (s : State) (frames : List (Frame State)) (old new : View) : Type 0 where
  pub held : Held i m live s frames new
  pub scratch : (x : ℕ) → 18 ≤ x → x < 28 → new.regs.of x ≡ old.regs.of x
  pub out : new.out ≡ old.out
