-- How the procedures that wait lie on the stack: each by the registers as it will find them.
use Rattle.std.specs.Prelude.{ℕ, zero, suc, ◌≡◌, ◌+◌, ◌/◌, ◌%◌, ◌<◌, Bool, true, false, not, ◌&&◌, ◌==◌, List, [], ◌∷◌, ◌++◌, length, map, take, drop}
use Rattle.std.specs.Prelude.{Option, Some, None, slice_get}
use Rattle.vg_lin.specs.declared.instr.Target.{Target}
use Rattle.vg_lin.specs.Steps.{Awaits, Result, Interrupt, Frame}
use Rattle.vg_lin.specs.State.{LocalState, Waiting, State, value_in}
use Rattle.avr_view.specs.Registers.{Regs, pair, put}
use Rattle.vg_templates.specs.Spots.{value_at, read}
use Rattle.vg_templates.specs.Layouts.{Layout, frame_size, width_of, outlives}

-- the live locals that have values have them at their spots
pub record Fits (l : Layout) (live : ℕ → Bool) (locals : List LocalState) (own : List ℕ) (g : Regs) : Type 0 where
  pub each : (k x : ℕ) → k < length l.widths → live k ≡ true → value_in (slice_get locals k) ≡ Some x → value_at (l.spots k) (width_of l k) own g ≡ x
  pub widths : map (λ (s : LocalState). s.width) locals ≡ l.widths
  pub long : length own ≡ frame_size l

-- the values that wait, the newest first, each with its lowest byte first
abbrev pub Waits : List Waiting → List ℕ → Type 0
Waits [] bytes = bytes ≡ []
Waits (w ∷ ws) bytes = (front : List ℕ) × (back : List ℕ) × (bytes ≡ front ++ back) × (length front ≡ w.width) × (read front 0 w.width ≡ w.value)
    × Waits ws back

-- the bytes that values take which wait one behind the other, and those that were pushed behind one of them
abbrev pub bytes_of : List Waiting → ℕ
bytes_of [] = 0
bytes_of (p ∷ ps) = p.width + bytes_of ps

abbrev pub bytes_behind : List Waiting → ℕ → ℕ
bytes_behind [] k = 0
bytes_behind (p ∷ ps) zero = bytes_of ps
bytes_behind (p ∷ ps) (suc k) = bytes_behind ps k

-- the width and the value of one of them
abbrev pub width_at : List Waiting → ℕ → ℕ
width_at [] k = 0
width_at (p ∷ ps) zero = p.width
width_at (p ∷ ps) (suc k) = width_at ps k

abbrev pub number_at : List Waiting → ℕ → ℕ
number_at [] k = 0
number_at (p ∷ ps) zero = p.value
number_at (p ∷ ps) (suc k) = number_at ps k

-- the same values in the order in which they were pushed: the first of them lies deepest
abbrev pub Pushed : List Waiting → List ℕ → Type 0
Pushed [] bytes = bytes ≡ []
Pushed (p ∷ ps) bytes = (front : List ℕ) × (back : List ℕ) × (bytes ≡ front ++ back) × (length front ≡ bytes_of ps) × (length back ≡ p.width)
    × (read back 0 p.width ≡ p.value) × Pushed ps front

-- the registers once saved ones have got their bytes, one behind the other
abbrev pub restored : (saved bytes : List ℕ) → Regs → Regs
restored [] bs g = g
restored (d ∷ ds) [] g = g
restored (d ∷ ds) (b ∷ bs) g = restored ds bs (put g d b)

-- the bytes of a frame that hold saved registers
abbrev pub saved_bytes : Layout → List ℕ → List ℕ
saved_bytes l own = take (length l.saved) (drop l.slots own)

-- the registers as the caller of a procedure with this frame will find them
abbrev pub found : Layout → List ℕ → Regs → Regs
found l own g = restored l.saved (saved_bytes l own) g

-- Where the locals of each procedure lie, and which of them are live at a place of its code: those whose values are still needed there. And where code
-- stands, as far as the stack tells it: where a call of a procedure's instruction comes back to; of the idle piece, the place behind the SLEEP; and
-- the end of a handler's stub.
pub record Places : Type 0 where
  pub layouts : ℕ → Layout
  pub live : (proc place local : ℕ) → Bool
  pub behind : (proc pc : ℕ) → ℕ
  pub woken : ℕ
  pub stub_end : (handler : ℕ) → ℕ

abbrev pub word_bytes : ℕ → List ℕ
word_bytes word = word / 256 ∷ word % 256 ∷ []

-- what lies between a frame and what waits in its caller, and where the procedure goes back to: behind a call nothing, and to the caller; at an
-- interrupt the return addresses of the SLEEP and of the call of the idle piece, and to the stub of its handler
abbrev pub between : Places → Awaits → (proc pc : ℕ) → List ℕ
between i (Result call) m pc = []
between i Interrupt m pc = word_bytes i.woken ++ word_bytes (i.behind m pc)

abbrev pub back_to : Places → Awaits → (callee proc pc : ℕ) → ℕ
back_to i (Result call) callee m pc = i.behind m pc
back_to i Interrupt callee m pc = i.stub_end callee

-- the local that a result goes to has no value to keep
abbrev pub gets : Option Target → ℕ → Bool
gets (Some to) k = k == to.local
gets None k = false

abbrev pub awaits_local : Awaits → ℕ → Bool
awaits_local (Result call) k = gets call.to k
awaits_local Interrupt k = false

-- the locals whose values a procedure wants back where it waits: those that are live behind that place, but the one that a result goes to
abbrev pub wanted : (live : (place local : ℕ) → Bool) → Awaits → (pc local : ℕ) → Bool
wanted live a pc k = live (suc pc) k && not (awaits_local a k)

-- of them, those that it finds again since they lie where values outlive a call
abbrev pub needed : Places → (proc : ℕ) → Awaits → (pc local : ℕ) → Bool
needed i m a pc k = wanted (i.live m) a pc k && outlives ((i.layouts m).spots k) (width_of (i.layouts m) k)

-- it finds all that it wants
abbrev pub AllOutlive : Layout → (live : (place local : ℕ) → Bool) → Awaits → (pc : ℕ) → Type 0
AllOutlive l live a pc = (k : ℕ) → wanted live a pc k ≡ true → outlives (l.spots k) (width_of l k) ≡ true

-- where Y is the frame pointer, it points to the byte before the frame
abbrev pub Points : Layout → (own under : List ℕ) → Regs → Type 0
Points l own under g = l.pointed ≡ true → pair g 28 + 1 + length (own ++ under) ≡ 0x1100

-- A caller, whose callee has this frame with the rest of the stack behind it; the registers are those that it will find.
pub record Caller (i : Places) (f : Frame State) (callee : ℕ) (frame rest : List ℕ) (g : Regs) : Type 0 where
  pub wait : List ℕ
  pub own : List ℕ
  pub under : List ℕ
  pub cut : rest ≡ between i f.awaits f.proc f.pc ++ (wait ++ (own ++ under))
  pub link : take 2 (drop (length (i.layouts callee).saved) (drop (i.layouts callee).slots frame)) ≡ word_bytes (back_to i f.awaits callee f.proc f.pc)
  pub points : Points (i.layouts f.proc) own under g
  pub waits : Waits f.kept.waiting wait
  pub fits : Fits (i.layouts f.proc) (needed i f.proc f.awaits f.pc) f.kept.locals own g

-- all of them, the newest first: m has its own frame, with the rest of the stack behind it
abbrev pub Callers : (i : Places) → List (Frame State) → (m : ℕ) → (own under : List ℕ) → Regs → Type 0
Callers i [] m own under g = under ≡ []
Callers i (f ∷ fs) m own under g =
    let back = found (i.layouts m) own g in
    (c : Caller i f m own under back) × Callers i fs f.proc c.own c.under back

-- The stack of a procedure in this state: what waits, its frame, and its callers; with its locals at their spots, as far as they are needed.
pub record Stacked (i : Places) (m : ℕ) (live : ℕ → Bool) (s : State) (frames : List (Frame State)) (stack : List ℕ) (g : Regs) : Type 0 where
  pub wait : List ℕ
  pub own : List ℕ
  pub under : List ℕ
  pub cut : stack ≡ wait ++ (own ++ under)
  pub points : Points (i.layouts m) own under g
  pub waits : Waits s.waiting wait
  pub fits : Fits (i.layouts m) live s.locals own g
  pub callers : Callers i frames m own under g
