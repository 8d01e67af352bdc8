-- The code at the entry of a procedure and at its exit, and where it leads.
use Rattle.std.specs.Prelude.{ℕ, zero, suc, ◌≡◌, ◌+◌, ◌-◌, ◌/◌, ◌%◌, ◌<◌, ◌≤◌, ◌⊎◌, Bool, true, false, nat_lt, if◌then◌else◌}
use Rattle.std.specs.Prelude.{List, [], ◌∷◌, ◌++◌, length, map}
use Rattle.avr_instr.specs.declared.instr.Instr.{Instr}
use Rattle.avr_instr.specs.declared.instr.Instr.TheVariants.{Adiw, In, Out, Pop, Push, Ret, Sbci, Sbiw, Subi}
use Rattle.avr_isa.specs.Machine.{State}
use Rattle.avr_view.specs.Registers.{Regs, pair}
use Rattle.avr_view.specs.Run.{Run}
use Rattle.avr_view.specs.View.{View, At}
use Rattle.vg_templates.specs.Frames.{restored}
use Rattle.vg_templates.specs.Layouts.{Layout, width_of}
use Rattle.vg_templates.specs.Held.{gives}

-- registers go on the stack, the first one last; and come back, the first one first
abbrev pub pushes : List ℕ → List Instr
pushes [] = []
pushes (d ∷ ds) = pushes ds ++ Push d ∷ []

abbrev pub pops : List ℕ → List Instr
pops [] = []
pops (d ∷ ds) = Pop d ∷ pops ds

-- Y less a number, and Y with a number added: ADIW and SBIW reach 63
abbrev pub y_less : ℕ → List Instr
y_less n = if nat_lt n 64 then Sbiw 28 n ∷ [] else Subi 28 (n % 256) ∷ Sbci 29 (n / 256) ∷ []

abbrev pub y_more : ℕ → List Instr
y_more n = if nat_lt n 64 then Adiw 28 n ∷ [] else Subi 28 ((65536 - n) % 256) ∷ Sbci 29 ((65536 - n) / 256) ∷ []

-- SP is Y: SPH first, since the write of SPL is the one that a floor sees
abbrev pub sp_is_y : List Instr
sp_is_y = Out 0x3E 29 ∷ Out 0x3D 28 ∷ []

-- both go below the slots; and back
abbrev pub takes_slots : ℕ → List Instr
takes_slots zero = []
takes_slots (suc n) = y_less (suc n) ++ sp_is_y

abbrev pub drops_slots : ℕ → List Instr
drops_slots zero = []
drops_slots (suc n) = y_more (suc n) ++ sp_is_y

-- Y becomes the frame pointer, where it is one
abbrev pub frame_pointer : (pointed : Bool) (slots : ℕ) → List Instr
frame_pointer false n = []
frame_pointer true n = In 28 0x3D ∷ In 29 0x3E ∷ takes_slots n

-- a procedure saves registers, and takes its slots
abbrev pub saves : Layout → List Instr
saves l = pushes l.saved ++ frame_pointer l.pointed l.slots

-- A parameter that arrived in registers goes to its spot, where it is kept. All that arrive do, one behind the other from this parameter and this
-- register on.
abbrev pub settles_one : (kept : Bool) → Layout → (param first : ℕ) → List Instr
settles_one true l k r = gives l k r (width_of l k)
settles_one false l k r = []

abbrev pub settles_from : Layout → (param first : ℕ) → (kept : List Bool) → List Instr
settles_from l k r [] = []
settles_from l k r (b ∷ bs) = settles_one b l k r ++ settles_from l (suc k) (r + width_of l k) bs

-- all of it: the first parameter that arrives is in r18 and behind it
abbrev pub prologue : Layout → List Instr
prologue l = saves l ++ settles_from l 0 18 l.arrives

-- it drops its slots, gives back what it saved, and goes back
abbrev pub epilogue : Layout → List Instr
epilogue l = drops_slots l.slots ++ (pops l.saved ++ Ret ∷ [])

-- all registers but those of Y are the same
abbrev pub AreOthers : (old new : Regs) → Type 0
AreOthers old new = (d : ℕ) → (d < 28) ⊎ (30 ≤ d) → new.of d ≡ old.of d

-- Behind the first part of the prologue: what is saved lies on the stack, and the slots before it, which hold what they held; Y is the frame pointer, where there is
-- one, and no other register has changed.
pub record Entered (e : Run) (l : Layout) (pc : ℕ) (old : View) (s : State) : Type 0 where
  pub slots : List ℕ
  pub regs : Regs
  pub enough : length slots ≡ l.slots
  pub others : AreOthers old.regs regs
  pub all : l.pointed ≡ false → (d : ℕ) → regs.of d ≡ old.regs.of d
  pub points : l.pointed ≡ true → pair regs 28 + 1 + length (slots ++ (map old.regs.of l.saved ++ old.stack)) ≡ 0x1100
  pub at : At e pc (record old { regs = regs; stack = slots ++ (map old.regs.of l.saved ++ old.stack) }) s

-- Behind the epilogue: the saved registers have these bytes again, and no other register but those of Y has changed.
pub record Left (e : Run) (l : Layout) (bytes : List ℕ) (pc : ℕ) (below : List ℕ) (old : View) (s : State) : Type 0 where
  pub regs : Regs
  pub others : AreOthers old.regs regs
  pub all : l.slots ≡ 0 → (d : ℕ) → regs.of d ≡ old.regs.of d
  pub at : At e pc (record old { regs = restored l.saved bytes regs; stack = below }) s
