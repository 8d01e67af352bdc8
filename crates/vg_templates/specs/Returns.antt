-- The code for returns of linear code, and behind its calls. A result comes in r22 to r25.
use Rattle.std.specs.Prelude.{ℕ, zero, suc, ◌≡◌, ◌≢◌, ◌%◌, ◌^◌, ◌<◌, Bool, true, false, List, [], ◌∷◌, ◌++◌, length, Option, Some, None}
use Rattle.vg_meaning.specs.Outside.{Outside}
use Rattle.avr_instr.specs.declared.instr.Instr.{Instr}
use Rattle.avr_instr.specs.declared.instr.Instr.TheVariants.{Pop}
use Rattle.avr_isa.specs.Machine.{State as MachineState}
use Rattle.vg_lin.specs.declared.instr.Operand.{Operand}
use Rattle.vg_lin.specs.declared.instr.Target.{Target}
use Rattle.vg_lin.specs.Steps.{Frame}
use Rattle.vg_lin.specs.State.{State}
use Rattle.avr_view.specs.Run.{Run}
use Rattle.avr_view.specs.View.{View}
use Rattle.vg_templates.specs.Spots.{Apart, number}
use Rattle.vg_templates.specs.Layouts.{Layout, width_of}
use Rattle.vg_templates.specs.Linkage.{epilogue, sp_is_y}
use Rattle.vg_templates.specs.Frames.{Places}
use Rattle.vg_templates.specs.CallOutcomes.{Resumed}
use Rattle.vg_templates.specs.Held.{brings, gives}

-- a procedure returns so many bytes of a value
abbrev pub returns_value : Layout → Operand → (count : ℕ) → List Instr
returns_value l a n = brings l a 22 n ++ epilogue l

-- the caller drops so many bytes of arguments: byte by byte, or where nothing else waits, all at once by its frame pointer
abbrev pub pops_away : ℕ → List Instr
pops_away zero = []
pops_away (suc n) = Pop 0 ∷ pops_away n

abbrev pub drops : (at_once : Bool) (bytes : ℕ) → List Instr
drops true n = sp_is_y
drops false n = pops_away n

-- and a result goes to its local
abbrev pub takes_result : Layout → Option Target → List Instr
takes_result l None = []
takes_result l (Some to) = gives l to.local 22 to.width

abbrev pub behind_call : Layout → (at_once : Bool) (bytes : ℕ) → Option Target → List Instr
behind_call l b n to = drops b n ++ takes_result l to

-- A result of so many bytes can go to a local that shares no byte with the others that are live then.
pub record IsTarget (l : Layout) (behind : ℕ → Bool) (count : ℕ) (to : Target) : Type 0 where
  pub width : to.width ≡ count
  pub there : to.local < length l.widths
  pub apart : (k : ℕ) → behind k ≡ true → k ≢ to.local → Apart (l.spots to.local) (width_of l to.local) (l.spots k) (width_of l k)

abbrev pub CanLand : Layout → (behind : ℕ → Bool) → (count : ℕ) → Option Target → Type 0
CanLand l behind n None = Unit {0}
CanLand l behind n (Some to) = IsTarget l behind n to

-- arguments can be dropped at once where the caller has a frame pointer and nothing else waits
abbrev pub CanDrop : Layout → (at_once : Bool) → State → Type 0
CanDrop l false s = Unit {0}
CanDrop l true s = (l.pointed ≡ true) × (s.waiting ≡ [])

-- Behind the epilogue of a procedure that has returned a value: its caller goes on, r22 and those behind it hold the low bytes of the value, and the columns
-- and the outside are as it left them.
pub record Returned (e : Run) (i : Places) (q : ℕ) (f : Frame State) (frames : List (Frame State)) (count value : ℕ) (ram : List ℕ) (o : Outside)
    (s : MachineState) : Type 0 where
  pub exit : View
  pub resumed : Resumed e i q f frames exit s
  pub result : number exit.regs 22 count ≡ value % 256 ^ count
  pub r1 : exit.regs.of 1 ≡ 0
  pub columns : exit.static ≡ ram
  pub out : exit.out ≡ o
