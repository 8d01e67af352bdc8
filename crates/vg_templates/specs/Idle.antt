-- The piece of code in which a program waits for interrupts, the stubs of its handlers, and where they lead.
use Rattle.std.specs.Prelude.{ℕ, ◌≡◌, ◌≢◌, ◌+◌, ◌*◌, ◌<◌, true, List, [], ◌∷◌}
use Rattle.vg_meaning.specs.declared.event.Event.TheVariants.{Enter}
use Rattle.vg_meaning.specs.Outside.{Outside, with_event}
use Rattle.avr_instr.specs.declared.instr.Instr.{Instr}
use Rattle.avr_instr.specs.declared.instr.Instr.TheVariants.{Call, Cli, Jmp, Ret, Reti, Sei, Sleep}
use Rattle.avr_isa.specs.Machine.{State}
use Rattle.avr_isa.specs.Standing.{StandsAt, AllStandAt}
use Rattle.vg_lin.specs.Steps.{Frame}
use Rattle.vg_lin.specs.State.{State as LinState}
use Rattle.avr_view.specs.Registers.{Regs}
use Rattle.avr_view.specs.Run.{Run}
use Rattle.avr_view.specs.View.{View, At}
use Rattle.vg_templates.specs.Layouts.{IsReliable}
use Rattle.vg_templates.specs.Frames.{Places, needed, Stacked}

-- it is called: interrupts are enabled from the SLEEP to the CLI behind it, and nowhere else
abbrev pub idle_piece : List Instr
idle_piece = Sei ∷ Sleep ∷ Cli ∷ Ret ∷ []

-- a handler is called from its stub, to which the vector slot leads
abbrev pub stub : (entry : ℕ) → List Instr
stub entry = Call entry ∷ Reti ∷ []

-- the piece stands at this word address
pub record IsIdle (e : Run) (i : Places) (idle : ℕ) : Type 0 where
  pub stands : AllStandAt e.flash idle idle_piece
  pub room : idle + 4 < 65536
  pub woken : i.woken ≡ idle + 2
  pub sleeps : e.lets_in (idle + 1) ≡ true
  pub wakes : e.lets_in (idle + 2) ≡ true

-- the slot of a vector leads to the stub at a word address, which calls procedure q at its entry
pub record IsHandled (e : Run) (i : Places) (vector q at entry : ℕ) : Type 0 where
  pub slot : StandsAt e.flash (2 * vector) (Jmp at)
  pub away : at ≢ 2 * vector
  pub stands : AllStandAt e.flash at (stub entry)
  pub room : at + 3 < 65536
  pub ends : i.stub_end q ≡ at + 2

-- the outside once an interrupt was taken
abbrev pub entered : Outside → (vector : ℕ) (later : List ℕ) → Outside
entered o k ks = with_event (record o { interrupts = ks }) (Enter k)

-- Behind the instruction that idles: its procedure finds its registers, what waits and its locals again.
pub record Back (e : Run) (i : Places) (f : Frame LinState) (frames : List (Frame LinState)) (old : View) (s : State) : Type 0 where
  pub rest : List ℕ
  pub regs : Regs
  pub scratch : (d : ℕ) → (IsReliable d → ⊥) → regs.of d ≡ old.regs.of d
  pub stacked : Stacked i f.proc (needed i f.proc f.awaits f.pc) f.kept frames rest regs
  pub at : At e (i.behind f.proc f.pc) (record old { regs = regs; stack = rest }) s
