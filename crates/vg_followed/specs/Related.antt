-- Which states of the machine are those of a configuration of linear code.
use Rattle.std.specs.Prelude.{ℕ, ◌≡◌, ◌+◌, ◌*◌, true, List, [], ◌∷◌, ◌++◌, drop, Option, Some, None, slice_get}
use Rattle.vg_meaning.specs.Answer.{End, Stops, Wants, Done}
use Rattle.vg_meaning.specs.Outside.{Outside, IsVector, AreVectors}
use Rattle.avr_isa.specs.declared.ending.MachineEnd.TheVariants as machine_end
use Rattle.avr_isa.specs.Machine.{State as MachineState}
use Rattle.vg_lin.specs.declared.instr.Instr.{Instr}
use Rattle.vg_lin.specs.declared.instr.Instr.TheVariants.{Call, Idle}
use Rattle.vg_lin.specs.Meaning.{codes_in, gives_to}
use Rattle.vg_lin.specs.Program.{Procedure, Program}
use Rattle.vg_lin.specs.State.{State, Waiting}
use Rattle.vg_lin.specs.Steps.{Awaits, Result, Interrupt, Frame, Config, fetch}
use Rattle.avr_view.specs.Run.{Run, Ended}
use Rattle.avr_view.specs.View.{View, At}
use Rattle.vg_templates.specs.Frames.{word_bytes}
use Rattle.vg_templates.specs.Pieces.{Sees}
use Rattle.vg_templates.specs.Held.{Held}
use Rattle.vg_templates.specs.Outcomes.{Lies}
use Rattle.vg_templates.specs.Whole.{Links, call_bytes}

-- ---- what is known of a configuration

abbrev pub wait_widths : List Waiting → List ℕ
wait_widths [] = []
wait_widths (w ∷ ws) = w.width ∷ wait_widths ws

-- the instruction at which a procedure waits, how many bytes it passed to the procedure for which it waits, and the widths of what waits on
abbrev pub awaiting : Awaits → Instr
awaiting (Result call) = Call call
awaiting Interrupt = Idle

abbrev pub passed_by : (waits : List ℕ) → Awaits → ℕ
passed_by ws (Result call) = call_bytes ws call
passed_by ws Interrupt = 0

abbrev pub left_by : (waits : List ℕ) → Awaits → List ℕ
left_by ws (Result call) = drop call.pushed ws
left_by ws Interrupt = ws

abbrev pub TakesResult : Procedure → Awaits → Type 0
TakesResult m (Result call) = gives_to m.result call.to ≡ true
TakesResult m Interrupt = Unit {0}

-- where an interrupt waits, its handler is the procedure for which it waits
abbrev pub Handles : Program → Awaits → (callee : ℕ) → Type 0
Handles p (Result call) q = Unit {0}
Handles p Interrupt q = (vector : ℕ) × (p.handler vector ≡ Some q)

-- the procedure of a frame waits for this one
pub record IsCaller (x : Links) (p : Program) (f : Frame State) (callee : ℕ) : Type 0 where
  pub stands : fetch (codes_in p.procedures) f.proc f.pc ≡ Some (awaiting f.awaits)
  pub waits : wait_widths f.kept.waiting ≡ left_by (x.waits f.proc f.pc) f.awaits
  pub passed : (x.places.layouts callee).pushed ≡ passed_by (x.waits f.proc f.pc) f.awaits
  pub results : (m : Procedure) → slice_get p.procedures callee ≡ Some m → TakesResult m f.awaits
  pub handles : Handles p f.awaits callee

abbrev pub AreCallers : Links → Program → List (Frame State) → (callee : ℕ) → Type 0
AreCallers x p [] q = Unit {0}
AreCallers x p (f ∷ fs) q = IsCaller x p f q × AreCallers x p fs f.proc

pub record Settled (x : Links) (p : Program) (c : Config State) : Type 0 where
  pub waits : wait_widths c.state.waiting ≡ x.waits c.proc c.pc
  pub callers : AreCallers x p c.frames c.proc
  pub vectors : AreVectors c.outside.interrupts

-- ---- what the machine shows

-- between two instructions: the procedure lies where its next instruction stands
abbrev pub Going : (e : Run) (x : Links) (c : Config State) → MachineState → Type 0
Going e x c s =
    Sees e (Lies x.places c.proc (x.places.live c.proc c.pc) c.state c.frames c.outside) (x.place c.proc c.pc) s

-- an interrupt was taken: the machine is at the slot of its vector, with two return addresses in front of the procedure that idles
pub record Woken (e : Run) (x : Links) (p : Program) (c : Config State) (vector : ℕ) (s : MachineState) : Type 0 where
  pub is_vector : IsVector vector
  pub idles : fetch (codes_in p.procedures) c.proc c.pc ≡ Some Idle
  pub view : View
  pub held : Held x.places c.proc (x.places.live c.proc c.pc) c.state c.frames view
  pub out : view.out ≡ c.outside
  pub at : At e (2 * vector) (record view {
    stack = word_bytes (x.idle + 2) ++ (word_bytes (x.place c.proc c.pc + 2) ++ view.stack);
  }) s

-- the run has ended, where it did for a reason for which a legal program ends
abbrev pub HasEnded : (e : Run) → End → Outside → MachineState → Type 0
HasEnded e (Stops code at) o s = Ended e (machine_end.Stop code) o s
HasEnded e (Wants address) o s = Ended e (machine_end.Wants address) o s
HasEnded e Done o s = Ended e machine_end.Idle o s
HasEnded e why o s = Unit {0}

abbrev pub RelatedBy : (e : Run) (x : Links) (p : Program) (c : Config State) → Option End → (woken : Option ℕ) → MachineState → Type 0
RelatedBy e x p c (Some why) woken s = HasEnded e why c.outside s
RelatedBy e x p c None (Some vector) s = Settled x p c × Woken e x p c vector s
RelatedBy e x p c None None s = Settled x p c × Going e x c s

abbrev pub Related : (e : Run) (x : Links) (p : Program) (c : Config State) → MachineState → Type 0
Related e x p c s = RelatedBy e x p c c.ending c.woken s
