-- Where a call leads, and where a return.
use Rattle.std.specs.Prelude.{ℕ, ◌≡◌, List, ◌∷◌, ◌++◌, length, map}
use Rattle.vg_lin.specs.Steps.{Frame}
use Rattle.vg_lin.specs.State.{State as LinState}
use Rattle.avr_isa.specs.Machine.{State}
use Rattle.avr_view.specs.Registers.{Regs}
use Rattle.avr_view.specs.Run.{Run}
use Rattle.avr_view.specs.View.{View, At}
use Rattle.vg_templates.specs.Frames.{Places, word_bytes, back_to, between, needed, Points, Callers, Stacked}
use Rattle.vg_templates.specs.Layouts.{IsReliable}
use Rattle.vg_templates.specs.Linkage.{AreOthers}

-- Behind the first part of the prologue of a procedure for which another one waits: its frame has its slots, which hold what they held, what it has saved, the
-- return address and these arguments; the other one is its newest caller.
pub record Begun (e : Run) (i : Places) (q : ℕ) (f : Frame LinState) (frames : List (Frame LinState)) (args : List ℕ) (pc : ℕ) (old : View) (s : State)
    : Type 0 where
  pub slots : List ℕ
  pub under : List ℕ
  pub regs : Regs
  pub enough : length slots ≡ (i.layouts q).slots
  pub others : AreOthers old.regs regs
  pub points : Points (i.layouts q) (slots ++ (map old.regs.of (i.layouts q).saved ++ (word_bytes (back_to i f.awaits q f.proc f.pc) ++ args))) under regs
  pub callers : Callers i (f ∷ frames) q (slots ++ (map old.regs.of (i.layouts q).saved ++ (word_bytes (back_to i f.awaits q f.proc f.pc) ++ args))) under regs
  pub at : At e pc (record old {
    regs = regs;
    stack = (slots ++ (map old.regs.of (i.layouts q).saved ++ (word_bytes (back_to i f.awaits q f.proc f.pc) ++ args))) ++ under;
  }) s

-- Behind the epilogue of a procedure: its arguments are still there, and behind them lies what its caller finds again; scratch registers have
-- what the procedure left in them.
pub record Resumed (e : Run) (i : Places) (q : ℕ) (f : Frame LinState) (frames : List (Frame LinState)) (old : View) (s : State) : Type 0 where
  pub args : List ℕ
  pub rest : List ℕ
  pub regs : Regs
  pub long : length args ≡ (i.layouts q).pushed
  pub scratch : (d : ℕ) → (IsReliable d → ⊥) → regs.of d ≡ old.regs.of d
  pub stacked : Stacked i f.proc (needed i f.proc f.awaits f.pc) f.kept frames rest regs
  pub at : At e (back_to i f.awaits q f.proc f.pc) (record old { regs = regs; stack = args ++ (between i f.awaits f.proc f.pc ++ rest) }) s
