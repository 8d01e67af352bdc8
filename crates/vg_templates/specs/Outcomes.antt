-- What templates make of what the code sees.
use Rattle.std.specs.Prelude.{ℕ, ◌≡◌, ◌+◌, ◌%◌, ◌^◌, ◌<◌, ◌≤◌, ◌⊎◌, Bool, true, List}
use Rattle.vg_meaning.specs.Outside.{Outside}
use Rattle.vg_lin.specs.Steps.{Frame}
use Rattle.vg_lin.specs.State.{State}
use Rattle.avr_view.specs.View.{View}
use Rattle.vg_templates.specs.Frames.{Places}
use Rattle.vg_templates.specs.Held.{Held}
use Rattle.vg_templates.specs.Numbers.{number_in}

-- a list of registers holds the low bytes of a value, and the procedure lies as before; of all registers but Z those from d on alone may have changed
pub record Found (i : Places) (m : ℕ) (live : ℕ → Bool) (s : State) (frames : List (Frame State)) (d count value : ℕ) (found : List ℕ) (old new : View)
    : Type 0 where
  pub held : Held i m live s frames new
  pub others : (x : ℕ) → x < 30 → (x < d) ⊎ (d + count ≤ x) → new.regs.of x ≡ old.regs.of x
  pub holds : number_in new.regs found ≡ value % 256 ^ count
  pub same : new ≡ record old { regs = new.regs }

-- the procedure lies there in a state, with this outside
pub record Lies (i : Places) (m : ℕ) (live : ℕ → Bool) (s : State) (frames : List (Frame State)) (o : Outside) (v : View) : Type 0 where
  pub held : Held i m live s frames v
  pub out : v.out ≡ o

-- what is needed behind an instruction that sets no local was needed before it
abbrev pub IsKept : (live behind : ℕ → Bool) → Type 0
IsKept live behind = (k : ℕ) → behind k ≡ true → live k ≡ true
