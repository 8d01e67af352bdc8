-- When the open procedures of a run of linear code take more bytes than the stack has.
use Rattle.std.specs.Prelude.{ℕ, ◌≡◌, ◌+◌, ◌<◌, ◌≤◌, Some, slice_get}
use Rattle.avr_view.specs.Run.{Run}
use Rattle.vg_lin.specs.Program.{Procedure, Program}
use Rattle.vg_lin.specs.Sound.{IsSound}
use Rattle.vg_lin.specs.State.{State}
use Rattle.vg_lin.specs.Steps.{Config}
use Rattle.vg_templates.specs.Frames.{bytes_of}
use Rattle.vg_templates.specs.Whole.{Links}
use Rattle.vg_templates.specs.Depths.{most_bytes, AtMostWait}
use Rattle.vg_followed.specs.Followed.{behind}

-- each procedure of a program is sound
abbrev pub AreSound : Program → Type 0
AreSound p = (m : ℕ) (procedure : Procedure) → slice_get p.procedures m ≡ Some procedure → IsSound procedure

-- so many bytes at most wait in each open procedure
abbrev pub WaitAtMost : (most : ℕ → ℕ) → Config State → Type 0
WaitAtMost most c = (bytes_of c.state.waiting ≤ most c.proc) × AtMostWait most c.frames

-- Behind some of so many steps the frames of the open procedures, with the most that may wait in each, take more bytes than the stack has, or would with 16
-- bytes more: the most that one instruction pushes beside the frame of a procedure that it opens.
abbrev pub PassesStack : Run → Links → Program → (most : ℕ → ℕ) → (n : ℕ) → Config State → Type 0
PassesStack e x p most n c =
    (j : ℕ) × ((j ≤ n) × (0x1100 < e.floor + 16 + most_bytes x.places most (behind p j c).proc (behind p j c).frames))
