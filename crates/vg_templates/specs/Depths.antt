-- How many bytes of the stack the procedures take that are open.
use Rattle.std.specs.Prelude.{ℕ, ◌+◌, ◌≤◌, List, [], ◌∷◌}
use Rattle.vg_lin.specs.Steps.{Awaits, Result, Interrupt, Frame}
use Rattle.vg_lin.specs.State.{Waiting, State}
use Rattle.vg_templates.specs.Frames.{Places, bytes_of}
use Rattle.vg_templates.specs.Layouts.{frame_size}

-- an interrupt leaves two return addresses between what it interrupted and its handler; a call leaves nothing
abbrev pub between_bytes : Awaits → ℕ
between_bytes (Result call) = 0
between_bytes Interrupt = 4

-- a procedure's frame, and what waits in it
abbrev pub open_bytes : Places → (proc : ℕ) → List Waiting → ℕ
open_bytes i m ws = bytes_of ws + frame_size (i.layouts m)

-- those of all procedures that wait for others
abbrev pub callers_bytes : Places → List (Frame State) → ℕ
callers_bytes i [] = 0
callers_bytes i (f ∷ fs) = between_bytes f.awaits + open_bytes i f.proc f.kept.waiting + callers_bytes i fs

-- and of the one that runs as well
abbrev pub stack_bytes : Places → (proc : ℕ) → List Waiting → List (Frame State) → ℕ
stack_bytes i m ws frames = open_bytes i m ws + callers_bytes i frames

-- So many bytes at most wait in each of the callers.
abbrev pub AtMostWait : (most : ℕ → ℕ) → List (Frame State) → Type 0
AtMostWait most [] = Unit {0}
AtMostWait most (f ∷ fs) = (bytes_of f.kept.waiting ≤ most f.proc) × AtMostWait most fs

-- the most that the open procedures can take, by how much may wait in each
abbrev pub most_bytes : Places → (most : ℕ → ℕ) → (proc : ℕ) → List (Frame State) → ℕ
most_bytes i most m [] = most m + frame_size (i.layouts m)
most_bytes i most m (f ∷ fs) = most m + frame_size (i.layouts m) + between_bytes f.awaits + most_bytes i most f.proc fs
