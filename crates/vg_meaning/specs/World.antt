-- What a run has beside the state of its program: the outside, the clock, the limits, and a history of its calls.
use Rattle.std.specs.Prelude.{ℕ, Option}
use Rattle.vg_meaning.specs.Outside.{Outside}

-- Initialisation keeps the node of a stop and touches no device; a run is what comes after it.
pub data Phase : Type 0 where
  Starting : Phase
  Running : Phase

-- The world of a run, with a history of type H.
pub record World (H : Type 0) : Type 0 where
  pub phase : Phase
  pub deepest : Option ℕ  -- the greatest number of active calls, where there is one
  pub largest : Option ℕ  -- the greatest number of stored values, where there is one
  pub clock : ℕ  -- the ticks that are left
  pub outside : Outside  -- reads and interrupts to come, and the trace so far
  pub history : H
