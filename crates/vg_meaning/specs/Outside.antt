-- What the outside of a program still holds, and what it has seen. The source's meaning and the machine share it.
use Rattle.std.specs.Prelude.{ℕ, ◌<◌, ◌≤◌, List, [], ◌∷◌, ◌++◌}
use Rattle.std.specs.List.{AllByRecursion}
use Rattle.vg_meaning.specs.declared.event.Event.{Event}

pub record Outside : Type 0 where
  pub reads : List ℕ  -- the values that the next device reads give, in order
  pub interrupts : List ℕ  -- the vectors of the interrupts to come, in order
  pub trace : List Event  -- the events so far, the oldest first

-- before a run: nothing was seen
abbrev pub before : (reads interrupts : List ℕ) → Outside
before reads interrupts = record { reads = reads; interrupts = interrupts; trace = [] }

-- a device register holds a byte
abbrev pub IsRead : ℕ → Type 0
IsRead value = value < 256

-- the chip has the vectors 1 to 34 beside that of its reset
abbrev pub IsVector : ℕ → Type 0
IsVector vector = (1 ≤ vector) × (vector ≤ 34)

abbrev pub AreReads : List ℕ → Type 0
AreReads = AllByRecursion IsRead

abbrev pub AreVectors : List ℕ → Type 0
AreVectors = AllByRecursion IsVector

-- one event more
abbrev pub with_event : Outside → Event → Outside
with_event o event = record o { trace = o.trace ++ event ∷ [] }
