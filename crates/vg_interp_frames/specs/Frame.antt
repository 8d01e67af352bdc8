-- What the newest body has in hand.
use Rattle.std.specs.Prelude.{ℕ, ◌-◌, List, [], ◌∷◌, ◌++◌, drop, reverse, take}
use Rattle.vg_core.specs.declared.value.CoreValue.{CoreValue}

-- The values of the bodies below it, the oldest first; its locals by their numbers; and its values that wait, the newest first.
pub record Frame : Type 0 where
  pub below : List CoreValue
  pub locals : List CoreValue
  pub values : List CoreValue

-- The frame whose locals and whose waiting values begin at these places.
abbrev pub frame_of : List CoreValue → (start base : ℕ) → Frame
frame_of items start base = record { below = take start items; locals = take (base - start) (drop start items); values = reverse (drop base items) }

-- One value more waits.
abbrev pub with_value : CoreValue → Frame → Frame
with_value v f = record f { values = v ∷ f.values }

-- A body is opened above the others: its first locals are so many of the newest values.
abbrev pub entering : (count : ℕ) → Frame → Frame
entering count f = record {
  below = f.below ++ f.locals ++ reverse (drop count f.values);
  locals = reverse (take count f.values);
  values = [];
}
