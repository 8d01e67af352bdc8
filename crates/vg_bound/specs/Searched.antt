-- A search as contracts see it, and what a step of it changes. (Mirrors of `Search`.)
use Rattle.std.specs.Prelude.{ℕ, ◌+◌, ◌-◌, max, List, [], ◌∷◌, ◌++◌, length, replicate, take, Option, Some, None, slice_set}
use Rattle.vg_bound.specs.declared.mark.Visit.{Visit}
use Rattle.vg_bound.specs.declared.mark.Mark.{Mark}
use Rattle.vg_bound.specs.declared.mark.Mark.TheVariants.{Unseen, Open, Done}

-- What is known of each node; the nodes whose calls are being looked at, the oldest first; and how many of these there is room for.
pub record Searched : Type 0 where
  pub marks : List Mark
  pub stack : List ℕ
  pub room : ℕ

abbrev pub searched : List Mark → List ℕ → (room : ℕ) → Searched
searched marks stack room = record { marks = marks; stack = stack; room = room }

-- No node was seen.
abbrev pub begun : (count : ℕ) → Searched
begun count = searched (replicate count Unseen) [] count

-- Where a node of this mark stands on the stack.
abbrev pub place_of : Option Mark → Option ℕ
place_of (Some (Open v)) = Some v.place
place_of (Some Unseen) = None
place_of (Some (Done c)) = None
place_of None = None

-- A visit behind one more call, from which the largest path costs c.
abbrev pub looked : (c : ℕ) → Visit → Visit
looked c v = record { place = v.place; next = v.next + 1; most = max v.most c }

abbrev pub first_visit : (place : ℕ) → Visit
first_visit place = record { place = place; next = 0; most = 0 }

abbrev pub entered : (a : ℕ) → Searched → Searched
entered a s = searched (slice_set s.marks a (Open (first_visit (length s.stack)))) (s.stack ++ a ∷ []) s.room

abbrev pub visiting : (a : ℕ) → Visit → Searched → Searched
visiting a v s = searched (slice_set s.marks a (Open v)) s.stack s.room

abbrev pub left : (a cost : ℕ) → Searched → Searched
left a c s = searched (slice_set s.marks a (Done c)) (take (length s.stack - 1) s.stack) s.room
