-- Where a live method makes an object or an array.
use Rattle.std.specs.Prelude.{◌≡◌, ℕ, ◌<◌, min, List, [], ◌∷◌, Option, Some, None}
use Rattle.vg_source.specs.Names.{Name}
use Rattle.vg_source.specs.Values.{Heap}
use Rattle.vg_source.specs.Steps.{Step, Routine, Source}
use Rattle.vg_source.specs.Steps.{Method as TheMethod}
use Rattle.vg_source.specs.State.{find_routine}
use Rattle.vg_live_source.specs.Members.{Method}
use Rattle.vg_live_source.specs.Uses.{steps_of, made_at}
use Rattle.vg_live_source.specs.Rules.{Live}

-- The lesser of two nodes, where they are there.
abbrev pub least_of : Option ℕ → Option ℕ → Option ℕ
least_of None b = b
least_of (Some a) None = Some a
least_of (Some a) (Some b) = Some (min a b)

-- The least node at which steps make an object or an array.
abbrev pub least_made : List Step → Option ℕ
least_made [] = None
least_made (s ∷ ss) = least_of (made_at s) (least_made ss)

-- The least node at which the method m that c declares does.
abbrev pub made_in : Source → (c m : Name) → Option ℕ
made_in p c m = least_made (steps_of p c m)

abbrev pub number_in : Option Routine → Option ℕ
number_in (Some r) = Some r.number
number_in None = None

-- The number of a method in the order of the text, where it is there.
abbrev pub number_of : Source → (c m : Name) → Option ℕ
number_of p c m = number_in (find_routine p.routines (TheMethod c m))

-- The method x that d declares stands in the text before the method m that c declares.
abbrev pub StandsBefore : Source → (d x c m : Name) → Type 0
StandsBefore p d x c m = (i j : ℕ) × (number_of p d x ≡ Some i) × (number_of p c m ≡ Some j) × (i < j)

-- The first live method in order of the text that makes something, and the first node at which it does.
pub record IsFirstMaker (p : Source) (h : Heap) (c m : Name) (node : ℕ) : Type 0 where
  pub live : Live p h (Some (Method c m))
  pub makes : made_in p c m ≡ Some node
  pub first : (d x : Name) → StandsBefore p d x c m → Live p h (Some (Method d x)) → made_in p d x ≡ None

-- No live method makes anything.
abbrev pub MakesNothing : Source → Heap → Type 0
MakesNothing p h = (c m : Name) → Live p h (Some (Method c m)) → made_in p c m ≡ None
