-- What the search for live members answers.
use Rattle.std.specs.Prelude.{◌≡◌, ℕ, ◌<◌, min, List, [], ◌∷◌, Option, Some, None, is_some, Result, Ok, Err, if◌then◌else◌}
use Rattle.vg_base.specs.declared.refusal.Refusal.{Refusal}
use Rattle.vg_base.specs.declared.refusal.Refusal.TheVariants.{Fault, NoMemory}
use Rattle.vg_core.specs.declared.member.Member.TheVariants.{Method}
use Rattle.vg_core.specs.declared.step.Step.{Step}
use Rattle.vg_core.specs.declared.heap.Heap.{Heap}
use Rattle.vg_core.specs.Program.{Program}
use Rattle.vg_live.specs.declared.live_set.LiveSet.{LiveSet}
use Rattle.vg_live.specs.Uses.{steps_of, made_at}
use Rattle.vg_live.specs.Rules.{Live}
use Rattle.vg_live.specs.Sets.{reason_of, IsIn, IsLiveSet}
use Rattle.vg_reach.specs.declared.making.Allocates.{Allocates}

-- The lesser of two nodes, where they are there.
abbrev pub least_of : Option ℕ → Option ℕ → Option ℕ
least_of None b = b
least_of (Some a) None = Some a
least_of (Some a) (Some b) = Some (min a b)

-- The least node at which steps make an object or an array.
abbrev pub least_made : List Step → Option ℕ
least_made [] = None
least_made (s ∷ ss) = least_of (made_at s) (least_made ss)

-- The least node at which the method m does.
abbrev pub made_in : Program → (m : ℕ) → Option ℕ
made_in p m = least_made (steps_of p m)

-- The first live method in order of the text that makes something, at the first node at which it does.
pub record IsFirstMaker (p : Program) (h : Heap) (a : Allocates) : Type 0 where
  pub live : Live p h (Some (Method a.method))
  pub makes : made_in p a.method ≡ Some a.node
  pub first : (m : ℕ) → m < a.method → Live p h (Some (Method m)) → made_in p m ≡ None

-- The live set, where no live method makes anything; else the first that does.
abbrev pub Reaches : Program → Heap → Result LiveSet (Refusal Allocates) → Type 0
Reaches p h (Ok s) = IsLiveSet p h s × ((m : ℕ) → Live p h (Some (Method m)) → made_in p m ≡ None)
Reaches p h (Err (Fault a)) = IsFirstMaker p h a
Reaches p h (Err NoMemory) = Unit {0}

-- ---- mirrors

abbrev pub made_of : Program → LiveSet → (m : ℕ) → Option ℕ
made_of p s m = if is_some (reason_of s (Method m)) then made_in p m else None

abbrev pub FirstMade : Program → LiveSet → Option Allocates → Type 0
FirstMade p s None = (m : ℕ) → IsIn s (Method m) → made_in p m ≡ None
FirstMade p s (Some a) =
    IsIn s (Method a.method) × (made_in p a.method ≡ Some a.node) × ((m : ℕ) → m < a.method → IsIn s (Method m) → made_in p m ≡ None)
