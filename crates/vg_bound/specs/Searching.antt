-- What a search in depth keeps.
use Rattle.std.specs.Prelude.{◌≡◌, ◌⊎◌, ℕ, suc, ◌+◌, ◌-◌, ◌^◌, ◌<◌, ◌≤◌, Bool, true, false, List, [], ◌∷◌, get_or, length, sum, Option, Some, None, slice_get}
use Rattle.std.specs.Prelude.{if◌then◌else◌}
use Rattle.vg_bound.specs.declared.mark.Visit.{Visit}
use Rattle.vg_bound.specs.declared.mark.Mark.{Mark}
use Rattle.vg_bound.specs.declared.mark.Mark.TheVariants.{Unseen, Open, Done}
use Rattle.vg_bound.specs.declared.root.Root.{Root}
use Rattle.vg_bound.specs.declared.walk.Found.{Found}
use Rattle.vg_bound.specs.declared.walk.Found.TheVariants.{Cost, Closed}
use Rattle.vg_bound.specs.Graph.{HasEdge, IsPath, cost}
use Rattle.vg_bound.specs.Searched.{Searched, place_of}

-- ---- graphs within their limits

pub record IsShaped (frames : List ℕ) (calls : List (List ℕ)) : Type 0 where
  pub nodes : length calls ≡ length frames
  pub few : length frames ≤ 65536
  pub small : sum frames ≤ 2 ^ 48
  pub targets : (a b : ℕ) → HasEdge calls a b → b < length frames

pub record AreRoots (frames : List ℕ) (roots : List Root) : Type 0 where
  pub nodes : (i : ℕ) (r : Root) → slice_get roots i ≡ Some r → r.node < length frames
  pub small : (i : ℕ) (r : Root) → slice_get roots i ≡ Some r → r.extra < 2 ^ 32

-- ---- nodes that are done

-- Every path from a comes to an end: so does each from a node to which it has an edge.
pub data Ends (calls : List (List ℕ)) : (a : ℕ) → Type 0 where
  ends : {a : ℕ} → ((b : ℕ) → HasEdge calls a b → Ends calls b) → Ends calls a

-- c is the largest cost of a path from a, and no cycle can be reached from it.
pub record IsDone (frames : List ℕ) (calls : List (List ℕ)) (a c : ℕ) : Type 0 where
  pub ended : Ends calls a
  pub most : (behind : List ℕ) → IsPath calls a behind → cost frames (a ∷ behind) ≤ c
  pub reached : (behind : List ℕ) × IsPath calls a behind × (cost frames (a ∷ behind) ≡ c)

-- The first edges of a were looked at.
pub record IsLooked (frames : List ℕ) (calls : List (List ℕ)) (a : ℕ) (v : Visit) : Type 0 where
  pub within : v.next ≤ length (get_or calls a [])
  pub ended : (k b : ℕ) → k < v.next → slice_get (get_or calls a []) k ≡ Some b → Ends calls b
  pub most : (k b : ℕ) (behind : List ℕ) → k < v.next → slice_get (get_or calls a []) k ≡ Some b → IsPath calls b behind
      → cost frames (b ∷ behind) ≤ v.most
  pub reached : (v.most ≡ 0) ⊎ ((b : ℕ) × (behind : List ℕ) × HasEdge calls a b × IsPath calls b behind × (cost frames (b ∷ behind) ≡ v.most))

abbrev pub IsKnown : (frames : List ℕ) → List (List ℕ) → (a : ℕ) → Mark → Type 0
IsKnown frames calls a Unseen = Unit {0}
IsKnown frames calls a (Open v) = IsLooked frames calls a v
IsKnown frames calls a (Done c) = IsDone frames calls a c

-- ---- sums over all marks

abbrev pub total : (ℕ → Mark → ℕ) → List Mark → ℕ
total f [] = 0
total f (m ∷ ms) = f 0 m + total (λ k. f (suc k)) ms

abbrev pub opens : ℕ → Mark → ℕ
opens k Unseen = 0
opens k (Open v) = 1
opens k (Done c) = 0

abbrev pub is_done : Mark → Bool
is_done Unseen = false
is_done (Open v) = false
is_done (Done c) = true

abbrev pub spends : (frames : List ℕ) → ℕ → Mark → ℕ
spends frames k m = if is_done m then get_or frames k 0 else 0

-- The sum of the frames of the nodes that are done.
abbrev pub spent : (frames : List ℕ) → List Mark → ℕ
spent frames ms = total (spends frames) ms

-- What a node has still to do.
abbrev pub waits : List (List ℕ) → ℕ → Mark → ℕ
waits calls k Unseen = 2 + length (get_or calls k [])
waits calls k (Open v) = 1 + (length (get_or calls k []) - v.next)
waits calls k (Done c) = 0

abbrev pub waiting : List (List ℕ) → List Mark → ℕ
waiting calls ms = total (waits calls) ms

-- The cost that a mark tells of.
abbrev pub told : Mark → ℕ
told Unseen = 0
told (Open v) = v.most
told (Done c) = c

-- ---- the stack

-- A node stands on the stack exactly where its mark says so.
pub record IsStacked (marks : List Mark) (stack : List ℕ) : Type 0 where
  pub placed : (i a : ℕ) → slice_get stack i ≡ Some a → place_of (slice_get marks a) ≡ Some i
  pub opened : (a i : ℕ) → place_of (slice_get marks a) ≡ Some i → slice_get stack i ≡ Some a

-- A search as it stands: what its marks say is so, and its stack is a path.
pub record IsSearching (frames : List ℕ) (calls : List (List ℕ)) (s : Searched) : Type 0 where
  pub nodes : length s.marks ≡ length frames
  pub room : s.room ≡ length frames
  pub stacked : IsStacked s.marks s.stack
  pub known : (a : ℕ) (m : Mark) → slice_get s.marks a ≡ Some m → IsKnown frames calls a m
  pub paid : (a : ℕ) (m : Mark) → slice_get s.marks a ≡ Some m → told m ≤ spent frames s.marks
  pub along : (i a b : ℕ) → slice_get s.stack i ≡ Some a → slice_get s.stack (suc i) ≡ Some b → HasEdge calls a b
  pub few : total opens s.marks ≡ length s.stack

-- What stands at the bottom of the stack.
abbrev pub BeginsWith : (root : ℕ) → List ℕ → Type 0
BeginsWith root stack = (a : ℕ) → slice_get stack 0 ≡ Some a → a ≡ root

abbrev pub IsTop : List ℕ → (a : ℕ) → Type 0
IsTop stack a = slice_get stack (length stack - 1) ≡ Some a

-- The newest node has an edge to the one at a place of the stack.
abbrev pub IsClosed : List (List ℕ) → List ℕ → (place : ℕ) → Type 0
IsClosed calls stack i = (a : ℕ) × (b : ℕ) × IsTop stack a × HasEdge calls a b × (slice_get stack i ≡ Some b)

-- A step: less waits; or a cycle is found, which begins at this place.
abbrev pub IsStep : (frames : List ℕ) → List (List ℕ) → (before after : Searched) → Option ℕ → Type 0
IsStep frames calls s t None = IsSearching frames calls t × (waiting calls t.marks < waiting calls s.marks)
    × ((root : ℕ) → BeginsWith root s.stack → BeginsWith root t.stack)
IsStep frames calls s t (Some i) = (t ≡ s) × IsClosed calls s.stack i

-- What is found from a root.
abbrev pub IsFound : (frames : List ℕ) → List (List ℕ) → (root : ℕ) → Searched → Found → Type 0
IsFound frames calls root s (Cost c) = (s.stack ≡ []) × IsDone frames calls root c × (c ≤ sum frames)
IsFound frames calls root s (Closed i) = BeginsWith root s.stack × IsClosed calls s.stack i
