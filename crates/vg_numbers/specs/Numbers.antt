-- The numbers of the cells that are kept.
use Rattle.std.specs.Prelude.{◌≡◌, ◌⊎◌, ℕ, zero, suc, ◌+◌, ◌==◌, ◌&&◌, Bool, true, false, List, [], ◌∷◌, Option, Some, slice_get, if◌then◌else◌}
use Rattle.vg_core.specs.declared.program.Class.{Class}
use Rattle.vg_core.specs.declared.program.Tables.{Tables}
use Rattle.vg_core.specs.Heap.{Kind, ObjectOf, ArrayOf}
use Rattle.vg_core.specs.State.{onto}
use Rattle.vg_core.specs.Tables.{above_in, top, both_same}
use Rattle.vg_numbers.specs.Keys.{class_key, Object, key, before, inside}

-- The classes above a class are those above the next one, behind the class itself.
abbrev pub IsChain : Tables → (c : ℕ) → (above : List ℕ) → Type 0
IsChain p c above = (above ≡ c ∷ []) ⊎ ((d : ℕ) × (s : Class) × (slice_get p.classes d ≡ Some s) × (above ≡ c ∷ s.above))

abbrev pub AreChains : Tables → Type 0
AreChains p = (c : ℕ) (k : Class) → slice_get p.classes c ≡ Some k → IsChain p c k.above

-- The way down to a class, from the topmost class above it.
abbrev pub way : Tables → (c : ℕ) → List ℕ
way p c = onto (above_in (slice_get p.classes c)) []

-- A cell holds an object of this hierarchy.
abbrev pub is_of_hierarchy : Tables → (top : Option ℕ) → Kind → Bool
is_of_hierarchy p t (ObjectOf c) = both_same (top p c) t
is_of_hierarchy p t (ArrayOf e size) = false

abbrev pub way_of : Tables → Kind → List ℕ
way_of p (ObjectOf c) = way p c
way_of p (ArrayOf e size) = []

-- The kept objects of a hierarchy among cells from this one on.
abbrev pub objects : Tables → (top : Option ℕ) → (kept : ℕ → Bool) → (at : ℕ) → List Kind → List Object
objects p t kept at [] = []
objects p t kept at (a ∷ κ) =
    if kept at && is_of_hierarchy p t a then record { way = way_of p a; cell = at } ∷ objects p t kept (suc at) κ else objects p t kept (suc at) κ

-- The kept objects of the hierarchy of a class.
abbrev pub beside : Tables → List Kind → (kept : ℕ → Bool) → (c : ℕ) → List Object
beside p κ kept c = objects p (top p c) kept 0 κ

-- A cell holds an array of elements of the type of this number.
abbrev pub is_array_of : (t : ℕ) → Kind → Bool
is_array_of t (ObjectOf c) = false
is_array_of t (ArrayOf e size) = e == t

abbrev pub one_if : Bool → ℕ
one_if true = 1
one_if false = 0

-- How many of the first cells hold kept arrays of a type.
abbrev pub arrays_before : (t : ℕ) → (kept : ℕ → Bool) → (at : ℕ) → List Kind → (count : ℕ) → ℕ
arrays_before t kept at [] n = 0
arrays_before t kept at (a ∷ κ) zero = 0
arrays_before t kept at (a ∷ κ) (suc n) = one_if (kept at && is_array_of t a) + arrays_before t kept (suc at) κ n

-- The number of what lies in a cell, if it is kept: one more than the objects of its hierarchy, or the arrays of its type, before it. Null is 0.
abbrev pub numbered : Tables → List Kind → (kept : ℕ → Bool) → (j : ℕ) → Bool → Option Kind → ℕ
numbered p κ kept j true (Some (ObjectOf c)) = 1 + before (beside p κ kept c) (key (record { way = way p c; cell = j }))
numbered p κ kept j true (Some (ArrayOf t size)) = 1 + arrays_before t kept 0 κ j
numbered p κ kept j _ _ = 0

abbrev pub number : Tables → List Kind → (kept : ℕ → Bool) → (j : ℕ) → ℕ
number p κ kept j = numbered p κ kept j (kept j) (slice_get κ j)

-- The first number of a class with all below it, and how many there are.
abbrev pub first : Tables → List Kind → (kept : ℕ → Bool) → (c : ℕ) → ℕ
first p κ kept c = 1 + before (beside p κ kept c) (class_key (way p c))

abbrev pub count : Tables → List Kind → (kept : ℕ → Bool) → (c : ℕ) → ℕ
count p κ kept c = inside (beside p κ kept c) (class_key (way p c))
