-- The kinds of the cells of a typed heap.
use Rattle.std.proofs.Common.{◌≡◌, subst, arith, zero, suc, List, [], ◌∷◌, map, Some}
use Rattle.std.proofs.lemmas.Option.{slice_get_within}
use Rattle.vg_core.specs.declared.heap.Cell.{Cell}
use Rattle.vg_core.specs.declared.heap.Cell.TheVariants.{Object, Array}
use Rattle.vg_core.specs.declared.heap.Heap.{Heap}
use Rattle.vg_core.specs.declared.program.Tables.{Tables}
use Rattle.vg_core.specs.Heap.{Kind, ObjectOf, ArrayOf, kind_of}
use Rattle.vg_core.specs.Types.{IsKind, AreKinds}
use Rattle.vg_sound.specs.Good.{HasTypedHeap}
use Rattle.vg_number.specs.Numbering.{IsListed, AreListed, kinds_of}

module _ (p : Tables) (κ : List Kind) where
  one_listed : (c : Cell) (a : Kind) → IsKind p κ c a → IsListed p (kind_of c)
  one_listed (Object c vs) (ObjectOf d) (same, x, there, fields) = slice_get_within p.classes c x there
  one_listed (Object c vs) (ArrayOf t n) h = absurd h
  one_listed (Array t vs) (ObjectOf d) h = absurd h
  one_listed (Array t vs) (ArrayOf u n) (same, size, e, there, items) = slice_get_within p.types t e there

  some_same : (a b : Kind) → Some a ≡ Some b → a ≡ b
  some_same a b e = grind (arith, e)

  all_listed : (cells : List Cell) (κ1 : List Kind) → AreKinds p κ cells κ1 → AreListed p (map kind_of cells)
  all_listed [] κ1 h j a e = absurd (grind (arith, e))
  all_listed (c ∷ cs) [] h j a e = absurd h
  all_listed (c ∷ cs) (k ∷ ks) (h, hs) zero a e = subst (IsListed p) (some_same (kind_of c) a e) (one_listed c k h)
  all_listed (c ∷ cs) (k ∷ ks) (h, hs) (suc j) a e = all_listed cs ks hs j a e

-- the class of each object and the type of each array's elements are in the tables
pub listed : (p : Tables) (h : Heap) → HasTypedHeap p h → AreListed p (kinds_of h)
listed p h (κ, t) = all_listed p κ h.cells κ t.cells
