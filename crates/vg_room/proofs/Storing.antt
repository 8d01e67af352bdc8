-- How many values a heap stores: a store changes nothing of it, and a cell more adds its own.
use Rattle.std.proofs.Common.{◌≡◌, refl, sym, ap, ◌∙◌, arith, ℕ, zero, suc, ◌+◌, List, [], ◌∷◌, ◌++◌, length, map, replicate, sum, Option, Some, None}
use Rattle.std.proofs.Common.{slice_get, slice_set}
use Rattle.std.proofs.lemmas.List.{length-set, length-replicate}
use Rattle.std.proofs.lemmas.List.Sums.{sum_by-cons}
use Rattle.vg_core.specs.declared.value.CoreValue.{CoreValue}
use Rattle.vg_core.specs.declared.heap.Cell.{Cell}
use Rattle.vg_core.specs.declared.heap.Cell.TheVariants.{Object, Array}
use Rattle.vg_core.specs.declared.heap.Heap.{Heap}
use Rattle.vg_core.specs.declared.program.Tables.{Tables}
use Rattle.vg_core.specs.Heap.{size_of, stored_values, Place, OfComponent, OfObject, OfArray, with_value, with_field, with_item, set_at}
use Rattle.vg_core.specs.Meaning.{defaults}
use Rattle.vg_core.specs.Tables.{slot_of, global_slot}

none_some : (c : Cell) → None ≡ Some c → ⊥
none_some c e = cc

one_some : (a b : Cell) → Some a ≡ Some b → a ≡ b
one_some a b e = cc

-- a cell in place of one of its size
sizes_set : (cells : List Cell) (k : ℕ) (c d : Cell) → slice_get cells k ≡ Some c → size_of d ≡ size_of c
    → map size_of (slice_set cells k d) ≡ map size_of cells
sizes_set [] k c d e q = absurd (none_some c e)
sizes_set (x ∷ xs) zero c d e q = ap (λ z. z ∷ map size_of xs) (q ∙ ap size_of (sym (one_some x c e)))
sizes_set (x ∷ xs) (suc k) c d e q = ap (λ z. size_of x ∷ z) (sizes_set xs k c d e q)

value_length : (o : Option ℕ) (v : CoreValue) (vs : List CoreValue) → length (with_value o v vs) ≡ length vs
value_length None v vs = refl
value_length (Some i) v vs = length-set vs i v

field_sizes : (p : Tables) (f : ℕ) (v : CoreValue) (cells : List Cell) (k : ℕ) (o : Option Cell) → slice_get cells k ≡ o
    → map size_of (with_field p f v o cells k) ≡ map size_of cells
field_sizes p f v cells k (Some (Object c vs)) e =
    sizes_set cells k (Object c vs) (Object c (with_value (slot_of p c f) v vs)) e (ap (λ n. 1 + n) (value_length (slot_of p c f) v vs))
field_sizes p f v cells k (Some (Array t vs)) e = refl
field_sizes p f v cells k None e = refl

item_sizes : (i : ℕ) (v : CoreValue) (cells : List Cell) (k : ℕ) (o : Option Cell) → slice_get cells k ≡ o
    → map size_of (with_item i v o cells k) ≡ map size_of cells
item_sizes i v cells k (Some (Array t vs)) e =
    sizes_set cells k (Array t vs) (Array t (slice_set vs i v)) e (ap (λ n. 1 + n) (length-set vs i v))
item_sizes i v cells k (Some (Object c vs)) e = refl
item_sizes i v cells k None e = refl

pub stored_set : (p : Tables) (x : Place) (v : CoreValue) (h : Heap) → stored_values (set_at p x v h) ≡ stored_values h
stored_set p (OfComponent f) v h = ap (λ n. n + sum (map size_of h.cells)) (value_length (global_slot p f) v h.globals)
stored_set p (OfObject k f) v h = ap (λ ns. length h.globals + sum ns) (field_sizes p f v h.cells k (slice_get h.cells k) refl)
stored_set p (OfArray k i) v h = ap (λ ns. length h.globals + sum ns) (item_sizes i v h.cells k (slice_get h.cells k) refl)

-- one cell more
sum_behind : (cells : List Cell) (c : Cell) → sum (map size_of (cells ++ c ∷ [])) ≡ sum (map size_of cells) + size_of c
sum_behind [] c = let e = sum_by-cons (λ x. x) (size_of c) [] in omega (arith, e)
sum_behind (x ∷ xs) c =
    let a = sum_by-cons (λ x. x) (size_of x) (map size_of (xs ++ c ∷ [])) in
    let b = sum_by-cons (λ x. x) (size_of x) (map size_of xs) in
    let h = sum_behind xs c in omega (arith, a, b, h)

pub stored_more : (h : Heap) (c : Cell) (size : ℕ) → size_of c ≡ 1 + size
    → stored_values (record h { cells = h.cells ++ c ∷ [] }) ≡ stored_values h + 1 + size
stored_more h c size e = let s = sum_behind h.cells c in omega (arith, s, e)

pub defaults_length : (p : Tables) (fs : List ℕ) → length (defaults p fs) ≡ length fs
defaults_length p [] = refl
defaults_length p (f ∷ fs) = ap suc (defaults_length p fs)

pub object_size : (p : Tables) (c : ℕ) (fs : List ℕ) → size_of (Object c (defaults p fs)) ≡ 1 + length fs
object_size p c fs = ap (λ n. 1 + n) (defaults_length p fs)

pub array_size : (t n : ℕ) (v : CoreValue) → size_of (Array t (replicate n v)) ≡ 1 + n
array_size t n v = ap (λ m. 1 + m) (length-replicate n v)
