-- Cells in place of others, and the number of stored values.
use Rattle.std.proofs.Common.{◌≡◌, ℕ, zero, suc, ◌+◌, ◌<◌, List, [], ◌∷◌, length, map, sum, Option, Some, None, refl, sym, ap, ◌∙◌, subst, arith}
use Rattle.std.specs.Prelude.{slice_get, slice_set, get_or}
use Rattle.std.proofs.lemmas.List.{length-set, set-set}
use Rattle.std.proofs.lemmas.List.Sums.{sum_by-cons}
use Rattle.std.proofs.lemmas.Option.{slice_get-get_or}
use Rattle.vg_core.specs.declared.value.CoreValue.{CoreValue}
use Rattle.vg_core.specs.declared.heap.Cell.{Cell}
use Rattle.vg_core.specs.declared.heap.Cell.TheVariants.{Object, Array}
use Rattle.vg_core.specs.declared.program.Tables.{Tables}
use Rattle.vg_core.specs.Tables.{slot_of}
use Rattle.vg_core.specs.Heap.{size_of, with_field, with_item, with_value}
use Rattle.vg_core.specs.Meaning.{defaults}
use Rattle.vg_shape.specs.Cells.{cell_with_field, cell_with_item}

some_is : {A : Type 0} (a b : A) → Some a ≡ Some b → a ≡ b
some_is a b e = cc

-- what is there put there again
same_there : {A : Type 0} (xs : List A) (k : ℕ) (x : A) → slice_get xs k ≡ Some x → slice_set xs k x ≡ xs
same_there [] k x e = refl
same_there (y ∷ ys) zero x e = ap (λ z. z ∷ ys) (sym (some_is y x e))
same_there (y ∷ ys) (suc k) x e = ap (λ zs. y ∷ zs) (same_there ys k x e)

-- a field of the cell at a place
pub field_there : (p : Tables) (f : ℕ) (v : CoreValue) (cells : List Cell) (k : ℕ) (cell : Cell) → slice_get cells k ≡ Some cell
    → slice_set cells k (cell_with_field p f v cell) ≡ with_field p f v (slice_get cells k) cells k
field_there p f v cells k (Object c vs) e = sym (ap (λ o. with_field p f v o cells k) e)
field_there p f v cells k (Array t vs) e = same_there cells k (Array t vs) e ∙ sym (ap (λ o. with_field p f v o cells k) e)

-- an element of the cell at a place
pub item_there : (i : ℕ) (v : CoreValue) (cells : List Cell) (k : ℕ) (cell : Cell) → slice_get cells k ≡ Some cell
    → slice_set cells k (cell_with_item i v cell) ≡ with_item i v (slice_get cells k) cells k
item_there i v cells k (Array t vs) e = sym (ap (λ o. with_item i v o cells k) e)
item_there i v cells k (Object c vs) e = same_there cells k (Object c vs) e ∙ sym (ap (λ o. with_item i v o cells k) e)

-- the cell is taken away, and put back with another value in a field
pub field_put : (p : Tables) (f : ℕ) (v : CoreValue) (cells : List Cell) (k : ℕ) (none now cell made : Cell) → k < length cells
    → now ≡ get_or cells k now → cell ≡ now → made ≡ cell_with_field p f v cell
    → slice_set (slice_set cells k none) k made ≡ with_field p f v (slice_get cells k) cells k
field_put p f v cells k none now cell made h at same is =
    set-set cells k none made ∙ ap (slice_set cells k) is
    ∙ field_there p f v cells k cell (slice_get-get_or cells k now h ∙ ap Some (sym at ∙ sym same))

-- the cell is taken away, and put back with another element
pub item_put : (i : ℕ) (v : CoreValue) (cells : List Cell) (k : ℕ) (none now cell made : Cell) → k < length cells
    → now ≡ get_or cells k now → cell ≡ now → made ≡ cell_with_item i v cell
    → slice_set (slice_set cells k none) k made ≡ with_item i v (slice_get cells k) cells k
item_put i v cells k none now cell made h at same is =
    set-set cells k none made ∙ ap (slice_set cells k) is
    ∙ item_there i v cells k cell (slice_get-get_or cells k now h ∙ ap Some (sym at ∙ sym same))

cons : (n : ℕ) (ns : List ℕ) → sum (n ∷ ns) ≡ n + sum ns
cons n ns = sum_by-cons (λ x. x) n ns

-- a cell of the same size in place of another
same_sizes : (cells : List Cell) (k : ℕ) (old new : Cell) → slice_get cells k ≡ Some old → size_of new ≡ size_of old
    → sum (map size_of (slice_set cells k new)) ≡ sum (map size_of cells)
same_sizes [] k old new e s = refl
same_sizes (c ∷ cs) zero old new e s =
    cons (size_of new) (map size_of cs) ∙ ap (λ n. n + sum (map size_of cs)) (s ∙ ap size_of (sym (some_is c old e))) ∙ sym (cons (size_of c) (map size_of cs))
same_sizes (c ∷ cs) (suc k) old new e s =
    cons (size_of c) (map size_of (slice_set cs k new)) ∙ ap (λ n. size_of c + n) (same_sizes cs k old new e s) ∙ sym (cons (size_of c) (map size_of cs))

same_length : (o : Option ℕ) (v : CoreValue) (vs : List CoreValue) → length (with_value o v vs) ≡ length vs
same_length None v vs = refl
same_length (Some i) v vs = length-set vs i v

-- a store to a field changes no size
pub sizes_with_field : (p : Tables) (f : ℕ) (v : CoreValue) (cells : List Cell) (k : ℕ)
    → sum (map size_of (with_field p f v (slice_get cells k) cells k)) ≡ sum (map size_of cells)
sizes_with_field p f v cells k = at_cell (slice_get cells k) refl
  where
    at_cell : (o : Option Cell) → slice_get cells k ≡ o → sum (map size_of (with_field p f v o cells k)) ≡ sum (map size_of cells)
    at_cell None e = refl
    at_cell (Some (Array t vs)) e = refl
    at_cell (Some (Object c vs)) e = same_sizes cells k (Object c vs) (Object c (with_value (slot_of p c f) v vs)) e (ap (λ n. 1 + n) (same_length (slot_of p c f) v vs))

-- a store to an element changes no size
pub sizes_with_item : (i : ℕ) (v : CoreValue) (cells : List Cell) (k : ℕ)
    → sum (map size_of (with_item i v (slice_get cells k) cells k)) ≡ sum (map size_of cells)
sizes_with_item i v cells k = at_cell (slice_get cells k) refl
  where
    at_cell : (o : Option Cell) → slice_get cells k ≡ o → sum (map size_of (with_item i v o cells k)) ≡ sum (map size_of cells)
    at_cell None e = refl
    at_cell (Some (Object c vs)) e = refl
    at_cell (Some (Array t vs)) e = same_sizes cells k (Array t vs) (Array t (slice_set vs i v)) e (ap (λ n. 1 + n) (length-set vs i v))

-- each field has one default
pub length_defaults : (p : Tables) (fs : List ℕ) → length (defaults p fs) ≡ length fs
length_defaults p [] = refl
length_defaults p (f ∷ fs) = ap suc (length_defaults p fs)
