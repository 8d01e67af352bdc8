-- Rows with one more.
use Rattle.std.proofs.Common.{◌≡◌, ◌⊎◌, refl, sym, ap, subst, ◌∙◌, arith, ℕ, zero, suc, ◌+◌, ◌<◌, ◌≤◌, ◌==◌, replicate, Bool, true, false, List, [], ◌∷◌, ◌++◌, length, drop, get_or, drop-cons, Option, Some, None, slice_get, slice_set, if◌then◌else◌}
use Rattle.std.proofs.lemmas.Option.{same_Some, none-some, slice_get_within, slice_get_read}
use Rattle.std.proofs.lemmas.List.{length-set, length-append}
use Rattle.std.proofs.lemmas.Bool.Decides.{eqb_tells}
use mathlib.Core.Logic.{inl, inr}
use Rattle.vg_core.specs.declared.heap.Cell.{Cell}
use Rattle.vg_core.specs.declared.heap.Heap.{Heap}
use Rattle.vg_core.specs.declared.program.Method.{Method}
use Rattle.vg_core.specs.declared.program.Tables.{Tables}
use Rattle.vg_core.specs.Heap.{class_in}
use Rattle.vg_core.specs.Tables.{is_below, dispatch, slot_of, find_selector, has_selector}
use Rattle.vg_reach_marks.proofs.Order.{get_front, get_last, get_either, get_set, get_other, same_or_not}
use Rattle.vg_reach_index.specs.declared.class_row.ClassRow.{ClassRow}
use Rattle.vg_reach_index.specs.Indexed.{Has, IsBelowRow, IsRow, AreRows, row_in, row_at, put_at, methods_at, KeepsCells, Sorts}

pub has_front : (xs : List ℕ) (z n : ℕ) → Has xs n → Has (xs ++ z ∷ []) n
has_front xs z n (i, e) = (i, get_front xs z n i e)

pub has_last : (xs : List ℕ) (z : ℕ) → Has (xs ++ z ∷ []) z
has_last xs z = (length xs, get_last xs z)

-- ---- what classes are above

pub below_more : (t : Tables) (d n : ℕ) (row : List Bool) → length row ≡ n → IsBelowRow t d row → IsBelowRow t d (row ++ is_below t d n ∷ [])
below_more t d n row e h c b g = by' (get_either row (is_below t d n) b c g)
  where
    by' : (slice_get row c ≡ Some b) ⊎ ((c ≡ length row) × (is_below t d n ≡ b)) → b ≡ is_below t d c
    by' (inl q) = h c b q
    by' (inr (cl, q)) = sym q ∙ ap (is_below t d) (sym (cl ∙ e))

-- ---- the first methods for selectors

-- the first, where it is there, else the second
abbrev pub or_first : Option ℕ → Option ℕ → Option ℕ
or_first (Some m) x = Some m
or_first None x = x

-- what is noted, and what the methods that are left give
abbrev pub Selects : Tables → (all left : List ℕ) → List (Option ℕ) → Type 0
Selects t all left row = (s : ℕ) (v : Option ℕ) → slice_get row s ≡ Some v → or_first v (find_selector t left s) ≡ find_selector t all s

pub select_first : (t : Tables) (all : List ℕ) (n : ℕ) → Selects t all all (replicate n None)
select_first t all zero s v e = absurd (none-some v e)
select_first t all (suc n) zero v e = subst (λ z. or_first z (find_selector t all 0) ≡ find_selector t all 0) (same_Some None v e) refl
select_first t all (suc n) (suc s) v e = nothing n s e
  where
    nothing : (n k : ℕ) → slice_get (replicate n None) k ≡ Some v → or_first v (find_selector t all (suc s)) ≡ find_selector t all (suc s)
    nothing zero k e = absurd (none-some v e)
    nothing (suc n) zero e = subst (λ z. or_first z (find_selector t all (suc s)) ≡ find_selector t all (suc s)) (same_Some None v e) refl
    nothing (suc n) (suc k) e = nothing n k e

module _ (t : Tables) (all rest : List ℕ) (m : ℕ) (row : List (Option ℕ)) (h : Selects t all (m ∷ rest) row) where
  -- the method has another selector
  other : (o : Option Method) → slice_get t.methods m ≡ o → (s : ℕ) → has_selector o s ≡ false → (v : Option ℕ) → slice_get row s ≡ Some v
      → or_first v (find_selector t rest s) ≡ find_selector t all s
  other o e s f v g = ap (λ b. or_first v (if b then Some m else find_selector t rest s)) (sym (ap (λ z. has_selector z s) e ∙ f)) ∙ h s v g

  -- a method is noted already
  noted : (n s : ℕ) (v : Option ℕ) → slice_get row s ≡ Some v → v ≡ Some n → or_first v (find_selector t rest s) ≡ find_selector t all s
  noted n s v g e =
      subst (λ z. or_first z (find_selector t rest s) ≡ find_selector t all s) (sym e) (h s (Some n) (g ∙ ap Some e))

  -- the method is noted now
  now : (y : Method) → slice_get t.methods m ≡ Some y → (s : ℕ) → (y.selector == s) ≡ true → slice_get row s ≡ Some None → (v : Option ℕ) → Some m ≡ v
      → or_first v (find_selector t rest s) ≡ find_selector t all s
  now y e s f g v is =
      subst (λ z. or_first z (find_selector t rest s) ≡ find_selector t all s) is
      (ap (λ b. if b then Some m else find_selector t rest s) (sym (ap (λ z. has_selector z s) e ∙ f)) ∙ h s None g)

  with_method : (y : Method) → slice_get t.methods m ≡ Some y → (w : Option (Option ℕ)) → slice_get row y.selector ≡ w
      → Selects t all rest (put_at w y.selector m row)
  with_method y e w ew s v g = by' w ew g (eqb_tells y.selector s)
    where
      by' : (w : Option (Option ℕ)) → slice_get row y.selector ≡ w → slice_get (put_at w y.selector m row) s ≡ Some v
          → (((y.selector == s) ≡ true) × (y.selector ≡ s)) ⊎ (((y.selector == s) ≡ false) × ((y.selector ≡ s) → ⊥))
          → or_first v (find_selector t rest s) ≡ find_selector t all s
      by' None ew g (inr (f, ne)) = other (Some y) e s f v g
      by' None ew g (inl (f, eq)) = absurd (none-some v (sym ew ∙ (ap (slice_get row) eq ∙ g)))
      by' (Some (Some n)) ew g (inr (f, ne)) = other (Some y) e s f v g
      by' (Some (Some n)) ew g (inl (f, eq)) = noted n s v g (same_Some v (Some n) (sym g ∙ (ap (slice_get row) (sym eq) ∙ ew)))
      by' (Some None) ew g (inr (f, ne)) = other (Some y) e s f v (sym (get_other row y.selector s (Some m) (λ q. ne (sym q))) ∙ g)
      by' (Some None) ew g (inl (f, eq)) =
          now y e s f (ap (slice_get row) (sym eq) ∙ ew) v
          (same_Some (Some m) v (sym (get_set row y.selector (Some m) (slice_get_within row y.selector None ew)) ∙ (ap (slice_get (slice_set row y.selector (Some m))) eq ∙ g)))

  pub select_more : Selects t all rest (methods_at m (slice_get t.methods m) row)
  select_more = by' (slice_get t.methods m) refl
    where
      by' : (o : Option Method) → slice_get t.methods m ≡ o → Selects t all rest (methods_at m o row)
      by' None e s v g = other None e s refl v g
      by' (Some y) e s v g = with_method y e (slice_get row y.selector) refl s v g

-- one method after the other
pub select_step : (t : Tables) (all : List ℕ) (i : ℕ) (row : List (Option ℕ)) → i < length all → Selects t all (drop i all) row
    → Selects t all (drop (i + 1) all) (methods_at (get_or all i 0) (slice_get t.methods (get_or all i 0)) row)
select_step t all i row lt h =
    let one : suc i ≡ i + 1 = omega arith in
    select_more t all (drop (i + 1) all) (get_or all i 0) row
    (subst (λ z. Selects t all z row) (drop-cons all i 0 lt ∙ ap (λ n. get_or all i 0 ∷ drop n all) one) h)

drop_end : {A : Type 0} (n : ℕ) (xs : List A) → length xs ≤ n → drop n xs ≡ []
drop_end zero [] h = refl
drop_end zero (x ∷ xs) h = absurd (omega (arith, h))
drop_end (suc n) [] h = refl
drop_end (suc n) (x ∷ xs) h = drop_end n xs (omega (arith, h))

-- when no method is left
pub select_last : (t : Tables) (all : List ℕ) (i : ℕ) (row : List (Option ℕ)) → length all ≤ i → Selects t all (drop i all) row
    → (s : ℕ) (m : Option ℕ) → slice_get row s ≡ Some m → m ≡ find_selector t all s
select_last t all i row le h s m e = by' m (subst (λ z. Selects t all z row) (drop_end i all le) h s m e)
  where
    by' : (m : Option ℕ) → or_first m None ≡ find_selector t all s → m ≡ find_selector t all s
    by' None q = q
    by' (Some m) q = q

-- ---- rows of classes

rows_more : (t : Tables) (rows : List ClassRow) (row : ClassRow) → IsRow t (length rows) row → AreRows t rows → AreRows t (rows ++ row ∷ [])
rows_more t rows row is h d r e = by' (get_either rows row r d e)
  where
    by' : (slice_get rows d ≡ Some r) ⊎ ((d ≡ length rows) × (row ≡ r)) → IsRow t d r
    by' (inl q) = h d r q
    by' (inr (dl, q)) = subst (λ z. IsRow t z r) (sym dl) (subst (IsRow t (length rows)) q is)

pub rows_grow : (t : Tables) (rows new : List ClassRow) (row : ClassRow) (n : ℕ) → new ≡ rows ++ row ∷ [] → IsRow t n row → (length rows ≡ n) × AreRows t rows
    → (length new ≡ n + 1) × AreRows t new
rows_grow t rows new row n e is (l, h) =
    subst (λ z. (length z ≡ n + 1) × AreRows t z) (sym e)
    (let m = length-append rows (row ∷ []) in omega (arith, l, m), rows_more t rows row (subst (λ z. IsRow t z row) (sym l) is) h)

-- ---- cells

pub cell_put : (rows : List (List ℕ)) (d k : ℕ) (row spare : List ℕ) → d < length rows → slice_get rows d ≡ Some row
    → KeepsCells rows (slice_set (slice_set rows d spare) d (row ++ k ∷ [])) d k
cell_put rows d k row spare lt e = record {
  same = length-set (slice_set rows d spare) d (row ++ k ∷ []) ∙ length-set rows d spare;
  put = λ l. subst (λ z. Has z k) (sym here) (has_last row k);
  kept = λ j n h. by' j n h (same_or_not j d);
}
  where
    here : row_at (slice_set (slice_set rows d spare) d (row ++ k ∷ [])) d ≡ row ++ k ∷ []
    here = let l = length-set rows d spare in ap row_in (get_set (slice_set rows d spare) d (row ++ k ∷ []) (omega (arith, l, lt)))

    by' : (j n : ℕ) → Has (row_at rows j) n → (j ≡ d) ⊎ ((j ≡ d) → ⊥) → Has (row_at (slice_set (slice_set rows d spare) d (row ++ k ∷ [])) j) n
    by' j n h (inl jd) = subst (λ z. Has (row_at (slice_set (slice_set rows d spare) d (row ++ k ∷ [])) z) n) (sym jd)
        (subst (λ z. Has z n) (sym here) (has_front row k n (subst (λ z. Has z n) (ap row_in (ap (slice_get rows) jd ∙ e)) h)))
    by' j n h (inr ne) = subst (λ z. Has z n)
        (sym (ap row_in (get_other (slice_set rows d spare) d j (row ++ k ∷ []) ne ∙ get_other rows d j spare ne))) h

pub cell_is_put : (rows : List (List ℕ)) (d place n k : ℕ) (old taken new spare : List ℕ) → place ≡ d → n ≡ length rows → place < n → old ≡ get_or rows place old
    → taken ≡ old → new ≡ taken ++ k ∷ [] → KeepsCells rows (slice_set (slice_set rows place spare) place new) d k
cell_is_put rows d place n k old taken new spare e en lt is et e2 =
    subst (λ z. KeepsCells rows (slice_set (slice_set rows place spare) place z) d k) (sym (e2 ∙ ap (λ z. z ++ k ∷ []) et))
    (subst (λ z. KeepsCells rows (slice_set (slice_set rows place spare) place (old ++ k ∷ [])) z k) e
    (cell_put rows place k old spare (omega (arith, lt, en)) (slice_get_read rows n place old en lt is)))

pub cell_nowhere : (rows : List (List ℕ)) (d k : ℕ) → length rows ≤ d → KeepsCells rows rows d k
cell_nowhere rows d k le = record { same = refl; put = λ l. absurd (omega (arith, l, le)); kept = λ e j h. h }

-- where a cell is no object of these classes, the rows may stay
pub sorts_nothing : (h : Heap) (rows : List (List ℕ)) (k : ℕ) → class_in (slice_get h.cells k) ≡ None → Sorts h rows rows k
sorts_nothing h rows k e = record { same = refl; put = λ d q l. absurd (none-some d (sym e ∙ q)); kept = λ d j g. g }

pub sorts_put : (h : Heap) (rows new : List (List ℕ)) (d k : ℕ) → class_in (slice_get h.cells k) ≡ Some d → KeepsCells rows new d k → Sorts h rows new k
sorts_put h rows new d k e q = record {
  same = q.same;
  put = λ c f l. let same = same_Some d c (sym e ∙ f) in subst (λ z. Has (row_at new z) k) same (q.put (subst (λ z. z < length rows) (sym same) l));
  kept = q.kept;
}

-- the cells so far
abbrev pub SortedBelow : Heap → (count n : ℕ) → List (List ℕ) → Type 0
SortedBelow h count n rows =
    (length rows ≡ count) × ((k d : ℕ) → k < n → class_in (slice_get h.cells k) ≡ Some d → d < count → Has (row_at rows d) k)

pub sorted_more : (h : Heap) (count n : ℕ) (rows new : List (List ℕ)) → SortedBelow h count n rows → Sorts h rows new n → SortedBelow h count (n + 1) new
sorted_more h count n rows new (l, s) q = (q.same ∙ l, λ k d lt e c. by' k d lt e c (same_or_not k n))
  where
    by' : (k d : ℕ) → k < n + 1 → class_in (slice_get h.cells k) ≡ Some d → d < count → (k ≡ n) ⊎ ((k ≡ n) → ⊥) → Has (row_at new d) k
    by' k d lt e c (inl kn) =
        subst (λ z. Has (row_at new d) z) (sym kn) (q.put d (subst (λ z. class_in (slice_get h.cells z) ≡ Some d) kn e) (omega (arith, c, l)))
    by' k d lt e c (inr ne) = q.kept d k (s k d (omega (arith, lt, ne)) e c)

-- a cell that has an object is there
pub cell_within : (h : Heap) (k d : ℕ) → class_in (slice_get h.cells k) ≡ Some d → k < length h.cells
cell_within h k d e = by' (slice_get h.cells k) refl e
  where
    by' : (o : Option Cell) → slice_get h.cells k ≡ o → class_in o ≡ Some d → k < length h.cells
    by' None g q = absurd (none-some d q)
    by' (Some c) g q = slice_get_within h.cells k c g

pub sorted_all : (h : Heap) (count n : ℕ) (rows new : List (List ℕ)) → new ≡ rows → length h.cells ≤ n → SortedBelow h count n rows
    → (k d : ℕ) → class_in (slice_get h.cells k) ≡ Some d → d < count → Has (row_at new d) k
sorted_all h count n rows new e le (l, s) k d q c =
    subst (λ z. Has (row_at z d) k) (sym e) (s k d (let w = cell_within h k d q in omega (arith, w, le)) q c)
