-- The columns begin with the values of the heap.
use Rattle.std.proofs.Common.{◌≡◌, ◌⊎◌, refl, sym, ap, subst, ◌∙◌, arith, ℕ, zero, suc, ◌<◌, ◌==◌, true, false, List, [], ◌∷◌}
use Rattle.std.proofs.Common.{length, Option, Some, None, slice_get, slice_set}
use Rattle.std.proofs.lemmas.Option.{same_Some, none-some, slice_get_within}
use Rattle.std.proofs.lemmas.Bool.Decides.{eqb_tells}
use mathlib.Core.Logic.{inl, inr}
use Rattle.vg_codes.specs.Codes.{Codes}
use Rattle.vg_core.specs.declared.heap.Heap.{Heap}
use Rattle.vg_core.specs.declared.program.Tables.{Tables}
use Rattle.vg_core.specs.declared.value.CoreValue.{CoreValue}
use Rattle.vg_core.specs.Heap.{Place, value_at}
use Rattle.vg_coded.specs.Numbers.{coded}
use Rattle.vg_firm.specs.declared.step.Home.TheVariants.{Ram}
use Rattle.vg_firm.specs.Meaning.{column_of, entry, set_entry}
use Rattle.vg_packing.specs.Layout.{Layout, Spot, spot}
use Rattle.vg_packing.specs.Packs.{IsKeptPlace}
use Rattle.vg_pack_values.specs.Columns.{with_number}
use Rattle.vg_pack_values.specs.Places.{with_value, with_place, with_places}
use Rattle.vg_plan_laws.proofs.Fields.{get_set, get_other}

-- ---- one entry is set

pub set_here : (cols : List (List ℕ)) (c i v old : ℕ) → entry cols c i ≡ Some old → entry (set_entry cols c i v) c i ≡ Some v
set_here cols c i v old e =
    ap (λ z. slice_get (column_of z) i) (get_set cols c (slice_set (column_of (slice_get cols c)) i v) (column_there cols c i old e))
    ∙ get_set (column_of (slice_get cols c)) i v (slice_get_within (column_of (slice_get cols c)) i old e)
  where
    column_there : (cols : List (List ℕ)) (c i old : ℕ) → slice_get (column_of (slice_get cols c)) i ≡ Some old → c < length cols
    column_there [] c i old e = absurd (none-some old e)
    column_there (x ∷ xs) zero i old e = omega arith
    column_there (x ∷ xs) (suc c) i old e = let h = column_there xs c i old e in omega (arith, h)

-- another entry of the same column, or one of another column, stays
pub set_row : (cols : List (List ℕ)) (c i j v : ℕ) → ((i ≡ j) → ⊥) → entry (set_entry cols c i v) c j ≡ entry cols c j
set_row [] c i j v ne = refl
set_row (x ∷ xs) zero i j v ne = get_other x i j v ne
set_row (x ∷ xs) (suc c) i j v ne = set_row xs c i j v ne

pub set_column : (cols : List (List ℕ)) (c d i j v : ℕ) → ((c ≡ d) → ⊥) → entry (set_entry cols c i v) d j ≡ entry cols d j
set_column cols c d i j v ne = ap (λ z. slice_get (column_of z) j) (get_other cols c d (slice_set (column_of (slice_get cols c)) i v) ne)

-- two spots in RAM are one, or differ
one_spot : (a b : Spot) → a.home ≡ Ram → b.home ≡ Ram → a.column ≡ b.column → a.index ≡ b.index → a ≡ b
one_spot a b ha hb c i =
    ap (λ z. record { home = z; column = a.column; index = a.index }) (ha ∙ sym hb)
    ∙ (ap (λ z. record { home = b.home; column = z; index = a.index }) c ∙ ap (λ z. record { home = b.home; column = b.column; index = z }) i)

abbrev pub AllKept : Layout → List Place → Type 0
AllKept l [] = Unit {0}
AllKept l (x ∷ xs) = IsKeptPlace l x × AllKept l xs

abbrev pub IsIn : Place → List Place → Type 0
IsIn x [] = ⊥
IsIn x (y ∷ ys) = (y ≡ x) ⊎ IsIn x ys

module _ (p : Tables) (h : Heap) (l : Layout) (k : Codes)
    (homes : (x : Place) (o : Spot) → spot p l x ≡ Some o → o.home ≡ Ram)
    (apart : (x y : Place) (v u : CoreValue) (o : Spot) → IsKeptPlace l x → IsKeptPlace l y → value_at p h x ≡ Some v → value_at p h y ≡ Some u
    → spot p l x ≡ Some o → spot p l y ≡ Some o → y ≡ x) where
  -- there is an entry for each kept place that has a spot and a value
  abbrev pub HasRoom : List (List ℕ) → Type 0
  HasRoom cols =
      (x : Place) (o : Spot) (v : CoreValue) → IsKeptPlace l x → spot p l x ≡ Some o → value_at p h x ≡ Some v
      → (old : ℕ) × (entry cols o.column o.index ≡ Some old)

  -- it is the number of the value
  abbrev pub HoldsIt : List (List ℕ) → Place → Type 0
  HoldsIt cols x = (o : Spot) (v : CoreValue) → spot p l x ≡ Some o → value_at p h x ≡ Some v → entry cols o.column o.index ≡ Some (coded l.numbering k v)

  abbrev put : Place → List (List ℕ) → List (List ℕ)
  put x cols = with_place p h l k x cols

  -- what is put in where a place has a spot and a value
  put_is : (y : Place) (cols : List (List ℕ)) (o : Spot) (u : CoreValue) → spot p l y ≡ Some o → value_at p h y ≡ Some u
      → put y cols ≡ set_entry cols o.column o.index (coded l.numbering k u)
  put_is y cols o u es ev =
      ap (λ z. with_value p h l k z (value_at p h y) cols) es
      ∙ (ap (λ z. with_value p h l k (Some o) z cols) ev
      ∙ ap (λ z. with_number z o.column o.index (coded l.numbering k u) cols) (homes y o es))

  data Puts (y : Place) (cols : List (List ℕ)) : Type 0 where
    nothing : put y cols ≡ cols → Puts y cols
    something : (o : Spot) (u : CoreValue) → spot p l y ≡ Some o → value_at p h y ≡ Some u
        → put y cols ≡ set_entry cols o.column o.index (coded l.numbering k u) → Puts y cols

  puts : (y : Place) (cols : List (List ℕ)) → Puts y cols
  puts y cols = by (spot p l y) (value_at p h y) refl refl
    where
      by : (a : Option Spot) (b : Option CoreValue) → spot p l y ≡ a → value_at p h y ≡ b → Puts y cols
      by None b ea eb = nothing (ap (λ z. with_value p h l k z (value_at p h y) cols) ea)
      by (Some o) None ea eb = nothing (ap (λ z. with_value p h l k z (value_at p h y) cols) ea ∙ ap (λ z. with_value p h l k (Some o) z cols) eb)
      by (Some o) (Some u) ea eb = something o u ea eb (put_is y cols o u ea eb)

  -- an entry at a spot of another, behind a store: it is the same spot, or the entry stays
  at_other : (cols : List (List ℕ)) (o q : Spot) (n : ℕ) → o.home ≡ Ram → q.home ≡ Ram
      → (q ≡ o) ⊎ (entry (set_entry cols q.column q.index n) o.column o.index ≡ entry cols o.column o.index)
  at_other cols o q n ho hq = by (eqb_tells q.column o.column) (eqb_tells q.index o.index)
    where
      by : (((q.column == o.column) ≡ true) × (q.column ≡ o.column)) ⊎ (((q.column == o.column) ≡ false) × ((q.column ≡ o.column) → ⊥))
          → (((q.index == o.index) ≡ true) × (q.index ≡ o.index)) ⊎ (((q.index == o.index) ≡ false) × ((q.index ≡ o.index) → ⊥))
          → (q ≡ o) ⊎ (entry (set_entry cols q.column q.index n) o.column o.index ≡ entry cols o.column o.index)
      by (inr (b, ne)) w = inr (set_column cols q.column o.column q.index o.index n ne)
      by (inl (b, e)) (inr (d, ne)) =
          inr (subst (λ z. entry (set_entry cols q.column q.index n) z o.index ≡ entry cols z o.index) e (set_row cols q.column q.index o.index n ne))
      by (inl (b, e)) (inl (d, f)) = inl (one_spot q o hq ho e f)

  room_stays : (y : Place) (cols : List (List ℕ)) → HasRoom cols → HasRoom (put y cols)
  room_stays y cols r x o v kx es ev = by (puts y cols) (r x o v kx es ev)
    where
      by : Puts y cols → (old : ℕ) × (entry cols o.column o.index ≡ Some old) → (old : ℕ) × (entry (put y cols) o.column o.index ≡ Some old)
      by (nothing e) (old, q) = (old, ap (λ z. entry z o.column o.index) e ∙ q)
      by (something w u ew eu e) (old, q) = at (at_other cols o w (coded l.numbering k u) (homes x o es) (homes y w ew))
        where
          at : (w ≡ o) ⊎ (entry (set_entry cols w.column w.index (coded l.numbering k u)) o.column o.index ≡ entry cols o.column o.index)
              → (old : ℕ) × (entry (put y cols) o.column o.index ≡ Some old)
          at (inr s) = (old, ap (λ z. entry z o.column o.index) e ∙ (s ∙ q))
          at (inl s) = (
            coded l.numbering k u,
            ap (λ z. entry z o.column o.index) e
                ∙ (ap (λ z. entry (set_entry cols z.column z.index (coded l.numbering k u)) o.column o.index) s
                ∙ set_here cols o.column o.index (coded l.numbering k u) old q),
          )

  stays : (x y : Place) (cols : List (List ℕ)) → HasRoom cols → IsKeptPlace l x → IsKeptPlace l y → HoldsIt cols x → HoldsIt (put y cols) x
  stays x y cols r kx ky held o v es ev = by (puts y cols) (r x o v kx es ev)
    where
      by : Puts y cols → (old : ℕ) × (entry cols o.column o.index ≡ Some old) → entry (put y cols) o.column o.index ≡ Some (coded l.numbering k v)
      by (nothing e) (old, q) = ap (λ z. entry z o.column o.index) e ∙ held o v es ev
      by (something w u ew eu e) (old, q) = at (at_other cols o w (coded l.numbering k u) (homes x o es) (homes y w ew))
        where
          at : (w ≡ o) ⊎ (entry (set_entry cols w.column w.index (coded l.numbering k u)) o.column o.index ≡ entry cols o.column o.index)
              → entry (put y cols) o.column o.index ≡ Some (coded l.numbering k v)
          at (inr s) = ap (λ z. entry z o.column o.index) e ∙ (s ∙ held o v es ev)
          at (inl s) =
              let yx : y ≡ x = apart x y v u o kx ky ev eu es (ew ∙ ap (λ z. Some z) s) in
              let uv : u ≡ v = same_Some u v (sym eu ∙ (ap (value_at p h) yx ∙ ev)) in
              ap (λ z. entry z o.column o.index) e
              ∙ (ap (λ z. entry (set_entry cols z.column z.index (coded l.numbering k u)) o.column o.index) s
              ∙ (set_here cols o.column o.index (coded l.numbering k u) old q ∙ ap (λ z. Some (coded l.numbering k z)) uv))

  made : (x : Place) (cols : List (List ℕ)) → HasRoom cols → IsKeptPlace l x → HoldsIt (put x cols) x
  made x cols r kx o v es ev =
      let room = r x o v kx es ev in
      ap (λ z. entry z o.column o.index) (put_is x cols o v es ev) ∙ set_here cols o.column o.index (coded l.numbering k v) room.0 room.1

  -- ---- places one behind another

  all_stay : (x : Place) (xs : List Place) (cols : List (List ℕ)) → HasRoom cols → IsKeptPlace l x → AllKept l xs → HoldsIt cols x
      → HoldsIt (with_places p h l k xs cols) x
  all_stay x [] cols r kx ks held = held
  all_stay x (y ∷ ys) cols r kx (ky, ks) held = all_stay x ys (put y cols) (room_stays y cols r) kx ks (stays x y cols r kx ky held)

  pub all_hold : (x : Place) (xs : List Place) (cols : List (List ℕ)) → HasRoom cols → AllKept l xs → IsIn x xs → HoldsIt (with_places p h l k xs cols) x
  all_hold x [] cols r ks i = absurd i
  all_hold x (y ∷ ys) cols r (ky, ks) (inl e) =
      subst (λ z. HoldsIt (with_places p h l k ys (put y cols)) z) e
      (all_stay y ys (put y cols) (room_stays y cols r) ky ks (made y cols r ky))
  all_hold x (y ∷ ys) cols r (ky, ks) (inr i) = all_hold x ys (put y cols) (room_stays y cols r) ks i
