-- What stands in columns into which values were put, under all code numbers at once.
use Rattle.std.proofs.Common.{◌≡◌, ◌⊎◌, refl, sym, subst, ◌∙◌, ℕ, zero, suc, ◌==◌, true, false, List, [], ◌∷◌, Option, Some, None, slice_get, slice_set}
use Rattle.std.proofs.lemmas.Option.{none-some}
use Rattle.std.proofs.lemmas.Bool.Decides.{eqb_tells}
use mathlib.Core.Logic.{inl, inr}
use Rattle.vg_codes.specs.Codes.{Codes}
use Rattle.vg_core.specs.declared.heap.Heap.{Heap}
use Rattle.vg_core.specs.declared.program.Tables.{Tables}
use Rattle.vg_core.specs.declared.value.CoreValue.{CoreValue}
use Rattle.vg_core.specs.Heap.{Place, value_at}
use Rattle.vg_coded.specs.Numbers.{coded}
use Rattle.vg_firm.specs.declared.step.Home.TheVariants.{Ram}
use Rattle.vg_firm.specs.Meaning.{entry, set_entry}
use Rattle.vg_packing.specs.Layout.{Layout, Spot, spot}
use Rattle.vg_packing.specs.Packs.{IsKeptPlace}
use Rattle.vg_pack_values.specs.Columns.{with_number}
use Rattle.vg_pack_values.specs.Places.{with_value, with_place, with_places}
use Rattle.vg_plan_laws.proofs.Values.{set_here, set_row, set_column, AllKept}

-- an entry that is not there is not set
set_nowhere : (cols : List (List ℕ)) (c i v : ℕ) → entry cols c i ≡ None → entry (set_entry cols c i v) c i ≡ None
set_nowhere [] c i v e = e
set_nowhere (x ∷ xs) zero i v e = in_row x i e
  where
    in_row : (ys : List ℕ) (i : ℕ) → slice_get ys i ≡ None → slice_get (slice_set ys i v) i ≡ None
    in_row [] i e = refl
    in_row (y ∷ ys) zero e = absurd (none-some y (sym e))
    in_row (y ∷ ys) (suc i) e = in_row ys i e
set_nowhere (x ∷ xs) (suc c) i v e = set_nowhere xs c i v e

-- Columns by the code numbers of procedures.
abbrev pub Family : Type 0
Family = Codes → List (List ℕ)

module _ (p : Tables) (h : Heap) (l : Layout) (IsRight : (column : ℕ) → CoreValue → Type 0) where
  -- An entry is not there, or 0, or the number of a value that is right for its column.
  pub data Stands (cols : Family) (c i : ℕ) : Type 0 where
    nowhere : ((k : Codes) → entry (cols k) c i ≡ None) → Stands cols c i
    nought : ((k : Codes) → entry (cols k) c i ≡ Some 0) → Stands cols c i
    valued : (v : CoreValue) → IsRight c v → ((k : Codes) → entry (cols k) c i ≡ Some (coded l.numbering k v)) → Stands cols c i

  pub as_before : (cols others : Family) (c i : ℕ) → ((k : Codes) → entry (others k) c i ≡ entry (cols k) c i) → Stands cols c i → Stands others c i
  as_before cols others c i e (nowhere f) = nowhere (λ k. e k ∙ f k)
  as_before cols others c i e (nought f) = nought (λ k. e k ∙ f k)
  as_before cols others c i e (valued v r f) = valued v r (λ k. e k ∙ f k)

  abbrev put : Spot → CoreValue → Family → Family
  put o v cols = λ k. set_entry (cols k) o.column o.index (coded l.numbering k v)

  put_here : (o : Spot) (v : CoreValue) (cols : Family) → IsRight o.column v → Stands cols o.column o.index → Stands (put o v cols) o.column o.index
  put_here o v cols r (nowhere f) = nowhere (λ k. set_nowhere (cols k) o.column o.index (coded l.numbering k v) (f k))
  put_here o v cols r (nought f) = valued v r (λ k. set_here (cols k) o.column o.index (coded l.numbering k v) 0 (f k))
  put_here o v cols r (valued u ru f) =
      valued v r (λ k. set_here (cols k) o.column o.index (coded l.numbering k v) (coded l.numbering k u) (f k))

  stands_put : (o : Spot) (v : CoreValue) (cols : Family) (c i : ℕ) → IsRight o.column v → Stands cols c i → Stands (put o v cols) c i
  stands_put o v cols c i r st = by (eqb_tells o.column c) (eqb_tells o.index i)
    where
      by : (((o.column == c) ≡ true) × (o.column ≡ c)) ⊎ (((o.column == c) ≡ false) × ((o.column ≡ c) → ⊥))
          → (((o.index == i) ≡ true) × (o.index ≡ i)) ⊎ (((o.index == i) ≡ false) × ((o.index ≡ i) → ⊥)) → Stands (put o v cols) c i
      by (inr (b, ne)) w = as_before cols (put o v cols) c i (λ k. set_column (cols k) o.column c o.index i (coded l.numbering k v) ne) st
      by (inl (b, e)) (inr (d, ne)) =
          subst (λ z. Stands (put o v cols) z i) e
          (as_before cols (put o v cols) o.column i (λ k. set_row (cols k) o.column o.index i (coded l.numbering k v) ne) (subst (λ z. Stands cols z i) (sym e) st))
      by (inl (b, e)) (inl (d, g)) =
          subst (λ z. Stands (put o v cols) z i) e
          (subst (λ z. Stands (put o v cols) o.column z) g
          (put_here o v cols r (subst (λ z. Stands cols o.column z) (sym g) (subst (λ z. Stands cols z i) (sym e) st))))

  -- What stands in a kept place is right for its column, which is in RAM.
  abbrev pub ArePlacesRight : Type 0
  ArePlacesRight =
      (x : Place) (o : Spot) (v : CoreValue) → IsKeptPlace l x → spot p l x ≡ Some o → value_at p h x ≡ Some v → (o.home ≡ Ram) × IsRight o.column v

  module _ (right : ArePlacesRight) where
    stands_place : (x : Place) (cols : Family) (c i : ℕ) → IsKeptPlace l x → Stands cols c i → Stands (λ k. with_place p h l k x (cols k)) c i
    stands_place x cols c i kx st = by (spot p l x) (value_at p h x) refl refl
      where
        by : (a : Option Spot) (b : Option CoreValue) → spot p l x ≡ a → value_at p h x ≡ b → Stands (λ k. with_value p h l k a b (cols k)) c i
        by None b ea eb = st
        by (Some o) None ea eb = st
        by (Some o) (Some v) ea eb =
            let r = right x o v kx ea eb in
            subst (λ z. Stands (λ k. with_number z o.column o.index (coded l.numbering k v) (cols k)) c i) (sym r.0) (stands_put o v cols c i r.1 st)

    pub stands_places : (xs : List Place) (cols : Family) → AllKept l xs → ((c i : ℕ) → Stands cols c i) → (c i : ℕ)
        → Stands (λ k. with_places p h l k xs (cols k)) c i
    stands_places [] cols kept st = st
    stands_places (x ∷ xs) cols (kx, kept) st =
        stands_places xs (λ k. with_place p h l k x (cols k)) kept (λ c i. stands_place x cols c i kx (st c i))
