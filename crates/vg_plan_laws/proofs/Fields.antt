-- Where the columns of fields stand.
use Rattle.std.proofs.Common.{◌≡◌, ◌⊎◌, refl, sym, ap, subst, ◌∙◌, arith, ℕ, zero, suc, ◌+◌, ◌<◌, ◌==◌, true, false, List, [], ◌∷◌, length, replicate}
use Rattle.std.proofs.Common.{Option, Some, None, slice_get, slice_set}
use Rattle.std.proofs.lemmas.Option.{same_Some, none-some}
use Rattle.std.proofs.lemmas.List.{length-set}
use Rattle.std.proofs.lemmas.Bool.Decides.{eqb_tells}
use mathlib.Core.Logic.{inl, inr}
use Rattle.vg_firm.specs.declared.step.Home.{Home}
use Rattle.vg_firm.specs.declared.step.Home.TheVariants.{Ram, Flash}
use Rattle.vg_live.specs.Sets.{flat}
use Rattle.vg_packing.specs.Layout as layout
use Rattle.vg_placement.specs.declared.column.Held.{Held}
use Rattle.vg_placement.specs.declared.column.Held.TheVariants.{Initial, Field as TheField, Elements as TheItems, Table as TheTable}
use Rattle.vg_placement.specs.declared.column.Column.{Column}
use Rattle.vg_placement.specs.Columns.{address_for, ram_behind, flash_behind}
use Rattle.vg_packed.specs.Apart.{held_where, held_in}
use Rattle.vg_pack_code.specs.declared.plan.ColumnPlace.{ColumnPlace}
use Rattle.vg_pack_code.specs.Plans.{column_of}
use Rattle.vg_plan_columns.specs.Fields.{field_noted, fields_from}

-- ---- one value of a list

pub get_set : {A : Type 0} (xs : List A) (i : ℕ) (x : A) → i < length xs → slice_get (slice_set xs i x) i ≡ Some x
get_set [] i x lt = absurd (omega (arith, lt))
get_set (z ∷ xs) zero x lt = refl
get_set (z ∷ xs) (suc i) x lt = get_set xs i x (omega (arith, lt))

pub get_other : {A : Type 0} (xs : List A) (i j : ℕ) (x : A) → ((i ≡ j) → ⊥) → slice_get (slice_set xs i x) j ≡ slice_get xs j
get_other [] i j x ne = refl
get_other (z ∷ xs) zero zero x ne = absurd (ne refl)
get_other (z ∷ xs) zero (suc j) x ne = refl
get_other (z ∷ xs) (suc i) zero x ne = refl
get_other (z ∷ xs) (suc i) (suc j) x ne = get_other xs i j x (λ q. ne (ap suc q))

set_out : {A : Type 0} (xs : List A) (i : ℕ) (x y : A) → slice_get (slice_set xs i x) i ≡ Some y → x ≡ y
set_out [] i x y e = absurd (none-some y e)
set_out (z ∷ xs) zero x y e = same_Some x y e
set_out (z ∷ xs) (suc i) x y e = set_out xs i x y e

flat_some : {A : Type 0} (o : Option (Option A)) (x : A) → flat o ≡ Some x → o ≡ Some (Some x)
flat_some None x e = absurd (none-some x e)
flat_some (Some o) x e = ap (λ z. Some z) e

-- ---- columns are counted in their homes

-- what stands behind a column stands behind one more of its home
pub behind : (h b : Home) (n ram flash k : ℕ) (w x : Held) (xs : List Held) → n ≡ address_for b (ram_behind h ram 1) (flash_behind h flash 1) + k
    → slice_get xs k ≡ Some x → (j : ℕ) × (n ≡ address_for b ram flash + j) × (slice_get (held_where b h w xs) j ≡ Some x)
behind Ram Ram n ram flash k w x xs q s = (suc k, omega (arith, q), s)
behind Ram Flash n ram flash k w x xs q s = (k, q, s)
behind Flash Ram n ram flash k w x xs q s = (k, q, s)
behind Flash Flash n ram flash k w x xs q s = (suc k, omega (arith, q), s)

pub in_front : (h : Home) (w : Held) (xs : List Held) → slice_get (held_where h h w xs) 0 ≡ Some w
in_front Ram w xs = refl
in_front Flash w xs = refl

pub from_none : (h : Home) → address_for h 0 0 ≡ 0
from_none Ram = refl
from_none Flash = refl

-- a column of a field that was noted among these, or was there before
abbrev Stood : (ram flash : ℕ) → List Column → List (Option ColumnPlace) → (f : ℕ) → ColumnPlace → Type 0
Stood ram flash cs rows f b =
    (flat (slice_get rows f) ≡ Some b)
    ⊎ ((k : ℕ) × (b.column ≡ address_for b.home ram flash + k) × (slice_get (held_in b.home cs) k ≡ Some (TheField f)))

stood : (cs : List Column) (ram flash : ℕ) (rows : List (Option ColumnPlace)) (f : ℕ) (b : ColumnPlace)
    → flat (slice_get (fields_from ram flash cs rows) f) ≡ Some b → Stood ram flash cs rows f b
stood [] ram flash rows f b e = inl e
stood (c ∷ cs) ram flash rows f b e =
    later (stood cs (ram_behind c.home ram 1) (flash_behind c.home flash 1) (field_noted c.what c.home (address_for c.home ram flash) rows) f b e)
  where
    at : ColumnPlace
    at = record { home = c.home; column = address_for c.home ram flash }

    here : (y : ℕ) → c.what ≡ TheField y → (((y == f) ≡ true) × (y ≡ f)) ⊎ (((y == f) ≡ false) × ((y ≡ f) → ⊥))
        → flat (slice_get (slice_set rows y (Some at)) f) ≡ Some b → Stood ram flash (c ∷ cs) rows f b
    here y q (inl (t, yf)) g =
        let s : slice_get (slice_set rows f (Some at)) f ≡ Some (Some b) = ap (λ z. slice_get (slice_set rows z (Some at)) f) (sym yf) ∙ flat_some _ b g in
        let w : at ≡ b = same_Some at b (set_out rows f (Some at) (Some b) s) in
        inr (subst (λ z. (k : ℕ) × (z.column ≡ address_for z.home ram flash + k) × (slice_get (held_in z.home (c ∷ cs)) k ≡ Some (TheField f))) w (
          0,
          omega arith,
          in_front c.home c.what (held_in c.home cs) ∙ ap (λ z. Some z) (q ∙ ap TheField yf),
        ))
    here y q (inr (t, ne)) g = inl (ap flat (sym (get_other rows y f (Some at) ne)) ∙ g)

    now : (w : Held) → c.what ≡ w → flat (slice_get (field_noted w c.home (address_for c.home ram flash) rows) f) ≡ Some b → Stood ram flash (c ∷ cs) rows f b
    now Initial q g = inl g
    now (TheItems t) q g = inl g
    now (TheTable t) q g = inl g
    now (TheField y) q g = here y q (eqb_tells y f) g

    later : Stood (ram_behind c.home ram 1) (flash_behind c.home flash 1) cs (field_noted c.what c.home (address_for c.home ram flash) rows) f b
        → Stood ram flash (c ∷ cs) rows f b
    later (inl g) = now c.what refl g
    later (inr (k, q, s)) = inr (behind c.home b.home b.column ram flash k c.what (TheField f) (held_in b.home cs) q s)

-- ---- all columns of fields are found

set_length : (rows : List (Option ColumnPlace)) (w : Held) (h : Home) (k : ℕ) → length (field_noted w h k rows) ≡ length rows
set_length rows Initial h k = refl
set_length rows (TheItems t) h k = refl
set_length rows (TheTable t) h k = refl
set_length rows (TheField f) h k = length-set rows f _

abbrev Has : List (Option ColumnPlace) → (f : ℕ) → Type 0
Has rows f = (b : ColumnPlace) × (flat (slice_get rows f) ≡ Some b)

keeps_one : (rows : List (Option ColumnPlace)) (w : Held) (h : Home) (k f : ℕ) → f < length rows → Has rows f → Has (field_noted w h k rows) f
keeps_one rows Initial h k f lt x = x
keeps_one rows (TheItems t) h k f lt x = x
keeps_one rows (TheTable t) h k f lt x = x
keeps_one rows (TheField y) h k f lt (b, e) = by (eqb_tells y f)
  where
    by : (((y == f) ≡ true) × (y ≡ f)) ⊎ (((y == f) ≡ false) × ((y ≡ f) → ⊥)) → Has (field_noted (TheField y) h k rows) f
    by (inl (t, q)) = (
      record { home = h; column = k },
      ap flat (ap (λ z. slice_get (slice_set rows z (Some (record { home = h; column = k }))) f) q
          ∙ get_set rows f (Some (record { home = h; column = k })) lt),
    )
    by (inr (t, ne)) = (b, ap flat (get_other rows y f (Some (record { home = h; column = k })) ne) ∙ e)

keeps : (cs : List Column) (ram flash : ℕ) (rows : List (Option ColumnPlace)) (f : ℕ) → f < length rows → Has rows f → Has (fields_from ram flash cs rows) f
keeps [] ram flash rows f lt x = x
keeps (c ∷ cs) ram flash rows f lt x =
    keeps cs (ram_behind c.home ram 1) (flash_behind c.home flash 1) (field_noted c.what c.home (address_for c.home ram flash) rows) f
    (let l = set_length rows c.what c.home (address_for c.home ram flash) in omega (arith, lt, l))
    (keeps_one rows c.what c.home (address_for c.home ram flash) f lt x)

noted_here : (rows : List (Option ColumnPlace)) (w : Held) (h : Home) (k f : ℕ) → f < length rows → w ≡ TheField f → Has (field_noted w h k rows) f
noted_here rows w h k f lt q =
    subst (λ z. Has (field_noted z h k rows) f) (sym q)
    (record { home = h; column = k }, ap flat (get_set rows f (Some (record { home = h; column = k })) lt))

pub found : (cs : List Column) (ram flash : ℕ) (rows : List (Option ColumnPlace)) (f i : ℕ) (a : Column) → f < length rows → slice_get cs i ≡ Some a
    → a.what ≡ TheField f → Has (fields_from ram flash cs rows) f
found [] ram flash rows f i a lt e q = absurd (none-some a e)
found (c ∷ cs) ram flash rows f zero a lt e q =
    keeps cs (ram_behind c.home ram 1) (flash_behind c.home flash 1) (field_noted c.what c.home (address_for c.home ram flash) rows) f
    (let l = set_length rows c.what c.home (address_for c.home ram flash) in omega (arith, lt, l))
    (noted_here rows c.what c.home (address_for c.home ram flash) f lt (ap (λ z. z.what) (same_Some c a e) ∙ q))
found (c ∷ cs) ram flash rows f (suc i) a lt e q =
    found cs (ram_behind c.home ram 1) (flash_behind c.home flash 1) (field_noted c.what c.home (address_for c.home ram flash) rows) f i a
    (let l = set_length rows c.what c.home (address_for c.home ram flash) in omega (arith, lt, l)) e q

-- ---- what a plan says of fields

column_is : (o : Option ColumnPlace) (c : layout.Column) → column_of o ≡ Some c → (b : ColumnPlace) × (o ≡ Some b) × (record { home = b.home; column = b.column } ≡ c)
column_is None c e = absurd (none-some c e)
column_is (Some b) c e = (b, refl, same_Some _ c e)

none_there : (n f : ℕ) (b : ColumnPlace) → flat (slice_get (replicate n None) f) ≡ Some b → ⊥
none_there zero f b e = none-some b e
none_there (suc n) zero b e = none-some b e
none_there (suc n) (suc f) b e = none_there n f b e

pub fields_stand : (cs : List Column) (n f : ℕ) (c : layout.Column) → column_of (flat (slice_get (fields_from 0 0 cs (replicate n None)) f)) ≡ Some c
    → slice_get (held_in c.home cs) c.column ≡ Some (TheField f)
fields_stand cs n f c e = by (column_is _ c e)
  where
    at : (b : ColumnPlace) → Stood 0 0 cs (replicate n None) f b → slice_get (held_in b.home cs) b.column ≡ Some (TheField f)
    at b (inl g) = absurd (none_there n f b g)
    at b (inr (k, q, s)) = ap (slice_get (held_in b.home cs)) (let z = from_none b.home in omega (arith, q, z)) ∙ s

    by : (b : ColumnPlace) × (flat (slice_get (fields_from 0 0 cs (replicate n None)) f) ≡ Some b) × (record { home = b.home; column = b.column } ≡ c)
        → slice_get (held_in c.home cs) c.column ≡ Some (TheField f)
    by (b, g, w) = subst (λ z. slice_get (held_in z.home cs) z.column ≡ Some (TheField f)) w (at b (stood cs 0 0 (replicate n None) f b g))
