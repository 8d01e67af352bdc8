-- Where the elements of arrays stand, and their tables.
use Rattle.std.proofs.Common.{◌≡◌, ◌⊎◌, refl, sym, ap, subst, ◌∙◌, arith, ℕ, suc, ◌+◌, ◌<◌, ◌==◌, true, false, List, [], ◌∷◌, ◌++◌, length}
use Rattle.std.proofs.Common.{Some, slice_get, slice_set}
use Rattle.std.proofs.lemmas.List.{length-set}
use Rattle.std.proofs.lemmas.Bool.Decides.{eqb_tells}
use mathlib.Core.Logic.{inl, inr}
use Rattle.vg_firm.specs.declared.step.ArrayPlace.{ArrayPlace}
use Rattle.vg_firm.specs.declared.step.Elements.{Elements}
use Rattle.vg_firm.specs.declared.step.Home.{Home}
use Rattle.vg_firm.specs.Meaning.{arrays_of}
use Rattle.vg_placement.specs.declared.column.Held.{Held}
use Rattle.vg_placement.specs.declared.column.Held.TheVariants.{Initial, Field as TheField, Elements as TheItems, Table as TheTable}
use Rattle.vg_placement.specs.declared.column.Column.{Column}
use Rattle.vg_placement.specs.Columns.{address_for, ram_behind, flash_behind}
use Rattle.vg_packed.specs.Apart.{held_in}
use Rattle.vg_pack_code.specs.Plans.{items_in}
use Rattle.vg_plan_columns.specs.Arrays.{table_in, tables_of}
use Rattle.vg_plan_columns.specs.Items.{stood, tabled, tables_behind, held_noted, item_noted, items_from}
use Rattle.vg_plan_laws.proofs.Fields.{get_set, get_other, behind, in_front}

-- a column among these holds something, at this address
pub data At (w : Held) (address : ℕ) : List Column → Type 0 where
  here : {c : Column} {cs : List Column} → c.what ≡ w → c.at ≡ address → At w address (c ∷ cs)
  there : {c : Column} {cs : List Column} → At w address cs → At w address (c ∷ cs)

-- the elements of a type are noted by two columns: that which holds them, and their table
abbrev pub entry : (rows : List Elements) → (t : ℕ) → Elements
entry rows t = items_in (slice_get rows t)

pub noted_length : (rows : List Elements) (w : Held) (h : Home) (k at n : ℕ) → length (held_noted w h k at n rows) ≡ length rows
noted_length rows Initial h k at n = refl
noted_length rows (TheField f) h k at n = refl
noted_length rows (TheItems t) h k at n = length-set rows t _
noted_length rows (TheTable t) h k at n = length-set rows t _

-- what is set for one type stays with the others
entry_set : (rows : List Elements) (t : ℕ) (e : Elements) → t < length rows → entry (slice_set rows t e) t ≡ e
entry_set rows t e lt = ap items_in (get_set rows t e lt)

entry_other : (rows : List Elements) (t u : ℕ) (e : Elements) → ((t ≡ u) → ⊥) → entry (slice_set rows t e) u ≡ entry rows u
entry_other rows t u e ne = ap items_in (get_other rows t u e ne)

-- ---- widths

width_one : (rows : List Elements) (w : Held) (h : Home) (k at n t : ℕ) → t < length rows → (entry (held_noted w h k at n rows) t).width ≡ (entry rows t).width
width_one rows Initial h k at n t lt = refl
width_one rows (TheField f) h k at n t lt = refl
width_one rows (TheItems u) h k at n t lt = by (eqb_tells u t)
  where
    by : (((u == t) ≡ true) × (u ≡ t)) ⊎ (((u == t) ≡ false) × ((u ≡ t) → ⊥)) → (entry (stood u h k at rows) t).width ≡ (entry rows t).width
    by (inl (b, q)) = subst (λ z. (entry (stood z h k at rows) t).width ≡ (entry rows t).width) (sym q) (ap (λ z. z.width) (entry_set rows t _ lt))
    by (inr (b, ne)) = ap (λ z. z.width) (entry_other rows u t _ ne)
width_one rows (TheTable u) h k at n t lt = by (eqb_tells u t)
  where
    by : (((u == t) ≡ true) × (u ≡ t)) ⊎ (((u == t) ≡ false) × ((u ≡ t) → ⊥)) → (entry (tabled u n rows) t).width ≡ (entry rows t).width
    by (inl (b, q)) = subst (λ z. (entry (tabled z n rows) t).width ≡ (entry rows t).width) (sym q) (ap (λ z. z.width) (entry_set rows t _ lt))
    by (inr (b, ne)) = ap (λ z. z.width) (entry_other rows u t _ ne)

pub widths_stay : (cs : List Column) (ram flash n : ℕ) (rows : List Elements) (t : ℕ) → t < length rows
    → (entry (items_from ram flash n cs rows) t).width ≡ (entry rows t).width
widths_stay [] ram flash n rows t lt = refl
widths_stay (c ∷ cs) ram flash n rows t lt =
    widths_stay cs (ram_behind c.home ram 1) (flash_behind c.home flash 1) (tables_behind c.what n) (item_noted c (address_for c.home ram flash) n rows) t
    (let l = noted_length rows c.what c.home (address_for c.home ram flash) c.at n in omega (arith, lt, l))
    ∙ width_one rows c.what c.home (address_for c.home ram flash) c.at n t lt

pub items_length : (cs : List Column) (ram flash n : ℕ) (rows : List Elements) → length (items_from ram flash n cs rows) ≡ length rows
items_length [] ram flash n rows = refl
items_length (c ∷ cs) ram flash n rows =
    items_length cs (ram_behind c.home ram 1) (flash_behind c.home flash 1) (tables_behind c.what n) (item_noted c (address_for c.home ram flash) n rows)
    ∙ noted_length rows c.what c.home (address_for c.home ram flash) c.at n

-- ---- columns of elements

-- a column and its address were noted among these, or were there before
abbrev pub Stood : (ram flash : ℕ) → List Column → (t : ℕ) → Elements → Type 0
Stood ram flash cs t e =
    (k : ℕ) × (e.column ≡ address_for e.home ram flash + k) × (slice_get (held_in e.home cs) k ≡ Some (TheItems t)) × At (TheItems t) e.address cs

abbrev pub Same : Elements → Elements → Type 0
Same e r = (e.home ≡ r.home) × (e.column ≡ r.column) × (e.address ≡ r.address)

-- an entry has another column only by a column of elements
abbrev pub One : (w : Held) → (h : Home) → (k at t : ℕ) → (e r : Elements) → Type 0
One w h k at t e r = Same e r ⊎ ((w ≡ TheItems t) × (e.home ≡ h) × (e.column ≡ k) × (e.address ≡ at))

pub one : (rows : List Elements) (w : Held) (h : Home) (k at n t : ℕ) → t < length rows → One w h k at t (entry (held_noted w h k at n rows) t) (entry rows t)
one rows Initial h k at n t lt = inl (refl, refl, refl)
one rows (TheField f) h k at n t lt = inl (refl, refl, refl)
one rows (TheItems u) h k at n t lt = by (eqb_tells u t)
  where
    by : (((u == t) ≡ true) × (u ≡ t)) ⊎ (((u == t) ≡ false) × ((u ≡ t) → ⊥)) → One (TheItems u) h k at t (entry (stood u h k at rows) t) (entry rows t)
    by (inl (b, q)) =
        subst (λ z. One (TheItems z) h k at t (entry (stood z h k at rows) t) (entry rows t)) (sym q) (inr (
          refl,
          ap (λ z. z.home) (entry_set rows t _ lt),
          ap (λ z. z.column) (entry_set rows t _ lt),
          ap (λ z. z.address) (entry_set rows t _ lt),
        ))
    by (inr (b, ne)) = let q = entry_other rows u t _ ne in inl (ap (λ z. z.home) q, ap (λ z. z.column) q, ap (λ z. z.address) q)
one rows (TheTable u) h k at n t lt = by (eqb_tells u t)
  where
    by : (((u == t) ≡ true) × (u ≡ t)) ⊎ (((u == t) ≡ false) × ((u ≡ t) → ⊥)) → One (TheTable u) h k at t (entry (tabled u n rows) t) (entry rows t)
    by (inl (b, q)) =
        subst (λ z. One (TheTable z) h k at t (entry (tabled z n rows) t) (entry rows t)) (sym q) (inl (
          ap (λ z. z.home) (entry_set rows t _ lt),
          ap (λ z. z.column) (entry_set rows t _ lt),
          ap (λ z. z.address) (entry_set rows t _ lt),
        ))
    by (inr (b, ne)) = let q = entry_other rows u t _ ne in inl (ap (λ z. z.home) q, ap (λ z. z.column) q, ap (λ z. z.address) q)

pub items_stood : (cs : List Column) (ram flash n : ℕ) (rows : List Elements) (t : ℕ) → t < length rows
    → Same (entry (items_from ram flash n cs rows) t) (entry rows t) ⊎ Stood ram flash cs t (entry (items_from ram flash n cs rows) t)
items_stood [] ram flash n rows t lt = inl (refl, refl, refl)
items_stood (c ∷ cs) ram flash n rows t lt =
    later (items_stood cs (ram_behind c.home ram 1) (flash_behind c.home flash 1) (tables_behind c.what n) next t
    (let l = noted_length rows c.what c.home k c.at n in omega (arith, lt, l)))
  where
    k : ℕ
    k = address_for c.home ram flash

    next : List Elements
    next = item_noted c k n rows

    e : Elements
    e = entry (items_from (ram_behind c.home ram 1) (flash_behind c.home flash 1) (tables_behind c.what n) cs next) t

    now : Same e (entry next t) → One c.what c.home k c.at t (entry next t) (entry rows t) → Same e (entry rows t) ⊎ Stood ram flash (c ∷ cs) t e
    now (a, b, d) (inl (x, y, z)) = inl (a ∙ x, b ∙ y, d ∙ z)
    now (a, b, d) (inr (w, x, y, z)) =
        let h : c.home ≡ e.home = sym (a ∙ x) in
        inr (subst (λ q. (j : ℕ) × (e.column ≡ address_for q ram flash + j) × (slice_get (held_in q (c ∷ cs)) j ≡ Some (TheItems t)) × At (TheItems t) e.address (c ∷ cs)) h (
          0,
          (let q : e.column ≡ address_for c.home ram flash = b ∙ y in omega (arith, q)),
          in_front c.home c.what (held_in c.home cs) ∙ ap (λ q. Some q) w,
          here w (sym (d ∙ z)),
        ))

    later : Same e (entry next t) ⊎ Stood (ram_behind c.home ram 1) (flash_behind c.home flash 1) cs t e → Same e (entry rows t) ⊎ Stood ram flash (c ∷ cs) t e
    later (inl s) = now s (one rows c.what c.home k c.at n t lt)
    later (inr (j, q, s, a)) =
        let b = behind c.home e.home e.column ram flash j c.what (TheItems t) (held_in e.home cs) q s in inr (b.0, b.1, b.2, there a)

-- where a column holds the elements of a type, they stand
pub items_found : (cs : List Column) (ram flash n : ℕ) (rows : List Elements) (t address : ℕ) → t < length rows → At (TheItems t) address cs
    → Stood ram flash cs t (entry (items_from ram flash n cs rows) t)
items_found [] ram flash n rows t address lt a = elim a [ ]
items_found (c ∷ cs) ram flash n rows t address lt (there a) =
    let s = items_found cs (ram_behind c.home ram 1) (flash_behind c.home flash 1) (tables_behind c.what n) (item_noted c (address_for c.home ram flash) n rows) t
    address (let l = noted_length rows c.what c.home (address_for c.home ram flash) c.at n in omega (arith, lt, l)) a in
    let e = entry (items_from ram flash n (c ∷ cs) rows) t in
    let b = behind c.home e.home e.column ram flash s.0 c.what (TheItems t) (held_in e.home cs) s.1 s.2 in (b.0, b.1, b.2, there s.3)
items_found (c ∷ cs) ram flash n rows t address lt (here q a) = by (items_stood cs ram1 flash1 (tables_behind c.what n) next t lt1)
  where
    k : ℕ
    k = address_for c.home ram flash

    ram1 : ℕ
    ram1 = ram_behind c.home ram 1

    flash1 : ℕ
    flash1 = flash_behind c.home flash 1

    next : List Elements
    next = item_noted c k n rows

    lt1 : t < length next
    lt1 = let l = noted_length rows c.what c.home k c.at n in omega (arith, lt, l)

    e : Elements
    e = entry (items_from ram1 flash1 (tables_behind c.what n) cs next) t

    set : (entry next t).home ≡ c.home
    set = ap (λ w. (entry (held_noted w c.home k c.at n rows) t).home) q ∙ ap (λ z. z.home) (entry_set rows t _ lt)

    set_column : (entry next t).column ≡ k
    set_column = ap (λ w. (entry (held_noted w c.home k c.at n rows) t).column) q ∙ ap (λ z. z.column) (entry_set rows t _ lt)

    set_address : (entry next t).address ≡ c.at
    set_address = ap (λ w. (entry (held_noted w c.home k c.at n rows) t).address) q ∙ ap (λ z. z.address) (entry_set rows t _ lt)

    by : Same e (entry next t) ⊎ Stood ram1 flash1 cs t e → Stood ram flash (c ∷ cs) t e
    by (inl (x, y, z)) =
        let h : c.home ≡ e.home = sym (x ∙ set) in
        subst (λ w. (j : ℕ) × (e.column ≡ address_for w ram flash + j) × (slice_get (held_in w (c ∷ cs)) j ≡ Some (TheItems t)) × At (TheItems t) e.address (c ∷ cs)) h (
          0,
          (let w : e.column ≡ address_for c.home ram flash = y ∙ set_column in omega (arith, w)),
          in_front c.home c.what (held_in c.home cs) ∙ ap (λ w. Some w) q,
          here q (sym (z ∙ set_address)),
        )
    by (inr (j, w, s, b)) =
        let r = behind c.home e.home e.column ram flash j c.what (TheItems t) (held_in e.home cs) w s in (r.0, r.1, r.2, there b)

-- ---- tables

-- the table of a type is that of the column that is one
abbrev Tabled : (rows : List (List ArrayPlace)) → (n : ℕ) → List Column → (t table : ℕ) → Type 0
Tabled rows n cs t m = (k : ℕ) × (m ≡ n + k) × (slice_get (tables_of rows cs) k ≡ Some (arrays_of (slice_get rows t)))

table_behind : (rows : List (List ArrayPlace)) (w : Held) (n m k : ℕ) (xs : List (List ArrayPlace)) (x : List ArrayPlace) → m ≡ tables_behind w n + k
    → slice_get xs k ≡ Some x → (j : ℕ) × (m ≡ n + j) × (slice_get (table_in w rows ++ xs) j ≡ Some x)
table_behind rows Initial n m k xs x q s = (k, q, s)
table_behind rows (TheField f) n m k xs x q s = (k, q, s)
table_behind rows (TheItems t) n m k xs x q s = (k, q, s)
table_behind rows (TheTable t) n m k xs x q s = (suc k, omega (arith, q), s)

abbrev OneTable : (w : Held) → (n t : ℕ) → (e r : Elements) → Type 0
OneTable w n t e r = (e.table ≡ r.table) ⊎ ((w ≡ TheTable t) × (e.table ≡ n))

one_table : (rows : List Elements) (w : Held) (h : Home) (k at n t : ℕ) → t < length rows
    → OneTable w n t (entry (held_noted w h k at n rows) t) (entry rows t)
one_table rows Initial h k at n t lt = inl refl
one_table rows (TheField f) h k at n t lt = inl refl
one_table rows (TheItems u) h k at n t lt = by (eqb_tells u t)
  where
    by : (((u == t) ≡ true) × (u ≡ t)) ⊎ (((u == t) ≡ false) × ((u ≡ t) → ⊥)) → OneTable (TheItems u) n t (entry (stood u h k at rows) t) (entry rows t)
    by (inl (b, q)) = subst (λ z. OneTable (TheItems z) n t (entry (stood z h k at rows) t) (entry rows t)) (sym q) (inl (ap (λ z. z.table) (entry_set rows t _ lt)))
    by (inr (b, ne)) = inl (ap (λ z. z.table) (entry_other rows u t _ ne))
one_table rows (TheTable u) h k at n t lt = by (eqb_tells u t)
  where
    by : (((u == t) ≡ true) × (u ≡ t)) ⊎ (((u == t) ≡ false) × ((u ≡ t) → ⊥)) → OneTable (TheTable u) n t (entry (tabled u n rows) t) (entry rows t)
    by (inl (b, q)) = subst (λ z. OneTable (TheTable z) n t (entry (tabled z n rows) t) (entry rows t)) (sym q) (inr (refl, ap (λ z. z.table) (entry_set rows t _ lt)))
    by (inr (b, ne)) = inl (ap (λ z. z.table) (entry_other rows u t _ ne))

tables_stood : (rows : List (List ArrayPlace)) (cs : List Column) (ram flash n : ℕ) (items : List Elements) (t : ℕ) → t < length items
    → ((entry (items_from ram flash n cs items) t).table ≡ (entry items t).table) ⊎ Tabled rows n cs t (entry (items_from ram flash n cs items) t).table
tables_stood rows [] ram flash n items t lt = inl refl
tables_stood rows (c ∷ cs) ram flash n items t lt =
    later (tables_stood rows cs (ram_behind c.home ram 1) (flash_behind c.home flash 1) (tables_behind c.what n) next t
    (let l = noted_length items c.what c.home k c.at n in omega (arith, lt, l)))
  where
    k : ℕ
    k = address_for c.home ram flash

    next : List Elements
    next = item_noted c k n items

    e : Elements
    e = entry (items_from (ram_behind c.home ram 1) (flash_behind c.home flash 1) (tables_behind c.what n) cs next) t

    now : (w : Held) → c.what ≡ w → e.table ≡ (entry next t).table → OneTable w n t (entry next t) (entry items t)
        → (e.table ≡ (entry items t).table) ⊎ Tabled rows n (c ∷ cs) t e.table
    now w cw q (inl x) = inl (q ∙ x)
    now w cw q (inr (x, y)) =
        inr (0, (let z : e.table ≡ n = q ∙ y in omega (arith, z)), ap (λ z. slice_get (table_in z rows ++ tables_of rows cs) 0) (cw ∙ x))

    later : (e.table ≡ (entry next t).table) ⊎ Tabled rows (tables_behind c.what n) cs t e.table
        → (e.table ≡ (entry items t).table) ⊎ Tabled rows n (c ∷ cs) t e.table
    later (inl q) = now c.what refl q (one_table items c.what c.home k c.at n t lt)
    later (inr (j, q, s)) = inr (table_behind rows c.what n e.table j (tables_of rows cs) (arrays_of (slice_get rows t)) q s)

pub tables_found : (rows : List (List ArrayPlace)) (cs : List Column) (ram flash n : ℕ) (items : List Elements) (t address : ℕ) → t < length items
    → At (TheTable t) address cs → Tabled rows n cs t (entry (items_from ram flash n cs items) t).table
tables_found rows [] ram flash n items t address lt a = elim a [ ]
tables_found rows (c ∷ cs) ram flash n items t address lt (there a) =
    let s = tables_found rows cs (ram_behind c.home ram 1) (flash_behind c.home flash 1) (tables_behind c.what n)
    (item_noted c (address_for c.home ram flash) n items) t address
    (let l = noted_length items c.what c.home (address_for c.home ram flash) c.at n in omega (arith, lt, l)) a in
    table_behind rows c.what n (entry (items_from ram flash n (c ∷ cs) items) t).table s.0 (tables_of rows cs) (arrays_of (slice_get rows t)) s.1 s.2
tables_found rows (c ∷ cs) ram flash n items t address lt (here q a) = by (tables_stood rows cs ram1 flash1 (tables_behind c.what n) next t lt1)
  where
    k : ℕ
    k = address_for c.home ram flash

    ram1 : ℕ
    ram1 = ram_behind c.home ram 1

    flash1 : ℕ
    flash1 = flash_behind c.home flash 1

    next : List Elements
    next = item_noted c k n items

    lt1 : t < length next
    lt1 = let l = noted_length items c.what c.home k c.at n in omega (arith, lt, l)

    e : Elements
    e = entry (items_from ram1 flash1 (tables_behind c.what n) cs next) t

    set : (entry next t).table ≡ n
    set = ap (λ w. (entry (held_noted w c.home k c.at n items) t).table) q ∙ ap (λ z. z.table) (entry_set items t _ lt)

    by : (e.table ≡ (entry next t).table) ⊎ Tabled rows (tables_behind c.what n) cs t e.table → Tabled rows n (c ∷ cs) t e.table
    by (inl x) = (0, (let z : e.table ≡ n = x ∙ set in omega (arith, z)), ap (λ z. slice_get (table_in z rows ++ tables_of rows cs) 0) q)
    by (inr (j, x, s)) = table_behind rows c.what n e.table j (tables_of rows cs) (arrays_of (slice_get rows t)) x s
