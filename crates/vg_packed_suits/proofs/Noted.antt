-- The columns of elements that a plan notes, with their addresses.
use Rattle.std.proofs.Common.{◌≡◌, ◌⊎◌, refl, sym, ap, ◌∙◌, arith, ℕ, suc, ◌+◌, ◌<◌, List, [], ◌∷◌, length, Some, slice_get}
use mathlib.Core.Logic.{inl, inr}
use Rattle.vg_firm.specs.declared.step.Elements.{Elements}
use Rattle.vg_firm.specs.declared.step.Home.{Home}
use Rattle.vg_firm.specs.declared.step.Home.TheVariants.{Ram, Flash}
use Rattle.vg_placement.specs.declared.column.Held.TheVariants.{Elements as TheItems}
use Rattle.vg_placement.specs.declared.column.Column.{Column}
use Rattle.vg_placement.specs.Columns.{address_for, ram_behind, flash_behind}
use Rattle.vg_packed.specs.Packed.{if_ram, ram_columns}
use Rattle.vg_plan_columns.specs.Items.{tables_behind, item_noted, items_from}
use Rattle.vg_plan_laws.proofs.Items.{entry, noted_length, Same, One, one}

-- the elements of a type have a column in RAM among these, and its address
abbrev pub Noted : (ram : ℕ) → List Column → (t : ℕ) → Elements → Type 0
Noted ram cs t e =
    (k : ℕ) × (d : Column) × (e.column ≡ ram + k) × (slice_get (ram_columns cs) k ≡ Some d) × (d.what ≡ TheItems t) × (e.address ≡ d.at)

-- so they have among more
further : (c : Column) (ram : ℕ) (cs : List Column) (t : ℕ) (e : Elements) → Noted (ram_behind c.home ram 1) cs t e → Noted ram (c ∷ cs) t e
further c ram cs t e s = by c.home s
  where
    by : (h : Home) → Noted (ram_behind h ram 1) cs t e
        → (k : ℕ) × (d : Column) × (e.column ≡ ram + k) × (slice_get (if_ram h c (ram_columns cs)) k ≡ Some d) × (d.what ≡ TheItems t) × (e.address ≡ d.at)
    by Ram (k, d, x, y, z, w) = (suc k, d, omega (arith, x), y, z, w)
    by Flash (k, d, x, y, z, w) = (k, d, x, y, z, w)

-- a column in RAM is the first of these
first : (c : Column) (ram flash : ℕ) (cs : List Column) (t : ℕ) (e : Elements) → e.home ≡ Ram → c.what ≡ TheItems t → e.home ≡ c.home
    → e.column ≡ address_for c.home ram flash → e.address ≡ c.at → Noted ram (c ∷ cs) t e
first c ram flash cs t e er w eh ec ea =
    let h : Ram ≡ c.home = sym er ∙ eh in
    let x : e.column ≡ ram = ec ∙ ap (λ z. address_for z ram flash) (sym h) in
    (0, c, omega (arith, x), ap (λ z. slice_get (if_ram z c (ram_columns cs)) 0) (sym h), w, ea)

pub items_noted : (cs : List Column) (ram flash n : ℕ) (rows : List Elements) (t : ℕ) → t < length rows
    → (entry (items_from ram flash n cs rows) t).home ≡ Ram
    → Same (entry (items_from ram flash n cs rows) t) (entry rows t) ⊎ Noted ram cs t (entry (items_from ram flash n cs rows) t)
items_noted [] ram flash n rows t lt er = inl (refl, refl, refl)
items_noted (c ∷ cs) ram flash n rows t lt er =
    later (items_noted cs (ram_behind c.home ram 1) (flash_behind c.home flash 1) (tables_behind c.what n) next t
    (let l = noted_length rows c.what c.home k c.at n in omega (arith, lt, l)) er)
  where
    k : ℕ
    k = address_for c.home ram flash

    next : List Elements
    next = item_noted c k n rows

    e : Elements
    e = entry (items_from (ram_behind c.home ram 1) (flash_behind c.home flash 1) (tables_behind c.what n) cs next) t

    now : Same e (entry next t) → One c.what c.home k c.at t (entry next t) (entry rows t) → Same e (entry rows t) ⊎ Noted ram (c ∷ cs) t e
    now (a, b, d) (inl (x, y, z)) = inl (a ∙ x, b ∙ y, d ∙ z)
    now (a, b, d) (inr (w, x, y, z)) = inr (first c ram flash cs t e er w (a ∙ x) (b ∙ y) (d ∙ z))

    later : Same e (entry next t) ⊎ Noted (ram_behind c.home ram 1) cs t e → Same e (entry rows t) ⊎ Noted ram (c ∷ cs) t e
    later (inl s) = now s (one rows c.what c.home k c.at n t lt)
    later (inr s) = inr (further c ram cs t e s)
