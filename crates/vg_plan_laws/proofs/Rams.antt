-- What is held in RAM is held by a column in RAM.
use Rattle.std.proofs.Common.{◌≡◌, refl, ℕ, zero, suc, List, [], ◌∷◌, Some, slice_get}
use Rattle.std.proofs.lemmas.Option.{same_Some, none-some}
use Rattle.vg_firm.specs.declared.step.Home.{Home}
use Rattle.vg_firm.specs.declared.step.Home.TheVariants.{Ram, Flash}
use Rattle.vg_placement.specs.declared.column.Held.{Held}
use Rattle.vg_placement.specs.declared.column.Column.{Column}
use Rattle.vg_packed.specs.Apart.{held_where, held_in}
use Rattle.vg_packed.specs.Packed.{if_ram, ram_columns}

-- A column of these holds it, and has this place among those in RAM.
abbrev pub InRam : List Column → (column : ℕ) → Held → Type 0
InRam cs k w = (i : ℕ) × (d : Column) × (slice_get cs i ≡ Some d) × (d.what ≡ w) × (slice_get (ram_columns cs) k ≡ Some d)

pub held_in_ram : (cs : List Column) (k : ℕ) (w : Held) → slice_get (held_in Ram cs) k ≡ Some w → InRam cs k w
held_in_ram [] k w e = absurd (none-some w e)
held_in_ram (c ∷ cs) k w e = by c.home k refl (λ j g. held_in_ram cs j w g) e
  where
    by : (h : Home) (k : ℕ) → c.home ≡ h → ((j : ℕ) → slice_get (held_in Ram cs) j ≡ Some w → InRam cs j w)
        → slice_get (held_where Ram h c.what (held_in Ram cs)) k ≡ Some w
        → (i : ℕ) × (d : Column) × (slice_get (c ∷ cs) i ≡ Some d) × (d.what ≡ w) × (slice_get (if_ram h c (ram_columns cs)) k ≡ Some d)
    by Ram zero q rest g = (0, c, refl, same_Some c.what w g, refl)
    by Ram (suc k) q rest g = let r = rest k g in (suc r.0, r.1, r.2, r.3, r.4)
    by Flash k q rest g = let r = rest k g in (suc r.0, r.1, r.2, r.3, r.4)
