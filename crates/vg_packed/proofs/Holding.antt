-- Which columns hold a field.
use Rattle.std.proofs.Common.{◌≡◌, ◌⊎◌, refl, arith, ℕ, zero, suc, List, [], ◌∷◌, ◌++◌, Some, slice_get}
use mathlib.Core.Logic.{inl, inr}
use Rattle.vg_firm.specs.declared.step.Home.{Home}
use Rattle.vg_firm.specs.declared.step.Home.TheVariants.{Ram, Flash}
use Rattle.vg_placement.specs.declared.column.Column.{Column}
use Rattle.vg_placement.specs.declared.column.Held.{Held}
use Rattle.vg_placement.specs.declared.column.Held.TheVariants.{Field as TheField}
use Rattle.vg_placement.specs.Columns.{bytes_of, placed, ram_behind, flash_behind}
use Rattle.vg_packed.specs.Apart.{held_where, held_in}
use Rattle.vg_packed.specs.Columns.{HaveField}

module _ (f : ℕ) where
  pub front : (cs ds : List Column) → HaveField f cs → HaveField f (cs ++ ds)
  front [] ds h = absurd h
  front (c ∷ cs) ds (inl e) = inl e
  front (c ∷ cs) ds (inr h) = inr (front cs ds h)

  pub rear : (cs ds : List Column) → HaveField f ds → HaveField f (cs ++ ds)
  rear [] ds h = h
  rear (c ∷ cs) ds h = inr (rear cs ds h)

  pub one_of_both : (cs ds : List Column) → HaveField f (cs ++ ds) → HaveField f cs ⊎ HaveField f ds
  one_of_both [] ds h = inr h
  one_of_both (c ∷ cs) ds (inl e) = inl (inl e)
  one_of_both (c ∷ cs) ds (inr h) = by (one_of_both cs ds h)
    where
      by : HaveField f cs ⊎ HaveField f ds → HaveField f (c ∷ cs) ⊎ HaveField f ds
      by (inl a) = inl (inr a)
      by (inr a) = inr a

  pub when_placed : (ram flash : ℕ) (cs : List Column) → HaveField f cs → HaveField f (placed ram flash cs)
  when_placed ram flash [] h = absurd h
  when_placed ram flash (c ∷ cs) (inl e) = inl e
  when_placed ram flash (c ∷ cs) (inr h) = inr (when_placed (ram_behind c.home ram (bytes_of c)) (flash_behind c.home flash (bytes_of c)) cs h)

  pub before_placed : (ram flash : ℕ) (cs : List Column) → HaveField f (placed ram flash cs) → HaveField f cs
  before_placed ram flash [] h = absurd h
  before_placed ram flash (c ∷ cs) (inl e) = inl e
  before_placed ram flash (c ∷ cs) (inr h) = inr (before_placed (ram_behind c.home ram (bytes_of c)) (flash_behind c.home flash (bytes_of c)) cs h)

  pub at : (cs : List Column) → HaveField f cs → (i : ℕ) × (c : Column) × (slice_get cs i ≡ Some c) × (c.what ≡ TheField f)
  at [] h = absurd h
  at (c ∷ cs) (inl e) = (0, c, refl, e)
  at (c ∷ cs) (inr h) = let r = at cs h in (suc r.0, r.1, r.2, r.3)

  some_same : (a b : Held) → Some a ≡ Some b → a ≡ b
  some_same a b e = cc

  pub of_home : (home : Home) (cs : List Column) (i : ℕ) → slice_get (held_in home cs) i ≡ Some (TheField f) → HaveField f cs
  of_home home [] i e = absurd (grind (arith, e))
  of_home home (c ∷ cs) i e = by home c.home i e (of_home home cs)
    where
      here : (k : ℕ) → slice_get (c.what ∷ held_in home cs) k ≡ Some (TheField f)
          → ((j : ℕ) → slice_get (held_in home cs) j ≡ Some (TheField f) → HaveField f cs) → HaveField f (c ∷ cs)
      here zero q again = inl (some_same c.what (TheField f) q)
      here (suc k) q again = inr (again k q)

      by : (a b : Home) (k : ℕ) → slice_get (held_where a b c.what (held_in home cs)) k ≡ Some (TheField f)
          → ((j : ℕ) → slice_get (held_in home cs) j ≡ Some (TheField f) → HaveField f cs) → HaveField f (c ∷ cs)
      by Ram Ram k q again = here k q again
      by Flash Flash k q again = here k q again
      by Ram Flash k q again = inr (again k q)
      by Flash Ram k q again = inr (again k q)
