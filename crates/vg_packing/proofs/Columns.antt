-- Stores on both sides: one place of the heap, one entry of a column.
use Rattle.std.proofs.Common.{◌≡◌, ◌≢◌, ◌⊎◌, refl, sym, ap, subst, ◌∙◌, ℕ, List, Option, Some, None, slice_get, slice_set}
use Rattle.std.proofs.lemmas.Option.{same_Some, none-some}
use mathlib.Core.Logic.{inl, inr}
use Rattle.vg_codes.specs.Codes.{Codes}
use Rattle.vg_core.specs.declared.heap.Heap.{Heap}
use Rattle.vg_core.specs.declared.value.CoreValue.{CoreValue}
use Rattle.vg_core.specs.Heap.{Place, value_at, set_at}
use Rattle.vg_core.specs.Program.{Program}
use Rattle.vg_core.specs.Typing.{WellFormed}
use Rattle.vg_heap.proofs.Lists.{same_or_not, get_set, get_past, get_other}
use Rattle.vg_heap.proofs.Places.{same_place, value_there, value_apart, same_kinds}
use Rattle.vg_firm.specs.declared.step.Home.{Home}
use Rattle.vg_firm.specs.declared.step.Home.TheVariants.{Ram, Flash}
use Rattle.vg_firm.specs.Program.{Program as FirmProgram}
use Rattle.vg_firm.specs.Meaning.{entry, column_of, set_entry}
use Rattle.vg_coded.specs.Numbers.{coded}
use Rattle.vg_coded.specs.Kept.{IsKept}
use Rattle.vg_packing.specs.Layout.{Layout, Spot, spot}
use Rattle.vg_packing.specs.Packs.{IsKeptPlace, columns_at, entry_at, Holds}
use Rattle.vg_packing.specs.Laid.{Laid}

entry_set : (cols : List (List ℕ)) (c i old v : ℕ) → entry cols c i ≡ Some old → entry (set_entry cols c i v) c i ≡ Some v
entry_set cols c i old v e = by (slice_get cols c) refl e
  where
    by : (o : Option (List ℕ)) → slice_get cols c ≡ o → slice_get (column_of o) i ≡ Some old
        → entry (slice_set cols c (slice_set (column_of o) i v)) c i ≡ Some v
    by None q e1 = absurd (none-some old e1)
    by (Some vs) q e1 = ap (λ o. slice_get (column_of o) i) (get_set cols c vs (slice_set vs i v) q) ∙ get_set vs i old v e1

entry_other : (cols : List (List ℕ)) (c i d j v : ℕ) → ((d ≡ c) → (j ≡ i) → ⊥) → entry (set_entry cols c i v) d j ≡ entry cols d j
entry_other cols c i d j v n = by (same_or_not d c)
  where
    same : (o : Option (List ℕ)) → slice_get cols c ≡ o → ((j ≡ i) → ⊥)
        → slice_get (column_of (slice_get (slice_set cols c (slice_set (column_of o) i v)) c)) j ≡ slice_get (column_of o) j
    same None q m = ap (λ o. slice_get (column_of o) j) (get_past cols c _ q)
    same (Some vs) q m = ap (λ o. slice_get (column_of o) j) (get_set cols c vs (slice_set vs i v) q) ∙ get_other vs i j v m

    by : (d ≡ c) ⊎ (d ≢ c) → entry (set_entry cols c i v) d j ≡ entry cols d j
    by (inr m) = ap (λ o. slice_get (column_of o) j) (get_other cols c d _ m)
    by (inl e) = subst (λ z. entry (set_entry cols c i v) z j ≡ entry cols z j) (sym e) (same (slice_get cols c) refl (n e))

module _ (p : Program) (formed : WellFormed p.tables) (l : Layout) (k : Codes) (f : FirmProgram) (laid : Laid p l k f) where
  -- the columns behind a store hold what the heap behind it holds
  pub held_set : (h : Heap) (cols : List (List ℕ)) (x : Place) (o : Spot) (old v : CoreValue) → Holds p.tables l k f h cols → IsKeptPlace l x
      → spot p.tables l x ≡ Some o → o.home ≡ Ram → value_at p.tables h x ≡ Some old → IsKept l.numbering v
      → Holds p.tables l k f (set_at p.tables x v h) (set_entry cols o.column o.index (coded l.numbering k v))
  held_set h cols x o old v q kx sx ram e kept =
      record { shaped = same_kinds p.tables h x v ∙ q.shaped; held = λ y s u ky sy g. by y s u ky sy g (same_place y x) }
    where
      now : List (List ℕ)
      now = set_entry cols o.column o.index (coded l.numbering k v)

      was : entry cols o.column o.index ≡ Some (coded l.numbering k old)
      was = ap (λ z. entry (columns_at f z cols) o.column o.index) (sym ram) ∙ (q.held x o old kx sx e).1

      by : (y : Place) (s : Spot) (u : CoreValue) → IsKeptPlace l y → spot p.tables l y ≡ Some s → value_at p.tables (set_at p.tables x v h) y ≡ Some u
          → (y ≡ x) ⊎ (y ≢ x)
          → IsKept l.numbering u × (entry_at f now s ≡ Some (coded l.numbering k u))
      by y s u ky sy g (inl yx) =
          let so : s ≡ o = same_Some s o (sym sy ∙ (ap (spot p.tables l) yx ∙ sx)) in
          let uv : u ≡ v = same_Some u v (sym g ∙ (ap (value_at p.tables (set_at p.tables x v h)) yx ∙ value_there p.tables h x old v e)) in (
            subst (IsKept l.numbering) (sym uv) kept,
            ap (λ z. entry_at f now z) so ∙ (ap (λ z. entry (columns_at f z now) o.column o.index) ram
                ∙ (entry_set cols o.column o.index (coded l.numbering k old) (coded l.numbering k v) was ∙ ap (λ z. Some (coded l.numbering k z)) (sym uv))),
          )
      by y s u ky sy g (inr n) =
          let r = q.held y s u ky sy before in
          (r.0, other s.home refl ∙ r.1)
        where
          before : value_at p.tables h y ≡ Some u
          before = sym (value_apart p.tables formed h v x y n) ∙ g

          alike : s.home ≡ Ram → s.column ≡ o.column → s.index ≡ o.index → s ≡ o
          alike a c i =
              let z1 : s.home ≡ o.home = a ∙ sym ram in
              ap (λ t. record { home = t; column = s.column; index = s.index }) z1
              ∙ (ap (λ t. record { home = o.home; column = t; index = s.index }) c ∙ ap (λ t. record { home = o.home; column = o.column; index = t }) i)

          other : (a : Home) → s.home ≡ a → entry (columns_at f a now) s.column s.index ≡ entry (columns_at f a cols) s.column s.index
          other Flash z = refl
          other Ram z =
              entry_other cols o.column o.index s.column s.index (coded l.numbering k v)
              (λ c i. n (laid.apart h q.shaped x y old u o kx ky e before sx (sy ∙ ap Some (alike z c i))))

  -- a store to a place without a spot changes no column
  pub held_dropped : (h : Heap) (cols : List (List ℕ)) (x : Place) (v : CoreValue) → Holds p.tables l k f h cols → spot p.tables l x ≡ None
      → Holds p.tables l k f (set_at p.tables x v h) cols
  held_dropped h cols x v q sx =
      record { shaped = same_kinds p.tables h x v ∙ q.shaped; held = λ y s u ky sy g. by y s u ky sy g (same_place y x) }
    where
      by : (y : Place) (s : Spot) (u : CoreValue) → IsKeptPlace l y → spot p.tables l y ≡ Some s → value_at p.tables (set_at p.tables x v h) y ≡ Some u
          → (y ≡ x) ⊎ (y ≢ x)
          → IsKept l.numbering u × (entry_at f cols s ≡ Some (coded l.numbering k u))
      by y s u ky sy g (inl yx) = absurd (none-some s (sym sx ∙ (ap (spot p.tables l) (sym yx) ∙ sy)))
      by y s u ky sy g (inr n) = q.held y s u ky sy (sym (value_apart p.tables formed h v x y n) ∙ g)
