-- Which fields have a column.
use Rattle.std.proofs.Common.{◌≡◌, ◌⊎◌, refl, sym, ap, subst, ◌∙◌, arith, ℕ, zero, suc, ◌+◌, ◌*◌, ◌<◌, Bool, true, false, nat_lt, List, [], ◌∷◌}
use Rattle.std.proofs.Common.{is_some, map, Some, slice_get, if◌then◌else◌}
use mathlib.Core.Logic.{inl, inr}
use Rattle.vg_core.specs.declared.heap.Heap.{Heap}
use Rattle.vg_core.specs.declared.member.Member.TheVariants as member
use Rattle.vg_core.specs.declared.program.Field.{Field}
use Rattle.vg_core.specs.declared.program.Owner.TheVariants.{InClass, InComponent}
use Rattle.vg_core.specs.declared.program.Tables.{Tables}
use Rattle.vg_core.specs.Heap.{Kind, ObjectOf}
use Rattle.vg_core.specs.Program.{Program}
use Rattle.vg_core.specs.Tables.{is_below}
use Rattle.vg_core.specs.Typing.{WellFormed}
use Rattle.vg_live.specs.declared.live_set.LiveSet.{LiveSet}
use Rattle.vg_live.specs.Rules.{Live}
use Rattle.vg_live.specs.Sets.{reason_of, IsLiveSet}
use Rattle.vg_numbers.specs.Numbers.{AreChains, number, first, count}
use Rattle.vg_numbers.proofs.Numbers.{spans}
use Rattle.vg_number.specs.Numbering.{kept_in, kinds_of}
use Rattle.vg_placement.specs.declared.column.Column.{Column}
use Rattle.vg_placement.specs.declared.column.Held.TheVariants.{Initial, Field as TheField, Elements as TheItems, Table as TheTable}
use Rattle.vg_placement.specs.Columns.{bytes_of, Needs, home_of, column_width, owner_count, items_count, unless_empty, field_column, field_columns}
use Rattle.vg_placement.specs.Columns.{array_types, item_width, item_columns, columns, table_of, table_columns, all_columns}
use Rattle.vg_placement.specs.Needs.{needs}
use Rattle.vg_packed.proofs.Cases.{below_one, from_within}
use Rattle.vg_packed.specs.Columns.{HaveField}
use Rattle.vg_packed.proofs.Holding.{front, rear, one_of_both}
use Rattle.vg_packed.proofs.Cells.{there_is}

product : (a b : ℕ) → 0 < a → 0 < b → 0 < a * b
product zero b ha hb = absurd (omega (arith, ha))
product (suc a) b ha hb = let e : suc a * b ≡ a * b + b = grind arith in omega (arith, e, hb)

one_field : (f g : ℕ) → TheField f ≡ TheField g → f ≡ g
one_field f g e = cc

module _ (f : ℕ) where
  -- a column with bytes is there, and no column holds what is dropped
  unless : (c : Column) → 0 < bytes_of c → c.what ≡ TheField f → HaveField f (unless_empty c)
  unless c lt e = let b : nat_lt 0 (bytes_of c) ≡ true = grind (arith, lt) in
      subst (λ z. HaveField f (if z then c ∷ [] else [])) (sym b) (inl e)

  held : (c : Column) → HaveField f (unless_empty c) → c.what ≡ TheField f
  held c h = by (nat_lt 0 (bytes_of c)) h
    where
      by : (b : Bool) → HaveField f (if b then c ∷ [] else []) → c.what ≡ TheField f
      by true (inl e) = e
      by true (inr g) = absurd g
      by false g = absurd g

  -- ---- fields

  module _ (n : Needs) where
    has : (g : ℕ) (ys : List Field) (i : ℕ) (y : Field) → slice_get ys i ≡ Some y → i + g ≡ f → n.live f ≡ true → 0 < bytes_of (field_column n f y)
        → HaveField f (field_columns n g ys)
    has g [] i y e q l lt = absurd (grind (arith, e))
    has g (z ∷ ys) zero y e q l lt =
        front f (if n.live g then unless_empty (field_column n g z) else []) (field_columns n (suc g) ys)
        (subst (λ b. HaveField f (if b then unless_empty (field_column n g z) else [])) (sym (ap n.live same ∙ l))
        (unless (field_column n g z) (subst (λ x. 0 < bytes_of (field_column n g x)) (sym its)
        (subst (λ x. 0 < bytes_of (field_column n x y)) (sym same) lt)) (ap TheField same)))
      where
        same : g ≡ f
        same = omega (arith, q)

        its : z ≡ y
        its = cc
    has g (z ∷ ys) (suc i) y e q l lt =
        rear f (if n.live g then unless_empty (field_column n g z) else []) (field_columns n (suc g) ys)
        (has (suc g) ys i y e (omega (arith, q)) l lt)

    is_live : (g : ℕ) (ys : List Field) → HaveField f (field_columns n g ys) → n.live f ≡ true
    is_live g [] h = absurd h
    is_live g (z ∷ ys) h =
        by (one_of_both f (if n.live g then unless_empty (field_column n g z) else []) (field_columns n (suc g) ys) h) (is_live (suc g) ys)
      where
        here : (b : Bool) → n.live g ≡ b → HaveField f (if b then unless_empty (field_column n g z) else []) → n.live f ≡ true
        here true l a = sym (ap n.live (one_field g f (held (field_column n g z) a))) ∙ l
        here false l a = absurd a

        by : HaveField f (if n.live g then unless_empty (field_column n g z) else []) ⊎ HaveField f (field_columns n (suc g) ys)
            → (HaveField f (field_columns n (suc g) ys) → n.live f ≡ true) → n.live f ≡ true
        by (inl a) again = here (n.live g) refl a
        by (inr a) again = again a

  -- ---- other columns hold no field

  no_items : (p : Tables) (n : Needs) (κ : List Kind) (ts : List ℕ) → HaveField f (item_columns p n κ ts) → ⊥
  no_items p n κ [] h = h
  no_items p n κ (t ∷ ts) h = by (one_of_both f (unless_empty one) (item_columns p n κ ts) h) (no_items p n κ ts)
    where
      one : Column
      one =
          record {
            what = TheItems t;
            home = home_of (n.items_written t);
            at = 0;
            width = item_width (slice_get p.types t);
            count = items_count n.kept t κ;
          }

      other : TheItems t ≡ TheField f → ⊥
      other e = cc

      by : HaveField f (unless_empty one) ⊎ HaveField f (item_columns p n κ ts) → (HaveField f (item_columns p n κ ts) → ⊥) → ⊥
      by (inl a) again = other (held one a)
      by (inr a) again = again a

  no_tables : (n : Needs) (κ : List Kind) (ts : List ℕ) → HaveField f (map (table_of n.kept κ) ts) → ⊥
  no_tables n κ [] h = h
  no_tables n κ (t ∷ ts) (inl e) = other e
    where
      other : TheTable t ≡ TheField f → ⊥
      other q = cc
  no_tables n κ (t ∷ ts) (inr h) = no_tables n κ ts h

  no_copy : Initial ≡ TheField f → ⊥
  no_copy e = cc

  module _ (p : Tables) (n : Needs) (κ : List Kind) where
    among_all : HaveField f (field_columns n 0 p.fields) → HaveField f (all_columns p n κ)
    among_all h =
        inr (front f (columns p n κ) (table_columns n κ) (front f (field_columns n 0 p.fields) (item_columns p n κ (array_types n.kept [] 0 κ)) h))

    of_all : HaveField f (all_columns p n κ) → HaveField f (field_columns n 0 p.fields)
    of_all (inl e) = absurd (no_copy e)
    of_all (inr h) = by (one_of_both f (columns p n κ) (table_columns n κ) h)
      where
        inner : HaveField f (field_columns n 0 p.fields) ⊎ HaveField f (item_columns p n κ (array_types n.kept [] 0 κ))
            → HaveField f (field_columns n 0 p.fields)
        inner (inl a) = a
        inner (inr a) = absurd (no_items p n κ (array_types n.kept [] 0 κ) a)

        by : HaveField f (columns p n κ) ⊎ HaveField f (table_columns n κ) → HaveField f (field_columns n 0 p.fields)
        by (inl a) = inner (one_of_both f (field_columns n 0 p.fields) (item_columns p n κ (array_types n.kept [] 0 κ)) a)
        by (inr a) = absurd (no_tables n κ (array_types n.kept [] 0 κ) a)

module _ (p : Program) (h : Heap) (s : LiveSet) (set : IsLiveSet p h s) where
  abbrev its_needs : Needs
  its_needs = needs p (kinds_of h) s

  abbrev AllHave : (f : ℕ) → Type 0
  AllHave f = HaveField f (all_columns p.tables its_needs (kinds_of h))

  live_field : (f : ℕ) → Live p h (Some (member.Field f)) → its_needs.live f ≡ true
  live_field f l = ap is_some (set.all (member.Field f) l).1

  with_count : (f : ℕ) (y : Field) → slice_get p.tables.fields f ≡ Some y → 0 < column_width y.type_ → 0 < owner_count its_needs.count y.owner
      → Live p h (Some (member.Field f)) → AllHave f
  with_count f y e w c l =
      among_all f p.tables its_needs (kinds_of h)
      (has f its_needs 0 p.tables.fields f y e (omega arith) (live_field f l) (product (column_width y.type_) (owner_count its_needs.count y.owner) w c))

  pub of_component : (f k : ℕ) (y : Field) → slice_get p.tables.fields f ≡ Some y → y.owner ≡ InComponent k → 0 < column_width y.type_
      → Live p h (Some (member.Field f)) → AllHave f
  of_component f k y e o w l = with_count f y e w (subst (λ z. 0 < owner_count its_needs.count z) (sym o) (omega arith)) l

  pub of_class : WellFormed p.tables → AreChains p.tables → (f j c d : ℕ) (y : Field) → slice_get p.tables.fields f ≡ Some y → y.owner ≡ InClass c
      → 0 < column_width y.type_ → slice_get (kinds_of h) j ≡ Some (ObjectOf d) → kept_in s j ≡ true → is_below p.tables d c ≡ true
      → Live p h (Some (member.Field f)) → AllHave f
  of_class formed chains f j c d y e o w ek ks below l =
      with_count f y e w (subst (λ z. 0 < owner_count its_needs.count z) (sym o) some) l
    where
      -- the class that declares the field has an interval with the object's number
      some : 0 < count p.tables (kinds_of h) (kept_in s) c
      some =
          let z = spans p.tables chains (kinds_of h) (kept_in s) j d c ek ks (below_one p.tables formed d c below) in
          let i = from_within (first p.tables (kinds_of h) (kept_in s) c) (count p.tables (kinds_of h) (kept_in s) c)
          (number p.tables (kinds_of h) (kept_in s) j) (sym z ∙ below) in
          let a = i.0 in let b = i.1 in omega (arith, a, b)

  pub only_live : (f : ℕ) → AllHave f → Live p h (Some (member.Field f))
  only_live f a =
      set.live (member.Field f) (there_is (reason_of s (member.Field f)) (is_live f its_needs 0 p.tables.fields (of_all f p.tables its_needs (kinds_of h) a)))
