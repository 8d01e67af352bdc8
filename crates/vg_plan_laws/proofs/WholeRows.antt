-- A packed program has its rows.
use Rattle.std.proofs.Common.{◌≡◌, ◌⊎◌, refl, sym, ap, subst, ◌∙◌, arith, ℕ, zero, suc, ◌+◌, ◌-◌, ◌<◌, List, length, map, option_map, Option, Some, None, slice_get}
use Rattle.std.proofs.lemmas.Option.{same_Some, none-some, slice_get-map}
use Rattle.std.specs.List.{AllByRecursion}
use mathlib.Core.Logic.{inl, inr}
use Rattle.vg_codes.specs.Codes.{Codes, AreCodes}
use Rattle.vg_core.specs.declared.heap.Cell.{Cell}
use Rattle.vg_core.specs.declared.heap.Cell.TheVariants.{Object, Array}
use Rattle.vg_core.specs.declared.heap.Heap.{Heap}
use Rattle.vg_core.specs.declared.program.Field.{Field}
use Rattle.vg_core.specs.declared.types.CoreType.{CoreType}
use Rattle.vg_core.specs.declared.value.CoreValue.{CoreValue}
use Rattle.vg_core.specs.Heap.{Kind, ArrayOf, kind_of, Place, OfComponent, OfObject, OfArray, value_at}
use Rattle.vg_core.specs.Program.{Program}
use Rattle.vg_core.specs.Types.{HasType}
use Rattle.vg_sound.specs.Good.{TypedHeap}
use Rattle.vg_sound.proofs.Cells.{PlaceOf, component_place, object_place, array_place, get_typed}
use Rattle.vg_sound.proofs.Runs.{kinds_of_heap}
use Rattle.vg_firm.specs.declared.step.Home.TheVariants.{Ram}
use Rattle.vg_firm.specs.Meaning.{entry}
use Rattle.vg_coded.specs.Widths.{width_of}
use Rattle.vg_coded.specs.Kept.{HasSmallNumbers, IsKept}
use Rattle.vg_live.specs.declared.live_set.LiveSet.{LiveSet}
use Rattle.vg_number.specs.declared.numbers.Numbers.{Numbers}
use Rattle.vg_number.specs.Numbering.{kinds_of, AreListed}
use Rattle.vg_packing.specs.Layout.{Layout, Spot, spot, spot_in, item_spot, first_with}
use Rattle.vg_packing.specs.Layout as layout
use Rattle.vg_packing.specs.Packs.{IsKeptPlace, Holds}
use Rattle.vg_placement.specs.declared.column.Held.{Held}
use Rattle.vg_placement.specs.declared.column.Held.TheVariants.{Field as TheField, Elements as TheItems}
use Rattle.vg_placement.specs.declared.column.Column.{Column}
use Rattle.vg_placement.specs.Columns.{Needs, item_width, column_width}
use Rattle.vg_placement.specs.Needs.{needs}
use Rattle.vg_place.specs.declared.placing.Columns.{Columns}
use Rattle.vg_packed.specs.Apart.{held_in}
use Rattle.vg_packed.proofs.Counted.{two_bytes}
use Rattle.vg_packed.specs.IsPlaced.{IsPlaced}
use Rattle.vg_packed.proofs.Starting.{holds_first}
use Rattle.vg_packed.proofs.Listed.{listed}
use Rattle.vg_tables.specs.declared.entry.Entry.{Entry}
use Rattle.vg_tables.specs.declared.entry.Entry.TheVariants.{Number}
use Rattle.vg_tables.specs.Entries.{number_in}
use Rattle.vg_pack_values.specs.Columns.{numbers_in, blank_rows}
use Rattle.vg_pack_values.specs.Places.{all_places, with_places}
use Rattle.vg_plan_laws.proofs.Filled.{field_there, item_there, owner_of, component_there, all_kept}
use Rattle.vg_plan_laws.proofs.Listed.{All, all_get}
use Rattle.vg_plan_laws.proofs.Tables.{type_at}
use Rattle.vg_table_bytes.specs.Rows.{EntryFits, HasRows, ArrayFits}
use Rattle.vg_packed.specs.declared.program.FirmProgram.{FirmProgram}
use Rattle.vg_packed.specs.Given.{IsGiven}
use Rattle.vg_packed.specs.Packed.{IsPackedFrom, ram_columns}
use Rattle.vg_packed.specs.Plans.{planned}
use Rattle.vg_packed.specs.Programs.{program_of}
use Rattle.vg_packed.specs.Ready.{IsReady}
use Rattle.vg_packed.proofs.Live.{is_of}
use Rattle.vg_packed.proofs.Placed.{is_placed}
use Rattle.vg_plan_laws.specs.Made.{IsMade}
use Rattle.vg_plan_laws.proofs.Sizes.{Sized, SizedOf, all_sized}
use Rattle.vg_plan_laws.proofs.Rams.{held_in_ram}
use Rattle.vg_plan_laws.proofs.Entries.{entry_in, entry_is, blank_entry, rows_fit}
use Rattle.vg_plan_laws.proofs.Told.{nought_fits, value_entry_fits}
use Rattle.vg_plan_laws.proofs.Written.{Family, Stands, nowhere, nought, valued, as_before, stands_places}
use Rattle.vg_plan_laws.proofs.Arrays.{tables_long, arrays_fit}

module _ (p : Program) (h : Heap) (s : LiveSet) (n : Numbers) (c : Columns) (f : FirmProgram) (given : IsGiven p h s n c) (ready : IsReady p h)
    (from : IsPackedFrom p h s n c f) (made : IsMade p h s n c from.plan f) (k : Codes) (are : AreCodes (length f.procedures) k) where
  abbrev l : Layout
  l = planned h n from.plan

  abbrev needed : Needs
  needed = needs p (kinds_of h) s

  abbrev κ : List Kind
  κ = given.heap.0

  typed : TypedHeap p.tables κ h
  typed = given.heap.1

  all_listed : AreListed p.tables (kinds_of h)
  all_listed = listed p.tables h given.heap

  placed : IsPlaced p l k (program_of k f)
  placed = is_placed p h s n c f given ready from k are

  holds : Holds p.tables l k (program_of k f) h (program_of k f).ram
  holds =
      holds_first p given.typed.tables h ready.ranged κ typed l k (program_of k f) (is_of p h s n c f given ready from k)

  small : HasSmallNumbers l.numbering k
  small = record { cells = two_bytes p.tables placed.chains l placed.kept placed.counted placed.few; codes = placed.codes }

  sized : All (Sized p.tables needed (kinds_of h)) c.list
  sized =
      subst (All (Sized p.tables needed (kinds_of h))) (sym given.columns.list) (all_sized p.tables needed (kinds_of h) all_listed 0x0100 0x008C)

  kind_at : (j : ℕ) (d : Cell) → slice_get h.cells j ≡ Some d → slice_get (kinds_of h) j ≡ Some (kind_of d)
  kind_at j d e = slice_get-map kind_of h.cells j ∙ ap (option_map kind_of) e

  kind_in : (j : ℕ) (d : Cell) → slice_get h.cells j ≡ Some d → slice_get κ j ≡ Some (kind_of d)
  kind_in j d e = ap (λ z. slice_get z j) (kinds_of_heap p.tables κ h typed) ∙ kind_at j d e

  -- a value is right for a column in RAM that is as wide as its type, and is kept
  abbrev IsRight : (column : ℕ) → CoreValue → Type 0
  IsRight i v = (d : Column) × (slice_get (ram_columns c.list) i ≡ Some d) × (t : CoreType) × HasType p.tables κ v t × (width_of t ≡ d.width)
      × IsKept l.numbering v

  in_column : (o : Option layout.Column) (i : ℕ) (q : Spot) → spot_in o i ≡ Some q
      → (b : layout.Column) × (o ≡ Some b) × (record { home = b.home; column = b.column; index = i } ≡ q)
  in_column None i q e = absurd (none-some q e)
  in_column (Some b) i q e = (b, refl, same_Some _ q e)

  -- what a place of this type has
  has_type : (x : Place) (t : CoreType) (v : CoreValue) → PlaceOf p.tables κ x t → value_at p.tables h x ≡ Some v → HasType p.tables κ v t
  has_type x t v at e =
      let r = get_typed p.tables given.typed.tables κ h typed x t at in subst (λ u. HasType p.tables κ u t) (same_Some r.0 v (sym r.1 ∙ e)) r.2

  field_right : (g i : ℕ) (o : Spot) (v : CoreValue) (y : Field) → spot_in (l.column g) i ≡ Some o → slice_get p.tables.fields g ≡ Some y
      → HasType p.tables κ v y.type_ → IsKept l.numbering v → (o.home ≡ Ram) × IsRight o.column v
  field_right g i o v y e ey a kept = by (in_column (l.column g) i o e)
    where
      wide : (w : Held) (d : Column) → w ≡ TheField g → SizedOf p.tables needed (kinds_of h) w d.width d.count → d.width ≡ column_width y.type_
      wide w d ew z = (subst (λ q. SizedOf p.tables needed (kinds_of h) q d.width d.count) ew z) y ey

      by : ((b : layout.Column) × (l.column g ≡ Some b) × (record { home = b.home; column = b.column; index = i } ≡ o)) → (o.home ≡ Ram) × IsRight o.column v
      by (b, eb, eo) =
          let home = from.is_plan.field_homes g b eb in
          let r = held_in_ram c.list b.column (TheField g)
          (subst (λ z. slice_get (held_in z c.list) b.column ≡ Some (TheField g)) home (from.is_plan.has_columns.fields g b eb)) in
          let w = wide r.1.what r.1 r.3 (all_get (Sized p.tables needed (kinds_of h)) c.list r.0 r.1 sized r.2) in
          (sym (ap (λ z. z.home) eo) ∙ home, subst (λ z. IsRight z.column v) eo (r.1, r.4, y.type_, a, sym w, kept))

  item_right : (t i j size : ℕ) (o : Spot) (v : CoreValue) (u : CoreType) → slice_get (kinds_of h) j ≡ Some (ArrayOf t size) → 0 < l.numbering.number j → i < size
      → item_spot l (l.start j + i) (slice_get (kinds_of h) j) ≡ Some o → slice_get p.tables.types t ≡ Some u
      → HasType p.tables κ v u → IsKept l.numbering v → (o.home ≡ Ram) × IsRight o.column v
  item_right t i j zero o v u ek pos lt e eu a kept = absurd (omega (arith, lt))
  item_right t i j (suc size) o v u ek pos lt e eu a kept =
      let so = same_Some _ o (sym (ap (item_spot l (l.start j + i)) ek) ∙ e) in
      let home = from.is_plan.item_homes t in
      let r = held_in_ram c.list (l.items t).column (TheItems t)
      (subst (λ z. slice_get (held_in z c.list) (l.items t).column ≡ Some (TheItems t)) home (from.is_plan.has_columns.items j t size (ek, pos))) in
      let w = wide r.1.what r.1 r.3 (all_get (Sized p.tables needed (kinds_of h)) c.list r.0 r.1 sized r.2) in
      (sym (ap (λ z. z.home) so) ∙ home, subst (λ z. IsRight z.column v) so (r.1, r.4, u, a, sym w, kept))
    where
      wide : (q : Held) (d : Column) → q ≡ TheItems t → SizedOf p.tables needed (kinds_of h) q d.width d.count → d.width ≡ column_width u
      wide q d ew z = subst (λ q. SizedOf p.tables needed (kinds_of h) q d.width d.count) ew z ∙ ap item_width eu

  right : (x : Place) (o : Spot) (v : CoreValue) → IsKeptPlace l x → spot p.tables l x ≡ Some o → value_at p.tables h x ≡ Some v
      → (o.home ≡ Ram) × IsRight o.column v
  right (OfComponent g) o v kx e ev =
      let y = component_there p.tables h g v ev in
      let kept = (holds.held (OfComponent g) o v kx e ev).0 in
      field_right g 0 o v y.0 e y.2 (has_type (OfComponent g) y.0.type_ v (component_place y.0 y.2 y.3) ev) kept
  right (OfObject j g) o v kx e ev =
      let w = field_there p.tables g (slice_get h.cells j) v ev in
      let y = owner_of p.tables w.0 g w.1 w.4 in
      let kept = (holds.held (OfObject j g) o v kx e ev).0 in
      field_right g (l.numbering.number j - first_with p.tables l g) o v y.0 e y.2
      (has_type (OfObject j g) y.0.type_ v (object_place y.0 y.2 y.3 (w.0, kind_in j (Object w.0 w.2) w.3, y.4)) ev) kept
  right (OfArray j i) o v kx e ev =
      let w = item_there i (slice_get h.cells j) v ev in
      let kept = (holds.held (OfArray j i) o v kx e ev).0 in
      let kind = kind_at j (Array w.0 w.1) w.2 in
      let u = type_at p.tables.types w.0 (all_listed j (ArrayOf w.0 (length w.1)) kind) in
      item_right w.0 i j (length w.1) o v u.0 kind kx w.3 e u.1
      (has_type (OfArray j i) u.0 v (array_place w.0 (length w.1) (kind_in j (Array w.0 w.1) w.2) u.1 w.3) ev) kept

  -- ---- entries

  abbrev StandsIn : Family → (c i : ℕ) → Type 0
  StandsIn cols i j = Stands p.tables h l IsRight cols i j

  blank : (i j : ℕ) → StandsIn (λ c1. numbers_in c1 (blank_rows c.list)) i j
  blank i j = by (blank_entry c.list i j)
    where
      by : (entry_in (blank_rows c.list) i j ≡ None) ⊎ (entry_in (blank_rows c.list) i j ≡ Some (Number 0)) → StandsIn (λ c1. numbers_in c1 (blank_rows c.list)) i j
      by (inl e) = nowhere (λ c1. entry_is c1 (blank_rows c.list) i j ∙ ap (option_map (number_in c1)) e)
      by (inr e) = nought (λ c1. entry_is c1 (blank_rows c.list) i j ∙ ap (option_map (number_in c1)) e)

  abbrev filled : Family
  filled = λ c1. with_places p.tables h l c1 (all_places p.tables h n) (numbers_in c1 (blank_rows c.list))

  stands : (i j : ℕ) → StandsIn (λ c1. numbers_in c1 f.columns) i j
  stands i j =
      as_before p.tables h l IsRight filled (λ c1. numbers_in c1 f.columns) i j (λ c1. ap (λ z. entry z i j) (made.columns c1))
      (stands_places p.tables h l IsRight right (all_places p.tables h n) (λ c1. numbers_in c1 (blank_rows c.list)) (all_kept l p.tables n (λ j. refl) h) blank i j)

  fits : (i j : ℕ) (d : Column) (e : Entry) → slice_get (ram_columns c.list) i ≡ Some d → entry_in f.columns i j ≡ Some e → EntryFits k d.width e
  fits i j d e ed ee = by (stands i j)
    where
      number : (c1 : Codes) → entry (numbers_in c1 f.columns) i j ≡ Some (number_in c1 e)
      number c1 = entry_is c1 f.columns i j ∙ ap (option_map (number_in c1)) ee

      by : StandsIn (λ c1. numbers_in c1 f.columns) i j → EntryFits k d.width e
      by (nowhere g) = absurd (none-some (number_in k e) (sym (g k) ∙ number k))
      by (nought g) = nought_fits k d.width e (λ c1. same_Some _ _ (sym (number c1) ∙ g c1))
      by (valued v (b, eb, t, a, ew, kept) g) =
          value_entry_fits l.numbering k small p.tables κ h.cells typed.cells v t d.width e a kept (ew ∙ ap (λ z. z.width) (same_Some b d (sym eb ∙ ed)))
          (λ c1. same_Some _ _ (sym (number c1) ∙ g c1))

  pub has_rows : HasRows k c.list f
  has_rows = record {
    lengths = from.lengths;
    entries = rows_fit k (ram_columns c.list) f.columns fits;
    rows = ap (map length) made.tables
        ∙ tables_long p.tables needed (kinds_of h) from.plan.items made.rows made.are_rows made.types made.fit c.list sized;
    arrays = subst (AllByRecursion (AllByRecursion ArrayFits)) (sym made.tables)
        (arrays_fit p.tables needed (kinds_of h) from.plan.items made.rows made.are_rows made.types made.fit c.list sized);
  }
