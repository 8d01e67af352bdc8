-- The columns and the tables of a packed program stand in linear code as it says.
use Rattle.std.proofs.Common.{◌≡◌, ◌⊎◌, refl, sym, ap, subst, ◌∙◌, arith, ℕ, zero, suc, ◌+◌, ◌*◌, ◌^◌, ◌<◌, ◌≤◌, List, length, map, option_map}
use Rattle.std.proofs.Common.{true, Option, Some, None, slice_get}
use Rattle.std.proofs.lemmas.Option.{slice_get-map, slice_get_within, slice_get_past}
use Rattle.std.proofs.lemmas.List.{length-map}
use mathlib.Core.Logic.{inl, inr}
use Rattle.vg_codes.specs.Codes.{Codes, AreCodes}
use Rattle.vg_core.specs.declared.heap.Heap.{Heap}
use Rattle.vg_core.specs.declared.member.Member.TheVariants.{Field as TheMember}
use Rattle.vg_core.specs.declared.program.Field.{Field}
use Rattle.vg_core.specs.declared.types.CoreType.{CoreType}
use Rattle.vg_core.specs.declared.types.CoreType.TheVariants.{IntType, BoolType, CharType, RawType, NullType, ClassType, ArrayType, FunctionType}
use Rattle.vg_core.specs.declared.types.CoreType.TheVariants.{NoType, MoreTypes}
use Rattle.vg_core.specs.declared.value.CoreValue.{CoreValue}
use Rattle.vg_core.specs.declared.value.CoreValue.TheVariants.{Int, Bool as Truth, Char, Raw, Null, Obj, Arr, Bound}
use Rattle.vg_core.specs.Heap.{Kind, ArrayOf, OfArray}
use Rattle.vg_core.specs.Program.{Program}
use Rattle.vg_core.specs.Tables.{field_type, type_in, top}
use Rattle.vg_core.specs.Types.{HasType}
use Rattle.vg_sound.specs.Good.{TypedHeap}
use Rattle.vg_sound.proofs.Cells.{array_place, get_typed}
use Rattle.vg_sound.proofs.Runs.{kinds_of_heap}
use Rattle.vg_firm.specs.declared.step.Elements.{Elements}
use Rattle.vg_firm.specs.declared.step.Home.{Home}
use Rattle.vg_firm.specs.declared.step.Home.TheVariants.{Ram}
use Rattle.vg_flatten_shapes.specs.declared.layout.Place.{Place}
use Rattle.vg_flatten_shapes.specs.declared.layout.Layout.{Layout as Placed}
use Rattle.vg_firm_typed.specs.Steps.{IsWidth, columns_of, HasColumn, HasWidth, HasTable, HasElements, LacksTable, LacksColumn}
use Rattle.vg_coded.specs.Widths.{width_of}
use Rattle.vg_coded.specs.Kept.{HasSmallNumbers}
use Rattle.vg_live.specs.declared.live_set.LiveSet.{LiveSet}
use Rattle.vg_live.specs.Rules.{Live, by}
use Rattle.vg_number.specs.declared.numbers.Numbers.{Numbers}
use Rattle.vg_number.specs.Numbering.{kinds_of, AreListed}
use Rattle.vg_numbers.specs.Keys.{class_key}
use Rattle.vg_numbers.specs.Numbers.{way, beside}
use Rattle.vg_packing.specs.Allowed.{IsSmall}
use Rattle.vg_packing.specs.Layout.{Column, Layout}
use Rattle.vg_packing.specs.Pass.{width_in}
use Rattle.vg_placement.specs.declared.column.Column as placement
use Rattle.vg_placement.specs.declared.column.Held.{Held}
use Rattle.vg_placement.specs.declared.column.Held.TheVariants.{Field as TheField}
use Rattle.vg_placement.specs.Columns.{Needs, items_count, item_width, column_width, all_columns}
use Rattle.vg_placement.specs.Needs.{needs}
use Rattle.vg_pack_code.specs.Plans.{items_in}
use Rattle.vg_place.specs.declared.placing.Columns.{Columns}
use Rattle.vg_place.proofs.Glue.{are_few}
use Rattle.vg_pack_calls.specs.Asked.{steps_from}
use Rattle.vg_plan.specs.Planned.{HasTables}
use Rattle.vg_plan_columns.specs.Items.{items_from, no_items}
use Rattle.vg_packed.specs.Apart.{held_in}
use Rattle.vg_packed.specs.IsPlaced.{IsPlaced}
use Rattle.vg_packed.specs.Plain.{IsRanged}
use Rattle.vg_packed.proofs.Counted.{two_bytes}
use Rattle.vg_packed.proofs.Listed.{listed}
use Rattle.vg_packed.proofs.Receivers.{slot_there}
use Rattle.vg_packed.proofs.Live.{is_of}
use Rattle.vg_packed.proofs.Placed.{is_placed}
use Rattle.vg_packed.specs.declared.program.FirmProgram.{FirmProgram}
use Rattle.vg_packed.specs.Given.{IsGiven}
use Rattle.vg_packed.specs.Packed.{IsPackedFrom, ram_columns}
use Rattle.vg_packed.specs.Plans.{planned}
use Rattle.vg_packed.specs.Programs.{program_of}
use Rattle.vg_packed.specs.Ready.{IsReady}
use Rattle.vg_packed_typed.specs.Suits.{Suits}
use Rattle.vg_plan_laws.proofs.Items.{entry, Same}
use Rattle.vg_plan_laws.proofs.Listed.{All, Right, RightOf, all_get, all_right, few_columns}
use Rattle.vg_plan_laws.proofs.Rams.{held_in_ram}
use Rattle.vg_plan_laws.proofs.Sizes.{Sized, SizedOf, all_sized}
use Rattle.vg_table_bytes.specs.Rows.{tables_in}
use Rattle.vg_packed_suits.specs.Standing.{StandIn}
use Rattle.vg_packed_suits.specs.Bodies.{HaveSmallFields}
use Rattle.vg_packed_suits.proofs.Numbers.{value_small, few_before, few_inside, few_objects}
use Rattle.vg_packed_suits.proofs.Filled.{all_ram, all_tables, few_ram, at_column, Behind, all_behind, Filled, items_filled, all_filled, some_array}
use Rattle.vg_packed_suits.proofs.Noted.{Noted, items_noted}

-- ---- widths

width_small : (t : CoreType) → IsSmall t → width_of t ≤ 4
width_small IntType h = omega arith
width_small BoolType h = omega arith
width_small CharType h = omega arith
width_small (RawType k) h = omega (arith, h)
width_small NullType h = omega arith
width_small (ClassType c) h = omega arith
width_small (ArrayType t) h = omega arith
width_small (FunctionType ps r) h = omega arith
width_small NoType h = omega arith
width_small (MoreTypes a b) h = omega arith

-- the type of a value in its range is small
type_small : (p : Program) (κ : List Kind) (v : CoreValue) (t : CoreType) → HasType p.tables κ v t → IsRanged v → IsSmall t
type_small p κ v IntType a r = tt
type_small p κ v BoolType a r = tt
type_small p κ v CharType a r = tt
type_small p κ (Raw j x) (RawType k) a r = subst (λ z. z ≤ 32) a r.0
type_small p κ (Int z) (RawType k) a r = absurd a
type_small p κ (Truth b) (RawType k) a r = absurd a
type_small p κ (Char c) (RawType k) a r = absurd a
type_small p κ Null (RawType k) a r = absurd a
type_small p κ (Obj j) (RawType k) a r = absurd a
type_small p κ (Arr j) (RawType k) a r = absurd a
type_small p κ (Bound o m) (RawType k) a r = absurd a
type_small p κ v NullType a r = tt
type_small p κ v (ClassType c) a r = tt
type_small p κ v (ArrayType t) a r = tt
type_small p κ v (FunctionType ps q) a r = tt
type_small p κ v NoType a r = tt
type_small p κ v (MoreTypes b c) a r = tt

-- what has some bytes in all has some in each
some_of : (w m : ℕ) → 0 < w * m → 0 < m
some_of w zero h = absurd (omega (arith, h))
some_of w (suc m) h = omega arith

field_within : (p : Program) (h : Heap) (f : ℕ) → Live p h (Some (TheMember f)) → f < length p.tables.fields
field_within p h f (by rule there a b) = there

abbrev place_of : placement.Column → Place
place_of d = record { address = d.at; width = d.width; count = d.count }

module _ (p : Program) (h : Heap) (s : LiveSet) (n : Numbers) (c : Columns) (f : FirmProgram) (given : IsGiven p h s n c) (ready : IsReady p h)
    (fields : HaveSmallFields p.tables) (from : IsPackedFrom p h s n c f)
    (is : HasTables p.tables (kinds_of h) s c.list (steps_from p 0 s.methods) from.plan) (k : Codes) (are : AreCodes (length f.procedures) k)
    (lay : Placed) (stand : StandIn c.list lay) where
  abbrev l : Layout
  l = planned h n from.plan

  abbrev needed : Needs
  needed = needs p (kinds_of h) s

  abbrev κ : List Kind
  κ = given.heap.0

  typed : TypedHeap p.tables κ h
  typed = given.heap.1

  same_kinds : κ ≡ kinds_of h
  same_kinds = kinds_of_heap p.tables κ h typed

  all_listed : AreListed p.tables (kinds_of h)
  all_listed = listed p.tables h given.heap

  placed : IsPlaced p l k (program_of k f)
  placed = is_placed p h s n c f given ready from k are

  small : HasSmallNumbers l.numbering k
  small = record { cells = two_bytes p.tables placed.chains l placed.kept placed.counted placed.few; codes = placed.codes }

  -- ---- columns

  sized : All (Sized p.tables needed (kinds_of h)) (ram_columns c.list)
  sized =
      all_ram (Sized p.tables needed (kinds_of h)) c.list
      (subst (All (Sized p.tables needed (kinds_of h))) (sym given.columns.list) (all_sized p.tables needed (kinds_of h) all_listed 0x0100 0x008C))

  right : All (Right p.tables needed (kinds_of h)) (ram_columns c.list)
  right =
      all_ram (Right p.tables needed (kinds_of h)) c.list
      (subst (All (Right p.tables needed (kinds_of h))) (sym given.columns.list) (all_right p.tables needed (kinds_of h) 0x0100 0x008C))

  filled : All Filled (ram_columns c.list)
  filled = all_ram Filled c.list (subst (All Filled) (sym given.columns.list) (all_filled p.tables needed (kinds_of h) 0x0100 0x008C))

  few_listed : length c.list < 65536
  few_listed =
      subst (λ z. length z < 65536) (sym given.columns.list)
      (few_columns p.tables needed (kinds_of h) 0x0100 0x008C (are_few h h.cells refl given.few_values) given.columns.fits)

  -- where the column of this number stands
  there : (i : ℕ) (d : placement.Column) → slice_get (ram_columns c.list) i ≡ Some d → slice_get lay.ram i ≡ Some (place_of d)
  there i d e =
      ap (λ z. slice_get z i) stand.ram ∙ slice_get-map place_of (ram_columns c.list) i ∙ ap (option_map place_of) e

  in_ram : (home : Home) (i : ℕ) (d : placement.Column) → home ≡ Ram → slice_get (ram_columns c.list) i ≡ Some d
      → slice_get (columns_of lay home) i ≡ Some (place_of d)
  in_ram home i d eh e = ap (λ z. slice_get (columns_of lay z) i) eh ∙ there i d e

  -- ---- fields

  abbrev HasField : (g : ℕ) → Column → Type 0
  HasField g a =
      (d : placement.Column) × (slice_get (ram_columns c.list) a.column ≡ Some d) × (a.home ≡ Ram) × (width_in l (field_type p.tables g) ≡ d.width)
      × IsWidth d.width

  has_field : (g : ℕ) (a : Column) → l.column g ≡ Some a → HasField g a
  has_field g a e = of_type (slot_there p.tables.fields g (field_within p h g ((is_of p h s n c f given ready from k).only_fields g a e)))
    where
      home : a.home ≡ Ram
      home = from.is_plan.field_homes g a e

      wide : (y : Field) (w : Held) (width count : ℕ) → slice_get p.tables.fields g ≡ Some y → w ≡ TheField g
          → SizedOf p.tables needed (kinds_of h) w width count → width ≡ column_width y.type_
      wide y w width count ey ew z = subst (λ q. SizedOf p.tables needed (kinds_of h) q width count) ew z y ey

      of_type : (y : Field) × (slice_get p.tables.fields g ≡ Some y) → HasField g a
      of_type (y, ey) =
          let r = held_in_ram c.list a.column (TheField g)
          (subst (λ z. slice_get (held_in z c.list) a.column ≡ Some (TheField g)) home (from.is_plan.has_columns.fields g a e)) in
          let d = r.1 in
          let w : d.width ≡ column_width y.type_ =
          wide y d.what d.width d.count ey r.3 (all_get (Sized p.tables needed (kinds_of h)) (ram_columns c.list) a.column d sized r.4) in
          let pos = ready.wide g y ey in
          let top : column_width y.type_ ≤ 4 = width_small y.type_ (fields g y ey) in (
            d,
            r.4,
            home,
            ap (λ z. width_in l (type_in z)) ey ∙ sym w,
            (omega (arith, w, pos), omega (arith, w, top)),
          )

  columns_there : (g : ℕ) (a : Column) → l.column g ≡ Some a → HasColumn (columns_of lay a.home) a.column
  columns_there g a e = let r = has_field g a e in (place_of r.0, in_ram a.home a.column r.0 r.2 r.1, r.4)

  fields_there : (g : ℕ) (a : Column) → l.column g ≡ Some a → a.home ≡ Ram → HasWidth lay.ram a.column (width_in l (field_type p.tables g))
  fields_there g a e eh =
      let r = has_field g a e in (place_of r.0, there a.column r.0 r.1, subst IsWidth (sym r.3) r.4, r.3)

  -- ---- tables

  table_low : (i a : ℕ) → slice_get lay.tables i ≡ Some a → 4 ≤ a
  table_low i a e =
      let behind =
      all_tables Behind c.list
      (subst (All Behind) (sym given.columns.list) (all_behind 0x0100 0x008C (all_columns p.tables needed (kinds_of h)) (omega arith) (omega arith))) in
      let r = at_column Behind (tables_in c.list) i a behind (ap (λ z. slice_get z i) (sym stand.tables) ∙ e) in
      let x = r.1 in let y = r.2 in omega (arith, x, y)

  has_table : (i : ℕ) → HasTable lay i ⊎ LacksTable lay i
  has_table i = at (slice_get lay.tables i) refl
    where
      at : (o : Option ℕ) → slice_get lay.tables i ≡ o → HasTable lay i ⊎ LacksTable lay i
      at (Some a) e = inl (a, e, table_low i a e)
      at None e = inr e

  -- ---- elements

  abbrev all : List Elements
  all = items_from 0 0 0 c.list (map no_items p.tables.types)

  same_items : (t : ℕ) → entry all t ≡ l.items t
  same_items t = ap (λ z. entry z t) (sym is.items)

  -- no column has the number that stands for none
  no_column_there : (home : Home) (i : ℕ) → home ≡ Ram → i ≡ 65535 → slice_get (columns_of lay home) i ≡ None
  no_column_there home i eh ei =
      ap (λ z. slice_get (columns_of lay z) i) eh
      ∙ slice_get_past lay.ram i
      (let a = ap length stand.ram in
      let b = length-map (ram_columns c.list) place_of in
      let few = few_ram c.list in let m = few_listed in omega (arith, a, b, few, m, ei))

  -- a type of which elements have a column is small, and has bytes
  item_wide : (t : ℕ) (e : CoreType) → slice_get p.tables.types t ≡ Some e → 0 < items_count needed.kept t (kinds_of h) → IsWidth (column_width e)
  item_wide t e q some = of_array (some_array needed.kept t 0 (kinds_of h) (length (kinds_of h)) some)
    where
      of_array : (j : ℕ) × (size : ℕ) × (slice_get (kinds_of h) j ≡ Some (ArrayOf t (suc size))) × (needed.kept (0 + j) ≡ true) → IsWidth (column_width e)
      of_array (j, size, ej, kj) =
          let v = get_typed p.tables given.typed.tables κ h typed (OfArray j 0) e
          (array_place t (suc size) (ap (λ z. slice_get z j) same_kinds ∙ ej) q (omega arith)) in
          let pos = given.wide j t (suc size) e ej q in
          let top = width_small e (type_small p κ v.0 e v.2 (ready.ranged (OfArray j 0) v.0 v.1)) in (omega (arith, pos), top)

  abbrev Stand : (t : ℕ) → Type 0
  Stand t =
      HasElements lay (columns_of lay (l.items t).home) (l.items t)
      ⊎ (LacksTable lay (l.items t).table ⊎ LacksColumn lay (columns_of lay (l.items t).home) (l.items t))

  items_there : (t : ℕ) (e : CoreType) → slice_get p.tables.types t ≡ Some e → Stand t
  items_there t e q = with_table (has_table (l.items t).table)
    where
      lt : t < length (map no_items p.tables.types)
      lt = let a = slice_get_within p.tables.types t e q in let b = length-map p.tables.types no_items in omega (arith, a, b)

      home : (l.items t).home ≡ Ram
      home = from.is_plan.item_homes t

      before : entry (map no_items p.tables.types) t ≡ no_items e
      before = ap items_in (slice_get-map no_items p.tables.types t ∙ ap (option_map no_items) q)

      noted : Same (l.items t) (entry (map no_items p.tables.types) t) ⊎ Noted 0 c.list t (l.items t)
      noted =
          subst (λ z. Same z (entry (map no_items p.tables.types) t) ⊎ Noted 0 c.list t z) (same_items t)
          (items_noted c.list 0 0 0 (map no_items p.tables.types) t lt (ap (λ z. z.home) (same_items t) ∙ home))

      of_column : HasTable lay (l.items t).table → Noted 0 c.list t (l.items t) → Stand t
      of_column table (i, d, ei, ed, ew, ea) =
          let at : (l.items t).column ≡ i = omega (arith, ei) in
          let wide : d.width ≡ item_width (slice_get p.tables.types t) =
          subst (λ z. SizedOf p.tables needed (kinds_of h) z d.width d.count) ew
          (all_get (Sized p.tables needed (kinds_of h)) (ram_columns c.list) i d sized ed) in
          let count : d.count ≡ items_count needed.kept t (kinds_of h) =
          (subst (λ z. RightOf p.tables needed (kinds_of h) z d.home d.width d.count) ew
          (all_get (Right p.tables needed (kinds_of h)) (ram_columns c.list) i d right ed)).2 in
          let some = some_of d.width d.count (items_filled d t ew (all_get Filled (ram_columns c.list) i d filled ed)) in
          let width : (l.items t).width ≡ column_width e = from.is_plan.item_widths t e q in inl (
            place_of d,
            ap (λ z. slice_get (columns_of lay (l.items t).home) z) at ∙ in_ram (l.items t).home i d home ed,
            ea,
            width ∙ sym (wide ∙ ap item_width q),
            subst IsWidth (sym width) (item_wide t e q (omega (arith, some, count))),
            table,
          )

      with_table : HasTable lay (l.items t).table ⊎ LacksTable lay (l.items t).table → Stand t
      with_table (inr none) = inr (inl none)
      with_table (inl table) = by_column noted
        where
          by_column : Same (l.items t) (entry (map no_items p.tables.types) t) ⊎ Noted 0 c.list t (l.items t) → Stand t
          by_column (inr r) = of_column table r
          by_column (inl (x, y, z)) =
              inr (inr (no_column_there (l.items t).home (l.items t).column home (y ∙ ap (λ w. w.column) before), table))

  -- ---- all of it

  classes_small : (d : ℕ) → l.first d + l.count d < 2 ^ 32
  classes_small d =
      let a = placed.counted.firsts d in
      let b = placed.counted.counts d in
      let os = beside p.tables l.kinds placed.kept d in
      let x = few_before os (class_key (way p.tables d)) in
      let y = few_inside os (class_key (way p.tables d)) in
      let z = few_objects p.tables (top p.tables d) placed.kept 0 l.kinds in let m = placed.few in omega (arith, a, b, x, y, z, m)

  cells_small : (j : ℕ) → l.numbering.number j < 2 ^ 32
  cells_small j = let a = small.cells j in omega (arith, a)

  pub suits : Suits p.tables l k lay
  suits = record {
    values = value_small l.numbering k small;
    cells = cells_small;
    classes = classes_small;
    columns = columns_there;
    fields = fields_there;
    items = items_there;
    tables = λ t. has_table (l.items t).table;
  }
