-- What a plan says of columns and tables.
use Rattle.std.proofs.Common.{◌≡◌, ◌⊎◌, refl, sym, ap, subst, ◌∙◌, arith, ℕ, zero, suc, ◌+◌, ◌-◌, ◌*◌, ◌<◌, ◌≤◌, true, List, [], ◌∷◌, length, map, replicate, get_or, Option, Some, None, slice_get}
use Rattle.std.proofs.lemmas.Option.{same_Some, none-some, slice_get_within, slice_get_past}
use Rattle.std.proofs.lemmas.List.{length-map, length-replicate}
use mathlib.Core.Logic.{inl, inr}
use Rattle.vg_core.specs.declared.heap.Heap.{Heap}
use Rattle.vg_core.specs.declared.program.Tables.{Tables}
use Rattle.vg_core.specs.declared.types.CoreType.{CoreType}
use Rattle.vg_core.specs.Heap.{Kind, ArrayOf}
use Rattle.vg_core.specs.Program.{Program}
use Rattle.vg_firm.specs.declared.step.ArrayPlace.{ArrayPlace}
use Rattle.vg_firm.specs.declared.step.Elements.{Elements}
use Rattle.vg_firm.specs.declared.step.Home.{Home}
use Rattle.vg_firm.specs.declared.step.Home.TheVariants.{Ram, Flash}
use Rattle.vg_firm.specs.Meaning.{arrays_of}
use Rattle.vg_live.specs.declared.live_set.LiveSet.{LiveSet}
use Rattle.vg_live.specs.Sets.{flat}
use Rattle.vg_number.specs.declared.numbers.Numbers.{Numbers}
use Rattle.vg_number.specs.Numbering.{kept_in, kinds_of, AreListed}
use Rattle.vg_numbers.specs.Numbers.{arrays_before, numbered}
use Rattle.vg_pack_calls.specs.Asked.{steps_from}
use Rattle.vg_pack_code.specs.declared.plan.ColumnPlace.{ColumnPlace}
use Rattle.vg_pack_code.specs.declared.plan.Plan.{Plan}
use Rattle.vg_pack_code.specs.Plans.{column_of, items_in}
use Rattle.vg_packed.proofs.Listed.{listed}
use Rattle.vg_packing.specs.Layout.{Column}
use Rattle.vg_placement.specs.declared.column.Column as placement
use Rattle.vg_placement.specs.declared.column.Held.{Held}
use Rattle.vg_placement.specs.declared.column.Held.TheVariants.{Initial, Field as TheField, Elements as TheItems, Table as TheTable}
use Rattle.vg_placement.specs.Columns.{Needs, start_of, item_width, column_width, placed, all_columns}
use Rattle.vg_placement.specs.Needs.{needs}
use Rattle.vg_place.specs.declared.placing.Columns.{Columns}
use Rattle.vg_place.specs.Counting.{elements_in}
use Rattle.vg_place.proofs.Glue.{are_small}
use Rattle.vg_packed.specs.Apart.{held_where, held_in, HasColumns}
use Rattle.vg_packed.specs.Counted.{IsCounted}
use Rattle.vg_plan.specs.Planned.{HasTables}
use Rattle.vg_plan_columns.specs.Arrays.{place_at, tables_of, AreRows, Fit}
use Rattle.vg_plan_columns.specs.Items.{items_from, no_items}
use Rattle.vg_packed.specs.Given.{IsGiven}
use Rattle.vg_packed.specs.Plans.{planned}
use Rattle.vg_plan_laws.specs.Stands.{StandsIn, AreTabled}
use Rattle.vg_plan_laws.proofs.Fields.{from_none, found, fields_stand}
use Rattle.vg_plan_laws.proofs.Items.{entry, Same, Stood, items_stood}
use Rattle.vg_plan_laws.proofs.Listed.{All, Right, RightOf, all_right}
use Rattle.vg_plan_laws.proofs.Counted.{is_counted, is_kept, within_or_past}
use Rattle.vg_plan_laws.proofs.Tables.{type_at, none_at, width_is, fit, item_column, array_there, same_length}

-- no field and no element stands in flash
module _ (p : Tables) (n : Needs) (κ : List Kind) where
  flash_field : (ds : List placement.Column) → All (Right p n κ) ds → (k f : ℕ) → slice_get (held_in Flash ds) k ≡ Some (TheField f) → ⊥
  flash_field [] a k f e = none-some (TheField f) e
  flash_field (d ∷ ds) (r, a) k f e = by d.what d.home r k (λ j g. flash_field ds a j f g) e
    where
      by : (w : Held) (h : Home) → RightOf p n κ w h d.width d.count → (k : ℕ)
          → ((j : ℕ) → slice_get (held_in Flash ds) j ≡ Some (TheField f) → ⊥) → slice_get (held_where Flash h w (held_in Flash ds)) k ≡ Some (TheField f) → ⊥
      by w Ram r k rest e = rest k e
      by w Flash r (suc k) rest e = rest k e
      by Initial Flash r zero rest e = let clash = same_Some Initial (TheField f) e in absurd (let q : Initial ≡ TheField f = clash in cc)
      by (TheField y) Flash r zero rest e = absurd (let q : Flash ≡ Ram = r.0 in cc)
      by (TheItems t) Flash r zero rest e = absurd (let q : Flash ≡ Ram = r.0 in cc)
      by (TheTable t) Flash r zero rest e = absurd (let q : TheTable t ≡ TheField f = same_Some (TheTable t) (TheField f) e in cc)

  flash_items : (ds : List placement.Column) → All (Right p n κ) ds → (k u : ℕ) → slice_get (held_in Flash ds) k ≡ Some (TheItems u) → ⊥
  flash_items [] a k u e = none-some (TheItems u) e
  flash_items (d ∷ ds) (r, a) k u e = by d.what d.home r k (λ j g. flash_items ds a j u g) e
    where
      by : (w : Held) (h : Home) → RightOf p n κ w h d.width d.count → (k : ℕ)
          → ((j : ℕ) → slice_get (held_in Flash ds) j ≡ Some (TheItems u) → ⊥) → slice_get (held_where Flash h w (held_in Flash ds)) k ≡ Some (TheItems u) → ⊥
      by w Ram r k rest e = rest k e
      by w Flash r (suc k) rest e = rest k e
      by Initial Flash r zero rest e = absurd (let q : Initial ≡ TheItems u = same_Some Initial (TheItems u) e in cc)
      by (TheField y) Flash r zero rest e = absurd (let q : Flash ≡ Ram = r.0 in cc)
      by (TheItems t) Flash r zero rest e = absurd (let q : Flash ≡ Ram = r.0 in cc)
      by (TheTable t) Flash r zero rest e = absurd (let q : TheTable t ≡ TheItems u = same_Some (TheTable t) (TheItems u) e in cc)

  field_in_ram : (ds : List placement.Column) → All (Right p n κ) ds → (h : Home) (k f : ℕ) → slice_get (held_in h ds) k ≡ Some (TheField f) → h ≡ Ram
  field_in_ram ds a Ram k f e = refl
  field_in_ram ds a Flash k f e = absurd (flash_field ds a k f e)

  items_in_ram : (ds : List placement.Column) → All (Right p n κ) ds → (h : Home) (k u : ℕ) → slice_get (held_in h ds) k ≡ Some (TheItems u) → h ≡ Ram
  items_in_ram ds a Ram k u e = refl
  items_in_ram ds a Flash k u e = absurd (flash_items ds a k u e)

module _ (p : Program) (h : Heap) (s : LiveSet) (n : Numbers) (c : Columns) (x : Plan) (g : IsGiven p h s n c)
    (is : HasTables p.tables (kinds_of h) s c.list (steps_from p 0 s.methods) x) where
  abbrev κ : List Kind
  κ = kinds_of h

  abbrev needed : Needs
  needed = needs p (kinds_of h) s

  abbrev ds : List placement.Column
  ds = placed 0x0100 0x008C (all_columns p.tables (needs p (kinds_of h) s) (kinds_of h))

  abbrev all : List Elements
  all = items_from 0 0 0 (placed 0x0100 0x008C (all_columns p.tables (needs p (kinds_of h) s) (kinds_of h))) (map no_items p.tables.types)

  items_is : x.items ≡ all
  items_is = is.items ∙ ap (λ z. items_from 0 0 0 z (map no_items p.tables.types)) g.columns.list

  same : (t : ℕ) → items_in (slice_get x.items t) ≡ entry all t
  same t = ap (λ z. items_in (slice_get z t)) items_is

  listed_all : AreListed p.tables κ
  listed_all = listed p.tables h g.heap

  few : elements_in κ ≤ 60000
  few = are_small h h.cells refl g.few_values

  right : All (Right p.tables needed κ) ds
  right = all_right p.tables needed κ 0x0100 0x008C

  kept_at : (j : ℕ) → 0 < get_or n.of_cell j 0 → kept_in s j ≡ true
  kept_at j pos = is_kept p.tables κ (kept_in s) n x g.numbers j pos

  counted : IsCounted p.tables (planned h n x) (kept_in s)
  counted = is_counted p.tables κ (kept_in s) n x g.numbers

  -- the type of an array's elements takes bytes
  wide_at : (j t size : ℕ) → slice_get κ j ≡ Some (ArrayOf t size) → (e : CoreType) × (slice_get p.tables.types t ≡ Some e) × (0 < column_width e)
  wide_at j t size e = let u = type_at p.tables.types t (listed_all j (ArrayOf t size) e) in (u.0, u.1, g.wide j t size u.0 e u.1)

  item_wide : (j t size : ℕ) → slice_get κ j ≡ Some (ArrayOf t size) → 0 < item_width (slice_get p.tables.types t)
  item_wide j t size e = let w = wide_at j t size e in subst (λ z. 0 < item_width z) (sym w.1) w.2

  stood_column : (t : ℕ) → Stood 0 0 ds t (entry all t)
      → slice_get (held_in (items_in (slice_get x.items t)).home c.list) (items_in (slice_get x.items t)).column ≡ Some (TheItems t)
  stood_column t (k, ek, es, at) =
      subst (λ e. slice_get (held_in e.home c.list) e.column ≡ Some (TheItems t)) (sym (same t))
      (subst (λ z. slice_get (held_in (entry all t).home z) (entry all t).column ≡ Some (TheItems t)) (sym g.columns.list)
      (ap (slice_get (held_in (entry all t).home ds)) (let z = from_none (entry all t).home in omega (arith, ek, z)) ∙ es))

  field_stands : (f : ℕ) (b : Column) → column_of (flat (slice_get x.columns f)) ≡ Some b → slice_get (held_in b.home c.list) b.column ≡ Some (TheField f)
  field_stands f b e = fields_stand c.list (length p.tables.fields) f b (ap (λ z. column_of (flat (slice_get z f))) (sym is.columns) ∙ e)

  has_columns : HasColumns (planned h n x) (kept_in s) c.list
  has_columns = record {
    fields = field_stands;
    items = λ j t size a. stood_column t (item_column p.tables needed κ g.columns.fits listed_all j t size a.0 (kept_at j a.1) (item_wide j t (suc size) a.0));
    starts = λ j t size a. is.starts.each j t size (slice_get_within κ j (ArrayOf t size) a.0) a.0;
    kept_cells = kept_at;
  }

  abbrev nothing : Option ColumnPlace
  nothing = None

  column_found : (f : ℕ) (o : Option (Option ColumnPlace)) (b : ColumnPlace) → flat o ≡ Some b → (d : Column) × (column_of (flat o) ≡ Some d)
  column_found f o b e = (_, ap column_of e)

  field_columns : (f i : ℕ) (a : placement.Column) → f < length p.tables.fields → slice_get c.list i ≡ Some a → a.what ≡ TheField f
      → (b : Column) × (column_of (flat (slice_get x.columns f)) ≡ Some b)
  field_columns f i a lt e q =
      let r = found c.list 0 0 (replicate (length p.tables.fields) nothing) f i a
      (let l = length-replicate (length p.tables.fields) nothing in omega (arith, lt, l)) e q in
      column_found f (slice_get x.columns f) r.0 (ap (λ z. flat (slice_get z f)) is.columns ∙ r.1)

  item_home : (t : ℕ) → (items_in (slice_get x.items t)).home ≡ Ram
  item_home t = by (within_or_past t (length p.tables.types))
    where
      of_type : Same (entry all t) (entry (map no_items p.tables.types) t) ⊎ Stood 0 0 ds t (entry all t) → t < length p.tables.types → (entry all t).home ≡ Ram
      of_type (inr (k, ek, es, a)) lt = items_in_ram p.tables needed κ ds right (entry all t).home k t es
      of_type (inl q) lt = let u = type_at p.tables.types t lt in q.0 ∙ ap (λ z. z.home) (none_at p.tables needed κ g.columns.fits t u.0 u.1)

      by : (t < length p.tables.types) ⊎ (length p.tables.types ≤ t) → (items_in (slice_get x.items t)).home ≡ Ram
      by (inl lt) =
          ap (λ z. z.home) (same t)
          ∙ of_type (items_stood ds 0 0 0 (map no_items p.tables.types) t (let l = length-map p.tables.types no_items in omega (arith, lt, l))) lt
      by (inr le) =
          ap (λ z. (items_in z).home) (slice_get_past x.items t
          (let a = ap length items_is in let b = same_length p.tables needed κ g.columns.fits in omega (arith, le, a, b)))

  pub stands_in : StandsIn p h s n c x
  stands_in = record {
    counted = counted;
    has_columns = has_columns;
    field_columns = field_columns;
    field_homes = λ f b e. field_in_ram p.tables needed κ c.list (subst (All (Right p.tables needed κ)) (sym g.columns.list) right) b.home b.column f (field_stands f b e);
    item_homes = item_home;
    item_widths = λ t e q. ap (λ z. z.width) (same t) ∙ width_is p.tables needed κ g.columns.fits t e q (slice_get_within p.tables.types t e q);
  }

  pub fits : Fit κ (kept_in s) x.items
  fits = subst (Fit κ (kept_in s)) (sym items_is) (fit p.tables needed κ g.columns.fits listed_all few)

  pub are_tabled : (rows : List (List ArrayPlace)) → AreRows κ (kept_in s) x.items (length κ) rows → AreTabled h n x (tables_of rows c.list)
  are_tabled rows are j t size (e, pos) = record {
    place = place_at (entry all t) (start_of (kept_in s) t 0 κ j) size;
    there =
        ap (λ z. slice_get (arrays_of (slice_get (tables_of rows c.list) z.table)) (get_or n.of_cell j 0 - 1)) (same t)
        ∙ (ap (λ z. slice_get (arrays_of (slice_get (tables_of rows z) (entry all t).table)) (get_or n.of_cell j 0 - 1)) g.columns.list
        ∙ (ap (λ z. slice_get (arrays_of (slice_get (tables_of rows ds) (entry all t).table)) z) number_is
        ∙ array_there p.tables needed κ g.columns.fits rows listed_all (subst (λ z. AreRows κ (kept_in s) z (length κ) rows) items_is are) j t size e
        (kept_at j pos) (same_length p.tables needed κ g.columns.fits)));
    length_is = refl;
    short = let w = (fit p.tables needed κ g.columns.fits listed_all few j t size e (kept_at j pos)).0 in omega (arith, w);
    wide = λ some. let w = wide_at j t size e in subst (λ z. 0 < z) (sym (ap (λ z. z.width) (same t) ∙ width_is p.tables needed κ g.columns.fits t w.0 w.1
        (listed_all j (ArrayOf t size) e))) w.2;
    stands = λ some. ap (λ z. z.address + z.width * start_of (kept_in s) t 0 κ j) (sym (same t))
        ∙ ap (λ z. (items_in (slice_get x.items t)).address + (items_in (slice_get x.items t)).width * z)
        (sym (is.starts.each j t size (slice_get_within κ j (ArrayOf t size) e) e));
  }
    where
      number_is : get_or n.of_cell j 0 - 1 ≡ arrays_before t (kept_in s) 0 κ j
      number_is =
          let q : get_or n.of_cell j 0 ≡ 1 + arrays_before t (kept_in s) 0 κ j =
          counted.numbers j ∙ (ap (λ z. numbered p.tables κ (kept_in s) j z (slice_get κ j)) (kept_at j pos) ∙ ap (numbered p.tables κ (kept_in s) j true) e) in
          omega (arith, q)
