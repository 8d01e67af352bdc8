-- What the parts of a packed program give.
use Rattle.std.proofs.Common.{◌≡◌, refl, sym, ap, subst, ◌∙◌, arith, ℕ, ◌-◌, ◌<◌, ◌≤◌, ◌^◌, List, length, map, Option, Some, None, slice_get}
use Rattle.std.proofs.lemmas.List.{length-map}
use Rattle.vg_codes.specs.Codes.{Codes}
use Rattle.vg_core.specs.declared.heap.Cell.{Cell}
use Rattle.vg_core.specs.declared.heap.Heap.{Heap}
use Rattle.vg_core.specs.declared.program.Handler.{Handler}
use Rattle.vg_core.specs.declared.value.CoreValue.{CoreValue}
use Rattle.vg_core.specs.Heap.{Place, kind_of, value_at}
use Rattle.vg_core.specs.Program.{Program}
use Rattle.vg_core.specs.Session.{handler_of}
use Rattle.vg_coded.specs.Numbers.{coded, known}
use Rattle.vg_firm.specs.declared.step.ArrayPlace.{ArrayPlace}
use Rattle.vg_firm.specs.declared.step.Elements.{Elements}
use Rattle.vg_firm.specs.Held.{procedure_of}
use Rattle.vg_firm.specs.Meaning.{arrays_of, entry}
use Rattle.vg_live.specs.declared.live_set.LiveSet.{LiveSet}
use Rattle.vg_live.specs.declared.live_set.Reason.{Reason}
use Rattle.vg_live.specs.Sets.{flat}
use Rattle.vg_number.specs.declared.numbers.Numbers.{Numbers}
use Rattle.vg_number.specs.Numbering.{has_reason, kept_in, kinds_of, AreListed, AreFew}
use Rattle.vg_packing.specs.Allowed.{IsArray}
use Rattle.vg_packing.specs.Laid.{SameEntry, IsTabled}
use Rattle.vg_packing.specs.Layout.{Spot, spot}
use Rattle.vg_packing.specs.Packs.{IsKeptPlace, columns_at, entry_at}
use Rattle.vg_pack_bodies.specs.Procedures.{packed_methods}
use Rattle.vg_packed.proofs.Listed.{listed}
use Rattle.vg_place.specs.declared.placing.Columns.{Columns}
use Rattle.vg_place.specs.Counting.{elements_in}
use Rattle.vg_place.proofs.Glue.{are_few, are_small}
use Rattle.vg_placement.specs.declared.column.Column.{Column}
use Rattle.vg_placement.specs.Needs.{needs}
use Rattle.vg_packed.specs.declared.program.FirmProgram.{FirmProgram}
use Rattle.vg_packed.specs.Given.{IsGiven}
use Rattle.vg_packed.specs.Packed.{IsPackedFrom}
use Rattle.vg_packed.specs.Plans.{planned}
use Rattle.vg_packed.specs.Programs.{handler_in, program_of}
use Rattle.vg_plan.specs.declared.planning.Planned.{Planned}
use Rattle.vg_pack_calls.specs.Asked.{steps_from}
use Rattle.vg_packed_suits.proofs.Bodies.{all_typed}
use Rattle.vg_plan.specs.Planned.{HasTables, Plans}
use Rattle.vg_plan_columns.specs.Arrays.{AreRows, Fit, tables_of}
use Rattle.vg_plan_columns.specs.Items.{no_items}
use Rattle.vg_plan_columns.specs.Starts.{HasStarts}
use Rattle.vg_pack_values.specs.Columns.{blank_rows, numbers_in}
use Rattle.vg_pack_values.specs.Places.{all_places, with_places}
use Rattle.vg_plan_laws.specs.Stands.{StandsIn}
use Rattle.vg_plan_laws.proofs.Entered.{Same, main_procedure, handler_procedures, same_lengths}
use Rattle.vg_plan_laws.proofs.Filled.{values_stand}
use Rattle.vg_plan_laws.proofs.Items.{items_length}
use Rattle.vg_plan_laws.proofs.Listed.{few_columns}
use Rattle.vg_plan_laws.proofs.Planned.{stands_in, fits, are_tabled}
use Rattle.vg_plan_laws.specs.Made.{IsMade}
use Rattle.vg_plan_laws.proofs.WholeRows.{has_rows}
use Rattle.vg_pack.specs.Entrances.{entrance}
use Rattle.vg_pack.specs.Rows.{IsPackedWhole}
use Rattle.vg_plan_laws.proofs.Whole.{is_plan, dispatches_planned}

module _ (p : Program) (h : Heap) (s : LiveSet) (n : Numbers) (c : Columns) (g : IsGiven p h s n c) where
  pub all_listed : AreListed p.tables (kinds_of h)
  all_listed = listed p.tables h g.heap

  pub few_cells : AreFew (kinds_of h)
  few_cells = are_few h h.cells refl g.few_values

  pub few_elements : elements_in (kinds_of h) ≤ 60000
  few_elements = are_small h h.cells refl g.few_values

  pub few_live : length s.methods < 65536
  few_live = let l = g.live.methods in let f = g.few_methods in omega (arith, l, f)

  pub few_columns_ : length c.list < 65536
  few_columns_ =
      subst (λ z. length z < 65536) (sym g.columns.list)
      (few_columns p.tables (needs p (kinds_of h) s) (kinds_of h) 0x0100 0x008C few_cells g.columns.fits)

  pub few_in_heap : length h.cells < 2 ^ 32
  few_in_heap = let l = length-map h.cells kind_of in let f = few_cells in omega (arith, l, f)

  pub few_listed : (list : List Column) → list ≡ c.list → length list < 65536
  few_listed list e = subst (λ z. length z < 65536) (sym e) few_columns_

  pub planned_of : (list : List Column) (x : Planned) → list ≡ c.list → Plans p h s n list x → Plans p h s n c.list x
  planned_of list x e plans = subst (λ z. Plans p h s n z x) e plans

  module _ (x : Planned) (plans : Plans p h s n c.list x) where
    pub stands_ : StandsIn p h s n c x.plan
    stands_ = stands_in p h s n c x.plan g plans.tables

    pub fits_ : Fit (kinds_of h) (kept_in s) x.plan.items
    fits_ = fits p h s n c x.plan g plans.tables

    -- the program of these parts
    pub is_packed : (f : FirmProgram) (rows : List (List ArrayPlace)) → map procedure_of f.procedures ≡ packed_methods p.tables n x.plan 0 p.tables.methods p.methods
        → f.dispatches ≡ x.dispatches → f.main ≡ known (flat (slice_get x.plan.procedures p.main)) → f.handlers ≡ map (entrance x.plan) p.handlers
        → AreRows (kinds_of h) (kept_in s) x.plan.items (length (kinds_of h)) rows → f.tables ≡ tables_of rows c.list
        → ((k : Codes) → numbers_in k f.columns ≡ with_places p.tables h (planned h n x.plan) k (all_places p.tables h n) (numbers_in k (blank_rows c.list)))
        → (from : IsPackedFrom p h s n c f) × (from.plan ≡ x.plan)
    is_packed f rows ep ed em eh are et ev = (
      record {
        plan = x.plan;
        is_plan = is_plan p h s n c x g plans stands_;
        own = plans.own;
        are_own = plans.are_own;
        procedures = ep;
        dispatches = ed ∙ dispatches_planned p h s n c.list x plans;
        main = main_procedure p h s g.live x.plan.procedures plans.tables.procedures g.typed.main ∙ ap (λ z. Some z) (sym em);
        handlers = λ v. subst (λ z. SameEntry (planned h n x.plan) (handler_of p.handlers v) (handler_in z v)) (sym eh)
            (same_entry (handler_of p.handlers v) (handler_in (map (entrance x.plan) p.handlers) v)
            (handler_procedures p h s g.live x.plan.procedures plans.tables.procedures g.typed.handlers v));
        tables = tabled;
        lengths = same_lengths p.tables h (planned h n x.plan) no_codes f.columns (all_places p.tables h n) c.list (ev no_codes);
        values = values_;
      },
      refl,
    )
      where
        no_codes : Codes
        no_codes = record { code = λ q. 0; at_code = λ q. None }

        same_entry : (a b : Option ℕ) → Same p h s g.live x.plan.procedures plans.tables.procedures a b → SameEntry (planned h n x.plan) a b
        same_entry None None w = tt
        same_entry (Some m) (Some q) w = w
        same_entry None (Some q) w = absurd w
        same_entry (Some m) None w = absurd w

        tabled : (k : Codes) (j t size : ℕ) → IsArray (planned h n x.plan) j t size → IsTabled (planned h n x.plan) (program_of k f) j t size
        tabled k j t size a =
            let r = are_tabled p h s n c x.plan g plans.tables rows are j t size a in
            record {
              place = r.place;
              there = ap (λ z. slice_get (arrays_of (slice_get z ((planned h n x.plan).items t).table)) ((planned h n x.plan).numbering.number j - 1)) et ∙ r.there;
              length_is = r.length_is;
              short = r.short;
              wide = r.wide;
              stands = r.stands;
            }

        values_ : (k : Codes) (y : Place) (o : Spot) (v : CoreValue) → IsKeptPlace (planned h n x.plan) y → spot p.tables (planned h n x.plan) y ≡ Some o
            → value_at p.tables h y ≡ Some v → entry_at (program_of k f) (program_of k f).ram o ≡ Some (coded (planned h n x.plan).numbering k v)
        values_ k y o v ky e ev_ =
            let r = values_stand p h s n c x.plan g stands_ k y o v ky e ev_ in
            ap (λ z. entry (columns_at (program_of k f) z (numbers_in k f.columns)) o.column o.index) r.0
            ∙ (ap (λ z. entry z o.column o.index) (ev k) ∙ r.1)

    types_ : length x.plan.items ≡ length p.tables.types
    types_ =
        ap length plans.tables.items
        ∙ (items_length c.list 0 0 0 (map no_items p.tables.types) ∙ length-map p.tables.types no_items)

    is_made : (f : FirmProgram) (rows : List (List ArrayPlace)) → AreRows (kinds_of h) (kept_in s) x.plan.items (length (kinds_of h)) rows
        → f.tables ≡ tables_of rows c.list
        → ((k : Codes) → numbers_in k f.columns ≡ with_places p.tables h (planned h n x.plan) k (all_places p.tables h n) (numbers_in k (blank_rows c.list)))
        → IsMade p h s n c x.plan f
    is_made f rows are et ev = record { columns = ev; rows = rows; are_rows = are; types = types_; fit = fits_; tables = et }

    -- it has rows that fit
    is_whole : (f : FirmProgram) → (from : IsPackedFrom p h s n c f) × (from.plan ≡ x.plan) → IsMade p h s n c x.plan f → IsPackedWhole p h s n c f
    is_whole f (from, e) made = record {
      from = from;
      typed = all_typed p h s n c f g from (subst (λ z. HasTables p.tables (kinds_of h) s c.list (steps_from p 0 s.methods) z) (sym e) plans.tables);
      rows = λ ready k codes. has_rows p h s n c f g ready from (subst (λ z. IsMade p h s n c z f) (sym e) made) k codes;
    }

    -- ---- as the code has these parts

    pub starts_there : (cells : List Cell) (live : List (Option Reason)) (starts : List ℕ) → cells ≡ h.cells → live ≡ s.cells → starts ≡ x.plan.starts
        → HasStarts (map kind_of cells) (has_reason live) (length cells) starts
    starts_there cells live starts ec el es =
        subst (λ z. HasStarts (map kind_of z) (has_reason live) (length z) starts) (sym ec)
        (subst (λ z. HasStarts (kinds_of h) (has_reason z) (length h.cells) starts) (sym el)
        (subst (λ z. HasStarts (kinds_of h) (kept_in s) (length h.cells) z) (sym es)
        (subst (λ z. HasStarts (kinds_of h) (kept_in s) z x.plan.starts) (length-map h.cells kind_of) plans.tables.starts)))

    pub fit_there : (cells : List Cell) (live : List (Option Reason)) (items : List Elements) → cells ≡ h.cells → live ≡ s.cells → items ≡ x.plan.items
        → Fit (map kind_of cells) (has_reason live) items
    fit_there cells live items ec el ei =
        subst (λ z. Fit (map kind_of z) (has_reason live) items) (sym ec)
        (subst (λ z. Fit (kinds_of h) (has_reason z) items) (sym el) (subst (λ z. Fit (kinds_of h) (kept_in s) z) (sym ei) fits_))

    pub rows_there : (cells : List Cell) (live : List (Option Reason)) (items : List Elements) (rows : List (List ArrayPlace)) → cells ≡ h.cells
        → live ≡ s.cells → items ≡ x.plan.items → AreRows (map kind_of cells) (has_reason live) items (length cells) rows
        → AreRows (kinds_of h) (kept_in s) x.plan.items (length (kinds_of h)) rows
    rows_there cells live items rows ec el ei are =
        subst (λ z. AreRows (kinds_of h) (kept_in s) x.plan.items z rows) (sym (length-map h.cells kind_of))
        (subst (λ z. AreRows (kinds_of h) (kept_in s) z (length h.cells) rows) ei
        (subst (λ z. AreRows (kinds_of h) (has_reason z) items (length h.cells) rows) el
        (subst (λ z. AreRows (map kind_of z) (has_reason live) items (length z) rows) ec are)))

    pub parts : (list : List Column) (cells : List Cell) (live : List (Option Reason)) (items : List Elements) (handlers : List Handler) (f : FirmProgram)
        → list ≡ c.list → cells ≡ h.cells → live ≡ s.cells → items ≡ x.plan.items → handlers ≡ p.handlers
        → map procedure_of f.procedures ≡ packed_methods p.tables n x.plan 0 p.tables.methods p.methods → f.dispatches ≡ x.dispatches
        → f.main ≡ known (flat (slice_get x.plan.procedures p.main)) → f.handlers ≡ map (entrance x.plan) handlers
        → (rows : List (List ArrayPlace)) → AreRows (map kind_of cells) (has_reason live) items (length cells) rows → f.tables ≡ tables_of rows list
        → ((k : Codes) → numbers_in k f.columns ≡ with_places p.tables h (planned h n x.plan) k (all_places p.tables h n) (numbers_in k (blank_rows list)))
        → IsPackedWhole p h s n c f
    parts list cells live items handlers f el ec ev ei eh ep ed em ehs rows are et values =
        is_whole f (is_packed f rows ep ed em (ehs ∙ ap (map (entrance x.plan)) eh) are_rows tabled filled) (is_made f rows are_rows tabled filled)
      where
        are_rows : AreRows (kinds_of h) (kept_in s) x.plan.items (length (kinds_of h)) rows
        are_rows = rows_there cells live items rows ec ev ei are

        tabled : f.tables ≡ tables_of rows c.list
        tabled = et ∙ ap (tables_of rows) el

        filled : (k : Codes) → numbers_in k f.columns ≡ with_places p.tables h (planned h n x.plan) k (all_places p.tables h n) (numbers_in k (blank_rows c.list))
        filled k = values k ∙ ap (λ z. with_places p.tables h (planned h n x.plan) k (all_places p.tables h n) (numbers_in k (blank_rows z))) el
