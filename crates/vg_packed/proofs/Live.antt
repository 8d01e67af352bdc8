-- The plan of a packed program is the layout of what is live.
use Rattle.std.proofs.Common.{◌≡◌, refl, sym, ap, subst, ◌∙◌, ℕ, Bool, true, false, List, is_some, Option, Some, None, slice_get}
use Rattle.std.proofs.lemmas.Option.{slice_get_within}
use Rattle.vg_codes.specs.Codes.{Codes}
use Rattle.vg_codes.specs.Dispatch.{dispatched}
use Rattle.vg_core.specs.declared.heap.Heap.{Heap}
use Rattle.vg_core.specs.declared.member.Member.TheVariants.{Method, Field}
use Rattle.vg_core.specs.declared.program.Field.{Field as TheField}
use Rattle.vg_core.specs.declared.program.Owner.{Owner}
use Rattle.vg_core.specs.declared.program.Owner.TheVariants.{InClass, InComponent}
use Rattle.vg_core.specs.declared.step.Step.{Step}
use Rattle.vg_core.specs.Program.{Program}
use Rattle.vg_core.specs.Tables.{is_below, dispatch, has_fields_of, slot_where, slot_in}
use Rattle.vg_live.specs.declared.live_set.LiveSet.{LiveSet}
use Rattle.vg_live.specs.Rules.{Live}
use Rattle.vg_live.specs.Sets.{flat, reason_of}
use Rattle.vg_live.specs.Uses.{Asked, asked, made_at, steps_of}
use Rattle.vg_number.specs.declared.numbers.Numbers.{Numbers}
use Rattle.vg_number.specs.Numbering.{has_reason, kept_in, kinds_of}
use Rattle.vg_packing.specs.Layout.{Column, Layout}
use Rattle.vg_packing.specs.Allowed.{IsObject, IsRead, IsWritten}
use Rattle.vg_placement.specs.declared.column.Column as placement
use Rattle.vg_placement.specs.Columns.{all_columns}
use Rattle.vg_placement.specs.Needs.{needs}
use Rattle.vg_place.specs.declared.placing.Columns.{Columns}
use Rattle.vg_packed.specs.Uses.{Has}
use Rattle.vg_packed.specs.IsOf.{IsOf}
use Rattle.vg_pack_code.specs.Plans.{holds}
use Rattle.vg_pack_calls.specs.Asked.{is_there}
use Rattle.vg_packed.proofs.Asked.{is_asked}
use Rattle.vg_packed.proofs.Cases.{in_its_dispatch}
use Rattle.vg_packed.proofs.Procedures as procedures
use Rattle.vg_packed.proofs.Receivers.{of_class, of_bindable}
use Rattle.vg_packed.specs.Columns.{HaveField}
use Rattle.vg_packed.proofs.Cells as cells
use Rattle.vg_packed.proofs.Fields as fields
use Rattle.vg_packed.proofs.Holding.{when_placed, before_placed, at, of_home}
use Rattle.vg_packed.specs.declared.program.FirmProgram.{FirmProgram}
use Rattle.vg_packed.specs.Given.{IsGiven}
use Rattle.vg_packed.specs.Packed.{IsPackedFrom}
use Rattle.vg_packed.specs.Plans.{planned}
use Rattle.vg_packed.specs.Programs.{program_of}
use Rattle.vg_packed.specs.Ready.{IsReady}
use Rattle.vg_packed.proofs.Making.{none_made}
use Rattle.vg_packed.proofs.Delegates.{delegates_there}

module _ (p : Program) (h : Heap) (s : LiveSet) (n : Numbers) (c : Columns) (f : FirmProgram) (given : IsGiven p h s n c) (ready : IsReady p h)
    (from : IsPackedFrom p h s n c f) (k : Codes) where
  abbrev l : Layout
  l = planned h n from.plan

  -- ---- methods

  reason : (m : ℕ) → Live p h (Some (Method m)) → has_reason s.methods m ≡ true
  reason m a = ap is_some (given.live.all (Method m) a).1

  methods : (m : ℕ) → Live p h (Some (Method m)) → (q : ℕ) × (l.numbering.procedure m ≡ Some q)
  methods m a =
      let q = procedures.have 0 s.methods m (reason m a) in (q.0, ap (λ r. flat (slice_get r m)) from.is_plan.procedures ∙ q.1)

  pub only_methods : (m q : ℕ) → l.numbering.procedure m ≡ Some q → Live p h (Some (Method m))
  only_methods m q e =
      given.live.live (Method m)
      (cells.there_is (reason_of s (Method m))
      (procedures.alone 0 s.methods m q (sym (ap (λ r. flat (slice_get r m)) from.is_plan.procedures) ∙ e)))

  bindable_receives : (m : ℕ) → l.numbering.bindable m ≡ true → l.receives m ≡ true
  bindable_receives m e =
      ap (λ r. holds (slice_get r m)) from.is_plan.receives
      ∙ of_bindable from.plan.bindable p.tables.methods m
      (delegates_there p given.typed h given.heap.0 given.heap.1 s given.live m (from.is_plan.only_bindable m e)) e

  nothing_made : (m : ℕ) (st : Step) → Has p h m st → made_at st ≡ None
  nothing_made m st has = none_made (steps_of p m) has.place st (ready.makes_nothing m has.live) has.stands

  -- ---- columns

  abbrev all : List placement.Column
  all = all_columns p.tables (needs p (kinds_of h) s) (kinds_of h)

  has_column : (x : ℕ) (y : TheField) → slice_get p.tables.fields x ≡ Some y → HaveField x all → (b : Column) × (l.column x ≡ Some b)
  has_column x y e a =
      let r = at x c.list (subst (HaveField x) (sym given.columns.list) (when_placed x 0x0100 0x008C all a)) in
      from.is_plan.field_columns x r.0 r.1 (slice_get_within p.tables.fields x y e) r.2 r.3

  component_fields : (x i : ℕ) (y : TheField) → slice_get p.tables.fields x ≡ Some y → y.owner ≡ InComponent i → Live p h (Some (Field x))
      → (b : Column) × (l.column x ≡ Some b)
  component_fields x i y e o a = has_column x y e (fields.of_component p h s given.live x i y e o (ready.wide x y e) a)

  has_slot : (d : ℕ) (y : TheField) (i : ℕ) → slot_where (has_fields_of p.tables d y.owner) y ≡ Some i
      → (e : ℕ) × (y.owner ≡ InClass e) × (is_below p.tables d e ≡ true)
  has_slot d y i q = by y.owner refl (has_fields_of p.tables d y.owner) refl q
    where
      by : (o : Owner) → y.owner ≡ o → (b : Bool) → has_fields_of p.tables d y.owner ≡ b → slot_where b y ≡ Some i
          → (e : ℕ) × (y.owner ≡ InClass e) × (is_below p.tables d e ≡ true)
      by (InClass e) eo true eb g = (e, eo, sym (ap (has_fields_of p.tables d) eo) ∙ eb)
      by (InComponent j) eo true eb g = absurd (let clash : false ≡ true = sym (ap (has_fields_of p.tables d) eo) ∙ eb in cc)
      by o eo false eb g = absurd (let clash : None ≡ Some i = g in cc)

  class_fields : (x : ℕ) → Live p h (Some (Field x)) → IsRead p.tables l x
  class_fields x a j d i is slot = by (slice_get p.tables.fields x) refl slot
    where
      by : (o : Option TheField) → slice_get p.tables.fields x ≡ o → slot_in p.tables d o ≡ Some i → (b : Column) × (l.column x ≡ Some b)
      by None e q = absurd (let clash : None ≡ Some i = q in cc)
      by (Some y) e q =
          let o = has_slot d y i q in
          has_column x y e
          (fields.of_class p h s given.live given.typed.tables given.chains x j o.0 d y e o.1 (ready.wide x y e) is.0
          (cells.live_kept p h s given.live j (cells.alone p h s given.live n given.numbers j is.1)) o.2 a)

  only_fields : (x : ℕ) (b : Column) → l.column x ≡ Some b → Live p h (Some (Field x))
  only_fields x b e =
      fields.only_live p h s given.live x
      (before_placed x 0x0100 0x008C all (subst (HaveField x) given.columns.list (of_home x b.home c.list b.column (from.is_plan.has_columns.fields x b e))))

  in_ram : (x : ℕ) → IsWritten (l.column x)
  in_ram x = by (l.column x) refl
    where
      by : (o : Option Column) → l.column x ≡ o → IsWritten o
      by None e = tt
      by (Some b) e = from.is_plan.field_homes x b e

  -- ---- dispatches

  dispatches : (m j d i q : ℕ) (st : Step) (a : Asked) → Has p h m st → asked st ≡ Some a → IsObject l j d → is_below p.tables d a.class ≡ true
      → dispatch p.tables d a.selector ≡ Some i → l.numbering.procedure i ≡ Some q
      → dispatched f.dispatches (l.dispatch a.class a.selector) (l.numbering.number j) ≡ Some q
  dispatches m j d i q st a has as_ is below found eq =
      ap (λ ds. dispatched ds (l.dispatch a.class a.selector) (l.numbering.number j)) from.dispatches
      ∙ in_its_dispatch p.tables given.typed.tables given.chains (kinds_of h) (kept_in s) n given.numbers from.own from.are_own from.plan a.class a.selector
      j d i q asks is.0 (cells.live_kept p h s given.live j (cells.alone p h s given.live n given.numbers j is.1)) below found eq
    where
      asks : is_there from.plan.asked a.class a.selector ≡ true
      asks =
          ap (λ xs. is_there xs a.class a.selector) from.is_plan.asked
          ∙ is_asked p s.methods m has.place st a (reason m has.live) has.stands as_

  pub is_of : IsOf p h l k (program_of k f)
  is_of =
      record {
        kinds = refl;
        cells = cells.have p h s given.live n given.numbers;
        only_cells = cells.alone p h s given.live n given.numbers;
        component_fields = component_fields;
        class_fields = class_fields;
        only_fields = only_fields;
        methods = methods;
        only_methods = only_methods;
        bindable = from.is_plan.bindable;
        only_bindable = from.is_plan.only_bindable;
        class_receives = λ m d y e o. ap (λ r. holds (slice_get r m)) from.is_plan.receives ∙ of_class from.plan.bindable p.tables.methods m d y e o;
        bindable_receives = bindable_receives;
        edges = from.is_plan.edges;
        nothing_made = nothing_made;
        fields_in_ram = λ m x st has e. in_ram x;
        items_in_ram = λ m t st has e. from.is_plan.item_homes t;
        dispatches = dispatches;
        values = from.values k;
      }
