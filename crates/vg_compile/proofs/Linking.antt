-- What was packed can be linked.
use Rattle.std.proofs.Common.{◌≡◌, refl, sym, ap, subst, ◌∙◌, arith, ℕ, ◌+◌, ◌<◌, ◌≤◌, length}
use Rattle.std.proofs.Common.{Option, Some, None, slice_get}
use Rattle.std.proofs.lemmas.Option.{none-some}
use Rattle.vg_meaning.specs.Outside.{IsVector}
use Rattle.vg_core.specs.declared.heap.Heap.{Heap}
use Rattle.vg_core.specs.Program.{Program}
use Rattle.vg_core.specs.Session.{handler_of}
use Rattle.vg_live.specs.Uses.{steps_in}
use Rattle.vg_live.specs.declared.live_set.LiveSet.{LiveSet}
use Rattle.vg_number.specs.declared.numbers.Numbers.{Numbers}
use Rattle.vg_number.specs.Numbering.{kinds_of}
use Rattle.vg_packing.specs.Laid.{SameEntry}
use Rattle.vg_packing.specs.Layout.{Layout}
use Rattle.vg_place.specs.declared.placing.Columns.{Columns}
use Rattle.vg_placement.specs.Needs.{needs}
use Rattle.vg_packed.specs.declared.program.FirmProgram.{FirmProgram}
use Rattle.vg_packed.specs.Given.{IsGiven}
use Rattle.vg_packed.specs.Packed.{IsPackedFrom}
use Rattle.vg_packed.specs.Plans.{planned}
use Rattle.vg_packed.specs.Programs.{handler_in}
use Rattle.vg_packed.specs.Ready.{IsReady}
use Rattle.vg_pack.specs.Rows.{RowsFitIn}
use Rattle.vg_compile.specs.Packed.{IsPackedRows}
use Rattle.vg_table_bytes.specs.Bytes.{ram_widths, rows_bytes, table_bytes_of}
use Rattle.vg_table_bytes.specs.Rows.{HasRows}
use Rattle.vg_linear.specs.declared.whole.Linear.{Linear}
use Rattle.vg_linear.specs.Whole.{IsLinear, first_routine, packed_of}
use Rattle.vg_linear.proofs.Lists.{one_of}
use Rattle.vg_link.specs.Linking.{with_codes}
use Rattle.vg_link.specs.declared.unlinked.Unlinked.{Unlinked}
use Rattle.vg_link.specs.Linking as linking
use Rattle.vg_link.specs.Linking.{AreSound, CanBeLinked, CanHandle, IsAlone}
use Rattle.vg_cases.specs.Fewer.{AreAllFewer}
use Rattle.vg_codes.specs.Dispatch.{cases_of}
use Rattle.vg_followed.specs.Tables.{AreCases}
use Rattle.vg_fit_code.proofs.Making.{each_of}
use Rattle.vg_text_chip.specs.Chip.{AreOfChip, NamesChip}
use Rattle.vg_compile.specs.Handlers.{HandlersReceiveNothing}
use Rattle.vg_packed_small.proofs.Procedures.{codes, few_procedures, small, some_codes}
use Rattle.vg_compile.specs.Unlinked.{AlwaysLinks, IsUnlinked}
use Rattle.vg_compile.proofs.Bodies.{BodiesApt, methods_apt}
use Rattle.vg_compile.proofs.Entries.{entered, received, start_alone}
use Rattle.vg_compile.proofs.Fit.{AllApt, AreSoundIn, IsSoundIn, flats_apt, apt_behind, start_apt, trimmed_apt, all_found, all_in, dispatch_cases}
use Rattle.vg_compile.proofs.Tables.{static_few, tables_few, tables_length}

-- a packed program has at most 65,536 procedures
pub few : (p : Program) (h : Heap) (s : LiveSet) (n : Numbers) (c : Columns) (f : FirmProgram) → IsGiven p h s n c → IsPackedFrom p h s n c f
    → length f.procedures ≤ 65536
few p h s n c f given from = let a = few_procedures p h s n c f from in let b = given.few_methods in omega (arith, a, b)

module _ (p : Program) (h : Heap) (s : LiveSet) (n : Numbers) (c : Columns) (f : FirmProgram) (whole : IsPackedRows p h s n c f)
    (given : IsGiven p h s n c) (ready : IsReady p h) where
  abbrev its_layout : Layout
  its_layout = planned h n whole.from.plan

  rows : HasRows some_codes c.list f
  rows = whole.rows ready some_codes (codes p h s n c f whole.from given)

  module _ (chip : NamesChip p) (l : Linear) (u : Unlinked) (nothing : HandlersReceiveNothing u) (linear : IsLinear c.list f l)
      (made : IsUnlinked c f l u) where
    bodies : BodiesApt (packed_of f)
    bodies =
        subst BodiesApt (sym whole.from.procedures)
        (methods_apt p.tables n whole.from.plan 0 p.tables.methods p.methods (λ j b e. subst (λ o. AreOfChip (steps_in o)) e (chip.registers j)))

    finds : (codes' : ℕ → ℕ) → ((q : ℕ) → codes' q < 65536) → (place : ℕ) → AreCases codes' (cases_of (slice_get u.dispatches place))
    finds codes' two =
        dispatch_cases codes' two f.dispatches u.dispatches (subst (AreAllFewer f.dispatches) (sym made.dispatches) linear.made.found.fewer)
        (small p h s n c f whole.from given)

    routined_in : (codes' : ℕ → ℕ) → ((q : ℕ) → codes' q < 65536) → AreSoundIn (with_codes codes' u.dispatches) linear.made.routined
    routined_in codes' two =
        subst (AreSoundIn (with_codes codes' u.dispatches)) (sym linear.made.routines)
        (all_in (with_codes codes' u.dispatches) (finds codes' two) (first_routine f) linear.made.trimmed linear.made.expanded linear.made.are_expanded
        (trimmed_apt linear.made.begun linear.made.trimmed linear.made.keep_apt
        (subst AllApt (sym linear.made.with_start.behind)
        (apt_behind linear.made.flats _ (flats_apt l.layout (packed_of f) linear.made.flats linear.made.are_flat bodies)
        (start_apt f.main linear.made.with_start.main.receives)))))

    sound_in : (codes' : ℕ → ℕ) → ((q : ℕ) → codes' q < 65536) → AreSoundIn (with_codes codes' u.dispatches) u.procedures
    sound_in codes' two =
        subst (AreSoundIn (with_codes codes' u.dispatches)) (sym (made.procedures ∙ linear.made.found.procedures))
        (all_found (with_codes codes' u.dispatches) (finds codes' two) linear.made.found.numbers linear.made.found.finders linear.made.routined
        (routined_in codes' two))

    sound : AreSound u.procedures u.dispatches
    sound =
        record {
          sound = λ m procedure e.
              (one_of (IsSoundIn (with_codes (λ q. 0) u.dispatches)) u.procedures m procedure (sound_in (λ q. 0) (λ q. omega arith)) e).sound;
          fit = λ m procedure e pc i g codes' two.
              each_of (with_codes codes' u.dispatches) procedure.code
              (one_of (IsSoundIn (with_codes codes' u.dispatches)) u.procedures m procedure (sound_in codes' two) e).fit pc i g;
        }

    handlers : (v q : ℕ) → linking.handler_in u.handlers v ≡ Some q → IsVector v × CanHandle u.procedures q
    handlers v q e = (
      by (handler_of p.handlers v) refl (handler_in f.handlers v) (sym (made.handlers v) ∙ e) (whole.from.handlers v),
      received u.procedures u.handlers nothing v q e,
    )
      where
        by : (a : Option ℕ) → handler_of p.handlers v ≡ a → (b : Option ℕ) → b ≡ Some q → SameEntry its_layout a b → IsVector v
        by (Some m) em b g same = (entered p p.handlers given.typed.handlers chip.handlers v m em).1
        by None em (Some r) g same = absurd same
        by None em None g same = absurd (none-some q g)

    pub can_be_linked : CanBeLinked u
    can_be_linked =
        record {
          sound = sound;
          start = subst (λ z. IsAlone z u.start) (sym made.procedures) (subst (IsAlone l.procedures) (sym made.start) (start_alone c.list f l linear));
          handlers = handlers;
          few_tables = subst (λ z. length z ≤ 60000) (sym made.tables) its_tables;
          few_static = let a = its_static in let b = made.static_bytes in omega (arith, a, b);
          within = let a = made.static_bytes in let b = ap length made.tables in let d = its_length in omega (arith, a, b, d);
        }
      where
        its_static : c.static_bytes ≤ 4096
        its_static = static_few some_codes p.tables (needs p (kinds_of h) s) (kinds_of h) c f given.columns rows

        its_length : length (table_bytes_of (ram_widths c.list) f.columns f.tables) ≡ c.static_bytes + length (rows_bytes f.tables)
        its_length = tables_length some_codes p.tables (needs p (kinds_of h) s) (kinds_of h) c f given.columns rows

        its_tables : length (table_bytes_of (ram_widths c.list) f.columns f.tables) ≤ 60000
        its_tables = tables_few some_codes p.tables (needs p (kinds_of h) s) (kinds_of h) c f given.columns rows

pub always_links : (p : Program) (h : Heap) (s : LiveSet) (n : Numbers) (c : Columns) (f : FirmProgram) → IsPackedFrom p h s n c f → RowsFitIn p h c f
    → IsGiven p h s n c → IsReady p h → NamesChip p → AlwaysLinks c f
always_links p h s n c f from rows given ready chip l u nothing linear made =
    can_be_linked p h s n c f (record { from = from; rows = rows }) given ready chip l u nothing linear made
