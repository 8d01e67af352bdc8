-- The image of a program does what the program does.
use Rattle.std.proofs.Common.{◌≡◌, refl, sym, ap, subst, ◌∙◌, arith, ℕ, ◌+◌, ◌<◌, ◌≤◌, true, List, [], ◌∷◌, ◌++◌, length, map, take, Option, Some, None, slice_get}
use Rattle.std.proofs.lemmas.List.{length-map}
use Rattle.std.proofs.lemmas.Option.{same_Some, none-some}
use Rattle.avr_view.specs.Run.{Run}
use Rattle.vg_codes.specs.Codes.{Codes, AreCodes}
use Rattle.vg_meaning.specs.Answer.{Answer, End, Over, Gives, Ends}
use Rattle.vg_meaning.specs.History.{full, no_history}
use Rattle.vg_meaning.specs.Safe.{Alike}
use Rattle.vg_meaning.specs.World.{World}
use Rattle.vg_core.specs.declared.heap.Heap.{Heap}
use Rattle.vg_core.specs.Program.{Program}
use Rattle.vg_core.specs.Session.{handler_of, running}
use Rattle.vg_firm.specs.Held.{procedure_of}
use Rattle.vg_firm.specs.Session as firm
use Rattle.vg_source.specs.Session.{running_world}
use Rattle.vg_lin.specs.Program.{Procedure as LinProcedure, Program as LinProgram}
use Rattle.vg_live.specs.declared.live_set.LiveSet.{LiveSet}
use Rattle.vg_number.specs.declared.numbers.Numbers.{Numbers}
use Rattle.vg_number.specs.Numbering.{kinds_of}
use Rattle.vg_packing.specs.Laid.{Laid, SameEntry}
use Rattle.vg_packing.specs.Layout.{Layout}
use Rattle.vg_place.specs.declared.placing.Columns.{Columns}
use Rattle.vg_placement.specs.Needs.{needs}
use Rattle.vg_packed.proofs.Whole.{is_laid}
use Rattle.vg_tables.specs.Bytes.{byte_of}
use Rattle.vg_packed.specs.declared.program.FirmProgram.{FirmProgram}
use Rattle.vg_packed.specs.Given.{IsGiven}
use Rattle.vg_packed.specs.Packed.{count_of, ram_columns}
use Rattle.vg_packed.specs.Plans.{planned}
use Rattle.vg_packed.specs.Programs.{handler_in, program_of}
use Rattle.vg_packed.specs.Ready.{IsReady}
use Rattle.vg_packed.proofs.Live.{is_of}
use Rattle.vg_packed.proofs.Placed.{is_placed, do_the_same}
use Rattle.vg_table_bytes.specs.Bytes.{columns_bytes, ram_widths, rows_bytes, table_bytes_of}
use Rattle.vg_table_bytes.specs.Rows.{HasRows}
use Rattle.vg_flatten_shapes.specs.declared.layout.Layout.{Layout as LinLayout}
use Rattle.vg_flatten.specs.Columns.{RamStands}
use Rattle.vg_flatten.specs.Flattened.{AreFlat}
use Rattle.vg_trimming.specs.Runs.{RunsAsRead}
use Rattle.vg_compile.specs.Packed.{IsPackedRows}
use Rattle.vg_followed.specs.Stands.{Stands}
use Rattle.vg_followed.specs.Runs.{Begins}
use Rattle.vg_frame_costs.specs.Fitting.{FramesFit}
use Rattle.vg_deep_costs.specs.Fit.{HasFitFrames}
use Rattle.vg_stack_bound.specs.Memory.{DoesAsProgram}
use Rattle.vg_linear.specs.declared.whole.Linear.{Linear}
use Rattle.vg_linear.specs.Laying.{bytes_in, ram_places}
use Rattle.vg_linear.specs.Standing.{StandIn}
use Rattle.vg_linear.specs.Whole.{IsLinear, linear_program}
use Rattle.vg_linear.proofs.Following as linear_follows
use Rattle.vg_linear.proofs.Started.{all_columns_stand, columns_known, columns_stand, copy_length, table_stands, tables_known, tables_stand}
use Rattle.vg_link.specs.declared.linked.Linked.{Linked}
use Rattle.vg_link.specs.declared.unlinked.Unlinked.{Unlinked}
use Rattle.vg_link.specs.Linking.{codes_by}
use Rattle.vg_link.specs.Linking as linking
use Rattle.vg_link.specs.Linking.{kept_before, codes_before, CanBeLinked, IsLinked}
use Rattle.vg_link.proofs.Before.{kept_low, kept_there, same_bytes}
use Rattle.vg_link.proofs.Beginning.{stands, begins}
use Rattle.vg_stack_bound.specs.Memory.{HoldsPeaks}
use Rattle.vg_call_need.specs.Bounds.{IsEnough}
use Rattle.vg_stack_bound.proofs.Holding as stack_bound
use Rattle.vg_stack_bound.proofs.Memory.{within_peak}
use Rattle.vg_compile.specs.Unlinked.{IsUnlinked}
use Rattle.vg_compile.proofs.Bytes.{columns_are, tables_are}

-- the first of what is made of two lists
take_front : {A B : Type 0} (g : A → B) (n : ℕ) (xs ys : List A) → n ≡ length xs → take n (map g (xs ++ ys)) ≡ map g xs
take_front {A} g n xs ys e = ap (λ z. take z (map g (xs ++ ys))) e ∙ front xs
  where
    front : (zs : List A) → take (length zs) (map g (zs ++ ys)) ≡ map g zs
    front [] = refl
    front (z ∷ zs) = ap (λ w. g z ∷ w) (front zs)

-- what is alike to an end is that end
alike_ends : {S T H : Type 0} (why : End) (s : S) (v : World H) (a : Answer S H) (b : Answer T H) → a ≡ Ends (Over why) s v → Alike a b
    → (t : T) × (b ≡ Ends (Over why) t v)
alike_ends {S} {T} {H} why s v a b e h = by b (subst (λ z. Alike z b) e h)
  where
    by : (c : Answer T H) → Alike (Ends (Over why) s v) c → (t : T) × (c ≡ Ends (Over why) t v)
    by (Ends because t w) (eb, ew) = (t, ap (λ z. Ends z t w) (sym eb) ∙ ap (λ z. Ends (Over why) t z) (sym ew))
    by (Gives t w) x = absurd x

module _ (p : Program) (h : Heap) (s : LiveSet) (n : Numbers) (c : Columns) (f : FirmProgram) (l : Linear) (u : Unlinked) (linked : Linked)
    (given : IsGiven p h s n c) (ready : IsReady p h) (packed : IsPackedRows p h s n c f) (linear : IsLinear c.list f l) (made : IsUnlinked c f l u)
    (can : CanBeLinked u) (is : IsLinked u linked) where
  abbrev k : Codes
  k = codes_before u.start (codes_by linked.codes)

  abbrev tables : List ℕ
  tables = bytes_in k (table_bytes_of (ram_widths c.list) f.columns f.tables)

  abbrev ram : List ℕ
  ram = bytes_in k (columns_bytes (ram_widths c.list) 0 f.columns)

  abbrev planned_layout : Layout
  planned_layout = planned h n packed.from.plan

  more_procedures : length f.procedures ≤ length u.procedures
  more_procedures =
      let a = linear_follows.all_long c.list f l linear in let b = ap length made.procedures in omega (arith, a, b)

  codes : AreCodes (length f.procedures) k
  codes = record {
    back = λ q lt.
        ap (kept_before u.start) (is.codes.back q (let m = more_procedures in omega (arith, lt, m)))
        ∙ kept_there u.start q (subst (λ z. q < z) (sym (made.start ∙ linear.start)) lt);
    positive = λ q lt. is.codes.positive q (let m = more_procedures in omega (arith, lt, m));
    two_bytes = λ q lt. is.codes.two_bytes q (let m = more_procedures in omega (arith, lt, m));
  }

  rows : HasRows k c.list f
  rows = packed.rows ready k codes

  laid : Laid p planned_layout k (program_of k f)
  laid =
      is_laid p given.typed ready.plain h given.heap.0 given.heap.1 planned_layout k (program_of k f) (is_of p h s n c f given ready packed.from k)
      (is_placed p h s n c f given ready packed.from k codes)

  rows_few : length f.columns ≤ length (ram_columns c.list)
  rows_few =
      let n = ap length rows.lengths in
      let a = length-map f.columns length in
      let b = length-map (ram_columns c.list) count_of in omega (arith, n, a, b)

  closed : (v q : ℕ) → linking.handler_in u.handlers v ≡ Some q → q < length f.procedures
  closed v q e = by (handler_of p.handlers v) (handler_in f.handlers v) (sym (made.handlers v) ∙ e) (packed.from.handlers v)
    where
      within : (m r : ℕ) → planned_layout.numbering.procedure m ≡ Some r → r < length f.procedures
      within m r g = subst (λ z. r < z) (length-map f.procedures procedure_of) (laid.procedures m r g)

      by : (a b : Option ℕ) → b ≡ Some q → SameEntry planned_layout a b → q < length f.procedures
      by (Some m) (Some r) g same = subst (λ z. z < length f.procedures) (same_Some r q g) (within m r same)
      by None (Some r) g same = absurd same
      by a None g same = absurd (none-some q g)

  stand : StandIn k l.layout f tables ram (linking.handler_in u.handlers)
  stand = record {
    columns = subst (λ z. RamStands z (program_of k f).ram ram) (sym (ap (λ (z : LinLayout). z.ram) linear.layout))
        (all_columns_stand ram (ram_places c.list) (program_of k f).ram
        (columns_stand k p.tables (needs p (kinds_of h) s) (kinds_of h) c f given.columns rows)
        (columns_known k c.list f rows.lengths));
    arrays = λ t address places e1 e2. table_stands tables address places
        (tables_stand k p.tables (needs p (kinds_of h) s) (kinds_of h) c f given.columns rows t address places
        (ap (λ (z : LinLayout). slice_get z.tables t) (sym linear.layout) ∙ e1) e2);
    known = λ t e. tables_known c.list f.tables rows.rows t
        (ap (λ (z : LinLayout). slice_get z.tables t) (sym linear.layout) ∙ e);
    handlers = made.handlers;
    closed = closed;
    ram_bytes = columns_are (ram_widths c.list) k 0 (ram_columns c.list) f.columns rows.entries rows_few;
    table_bytes = tables_are k (ram_widths c.list) (ram_columns c.list) f.columns rows.entries rows_few f.tables;
  }

  abbrev image : LinProgram
  image = linear_program k f l tables ram (linking.handler_in u.handlers)

  ram_is : take u.static_bytes (map (byte_of k) u.tables) ≡ ram
  ram_is =
      ap (λ z. take z (map (byte_of k) u.tables)) made.static_bytes
      ∙ (ap (λ z. take c.static_bytes (map (byte_of k) z)) made.tables
      ∙ take_front (byte_of k) c.static_bytes (columns_bytes (ram_widths c.list) 0 f.columns) (rows_bytes f.tables)
      (sym (copy_length k p.tables (needs p (kinds_of h) s) (kinds_of h) c f given.columns rows)))

  abbrev with_tables : LinProgram
  with_tables =
      record (linking.program_of u linked.codes) { tables = map (byte_of k) u.tables; ram = take u.static_bytes (map (byte_of k) u.tables) }

  program_is : linking.program_of u linked.codes ≡ image
  program_is =
      ap (λ z. record (linking.program_of u linked.codes) { tables = z; ram = take u.static_bytes z }) (same_bytes (codes_by linked.codes) k refl u.tables)
      ∙ (ap (λ z. record with_tables { procedures = z }) made.procedures
      ∙ (ap (λ z. record with_tables { procedures = l.procedures; dispatches = z }) made.dispatches
      ∙ (ap (λ z. record with_tables { procedures = l.procedures; dispatches = l.dispatches; tables = map (byte_of k) z }) made.tables
      ∙ (ap (λ z. record with_tables { procedures = l.procedures; dispatches = l.dispatches; tables = tables; ram = z }) ram_is
      ∙ ap (λ z. record with_tables { procedures = l.procedures; dispatches = l.dispatches; tables = tables; ram = ram; start = z })
      made.start))))

  -- its procedures are sound, each with its locals where its layout says; and handlers and what code numbers lead to are packed procedures, which stand before
  -- the start
  fit_frames : (extra : ℕ) (costs : List ℕ) → FramesFit l.procedures l.start extra costs → HasFitFrames is.links image extra costs
  fit_frames extra costs fit = record {
    sound = λ m procedure e. is.program.sound m procedure (here m procedure e);
    layouts = λ m procedure e. (is.program.procedures m procedure (here m procedure e)).layout;
    fit = fit;
    before = record {
      handlers = λ v q e. subst (λ z. q < z) (sym linear.start) (closed v q e);
      codes = λ code q e. subst (λ z. q < z) made.start (kept_low u.start ((codes_by linked.codes).at_code code) q e);
    };
  }
    where
      here : (m : ℕ) (procedure : LinProcedure) → slice_get l.procedures m ≡ Some procedure → slice_get u.procedures m ≡ Some procedure
      here m procedure e = ap (λ z. slice_get z m) made.procedures ∙ e

  -- a stack that holds what walks of the packed program cost holds what the active calls cost
  pub peaks_hold : (costs : List ℕ) (bytes : ℕ) → ((every : Codes) → IsEnough (program_of every f) costs bytes) → (floor extra : ℕ)
      → floor + (extra + bytes) ≤ 0x1100 → HoldsPeaks floor extra costs p h
  peaks_hold costs bytes enough floor extra fits = stack_bound.holds p h s n c f given ready packed.from k codes costs bytes (enough k) floor extra fits

  module _ (extra : ℕ) (costs : List ℕ) (fit : FramesFit l.procedures l.start extra costs) (e : Run) (flash : e.flash ≡ linked.flash)
      (static : e.static ≡ c.static_bytes) (floor : e.floor ≤ 0x1100) (slept : e.lets_in (linked.idle + 1) ≡ true)
      (woken : e.lets_in (linked.idle + 2) ≡ true) where
    its_stands : Stands e is.links image
    its_stands =
        subst (λ z. Stands e is.links z) program_is (stands u linked can is e flash (static ∙ sym made.static_bytes) floor slept woken)

    its_begins : Begins e is.links image
    its_begins =
        subst (λ z. Begins e is.links z) program_is (begins u linked can is e flash (static ∙ sym made.static_bytes) floor slept woken)

    by : ((old : LinProgram) × AreFlat k l.layout (program_of k f) old × RunsAsRead old image) → DoesAsProgram e extra costs p h
    by (old, flat, runs) memory powered clock deepest reads interrupts bytes vectors t v why legal ends whole =
        let other = alike_ends why t v (running full no_history p h deepest reads interrupts clock)
        (firm.running full k (program_of k f) (length interrupts) (firm.first_state (program_of k f)) (running_world no_history deepest reads interrupts clock))
        ends (do_the_same p h s n c f given ready packed.from k codes full no_history deepest reads interrupts clock bytes) in
        within_peak k l.layout (program_of k f) old image flat runs e is.links its_stands its_begins extra costs (fit_frames extra costs fit) memory powered clock deepest
        reads interrupts other.0 v why bytes vectors legal other.1 whole

    pub follows : DoesAsProgram e extra costs p h
    follows = by (linear_follows.follows k c.list f l tables ram (linking.handler_in u.handlers) codes stand linear)
