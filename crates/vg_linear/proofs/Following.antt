-- The linear program does what the flattened one does.
use Rattle.std.proofs.Common.{◌≡◌, refl, sym, ap, subst, ◌∙◌, arith, ℕ, ◌≤◌, List, [], ◌∷◌, length, map, option_map, Option, Some, slice_get}
use Rattle.std.proofs.lemmas.Option.{none-some, slice_get-map}
use Rattle.std.proofs.lemmas.Slice.Zip.{AllZip-long}
use Rattle.std.proofs.lemmas.List.{length-map, length-append}
use Rattle.vg_codes.specs.Codes.{Codes, AreCodes}
use Rattle.vg_finding.specs.Finders.{finder, with_finders}
use Rattle.vg_finding.proofs.Running as finding
use Rattle.vg_firm.specs.declared.procedure.Procedure.{Procedure as HeldProcedure}
use Rattle.vg_firm.specs.Held.{procedure_of}
use Rattle.vg_firm.specs.Program.{Procedure as FirmProcedure}
use Rattle.vg_lin.specs.Program.{Procedure, Program}
use Rattle.vg_lin.specs.Sound.{IsWidth}
use Rattle.vg_expand.specs.Expansion.{HasRoutines}
use Rattle.vg_expand.specs.Runs.{with_procedures, AllExpand, IsClosed, RunsAs}
use Rattle.vg_expand.proofs.Simulated.{runs_same}
use Rattle.vg_flatten_shapes.specs.declared.layout.Layout.{Layout}
use Rattle.vg_flatten_steps.specs.Calls.{passing_of}
use Rattle.vg_flatten.specs.Columns.{FlashStands}
use Rattle.vg_flatten.specs.Flattened.{start_of, AreFlat, IsFit, IsFlat, IsPassing}
use Rattle.vg_placement.specs.declared.column.Column.{Column}
use Rattle.vg_packed.specs.declared.program.FirmProgram.{FirmProgram}
use Rattle.vg_packed.specs.Programs.{program_of}
use Rattle.vg_linear.specs.declared.whole.Linear.{Linear}
use Rattle.vg_trimming.specs.Runs.{RunsAsRead}
use Rattle.vg_trimming.specs.Trimmed.{IsTrimmedTo}
use Rattle.vg_trimming.proofs.Runs as trimming
use Rattle.vg_linear.specs.Expanded.{IsExpandedTo}
use Rattle.vg_linear.specs.Passing.{passing_for}
use Rattle.vg_linear.specs.Routines.{four_for}
use Rattle.vg_linear.specs.Standing.{StandIn}
use Rattle.vg_linear.specs.Whole.{AreAllMade, IsLinear, first_routine, linear_program, packed_of}
use Rattle.vg_linear.specs.Widths.{AllHaveWidths, HasWidths}
use Rattle.vg_linear.proofs.Lists.{from_map, get_left, get_right, one_of, zip_at}
use Rattle.vg_linear.proofs.Called.{is_passing}
use Rattle.vg_linear.proofs.Routined.{routine_there}
use Rattle.vg_linear.proofs.Places.{is_lone}

is_fit : (m : HeldProcedure) → HasWidths m → IsFit (procedure_of m)
is_fit m has = record {
  params = has.params;
  widths = λ i w e. (one_of IsWidth m.widths i w has.widths e).1;
  result = has.result;
}

-- the program has more procedures than the packed one
pub all_long : (cs : List Column) (f : FirmProgram) (l : Linear) → IsLinear cs f l → length f.procedures ≤ length l.procedures
all_long cs f l is =
    let h = ap length is.made.found.procedures in
    let i = length-append (map (with_finders is.made.found.numbers) is.made.routined) (map finder is.made.found.finders) in
    let j = length-map is.made.routined (with_finders is.made.found.numbers) in
    let a = ap length is.made.routines in
    let b = length-append is.made.expanded (four_for (first_routine f) is.made.expanded) in
    let c = AllZip-long (IsExpandedTo (first_routine f)) is.made.trimmed is.made.expanded is.made.are_expanded in
    let t = AllZip-long IsTrimmedTo is.made.begun is.made.trimmed is.made.are_trimmed in
    let s = ap length is.made.with_start.behind in
    let d = length-append is.made.flats (start_of f.main is.made.with_start.main.receives ∷ []) in
    let e = AllZip-long (IsFlat l.layout) (packed_of f) is.made.flats is.made.are_flat in
    let g = length-map f.procedures procedure_of in omega (arith, h, i, j, a, b, c, t, s, d, e, g)

module _ (k : Codes) (cs : List Column) (f : FirmProgram) (l : Linear) (tables ram : List ℕ) (handler : ℕ → Option ℕ)
    (codes : AreCodes (length f.procedures) k) (stand : StandIn k l.layout f tables ram handler) (whole : IsLinear cs f l) where
  abbrev lay : Layout
  lay = l.layout

  abbrev is : AreAllMade l.layout f l.dispatches l.procedures
  is = whole.made

  have : AllHaveWidths f.procedures
  have = whole.widths

  abbrev old : Program
  old = record {
    procedures = is.begun;
    dispatches = f.dispatches;
    codes = k;
    tables = tables;
    ram = ram;
    handler = handler;
    start = l.start;
  }

  flats_long : length is.flats ≡ length f.procedures
  flats_long = AllZip-long (IsFlat lay) (packed_of f) is.flats is.are_flat ∙ length-map f.procedures procedure_of

  has_widths : (q : ℕ) (m : FirmProcedure) → slice_get (packed_of f) q ≡ Some m
      → (x : HeldProcedure) × (slice_get f.procedures q ≡ Some x) × HasWidths x × (procedure_of x ≡ m)
  has_widths q m e =
      let r = from_map procedure_of f.procedures q m e in (r.0, r.1, one_of HasWidths f.procedures q r.0 have r.1, r.2)

  there : (q : ℕ) (p : Procedure) → slice_get is.flats q ≡ Some p → slice_get is.begun q ≡ Some p
  there q p e = ap (λ z. slice_get z q) is.with_start.behind ∙ get_left is.flats (start_of f.main is.with_start.main.receives ∷ []) q p e

  flats : (q : ℕ) (m : FirmProcedure) → slice_get (packed_of f) q ≡ Some m
      → (lp : Procedure) × (slice_get is.begun q ≡ Some lp) × IsFit m × IsFlat lay m lp
  flats q m e =
      let p = zip_at (IsFlat lay) (packed_of f) is.flats is.are_flat q m e in
      let x = has_widths q m e in
      (p.0, there q p.0 p.1, subst IsFit x.3 (is_fit x.0 x.2), p.2)

  passing : (q : ℕ) (m : FirmProcedure) → slice_get (packed_of f) q ≡ Some m → IsPassing m (passing_of (slice_get lay.passing q))
  passing q m e =
      let x = has_widths q m e in
      let there : slice_get lay.passing q ≡ Some (passing_for x.0) =
      ap (λ (z : Layout). slice_get z.passing q) whole.layout ∙ (slice_get-map passing_for f.procedures q ∙ ap (option_map passing_for) x.1) in
      subst (λ z. IsPassing m (passing_of z)) (sym there) (subst (λ z. IsPassing z (passing_for x.0)) x.3 (is_passing x.0 x.2))

  start_there : slice_get is.begun l.start ≡ Some (start_of f.main is.with_start.main.receives)
  start_there =
      ap (λ z. slice_get z l.start) is.with_start.behind
      ∙ get_right is.flats (start_of f.main is.with_start.main.receives ∷ []) l.start 0 (let s = whole.start in let n = flats_long in omega (arith, s, n))

  flash_stands : FlashStands lay (program_of k f) old
  flash_stands = record {
    columns = λ c place vs e g. absurd (none-some place (sym (ap (λ (z : Layout). slice_get z.flash c) whole.layout) ∙ e));
    tables = stand.arrays;
    lone = λ t a e. is_lone f.tables t a (ap (λ (z : Layout). slice_get z.lone_arrays t) (sym whole.layout) ∙ e);
    known = stand.known;
    known_columns = λ c e. refl;
  }

  pub are_flat : AreFlat k lay (program_of k f) old
  are_flat = record {
    flats = flats;
    passing = passing;
    codes = refl;
    numbers = subst (λ z. AreCodes z k) (sym (length-map f.procedures procedure_of)) codes;
    dispatches = refl;
    handler = stand.handlers;
    main = is.with_start.main;
    is_main = is.with_start.is_main;
    start = start_there;
    flash = flash_stands;
    ram = stand.columns;
  }

  begun_long : length is.begun ≡ first_routine f
  begun_long =
      let s = ap length is.with_start.behind in
      let a = length-append is.flats (start_of f.main is.with_start.main.receives ∷ []) in let n = flats_long in omega (arith, s, a, n)

  -- the same with trimmed procedures
  abbrev middle : Program
  middle = with_procedures old is.trimmed

  trimmed_long : length is.trimmed ≡ first_routine f
  trimmed_long = AllZip-long IsTrimmedTo is.begun is.trimmed is.are_trimmed ∙ begun_long

  expanded_long : length is.expanded ≡ first_routine f
  expanded_long = AllZip-long (IsExpandedTo (first_routine f)) is.trimmed is.expanded is.are_expanded ∙ trimmed_long

  all_expand : AllExpand (first_routine f) is.trimmed is.routined
  all_expand q m e =
      let r = zip_at (IsExpandedTo (first_routine f)) is.trimmed is.expanded is.are_expanded q m e in (
        r.2.sound,
        (r.0, ap (λ z. slice_get z q) is.routines ∙ get_left is.expanded (four_for (first_routine f) is.expanded) q r.0 r.1, r.2.expands),
      )

  -- the same with expanded ones and routines
  abbrev routined : Program
  routined = with_procedures middle is.routined

  routined_long : first_routine f ≤ length is.routined
  routined_long =
      let s = ap length is.routines in
      let a = length-append is.expanded (four_for (first_routine f) is.expanded) in let n = expanded_long in omega (arith, s, a, n)

  has_routines : HasRoutines (first_routine f) routined
  has_routines = routine_there (first_routine f) is.expanded is.routined is.routines (sym expanded_long)

  closed : IsClosed old
  closed = record {
    start = let s = whole.start in let o = begun_long in omega (arith, s, o);
    handlers = λ v q e. let h = stand.closed v q e in let o = begun_long in omega (arith, h, o);
  }

  closed_too : IsClosed middle
  closed_too = record {
    start = let s = whole.start in let o = trimmed_long in omega (arith, s, o);
    handlers = λ v q e. let h = stand.closed v q e in let o = trimmed_long in omega (arith, h, o);
  }

  closed_routined : IsClosed routined
  closed_routined = record {
    start = let s = whole.start in let o = routined_long in omega (arith, s, o);
    handlers = λ v q e. let h = stand.closed v q e in let o = routined_long in omega (arith, h, o);
  }

  expanded_runs : RunsAs middle routined
  expanded_runs = runs_same (first_routine f) middle is.routined all_expand has_routines closed_too

  found_runs : RunsAs routined (linear_program k f l tables ram handler)
  found_runs = finding.runs_same routined (length f.procedures) l.procedures l.dispatches is.found codes closed_routined

  trimmed_runs : RunsAsRead old middle
  trimmed_runs = trimming.runs_same old is.trimmed is.are_trimmed closed stand.ram_bytes stand.table_bytes

  pub runs_as : RunsAsRead old (linear_program k f l tables ram handler)
  runs_as =
      trimming.runs_then old routined (linear_program k f l tables ram handler)
      (trimming.runs_then old middle routined trimmed_runs expanded_runs) found_runs

  pub follows : (p : Program) × AreFlat k lay (program_of k f) p × RunsAsRead p (linear_program k f l tables ram handler)
  follows = (old, are_flat, runs_as)
