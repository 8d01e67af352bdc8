-- Costs pay for all procedures of a plain linear program.
use Rattle.std.specs.Prelude.{ℕ, suc, ◌<◌, ◌≤◌, ◌≢◌, ◌^◌, Bool, List, [], ◌∷◌, ◌++◌, take, drop, length, map, Option, Some, slice_get}
use Rattle.std.specs.List.{AllByRecursion, AllZip}
use Rattle.std.proofs.Common.{◌≡◌, sym, ap, subst, ◌∙◌, arith}
use Rattle.std.proofs.lemmas.List.{length-map}
use Rattle.vg_source.specs.Peak.{cost_of}
use Rattle.vg_core.specs.Program.{Program}
use Rattle.vg_expand.specs.Code.{expanded}
use Rattle.vg_finding.specs.Finders.{finder, finder_in, with_finders}
use Rattle.vg_firm.specs.Held.{procedure_of}
use Rattle.vg_flatten.specs.Flattened.{start_of, IsFlat}
use Rattle.vg_frame_costs.specs.Payable.{CanBePaid, IsMethodPaid, IsRoutineShort, IsStartShort, IsStartThere}
use Rattle.vg_lin.specs.Program.{Procedure}
use Rattle.vg_linear.specs.declared.whole.Linear.{Linear}
use Rattle.vg_linear.specs.Expanded.{IsExpandedTo}
use Rattle.vg_linear.specs.Laying.{layout_of}
use Rattle.vg_linear.specs.Routines.{four_for, standing}
use Rattle.vg_linear.specs.Whole.{IsPlain, first_routine, packed_of}
use Rattle.vg_packed.specs.declared.program.FirmProgram.{FirmProgram}
use Rattle.vg_placement.specs.declared.column.Column.{Column}
use Rattle.vg_routine_frames.proofs.Finders.{finder_within, finder_short}
use Rattle.vg_routine_frames.proofs.Routines.{standing_within, standing_short}
use Rattle.vg_routine_frames.proofs.Starts.{start_within, start_short}
use Rattle.vg_plain_paid.specs.Paid.{CostsByNodes}
use Rattle.vg_plain_paid.proofs.Methods.{PushFew, all_paid}
use Rattle.vg_plain_paid.proofs.Rows.{Ends, ends, split_at, each_of_row, all_of_both, as_long, within}
use Rattle.vg_plain_paid.proofs.Same.{standing_same, start_same}

-- ---- the start, the routines and the finders

module _ (numbers : List (Option ℕ)) where
  routine : (first : ℕ) (ps : List Procedure) (which : ℕ) → IsRoutineShort 16 (with_finders numbers (standing first ps which))
  routine first ps which =
      subst (IsRoutineShort 16) (sym (standing_same numbers first ps which))
      (record { routine = standing_within 16 (omega arith) first ps which; short = standing_short first ps which })

  four : (first : ℕ) (ps : List Procedure) → AllByRecursion (IsRoutineShort 16) (map (with_finders numbers) (four_for first ps))
  four first ps = (routine first ps 0, (routine first ps 1, (routine first ps 2, (routine first ps 3, tt))))

  start : (first start main : ℕ) (receives : Bool) → main < start → IsStartShort start (with_finders numbers (expanded first (start_of main receives)))
  start first at main receives less =
      subst (IsStartShort at) (sym (start_same numbers first main receives))
      (record { within = start_within first at main 6 receives less (omega arith); short = start_short first main receives })

finders : (ds : List ℕ) → AllByRecursion (IsRoutineShort 16) (map finder ds)
finders [] = tt
finders (d ∷ ds) = (record { routine = finder_within 16 d (omega arith); short = finder_short d }, finders ds)

-- ---- programs

module _ (push : PushFew) (p : Program) (cs : List Column) (f : FirmProgram) (l : Linear) (costs : List ℕ) (plain : IsPlain cs f l)
    (each : AllByRecursion (CostsByNodes p (layout_of cs f) (length f.procedures) costs) (packed_of f))
    (least : (m : ℕ) → m < length costs → 32 ≤ cost_of costs m) (small : (m : ℕ) → cost_of costs m < 2 ^ 31) where
  abbrev count : ℕ
  count = length f.procedures

  abbrev first : ℕ
  first = first_routine f

  next : first ≡ suc count
  next = omega arith

  abbrev starts : Procedure
  starts = start_of f.main plain.with_start.main.receives

  abbrev numbers : List (Option ℕ)
  numbers = plain.found.numbers

  by_ends : Ends (IsExpandedTo first) plain.flats starts plain.expanded
  by_ends =
      ends (IsExpandedTo first) plain.flats starts plain.expanded
      (subst (λ ps. AllZip (IsExpandedTo first) ps plain.expanded) plain.with_start.behind plain.are_expanded)

  -- as many procedures stand before the start as are packed
  before : length by_ends.front ≡ count
  before =
      as_long (IsExpandedTo first) plain.flats by_ends.front by_ends.fronts
      ∙ (as_long (IsFlat l.layout) (packed_of f) plain.flats plain.are_flat ∙ length-map f.procedures procedure_of)

  main_before : f.main < count
  main_before =
      subst (λ n. f.main < n) (length-map f.procedures procedure_of) (within (packed_of f) f.main plain.with_start.main plain.with_start.is_main)

  -- the start and the routines behind it are there before finders
  abbrev fours : List Procedure
  fours = four_for first plain.expanded

  in_two : plain.routined ≡ (by_ends.front ++ by_ends.last ∷ []) ++ fours
  in_two = plain.routines ∙ ap (λ ps. ps ++ fours) by_ends.both

  start_among : count < length plain.routined
  start_among =
      within plain.routined count by_ends.last
      (subst (λ ps. slice_get ps count ≡ Some by_ends.last) (sym in_two)
      (subst (λ n. slice_get ((by_ends.front ++ by_ends.last ∷ []) ++ fours) n ≡ Some by_ends.last) before (split_at by_ends.front by_ends.last fours).1))

  others : (d q : ℕ) → finder_in numbers d ≡ Some q → q ≢ count
  others d q e is_start = let behind = (plain.found.each d q e).number in let among = start_among in omega (arith, behind, among, is_start)

  -- ---- the rows of the program

  abbrev fronts : List Procedure
  fronts = map (with_finders numbers) by_ends.front

  abbrev last : Procedure
  last = with_finders numbers by_ends.last

  abbrev behind : List Procedure
  behind = map (with_finders numbers) fours ++ map finder plain.found.finders

  together : l.procedures ≡ (fronts ++ last ∷ []) ++ behind
  together =
      plain.found.procedures
      ∙ (ap (λ ps. map (with_finders numbers) ps ++ map finder plain.found.finders) in_two
      ∙ each_of_row (with_finders numbers) by_ends.front by_ends.last fours (map finder plain.found.finders))

  rows : (take count l.procedures ≡ fronts) × (slice_get l.procedures count ≡ Some last) × (drop (suc count) l.procedures ≡ behind)
  rows =
      subst (λ n. (take n l.procedures ≡ fronts) × (slice_get l.procedures n ≡ Some last) × (drop (suc n) l.procedures ≡ behind))
      (length-map by_ends.front (with_finders numbers) ∙ before)
      (subst (λ ps. (take (length fronts) ps ≡ fronts) × (slice_get ps (length fronts) ≡ Some last) × (drop (suc (length fronts)) ps ≡ behind))
      (sym together) (split_at fronts last behind))

  with_methods : AllByRecursion (IsMethodPaid count 16 costs) fronts → CanBePaid l.procedures count costs
  with_methods methods =
      record {
        above = 16;
        few = λ m less. let h = least m less in omega (arith, h);
        small = small;
        methods = subst (AllByRecursion (IsMethodPaid count 16 costs)) (sym rows.0) methods;
        first =
            subst (IsStartThere count) (sym rows.1)
            (subst (λ ps. IsStartShort count (with_finders numbers ps)) (sym by_ends.lasts.exactly)
            (start numbers first count f.main plain.with_start.main.receives main_before));
        routines =
            subst (AllByRecursion (IsRoutineShort 16)) (sym rows.2)
            (all_of_both (IsRoutineShort 16) (map (with_finders numbers) fours) (map finder plain.found.finders) (four numbers first plain.expanded)
            (finders plain.found.finders));
      }

  pub can_be_paid : CanBePaid l.procedures l.start costs
  can_be_paid =
      subst (λ n. CanBePaid l.procedures n costs) (sym plain.start)
      (with_methods
      (all_paid push p (layout_of cs f) count costs numbers others (packed_of f) plain.flats by_ends.front each
      (subst (λ lay. AllZip (IsFlat lay) (packed_of f) plain.flats) plain.layout plain.are_flat)
      (subst (λ n. AllZip (IsExpandedTo n) plain.flats by_ends.front) next by_ends.fronts)))
