-- Programs as they are made, step by step, and why they are refused.
use Rattle.std.proofs.Common.{◌≡◌, sym, ap, subst, ◌∙◌, arith, inl, inr, ℕ, ◌<◌, List, [], ◌∷◌, ◌++◌, length, map, option_map, Some, Err, slice_get, get_or}
use Rattle.std.proofs.lemmas.Option.{slice_get-map}
use Rattle.vg_base.specs.declared.refusal.Refusal.{Refusal}
use Rattle.vg_base.specs.declared.refusal.Refusal.TheVariants.{Fault as Faulty, NoMemory as Memory}
use Rattle.vg_codes.specs.declared.case.Case.{Case}
use Rattle.vg_finding.specs.Found.{AreFound}
use Rattle.vg_firm.specs.declared.procedure.Procedure.{Procedure as HeldProcedure}
use Rattle.vg_firm.specs.Held.{procedure_of}
use Rattle.vg_lin.specs.Program.{Procedure}
use Rattle.vg_flatten_shapes.specs.declared.fault.Fault.{Fault}
use Rattle.vg_flatten_shapes.specs.declared.layout.Layout.{Layout}
use Rattle.vg_flatten.specs.Flattened.{start_of}
use Rattle.vg_placement.specs.declared.column.Column.{Column}
use Rattle.vg_packed.specs.declared.program.FirmProgram.{FirmProgram}
use Rattle.vg_trimming.specs.Trimmed.{AreAllTrimmed}
use Rattle.vg_apt.specs.Apt.{AllKeepApt}
use Rattle.vg_trim.specs.Looked.{AreNoLonger}
use Rattle.vg_linear.specs.Laying.{layout_of}
use Rattle.vg_linear.specs.Flats.{AreAllFlat, AreTaken, AreTyped, IsRefusedFor}
use Rattle.vg_linear.specs.Expanded.{AreAllExpanded, IsOneTooLong}
use Rattle.vg_linear.specs.Routines.{WithRoutines}
use Rattle.vg_linear.specs.Whole.{AreAllMade, ArePlain, IsWithStart, first_routine, packed_of}
use Rattle.vg_linear.specs.Widths.{AllHaveWidths}
use Rattle.vg_linear.specs.Refusals.{AreRefused, AreTakenIn, IsExpandedOrTooLong, IsRefused, IsTakenFor, IsTypedIn}
use Rattle.vg_linear.proofs.Lists.{get_at}
use Rattle.vg_linear.proofs.Expanded.{among}
use Rattle.vg_linear.proofs.Trimmed.{long_before}

-- ---- the start

pub started : (f : FirmProgram) (ms : List HeldProcedure) (q : ℕ) (m : HeldProcedure) (s : Procedure) (old new : List Procedure) → ms ≡ f.procedures
    → q ≡ f.main → f.main < length f.procedures → m ≡ get_or ms q m → s ≡ start_of f.main m.receives → new ≡ old ++ s ∷ [] → IsWithStart f old new
started f ms q m s old new procedures main within is is_start behind = record {
  main = procedure_of m;
  is_main = slice_get-map procedure_of f.procedures f.main ∙ ap (option_map procedure_of) (there f.procedures procedures f.main main within);
  behind = behind ∙ ap (λ z. old ++ z ∷ []) is_start;
}
  where
    there : (xs : List HeldProcedure) → ms ≡ xs → (i : ℕ) → q ≡ i → i < length xs → slice_get xs i ≡ Some m
    there xs e i g lt = get_at xs i m lt (is ∙ (ap (λ z. get_or z q m) e ∙ ap (λ z. get_or xs z m) g))

-- ---- finders

-- what is found in parts that are equal
found_in : (count n : ℕ) (olds os news : List (List Case)) (old ps new : List Procedure) → n ≡ count → os ≡ olds → ps ≡ old → AreFound n os news ps new
    → AreFound count olds news old new
found_in count n olds os news old ps new en eo ep h =
    subst (λ z. AreFound z olds news old new) en
    (subst (λ z. AreFound n z news old new) eo (subst (λ z. AreFound n os news z new) ep h))

-- ---- procedures

module _ (lay : Layout) (f : FirmProgram) where
  pub flats_refused : (ms : List HeldProcedure) → ms ≡ f.procedures → (why : Refusal Fault) → IsRefusedFor (Err why) lay (map procedure_of ms)
      → AreRefused (Err why) lay f
  flats_refused ms e Memory h = tt
  flats_refused ms e (Faulty why) h = inl (subst (λ z. IsRefusedFor (Err (Faulty why)) lay (map procedure_of z)) e h)

  pub flats_left : (ms : List HeldProcedure) → ms ≡ f.procedures → (why : Refusal Fault)
      → (AreTyped lay (map procedure_of ms) → AreTaken (Err why) lay (map procedure_of ms)) → IsTypedIn lay f → AreTakenIn (Err why) lay f
  flats_left ms e Memory h t = tt
  flats_left ms e (Faulty why) h t =
      let r = subst (λ z. AreTaken (Err (Faulty why)) lay (map procedure_of z)) e (h (subst (λ z. AreTyped lay (map procedure_of z)) (sym e) t.typed)) in
      (r.0, inl r.1)

  module _ (flats : List Procedure) (are_flat : AreAllFlat lay (packed_of f) flats) (begun : List Procedure) (with_start : IsWithStart f flats begun) where
    module _ (bs : List Procedure) (same : bs ≡ begun) (trimmed : List Procedure) (are_trimmed : AreAllTrimmed bs trimmed) (are_short : AreNoLonger bs trimmed)
        (ms : List Procedure) (e : ms ≡ trimmed) (first : ℕ) where
      long : IsOneTooLong ms → IsOneTooLong flats
      long h =
          among flats (start_of f.main with_start.main.receives) (let three : 3 < 32768 = omega arith in three)
          (subst IsOneTooLong (same ∙ with_start.behind) (long_before bs trimmed are_short (subst IsOneTooLong e h)))

      pub expanded_refused : (why : Refusal Fault) → IsExpandedOrTooLong (Err why) first ms → AreRefused (Err why) lay f
      expanded_refused Memory h = tt
      expanded_refused (Faulty why) h = inr (h.0, record { flats = flats; are_flat = are_flat; long = long h.1 })

      pub expanded_left : (why : Refusal Fault) → IsExpandedOrTooLong (Err why) first ms → IsTypedIn lay f → AreTakenIn (Err why) lay f
      expanded_left Memory h t = tt
      expanded_left (Faulty why) h t = (h.0, inr (record { flats = flats; are_flat = are_flat; long = long h.1 }))

      module _ (expanded routined : List Procedure) (is : first ≡ first_routine f) (are_expanded : AreAllExpanded first ms expanded)
          (routines : WithRoutines first expanded routined) (count : ℕ) (os news : List (List Case)) (ps all : List Procedure)
          (counted : count ≡ length f.procedures) (dispatches : os ≡ f.dispatches) (procedures : ps ≡ routined) (are_found : AreFound count os news ps all) where
        found : AreFound (length f.procedures) f.dispatches news routined all
        found = found_in (length f.procedures) count f.dispatches os news routined ps all counted dispatches procedures are_found

        pub all_made : AllKeepApt bs trimmed → AreAllMade lay f news all
        all_made keep = record {
          flats = flats;
          are_flat = are_flat;
          begun = begun;
          with_start = with_start;
          trimmed = trimmed;
          are_trimmed = subst (λ z. AreAllTrimmed z trimmed) same are_trimmed;
          keep_apt = subst (λ z. AllKeepApt z trimmed) same keep;
          expanded = expanded;
          are_expanded = subst (λ z. AreAllExpanded z trimmed expanded) is (subst (λ z. AreAllExpanded first z expanded) e are_expanded);
          routined = routined;
          routines = subst (λ z. WithRoutines z expanded routined) is routines;
          found = found;
        }

        pub all_plain : trimmed ≡ bs → ArePlain lay f news all
        all_plain kept = λ cs l laid stands dispatched has start. record {
          layout = stands ∙ laid;
          flats = flats;
          are_flat = subst (λ z. AreAllFlat z (packed_of f) flats) (sym stands) are_flat;
          begun = begun;
          with_start = with_start;
          expanded = expanded;
          are_expanded = subst (λ z. AreAllExpanded z begun expanded) is (subst (λ z. AreAllExpanded first z expanded) (e ∙ (kept ∙ same)) are_expanded);
          routined = routined;
          routines = subst (λ z. WithRoutines z expanded routined) is routines;
          found = subst (λ z. AreFound (length f.procedures) f.dispatches l.dispatches routined z) (sym has)
              (subst (λ z. AreFound (length f.procedures) f.dispatches z routined all) (sym dispatched) found);
          start = start;
        }

-- ---- programs

module _ (cs : List Column) (f : FirmProgram) (lay : Layout) (laid : lay ≡ layout_of cs f) where
  pub whole_refused : (why : Refusal Fault) → AreRefused (Err why) lay f → IsRefused (Err why) cs f
  whole_refused Memory h = tt
  whole_refused (Faulty why) h = inr (inr (subst (λ z. AreRefused (Err (Faulty why)) z f) laid h))

  pub whole_left : (why : Refusal Fault) → (IsTypedIn lay f → AreTakenIn (Err why) lay f) → IsTypedIn (layout_of cs f) f
      → IsTakenFor (Err why) cs f
  whole_left Memory h t = tt
  whole_left (Faulty why) h t =
      inr (subst (λ z. AreTakenIn (Err (Faulty why)) z f) laid (h (subst (λ z. IsTypedIn z f) (sym laid) t)))

-- where some have other widths
pub no_widths : (f : FirmProgram) (ms : List HeldProcedure) → ms ≡ f.procedures → (AllHaveWidths ms → ⊥) → AllHaveWidths f.procedures → ⊥
no_widths f ms e no' all = no' (subst AllHaveWidths (sym e) all)
