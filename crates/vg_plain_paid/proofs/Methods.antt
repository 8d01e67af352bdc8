-- The procedure that stands for a packed one is paid by the cost of its method.
use Rattle.std.specs.Prelude.{ℕ, suc, ◌+◌, ◌-◌, ◌*◌, ◌<◌, ◌≤◌, ◌≢◌, Bool, true, false, nat_le, List, [], ◌∷◌, length, map, Option, Some, slice_get}
use Rattle.std.specs.List.{AllByRecursion, AllZip}
use Rattle.std.proofs.Common.{◌≡◌, refl, sym, subst, arith}
use Rattle.std.proofs.lemmas.List.{length-map}
use Rattle.vg_core.specs.Program.{Program}
use Rattle.vg_firm.specs.Program.{Procedure as FirmProcedure}
use Rattle.vg_firm_typed_any.specs.TypedFor.{IsTypedFor}
use Rattle.vg_lin.specs.Program.{Procedure}
use Rattle.vg_expand.specs.Code.{expanded, base_of, place_in}
use Rattle.vg_expand.proofs.Expanded.{code_small}
use Rattle.vg_finding.specs.Finders.{finder_in, instr_found, with_finders}
use Rattle.vg_finding.proofs.Instructions.{each_found}
use Rattle.vg_flat_sizes.specs.Weights.{flat_weight}
use Rattle.vg_flat_weights.proofs.Whole.{procedure_short}
use Rattle.vg_flatten_shapes.specs.declared.layout.Layout.{Layout}
use Rattle.vg_flatten.specs.Flattened.{own_widths, temps_for, IsFlat, IsPushedFrom}
use Rattle.vg_flat_short.proofs.Fewest.{flat_from}
use Rattle.vg_flat_frames.proofs.Frames.{fewest_found}
use Rattle.vg_flat_frames.proofs.Methods.{flat_of_method}
use Rattle.vg_frame_costs.specs.Bytes.{procedure_bytes}
use Rattle.vg_frame_costs.specs.Fitting.{IsOfMethod}
use Rattle.vg_frame_costs.specs.Payable.{IsMethodPaid}
use Rattle.vg_linear.specs.Expanded.{IsExpandedTo}
use Rattle.vg_plain_paid.specs.Paid.{CostsByNodes}

-- the laws of procedures in which more values wait at one time than there are temporaries: how few of them are pushed, and what the procedure takes then
pub record PushFew : Type 0 where
  pub few : (lay : Layout) (m : FirmProcedure) (t : IsTypedFor lay m) → temps_for (length (own_widths m)) < t.most → t.most ≤ 65535
      → length m.widths - m.params + flat_weight m.body + 1 ≤ 65519 → IsPushedFrom lay m (t.most - temps_for (length (own_widths m)))
  pub bytes : (numbers : List (Option ℕ)) (first : ℕ) (lay : Layout) (m : FirmProcedure) (p : Procedure) (most : ℕ) → IsFlat lay m p
      → temps_for (length (own_widths m)) < most → IsPushedFrom lay m (most - temps_for (length (own_widths m)))
      → ((i w : ℕ) → slice_get m.widths i ≡ Some w → w ≤ 4) → procedure_bytes (with_finders numbers (expanded first p)) ≤ 6 + 4 * (length m.widths + most)

-- the finders are other procedures than the start
module _ (push : PushFew) (p : Program) (lay : Layout) (start : ℕ) (costs : List ℕ) (numbers : List (Option ℕ))
    (others : (d q : ℕ) → finder_in numbers d ≡ Some q → q ≢ start) where
  module _ (m : FirmProcedure) (h : CostsByNodes p lay start costs m) (old : Procedure) (is : IsFlat lay m old) where
    abbrev new : Procedure
    new = with_finders numbers (expanded (suc start) old)

    abbrev most : ℕ
    most = h.typed.typed.most

    code_few : length new.code ≤ 65535
    code_few =
        let light = h.light in
        let flat_short = procedure_short lay m old is in
        let twice = code_small (base_of (suc start) old) (place_in (base_of (suc start) old) old.code) old.code in
        let same = length-map (expanded (suc start) old).code (instr_found numbers) in
        omega (arith, light, flat_short, twice, same)

    -- there is room in the code
    light : length m.widths - m.params + flat_weight m.body + 1 ≤ 65519
    light = let l = h.light in omega (arith, l)

    -- it takes four bytes for each local and each value that waits, and six more
    few_by : (b : Bool) → nat_le most (temps_for (length (own_widths m))) ≡ b → procedure_bytes new ≤ 6 + 4 * (length m.widths + most)
    few_by true e =
        fewest_found numbers (suc start) lay m old most is
        (flat_from lay m most h.typed.typed.few h.typed.typed.code (grind (arith, e)) light) h.narrow
    few_by false e =
        let more : temps_for (length (own_widths m)) < most = grind (arith, e) in
        push.bytes numbers (suc start) lay m old most is more (push.few lay m h.typed.typed more h.waiting light) h.narrow

    -- the calls of finders are of other procedures than the start, as all that it calls
    of_method : AllByRecursion (IsOfMethod start) new.code
    of_method =
        each_found (IsOfMethod start) numbers (λ d q to a e looks. others d q e) (expanded (suc start) old).code (flat_of_method start lay m old is h.calls)

    -- and at most two values more wait than there are nodes, so the cost pays
    pub one_paid : IsMethodPaid start 16 costs new
    one_paid =
        let few = h.typed.within in
        let bytes = few_by (nat_le most (temps_for (length (own_widths m)))) refl in
        let cost = h.cost in
        record {
          method = m.method;
          named = is.method;
          known = h.known;
          cost = omega (arith, few, bytes, cost);
          beside = omega (arith, few, bytes, cost);
          code = of_method;
          short = code_few;
        }

  pub all_paid : (ms : List FirmProcedure) (olds news : List Procedure) → AllByRecursion (CostsByNodes p lay start costs) ms → AllZip (IsFlat lay) ms olds
      → AllZip (IsExpandedTo (suc start)) olds news → AllByRecursion (IsMethodPaid start 16 costs) (map (with_finders numbers) news)
  all_paid [] [] [] h f e = tt
  all_paid [] [] (made ∷ news) h f e = absurd e
  all_paid [] (old ∷ olds) news h f e = absurd f
  all_paid (m ∷ ms) [] news h f e = absurd f
  all_paid (m ∷ ms) (old ∷ olds) [] h f e = absurd e
  all_paid (m ∷ ms) (old ∷ olds) (made ∷ news) h f e =
      (subst (λ n. IsMethodPaid start 16 costs (with_finders numbers n)) (sym e.0.exactly) (one_paid m h.0 old f.0), all_paid ms olds news h.1 f.1 e.1)
