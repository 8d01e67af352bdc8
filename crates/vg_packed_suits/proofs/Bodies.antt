-- All procedures of a packed program are typed.
use Rattle.std.proofs.Common.{◌≡◌, refl, sym, ap, subst, ◌∙◌, arith, ℕ, suc, ◌+◌, ◌≤◌, List, [], ◌∷◌, ◌++◌, length, map, Option, Some, None, slice_get}
use Rattle.std.proofs.lemmas.List.{length-map}
use Rattle.std.specs.List.{AllByRecursion}
use Rattle.vg_core.specs.declared.heap.Heap.{Heap}
use Rattle.vg_core.specs.declared.program.Method.{Method}
use Rattle.vg_core.specs.declared.program.Tables.{Tables}
use Rattle.vg_core.specs.declared.step.Step.{Step}
use Rattle.vg_core.specs.Program.{Body, Program, method_signature}
use Rattle.vg_core.specs.State.{onto}
use Rattle.vg_core.specs.Typing.{locals_of}
use Rattle.vg_sound.proofs.Values.{onto_length}
use Rattle.vg_firm.specs.Held.{procedure_of}
use Rattle.vg_firm.specs.Program.{Procedure}
use Rattle.vg_flatten_shapes.specs.declared.layout.Layout.{Layout as Placed}
use Rattle.vg_coded.specs.Widths.{width_of}
use Rattle.vg_live.specs.declared.live_set.LiveSet.{LiveSet}
use Rattle.vg_live.specs.Sets.{flat}
use Rattle.vg_live.specs.Uses.{steps_of, steps_in}
use Rattle.vg_number.specs.declared.numbers.Numbers.{Numbers}
use Rattle.vg_number.specs.Numbering.{kinds_of}
use Rattle.vg_packing.specs.Layout.{Layout}
use Rattle.vg_packing.specs.Pass.{move, packed}
use Rattle.vg_pack_bodies.specs.Procedures.{packed_here, packed_if, packed_methods, signature, unless_none}
use Rattle.vg_pack_calls.specs.Asked.{steps_from}
use Rattle.vg_pack_code.specs.declared.plan.Plan.{Plan}
use Rattle.vg_pack_code.specs.Plans.{moved}
use Rattle.vg_place.specs.declared.placing.Columns.{Columns}
use Rattle.vg_plan.specs.Planned.{HasTables}
use Rattle.vg_packed.proofs.Live.{is_of, only_methods}
use Rattle.vg_packed.proofs.Moves.{same_move, same_unpaired}
use Rattle.vg_packed.proofs.Whole.{live_fits}
use Rattle.vg_packed.specs.declared.program.FirmProgram.{FirmProgram}
use Rattle.vg_packed.specs.Given.{IsGiven}
use Rattle.vg_packed.specs.Packed.{IsPackedFrom}
use Rattle.vg_packed.specs.Plans.{planned}
use Rattle.vg_packed.specs.Programs.{program_of}
use Rattle.vg_packed.specs.Ready.{IsReady}
use Rattle.vg_packed_small.proofs.Procedures.{some_codes, codes}
use Rattle.vg_packed_typed.proofs.Moved.{is_typed}
use Rattle.vg_packed_suits.specs.Standing.{StandIn}
use Rattle.vg_packed_typed.specs.Methods.{AreCounted}
use Rattle.vg_packed_suits.specs.Bodies.{HaveSmallFields, IsTypedOf}
use Rattle.vg_packed_suits.proofs.Suited.{suits}

-- ---- what holds of each packed procedure

both : {A : Type 0} (P : A → Type 0) (xs ys : List A) → AllByRecursion P xs → AllByRecursion P ys → AllByRecursion P (xs ++ ys)
both P [] ys a b = b
both P (x ∷ xs) ys (h, a) b = (h, both P xs ys a b)

module _ (p : Tables) (n : Numbers) (x : Plan) (P : Procedure → Type 0) where
  -- it holds of that of each method that has one, from a method on
  abbrev pub Of : (m : ℕ) → List Method → List Body → Type 0
  Of m ys bs =
      (i q : ℕ) (y : Method) (b : Body) → slice_get ys i ≡ Some y → slice_get bs i ≡ Some b → flat (slice_get x.procedures (i + m)) ≡ Some q
      → P (packed_here p n x (i + m) y b)

  one_packed : (m : ℕ) (y : Method) (b : Body) → ((q : ℕ) → flat (slice_get x.procedures m) ≡ Some q → P (packed_here p n x m y b))
      → AllByRecursion P (packed_if p n x m y b)
  one_packed m y b h = by (flat (slice_get x.procedures m)) refl
    where
      by : (o : Option ℕ) → flat (slice_get x.procedures m) ≡ o → AllByRecursion P (unless_none o (packed_here p n x m y b))
      by (Some q) e = (h q e, tt)
      by None e = tt

  pub each_packed : (m : ℕ) (ys : List Method) (bs : List Body) → Of m ys bs → AllByRecursion P (packed_methods p n x m ys bs)
  each_packed m [] bs h = tt
  each_packed m (y ∷ ys) [] h = tt
  each_packed m (y ∷ ys) (b ∷ bs) h =
      both P (packed_if p n x m y b) (packed_methods p n x (suc m) ys bs) (one_packed m y b first) (each_packed (suc m) ys bs later)
    where
      first : (q : ℕ) → flat (slice_get x.procedures m) ≡ Some q → P (packed_here p n x m y b)
      first q e =
          let z : 0 + m ≡ m = omega arith in
          subst (λ w. P (packed_here p n x w y b)) z (h 0 q y b refl refl (ap (λ w. flat (slice_get x.procedures w)) z ∙ e))

      later : Of (suc m) ys bs
      later i q y1 b1 ey eb e =
          let z : suc i + m ≡ i + suc m = omega arith in
          subst (λ w. P (packed_here p n x w y1 b1)) z (h (suc i) q y1 b1 ey eb (ap (λ w. flat (slice_get x.procedures w)) z ∙ e))

-- ---- the procedures

module _ (p : Program) (h : Heap) (s : LiveSet) (n : Numbers) (c : Columns) (f : FirmProgram) (given : IsGiven p h s n c) (from : IsPackedFrom p h s n c f)
    (is : HasTables p.tables (kinds_of h) s c.list (steps_from p 0 s.methods) from.plan) (ready : IsReady p h) (fields : HaveSmallFields p.tables)
    (counted : AreCounted p) (lay : Placed) (stand : StandIn c.list lay) where
  abbrev l : Layout
  l = planned h n from.plan

  -- what a method becomes is what the pass makes of it
  pub same_packed : (m : ℕ) (y : Method) (b : Body) → slice_get p.methods m ≡ Some b
      → packed_here p.tables n from.plan m y b ≡ packed p.tables l some_codes m (signature y) b
  same_packed m y b eb =
      ap (λ z. record (packed p.tables l some_codes m (signature y) b) { body = z })
      (sym (same_unpaired (move p.tables l some_codes) (moved p.tables n from.plan) b.code None tt
      (λ i q e. same_move p.tables (kinds_of h) n from.plan some_codes q (ready.plain.steps m i q (there i q e)) (ready.few_arguments m i q (there i q e)))))
    where
      there : (i : ℕ) (q : Step) → slice_get (steps_in (Some b)) i ≡ Some q → slice_get (steps_of p m) i ≡ Some q
      there i q e = ap (λ o. slice_get (steps_in o) i) eb ∙ e

  -- a procedure has the parameters and the other locals of its method
  as_many : (y : Method) (b : Body) → length (locals_of (signature y) b) ≡ length y.params + length b.others
  as_many y b = let a = onto_length y.params [] in let c1 = onto_length (onto y.params []) b.others in omega (arith, a, c1)

  typed_method : (m q : ℕ) (y : Method) (b : Body) → slice_get p.tables.methods m ≡ Some y → slice_get p.methods m ≡ Some b
      → flat (slice_get from.plan.procedures m) ≡ Some q → IsTypedOf p lay (packed_here p.tables n from.plan m y b)
  typed_method m q y b ey eb e =
      let k = counted m y b ey eb in
      let is_codes = codes p h s n c f from given in
      let few : length (locals_of (signature y) b) ≤ 60 = let u = k.few in let v = as_many y b in omega (arith, u, v) in
      let t = is_typed p.tables l some_codes (program_of some_codes f) lay (l.edges m) m (signature y) b
      (suits p h s n c f given ready fields from is some_codes is_codes lay stand) given.few_parameters
      (live_fits p given.typed ready.plain h given.heap.0 given.heap.1 l some_codes (program_of some_codes f)
      (is_of p h s n c f given ready from some_codes) m (signature y) b (only_methods p h s n c f given ready from some_codes m q e)
      (ap method_signature ey) eb)
      few k.most k.counted in
      subst (IsTypedOf p lay) (sym (same_packed m y b eb))
      (record {
        typed = t.0;
        method = y;
        there = ey;
        within = let most = t.1 in let u = k.within in omega (arith, most, u);
        body = b;
        has_body = eb;
        locals = length-map (locals_of (signature y) b) width_of ∙ as_many y b;
      })

  pub all_typed : AllByRecursion (IsTypedOf p lay) (map procedure_of f.procedures)
  all_typed =
      subst (AllByRecursion (IsTypedOf p lay)) (sym from.procedures)
      (each_packed p.tables n from.plan (IsTypedOf p lay) 0 p.tables.methods p.methods
      (λ i q y b ey eb e. let z : i + 0 ≡ i = omega arith in
      subst (λ w. IsTypedOf p lay (packed_here p.tables n from.plan w y b)) (sym z)
      (typed_method i q y b ey eb (ap (λ w. flat (slice_get from.plan.procedures w)) (sym z) ∙ e))))
