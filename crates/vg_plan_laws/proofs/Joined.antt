-- What is among the lists of which sets of procedures are made.
use Rattle.std.proofs.Common.{◌≡◌, sym, ap, subst, ◌∙◌, arith, ℕ, zero, suc, ◌+◌, ◌<◌, ◌==◌, ◌&&◌, nat_lt, Bool, true, List, [], ◌∷◌}
use Rattle.std.proofs.Common.{length, map, option_map, Option, Some, None, slice_get, if◌then◌else◌}
use Rattle.std.proofs.lemmas.Option.{same_Some, none-some, slice_get-map}
use Rattle.vg_codes.specs.declared.case.Case.{Case}
use Rattle.vg_core.specs.declared.heap.Cell.{Cell}
use Rattle.vg_core.specs.declared.heap.Heap.{Heap}
use Rattle.vg_core.specs.declared.program.Field.{Field}
use Rattle.vg_core.specs.declared.program.Method.{Method}
use Rattle.vg_core.specs.declared.program.Tables.{Tables}
use Rattle.vg_core.specs.declared.step.Step.{Step}
use Rattle.vg_core.specs.declared.value.CoreValue.{CoreValue}
use Rattle.vg_core.specs.Heap.{OfComponent, OfObject, value_at}
use Rattle.vg_core.specs.Program.{Program}
use Rattle.vg_firm.specs.Session.{is_among}
use Rattle.vg_live.specs.declared.live_set.LiveSet.{LiveSet}
use Rattle.vg_live.specs.declared.live_set.Reason.{Reason}
use Rattle.vg_live.specs.Sets.{flat}
use Rattle.vg_live.specs.Uses.{steps_of}
use Rattle.vg_number.specs.Numbering.{has_reason}
use Rattle.vg_pack_code.specs.declared.plan.Plan.{Plan}
use Rattle.vg_pack_code.specs.Plans.{holds, row_in}
use Rattle.vg_plan_uses.specs.Binding.{is_bound}
use Rattle.vg_plan_uses.specs.Calling.{delegates, called_by, called, edges_from}
use Rattle.vg_plan_uses.specs.Held.{in_value, in_option, in_items, in_components, in_object, in_cell, in_cells}
use Rattle.vg_plan_uses.specs.Sets.{one_of, with_all}
use Rattle.vg_plan_laws.proofs.Among.{in_left, in_right, one_among, with_right}

-- ---- delegates

-- a method is bindable where its procedure is in the set
pub bound_join : (room : ℕ) (qs : List ℕ) (procedures : List (Option ℕ)) (m q : ℕ) → flat (slice_get procedures m) ≡ Some q → q < room
    → is_among qs q ≡ true → holds (slice_get (map (is_bound room qs) procedures) m) ≡ true
bound_join room qs procedures m q e lt t = ap holds (slice_get-map (is_bound room qs) procedures m) ∙ by (slice_get procedures m) e
  where
    inside : nat_lt q room ≡ true
    inside = grind (arith, lt)

    by : (o : Option (Option ℕ)) → flat o ≡ Some q → holds (option_map (is_bound room qs) o) ≡ true
    by None eo = absurd (none-some q eo)
    by (Some None) eo = absurd (none-some q eo)
    by (Some (Some r)) eo =
        subst (λ w. (nat_lt w room && is_among qs w) ≡ true) (sym (same_Some r q eo)) (ap (λ b. b && is_among qs q) inside ∙ t)

-- a method of a function type that delegates may be of
pub delegate_join : (x : Plan) (t q m : ℕ) (ms : List Method) (i : ℕ) (y : Method) → slice_get ms i ≡ Some y → holds (slice_get x.bindable (i + m)) ≡ true
    → y.function ≡ t → flat (slice_get x.procedures (i + m)) ≡ Some q → is_among (delegates x t m ms) q ≡ true
delegate_join x t q m [] i y e b f g = absurd (none-some y e)
delegate_join x t q m (z ∷ ms) zero y e b f g =
    let at : 0 + m ≡ m = omega arith in
    let its : z.function ≡ t = ap (λ w. w.function) (same_Some z y e) ∙ f in
    let same : (z.function == t) ≡ true = grind (arith, its) in
    in_left (if holds (slice_get x.bindable m) && (z.function == t) then one_of (flat (slice_get x.procedures m)) else []) (delegates x t (suc m) ms) q
    (ap (λ w. is_among (if w && (z.function == t) then one_of (flat (slice_get x.procedures m)) else []) q)
    (subst (λ w. holds (slice_get x.bindable w) ≡ true) at b)
    ∙ (ap (λ w. is_among (if w then one_of (flat (slice_get x.procedures m)) else []) q) same
    ∙ one_among (flat (slice_get x.procedures m)) q (subst (λ w. flat (slice_get x.procedures w) ≡ Some q) at g)))
delegate_join x t q m (z ∷ ms) (suc i) y e b f g =
    let at : suc i + m ≡ i + suc m = omega arith in
    in_right (if holds (slice_get x.bindable m) && (z.function == t) then one_of (flat (slice_get x.procedures m)) else []) (delegates x t (suc m) ms) q
    (delegate_join x t q (suc m) ms i y e (subst (λ w. holds (slice_get x.bindable w) ≡ true) at b) f
    (subst (λ w. flat (slice_get x.procedures w) ≡ Some q) at g))

-- ---- calls

pub called_join : (p : Tables) (x : Plan) (ds : List (List Case)) (ss : List Step) (i : ℕ) (s : Step) (q : ℕ) → slice_get ss i ≡ Some s
    → is_among (called_by p x ds s) q ≡ true → is_among (called p x ds ss) q ≡ true
called_join p x ds [] i s q e t = absurd (none-some s e)
called_join p x ds (z ∷ ss) zero s q e t =
    in_left (called_by p x ds z) (called p x ds ss) q (subst (λ w. is_among (called_by p x ds w) q ≡ true) (sym (same_Some z s e)) t)
called_join p x ds (z ∷ ss) (suc i) s q e t = in_right (called_by p x ds z) (called p x ds ss) q (called_join p x ds ss i s q e t)

-- what a step of a live method calls is among what the method may call
pub edge_join : (p : Program) (x : Plan) (ds : List (List Case)) (room : ℕ) (live : List (Option Reason)) (m : ℕ) (ms : List Method) (i q : ℕ)
    → i < length ms → has_reason live (i + m) ≡ true → q < room → is_among (called p.tables x ds (steps_of p (i + m))) q ≡ true
    → is_among (row_in (slice_get (edges_from p x ds room live m ms) i)) q ≡ true
edge_join p x ds room live m [] i q lt l qr t = absurd (omega (arith, lt))
edge_join p x ds room live m (y ∷ ms) zero q lt l qr t =
    let at : 0 + m ≡ m = omega arith in
    ap (λ b. is_among (if b then with_all room [] (called p.tables x ds (steps_of p m)) else []) q) (subst (λ w. has_reason live w ≡ true) at l)
    ∙ with_right room [] (called p.tables x ds (steps_of p m)) q qr
    (subst (λ w. is_among (called p.tables x ds (steps_of p w)) q ≡ true) at t)
edge_join p x ds room live m (y ∷ ms) (suc i) q lt l qr t =
    let at : suc i + m ≡ i + suc m = omega arith in
    edge_join p x ds room live (suc m) ms i q (omega (arith, lt)) (subst (λ w. has_reason live w ≡ true) at l) qr
    (subst (λ w. is_among (called p.tables x ds (steps_of p w)) q ≡ true) at t)

-- ---- what live places hold

module _ (p : Tables) (h : Heap) (s : LiveSet) (w : Plan) (q : ℕ) where
  -- among what stands under a test that holds
  under : (b : Bool) (xs : List ℕ) → b ≡ true → is_among xs q ≡ true → is_among (if b then xs else []) q ≡ true
  under b xs e t = ap (λ z. is_among (if z then xs else []) q) e ∙ t

  pub components_join : (f : ℕ) (ys : List Field) (i : ℕ) → i < length ys → has_reason s.fields (i + f) ≡ true
      → is_among (in_option w (value_at p h (OfComponent (i + f)))) q ≡ true → is_among (in_components p h s w f ys) q ≡ true
  components_join f [] i lt l t = absurd (omega (arith, lt))
  components_join f (y ∷ ys) zero lt l t =
      let at : 0 + f ≡ f = omega arith in
      in_left (if has_reason s.fields f then in_option w (value_at p h (OfComponent f)) else []) (in_components p h s w (suc f) ys) q
      (under (has_reason s.fields f) (in_option w (value_at p h (OfComponent f))) (subst (λ z. has_reason s.fields z ≡ true) at l)
      (subst (λ z. is_among (in_option w (value_at p h (OfComponent z))) q ≡ true) at t))
  components_join f (y ∷ ys) (suc i) lt l t =
      let at : suc i + f ≡ i + suc f = omega arith in
      in_right (if has_reason s.fields f then in_option w (value_at p h (OfComponent f)) else []) (in_components p h s w (suc f) ys) q
      (components_join (suc f) ys i (omega (arith, lt)) (subst (λ z. has_reason s.fields z ≡ true) at l)
      (subst (λ z. is_among (in_option w (value_at p h (OfComponent z))) q ≡ true) at t))

  pub object_join : (k : ℕ) (fs : List ℕ) (i f : ℕ) → slice_get fs i ≡ Some f → has_reason s.fields f ≡ true
      → is_among (in_option w (value_at p h (OfObject k f))) q ≡ true → is_among (in_object p h s w k fs) q ≡ true
  object_join k [] i f e l t = absurd (none-some f e)
  object_join k (g ∷ fs) zero f e l t =
      let at = sym (same_Some g f e) in
      in_left (if has_reason s.fields g then in_option w (value_at p h (OfObject k g)) else []) (in_object p h s w k fs) q
      (under (has_reason s.fields g) (in_option w (value_at p h (OfObject k g))) (subst (λ z. has_reason s.fields z ≡ true) at l)
      (subst (λ z. is_among (in_option w (value_at p h (OfObject k z))) q ≡ true) at t))
  object_join k (g ∷ fs) (suc i) f e l t =
      in_right (if has_reason s.fields g then in_option w (value_at p h (OfObject k g)) else []) (in_object p h s w k fs) q
      (object_join k fs i f e l t)

  pub items_join : (vs : List CoreValue) (i : ℕ) (v : CoreValue) → slice_get vs i ≡ Some v → is_among (in_value w v) q ≡ true
      → is_among (in_items w vs) q ≡ true
  items_join [] i v e t = absurd (none-some v e)
  items_join (u ∷ vs) zero v e t =
      in_left (in_value w u) (in_items w vs) q (subst (λ z. is_among (in_value w z) q ≡ true) (sym (same_Some u v e)) t)
  items_join (u ∷ vs) (suc i) v e t = in_right (in_value w u) (in_items w vs) q (items_join vs i v e t)

  pub cells_join : (k : ℕ) (cs : List Cell) (i : ℕ) (c : Cell) → slice_get cs i ≡ Some c → has_reason s.cells (i + k) ≡ true
      → is_among (in_cell p h s w (i + k) c) q ≡ true → is_among (in_cells p h s w k cs) q ≡ true
  cells_join k [] i c e l t = absurd (none-some c e)
  cells_join k (d ∷ cs) zero c e l t =
      let at : 0 + k ≡ k = omega arith in
      in_left (if has_reason s.cells k then in_cell p h s w k d else []) (in_cells p h s w (suc k) cs) q
      (under (has_reason s.cells k) (in_cell p h s w k d) (subst (λ z. has_reason s.cells z ≡ true) at l)
      (subst (λ z. is_among (in_cell p h s w k z) q ≡ true) (sym (same_Some d c e)) (subst (λ z. is_among (in_cell p h s w z c) q ≡ true) at t)))
  cells_join k (d ∷ cs) (suc i) c e l t =
      let at : suc i + k ≡ i + suc k = omega arith in
      in_right (if has_reason s.cells k then in_cell p h s w k d else []) (in_cells p h s w (suc k) cs) q
      (cells_join (suc k) cs i c e (subst (λ z. has_reason s.cells z ≡ true) at l) (subst (λ z. is_among (in_cell p h s w z c) q ≡ true) at t))
