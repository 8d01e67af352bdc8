-- What live methods and live places need for delegates and calls is planned.
use Rattle.std.proofs.Common.{◌≡◌, refl, sym, ap, subst, ◌∙◌, arith, ℕ, ◌+◌, ◌<◌, Bool, true, List, [], length, map, is_some, get_or, option_map}
use Rattle.std.proofs.Common.{Option, Some, None, slice_get}
use Rattle.std.proofs.lemmas.Option.{same_Some, none-some, slice_get-map}
use Rattle.vg_codes.specs.declared.case.Case.{Case}
use Rattle.vg_codes.specs.Dispatch as dispatches
use Rattle.vg_core.specs.declared.heap.Cell.{Cell}
use Rattle.vg_core.specs.declared.heap.Cell.TheVariants.{Object, Array}
use Rattle.vg_core.specs.declared.heap.Heap.{Heap}
use Rattle.vg_core.specs.declared.member.Member.TheVariants.{Method, Field as TheField, Cell as TheCell}
use Rattle.vg_core.specs.declared.program.Class.{Class}
use Rattle.vg_core.specs.declared.step.Step.{Step}
use Rattle.vg_core.specs.declared.step.Step.TheVariants.{ComponentMethod, MethodOf, CallComponent, CallMethod, CallValue}
use Rattle.vg_core.specs.declared.value.CoreValue.{CoreValue}
use Rattle.vg_core.specs.declared.value.CoreValue.TheVariants.{Bound}
use Rattle.vg_core.specs.Heap.{ObjectOf, kind_of, class_in, Place, OfComponent, OfObject, OfArray, value_in, field_in, item_in, value_at}
use Rattle.vg_core.specs.Program.{Program}
use Rattle.vg_core.specs.Tables.{dispatch, fields_in, is_below, slot_of}
use Rattle.vg_core.specs.Typing.{WellTyped}
use Rattle.vg_firm.specs.Session.{is_among}
use Rattle.vg_live.specs.declared.live_set.LiveSet.{LiveSet}
use Rattle.vg_live.specs.Rules as rules
use Rattle.vg_live.specs.Rules.{Live, holder, owner, none, method}
use Rattle.vg_live.specs.Sets.{flat, IsLiveSet}
use Rattle.vg_live.specs.Uses.{steps_of}
use Rattle.vg_number.specs.declared.numbers.Numbers.{Numbers}
use Rattle.vg_number.specs.Counting.{AreOwn}
use Rattle.vg_number.specs.Numbering.{has_reason, kept_in, kinds_of}
use Rattle.vg_pack_calls.specs.Asked.{is_there, asked_from, steps_from}
use Rattle.vg_pack_calls.specs.Cases.{procedure_of, cases_of}
use Rattle.vg_pack_calls.specs.Procedures.{procedures_from}
use Rattle.vg_packed.proofs.Receivers.{slot_there}
use Rattle.vg_pack_code.specs.declared.plan.Asked.{Asked}
use Rattle.vg_pack_code.specs.declared.plan.Plan.{Plan}
use Rattle.vg_pack_code.specs.Plans.{holds, place_of, row_in}
use Rattle.vg_packed.proofs.Listed.{listed}
use Rattle.vg_packed.proofs.Cells.{reason_there}
use Rattle.vg_packed.proofs.Delegates.{delegates_there}
use Rattle.vg_plan_laws.proofs.MostNamed.{step_out, named_join}
use Rattle.vg_plan_laws.proofs.Found.{there_place, asked_there, own_pos, cases_join}
use Rattle.vg_plan_laws.proofs.Among.{one_among, with_left, with_right, there, back}
use Rattle.vg_plan_uses.specs.Binding.{named, bound_by, is_bound}
use Rattle.vg_plan_uses.specs.Calling.{called_by, called, edges_from}
use Rattle.vg_plan_uses.specs.Held.{in_value, in_option, in_object, in_cell, in_components, in_cells}
use Rattle.vg_plan_uses.specs.Sets as sets
use Rattle.vg_sound.specs.Good.{HasTypedHeap}
use Rattle.vg_packed.specs.Uses as used
use Rattle.vg_packed.specs.Uses.{Has, Finds, HasDelegates, Calls}
use Rattle.vg_plan_laws.proofs.Joined.{bound_join, delegate_join, called_join, edge_join, components_join, object_join, items_join, cells_join}

-- an object of a class is of its kind
kind_of_class : (o : Option Cell) (d : ℕ) → class_in o ≡ Some d → option_map kind_of o ≡ Some (ObjectOf d)
kind_of_class None d e = absurd (none-some d e)
kind_of_class (Some (Object c vs)) d e = ap (λ z. Some (ObjectOf z)) (same_Some c d e)
kind_of_class (Some (Array t vs)) d e = absurd (none-some d e)

module _ (p : Program) (h : Heap) (s : LiveSet) (n : Numbers) (w : Plan) (own : List ℕ) (good : WellTyped p) (heap : HasTypedHeap p.tables h)
    (live : IsLiveSet p h s) (pr : w.procedures ≡ procedures_from 0 s.methods) (aw : w.asked ≡ asked_from [] (steps_from p 0 s.methods))
    (ao : AreOwn (kinds_of h) (kept_in s) (length p.tables.classes) own) where
  abbrev ds : List (List Case)
  ds = map (cases_of p.tables n w own) w.asked

  abbrev steps : List Step
  steps = steps_from p 0 s.methods

  abbrev room : ℕ
  room = length p.tables.methods

  -- ---- what is live has a reason

  method_kept : (m : ℕ) → Live p h (Some (Method m)) → has_reason s.methods m ≡ true
  method_kept m a = ap is_some (live.all (Method m) a).1

  field_kept : (f : ℕ) → Live p h (Some (TheField f)) → has_reason s.fields f ≡ true
  field_kept f a = ap is_some (live.all (TheField f) a).1

  cell_kept : (k : ℕ) → Live p h (Some (TheCell k)) → has_reason s.cells k ≡ true
  cell_kept k a = ap is_some (live.all (TheCell k) a).1

  method_within : (m : ℕ) → Live p h (Some (Method m)) → m < room
  method_within m a = let r = live.all (Method m) a in let lt = reason_there s.methods m r.0 r.1 in let e = live.methods in omega (arith, lt, e)

  field_within : (f : ℕ) → Live p h (Some (TheField f)) → f < length p.tables.fields
  field_within f a = let r = live.all (TheField f) a in let lt = reason_there s.fields f r.0 r.1 in let e = live.fields in omega (arith, lt, e)

  -- a procedure is one of so many as there are methods
  procedure_within : (m q : ℕ) → flat (slice_get w.procedures m) ≡ Some q → q < room
  procedure_within m q e =
      let t = there 0 s.methods m q (sym (ap (λ z. flat (slice_get z m)) pr) ∙ e) in
      let lt = t.3 in let l = live.methods in omega (arith, lt, l)

  has_procedure : (m : ℕ) → Live p h (Some (Method m)) → (q : ℕ) × (flat (slice_get w.procedures m) ≡ Some q)
  has_procedure m a =
      let r = live.all (Method m) a in
      let q = back 0 s.methods m r.0 r.1 in (q.0, ap (λ z. flat (slice_get z m)) pr ∙ q.1)

  -- a method of which there are delegates is live
  delegate_live : (m : ℕ) → HasDelegates p h m → Live p h (Some (Method m))
  delegate_live m d = by d (delegates_there p good h heap.0 heap.1 s live m d)
    where
      by : HasDelegates p h m → m < room → Live p h (Some (Method m))
      by (used.HasDelegates.of_component k a) lt = rules.by (rules.of_component a.place (ComponentMethod m) a.stands refl) lt a.live none
      by (used.HasDelegates.of_object k at c sel a f) lt =
          rules.by (rules.of_object a.place (MethodOf at c sel) (record { class = c; selector = sel }) f.class a.stands refl f.is f.below f.finds) lt a.live
          f.live
      by (used.held x r a b e) lt = rules.by (rules.in_delegate x (Bound r m) e method) lt a b

  -- ---- steps of live methods

  -- a step of a live method is among those of all
  step_among : (m : ℕ) (st : Step) → Has p h m st → (i : ℕ) × (slice_get steps i ≡ Some st)
  step_among m st a =
      let z : m ≡ m + 0 = omega arith in
      step_out p 0 s.methods m a.place st (method_kept m a.live) (subst (λ v. slice_get (steps_of p v) a.place ≡ Some st) z a.stands)

  -- what a live object finds has its procedure in the cases of the dispatch
  found : (c sel q k : ℕ) → is_there w.asked c sel ≡ true → Finds p h c sel k → flat (slice_get w.procedures k) ≡ Some q
      → is_among (map sets.procedure_in (dispatches.cases_of (slice_get ds (place_of w.asked c sel)))) q ≡ true
  found c sel q k e f ek = at (there_place w.asked c sel e)
    where
      kind : slice_get (kinds_of h) f.cell ≡ Some (ObjectOf f.class)
      kind = slice_get-map kind_of h.cells f.cell ∙ kind_of_class (slice_get h.cells f.cell) f.class f.is

      within : f.class < length p.tables.classes
      within = listed p.tables h heap f.cell (ObjectOf f.class) kind

      pos : 0 < get_or own f.class 0
      pos =
          let z : f.cell ≡ 0 + f.cell = omega arith in
          let lt = own_pos f.class (kept_in s) 0 (kinds_of h) f.cell kind (subst (λ v. kept_in s v ≡ true) z (cell_kept f.cell f.live)) in
          let counted = ao.counts f.class within in omega (arith, lt, counted)

      at : (a : Asked) × (slice_get w.asked (place_of w.asked c sel) ≡ Some a) × (a.class ≡ c) × (a.selector ≡ sel)
          → is_among (map sets.procedure_in (dispatches.cases_of (slice_get ds (place_of w.asked c sel)))) q ≡ true
      at (a, ea, ec, es) =
          let row : dispatches.cases_of (slice_get ds (place_of w.asked c sel)) ≡ cases_of p.tables n w own a =
          ap dispatches.cases_of
          (slice_get-map (cases_of p.tables n w own) w.asked (place_of w.asked c sel) ∙ ap (option_map (cases_of p.tables n w own)) ea) in
          let z : f.class ≡ f.class + 0 = omega arith in
          ap (λ v. is_among (map sets.procedure_in v) q) row
          ∙ cases_join p.tables n w own a 0 p.tables.classes f.class q within (subst (λ v. 0 < get_or own v 0) z pos)
          (subst (λ v. is_below p.tables v a.class ≡ true) z (subst (λ v. is_below p.tables f.class v ≡ true) (sym ec) f.below))
          (subst (λ v. procedure_of w (dispatch p.tables v a.selector) ≡ Some q) z
          (ap (λ v. procedure_of w (dispatch p.tables f.class v)) es ∙ (ap (procedure_of w) f.finds ∙ ek)))

  -- ---- delegates

  module _ (m q : ℕ) (em : flat (slice_get w.procedures m) ≡ Some q) where
    abbrev Among_ : List ℕ → Type 0
    Among_ qs = is_among qs q ≡ true

    within_room : q < room
    within_room = procedure_within m q em

    abbrev by_names : List ℕ
    by_names = sets.with_all room [] (named w ds steps)

    abbrev by_fields : List ℕ
    by_fields = sets.with_all room by_names (in_components p.tables h s w 0 p.tables.fields)

    of_name : Among_ (named w ds steps) → Among_ (bound_by p.tables h s w ds room steps)
    of_name t =
        with_left room by_fields (in_cells p.tables h s w 0 h.cells) q
        (with_left room by_names (in_components p.tables h s w 0 p.tables.fields) q (with_right room [] (named w ds steps) q within_room t))

    of_field : Among_ (in_components p.tables h s w 0 p.tables.fields) → Among_ (bound_by p.tables h s w ds room steps)
    of_field t =
        with_left room by_fields (in_cells p.tables h s w 0 h.cells) q
        (with_right room by_names (in_components p.tables h s w 0 p.tables.fields) q within_room t)

    of_cell : (k : ℕ) (c : Cell) → slice_get h.cells k ≡ Some c → has_reason s.cells k ≡ true → Among_ (in_cell p.tables h s w k c)
        → Among_ (bound_by p.tables h s w ds room steps)
    of_cell k c e l t =
        let z : k ≡ k + 0 = omega arith in
        with_right room by_fields (in_cells p.tables h s w 0 h.cells) q within_room
        (cells_join p.tables h s w q 0 h.cells k c e (subst (λ v. has_reason s.cells v ≡ true) z l) (subst (λ v. Among_ (in_cell p.tables h s w v c)) z t))

    of_value : (r : Option ℕ) → Among_ (in_value w (Bound r m))
    of_value r = one_among (flat (slice_get w.procedures m)) q em

    of_option : (r : Option ℕ) (o : Option CoreValue) → o ≡ Some (Bound r m) → Among_ (in_option w o)
    of_option r o e = ap (λ v. is_among (in_option w v) q) e ∙ of_value r

    in_place : (x : Place) (r : Option ℕ) → Live p h (holder x) → Live p h (owner x) → value_at p.tables h x ≡ Some (Bound r m)
        → Among_ (bound_by p.tables h s w ds room steps)
    in_place (OfComponent f) r a b e =
        let z : f ≡ f + 0 = omega arith in
        of_field
        (components_join p.tables h s w q 0 p.tables.fields f (field_within f a) (subst (λ v. has_reason s.fields v ≡ true) z (field_kept f a))
        (subst (λ v. Among_ (in_option w (value_at p.tables h (OfComponent v)))) z (of_option r (value_at p.tables h (OfComponent f)) e)))
    in_place (OfObject k f) r a b e = by (slice_get h.cells k) refl
      where
        slot : (vs : List CoreValue) (o : Option ℕ) → value_in o vs ≡ Some (Bound r m) → (i : ℕ) × (o ≡ Some i)
        slot vs None g = absurd (none-some (Bound r m) g)
        slot vs (Some i) g = (i, refl)

        in_class : (c : ℕ) (vs : List CoreValue) → slice_get h.cells k ≡ Some (Object c vs) → (i : ℕ) × (slot_of p.tables c f ≡ Some i)
            → (y : Class) × (slice_get p.tables.classes c ≡ Some y) → Among_ (in_object p.tables h s w k (fields_in (slice_get p.tables.classes c)))
        in_class c vs ec (i, ei) (y, ey) =
            object_join p.tables h s w q k (fields_in (slice_get p.tables.classes c)) i f
            (ap (λ z. slice_get (fields_in z) i) ey ∙ (good.tables.slots c i f y ey).1 ei) (field_kept f a)
            (of_option r (value_at p.tables h (OfObject k f)) e)

        by : (o : Option Cell) → slice_get h.cells k ≡ o → Among_ (bound_by p.tables h s w ds room steps)
        by None ec = absurd (none-some (Bound r m) (sym (ap (field_in p.tables f) ec) ∙ e))
        by (Some (Array t vs)) ec = absurd (none-some (Bound r m) (sym (ap (field_in p.tables f) ec) ∙ e))
        by (Some (Object c vs)) ec =
            of_cell k (Object c vs) ec (cell_kept k b)
            (in_class c vs ec (slot vs (slot_of p.tables c f) (sym (ap (field_in p.tables f) ec) ∙ e))
            (slot_there p.tables.classes c
            (listed p.tables h heap k (ObjectOf c) (slice_get-map kind_of h.cells k ∙ ap (option_map kind_of) ec))))
    in_place (OfArray k i) r a b e = by (slice_get h.cells k) refl
      where
        by : (o : Option Cell) → slice_get h.cells k ≡ o → Among_ (bound_by p.tables h s w ds room steps)
        by None ec = absurd (none-some (Bound r m) (sym (ap (item_in i) ec) ∙ e))
        by (Some (Object c vs)) ec = absurd (none-some (Bound r m) (sym (ap (item_in i) ec) ∙ e))
        by (Some (Array t vs)) ec =
            of_cell k (Array t vs) ec (cell_kept k a) (items_join p.tables h s w q vs i (Bound r m) (sym (ap (item_in i) ec) ∙ e) (of_value r))

    bound : HasDelegates p h m → Among_ (bound_by p.tables h s w ds room steps)
    bound (used.HasDelegates.of_component k a) =
        let x = step_among k (ComponentMethod m) a in of_name (named_join w ds steps x.0 (ComponentMethod m) q x.1 (of_value None))
    bound (used.HasDelegates.of_object k at c sel a f) =
        let x = step_among k (MethodOf at c sel) a in
        let asks : is_there w.asked c sel ≡ true =
        subst (λ z. is_there z c sel ≡ true) (sym aw) (asked_there [] steps x.0 (MethodOf at c sel) _ x.1 refl) in
        of_name (named_join w ds steps x.0 (MethodOf at c sel) q x.1 (found c sel q m asks f em))
    bound (used.held x r a b e) = in_place x r a b e

  pub all_bindable : (m : ℕ) (bindable : List Bool) → bindable ≡ map (is_bound room (bound_by p.tables h s w ds room steps)) w.procedures
      → HasDelegates p h m → holds (slice_get bindable m) ≡ true
  all_bindable m bindable eb d =
      let q = has_procedure m (delegate_live m d) in
      ap (λ z. holds (slice_get z m)) eb
      ∙ bound_join room (bound_by p.tables h s w ds room steps) w.procedures m q.0 q.1 (procedure_within m q.0 q.1) (bound m q.0 q.1 d)

  -- ---- calls

  module _ (bindable : List Bool) (eb : bindable ≡ map (is_bound room (bound_by p.tables h s w ds room steps)) w.procedures) (x : Plan)
      (bx : x.bindable ≡ bindable) (px : x.procedures ≡ w.procedures) (ax : x.asked ≡ w.asked) where
    -- what a step calls is among what it may call
    calls : (m k q : ℕ) → Calls p h m k → flat (slice_get x.procedures k) ≡ Some q
        → (j : ℕ) × (st : Step) × (slice_get (steps_of p m) j ≡ Some st) × (is_among (called_by p.tables x ds st) q ≡ true)
    calls m k q (used.Calls.of_component count a) e = (a.place, CallComponent k count, a.stands, one_among (flat (slice_get x.procedures k)) q e)
    calls m k q (used.Calls.of_object at c sel count a f) e =
        let i = step_among m (CallMethod at c sel count) a in
        let asks : is_there w.asked c sel ≡ true =
        subst (λ z. is_there z c sel ≡ true) (sym aw) (asked_there [] steps i.0 (CallMethod at c sel count) _ i.1 refl) in (
          a.place,
          CallMethod at c sel count,
          a.stands,
          ap (λ v. is_among (map sets.procedure_in (dispatches.cases_of (slice_get ds (place_of v c sel)))) q) ax
              ∙ found c sel q k asks f (sym (ap (λ v. flat (slice_get v k)) px) ∙ e),
        )
    calls m k q (used.by_delegate at count y a ey d) e =
        let z : k ≡ k + 0 = omega arith in (
          a.place,
          CallValue at count y.function,
          a.stands,
          delegate_join x y.function q 0 p.tables.methods k y ey
              (subst (λ v. holds (slice_get x.bindable v) ≡ true) z (ap (λ v. holds (slice_get v k)) bx ∙ all_bindable k bindable eb d)) refl
              (subst (λ v. flat (slice_get x.procedures v) ≡ Some q) z e),
        )

    caller : (m k : ℕ) → Calls p h m k → Live p h (Some (Method m))
    caller m k (used.Calls.of_component count a) = a.live
    caller m k (used.Calls.of_object at c sel count a f) = a.live
    caller m k (used.by_delegate at count y a ey d) = a.live

    pub all_edges : (edges : List (List ℕ)) → edges ≡ edges_from p x ds room s.methods 0 p.tables.methods → (m k q : ℕ) → Calls p h m k
        → flat (slice_get x.procedures k) ≡ Some q → is_among (row_in (slice_get edges m)) q ≡ true
    all_edges edges ee m k q c e =
        let a = caller m k c in
        let r = calls m k q c e in
        let z : m ≡ m + 0 = omega arith in
        ap (λ v. is_among (row_in (slice_get v m)) q) ee
        ∙ edge_join p x ds room s.methods 0 p.tables.methods m q (method_within m a) (subst (λ v. has_reason s.methods v ≡ true) z (method_kept m a))
        (procedure_within k q (sym (ap (λ v. flat (slice_get v k)) px) ∙ e))
        (subst (λ v. is_among (called p.tables x ds (steps_of p v)) q ≡ true) z (called_join p.tables x ds (steps_of p m) r.0 r.1 q r.2 r.3))
