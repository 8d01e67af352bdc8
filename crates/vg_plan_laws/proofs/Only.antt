-- What is planned for delegates and calls has its reason in a live method or a live place.
use Rattle.std.proofs.Common.{◌≡◌, ◌⊎◌, refl, sym, ap, subst, ◌∙◌, arith, ℕ, suc, ◌+◌, ◌<◌, Bool, true, false, List, [], ◌∷◌}
use Rattle.std.proofs.Common.{is_some, length, map, get_or, option_map, Option, Some, None, slice_get, if◌then◌else◌}
use Rattle.std.proofs.lemmas.Option.{same_Some, none-some, slice_get-map}
use mathlib.Core.Logic.{inl, inr}
use Rattle.vg_codes.specs.declared.case.Case.{Case}
use Rattle.vg_codes.specs.Dispatch as dispatches
use Rattle.vg_core.specs.declared.heap.Cell.{Cell}
use Rattle.vg_core.specs.declared.heap.Cell.TheVariants.{Object, Array}
use Rattle.vg_core.specs.declared.heap.Heap.{Heap}
use Rattle.vg_core.specs.declared.member.Member.TheVariants.{Method, Field as TheField, Cell as TheCell}
use Rattle.vg_core.specs.declared.program.Field.{Field}
use Rattle.vg_core.specs.declared.step.Step.{Step}
use Rattle.vg_core.specs.declared.step.Step.TheVariants.{ComponentMethod, MethodOf, CallComponent, CallMethod, CallValue}
use Rattle.vg_core.specs.declared.value.CoreValue.{CoreValue}
use Rattle.vg_core.specs.declared.value.CoreValue.TheVariants.{Int, Bool as Truth, Char, Raw, Null, Obj, Arr, Bound}
use Rattle.vg_core.specs.Heap.{ObjectOf, ArrayOf, kind_of, class_in, OfComponent, OfObject, OfArray, value_at, item_in}
use Rattle.vg_core.specs.Program.{Program}
use Rattle.vg_core.specs.Tables.{dispatch, fields_in, is_below}
use Rattle.vg_firm.specs.Session.{is_among}
use Rattle.vg_live.specs.declared.live_set.LiveSet.{LiveSet}
use Rattle.vg_live.specs.Rules.{Live, none}
use Rattle.vg_live.specs.Sets.{flat, IsLiveSet}
use Rattle.vg_live.specs.Uses.{steps_of}
use Rattle.vg_number.specs.declared.numbers.Numbers.{Numbers}
use Rattle.vg_number.specs.Counting.{AreOwn}
use Rattle.vg_number.specs.Numbering.{has_reason, kept_in, kinds_of}
use Rattle.vg_pack_calls.specs.Asked.{is_there, asked_from, steps_from}
use Rattle.vg_pack_calls.specs.Cases.{procedure_of, cases_of}
use Rattle.vg_pack_calls.specs.Procedures.{procedures_from}
use Rattle.vg_pack_code.specs.declared.plan.Asked.{Asked}
use Rattle.vg_pack_code.specs.declared.plan.Plan.{Plan}
use Rattle.vg_pack_code.specs.Plans.{holds, place_of, row_in}
use Rattle.vg_plan_uses.specs.Binding.{named_by, named, bound_by, is_bound}
use Rattle.vg_plan_uses.specs.Calling.{called_by, called, edges_from}
use Rattle.vg_plan_uses.specs.Held.{in_value, in_option, in_items, in_components, in_object, in_cell, in_cells}
use Rattle.vg_plan_uses.specs.Sets as sets
use Rattle.vg_packed.specs.Uses as used
use Rattle.vg_packed.specs.Uses.{Has, Finds, HasDelegates, Calls}
use Rattle.vg_plan_laws.proofs.Among.{split, with_split, one_is, one}
use Rattle.vg_plan_laws.proofs.MostNamed.{step_in, step_out, named_split, bound_split, called_split, edge_split, delegate_split}
use Rattle.vg_plan_laws.proofs.Found.{there_place, asked_there, own_some, cases_split}

no_clash : {A : Type 0} → false ≡ true → A
no_clash e = absurd (grind (arith, e))

-- a procedure among those of something that may not be there
if_split : (b : Bool) (xs : List ℕ) (q : ℕ) → is_among (if b then xs else []) q ≡ true → (b ≡ true) × (is_among xs q ≡ true)
if_split true xs q e = (refl, e)
if_split false xs q e = no_clash e

some_of : {A : Type 0} (o : Option A) → is_some o ≡ true → (r : A) × (o ≡ Some r)
some_of (Some r) e = (r, refl)
some_of None e = no_clash e

class_of : (o : Option Cell) (d : ℕ) → option_map kind_of o ≡ Some (ObjectOf d) → class_in o ≡ Some d
class_of None d e = absurd (none-some (ObjectOf d) e)
class_of (Some (Object c vs)) d e = let q : ObjectOf c ≡ ObjectOf d = same_Some (ObjectOf c) (ObjectOf d) e in ap (λ z. Some z) (let r : c ≡ d = cc in r)
class_of (Some (Array t vs)) d e = absurd (let q : ArrayOf t (length vs) ≡ ObjectOf d = same_Some (ArrayOf t (length vs)) (ObjectOf d) e in cc)

-- ---- delegates in values

module _ (w : Plan) (q : ℕ) where
  -- a value is a delegate of the procedure
  abbrev pub IsOf : Option CoreValue → Type 0
  IsOf o = (r : Option ℕ) × (k : ℕ) × (o ≡ Some (Bound r k)) × (flat (slice_get w.procedures k) ≡ Some q)

  in_value_is : (v : CoreValue) → is_among (in_value w v) q ≡ true → IsOf (Some v)
  in_value_is (Bound r k) e = (r, k, refl, one_is (flat (slice_get w.procedures k)) q e)
  in_value_is (Int z) e = no_clash e
  in_value_is (Truth b) e = no_clash e
  in_value_is (Char c) e = no_clash e
  in_value_is (Raw width bits) e = no_clash e
  in_value_is Null e = no_clash e
  in_value_is (Obj k) e = no_clash e
  in_value_is (Arr k) e = no_clash e

  in_option_is : (o : Option CoreValue) → is_among (in_option w o) q ≡ true → IsOf o
  in_option_is None e = no_clash e
  in_option_is (Some v) e = in_value_is v e

  in_items_is : (vs : List CoreValue) → is_among (in_items w vs) q ≡ true → (i : ℕ) × IsOf (slice_get vs i)
  in_items_is [] e = no_clash e
  in_items_is (v ∷ vs) e = either (in_items_is vs) (split (in_value w v) (in_items w vs) q e)
    where
      either : (is_among (in_items w vs) q ≡ true → (i : ℕ) × IsOf (slice_get vs i)) → (is_among (in_value w v) q ≡ true) ⊎ (is_among (in_items w vs) q ≡ true)
          → (i : ℕ) × IsOf (slice_get (v ∷ vs) i)
      either rest (inl t) = (0, in_value_is v t)
      either rest (inr t) = let r = rest t in (suc r.0, r.1)

module _ (p : Program) (h : Heap) (s : LiveSet) (n : Numbers) (w : Plan) (own : List ℕ) (live : IsLiveSet p h s)
    (pr : w.procedures ≡ procedures_from 0 s.methods) (aw : w.asked ≡ asked_from [] (steps_from p 0 s.methods))
    (ao : AreOwn (kinds_of h) (kept_in s) (length p.tables.classes) own) where
  abbrev pub ds : List (List Case)
  ds = map (cases_of p.tables n w own) w.asked

  abbrev pub steps : List Step
  steps = steps_from p 0 s.methods

  pub one_method : (m k q : ℕ) → flat (slice_get w.procedures m) ≡ Some q → flat (slice_get w.procedures k) ≡ Some q → m ≡ k
  one_method m k q a b = one 0 s.methods m k q (sym (ap (λ z. flat (slice_get z m)) pr) ∙ a) (sym (ap (λ z. flat (slice_get z k)) pr) ∙ b)

  pub live_method : (m : ℕ) → has_reason s.methods m ≡ true → Live p h (Some (Method m))
  live_method m e = live.live (Method m) (some_of (flat (slice_get s.methods m)) e)

  live_field : (f : ℕ) → has_reason s.fields f ≡ true → Live p h (Some (TheField f))
  live_field f e = live.live (TheField f) (some_of (flat (slice_get s.fields f)) e)

  live_cell : (k : ℕ) → has_reason s.cells k ≡ true → Live p h (Some (TheCell k))
  live_cell k e = live.live (TheCell k) (some_of (flat (slice_get s.cells k)) e)

  -- a step of the live methods stands in one
  has : (i : ℕ) (st : Step) → slice_get steps i ≡ Some st → (m : ℕ) × Has p h m st
  has i st e =
      let r = step_in p 0 s.methods i st e in let z : r.0 + 0 ≡ r.0 = omega arith in
      (r.0, record { live = live_method r.0 r.2; place = r.1; stands = subst (λ m. slice_get (steps_of p m) r.1 ≡ Some st) z r.3 })

  -- ---- what a dispatch has, a live object finds

  pub finds : (c sel q : ℕ) → is_there w.asked c sel ≡ true
      → is_among (map sets.procedure_in (dispatches.cases_of (slice_get ds (place_of w.asked c sel)))) q ≡ true
      → (k : ℕ) × Finds p h c sel k × (flat (slice_get w.procedures k) ≡ Some q)
  finds c sel q th e = found (there_place w.asked c sel th)
    where
      class_found : (d k : ℕ) → dispatch p.tables d sel ≡ Some k → (j : ℕ) → slice_get (kinds_of h) j ≡ Some (ObjectOf d) → kept_in s (0 + j) ≡ true
          → is_below p.tables d c ≡ true → Finds p h c sel k
      class_found d k fd j ej kj b = record {
        cell = j;
        class = d;
        live = live_cell j (let z : 0 + j ≡ j = omega arith in subst (λ y. kept_in s y ≡ true) z kj);
        is = class_of (slice_get h.cells j) d (sym (slice_get-map kind_of h.cells j) ∙ ej);
        below = b;
        finds = fd;
      }

      method_found : (d : ℕ) (o : Option ℕ) → dispatch p.tables d sel ≡ o → procedure_of w o ≡ Some q
          → (k : ℕ) × (dispatch p.tables d sel ≡ Some k) × (flat (slice_get w.procedures k) ≡ Some q)
      method_found d None eo t = absurd (none-some q t)
      method_found d (Some k) eo t = (k, eo, t)

      in_class : (d : ℕ) → d < length p.tables.classes → 0 < get_or own d 0 → is_below p.tables d c ≡ true
          → procedure_of w (dispatch p.tables d sel) ≡ Some q → (k : ℕ) × Finds p h c sel k × (flat (slice_get w.procedures k) ≡ Some q)
      in_class d lt pos b f =
          let counted = ao.counts d lt in
          let j = own_some d (kept_in s) 0 (kinds_of h) (length (kinds_of h)) (omega (arith, pos, counted)) in
          let m = method_found d (dispatch p.tables d sel) refl f in
          (m.0, class_found d m.0 m.1 j.0 j.1 j.2 b, m.2)

      found : (a : Asked) × (slice_get w.asked (place_of w.asked c sel) ≡ Some a) × (a.class ≡ c) × (a.selector ≡ sel)
          → (k : ℕ) × Finds p h c sel k × (flat (slice_get w.procedures k) ≡ Some q)
      found (a, ea, ec, es) =
          let row : dispatches.cases_of (slice_get ds (place_of w.asked c sel)) ≡ cases_of p.tables n w own a =
          ap dispatches.cases_of (slice_get-map (cases_of p.tables n w own) w.asked (place_of w.asked c sel) ∙ ap (option_map (cases_of p.tables n w own)) ea) in
          let r = cases_split p.tables n w own a 0 p.tables.classes q (subst (λ z. is_among (map sets.procedure_in z) q ≡ true) row e) in
          let lt = r.1 in
          in_class (r.0 + 0) (omega (arith, lt)) r.2.own_ (subst (λ z. is_below p.tables (r.0 + 0) z ≡ true) ec r.2.below)
          (subst (λ z. procedure_of w (dispatch p.tables (r.0 + 0) z) ≡ Some q) es r.2.found)

  -- ---- what live methods name

  of_step : (st : Step) (i q k : ℕ) → slice_get steps i ≡ Some st → flat (slice_get w.procedures k) ≡ Some q
      → is_among (named_by w ds st) q ≡ true → HasDelegates p h k
  of_step (ComponentMethod m) i q k e ek t =
      let mk = one_method m k q (one_is (flat (slice_get w.procedures m)) q t) ek in
      let x = has i (ComponentMethod m) e in
      subst (HasDelegates p h) mk (used.of_component x.0 x.1)
  of_step (MethodOf at c sel) i q k e ek t =
      let x = has i (MethodOf at c sel) e in
      let there : is_there w.asked c sel ≡ true =
      subst (λ z. is_there z c sel ≡ true) (sym aw) (asked_there [] steps i (MethodOf at c sel) _ e refl) in
      let f = finds c sel q there t in
      subst (HasDelegates p h) (one_method f.0 k q f.2 ek) (used.of_object x.0 at c sel x.1 f.1)
  of_step _ i q k e ek t = no_clash t

  -- ---- what live places hold

  in_fields : (f : ℕ) (ys : List Field) (q : ℕ) → is_among (in_components p.tables h s w f ys) q ≡ true
      → (g : ℕ) × (has_reason s.fields g ≡ true) × IsOf w q (value_at p.tables h (OfComponent g))
  in_fields f [] q e = no_clash e
  in_fields f (y ∷ ys) q e =
      either (in_fields (suc f) ys q)
      (split (if has_reason s.fields f then in_option w (value_at p.tables h (OfComponent f)) else []) (in_components p.tables h s w (suc f) ys) q e)
    where
      There : Type 0
      There = (g : ℕ) × (has_reason s.fields g ≡ true) × IsOf w q (value_at p.tables h (OfComponent g))

      either : (is_among (in_components p.tables h s w (suc f) ys) q ≡ true → There)
          → (is_among (if has_reason s.fields f then in_option w (value_at p.tables h (OfComponent f)) else []) q ≡ true)
          ⊎ (is_among (in_components p.tables h s w (suc f) ys) q ≡ true) → There
      either rest (inl t) =
          let r = if_split (has_reason s.fields f) _ q t in (f, r.0, in_option_is w q (value_at p.tables h (OfComponent f)) r.1)
      either rest (inr t) = rest t

  in_object_is : (k : ℕ) (fs : List ℕ) (q : ℕ) → is_among (in_object p.tables h s w k fs) q ≡ true
      → (g : ℕ) × (has_reason s.fields g ≡ true) × IsOf w q (value_at p.tables h (OfObject k g))
  in_object_is k [] q e = no_clash e
  in_object_is k (f ∷ fs) q e =
      either (in_object_is k fs q)
      (split (if has_reason s.fields f then in_option w (value_at p.tables h (OfObject k f)) else []) (in_object p.tables h s w k fs) q e)
    where
      There : Type 0
      There = (g : ℕ) × (has_reason s.fields g ≡ true) × IsOf w q (value_at p.tables h (OfObject k g))

      either : (is_among (in_object p.tables h s w k fs) q ≡ true → There)
          → (is_among (if has_reason s.fields f then in_option w (value_at p.tables h (OfObject k f)) else []) q ≡ true)
          ⊎ (is_among (in_object p.tables h s w k fs) q ≡ true) → There
      either rest (inl t) =
          let r = if_split (has_reason s.fields f) _ q t in (f, r.0, in_option_is w q (value_at p.tables h (OfObject k f)) r.1)
      either rest (inr t) = rest t

  -- a procedure of a live cell is that of a delegate in a live place
  of_cell : (k : ℕ) (c : Cell) (q m : ℕ) → slice_get h.cells k ≡ Some c → has_reason s.cells k ≡ true → flat (slice_get w.procedures m) ≡ Some q
      → is_among (in_cell p.tables h s w k c) q ≡ true → HasDelegates p h m
  of_cell k (Object d vs) q m ec lk em t =
      let r = in_object_is k (fields_in (slice_get p.tables.classes d)) q t in
      let v = r.2 in
      subst (HasDelegates p h) (one_method v.1 m q v.3 em)
      (used.held (OfObject k r.0) v.0 (live_field r.0 r.1) (live_cell k lk) v.2)
  of_cell k (Array t vs) q m ec lk em e =
      let r = in_items_is w q vs e in
      let v = r.1 in
      subst (HasDelegates p h) (one_method v.1 m q v.3 em)
      (used.held (OfArray k r.0) v.0 (live_cell k lk) none (ap (item_in r.0) ec ∙ v.2))

  of_cells : (k : ℕ) (cs : List Cell) (q m : ℕ) → ((i : ℕ) → slice_get cs i ≡ slice_get h.cells (i + k)) → flat (slice_get w.procedures m) ≡ Some q
      → is_among (in_cells p.tables h s w k cs) q ≡ true → HasDelegates p h m
  of_cells k [] q m at em e = no_clash e
  of_cells k (c ∷ cs) q m at em e =
      either (of_cells (suc k) cs q m next em)
      (split (if has_reason s.cells k then in_cell p.tables h s w k c else []) (in_cells p.tables h s w (suc k) cs) q e)
    where
      next : (i : ℕ) → slice_get cs i ≡ slice_get h.cells (i + suc k)
      next i = at (suc i) ∙ ap (slice_get h.cells) (omega arith)

      either : (is_among (in_cells p.tables h s w (suc k) cs) q ≡ true → HasDelegates p h m)
          → (is_among (if has_reason s.cells k then in_cell p.tables h s w k c else []) q ≡ true)
          ⊎ (is_among (in_cells p.tables h s w (suc k) cs) q ≡ true) → HasDelegates p h m
      either rest (inl t) =
          let r = if_split (has_reason s.cells k) _ q t in
          let ec : slice_get h.cells k ≡ Some c = ap (slice_get h.cells) (omega arith) ∙ sym (at 0) in
          of_cell k c q m ec r.0 em r.1
      either rest (inr t) = rest t

  -- ---- a method that delegates may be of is one of which there may be some

  only_bound : (room q m : ℕ) → flat (slice_get w.procedures m) ≡ Some q
      → is_among (bound_by p.tables h s w ds room steps) q ≡ true → HasDelegates p h m
  only_bound room q m em e =
      held (with_split room (sets.with_all room (sets.with_all room [] (named w ds steps)) (in_components p.tables h s w 0 p.tables.fields))
      (in_cells p.tables h s w 0 h.cells) q e)
    where
      by_name : is_among (named w ds steps) q ≡ true → HasDelegates p h m
      by_name t = let r = named_split w ds steps q t in of_step r.1 r.0 q m r.2 em r.3

      by_nothing : (is_among [] q ≡ true) ⊎ (is_among (named w ds steps) q ≡ true) → HasDelegates p h m
      by_nothing (inl t) = no_clash t
      by_nothing (inr t) = by_name t

      by_field : is_among (in_components p.tables h s w 0 p.tables.fields) q ≡ true → HasDelegates p h m
      by_field t =
          let r = in_fields 0 p.tables.fields q t in
          let v = r.2 in
          subst (HasDelegates p h) (one_method v.1 m q v.3 em) (used.held (OfComponent r.0) v.0 (live_field r.0 r.1) none v.2)

      in_fields_ : (is_among (sets.with_all room [] (named w ds steps)) q ≡ true) ⊎ (is_among (in_components p.tables h s w 0 p.tables.fields) q ≡ true)
          → HasDelegates p h m
      in_fields_ (inl t) = by_nothing (with_split room [] (named w ds steps) q t)
      in_fields_ (inr t) = by_field t

      held : (is_among (sets.with_all room (sets.with_all room [] (named w ds steps)) (in_components p.tables h s w 0 p.tables.fields)) q ≡ true)
          ⊎ (is_among (in_cells p.tables h s w 0 h.cells) q ≡ true) → HasDelegates p h m
      held (inl t) = in_fields_ (with_split room (sets.with_all room [] (named w ds steps)) (in_components p.tables h s w 0 p.tables.fields) q t)
      held (inr t) = of_cells 0 h.cells q m (λ i. ap (slice_get h.cells) (omega arith)) em t

  pub only_bindable : (room m : ℕ) (bindable : List Bool) → bindable ≡ map (is_bound room (bound_by p.tables h s w ds room steps)) w.procedures
      → holds (slice_get bindable m) ≡ true → HasDelegates p h m
  only_bindable room m bindable eb e =
      let r = bound_split room (bound_by p.tables h s w ds room steps) w.procedures m (sym (ap (λ z. holds (slice_get z m)) eb) ∙ e) in
      only_bound room r.0 m r.1 r.2

  -- ---- a procedure that a method may call is that of a method that it may call

  module _ (bindable : List Bool) (room : ℕ) (eb : bindable ≡ map (is_bound room (bound_by p.tables h s w ds room steps)) w.procedures) (x : Plan)
      (bx : x.bindable ≡ bindable) (px : x.procedures ≡ w.procedures) (ax : x.asked ≡ w.asked) where
    abbrev IsCall : (m q : ℕ) → Type 0
    IsCall m q = (k : ℕ) × Calls p h m k × (flat (slice_get x.procedures k) ≡ Some q)

    of_call : (st : Step) (m j q : ℕ) → has_reason s.methods m ≡ true → slice_get (steps_of p m) j ≡ Some st
        → is_among (called_by p.tables x ds st) q ≡ true → IsCall m q
    of_call (CallComponent k count) m j q l e t =
        (k, used.Calls.of_component count (record { live = live_method m l; place = j; stands = e }), one_is (flat (slice_get x.procedures k)) q t)
    of_call (CallMethod at c sel count) m j q l e t =
        let z : m ≡ m + 0 = omega arith in
        let o = step_out p 0 s.methods m j (CallMethod at c sel count) l (subst (λ v. slice_get (steps_of p v) j ≡ Some (CallMethod at c sel count)) z e) in
        let there : is_there w.asked c sel ≡ true =
        subst (λ v. is_there v c sel ≡ true) (sym aw) (asked_there [] steps o.0 (CallMethod at c sel count) _ o.1 refl) in
        let f = finds c sel q there (subst (λ v. is_among (map sets.procedure_in (dispatches.cases_of (slice_get ds (place_of v c sel)))) q ≡ true) ax t) in (
          f.0,
          used.Calls.of_object at c sel count (record { live = live_method m l; place = j; stands = e }) f.1,
          ap (λ v. flat (slice_get v f.0)) px ∙ f.2,
        )
    of_call (CallValue at count t) m j q l e u =
        let d = delegate_split x t q 0 p.tables.methods u in
        let z : d.place + 0 ≡ d.place = omega arith in
        let b : holds (slice_get bindable d.place) ≡ true =
        ap (λ v. holds (slice_get v d.place)) (sym bx) ∙ subst (λ v. holds (slice_get x.bindable v) ≡ true) z d.bindable in (
          d.place,
          used.by_delegate at count d.method
              (record { live = live_method m l; place = j; stands = subst (λ v. slice_get (steps_of p m) j ≡ Some (CallValue at count v)) (sym d.type_) e })
              d.there (only_bindable room d.place bindable eb b),
          subst (λ v. flat (slice_get x.procedures v) ≡ Some q) z d.procedure,
        )
    of_call _ m j q l e t = no_clash t

    pub only_edges : (edges : List (List ℕ)) → edges ≡ edges_from p x ds room s.methods 0 p.tables.methods → (m q : ℕ)
        → is_among (row_in (slice_get edges m)) q ≡ true → IsCall m q
    only_edges edges ee m q e =
        let z : m + 0 ≡ m = omega arith in
        let r = edge_split p x ds room s.methods 0 p.tables.methods m q (sym (ap (λ v. is_among (row_in (slice_get v m)) q) ee) ∙ e) in
        let l = subst (λ v. has_reason s.methods v ≡ true) z r.0 in
        let c = called_split p.tables x ds (steps_of p m) q (subst (λ v. is_among (called p.tables x ds (steps_of p v)) q ≡ true) z r.1) in
        of_call c.1 m c.0 q l c.2 c.3
