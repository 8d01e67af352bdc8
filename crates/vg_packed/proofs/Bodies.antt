-- What a step of a live method may do.
use Rattle.std.proofs.Common.{◌≡◌, refl, sym, ap, subst, ◌∙◌, ℕ, zero, suc, ◌<◌, Bool, true, false, List, [], ◌∷◌, ◌++◌, length, Some, None}
use Rattle.std.proofs.Common.{slice_get}
use Rattle.std.proofs.lemmas.Option.{slice_get-map, slice_get_within}
use Rattle.std.proofs.lemmas.List.{length-map}
use Rattle.vg_meaning.specs.Code.{Code, Nothing, Then, Do, If, Loop, Break, Continue, Return}
use Rattle.vg_meaning.specs.Shapes.{Fits}
use Rattle.vg_codes.specs.Codes.{Codes}
use Rattle.vg_codes.specs.Dispatch.{dispatched}
use Rattle.vg_core.specs.declared.types.CoreType.{CoreType}
use Rattle.vg_core.specs.declared.value.CoreValue.{CoreValue}
use Rattle.vg_core.specs.declared.value.CoreValue.TheVariants.{Int, Bool as Truth, Char, Raw, Null, Obj, Arr, Bound}
use Rattle.vg_core.specs.declared.heap.Heap.{Heap}
use Rattle.vg_core.specs.declared.member.Member.TheVariants.{Method}
use Rattle.vg_core.specs.declared.program.Method.{Method as TheMethod}
use Rattle.vg_core.specs.declared.program.Owner.{Owner}
use Rattle.vg_core.specs.declared.program.Owner.TheVariants.{InClass}
use Rattle.vg_core.specs.declared.program.Tables.{Tables}
use Rattle.vg_core.specs.declared.step.Step.{Step}
use Rattle.vg_core.specs.declared.step.Step.TheVariants.{Put, ComponentMethod, MethodOf, CallMethod, CallValue}
use Rattle.vg_core.specs.declared.step.Step.TheVariants.{CallComponent, NewObject, NewArray, SetComponentField, SetField, SetItem, CastTo, Super}
use Rattle.vg_core.specs.Heap.{Kind, kind_of, class_in}
use Rattle.vg_core.specs.Program.{Body, Program, Signature}
use Rattle.vg_core.specs.Tables.{dispatch}
use Rattle.vg_core.specs.Typing.{WellFormed, Overrides, Takes, known, TypedBody, locals_of, t_put, t_literal, t_this, t_local, t_component_field, t_register}
use Rattle.vg_core.specs.Typing.{t_component_method, t_apply, t_operate, t_cast, t_is_below}
use Rattle.vg_core.specs.Typing.{t_field, t_item, t_length, t_method_of, t_call_method, t_call_value}
use Rattle.vg_core.specs.Typing.{t_call_component, t_new_object, t_new_array, t_set_local, t_set_component_field, t_set_register, t_set_field, t_set_item}
use Rattle.vg_core.specs.Typing.{t_forget, t_super}
use Rattle.vg_sound.specs.Good.{TypedHeap}
use Rattle.vg_sound.proofs.Values.{the_same}
use Rattle.vg_sound.proofs.Runs.{kinds_of_heap}
use Rattle.vg_firm.specs.Program.{Program as FirmProgram}
use Rattle.vg_firm.specs.Session.{is_among}
use Rattle.vg_coded.specs.Kept.{IsKept}
use Rattle.vg_packing.specs.Layout.{Layout}
use Rattle.vg_packing.specs.Allowed.{IsObject, IsDispatched, Allowed, allowing}
use Rattle.vg_live.specs.Uses.{uses, steps_in, steps_of, component_method, Asked, asked}
use Rattle.vg_live.specs.Rules.{Live, none, by, literal, of_component, of_object, component_field, class_field}
use Rattle.vg_packed.specs.Plain.{IsConstant, IsPlain}
use Rattle.vg_packed.specs.Uses.{Has, Finds}
use Rattle.vg_packed.specs.Uses as used
use Rattle.vg_packed.specs.IsOf.{IsOf}
use Rattle.vg_packed.proofs.There.{class_of_kind}

-- ---- all steps of a list

abbrev pub Each : (Step → Type 0) → List Step → Type 0
Each A [] = Unit {0}
Each A (s ∷ ss) = A s × Each A ss

each_front : (A : Step → Type 0) (xs ys : List Step) → Each A (xs ++ ys) → Each A xs
each_front A [] ys h = tt
each_front A (x ∷ xs) ys (a, h) = (a, each_front A xs ys h)

each_back : (A : Step → Type 0) (xs ys : List Step) → Each A (xs ++ ys) → Each A ys
each_back A [] ys h = h
each_back A (x ∷ xs) ys (a, h) = each_back A xs ys h

each_of : (A : Step → Type 0) (xs : List Step) → ((i : ℕ) (s : Step) → slice_get xs i ≡ Some s → A s) → Each A xs
each_of A [] h = tt
each_of A (x ∷ xs) h = (h zero x refl, each_of A xs (λ i s e. h (suc i) s e))

-- typed code of allowed steps is taken by the pass
module _ (p : Tables) (l : Layout) (f : FirmProgram) (cs : List ℕ) (ts : List CoreType) (o : Owner) (r : CoreType) where
  abbrev pub May : Step → Type 0
  May s = (x y : List CoreType) → Takes p ts o s x y → Allowed p l f cs s

  pub fits : (looped : Bool) (c : Code Step) (x y : List CoreType) → Each May (uses c) → Fits (known p ts o r) looped c x y
      → Fits (allowing p l f cs ts o r) looped c x y
  fits looped Nothing x y h t = t
  fits looped (Then a b) x y h (z, u, v) =
      (z, fits looped a x z (each_front May (uses a) (uses b) h) u, fits looped b z y (each_back May (uses a) (uses b) h) v)
  fits looped (Do s) x y h t = (t, h.0 x y t)
  fits looped (If a b) x y h (z, truth, u, v) =
      (z, truth, fits looped a z y (each_front May (uses a) (uses b) h) u, fits looped b z y (each_back May (uses a) (uses b) h) v)
  fits looped (Loop a b c) x y h (ex, ey, z, u, truth, v, w) =
      let front = each_front May (uses a ++ uses b) (uses c) h in (
        ex,
        ey,
        z,
        fits looped a [] z (each_front May (uses a) (uses b) front) u,
        truth,
        fits true b [] [] (each_back May (uses a) (uses b) front) v,
        fits looped c [] [] (each_back May (uses a ++ uses b) (uses c) h) w,
      )
  fits looped Break x y h t = t
  fits looped Continue x y h t = t
  fits looped Return x y h t = t

-- a constant is kept
constant_kept : (l : Layout) (v : CoreValue) → IsConstant v → IsKept l.numbering v
constant_kept l (Int z) h = h
constant_kept l (Truth b) h = tt
constant_kept l (Char c) h = h
constant_kept l (Raw w b) h = h
constant_kept l Null h = tt
constant_kept l (Obj k) h = absurd h
constant_kept l (Arr k) h = absurd h
constant_kept l (Bound r m) h = absurd h

-- ---- the steps of a live method

module _ (p : Program) (formed : WellFormed p.tables) (plain : IsPlain p) (h : Heap) (κ : List Kind) (typed : TypedHeap p.tables κ h) (l : Layout) (k : Codes)
    (f : FirmProgram) (is : IsOf p h l k f) where
  class_there : (j d : ℕ) → IsObject l j d → class_in (slice_get h.cells j) ≡ Some d
  class_there j d o = class_of_kind (slice_get h.cells j) d (sym (slice_get-map kind_of h.cells j) ∙ (ap (λ z. slice_get z j) is.kinds ∙ o.0))

  -- the third rule
  component_live : (m i n : ℕ) (s : Step) (y : TheMethod) → Live p h (Some (Method m)) → slice_get (steps_of p m) i ≡ Some s
      → slice_get p.tables.methods n ≡ Some y → ((e : component_method s ≡ Some n) → Live p h (Some (Method n)))
  component_live m i n s y live e there which = by (of_component i s e which) (slice_get_within p.tables.methods n _ there) live none

  -- the fourth rule: what a live object finds is live, and the dispatch has its procedure
  dispatches_of : (P : ℕ → ℕ → Type 0) (m mm : ℕ) (yy : TheMethod) (s : Step) (x : Asked) → Has p h m s → asked s ≡ Some x
      → dispatch p.tables x.class x.selector ≡ Some mm → slice_get p.tables.methods mm ≡ Some yy
      → ((d n e q : ℕ) (z : TheMethod) → Finds p h x.class x.selector n → slice_get p.tables.methods n ≡ Some z
      → z.owner ≡ InClass e → l.numbering.procedure n ≡ Some q → P n q)
      → IsDispatched p.tables l f P x.class x.selector
  dispatches_of P m mm yy s x has which em ey go j d n o below found = over (formed.overrides d x.class x.selector mm yy below em ey)
    where
      finds : Finds p h x.class x.selector n
      finds = record { cell = j; class = d; live = is.only_cells j o.1; is = class_there j d o; below = below; finds = found }

      over : Overrides p.tables d x.selector yy
          → (q : ℕ) × (l.numbering.procedure n ≡ Some q)
          × (dispatched f.dispatches (l.dispatch x.class x.selector) (l.numbering.number j) ≡ Some q) × P n q
      over (n', e, z, en, ez, ef, eo, eb) =
          let there : slice_get p.tables.methods n ≡ Some z = ap (slice_get p.tables.methods) (the_same _ _ (sym found ∙ en)) ∙ ez in
          let q = is.methods n (by (of_object has.place s x d has.stands which (class_there j d o) below found) (slice_get_within p.tables.methods n _ there)
          has.live (is.only_cells j o.1)) in
          (q.0, q.1, is.dispatches m j d n q.0 s x has which o below found q.1, go d n e q.0 z finds there eo q.1)

  module _ (m : ℕ) (ts : List CoreType) (o : Owner) where
    -- what a step may do
    pub allowed : (s : Step) (x y : List CoreType) → Takes p.tables ts o s x y → Has p h m s → Allowed p.tables l f (l.edges m) s
    allowed _ _ _ (t_put {v = v} t) has = constant_kept l v (plain.steps m has.place (Put v) has.stands)
    allowed _ _ _ (t_literal {k = n} bytes e) has =
        is.cells n (by (literal has.place has.stands) (subst (λ z. n < z) (sym cells_are) (slice_get_within κ n _ (typed.literals n bytes e))) has.live none)
      where
        cells_are : length h.cells ≡ length κ
        cells_are = sym (length-map h.cells kind_of) ∙ ap length (sym (kinds_of_heap p.tables κ h typed))
    allowed _ _ _ (t_this e) has = tt
    allowed _ _ _ (t_local e) has = tt
    allowed _ _ _ (t_component_field {f = g} {k = c} y e eo) has =
        is.component_fields g c y e eo (by (component_field has.place has.stands) (slice_get_within p.tables.fields g _ e) has.live none)
    allowed _ _ _ t_register has = tt
    allowed _ _ _ (t_component_method {m = n} y e eo ef) has =
        let q = is.methods n (component_live m has.place n (ComponentMethod n) y has.live has.stands e refl) in
        (q.0, q.1, is.bindable n (used.of_component m has))
    allowed _ _ _ (t_apply t) has = tt
    allowed _ _ _ (t_operate t) has = tt
    allowed _ _ _ (t_cast {at = at} {t = t} {u = u} c) has = plain.steps m has.place (CastTo at t u) has.stands
    allowed _ _ _ (t_is_below c) has = tt
    allowed _ _ _ (t_field {f = g} y e eo eb) has =
        is.class_fields g (by (class_field has.place _ has.stands) (slice_get_within p.tables.fields g _ e) has.live none)
    allowed _ _ _ (t_item e) has = tt
    allowed _ _ _ t_length has = tt
    allowed _ _ _ (t_method_of {at = at} {d = c} {s = s} n y em ey ef) has =
        dispatches_of (λ n q. l.numbering.bindable n ≡ true) m n y (MethodOf at c s) (record { class = c; selector = s }) has refl em ey
        (λ d n e q z finds there eo eq. is.bindable n (used.of_object m at c s has finds))
    allowed _ _ _ (t_call_method {at = at} {d = c} {s = s} n y us em ey subs) has =
        dispatches_of (λ n q. (is_among (l.edges m) q ≡ true) × (l.receives n ≡ true)) m n y (CallMethod at c s (length us))
        (record { class = c; selector = s }) has refl em ey
        (λ d n e q z finds there eo eq. (is.edges m n q (used.Calls.of_object at c s (length us) has finds) eq, is.class_receives n e z there eo))
    allowed _ _ _ (t_call_value {at = at} {f = t} params us ef row et subs) has =
        λ n q y eq bindable there e. is.edges m n q
        (used.by_delegate at (length us) y (subst (λ z. Has p h m (CallValue at (length us) z)) (sym e) has) there (is.only_bindable n bindable)) eq
    allowed _ _ _ (t_call_component {m = n} y us e eo subs) has =
        let q = is.methods n (component_live m has.place n (CallComponent n (length us)) y has.live has.stands e refl) in
        (q.0, q.1, is.edges m n q.0 (used.Calls.of_component (length us) has) q.1)
    allowed _ _ _ (t_new_object {at = at} {c = c} z us e subs) has =
        absurd (let clash : Some at ≡ None = is.nothing_made m (NewObject at c (length us)) has in cc)
    allowed _ _ _ (t_new_array {at = at} {t = t} e) has = absurd (let clash : Some at ≡ None = is.nothing_made m (NewArray at t) has in cc)
    allowed _ _ _ (t_set_local e sub) has = tt
    allowed _ _ _ (t_set_component_field {f = g} y e eo sub) has = is.fields_in_ram m g (SetComponentField g) has refl
    allowed _ _ _ t_set_register has = tt
    allowed _ _ _ (t_set_field {at = at} {f = g} y e eo eb sub) has = is.fields_in_ram m g (SetField at g) has refl
    allowed _ _ _ (t_set_item {at = at} {t = t} e sub) has = is.items_in_ram m t (SetItem at t) has refl
    allowed _ _ _ t_forget has = tt
    allowed _ _ _ (t_super {c = c} z us e subs eo eb) has = absurd (plain.steps m has.place (Super c (length us)) has.stands)

  -- the body of a live method is taken by the pass
  pub body_fits : (m : ℕ) (g : Signature) (b : Body) → Live p h (Some (Method m)) → slice_get p.methods m ≡ Some b → TypedBody p.tables g b
      → Fits (allowing p.tables l f (l.edges m) (locals_of g b) g.owner g.result) false b.code [] []
  body_fits m g b live e t =
      fits p.tables l f (l.edges m) (locals_of g b) g.owner g.result false b.code [] []
      (each_of (May p.tables l f (l.edges m) (locals_of g b) g.owner g.result) (uses b.code)
      (λ i s es x y takes. allowed m (locals_of g b) g.owner s x y takes
      (record { live = live; place = i; stands = ap (λ z. slice_get (steps_in z) i) e ∙ es }))) t
