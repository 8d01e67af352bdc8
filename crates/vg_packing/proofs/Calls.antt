-- Bodies, calls and whole runs.
use Rattle.std.proofs.Common.{◌≡◌, refl, sym, ap, subst, ◌∙◌, arith, append_assoc, ℕ, zero, suc, ◌+◌, ◌-◌, ◌<◌, ◌==◌, nat_lt, Bool, true, false, List, [], ◌∷◌, ◌++◌}
use Rattle.std.proofs.Common.{length, map, take, drop}
use Rattle.std.proofs.Common.{reverse, replicate, Option, Some, None, if◌then◌else◌}
use Rattle.std.proofs.lemmas.Option.{none-some}
use Rattle.std.proofs.lemmas.Nat.{pow_pos}
use Rattle.std.proofs.lemmas.List.{take-map, drop-map, map-append, length-map, length-reverse}
use Rattle.vg_meaning.specs.History.{Calling, Recorder}
use Rattle.vg_meaning.specs.World.{World}
use Rattle.vg_meaning.specs.Outside.{AreReads}
use Rattle.vg_meaning.specs.Answer.{Signal, Answer, Gives, Piece, go_on}
use Rattle.vg_meaning.specs.Calls.{opened}
use Rattle.vg_meaning.specs.Code.{Code, Then, Do, performed, replaced}
use Rattle.vg_meaning.specs.Same.{Nowhere, SameTest, Left}
use Rattle.vg_meaning.specs.Safe.{Safe, NoWay, IsRight}
use Rattle.vg_meaning.specs.Safe as safety
use Rattle.vg_meaning_laws.proofs.Safe.{safe_then}
use Rattle.vg_fair.specs.Fair.{IsFair, Alike, gives, leaves, overs, wrong, AlikePiece}
use Rattle.vg_fair.proofs.Fair.{alike_then, alike_opened, alike_returned, alike_idles}
use Rattle.vg_source.specs.Session.{running_world}
use Rattle.vg_codes.specs.Codes.{Codes}
use Rattle.vg_core.specs.declared.types.CoreType.{CoreType}
use Rattle.vg_core.specs.declared.types.CoreType.TheVariants.{IntType, BoolType, CharType, RawType, NullType, ClassType, ArrayType, FunctionType, NoType}
use Rattle.vg_core.specs.declared.types.CoreType.TheVariants.{MoreTypes}
use Rattle.vg_core.specs.declared.value.CoreValue.{CoreValue}
use Rattle.vg_core.specs.declared.value.CoreValue.TheVariants.{Int, Bool as Truth, Char, Raw, Null, Obj, Arr, Bound}
use Rattle.vg_core.specs.declared.heap.Cell.{Cell}
use Rattle.vg_core.specs.declared.heap.Heap.{Heap}
use Rattle.vg_core.specs.declared.operator.Prefix.{Prefix}
use Rattle.vg_core.specs.declared.step.Step.TheVariants.{Apply}
use Rattle.vg_core.specs.declared.program.Handler.{Handler}
use Rattle.vg_core.specs.declared.program.Owner.{Owner}
use Rattle.vg_core.specs.declared.program.Owner.TheVariants.{InClass, InComponent}
use Rattle.vg_core.specs.declared.program.Target.TheVariants.{Run}
use Rattle.vg_core.specs.Heap.{Kind, kind_of, default}
use Rattle.vg_core.specs.Program.{Body, Program, Signature, signature_of, method_signature, body_of}
use Rattle.vg_core.specs.Session.{call_alone, with_heap, handler_of, running}
use Rattle.vg_core.specs.Session as session
use Rattle.vg_core.specs.State.{State, is_of, are_of, onto, entered}
use Rattle.vg_core.specs.Types.{HasTypes, AreKinds, SelfOf}
use Rattle.vg_core.specs.Typing.{Holds as HoldsTruth, Subs, locals_of, TypedBody, IsEntry, AreEntries, WellTyped, Takes, t_apply}
use Rattle.vg_core.specs.Meaning as core
use Rattle.vg_sound.specs.Good.{TypedHeap, Good, CallsRight, HasTypedHeap}
use Rattle.vg_sound.proofs.Values.{defaults_typed, front, turned_round, all_fit as all_fit_types, subs_length, onto_length}
use Rattle.vg_sound.proofs.Cells.{is_typed}
use Rattle.vg_sound.proofs.Pieces.{safe_taking}
use Rattle.vg_sound.proofs.Steps.{safe_step}
use Rattle.vg_sound.proofs.Calls.{safe_called}
use Rattle.vg_sound.proofs.Runs.{kinds_of_heap, right_running}
use Rattle.vg_firm.specs.Program.{Procedure, Program as FirmProgram}
use Rattle.vg_firm.specs.declared.step.Step.{Step as FirmStep}
use Rattle.vg_firm.specs.declared.step.Step.TheVariants as steps
use Rattle.vg_firm.specs.Meaning as firm
use Rattle.vg_firm.specs.Meaning.{State as FirmState}
use Rattle.vg_firm.specs.Session as calls
use Rattle.vg_firm.specs.Session.{all_fit, guarded, may_receive, is_object, may_enter}
use Rattle.vg_coded.specs.Numbers.{coded}
use Rattle.vg_coded.specs.Kept.{IsKept}
use Rattle.vg_coded.specs.Operators.{prefix_for}
use Rattle.vg_coded.specs.Widths.{width_of}
use Rattle.vg_coded.proofs.Fitting.{value_fits}
use Rattle.vg_packing.specs.Layout.{Layout}
use Rattle.vg_pairs.specs.Pairs.{without_pairs}
use Rattle.vg_packing.specs.Pass.{is_class, move, packed}
use Rattle.vg_packing.specs.Allowed.{IsSmall, AreSmall, allowing}
use Rattle.vg_packing.specs.Packs.{AreKept, Holds, Receiver, Packs, packs}
use Rattle.vg_packing.specs.Laid.{SameEntry, IsPacked, Laid}
use Rattle.vg_packing.proofs.Lists.{kept_take, kept_drop, kept_onto, onto_is, map_reverse}
use Rattle.vg_packing.proofs.Pieces.{Typed, Any, SameFrom, same_put, same_checked}
use Rattle.vg_pairs.proofs.Doing.{does_unpaired}
use Rattle.vg_packing.proofs.Twice.{undoes, one_prefix, done_twice}
use Rattle.vg_packing.proofs.Steps.{MayGet, SameCalls, same_step, below, both}

-- ---- defaults

default_coded : (l : Layout) (k : Codes) (t : CoreType) → coded l.numbering k (default t) ≡ 0
default_coded l k IntType = refl
default_coded l k BoolType = refl
default_coded l k CharType = refl
default_coded l k (RawType j) = refl
default_coded l k NullType = refl
default_coded l k (ClassType c) = refl
default_coded l k (ArrayType c) = refl
default_coded l k (FunctionType a b) = refl
default_coded l k NoType = refl
default_coded l k (MoreTypes a b) = refl

default_kept : (l : Layout) (t : CoreType) → IsSmall t → IsKept l.numbering (default t)
default_kept l IntType h = omega arith
default_kept l BoolType h = tt
default_kept l CharType h = omega arith
default_kept l (RawType j) h = (h, pow_pos j)
default_kept l NullType h = tt
default_kept l (ClassType c) h = tt
default_kept l (ArrayType c) h = tt
default_kept l (FunctionType a b) h = tt
default_kept l NoType h = tt
default_kept l (MoreTypes a b) h = tt

defaults_coded : (l : Layout) (k : Codes) (ts : List CoreType) → map (coded l.numbering k) (map default ts) ≡ replicate (length ts) 0
defaults_coded l k [] = refl
defaults_coded l k (t ∷ ts) = ap (λ z. z ∷ map (coded l.numbering k) (map default ts)) (default_coded l k t) ∙ ap (λ z. 0 ∷ z) (defaults_coded l k ts)

defaults_kept : (l : Layout) (ts : List CoreType) → AreSmall ts → AreKept l (map default ts)
defaults_kept l [] h = tt
defaults_kept l (t ∷ ts) (a, h) = (default_kept l t a, defaults_kept l ts h)

-- ---- lengths and widths

types_length : (p : Program) (κ : List Kind) (vs : List CoreValue) (ts : List CoreType) → HasTypes p.tables κ vs ts → length vs ≡ length ts
types_length p κ [] [] h = refl
types_length p κ (v ∷ vs) (t ∷ ts) (a, h) = ap suc (types_length p κ vs ts h)
types_length p κ [] (t ∷ ts) h = absurd h
types_length p κ (v ∷ vs) [] h = absurd h

onto_append : (params others : List CoreType) → onto params others ≡ onto params [] ++ others
onto_append params others =
    onto_is params others ∙ sym (ap (λ z. z ++ others) (onto_is params []) ∙ append_assoc (reverse params) [] others)

eq_true : (a b : ℕ) → a ≡ b → (a == b) ≡ true
eq_true a b e = grind (arith, e)

-- ---- both hold

-- where two runs do the same, and the first is never Wrong, what holds of its state holds beside
both_hold : {K : Type 0} {R G : State → FirmState → Type 0} {T : State → K → Type 0} {L : Signal → State → FirmState
    → Type 0} {a : Answer State K} {b : Answer FirmState K}
    → Alike R Nowhere a b → Safe T NoWay IsRight a → ((s : State) (t : FirmState) (h : K) → R s t → T s h → G s t) → Alike G L a b
both_hold (gives {s = s} {t = t} {w = w} i q) (safety.gives j) h = gives i (h s t w.history q j)
both_hold (leaves i q) j h = absurd q
both_hold overs j h = overs
both_hold wrong j h = wrong

module _ (p : Program) (good : WellTyped p) (l : Layout) (k : Codes) (f : FirmProgram) (laid : Laid p l k f) where
  shape_of : (o : Owner) (s : State) (t : FirmState) → Packs p.tables l k f o s t → map kind_of s.heap.cells ≡ l.kinds
  shape_of o _ _ (packs a b c d q) = q.shaped

  -- a good state that is packed has cells of the kinds of the layout
  typed_of : (κ0 : List Kind) (ts : List CoreType) (o : Owner) (x : List CoreType) (s : State) → map kind_of s.heap.cells ≡ l.kinds
      → Good p.tables κ0 ts o x s → Typed p l.kinds ts o x s
  typed_of κ0 ts o x s shaped g =
      let e : g.kinds ≡ l.kinds = kinds_of_heap p.tables g.kinds s.heap g.heap ∙ shaped in
      record {
        heap = subst (λ κ. TypedHeap p.tables κ s.heap) e g.heap;
        values = subst (λ κ. HasTypes p.tables κ s.values x) e g.values;
        locals = subst (λ κ. HasTypes p.tables κ s.locals ts) e g.locals;
        self = subst (λ κ. SelfOf p.tables κ s.self o) e g.self;
      }

  abbrev good_of : (ts : List CoreType) (o : Owner) (x : List CoreType) (s : State) → Typed p l.kinds ts o x s → Good p.tables l.kinds ts o x s
  good_of ts o x s j = record { kinds = l.kinds; grown = λ n a q. q; heap = j.heap; values = j.values; locals = j.locals; self = j.self }

  -- ---- receivers

  abbrev on_owner : Owner → Option ℕ → Bool
  on_owner a number = if is_class a then is_object number else true

  -- a method of a class is called on an object, and the number of one that is kept is not 0
  on_objects : (a : Owner) (self : CoreValue) (number : Option ℕ) → IsKept l.numbering self → SelfOf p.tables l.kinds self a → Receiver l k a self number
      → on_owner a number ≡ true
  on_objects (InClass c) self number kept (j, es, object) rec =
      ap is_object (rec ∙ ap (λ v. Some (coded l.numbering k v)) es) ∙ above (l.numbering.number j) (subst (IsKept l.numbering) es kept)
    where
      above : (n : ℕ) → 0 < n → nat_lt 0 n ≡ true
      above n lt = grind arith
  on_objects (InComponent c) self number kept selfis rec = refl

  -- ---- the beginning of a body

  module _ (g : Signature) (b : Body) where
    turned_types : (us x : List CoreType) (vs : List CoreValue) → Subs p.tables us (onto g.params []) → HasTypes p.tables l.kinds vs (us ++ x)
        → HasTypes p.tables l.kinds (take (length us) vs) (onto g.params [])
    turned_types us x vs subs h =
        all_fit_types p.tables good.tables l.kinds (take (length us) vs) us (onto g.params []) (front p.tables l.kinds us x vs h) subs

    as_many : (us : List CoreType) → Subs p.tables us (onto g.params []) → length us ≡ length g.params
    as_many us subs =
        subs_length p.tables us (onto g.params []) subs ∙ (onto_length g.params [] ∙ none (length g.params))
      where
        none : (n : ℕ) → n + length {0} {A = CoreType} [] ≡ n
        none n = omega arith

    widths_length : (us : List CoreType) → Subs p.tables us (onto g.params [])
        → length (map width_of (locals_of g b)) - length us ≡ length b.others
    widths_length us subs =
        let e = length-map (locals_of g b) width_of in
        let d = onto_length (onto g.params []) b.others in
        let c = subs_length p.tables us (onto g.params []) subs in
        ap (λ z. z - length us) (e ∙ d) ∙ less (length (onto g.params [])) (length us) (length b.others) (sym c)
      where
        less : (a n c : ℕ) → a ≡ n → a + c - n ≡ c
        less a n c e = omega (arith, e)

    locals_are : (us x : List CoreType) (vs : List CoreValue) → Subs p.tables us (onto g.params [])
        → map (coded l.numbering k) (onto (take (length us) vs) (map default b.others))
        ≡ reverse (take (length us) (map (coded l.numbering k) vs)) ++ replicate (length (map width_of (locals_of g b)) - length us) 0
    locals_are us x vs subs =
        ap (map (coded l.numbering k)) (onto_is (take (length us) vs) (map default b.others))
        ∙ (map-append (coded l.numbering k) (reverse (take (length us) vs)) (map default b.others)
        ∙ (ap (λ z. z ++ map (coded l.numbering k) (map default b.others))
        (map_reverse (coded l.numbering k) (take (length us) vs) ∙ ap reverse (sym (take-map (coded l.numbering k) (length us) vs)))
        ∙ ap (λ z. reverse (take (length us) (map (coded l.numbering k) vs)) ++ z)
        (defaults_coded l k b.others ∙ ap (λ z. replicate z 0) (sym (widths_length us subs)))))

    packs_entered : (m : ℕ) (o : Owner) (us x : List CoreType) (self : CoreValue) (number : Option ℕ) → AreSmall b.others
        → Subs p.tables us (onto g.params []) → IsKept l.numbering self → Receiver l k g.owner self number → (s : State) (t : FirmState)
        → Packs p.tables l k f o s t
        → Packs p.tables l k f g.owner (entered b (length us) self s) (calls.entered (packed p.tables l k m g b) (length us) number t)
    packs_entered m o us x self number small subs kept rec _ _ (packs {vs = vs} {h = heap} {cols = cols} y z ks rs q) =
        subst (λ n. Packs p.tables l k f g.owner
        (record { values = []; locals = onto (take (length us) vs) (map default b.others); self = self; heap = heap })
        (record { values = []; locals = n; self = number; columns = cols }))
        (locals_are us x vs subs)
        (packs tt (kept_onto l (take (length us) vs) (map default b.others) (kept_take l (length us) vs y) (defaults_kept l b.others small)) kept rec q)

    typed_entered : (o : Owner) (ts us x : List CoreType) (self : CoreValue) → Subs p.tables us (onto g.params []) → SelfOf p.tables l.kinds self g.owner
        → (s : State) → Typed p l.kinds ts o (us ++ x) s → Typed p l.kinds (locals_of g b) g.owner [] (entered b (length us) self s)
    typed_entered o ts us x self subs is s j = record {
      heap = j.heap;
      values = tt;
      locals = turned_round p.tables l.kinds (take (length us) s.values) (map default b.others) (onto g.params []) b.others
          (turned_types us x s.values subs j.values) (defaults_typed p.tables l.kinds b.others);
      self = is;
    }

    -- ---- arguments

    values_fit : (cells : List Cell) → AreKinds p.tables l.kinds cells l.kinds → (vs : List CoreValue) (ts more : List CoreType)
        → HasTypes p.tables l.kinds vs ts → AreKept l vs → all_fit (map width_of (ts ++ more)) (map (coded l.numbering k) vs) ≡ true
    values_fit cells kinds [] [] more h kept = nothing (map width_of more)
      where
        nothing : (ws : List ℕ) → all_fit ws [] ≡ true
        nothing [] = refl
        nothing (w ∷ ws) = refl
    values_fit cells kinds (v ∷ vs) (t ∷ ts) more (a, h) (c, kept) =
        both _ _ (value_fits l.numbering k laid.small p.tables cells t v (is_typed p.tables l.kinds cells v t kinds a) c)
        (values_fit cells kinds vs ts more h kept)
    values_fit cells kinds [] (t ∷ ts) more h kept = absurd h
    values_fit cells kinds (v ∷ vs) [] more h kept = absurd h

    arguments_are : (us : List CoreType) (vs : List CoreValue)
        → map (coded l.numbering k) (onto (take (length us) vs) []) ≡ reverse (take (length us) (map (coded l.numbering k) vs))
    arguments_are us vs =
        ap (map (coded l.numbering k)) (onto_is (take (length us) vs) [] ∙ none (reverse (take (length us) vs)))
        ∙ (map_reverse (coded l.numbering k) (take (length us) vs) ∙ ap reverse (sym (take-map (coded l.numbering k) (length us) vs)))
      where
        none : (xs : List CoreValue) → xs ++ [] ≡ xs
        none [] = refl
        none (x ∷ xs) = ap (λ z. x ∷ z) (none xs)

    arguments_fit : (us x : List CoreType) (cells : List Cell) → AreKinds p.tables l.kinds cells l.kinds → (vs : List CoreValue)
        → Subs p.tables us (onto g.params []) → HasTypes p.tables l.kinds vs (us ++ x) → AreKept l vs
        → all_fit (map width_of (locals_of g b)) (reverse (take (length us) (map (coded l.numbering k) vs))) ≡ true
    arguments_fit us x cells kinds vs subs h kept =
        subst (λ z. all_fit (map width_of (locals_of g b)) z ≡ true) (arguments_are us vs)
        (subst (λ z. all_fit (map width_of z) (map (coded l.numbering k) (onto (take (length us) vs) [])) ≡ true)
        (sym (onto_append (onto g.params []) b.others))
        (values_fit cells kinds (onto (take (length us) vs) []) (onto (onto g.params []) []) b.others
        (turned_round p.tables l.kinds (take (length us) vs) [] (onto g.params []) [] (turned_types us x vs subs h) tt)
        (kept_onto l (take (length us) vs) [] (kept_take l (length us) vs kept) tt)))

    as_many_wait : (us x : List CoreType) (vs : List CoreValue) → HasTypes p.tables l.kinds vs (us ++ x)
        → length (reverse (take (length us) (map (coded l.numbering k) vs))) ≡ length us
    as_many_wait us x vs h =
        length-reverse (take (length us) (map (coded l.numbering k) vs))
        ∙ (ap length (take-map (coded l.numbering k) (length us) vs)
        ∙ (length-map (take (length us) vs) (coded l.numbering k) ∙ types_length p l.kinds (take (length us) vs) us (front p.tables l.kinds us x vs h)))

    may_get : (m : ℕ) (number : Option ℕ) → MayGet l m number → may_receive (packed p.tables l k m g b) number ≡ true
    may_get m None h = refl
    may_get m (Some n) (e, lt) = both (l.receives m) _ e (below n 65536 lt)

    enters : (m : ℕ) (o : Owner) (ts us x : List CoreType) (number : Option ℕ) → Subs p.tables us (onto g.params []) → MayGet l m number
        → on_owner g.owner number ≡ true → (s : State) (t : FirmState) → Packs p.tables l k f o s t → Typed p l.kinds ts o (us ++ x) s
        → may_enter (packed p.tables l k m g b) (length us) number t ≡ true
    enters m o ts us x number subs may on _ _ (packs {vs = vs} y z ks rs q) j =
        both _ _
        (both _ _ (both _ _ (eq_true (length us) (length g.params) (as_many us subs)) (eq_true _ _ (as_many_wait us x vs j.values)))
        (arguments_fit us x _ j.heap.cells vs subs j.values y)) (both _ _ (may_get m number may) on)

  module _ {K : Type 0} (r : Recorder K) where
    -- ---- truth values and results

    same_truth : (ts : List CoreType) (o : Owner) (x y : List CoreType) → HoldsTruth x y → (s : State) (t : FirmState) → Packs p.tables l k f o s t
        → Typed p l.kinds ts o x s
        → SameTest (λ s1 t1. Packs p.tables l k f o s1 t1 × Typed p l.kinds ts o y s1) (core.truth s) (firm.truth t)
    same_truth ts o x y e _ _ (packs {vs = []} z ls ks rs q) j = tt
    same_truth ts o x y e _ _ (packs {vs = Truth true ∷ vs} (a, z) ls ks rs q) j = (
      packs z ls ks rs q,
      record {
        heap = j.heap;
        values = (subst (HasTypes p.tables l.kinds
            (Truth true ∷ vs)) e j.values).1;
        locals = j.locals;
        self = j.self;
      },
    )
    same_truth ts o x y e _ _ (packs {vs = Truth false ∷ vs} (a, z) ls ks rs q) j = (
      packs z ls ks rs q,
      record {
        heap = j.heap;
        values = (subst (HasTypes p.tables l.kinds
            (Truth false ∷ vs)) e j.values).1;
        locals = j.locals;
        self = j.self;
      },
    )
    same_truth ts o x y e _ _ (packs {vs = Int n ∷ vs} z ls ks rs q) j = tt
    same_truth ts o x y e _ _ (packs {vs = Char n ∷ vs} z ls ks rs q) j = tt
    same_truth ts o x y e _ _ (packs {vs = Raw n m ∷ vs} z ls ks rs q) j = tt
    same_truth ts o x y e _ _ (packs {vs = Null ∷ vs} z ls ks rs q) j = tt
    same_truth ts o x y e _ _ (packs {vs = Obj n ∷ vs} z ls ks rs q) j = tt
    same_truth ts o x y e _ _ (packs {vs = Arr n ∷ vs} z ls ks rs q) j = tt
    same_truth ts o x y e _ _ (packs {vs = Bound n m ∷ vs} z ls ks rs q) j = tt

    -- ---- bodies

    module _ (call : core.Caller K) (right : CallsRight p.tables call) (call' : firm.Caller K) (handle : ℕ → Piece FirmState K) (m q : ℕ) (g : Signature)
        (b : Body) (is : IsPacked p.tables l k f m q g b)
        (same : SameCalls p good.tables l k f laid (l.edges m) call (guarded (l.edges m) call')) where
      abbrev Both : List CoreType → State → FirmState → Type 0
      Both x s t = Packs p.tables l k f g.owner s t × Typed p l.kinds (locals_of g b) g.owner x s

      -- two operators, one behind the other, are one of one type, and leave what was there
      twice : (op op' : Prefix) (a a' : CoreType) (x y z : List CoreType) → Takes p.tables (locals_of g b) g.owner (Apply op a) x y
          → Takes p.tables (locals_of g b) g.owner (Apply op' a') y z → (c : Code FirmStep) (s : State) (t : FirmState) (w : World K)
          → Packs p.tables l k f g.owner s t → HasTypes p.tables l.kinds s.values x
          → performed r (firm.step k f (packed p.tables l k m g b) (guarded (l.edges m) call') handle) firm.truth
          (Then (move p.tables l k (Apply op a)) (Then (move p.tables l k (Apply op' a')) c)) t w
          ≡ performed r (firm.step k f (packed p.tables l k m g b) (guarded (l.edges m) call') handle) firm.truth c t w
      twice op op' a a' _ _ _ (t_apply h) (t_apply h') c _ _ w (packs {vs = []} y z ks rs q) j = absurd j
      twice op op' a a' _ _ _ (t_apply h) (t_apply h') c _ _ w (packs {vs = v ∷ vs} {ls = ls} {number = number} {cols = cols} (kept, y) z ks rs q) (ty, j) =
          subst (λ n. performed r (firm.step k f (packed p.tables l k m g b) (guarded (l.edges m) call') handle) firm.truth
          (Then (Do (steps.Apply (prefix_for op a))) (Then (Do (steps.Apply (prefix_for n a))) c)) (before (coded l.numbering k v)) w
          ≡ performed r (firm.step k f (packed p.tables l k m g b) (guarded (l.edges m) call') handle) firm.truth c (before (coded l.numbering k v)) w)
          (sym (one_prefix op op' a h h'))
          (done_twice r k f (packed p.tables l k m g b) (guarded (l.edges m) call') handle (prefix_for op a) (coded l.numbering k v)
          (undoes p.tables l.kinds l.numbering k op a h v kept ty) c below_it w)
        where
          below_it : FirmState
          below_it =
              record { values = map (coded l.numbering k) vs; locals = map (coded l.numbering k) ls; self = number; columns = cols }

          before : ℕ → FirmState
          before n =
              record { values = n ∷ map (coded l.numbering k) vs; locals = map (coded l.numbering k) ls; self = number; columns = cols }

      code_alike : AlikePiece (Both []) (Both [])
          (Left (allowing p.tables l f (l.edges m) (locals_of g b) g.owner g.result) Both (Packs p.tables l k f g.owner))
          (performed r (core.step p.tables call) core.truth b.code)
          (performed r (firm.step k f (packed p.tables l k m g b) (guarded (l.edges m) call') handle) firm.truth (replaced (move p.tables l k) (without_pairs b.code)))
      code_alike =
          does_unpaired r (core.step p.tables call) core.truth (firm.step k f (packed p.tables l k m g b) (guarded (l.edges m) call') handle) firm.truth
          (move p.tables l k) (allowing p.tables l f (l.edges m) (locals_of g b) g.owner g.result) Both (Packs p.tables l k f g.owner)
          (λ st x y h s t w i z. both_hold
          (same_step p good.tables l k f laid Nowhere r (l.edges m) g.owner (locals_of g b) (packed p.tables l k m g b) refl call
          (guarded (l.edges m) call') handle same st x y h.0 h.1 s t w i z.0 z.1)
          (safe_step p.tables good.tables l.kinds (locals_of g b) g.owner call right st x y h.0 s w (good_of (locals_of g b) g.owner x s z.1))
          (λ s1 t1 h1 a c. (a, typed_of l.kinds (locals_of g b) g.owner y s1 (shape_of g.owner s1 t1 a) c)))
          (λ x y h s t z. same_truth (locals_of g b) g.owner x y h s t z.0 z.1) (λ x h s t z. z.0)
          (λ op op' a a' x y z ha hb c s t w q. twice op op' a a' x y z ha.0 hb.0 c s t w q.0 q.1.values) false b.code None [] [] is.code

      -- back at the caller
      back_alike : (o : Owner) (count : ℕ) (s : State) (t : FirmState) → Packs p.tables l k f o s t
          → AlikePiece {K = K} (Packs p.tables l k f g.owner) (Packs p.tables l k f o) Nowhere (core.back_in p.tables g.result count s)
          (firm.taking (firm.of_width (width_of g.result) (calls.back_in count t)))
      back_alike o count _ _ (packs y z ks rs q) _ _ w i (packs {vs = []} y2 z2 ks2 rs2 q2) = wrong
      back_alike o count _ _ (packs {vs = vs} {ls = ls} {self = self} {number = number} y z ks rs q) _ _ w i
          (packs {vs = v ∷ us} {ls = ls2} {self = self2} {h = heap} {number = number2} {cols = cols} (kept, y2) z2 ks2 rs2 q2) =
          by (is_of p.tables heap.cells g.result v) refl
        where
          behind : FirmState
          behind = record { values = map (coded l.numbering k) us; locals = map (coded l.numbering k) ls2; self = number2; columns = cols }

          packed_back : Piece FirmState K
          packed_back body =
              Gives (record {
                values = coded l.numbering k v ∷ drop count (map (coded l.numbering k) vs);
                locals = map (coded l.numbering k) ls;
                self = number;
                columns = body.columns;
              })

          typed_back : Piece State K
          typed_back body = Gives (record { values = v ∷ drop count vs; locals = ls; self = self; heap = body.heap })

          inner : State
          inner = record { values = us; locals = ls2; self = self2; heap = heap }

          by : (ty : Bool) → is_of p.tables heap.cells g.result v ≡ ty
              → Alike (Packs p.tables l k f o) Nowhere (core.checked ty typed_back inner w)
              (firm.checked (firm.fits (width_of g.result) (coded l.numbering k v)) packed_back behind w)
          by false e = wrong
          by true e =
              subst (λ z1. Alike (Packs p.tables l k f o) Nowhere (typed_back inner w) (firm.checked z1 packed_back behind w))
              (sym (value_fits l.numbering k laid.small p.tables heap.cells g.result v e kept))
              (subst (λ z1. Alike (Packs p.tables l k f o) Nowhere (typed_back inner w)
              (Gives (record { values = coded l.numbering k v ∷ z1; locals = map (coded l.numbering k) ls; self = number; columns = cols }) w))
              (sym (drop-map (coded l.numbering k) count vs))
              (gives i (packs (kept, kept_drop l count vs y) z ks rs q2)))

      -- an end without a return
      missing_alike : AlikePiece {K = K} (Both []) (Packs p.tables l k f g.owner) Nowhere (core.put (default g.result)) (firm.put 0)
      missing_alike s t w i z =
          subst (λ n. Alike (Packs p.tables l k f g.owner) Nowhere (core.put (default g.result) s w) (firm.put n t w)) (default_coded l k g.result)
          (same_put p l k f g.owner Any Nowhere (default g.result) (default_kept l g.result is.result) s t w i z.0 tt)

      body_alike : (o : Owner) (ts us x : List CoreType) (self : CoreValue) (number : Option ℕ) → Subs p.tables us (onto g.params [])
          → IsKept l.numbering self → SelfOf p.tables l.kinds self g.owner → Receiver l k g.owner self number
          → AlikePiece (λ s t. Packs p.tables l k f o s t × Typed p l.kinds ts o (us ++ x) s) (Packs p.tables l k f o) Nowhere
          (core.run_body r p.tables call g b (length us) self) (calls.run_procedure r k f call' handle (packed p.tables l k m g b) (length us) number)
      body_alike o ts us x self number subs kept selfis rec s t w i (z, j) =
          alike_then (core.back_in p.tables g.result (length us) s) (firm.taking (firm.of_width (width_of g.result) (calls.back_in (length us) t)))
          (alike_returned (core.put (default g.result)) (firm.put 0)
          (code_alike (entered b (length us) self s) (calls.entered (packed p.tables l k m g b) (length us) number t) w i
          (packs_entered g b m o us x self number is.others subs kept rec s t z, typed_entered g b o ts us x self subs selfis s j))
          missing_alike (λ s1 t1 z1. z1))
          (back_alike o (length us) s t z)

    -- ---- calls

    abbrev SameCalled : ℕ → Type 0
    SameCalled n =
        (o : Owner) (ts us x : List CoreType) (m q : ℕ) (g : Signature) (self : CoreValue) (number : Option ℕ)
        → l.numbering.procedure m ≡ Some q → signature_of p.tables (Run m) ≡ Some g → Subs p.tables us (onto g.params [])
        → IsKept l.numbering self → SelfOf p.tables l.kinds self g.owner → Receiver l k g.owner self number → MayGet l m number
        → SameFrom p l k f o (Typed p l.kinds ts o (us ++ x)) Nowhere (core.called r p n (Run m) (length us) self) (calls.called r k f n q (length us) number)

    guarded_calls : (cs : List ℕ) (n : ℕ) → SameCalled n → SameCalls p good.tables l k f laid cs (core.called r p n) (guarded cs (calls.called r k f n))
    guarded_calls cs n same o ts us x m q g self number e am sig subs kept is rec may =
        subst (λ z. SameFrom p l k f o (Typed p l.kinds ts o (us ++ x)) Nowhere (core.called r p n (Run m) (length us) self)
        (firm.checked z (calls.called r k f n q (length us) number))) (sym am)
        (same o ts us x m q g self number e sig subs kept is rec may)

    -- the procedure of a method is entered
    entering_is : (o : Owner) (ts us x : List CoreType) (m q : ℕ) (g : Signature) (b : Body) (number : Option ℕ) (a : Piece State K)
        (go : Procedure → Piece FirmState K)
        → IsPacked p.tables l k f m q g b → Subs p.tables us (onto g.params []) → MayGet l m number → on_owner g.owner number ≡ true
        → SameFrom p l k f o (Typed p l.kinds ts o (us ++ x)) Nowhere a (go (packed p.tables l k m g b))
        → SameFrom p l k f o (Typed p l.kinds ts o (us ++ x)) Nowhere a (calls.entering f q (length us) number go)
    entering_is o ts us x m q g b number a go is subs may on h s t w i z j =
        subst (λ c. Alike (Packs p.tables l k f o) Nowhere (a s w) (firm.with_found c (λ d. firm.checked (may_enter d (length us) number t) (go d)) t w))
        (sym is.procedure)
        (subst (λ c. Alike (Packs p.tables l k f o) Nowhere (a s w) (firm.checked c (go (packed p.tables l k m g b)) t w))
        (sym (enters g b m o ts us x number subs may on s t z j)) (h s t w i z j))

    same_opened : (n : ℕ) → SameCalled n → (o : Owner) (ts us x : List CoreType) (m q : ℕ) (g : Signature) (b : Body) (self : CoreValue) (number : Option ℕ)
        → IsPacked p.tables l k f m q g b → signature_of p.tables (Run m) ≡ Some g → body_of p (Run m) ≡ Some b → Subs p.tables us (onto g.params [])
        → IsKept l.numbering self → SelfOf p.tables l.kinds self g.owner → Receiver l k g.owner self number → MayGet l m number
        → SameFrom p l k f o (Typed p l.kinds ts o (us ++ x)) Nowhere (core.called r p (suc n) (Run m) (length us) self)
        (calls.called r k f (suc n) q (length us) number)
    same_opened n same o ts us x m q g b self number is sig eb subs kept selfis rec may s t w i z j =
        subst (λ c. Alike (Packs p.tables l k f o) Nowhere (core.with_found c (λ g1. core.with_found (body_of p (Run m)) (λ b1. started g1 b1)) s w)
        (calls.called r k f (suc n) q (length us) number t w)) (sym sig)
        (subst (λ c. Alike (Packs p.tables l k f o) Nowhere (core.with_found c (λ b1. started g b1) s w)
        (calls.called r k f (suc n) q (length us) number t w)) (sym eb)
        (entering_is o ts us x m q g b number (started g b)
        (λ d. opened r (Calling d.method) (calls.run_procedure r k f (calls.called r k f n) handle d (length us) number)) is subs may (on_objects g.owner self number kept selfis rec)
        (same_checked p l k f o (Typed p l.kinds ts o (us ++ x)) Nowhere (length g.params == length us) _ _ (λ e1 s1 t1 w1 i1 z1 j1.
        same_checked p l k f o (Typed p l.kinds ts o (us ++ x)) Nowhere (are_of p.tables s1.heap.cells (onto g.params []) (take (length us) s1.values)) _ _
        (λ e2 s2 t2 w2 i2 z2 j2. alike_opened r (Calling m) _ _
        (body_alike (core.called r p n) (safe_called p good r n) (calls.called r k f n) handle m q g b is
        (guarded_calls (l.edges m) n same) o ts us x self number
        subs kept selfis rec) s2 t2 w2 i2 (z2, j2)) s1 t1 w1 i1 z1 j1)) s t w i z j))
      where
        handle : ℕ → Piece FirmState K
        handle vector = calls.handled (calls.called r k f n) (f.handler vector)

        started : Signature → Body → Piece State K
        started g1 b1 =
            core.with_arguments p.tables g1 (length us) (opened r (Calling m) (core.run_body r p.tables (core.called r p n) g1 b1 (length us) self))

    pub same_called : (n : ℕ) → SameCalled n
    same_called zero o ts us x m q g self number e sig subs kept selfis rec may = by (good.bodies (Run m) g sig)
      where
        by : (b : Body) × (body_of p (Run m) ≡ Some b) × TypedBody p.tables g b
            → SameFrom p l k f o (Typed p l.kinds ts o (us ++ x)) Nowhere (core.called r p zero (Run m) (length us) self)
            (calls.called r k f zero q (length us) number)
        by (b, eb, typed) =
            entering_is o ts us x m q g b number (core.called r p zero (Run m) (length us) self) _ (laid.bodies m q g b e sig eb) subs may
            (on_objects g.owner self number kept selfis rec) (λ s t w i z j. overs)
    same_called (suc n) o ts us x m q g self number e sig subs kept selfis rec may = by (same_called n) (good.bodies (Run m) g sig)
      where
        by : SameCalled n → (b : Body) × (body_of p (Run m) ≡ Some b) × TypedBody p.tables g b
            → SameFrom p l k f o (Typed p l.kinds ts o (us ++ x)) Nowhere (core.called r p (suc n) (Run m) (length us) self)
            (calls.called r k f (suc n) q (length us) number)
        by again (b, eb, typed) =
            same_opened n again o ts us x m q g b self number (laid.bodies m q g b e sig eb) sig eb subs kept selfis rec may

    -- ---- runs

    -- between calls nothing is in hand but the heap
    abbrev Between : State → FirmState → Type 0
    Between s t = Packs p.tables l k f (InComponent 0) s t × Typed p l.kinds [] (InComponent 0) [] s

    entry_alike : (m q : ℕ) → IsEntry p m → l.numbering.procedure m ≡ Some q → (s : State) (t : FirmState) (w : World K) → IsFair w → Between s t
        → Alike Between Nowhere (call_alone r p (Run m) s w) (calls.handled (calls.called r k f w.clock) (Some q) t w)
    entry_alike m q entry e s t w i (z, j) =
        both_hold
        (alike_then (core.taking (λ v. go_on)) (firm.taking (λ v. go_on))
        (same_called w.clock (InComponent 0) [] [] [] m q signature Null None e (ap method_signature entry.is) nothing tt
        (subst (SelfOf p.tables l.kinds Null) (sym entry.owner) tt) (subst (λ a. Receiver l k a Null None) (sym entry.owner) tt) tt s t w i z j)
        (λ s1 t1 w1 i1 z1. dropped s1 t1 w1 i1 z1))
        (safe_then (core.taking (λ v. go_on))
        (safe_called p good r w.clock l.kinds [] (InComponent 0) [] [] (Run m) signature (ap method_signature entry.is) nothing Null s w
        (good_of [] (InComponent 0) [] s j) (subst (SelfOf p.tables l.kinds Null) (sym entry.owner) tt))
        (safe_taking p.tables l.kinds [] (InComponent 0) signature.result [] [] (λ v. go_on) (λ v s1 w1 g1 h. safety.gives g1)))
        (λ s1 t1 h a c. (a, typed_of l.kinds [] (InComponent 0) [] s1 (shape_of (InComponent 0) s1 t1 a) c))
      where
        signature : Signature
        signature = record { owner = entry.method.owner; params = entry.method.params; result = entry.method.result }

        nothing : Subs p.tables [] (onto entry.method.params [])
        nothing = subst (λ ps. Subs p.tables [] (onto ps [])) (sym entry.params) tt

        dropped : AlikePiece {K = K} (Packs p.tables l k f (InComponent 0)) (Packs p.tables l k f (InComponent 0)) Nowhere (core.taking (λ v. go_on))
            (firm.taking (λ v. go_on))
        dropped _ _ w1 i1 (packs {vs = []} y z1 ks rs q1) = wrong
        dropped _ _ w1 i1 (packs {vs = v ∷ vs} (a, y) z1 ks rs q1) = gives i1 (packs y z1 ks rs q1)

    entry_of : (hs : List Handler) → AreEntries p hs → (v m : ℕ) → handler_of hs v ≡ Some m → IsEntry p m
    entry_of [] all v m e = absurd (none-some m e)
    entry_of (h ∷ hs) (a, all) v m e = by (h.vector == v) (entry_of hs all v m) e
      where
        some_is : (a b : ℕ) → Some a ≡ Some b → a ≡ b
        some_is a b d = cc

        by : (b : Bool) → (handler_of hs v ≡ Some m → IsEntry p m) → (if b then Some h.method else handler_of hs v) ≡ Some m → IsEntry p m
        by true later d = subst (IsEntry p) (some_is h.method m d) a
        by false later d = later d

    handled_alike : (v : ℕ) → AlikePiece Between Between Nowhere (session.handle r p v)
        (λ s1 w1. calls.handled (calls.called r k f w1.clock) (f.handler v) s1 w1)
    handled_alike v = by (handler_of p.handlers v) refl (f.handler v) (laid.handlers v)
      where
        by : (a : Option ℕ) → handler_of p.handlers v ≡ a → (c : Option ℕ) → SameEntry l a c
            → AlikePiece Between Between Nowhere (session.handled r p a) (λ s1 w1. calls.handled (calls.called r k f w1.clock) c s1 w1)
        by None e None h = λ s t w i z. gives i z
        by (Some m) e (Some q) h = λ s t w i z. entry_alike m q (entry_of p.handlers good.handlers v m e) h s t w i z
        by None e (Some q) h = absurd h
        by (Some m) e None h = absurd h

    run_alike : (h : Heap) → TypedHeap p.tables l.kinds h → Holds p.tables l k f h f.ram → (history : K) (deepest : Option ℕ) (reads interrupts : List ℕ)
        (clock : ℕ)
        → AreReads reads
        → Alike Between Nowhere (running r history p h deepest reads interrupts clock)
        (calls.running r k f (length interrupts) (calls.first_state f) (running_world history deepest reads interrupts clock))
    run_alike h typed holds history deepest reads interrupts clock bytes =
        alike_then _ _
        (entry_alike p.main f.main good.main laid.main (with_heap h) (calls.first_state f) (running_world history deepest reads interrupts clock)
        (record { running = refl; reads = bytes })
        (packs tt tt tt tt holds, record { heap = typed; values = tt; locals = tt; self = tt }))
        (alike_idles (length interrupts) _ _ handled_alike)

    -- a run that is never Wrong shows what the packed one shows
    shows : {a : Answer State K} {b : Answer FirmState K} {G : State → FirmState → Type 0} {T : State → K → Type 0} → Alike G Nowhere a b
        → Safe T NoWay IsRight a → safety.Alike a b
    shows (gives i q) j = refl
    shows (leaves i q) j = absurd q
    shows overs j = (refl, refl)
    shows wrong (safety.overs j) = absurd j
    shows wrong (safety.leaves j) = absurd j

    -- the packed run shows what the typed one shows
    pub packed_running : (h : Heap) → HasTypedHeap p.tables h → Holds p.tables l k f h f.ram → (history : K) (deepest : Option ℕ)
        (reads interrupts : List ℕ) (clock : ℕ)
        → AreReads reads
        → safety.Alike (running r history p h deepest reads interrupts clock)
        (calls.running r k f (length interrupts) (calls.first_state f) (running_world history deepest reads interrupts clock))
    packed_running h (κ, typed) holds history deepest reads interrupts clock bytes =
        shows
        (run_alike h (subst (λ z. TypedHeap p.tables z h) (kinds_of_heap p.tables κ h typed ∙ holds.shaped) typed) holds history deepest reads interrupts clock
        bytes)
        (right_running p good r h (κ, typed) history deepest reads interrupts clock)
