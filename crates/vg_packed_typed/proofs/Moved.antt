-- That what stands for a step takes and leaves what the step does, and names what is there.
use Rattle.std.specs.Prelude.{ℕ, zero, suc, ◌+◌, ◌<◌, ◌≤◌, Bool, true, false, nat_lt, if◌then◌else◌, List, [], length, Option, Some, None, slice_get, get_or}
use Rattle.std.proofs.Common.{◌≡◌, ◌⊎◌, inl, inr, refl, sym, ap, ◌∙◌, subst, arith}
use Rattle.std.proofs.lemmas.List.{length-map}
use Rattle.std.proofs.lemmas.Option.{slice_get_cases}
use Rattle.vg_meaning.specs.Code.{Code, Nothing, Then, Do, If, Loop, Break, Continue, Return, replaced}
use Rattle.vg_meaning.specs.Shapes.{Fits}
use Rattle.vg_code_counts.specs.Counted.{Counts, Counted}
use Rattle.vg_codes.specs.Codes.{Codes}
use Rattle.vg_core.specs.declared.program.Owner.{Owner}
use Rattle.vg_core.specs.declared.program.Tables.{Tables}
use Rattle.vg_core.specs.declared.types.CoreType.{CoreType}
use Rattle.vg_core.specs.declared.types.CoreType.TheVariants.{IntType, BoolType, CharType, RawType, NullType, ClassType, ArrayType, FunctionType}
use Rattle.vg_core.specs.declared.types.CoreType.TheVariants.{NoType, MoreTypes}
use Rattle.vg_core.specs.declared.step.Step.{Step}
use Rattle.vg_core.specs.declared.step.Step.TheVariants.{Put, Literal, This, Local, ComponentField, Register, ComponentMethod, Apply, Operate, CastTo}
use Rattle.vg_core.specs.declared.step.Step.TheVariants.{IsBelow, Field, Item, Length, MethodOf, CallMethod, CallValue, CallComponent, NewObject, NewArray}
use Rattle.vg_core.specs.declared.step.Step.TheVariants.{SetLocal, SetComponentField, SetRegister, SetField, SetItem, Forget, Super}
use Rattle.vg_core.specs.declared.operator.Prefix.{Prefix as Operation}
use Rattle.vg_core.specs.Program.{Signature, Body}
use Rattle.vg_core.specs.Tables.{field_type}
use Rattle.vg_core.specs.Typing.{Takes, locals_of, t_local, t_set_local, t_item, t_set_item}
use Rattle.vg_firm.specs.declared.step.Step.{Step as FirmStep}
use Rattle.vg_firm.specs.declared.step.Step.TheVariants as firm
use Rattle.vg_firm.specs.declared.step.Prefix.{Prefix}
use Rattle.vg_firm.specs.Program.{Program as FirmProgram}
use Rattle.vg_flatten_shapes.specs.declared.layout.Layout.{Layout as Placed}
use Rattle.vg_firm_typed.specs.Steps.{columns_of, HasElements, LacksTable, LacksColumn, Names}
use Rattle.vg_firm_typed.specs.Steps as firm_steps
use Rattle.vg_firm_typed.specs.Typed.{Known, Leads, Typed}
use Rattle.vg_firm_typed.specs.Typed as firm_typed
use Rattle.vg_firm_typed_any.specs.TypedFor.{IsTypedFor}
use Rattle.vg_coded.specs.Numbers.{coded, known}
use Rattle.vg_coded.specs.Widths.{width_of}
use Rattle.vg_coded.specs.Operators.{operator_for, prefix_for, cut_for}
use Rattle.vg_packing.specs.Layout.{Column, Layout, first_with}
use Rattle.vg_packing.specs.Pass.{width_in, load, store, load_at, store_at, cut, cast, forgets, call_value, move, packed}
use Rattle.vg_pairs.specs.Pairs.{prefix_in, behind, paired, unpaired, without_pairs}
use Rattle.vg_pairs.proofs.Doing.{prefix_is}
use Rattle.vg_packing.specs.Allowed.{IsWritten, Allowed, allowing}
use Rattle.vg_packed_typed.specs.Measured.{takes, leaves, sets, core_measures}
use Rattle.vg_packed_typed.specs.Suits.{HaveFewParameters, Suits}
use Rattle.vg_packed_typed.proofs.Few.{all_few}

in_range : {X : Type 0} (xs : List X) (i : ℕ) (x : X) → slice_get xs i ≡ Some x → i < length xs
in_range {X} xs i x e = by_case (slice_get_cases xs i).1
  where
    none_is : None ≡ Some x → ⊥
    none_is q = grind arith

    by_case : ((y : X) × (i < length xs) × (slice_get xs i ≡ Some y) × (get_or xs i y ≡ y)) ⊎ ((length xs ≤ i) × (slice_get xs i ≡ None)) → i < length xs
    by_case (inl h) = h.1
    by_case (inr h) = absurd (none_is (sym h.1 ∙ e))

module _ (p : Tables) (l : Layout) (k : Codes) (f : FirmProgram) (lay : Placed) (suits : Suits p l k lay) (most : ℕ) (ts : List CoreType) where
  abbrev knows : Known
  knows = record { layout = lay; locals = length ts; most = most }

  one_step : (below x y : ℕ) (s : Step) (q : FirmStep) → firm_steps.takes q ≡ takes s → firm_steps.leaves q ≡ leaves s
      → ((n : ℕ) → (sets s ≡ true → n ≡ 1) → firm_typed.IsAlone q n) → Names lay (length ts) q → Counts core_measures most below s x y → Leads knows below q x y
  one_step below x y s q et el alone names c =
      record {
        rest = c.rest;
        before = c.before ∙ ap (λ z. z + c.rest) (sym et);
        behind = c.behind ∙ ap (λ z. z + c.rest) (sym el);
        room = c.room;
        alone = alone (below + x) c.alone;
        names = names;
      }

  no_step : (below x y : ℕ) (s : Step) → takes s ≡ leaves s → Counts core_measures most below s x y → x ≡ y
  no_step below x y s e c = c.before ∙ ap (λ z. z + c.rest) e ∙ sym c.behind

  cut_typed : (looped : Bool) (below x y : ℕ) (s : Step) (o : Option Prefix) → 1 ≡ takes s → 1 ≡ leaves s → Counts core_measures most below s x y
      → Typed knows looped below (cut o) x y
  cut_typed looped below x y s (Some op) et el c = one_step below x y s (firm.Apply op) et el (λ n a. tt) tt c
  cut_typed looped below x y s None et el c = no_step below x y s (sym et ∙ el) c

  cast_typed : (looped : Bool) (below x y : ℕ) (at : ℕ) (t u : CoreType) → Counts core_measures most below (CastTo at t u) x y
      → Typed knows looped below (cast l t u) x y
  cast_typed looped below x y at t IntType c = cut_typed looped below x y (CastTo at t IntType) (cut_for t IntType) refl refl c
  cast_typed looped below x y at t CharType c = cut_typed looped below x y (CastTo at t CharType) (cut_for t CharType) refl refl c
  cast_typed looped below x y at t (RawType n) c = cut_typed looped below x y (CastTo at t (RawType n)) (cut_for t (RawType n)) refl refl c
  cast_typed looped below x y at t (ClassType d) c =
      one_step below x y (CastTo at t (ClassType d)) (firm.StopUnlessWithin (l.first d) (l.count d)) refl refl (λ n a. tt) (suits.classes d) c
  cast_typed looped below x y at t BoolType c = no_step below x y (CastTo at t BoolType) refl c
  cast_typed looped below x y at t NullType c = no_step below x y (CastTo at t NullType) refl c
  cast_typed looped below x y at t (ArrayType d) c = no_step below x y (CastTo at t (ArrayType d)) refl c
  cast_typed looped below x y at t (FunctionType ps r) c = no_step below x y (CastTo at t (FunctionType ps r)) refl c
  cast_typed looped below x y at t NoType c = no_step below x y (CastTo at t NoType) refl c
  cast_typed looped below x y at t (MoreTypes first rest) c = no_step below x y (CastTo at t (MoreTypes first rest)) refl c

  load_typed : (looped : Bool) (below x y f' : ℕ) (c : Column) → l.column f' ≡ Some c → Counts core_measures most below (ComponentField f') x y
      → Typed knows looped below (Do (load (l.column f'))) x y
  load_typed looped below x y f' c e h =
      subst (λ o. Typed knows looped below (Do (load o)) x y) (sym e)
      (one_step below x y (ComponentField f') (firm.Load c.home c.column) refl refl (λ n a. tt) (suits.columns f' c e) h)

  store_typed : (looped : Bool) (below x y f' : ℕ) → IsWritten (l.column f') → Counts core_measures most below (SetComponentField f') x y
      → Typed knows looped below (Do (store (l.column f') (width_in l (field_type p f')))) x y
  store_typed looped below x y f' w h = by_column (l.column f') refl w
    where
      by_column : (o : Option Column) → l.column f' ≡ o → IsWritten o → Typed knows looped below (Do (store o (width_in l (field_type p f')))) x y
      by_column (Some c) e ram =
          one_step below x y (SetComponentField f') (firm.Store c.column (width_in l (field_type p f'))) refl refl (λ n a. tt) (suits.fields f' c e ram) h
      by_column None e ram = one_step below x y (SetComponentField f') firm.Forget refl refl (λ n a. tt) tt h

  load_at_typed : (looped : Bool) (below x y at f' : ℕ) → Counts core_measures most below (Field at f') x y
      → Typed knows looped below (Do (load_at (l.column f') (first_with p l f'))) x y
  load_at_typed looped below x y at f' h = by_column (l.column f') refl
    where
      by_column : (o : Option Column) → l.column f' ≡ o → Typed knows looped below (Do (load_at o (first_with p l f'))) x y
      by_column (Some c) e =
          one_step below x y (Field at f') (firm.LoadAt c.home c.column (first_with p l f')) refl refl (λ n a. tt) (suits.columns f' c e) h
      by_column None e = one_step below x y (Field at f') firm.LoadNothing refl refl (λ n a. tt) tt h

  store_at_typed : (looped : Bool) (below x y at f' : ℕ) → IsWritten (l.column f') → Counts core_measures most below (SetField at f') x y
      → Typed knows looped below (Do (store_at (l.column f') (first_with p l f') (width_in l (field_type p f')))) x y
  store_at_typed looped below x y at f' w h = by_column (l.column f') refl w
    where
      by_column : (o : Option Column) → l.column f' ≡ o → IsWritten o
          → Typed knows looped below (Do (store_at o (first_with p l f') (width_in l (field_type p f')))) x y
      by_column (Some c) e ram =
          one_step below x y (SetField at f') (firm.StoreAt c.column (first_with p l f') (width_in l (field_type p f'))) refl refl (λ n a. tt)
          (suits.fields f' c e ram) h
      by_column None e ram = one_step below x y (SetField at f') firm.StoreNothing refl refl (λ n a. tt) tt h

  -- the arguments of null are dropped one by one
  forgets_typed : (looped : Bool) (below count rest x y : ℕ) → x ≡ count + (1 + rest) → y ≡ 1 + rest → below + x + 2 ≤ most
      → Typed knows looped below (forgets count (Do firm.LoadNothing)) x y
  forgets_typed looped below zero rest x y e h room =
      record { rest = rest; before = omega (arith, e); behind = h; room = room; alone = tt; names = tt }
  forgets_typed looped below (suc n) rest x y e h room = (
    n + (1 + rest),
    record { rest = n + (1 + rest); before = omega (arith, e); behind = omega arith; room = room; alone = tt; names = tt },
    forgets_typed looped below n rest (n + (1 + rest)) y refl h (omega (arith, e, room)),
  )

  one_more : (count rest x : ℕ) → x ≡ suc count + rest → x ≡ count + (1 + rest)
  one_more count rest x e = omega (arith, e)

  call_typed : (looped : Bool) (below x y at count t : ℕ) → Counts core_measures most below (CallValue at count t) x y
      → Typed knows looped below (call_value count) x y
  call_typed looped below x y at count t c = by (nat_lt count 61)
    where
      by : (b : Bool) → Typed knows looped below (if b then Do (firm.CallValue count) else forgets count (Do firm.LoadNothing)) x y
      by true = one_step below x y (CallValue at count t) (firm.CallValue count) refl refl (λ n z. tt) tt c
      by false = forgets_typed looped below count c.rest x y (one_more count c.rest x c.before) c.behind c.room

  step_typed : (looped : Bool) (calls : List ℕ) (o : Owner) (below x y : ℕ) (xs ys : List CoreType) (s : Step) → Takes p ts o s xs ys → Allowed p l f calls s
      → Counts core_measures most below s x y → Typed knows looped below (move p l k s) x y
  step_typed looped calls o below x y xs ys (Put v) t a c =
      one_step below x y (Put v) (firm.Number (coded l.numbering k v)) refl refl (λ n z. tt) (suits.values v a) c
  step_typed looped calls o below x y xs ys (Literal i) t a c =
      one_step below x y (Literal i) (firm.Number (l.numbering.number i)) refl refl (λ n z. tt) (suits.cells i) c
  step_typed looped calls o below x y xs ys This t a c = one_step below x y This firm.This refl refl (λ n z. tt) tt c
  step_typed looped calls o below x y xs ys (Local i) (t_local {t = u} e) a c =
      one_step below x y (Local i) (firm.Local i) refl refl (λ n z. tt) (in_range ts i u e) c
  step_typed looped calls o below x y xs ys (ComponentField i) t a c = load_typed looped below x y i a.0 a.1 c
  step_typed looped calls o below x y xs ys (Register i) t a c = one_step below x y (Register i) (firm.ReadDevice i) refl refl (λ n z. tt) tt c
  step_typed looped calls o below x y xs ys (ComponentMethod m) t a c =
      one_step below x y (ComponentMethod m) (firm.Bind (known (l.numbering.procedure m))) refl refl (λ n z. tt) tt c
  step_typed looped calls o below x y xs ys (Apply op u) t a c =
      one_step below x y (Apply op u) (firm.Apply (prefix_for op u)) refl refl (λ n z. tt) tt c
  step_typed looped calls o below x y xs ys (Operate at op u v) t a c =
      one_step below x y (Operate at op u v) (firm.Operate (operator_for op u v)) refl refl (λ n z. tt) tt c
  step_typed looped calls o below x y xs ys (CastTo at u v) t a c = cast_typed looped below x y at u v c
  step_typed looped calls o below x y xs ys (IsBelow d) t a c =
      one_step below x y (IsBelow d) (firm.IsWithin (l.first d) (l.count d)) refl refl (λ n z. tt) (suits.classes d) c
  step_typed looped calls o below x y xs ys (Field at i) t a c = load_at_typed looped below x y at i c
  step_typed looped calls o below x y xs ys (Item at u) (t_item {e = e} h) a c =
      one_step below x y (Item at u) (firm.LoadItem (l.items u)) refl refl (λ n z. tt) (suits.items u e h) c
  step_typed looped calls o below x y xs ys (Length at u) t a c =
      one_step below x y (Length at u) (firm.Length (l.items u).table) refl refl (λ n z. tt) (suits.tables u) c
  step_typed looped calls o below x y xs ys (MethodOf at d s) t a c =
      one_step below x y (MethodOf at d s) (firm.BindFor (l.dispatch d s)) refl refl (λ n z. tt) tt c
  step_typed looped calls o below x y xs ys (CallMethod at d s count) t a c =
      one_step below x y (CallMethod at d s count) (firm.CallFor (l.dispatch d s) count) refl refl (λ n z. tt) tt c
  step_typed looped calls o below x y xs ys (CallValue at count u) t a c =
      call_typed looped below x y at count u c
  step_typed looped calls o below x y xs ys (CallComponent m count) t a c =
      one_step below x y (CallComponent m count) (firm.Call (known (l.numbering.procedure m)) count) refl refl (λ n z. tt) tt c
  step_typed looped calls o below x y xs ys (NewObject at d count) t a c = absurd a
  step_typed looped calls o below x y xs ys (NewArray at u) t a c = absurd a
  step_typed looped calls o below x y xs ys (SetLocal i u) (t_set_local e sub) a c =
      one_step below x y (SetLocal i u) (firm.SetLocal i) refl refl (λ n z. z refl) (in_range ts i u e) c
  step_typed looped calls o below x y xs ys (SetComponentField i) t a c = store_typed looped below x y i a c
  step_typed looped calls o below x y xs ys (SetRegister i) t a c = one_step below x y (SetRegister i) (firm.WriteDevice i) refl refl (λ n z. tt) tt c
  step_typed looped calls o below x y xs ys (SetField at i) t a c = store_at_typed looped below x y at i a c
  step_typed looped calls o below x y xs ys (SetItem at u) (t_set_item {e = e} h sub) a c =
      one_step below x y (SetItem at u) (firm.StoreItem (l.items u)) refl refl (λ n z. tt)
      (subst (λ z. HasElements lay (columns_of lay z) (l.items u) ⊎ (LacksTable lay (l.items u).table ⊎ LacksColumn lay (columns_of lay z) (l.items u))) a
      (suits.items u e h)) c
  step_typed looped calls o below x y xs ys Forget t a c = one_step below x y Forget firm.Forget refl refl (λ n z. tt) tt c
  step_typed looped calls o below x y xs ys (Super d count) t a c = absurd a

  -- ---- code

  module _ (calls : List ℕ) (o : Owner) (result : CoreType) where
    -- What stands for the second code takes and leaves what the first does.
    abbrev Types : Bool → Code Step → Code Step → Type 0
    Types looped c d =
        (below x y : ℕ) (xs ys : List CoreType) → Fits (allowing p l f calls ts o result) looped c xs ys → Counted core_measures most looped below c x y
        → Typed knows looped below (replaced (move p l k) d) x y

    behind_typed : (looped : Bool) (w : Option (Operation × CoreType)) (c d : Code Step) → Types looped c d → Types looped (behind w c) (behind w d)
    behind_typed looped None c d h below x y xs ys f n = h below x y xs ys f n
    behind_typed looped (Some (op, t)) c d h below x y xs ys (zs, fa, fb) (z, na, nb) =
        (z, step_typed looped calls o below x z xs zs (Apply op t) fa.0 fa.1 na, h below z y zs ys fb nb)

    paired_typed : (looped : Bool) (a b : Code Step) (w this : Option (Operation × CoreType)) → prefix_in a ≡ this → Types looped a (unpaired None a)
        → ((w : Option (Operation × CoreType)) → Types looped (behind w b) (unpaired w b))
        → Types looped (behind w (Then a b)) (paired w this (unpaired None a) (λ this. unpaired this b))
    paired_typed looped a b None None e ha hb below x y xs ys (zs, fa, fb) (z, na, nb) =
        (z, ha below x z xs zs fa na, hb None below z y zs ys fb nb)
    paired_typed looped a b None (Some (op, t)) e ha hb below x y xs ys (zs, fa, fb) (z, na, nb) =
        let is = prefix_is a op t e in
        hb (Some (op, t)) below x y xs ys (zs, subst (λ c. Fits (allowing p l f calls ts o result) looped c xs zs) is fa, fb)
        (z, subst (λ c. Counted core_measures most looped below c x z) is na, nb)
    paired_typed looped a b (Some (op, t)) None e ha hb below x y xs ys (zs, fo, (vs, fa, fb)) (z, n1, (v, na, nb)) =
        (z, step_typed looped calls o below x z xs zs (Apply op t) fo.0 fo.1 n1, (v, ha below z v zs vs fa na, hb None below v y vs ys fb nb))
    paired_typed looped a b (Some (op, t)) (Some (op', t')) e ha hb below x y xs ys (zs, fo, (vs, fa, fb)) (z, n1, (v, na, nb)) =
        let is = prefix_is a op' t' e in
        let one = no_step below x z (Apply op t) refl n1 in
        let other = no_step below z v (Apply op' t') refl (subst (λ c. Counted core_measures most looped below c z v) is na) in (
          x,
          refl,
          subst (λ n. Typed knows looped below (replaced (move p l k) (unpaired None b)) n y) (sym (one ∙ other)) (hb None below v y vs ys fb nb),
        )

    if_typed : (looped : Bool) (a b a' b' : Code Step) → Types looped a a' → Types looped b b' → Types looped (If a b) (If a' b')
    if_typed looped a b a' b' ha hb below x y xs ys (zs, t, fa, fb) (z, ex, room, inl (e, ey, na, nb)) =
        (z, ex, room, inl (e, ey, ha 0 0 0 zs ys fa na, hb 0 0 0 zs ys fb nb))
    if_typed looped a b a' b' ha hb below x y xs ys (zs, t, fa, fb) (z, ex, room, inr (ey, na, nb)) =
        (z, ex, room, inr (ey, ha (below + z) 0 1 zs ys fa na, hb (below + z) 0 1 zs ys fb nb))

    loop_typed : (looped : Bool) (a b c a' b' c' : Code Step) → Types looped a a' → Types true b b' → Types looped c c'
        → Types looped (Loop a b c) (Loop a' b' c')
    loop_typed looped a b c a' b' c' ha hb hc below x y xs ys (ex, ey, zs, fa, t, fb, fc) (e, e', na, nb, nc) =
        (e, e', ha 0 0 1 [] zs fa na, hb 0 0 0 [] [] fb nb, hc 0 0 0 [] [] fc nc)

    code_typed : (c : Code Step) (looped : Bool) (w : Option (Operation × CoreType)) → Types looped (behind w c) (unpaired w c)
    code_typed Nothing looped w = behind_typed looped w Nothing Nothing (λ below x y xs ys h c. c)
    code_typed (Then a b) looped w =
        paired_typed looped a b w (prefix_in a) refl (code_typed a looped None) (λ v. code_typed b looped v)
    code_typed (Do s) looped w =
        behind_typed looped w (Do s) (Do s) (λ below x y xs ys h c. step_typed looped calls o below x y xs ys s h.0 h.1 c)
    code_typed (If a b) looped w =
        behind_typed looped w (If a b) (If (unpaired None a) (unpaired None b))
        (if_typed looped a b (unpaired None a) (unpaired None b) (code_typed a looped None) (code_typed b looped None))
    code_typed (Loop a b c) looped w =
        behind_typed looped w (Loop a b c) (Loop (unpaired None a) (unpaired None b) (unpaired None c))
        (loop_typed looped a b c (unpaired None a) (unpaired None b) (unpaired None c) (code_typed a looped None) (code_typed b true None)
        (code_typed c looped None))
    code_typed Break looped w = behind_typed looped w Break Break (λ below x y xs ys h c. c)
    code_typed Continue looped w = behind_typed looped w Continue Continue (λ below x y xs ys h c. c)
    code_typed Return looped w = behind_typed looped w Return Return (λ below x y xs ys h c. c)

pub is_typed : (p : Tables) (l : Layout) (k : Codes) (f : FirmProgram) (lay : Placed) (calls : List ℕ) (m : ℕ) (g : Signature) (b : Body) → Suits p l k lay
    → HaveFewParameters p → Fits (allowing p l f calls (locals_of g b) g.owner g.result) false b.code [] [] → length (locals_of g b) ≤ 60
    → (most : ℕ) → Counted core_measures most false 0 b.code 0 0 → (t : IsTypedFor lay (packed p l k m g b)) × (t.most ≡ most)
is_typed p l k f lay calls m g b suits params h few most c = (
  record {
    few = let e = length-map (locals_of g b) width_of in omega (arith, e, few);
    most = most;
    code =
        subst (λ n. Typed (record { layout = lay; locals = n; most = most }) false 0 (replaced (move p l k) (without_pairs b.code)) 0 0)
        (sym (length-map (locals_of g b) width_of))
        (code_typed p l k f lay suits most (locals_of g b) calls g.owner g.result b.code false None 0 0 0 [] [] h c);
    takes = all_few p l k f params (locals_of g b) calls g.owner g.result b.code h;
  },
  refl,
)
