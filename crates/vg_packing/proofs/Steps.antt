-- Each step and what stands for it do the same.
use Rattle.std.proofs.Common.{◌≡◌, ◌⊎◌, refl, sym, ap, subst, ◌∙◌, arith, ℕ, zero, suc, ◌+◌, ◌-◌, ◌*◌, ◌/◌, ◌%◌, ◌<◌, ◌≤◌, ◌^◌, Bool, true, false, ◌==◌, ◌&&◌}
use Rattle.std.proofs.Common.{nat_lt, nat_le}
use Rattle.std.proofs.Common.{List, [], ◌∷◌, ◌++◌, length, map, take, drop, Option, Some, None, option_map, slice_get, slice_set, if◌then◌else◌}
use Rattle.std.proofs.lemmas.Option.{none-some, slice_get-map, slice_get_within}
use Rattle.std.proofs.lemmas.List.{map-set}
use Rattle.std.proofs.lemmas.Nat.{mod-mul-add, div-mul-add}
use Rattle.std.specs.Cmp.{unsigned_Decides}
use mathlib.Core.Logic.{inl, inr}
use Rattle.vg_meaning.specs.History.{Recorder}
use Rattle.vg_meaning.specs.World.{World}
use Rattle.vg_meaning.specs.Answer.{Signal, Gives, Piece, go_on, stops}
use Rattle.vg_meaning.specs.Devices.{write_device}
use Rattle.vg_meaning.specs.Code.{Code, Do, performed}
use Rattle.vg_meaning.specs.Same.{Nowhere}
use Rattle.vg_fair.specs.Fair.{IsFair, Alike, gives, wrong}
use Rattle.vg_fair.proofs.Fair.{alike_stops, alike_read, alike_write}
use Rattle.vg_source.specs.Operators.{binary, prefixed, Operand, Scalar, AnInt, ATruth, AChar, Bits, Format, ToInt, ToChar, ToBits, recast}
use Rattle.vg_codes.specs.Codes.{Codes, delegate, code_in, receiver_in}
use Rattle.vg_codes.specs.Dispatch.{dispatched}
use Rattle.vg_core.specs.declared.types.CoreType.{CoreType}
use Rattle.vg_core.specs.declared.types.CoreType.TheVariants.{IntType, BoolType, CharType, RawType, NullType, ClassType, ArrayType, FunctionType, NoType}
use Rattle.vg_core.specs.declared.types.CoreType.TheVariants.{MoreTypes}
use Rattle.vg_core.specs.declared.value.CoreValue.{CoreValue}
use Rattle.vg_core.specs.declared.value.CoreValue.TheVariants.{Int, Bool as Truth, Char, Raw, Null, Obj, Arr, Bound}
use Rattle.vg_core.specs.declared.heap.Heap.{Heap}
use Rattle.vg_core.specs.declared.operator.Operator.{Operator}
use Rattle.vg_core.specs.declared.operator.Prefix.{Prefix}
use Rattle.vg_core.specs.declared.program.Field.{Field}
use Rattle.vg_core.specs.declared.program.Method.{Method}
use Rattle.vg_core.specs.declared.program.Owner.{Owner}
use Rattle.vg_core.specs.declared.program.Owner.TheVariants.{InClass, InComponent}
use Rattle.vg_core.specs.declared.program.Target.TheVariants.{Run}
use Rattle.vg_core.specs.declared.step.Step.{Step}
use Rattle.vg_core.specs.declared.step.Step.TheVariants.{Literal, This, Local, ComponentField, Register, ComponentMethod, CastTo}
use Rattle.vg_core.specs.declared.step.Step.TheVariants.{Field as FieldOf, Item, MethodOf, CallMethod, CallValue, CallComponent}
use Rattle.vg_core.specs.declared.step.Step.TheVariants.{SetLocal, SetComponentField, SetRegister, SetField, SetItem}
use Rattle.vg_core.specs.Heap.{OfComponent, OfObject, OfArray, value_at}
use Rattle.vg_core.specs.Operators.{scalar_value, operand_of, scalar_of, byte_of, operator_of, prefix_of}
use Rattle.vg_core.specs.Program.{Program, Signature, signature_of, method_signature}
use Rattle.vg_core.specs.State.{State, is_of, onto}
use Rattle.vg_core.specs.Tables.{is_below, dispatch, field_type, type_in, IsRow}
use Rattle.vg_core.specs.Types.{HasType, SelfOf, ReceiverOf, IsDelegate}
use Rattle.vg_core.specs.Typing.{Sub, Subs, OpTakes, WellFormed, Overrides}
use Rattle.vg_core.specs.Typing.{Takes, t_put, t_literal, t_this, t_local, t_component_field, t_register, t_component_method, t_apply, t_operate, t_cast}
use Rattle.vg_core.specs.Typing.{t_is_below}
use Rattle.vg_core.specs.Typing.{t_field, t_item, t_length, t_method_of, t_call_method, t_call_value, t_call_component, t_new_object, t_new_array, t_set_local}
use Rattle.vg_core.specs.Typing.{t_set_component_field, t_set_register, t_set_field, t_set_item, t_forget, t_super}
use Rattle.vg_core.specs.Meaning as core
use Rattle.vg_sound.proofs.Values.{the_same, fits, beneath, subs_length, onto_length}
use Rattle.vg_sound.proofs.Cells.{is_typed}
use Rattle.vg_firm.specs.declared.step.Home.TheVariants.{Ram}
use Rattle.vg_firm.specs.declared.step.Prefix.{Prefix as FirmPrefix}
use Rattle.vg_firm.specs.declared.step.Prefix.TheVariants.{Negative, Not, Complement, Cut}
use Rattle.vg_firm.specs.declared.step.Step.{Step as FirmStep}
use Rattle.vg_firm.specs.declared.step.Step.TheVariants as steps
use Rattle.vg_firm.specs.Operators.{computed, has_strings, applied, has_string}
use Rattle.vg_firm.specs.Program.{Procedure, Program as FirmProgram}
use Rattle.vg_firm.specs.Session.{is_among}
use Rattle.vg_firm.specs.Meaning as firm
use Rattle.vg_firm.specs.Meaning.{State as FirmState}
use Rattle.vg_coded.specs.Numbers.{scalar_number, coded, known, receiver_number, IsInRange}
use Rattle.vg_coded.specs.Kept.{IsBindable, IsReceiver, IsKept}
use Rattle.vg_coded.specs.Widths.{width_of}
use Rattle.vg_coded.specs.Operators.{bits_of, operator_for, prefix_for, cut_for, cut_by, StandsFor}
use Rattle.vg_coded.proofs.Computing.{prefixes, to_int, to_char, to_bits}
use Rattle.vg_coded.proofs.Fitting.{value_fits}
use Rattle.vg_packing.specs.Layout.{Column, Layout, first_with, spot_in, item_spot}
use Rattle.vg_packing.specs.Pass.{width_in, load, store, load_at, store_at, cut, cast, forgets, move}
use Rattle.vg_packing.specs.Allowed.{IsObject, IsRead, IsWritten, IsDispatched, IsSmall, Allowed}
use Rattle.vg_packing.specs.Packs.{Holds, Receiver, Packs, packs}
use Rattle.vg_packing.specs.Laid.{Laid}
use Rattle.vg_packing.proofs.Lists.{kept_get, kept_set}
use Rattle.vg_packing.proofs.Pieces.{Typed, Any, SameFrom, forget, weak, same_put, same_take, same_computed, same_checked, same_of_width, not_null_of}
use Rattle.vg_packing.proofs.Pieces.{same_object, same_object_of, same_take_typed, same_below}
use Rattle.vg_packing.proofs.Places.{same_get, same_set, same_dropped, same_item, same_length, same_test, same_cast, field_within, column_there}
use Rattle.vg_packing.proofs.References.{value_of, IsOperand, operand_is, operands}
use Rattle.vg_packing.proofs.Signatures.{params_are, same_params}

-- ---- numbers

turned : (a b : ℕ) → a + 65536 * b ≡ b * 65536 + a
turned a b = omega arith

low : (a b : ℕ) → a < 65536 → (a + 65536 * b) % 65536 ≡ a
low a b h = ap (λ z. z % 65536) (turned a b) ∙ mod-mul-add b 65536 a h

high : (a b : ℕ) → a < 65536 → (a + 65536 * b) / 65536 ≡ b
high a b h = ap (λ z. z / 65536) (turned a b) ∙ div-mul-add b 65536 a h

pub below : (a b : ℕ) → a < b → nat_lt a b ≡ true
below a b h = grind (arith, h)

pub both : (a b : Bool) → a ≡ true → b ≡ true → (a && b) ≡ true
both true b e f = f
both false b e f = absurd (let clash : false ≡ true = e in cc)

-- ---- scalars that are operands

abbrev IsScalar : CoreValue → Type 0
IsScalar v = (scalar_of v ≡ None) ⊎ ((s : Scalar) × (scalar_of v ≡ Some s) × (v ≡ scalar_value s))

scalar_is : (v : CoreValue) → IsScalar v
scalar_is (Int n) = inr (AnInt n, refl, refl)
scalar_is (Truth n) = inr (ATruth n, refl, refl)
scalar_is (Char n) = inr (AChar n, refl, refl)
scalar_is (Raw j n) = inr (Bits j n, refl, refl)
scalar_is Null = inl refl
scalar_is (Obj j) = inl refl
scalar_is (Arr j) = inl refl
scalar_is (Bound r m) = inl refl

in_range : (l : Layout) (s : Scalar) → IsKept l.numbering (scalar_value s) → IsInRange s
in_range l (AnInt n) h = h
in_range l (ATruth b) h = tt
in_range l (AChar c) h = h
in_range l (Bits j b) h = h

number_is : (l : Layout) (k : Codes) (s : Scalar) → scalar_number s ≡ coded l.numbering k (scalar_value s)
number_is l k (AnInt n) = refl
number_is l k (ATruth b) = refl
number_is l k (AChar c) = refl
number_is l k (Bits j b) = refl

-- a cast to the type itself gives the value, or nothing
as_it_is : (u : CoreType) (v : CoreValue) → (core.as_it_is u v ≡ Some v) ⊎ (core.as_it_is u v ≡ None)
as_it_is BoolType (Truth b) = inl refl
as_it_is (ArrayType t) (Arr j) = inl refl
as_it_is (ArrayType t) Null = inl refl
as_it_is (FunctionType ps r) (Bound receiver m) = inl refl
as_it_is (FunctionType ps r) Null = inl refl
as_it_is _ _ = inr refl

-- ---- delegates

receiver_small : (l : Layout) → ((j : ℕ) → l.numbering.number j < 65536) → (r : Option ℕ) → receiver_number l.numbering r < 65536
receiver_small l h None = omega arith
receiver_small l h (Some j) = h j

coded_receiver : (l : Layout) (k : Codes) (r : Option ℕ) → coded l.numbering k (core.receiver_of r) ≡ receiver_number l.numbering r
coded_receiver l k None = refl
coded_receiver l k (Some j) = refl

kept_receiver : (l : Layout) (r : Option ℕ) → IsReceiver l.numbering r → IsKept l.numbering (core.receiver_of r)
kept_receiver l None h = tt
kept_receiver l (Some j) h = h

-- A procedure may get this receiver.
abbrev pub MayGet : Layout → (m : ℕ) → Option ℕ → Type 0
MayGet l m None = Unit {0}
MayGet l m (Some n) = (l.receives m ≡ true) × (n < 65536)

module _ {K : Type 0} (p : Program) (formed : WellFormed p.tables) (l : Layout) (k : Codes) (f : FirmProgram) (laid : Laid p l k f) where
  -- callers of methods that have procedures do the same, from typed states
  abbrev pub SameCalls : List ℕ → core.Caller K → firm.Caller K → Type 0
  SameCalls cs call call' =
      (o : Owner) (ts us x : List CoreType) (m q : ℕ) (g : Signature) (self : CoreValue) (number : Option ℕ)
      → l.numbering.procedure m ≡ Some q → is_among cs q ≡ true → signature_of p.tables (Run m) ≡ Some g → Subs p.tables us (onto g.params [])
      → IsKept l.numbering self → SelfOf p.tables l.kinds self g.owner → Receiver l k g.owner self number → MayGet l m number
      → SameFrom p l k f o (Typed p l.kinds ts o (us ++ x)) Nowhere (call (Run m) (length us) self) (call' q (length us) number)

  module _ (o : Owner) (L : Signal → State → FirmState → Type 0) where
    abbrev From : (State → Type 0) → Piece State K → Piece FirmState K → Type 0
    From J a b = SameFrom p l k f o J L a b

    -- ---- types of values

    same_of_type : (J : State → Type 0) (t : CoreType) (v : CoreValue) (a : Piece State K) (b : Piece FirmState K)
        → ((h : Heap) (cols : List (List ℕ)) → Holds p.tables l k f h cols → is_of p.tables h.cells t v ≡ true → From J a b)
        → From J (core.of_type p.tables t v a) b
    same_of_type J t v a b h _ _ w i (packs {vs = vs} {ls = ls} {self = self} {h = heap} {number = number} {cols = cols} x y z r q) j =
        same_checked p l k f o J L (is_of p.tables heap.cells t v) a b (h heap cols q) _ _ w i (packs x y z r q) j

    -- ---- operators

    -- what was found, or nothing
    same_found : {A : Type 0} (J : State → Type 0) (found : Option A) (a : A → Piece State K) (b : Piece FirmState K)
        → ((x : A) → found ≡ Some x → From J (a x) b) → From J (core.with_found found a) b
    same_found J None a b h = λ s t w i q j. wrong
    same_found J (Some x) a b h = h x refl

    same_operated : (at : ℕ) (op : Operator) (t u r : CoreType) → OpTakes p.tables op t u r → (x y : CoreValue) → IsKept l.numbering x → IsKept l.numbering y
        → From Any (core.operated p.tables at op t u x y)
        (firm.checked (has_strings (operator_for op t u) (coded l.numbering k x) (coded l.numbering k y))
        (firm.put_computed (computed (operator_for op t u) (coded l.numbering k x) (coded l.numbering k y))))
    same_operated at op t u r takes x y kx ky _ _ w i (packs {vs = vs} {ls = ls} {self = self} {h = heap} {number = number} {cols = cols} a c d e q) j =
        by_u (is_of p.tables heap.cells u y) refl
      where
        before : State
        before = record { values = vs; locals = ls; self = self; heap = heap }

        behind : FirmState
        behind = record { values = map (coded l.numbering k) vs; locals = map (coded l.numbering k) ls; self = number; columns = cols }

        number_made : Piece FirmState K
        number_made =
            firm.checked (has_strings (operator_for op t u) (coded l.numbering k x) (coded l.numbering k y))
            (firm.put_computed (computed (operator_for op t u) (coded l.numbering k x) (coded l.numbering k y)))

        made : Piece State K
        made = core.with_found (operand_of x) (λ b. core.with_found (operand_of y) (λ b'. core.computed at (binary (operator_of op) b b')))

        stand : (b b' : Operand) → x ≡ value_of b → y ≡ value_of b' → is_of p.tables heap.cells t x ≡ true → is_of p.tables heap.cells u y ≡ true
            → StandsFor (has_strings (operator_for op t u) (coded l.numbering k x) (coded l.numbering k y))
            (computed (operator_for op t u) (coded l.numbering k x) (coded l.numbering k y)) (binary (operator_of op) b b')
        stand b b' xb yb et eu =
            subst (λ z. StandsFor (has_strings (operator_for op t u) (coded l.numbering k z) (coded l.numbering k y))
            (computed (operator_for op t u) (coded l.numbering k z) (coded l.numbering k y)) (binary (operator_of op) b b')) (sym xb)
            (subst (λ z. StandsFor (has_strings (operator_for op t u) (coded l.numbering k (value_of b)) (coded l.numbering k z))
            (computed (operator_for op t u) (coded l.numbering k (value_of b)) (coded l.numbering k z)) (binary (operator_of op) b b')) (sym yb)
            (operands p formed l k f laid heap cols q op t u r takes b b' (subst (λ z. is_of p.tables heap.cells t z ≡ true) xb et)
            (subst (λ z. is_of p.tables heap.cells u z ≡ true) yb eu) (subst (IsKept l.numbering) xb kx) (subst (IsKept l.numbering) yb ky)))

        go : IsOperand x → IsOperand y → is_of p.tables heap.cells t x ≡ true → is_of p.tables heap.cells u y ≡ true
            → Alike (Packs p.tables l k f o) L (made before w) (number_made behind w)
        go (inl z) v et eu =
            subst (λ b. Alike (Packs p.tables l k f o) L
            (core.with_found b (λ b. core.with_found (operand_of y) (λ b'. core.computed at (binary (operator_of op) b b'))) before w)
            (number_made behind w)) (sym z) wrong
        go (inr (b, eb, xb)) (inl z) et eu =
            subst (λ b. Alike (Packs p.tables l k f o) L
            (core.with_found b (λ b. core.with_found (operand_of y) (λ b'. core.computed at (binary (operator_of op) b b'))) before w)
            (number_made behind w)) (sym eb)
            (subst (λ b'. Alike (Packs p.tables l k f o) L (core.with_found b' (λ b'. core.computed at (binary (operator_of op) b b')) before w)
            (number_made behind w)) (sym z) wrong)
        go (inr (b, eb, xb)) (inr (b', eb', yb)) et eu =
            subst (λ b. Alike (Packs p.tables l k f o) L
            (core.with_found b (λ b. core.with_found (operand_of y) (λ b'. core.computed at (binary (operator_of op) b b'))) before w)
            (number_made behind w)) (sym eb)
            (subst (λ b'. Alike (Packs p.tables l k f o) L (core.with_found b' (λ b'. core.computed at (binary (operator_of op) b b')) before w)
            (number_made behind w)) (sym eb')
            (same_computed p l k f o Any L at _ _ _ (stand b b' xb yb et eu) _ _ w i (packs a c d e q) tt))

        by_t : (z : Bool) → is_of p.tables heap.cells t x ≡ z → is_of p.tables heap.cells u y ≡ true
            → Alike (Packs p.tables l k f o) L (core.checked z made before w) (number_made behind w)
        by_t false et eu = wrong
        by_t true et eu = go (operand_is x) (operand_is y) et eu

        by_u : (z : Bool) → is_of p.tables heap.cells u y ≡ z
            → Alike (Packs p.tables l k f o) L (core.checked z (core.of_type p.tables t x made) before w) (number_made behind w)
        by_u false eu = wrong
        by_u true eu = by_t (is_of p.tables heap.cells t x) refl eu

    same_applied : (op : Prefix) (t : CoreType) (x : CoreValue) → IsKept l.numbering x
        → From Any (core.applied p.tables op t x)
        (firm.checked (has_string (prefix_for op t) (coded l.numbering k x)) (firm.put (applied (prefix_for op t) (coded l.numbering k x))))
    same_applied op t x kx =
        same_of_type Any t x _ _ (λ h cols q et. go h et (scalar_is x))
      where
        go : (h : Heap) → is_of p.tables h.cells t x ≡ true → IsScalar x
            → From Any (core.with_found (scalar_of x) (λ a. core.computed 0 (prefixed (prefix_of op) a)))
            (firm.checked (has_string (prefix_for op t) (coded l.numbering k x)) (firm.put (applied (prefix_for op t) (coded l.numbering k x))))
        go h et (inl z) =
            subst (λ b. From Any (core.with_found b (λ a. core.computed 0 (prefixed (prefix_of op) a)))
            (firm.checked (has_string (prefix_for op t) (coded l.numbering k x)) (firm.put (applied (prefix_for op t) (coded l.numbering k x))))) (sym z)
            (λ s u w i q j. wrong)
        go h et (inr (a, ea, xa)) =
            subst (λ b. From Any (core.with_found b (λ a. core.computed 0 (prefixed (prefix_of op) a)))
            (firm.checked (has_string (prefix_for op t) (coded l.numbering k x)) (firm.put (applied (prefix_for op t) (coded l.numbering k x))))) (sym ea)
            (subst (λ n. From Any (core.computed 0 (prefixed (prefix_of op) a))
            (firm.checked (has_string (prefix_for op t) n) (firm.put (applied (prefix_for op t) n))))
            (number_is l k a ∙ ap (coded l.numbering k) (sym xa))
            (same_computed p l k f o Any L 0 (has_string (prefix_for op t) (scalar_number a)) (Some (applied (prefix_for op t) (scalar_number a))) _
            (prefixes p.tables h.cells op t a (subst (λ z. is_of p.tables h.cells t z ≡ true) xa et) (in_range l a (subst (IsKept l.numbering) xa kx)))))

    -- ---- casts

    -- a cast among numbers, whether it cuts or does nothing
    same_recast : (at : ℕ) (t : CoreType) (format : Format) (cuts : Option FirmPrefix)
        → ((h : Heap) (x : Scalar) → is_of p.tables h.cells t (scalar_value x) ≡ true → IsInRange x
        → StandsFor true (Some (cut_by cuts (scalar_number x))) (recast format x))
        → (x : CoreValue) → IsKept l.numbering x
        → From Any (core.of_type p.tables t x (core.recasted at format x)) (firm.put (cut_by cuts (coded l.numbering k x)))
    same_recast at t format cuts law x kx =
        same_of_type Any t x _ _ (λ h cols q et. go h et (scalar_is x))
      where
        go : (h : Heap) → is_of p.tables h.cells t x ≡ true → IsScalar x
            → From Any (core.with_found (scalar_of x) (λ a. core.computed at (recast format a))) (firm.put (cut_by cuts (coded l.numbering k x)))
        go h et (inl z) =
            subst (λ b. From Any (core.with_found b (λ a. core.computed at (recast format a))) (firm.put (cut_by cuts (coded l.numbering k x)))) (sym z)
            (λ s u w i q j. wrong)
        go h et (inr (a, ea, xa)) =
            subst (λ b. From Any (core.with_found b (λ a. core.computed at (recast format a))) (firm.put (cut_by cuts (coded l.numbering k x)))) (sym ea)
            (subst (λ n. From Any (core.computed at (recast format a)) (firm.put (cut_by cuts n))) (number_is l k a ∙ ap (coded l.numbering k) (sym xa))
            (same_computed p l k f o Any L at true (Some (cut_by cuts (scalar_number a))) _
            (law h a (subst (λ z. is_of p.tables h.cells t z ≡ true) xa et) (in_range l a (subst (IsKept l.numbering) xa kx)))))

    -- what takes a value and gives it is nothing
    same_nothing : (a : CoreValue → Piece State K)
        → ((v : CoreValue) → IsKept l.numbering v → From Any (a v) (firm.put (coded l.numbering k v))) → From Any (core.taking a) go_on
    same_nothing a h _ _ w i (packs {vs = []} x y z r q) j = wrong
    same_nothing a h _ _ w i (packs {vs = v ∷ vs} (x, xs) y z r q) j = h v x _ _ w i (packs xs y z r q) tt

    same_itself : (t u : CoreType) (v : CoreValue) → IsKept l.numbering v
        → From Any (core.of_type p.tables t v (core.put_found (core.as_it_is u v))) (firm.put (coded l.numbering k v))
    same_itself t u v kept = same_of_type Any t v _ _ (λ h cols q et. go (as_it_is u v))
      where
        go : (core.as_it_is u v ≡ Some v) ⊎ (core.as_it_is u v ≡ None) → From Any (core.put_found (core.as_it_is u v)) (firm.put (coded l.numbering k v))
        go (inl e) = subst (λ z. From Any (core.put_found z) (firm.put (coded l.numbering k v))) (sym e) (same_put p l k f o Any L v kept)
        go (inr e) = subst (λ z. From Any (core.put_found z) (firm.put (coded l.numbering k v))) (sym e) (λ s w1 w i q j. wrong)

    -- ---- dispatch and delegates

    -- the method that an object has, and what is done with its procedure
    same_dispatch : (J : State → Type 0) (at c s : ℕ) (a : ℕ → ℕ → Piece State K) (b : ℕ → ℕ → Piece FirmState K) (P : ℕ → ℕ → Type 0)
        → IsDispatched p.tables l f P c s
        → ((j d m q : ℕ) → IsObject l j d → is_below p.tables d c ≡ true → dispatch p.tables d s ≡ Some m → l.numbering.procedure m ≡ Some q → P m q
        → From J (a j m) (b (l.numbering.number j) q))
        → (v : CoreValue) → IsKept l.numbering v
        → From J (core.with_object_of p.tables at c (λ j d. core.with_found (dispatch p.tables d s) (a j)) v)
        (firm.not_null (λ n. firm.with_found (dispatched f.dispatches (l.dispatch c s) n) (b n)) (coded l.numbering k v))
    same_dispatch J at c s a b P dis h =
        same_object_of p l k f o J L at c _ (λ n. firm.with_found (dispatched f.dispatches (l.dispatch c s) n) (b n))
        (λ j d is z. by j d is z (dispatch p.tables d s) refl)
      where
        by : (j d : ℕ) → IsObject l j d → is_below p.tables d c ≡ true → (x : Option ℕ) → dispatch p.tables d s ≡ x
            → From J (core.with_found x (a j))
            (firm.with_found (dispatched f.dispatches (l.dispatch c s) (l.numbering.number j)) (b (l.numbering.number j)))
        by j d is z None e = λ s1 t w i q j1. wrong
        by j d is z (Some m) e =
            let r = dis j d m is z e in
            subst (λ x. From J (a j m) (firm.with_found x (b (l.numbering.number j)))) (sym r.2) (h j d m r.0 is z e r.1 r.3)

    -- a delegate that is made
    same_bound : (J : State → Type 0) (r : Option ℕ) (m q : ℕ) → l.numbering.procedure m ≡ Some q → l.numbering.bindable m ≡ true → IsReceiver l.numbering r
        → From J (core.put (Bound r m)) (firm.put_delegate k f q (receiver_number l.numbering r))
    same_bound J r m q e bi kept =
        subst (λ z. From J (core.put (Bound r m)) (firm.checked z (firm.put (delegate k q (receiver_number l.numbering r)))))
        (sym (both _ _ (below q (length f.procedures) (laid.procedures m q e))
        (below (receiver_number l.numbering r) 65536 (receiver_small l laid.small.cells r))))
        (subst (λ z. From J (core.put (Bound r m)) (firm.put (delegate k z (receiver_number l.numbering r)))) (ap known e)
        (same_put p l k f o J L (Bound r m) ((q, e, bi), kept)))

    -- a delegate that is called
    same_delegate : (J : State → Type 0) (a : Piece State K) (b : ℕ → Option ℕ → Piece FirmState K) (r : Option ℕ) (m q : ℕ)
        → l.numbering.procedure m ≡ Some q → From J a (b q (Some (receiver_number l.numbering r)))
        → From J a (firm.not_null (λ v. firm.with_found (k.at_code (code_in v)) (λ z. b z (Some (receiver_in v)))) (coded l.numbering k (Bound r m)))
    same_delegate J a b r m q e h =
        let c = laid.small.codes m q e in
        subst (λ z. From J a (firm.not_null go (delegate k z (receiver_number l.numbering r)))) (sym (ap known e))
        (subst (From J a) (sym (not_null_of p l k f o J L go (delegate k q (receiver_number l.numbering r))
        (positive (k.code q) (receiver_number l.numbering r) c.1)))
        (subst (λ n. From J a (firm.with_found (k.at_code n) (λ z. b z (Some (delegate k q (receiver_number l.numbering r) / 65536)))))
        (sym (low (k.code q) (receiver_number l.numbering r) c.2))
        (subst (λ n. From J a (firm.with_found n (λ z. b z (Some (delegate k q (receiver_number l.numbering r) / 65536))))) (sym c.0)
        (subst (λ n. From J a (b q (Some n))) (sym (high (k.code q) (receiver_number l.numbering r) c.2)) h))))
      where
        go : ℕ → Piece FirmState K
        go v = firm.with_found (k.at_code (code_in v)) (λ z. b z (Some (receiver_in v)))

        positive : (x y : ℕ) → 0 < x → 0 < x + 65536 * y
        positive x y pos1 = omega (arith, pos1)

  -- ---- steps

  module _ (L : Signal → State → FirmState → Type 0) (r : Recorder K) (cs : List ℕ) (o : Owner) (ts : List CoreType) (m : Procedure)
      (wide : m.widths ≡ map width_of ts) (call : core.Caller K) (call' : firm.Caller K) (handle : ℕ → Piece FirmState K)
      (calls : SameCalls cs call call') where
    -- From typed states the step and what stands for it do the same.
    abbrev Stands : List CoreType → Step → FirmStep → Type 0
    Stands x s t = SameFrom p l k f o (Typed p l.kinds ts o x) L (core.step p.tables call s) (firm.step k f m call' handle t)

    abbrev AnyFrom : Piece State K → Piece FirmState K → Type 0
    AnyFrom a b = SameFrom p l k f o Any L a b

    step_this : (x : List CoreType) (c : ℕ) → o ≡ InClass c → Stands x This steps.This
    step_this x c e _ _ w i (packs {vs = vs} {ls = ls} {self = self} {h = heap} {number = number} {cols = cols} y z kept rec q) j =
        subst (λ n. Alike (Packs p.tables l k f o) L (core.put self (record { values = vs; locals = ls; self = self; heap = heap }) w)
        (firm.with_found n firm.put (record { values = map (coded l.numbering k) vs; locals = map (coded l.numbering k) ls; self = number; columns = cols }) w))
        (sym is) (gives i (packs (kept, y) z kept rec q))
      where
        is : number ≡ Some (coded l.numbering k self)
        is = subst (λ z. Receiver l k z self number) e rec

    step_local : (x : List CoreType) (a : ℕ) → Stands x (Local a) (steps.Local a)
    step_local x a _ _ w i (packs {vs = vs} {ls = ls} {self = self} {h = heap} {number = number} {cols = cols} y z kept rec q) j =
        subst (λ n. Alike (Packs p.tables l k f o) L (core.put_found (slice_get ls a) before w) (firm.with_found n firm.put behind w))
        (sym (slice_get-map (coded l.numbering k) ls a)) (by (slice_get ls a) refl)
      where
        before : State
        before = record { values = vs; locals = ls; self = self; heap = heap }

        behind : FirmState
        behind = record { values = map (coded l.numbering k) vs; locals = map (coded l.numbering k) ls; self = number; columns = cols }

        by : (n : Option CoreValue) → slice_get ls a ≡ n
            → Alike (Packs p.tables l k f o) L (core.put_found n before w) (firm.with_found (option_map (coded l.numbering k) n) firm.put behind w)
        by None e = wrong
        by (Some v) e = same_put p l k f o Any L v (kept_get l ls a v z e) before behind w i (packs y z kept rec q) tt

    set_local : (a : ℕ) (v : CoreValue) → IsKept l.numbering v
        → AnyFrom (λ s w. Gives (record s { locals = slice_set s.locals a v }) w) (firm.set_local a (coded l.numbering k v))
    set_local a v kept _ _ w i (packs {vs = vs} {ls = ls} {self = self} {h = heap} {number = number} {cols = cols} y z ks rec q) j =
        subst (λ n. Alike (Packs p.tables l k f o) L (Gives (record { values = vs; locals = slice_set ls a v; self = self; heap = heap }) w)
        (Gives (record { values = map (coded l.numbering k) vs; locals = n; self = number; columns = cols }) w))
        (map-set (coded l.numbering k) ls a v) (gives i (packs y (kept_set l ls a v z kept) ks rec q))

    step_set_local : (x : List CoreType) (a : ℕ) (t : CoreType) → slice_get ts a ≡ Some t → Stands x (SetLocal a t) (steps.SetLocal a)
    step_set_local x a t e =
        same_take p l k f o (Typed p l.kinds ts o x) L _ _ (λ v kept.
        same_of_type o L Any t v _ _ (λ h cols q is.
        subst (λ n. AnyFrom (found v) (firm.with_found n (λ width. firm.of_width width (firm.set_local a) (coded l.numbering k v)))) (sym width_is)
        (same_of_width p l k f o Any L (width_of t) (coded l.numbering k v) (found v) (firm.set_local a)
        (value_fits l.numbering k laid.small p.tables h.cells t v is kept) (there v kept))))
      where
        found : CoreValue → Piece State K
        found v s = core.with_found (slice_get s.locals a) (λ old s1 w1. Gives (record s1 { locals = slice_set s1.locals a v }) w1) s

        width_is : slice_get m.widths a ≡ Some (width_of t)
        width_is = ap (λ z. slice_get z a) wide ∙ (slice_get-map width_of ts a ∙ ap (option_map width_of) e)

        there : (v : CoreValue) → IsKept l.numbering v → AnyFrom (found v) (firm.set_local a (coded l.numbering k v))
        there v kept s t1 w i q j = by (slice_get s.locals a)
          where
            by : (n : Option CoreValue)
                → Alike (Packs p.tables l k f o) L (core.with_found n (λ old s1 w1. Gives (record s1 { locals = slice_set s1.locals a v }) w1) s w)
                (firm.set_local a (coded l.numbering k v) t1 w)
            by None = wrong
            by (Some old) = set_local a v kept s t1 w i q j

    -- ---- fields

    step_component_field : (x : List CoreType) (g : ℕ) → (c : Column) × (l.column g ≡ Some c) → Stands x (ComponentField g) (load (l.column g))
    step_component_field x g (c, e) =
        subst (λ z. Stands x (ComponentField g) (load z)) (sym e)
        (forget p l k f o (Typed p l.kinds ts o x) L _ _
        (same_get p formed l k f laid o Any L (OfComponent g) (record { home = c.home; column = c.column; index = 0 }) true tt (ap (λ z. spot_in z 0) e)
        (λ h v shaped is. refl)))

    width_fits : (t : Option CoreType) (v : CoreValue) (n : ℕ) (a : Piece State K) (b : ℕ → Piece FirmState K) → IsKept l.numbering v
        → AnyFrom (λ s. core.with_found t (λ u. core.of_type p.tables u v a) s) (b (coded l.numbering k v))
        → AnyFrom (λ s. core.with_found t (λ u. core.of_type p.tables u v a) s) (firm.of_width (width_in l t) b (coded l.numbering k v))
    width_fits None v n a b kept h _ _ w i q j = wrong
    width_fits (Some t) v n a b kept h _ _ w i (packs {vs = vs} {ls = ls} {self = self} {h = heap} {number = number} {cols = cols} y z ks rec q) j =
        by (is_of p.tables heap.cells t v) refl (h _ _ w i (packs y z ks rec q) j)
      where
        before : State
        before = record { values = vs; locals = ls; self = self; heap = heap }

        behind : FirmState
        behind = record { values = map (coded l.numbering k) vs; locals = map (coded l.numbering k) ls; self = number; columns = cols }

        by : (ty : Bool) → is_of p.tables heap.cells t v ≡ ty
            → Alike (Packs p.tables l k f o) L (core.checked ty a before w) (b (coded l.numbering k v) behind w)
            → Alike (Packs p.tables l k f o) L (core.checked ty a before w) (firm.of_width (l.width t) b (coded l.numbering k v) behind w)
        by false e g = wrong
        by true e g =
            subst (λ ok. Alike (Packs p.tables l k f o) L (a before w) (firm.checked ok (b (coded l.numbering k v)) behind w))
            (sym (laid.widths heap.cells t v e kept)) g

    step_set_component_field : (x : List CoreType) (g : ℕ) (c : Option Column) → l.column g ≡ c → IsWritten c
        → Stands x (SetComponentField g) (store c (width_in l (field_type p.tables g)))
    step_set_component_field x g None e a =
        same_take p l k f o (Typed p l.kinds ts o x) L _ _
        (λ v kept. same_dropped p formed l k f laid o Any L (field_type p.tables g) (OfComponent g) v (ap (λ z. spot_in z 0) e))
    step_set_component_field x g (Some c) e a =
        same_take p l k f o (Typed p l.kinds ts o x) L _ _
        (λ v kept. width_fits (field_type p.tables g) v 0 _ (firm.store c.column 0) kept
        (same_set p formed l k f laid o Any L (field_type p.tables g) (OfComponent g) (record { home = c.home; column = c.column; index = 0 }) v true tt
        (ap (λ z. spot_in z 0) e) a kept (λ h u shaped is. refl)))

    field_spot : (j g : ℕ) (c : Column) → l.column g ≡ Some c
        → spot_in (l.column g) (l.numbering.number j - first_with p.tables l g)
        ≡ Some (record { home = c.home; column = c.column; index = l.numbering.number j - first_with p.tables l g })
    field_spot j g c e = ap (λ y. spot_in y (l.numbering.number j - first_with p.tables l g)) e

    step_field : (x : List CoreType) (at g : ℕ) (c : Option Column) → l.column g ≡ c → IsRead p.tables l g
        → Stands x (FieldOf at g) (load_at c (first_with p.tables l g))
    step_field x at g None e a =
        same_take p l k f o (Typed p l.kinds ts o x) L _ _ (same_object p l k f o Any L at (λ j. core.get_place p.tables (OfObject j g))
        (λ n. firm.put 0) nowhere)
      where
        nowhere : (j : ℕ) → 0 < l.numbering.number j → AnyFrom (core.get_place p.tables (OfObject j g)) (firm.put 0)
        nowhere j kept _ _ w i (packs {vs = vs} {ls = ls} {self = self} {h = heap} {number = number} {cols = cols} y z ks rec q) j1 =
            by (value_at p.tables heap (OfObject j g)) refl
          where
            by : (v : Option CoreValue) → value_at p.tables heap (OfObject j g) ≡ v
                → Alike (Packs p.tables l k f o) L (core.put_found v (record { values = vs; locals = ls; self = self; heap = heap }) w)
                (firm.put 0 (record { values = map (coded l.numbering k) vs; locals = map (coded l.numbering k) ls; self = number; columns = cols }) w)
            by None is = wrong
            by (Some v) is = absurd (none-some _ (sym e ∙ (column_there p formed l k f laid heap j g v q.shaped kept is a).1))
    step_field x at g (Some c) e a =
        same_take p l k f o (Typed p l.kinds ts o x) L _ _
        (same_object p l k f o Any L at (λ j. core.get_place p.tables (OfObject j g))
        (λ n. firm.checked (nat_le (first_with p.tables l g) n) (firm.load f c.home c.column (n - first_with p.tables l g)))
        (λ j kept. same_get p formed l k f laid o Any L (OfObject j g)
        (record { home = c.home; column = c.column; index = l.numbering.number j - first_with p.tables l g })
        (nat_le (first_with p.tables l g) (l.numbering.number j)) kept (field_spot j g c e)
        (λ h v shaped is. field_within p formed l k f laid h j g v shaped kept is)))

    step_set_field : (x : List CoreType) (at g d e : ℕ) (u : CoreType) (y : Field) → slice_get p.tables.fields g ≡ Some y → Sub p.tables u y.type_
        → (c : Option Column) → l.column g ≡ c → IsWritten c
        → Stands (u ∷ ClassType d ∷ x) (SetField at g) (store_at c (first_with p.tables l g) (width_in l (field_type p.tables g)))
    step_set_field x at g d e u y ey sub None ec a =
        same_take p l k f o (Typed p l.kinds ts o (u ∷ ClassType d ∷ x)) L _ _ (λ v kept. same_take p l k f o Any L _ _
        (same_object p l k f o Any L at (λ j. core.set_place p.tables (field_type p.tables g) (OfObject j g) v) (λ n. go_on)
        (λ j pos1. same_dropped p formed l k f laid o Any L (field_type p.tables g) (OfObject j g) v
        (ap (λ z. spot_in z (l.numbering.number j - first_with p.tables l g)) ec))))
    step_set_field x at g d e u y ey sub (Some c) ec a =
        same_take_typed p l k f o ts u (ClassType d ∷ x) L _ _ (λ v kept typed s t w i q j.
        same_of_width p l k f o Any L (width_in l (field_type p.tables g)) (coded l.numbering k v) _
        (λ n. firm.taking (firm.at_object (first_with p.tables l g) (λ i1. firm.store c.column i1 n)))
        (subst (λ z. firm.fits (width_in l z) (coded l.numbering k v) ≡ true) (sym (ap type_in ey))
        (laid.widths s.heap.cells y.type_ v
        (is_typed p.tables l.kinds s.heap.cells v y.type_ j.heap.cells (fits p.tables formed l.kinds u y.type_ sub v typed)) kept))
        (same_take p l k f o Any L _ _ (same_object p l k f o Any L at (λ j1. core.set_place p.tables (field_type p.tables g) (OfObject j1 g) v)
        (λ n. firm.checked (nat_le (first_with p.tables l g) n) (firm.store c.column (n - first_with p.tables l g) (coded l.numbering k v)))
        (λ j1 pos1. same_set p formed l k f laid o Any L (field_type p.tables g) (OfObject j1 g)
        (record { home = c.home; column = c.column; index = l.numbering.number j1 - first_with p.tables l g }) v
        (nat_le (first_with p.tables l g) (l.numbering.number j1)) pos1 (field_spot j1 g c ec) a kept
        (λ h v1 shaped is. field_within p formed l k f laid h j1 g v1 shaped pos1 is)))) s t w i q tt)

    -- ---- elements

    step_item : (x : List CoreType) (at t : ℕ) → Stands x (Item at t) (steps.LoadItem (l.items t))
    step_item x at t =
        same_take p l k f o (Typed p l.kinds ts o x) L _ _ (λ i ki. same_take p l k f o Any L _ _ (λ a ka.
        same_item p formed l k f laid o Any L at t (core.get_place p.tables) (firm.load f (l.items t).home (l.items t).column)
        (λ j n size is. same_get p formed l k f laid o Any L (OfArray j n)
        (record { home = (l.items t).home; column = (l.items t).column; index = l.start j + n }) true is.1 (ap (item_spot l (l.start j + n)) is.0)
        (λ h v shaped there. refl)) i a ki ka))

    step_set_item : (x : List CoreType) (at t : ℕ) (e u : CoreType) → slice_get p.tables.types t ≡ Some e → Sub p.tables u e → (l.items t).home ≡ Ram
        → Stands (u ∷ IntType ∷ ArrayType t ∷ x) (SetItem at t) (steps.StoreItem (l.items t))
    step_set_item x at t e u et sub ram =
        same_take_typed p l k f o ts u (IntType ∷ ArrayType t ∷ x) L _ _ (λ v kept typed s t1 w i q j.
        same_of_width p l k f o Any L (l.items t).width (coded l.numbering k v) _
        (λ n. firm.taking (λ i1. firm.taking (firm.at_item f (l.items t) (λ j1. firm.store (l.items t).column j1 n) i1)))
        (subst (λ z. firm.fits z (coded l.numbering k v) ≡ true) (sym (laid.items t e et))
        (laid.widths s.heap.cells e v (is_typed p.tables l.kinds s.heap.cells v e j.heap.cells (fits p.tables formed l.kinds u e sub v typed)) kept))
        (same_take p l k f o Any L _ _ (λ i1 ki. same_take p l k f o Any L _ _ (λ a ka.
        same_item p formed l k f laid o Any L at t (λ x1. core.set_place p.tables (slice_get p.tables.types t) x1 v)
        (λ j1. firm.store (l.items t).column j1 (coded l.numbering k v))
        (λ j1 n size is. same_set p formed l k f laid o Any L (slice_get p.tables.types t) (OfArray j1 n)
        (record { home = (l.items t).home; column = (l.items t).column; index = l.start j1 + n }) v true is.1 (ap (item_spot l (l.start j1 + n)) is.0) ram kept
        (λ h u1 shaped there. refl)) i1 a ki ka))) s t1 w i q tt)

    -- ---- device registers

    step_register : (x : List CoreType) (a : ℕ) → Stands x (Register a) (steps.ReadDevice a)
    step_register x a s t w i q j =
        alike_read a _ _ (λ v small s1 t1 w1 i1 q1. same_put p l k f o Any L (Raw 8 v) (omega arith, small) s1 t1 w1 i1 q1 tt) s t w i q

    step_set_register : (x : List CoreType) (a : ℕ) → Stands x (SetRegister a) (steps.WriteDevice a)
    step_set_register x a = same_take p l k f o (Typed p l.kinds ts o x) L _ _ by
      where
        written : (n : ℕ) → AnyFrom (write_device a n) (write_device a n)
        written n s t w i q j = alike_write a n s t w i q

        raw : (b : Bool) (j n : ℕ) → (j == 8) ≡ b → n < 2 ^ j
            → AnyFrom (core.with_found (if b then Some n else None) (write_device a)) (firm.of_width 1 (write_device a) n)
        raw true j n e h =
            same_of_width p l k f o Any L 1 n _ (write_device a)
            (below n 256 (subst (λ z. n < 2 ^ z) ((unsigned_Decides j 8).0 e) h)) (written n)
        raw false j n e h = λ s t w i q j1. wrong

        by : (v : CoreValue) → IsKept l.numbering v → AnyFrom (core.with_found (byte_of v) (write_device a))
            (firm.of_width 1 (write_device a) (coded l.numbering k v))
        by (Raw j n) kept = raw (j == 8) j n refl kept.1
        by (Int n) kept = λ s t w i q j1. wrong
        by (Truth n) kept = λ s t w i q j1. wrong
        by (Char n) kept = λ s t w i q j1. wrong
        by Null kept = λ s t w i q j1. wrong
        by (Obj n) kept = λ s t w i q j1. wrong
        by (Arr n) kept = λ s t w i q j1. wrong
        by (Bound n n1) kept = λ s t w i q j1. wrong

    -- ---- casts

    abbrev StandsFor' : List CoreType → Step → Code FirmStep → Type 0
    StandsFor' x s c =
        SameFrom p l k f o (Typed p l.kinds ts o x) L (core.step p.tables call s) (performed r (firm.step k f m call' handle) firm.truth c)

    -- A cast among numbers cuts, or does nothing.
    abbrev IsCut : Option FirmPrefix → Type 0
    IsCut None = Unit {0}
    IsCut (Some (Cut n)) = Unit {0}
    IsCut _ = ⊥

    cut_is_cut : (t u : CoreType) → IsCut (cut_for t u)
    cut_is_cut t u = by (nat_lt (bits_of u) (bits_of t))
      where
        by : (b : Bool) → IsCut (if b then Some (Cut (bits_of u)) else None)
        by true = tt
        by false = tt

    step_cut : (at : ℕ) (t : CoreType) (format : Format) (c : Option FirmPrefix) → IsCut c
        → ((h : Heap) (s : Scalar) → is_of p.tables h.cells t (scalar_value s) ≡ true → IsInRange s
        → StandsFor true (Some (cut_by c (scalar_number s))) (recast format s))
        → AnyFrom (core.taking (λ v. core.of_type p.tables t v (core.recasted at format v))) (performed r (firm.step k f m call' handle) firm.truth (cut c))
    step_cut at t format None is law = same_nothing o L _ (λ v kept. same_recast o L at t format None law v kept)
    step_cut at t format (Some (Cut n)) is law =
        same_take p l k f o Any L _ (λ v. firm.checked true (firm.put (applied (Cut n) v))) (λ v kept. same_recast o L at t format (Some (Cut n)) law v kept)
    step_cut at t format (Some Negative) is law = absurd is
    step_cut at t format (Some Not) is law = absurd is
    step_cut at t format (Some (Complement n)) is law = absurd is

    step_cast : (x : List CoreType) (at : ℕ) (t u : CoreType) → IsSmall u → StandsFor' x (CastTo at t u) (cast l t u)
    step_cast x at t IntType small =
        forget p l k f o (Typed p l.kinds ts o x) L _ _
        (step_cut at t ToInt (cut_for t IntType) (cut_is_cut t IntType) (λ h s e q. to_int p.tables h.cells t s e q))
    step_cast x at t CharType small =
        forget p l k f o (Typed p l.kinds ts o x) L _ _
        (step_cut at t ToChar (cut_for t CharType) (cut_is_cut t CharType) (λ h s e q. to_char p.tables h.cells t s e q))
    step_cast x at t (RawType j) small =
        forget p l k f o (Typed p l.kinds ts o x) L _ _
        (step_cut at t (ToBits j) (cut_for t (RawType j)) (cut_is_cut t (RawType j)) (λ h s e q. to_bits p.tables h.cells t j s small e q))
    step_cast x at t (ClassType c) small =
        same_take p l k f o (Typed p l.kinds ts o x) L _ _ (λ v kept. same_of_type o L Any t v _ _ (λ h cols q e.
        same_cast p formed l k f laid o Any L at c v kept))
    step_cast x at t BoolType small = forget p l k f o (Typed p l.kinds ts o x) L _ _ (same_nothing o L _ (λ v kept. same_itself o L t BoolType v kept))
    step_cast x at t NullType small = forget p l k f o (Typed p l.kinds ts o x) L _ _ (same_nothing o L _ (λ v kept. same_itself o L t NullType v kept))
    step_cast x at t (ArrayType a) small =
        forget p l k f o (Typed p l.kinds ts o x) L _ _ (same_nothing o L _ (λ v kept. same_itself o L t (ArrayType a) v kept))
    step_cast x at t (FunctionType a b) small =
        forget p l k f o (Typed p l.kinds ts o x) L _ _ (same_nothing o L _ (λ v kept. same_itself o L t (FunctionType a b) v kept))
    step_cast x at t NoType small = forget p l k f o (Typed p l.kinds ts o x) L _ _ (same_nothing o L _ (λ v kept. same_itself o L t NoType v kept))
    step_cast x at t (MoreTypes a b) small =
        forget p l k f o (Typed p l.kinds ts o x) L _ _ (same_nothing o L _ (λ v kept. same_itself o L t (MoreTypes a b) v kept))

    -- ---- calls

    -- the state without the value below the arguments
    without : (us : List CoreType) (t : CoreType) (x : List CoreType) (s : State) → Typed p l.kinds ts o (us ++ t ∷ x) s
        → Typed p l.kinds ts o (us ++ x) (record s { values = take (length us) s.values ++ drop (length us + 1) s.values })
    without us t x s j = record {
      heap = j.heap;
      values = (beneath p.tables l.kinds us t x s.values j.values).3;
      locals = j.locals;
      self = j.self;
    }

    -- that value is of its type
    typed_below : (us : List CoreType) (t : CoreType) (x : List CoreType) (s : State) (v : CoreValue) → Typed p l.kinds ts o (us ++ t ∷ x) s
        → slice_get s.values (length us) ≡ Some v → HasType p.tables l.kinds v t
    typed_below us t x s v j e =
        let b = beneath p.tables l.kinds us t x s.values j.values in
        subst (λ z. HasType p.tables l.kinds z t) (the_same _ _ (sym b.1 ∙ e)) b.2

    called_method : (us x : List CoreType) (d s mm : ℕ) (y : Method) → dispatch p.tables d s ≡ Some mm → slice_get p.tables.methods mm ≡ Some y
        → Subs p.tables us (onto y.params [])
        → (j c n q : ℕ) → IsObject l j c → is_below p.tables c d ≡ true → dispatch p.tables c s ≡ Some n → l.numbering.procedure n ≡ Some q
        → (is_among cs q ≡ true) × (l.receives n ≡ true) → Overrides p.tables c s y
        → SameFrom p l k f o (Typed p l.kinds ts o (us ++ x)) L (call (Run n) (length us) (Obj j)) (call' q (length us) (Some (l.numbering.number j)))
    called_method us x d s mm y em ey subs j c n q is eb en eq (am, rc) (n', e, z, en', ez, ef, eo, ebz) =
        let nn : n' ≡ n = the_same _ _ (sym en' ∙ en) in
        weak p l k f o (Typed p l.kinds ts o (us ++ x)) L _ _
        (calls o ts us x n q (record { owner = z.owner; params = z.params; result = z.result }) (Obj j) (Some (l.numbering.number j)) eq am
        (ap method_signature (subst (λ a. slice_get p.tables.methods a ≡ Some z) nn ez))
        (subst (λ ps. Subs p.tables us (onto ps []))
        (sym (same_params p.tables y z (formed.functions mm y ey) (formed.functions n' z ez) ef)) subs)
        is.1 (subst (SelfOf p.tables l.kinds (Obj j)) (sym eo) (j, refl, (c, is.0, ebz)))
        (subst (λ a. Receiver l k a (Obj j) (Some (l.numbering.number j))) (sym eo) refl) (rc, laid.small.cells j))

    step_call_method : (x : List CoreType) (at d s mm : ℕ) (y : Method) (us : List CoreType) → dispatch p.tables d s ≡ Some mm
        → slice_get p.tables.methods mm ≡ Some y → Subs p.tables us (onto y.params [])
        → IsDispatched p.tables l f (λ n q. (is_among cs q ≡ true) × (l.receives n ≡ true)) d s
        → Stands (us ++ ClassType d ∷ x) (CallMethod at d s (length us)) (steps.CallFor (l.dispatch d s) (length us))
    step_call_method x at d s mm y us em ey subs dis =
        same_below p l k f o (Typed p l.kinds ts o (us ++ ClassType d ∷ x)) (Typed p l.kinds ts o (us ++ x)) L (length us) _ _
        (λ s1 j. without us (ClassType d) x s1 j)
        (λ s1 v j e kept. same_dispatch o L (Typed p l.kinds ts o (us ++ x)) at d s (λ j1 n. call (Run n) (length us) (Obj j1))
        (λ n q. call' q (length us) (Some n)) (λ n q. (is_among cs q ≡ true) × (l.receives n ≡ true)) dis
        (λ j1 c n q is eb en eq h. called_method us x d s mm y em ey subs j1 c n q is eb en eq h (formed.overrides c d s mm y eb em ey)) v kept)

    step_method_of : (x : List CoreType) (at d s : ℕ) → IsDispatched p.tables l f (λ n q. l.numbering.bindable n ≡ true) d s
        → Stands x (MethodOf at d s) (steps.BindFor (l.dispatch d s))
    step_method_of x at d s dis =
        same_take p l k f o (Typed p l.kinds ts o x) L _ _ (same_dispatch o L Any at d s (λ j n. core.put (Bound (Some j) n)) (λ n q. firm.put_delegate k f q n)
        (λ n q. l.numbering.bindable n ≡ true) dis (λ j c n q is eb en eq bi. same_bound o L Any (Some j) n q eq bi is.1))

    -- the receiver of a delegate
    self_of : (receiver : Option ℕ) (own : Owner) → ReceiverOf p.tables l.kinds receiver own → SelfOf p.tables l.kinds (core.receiver_of receiver) own
    self_of None (InComponent c) h = tt
    self_of (Some j) (InClass c) h = (j, refl, h)
    self_of None (InClass c) h = absurd h
    self_of (Some j) (InComponent c) h = absurd h

    receiver_is : (receiver : Option ℕ) (own : Owner) → ReceiverOf p.tables l.kinds receiver own
        → Receiver l k own (core.receiver_of receiver) (Some (receiver_number l.numbering receiver))
    receiver_is None (InComponent c) h = tt
    receiver_is (Some j) (InClass c) h = refl
    receiver_is None (InClass c) h = absurd h
    receiver_is (Some j) (InComponent c) h = absurd h

    called_bound : (x : List CoreType) (at t ps rt : ℕ) (params us : List CoreType) → IsRow p.tables params ps → Subs p.tables us (onto params [])
        → ((n q : ℕ) (y : Method) → l.numbering.procedure n ≡ Some q → l.numbering.bindable n ≡ true → slice_get p.tables.methods n ≡ Some y
        → y.function ≡ t → is_among cs q ≡ true)
        → (receiver : Option ℕ) (n : ℕ) → IsDelegate p.tables l.kinds receiver n ps rt → IsKept l.numbering (Bound receiver n)
        → SameFrom p l k f o (Typed p l.kinds ts o (us ++ x)) L (core.call_bound p.tables call at (length us) t (Bound receiver n))
        (firm.call_delegate k call' (length us) (coded l.numbering k (Bound receiver n)))
    called_bound x at t ps rt params us row subs among receiver n (y, ey, ef, h) ((q, eq, bi), kept) =
        subst (λ z. SameFrom p l k f o (Typed p l.kinds ts o (us ++ x)) L
        (core.with_found z (λ a. core.checked (a.function == t) (call (Run n) (length us) (core.receiver_of receiver))))
        (firm.call_delegate k call' (length us) (coded l.numbering k (Bound receiver n)))) (sym ey)
        (same_checked p l k f o (Typed p l.kinds ts o (us ++ x)) L (y.function == t) _ _ (λ is.
        same_delegate o L (Typed p l.kinds ts o (us ++ x)) (call (Run n) (length us) (core.receiver_of receiver)) (λ z v. call' z (length us) v) receiver n q eq
        (weak p l k f o (Typed p l.kinds ts o (us ++ x)) L _ _
        (calls o ts us x n q (record { owner = y.owner; params = y.params; result = y.result }) (core.receiver_of receiver)
        (Some (receiver_number l.numbering receiver)) eq (among n q y eq bi ey ((unsigned_Decides y.function t).0 is)) (ap method_signature ey)
        (subst (λ z. Subs p.tables us (onto z [])) (sym (params_are p.tables y ps rt params (formed.functions n y ey) ef row)) subs)
        (kept_receiver l receiver kept) (self_of receiver y.owner h) (receiver_is receiver y.owner h)
        (laid.receivers n bi, receiver_small l laid.small.cells receiver)))))

    step_call_value : (x : List CoreType) (at t ps rt : ℕ) (params us : List CoreType) → IsRow p.tables params ps → Subs p.tables us (onto params [])
        → ((n q : ℕ) (y : Method) → l.numbering.procedure n ≡ Some q → l.numbering.bindable n ≡ true → slice_get p.tables.methods n ≡ Some y
        → y.function ≡ t → is_among cs q ≡ true)
        → Stands (us ++ FunctionType ps rt ∷ x) (CallValue at (length us) t) (steps.CallValue (length us))
    step_call_value x at t ps rt params us row subs among =
        same_below p l k f o (Typed p l.kinds ts o (us ++ FunctionType ps rt ∷ x)) (Typed p l.kinds ts o (us ++ x)) L (length us) _ _
        (λ s1 j. without us (FunctionType ps rt) x s1 j)
        (λ s1 v j e kept. by v kept (typed_below us (FunctionType ps rt) x s1 v j e))
      where
        by : (v : CoreValue) → IsKept l.numbering v → HasType p.tables l.kinds v (FunctionType ps rt)
            → SameFrom p l k f o (Typed p l.kinds ts o (us ++ x)) L (core.call_bound p.tables call at (length us) t v)
            (firm.call_delegate k call' (length us) (coded l.numbering k v))
        by Null kept h = λ s w1 w i q j. alike_stops (Packs p.tables l k f o) (Packs p.tables l k f o) L 1 at 0 s w1 w i q
        by (Bound receiver n) kept h = called_bound x at t ps rt params us row subs among receiver n h kept
        by (Int n) kept h = absurd h
        by (Truth n) kept h = absurd h
        by (Char n) kept h = absurd h
        by (Raw n n1) kept h = absurd h
        by (Obj n) kept h = absurd h
        by (Arr n) kept h = absurd h

    -- so many values are dropped before the code
    forgotten : (n : ℕ) (c : Code FirmStep) (vs ls : List ℕ) (number : Option ℕ) (cols : List (List ℕ)) (w : World K) → n ≤ length vs
        → performed r (firm.step k f m call' handle) firm.truth (forgets n c) (record { values = vs; locals = ls; self = number; columns = cols }) w
        ≡ performed r (firm.step k f m call' handle) firm.truth c (record { values = drop n vs; locals = ls; self = number; columns = cols }) w
    forgotten zero c vs ls number cols w le = refl
    forgotten (suc n) c [] ls number cols w le = absurd (omega (arith, le))
    forgotten (suc n) c (v ∷ vs) ls number cols w le = forgotten n c vs ls number cols w (omega (arith, le))

    rest_at : (vs : List ℕ) (n v : ℕ) → slice_get vs n ≡ Some v → drop n vs ≡ v ∷ drop (suc n) vs
    rest_at [] n v e = absurd (none-some v e)
    rest_at (u ∷ vs) zero v e = ap (λ z. z ∷ vs) (the_same _ _ e)
    rest_at (u ∷ vs) (suc n) v e = rest_at vs n v e

    -- so many arguments, and null below them
    null_called : (at n : ℕ) (s : State) (vs ls : List ℕ) (number : Option ℕ) (cols : List (List ℕ)) (w : World K) → IsFair w → slice_get vs n ≡ Some 0
        → Alike (Packs p.tables l k f o) L (stops 1 at s w)
        (performed r (firm.step k f m call' handle) firm.truth (forgets n (Do steps.LoadNothing))
        (record { values = vs; locals = ls; self = number; columns = cols }) w)
    null_called at n s vs ls number cols w i e =
        let lt = slice_get_within vs n 0 e in
        subst (λ z. Alike (Packs p.tables l k f o) L (stops 1 at s w) z)
        (sym (forgotten n (Do steps.LoadNothing) vs ls number cols w (omega (arith, lt))))
        (subst (λ us. Alike (Packs p.tables l k f o) L (stops 1 at s w)
        (performed r (firm.step k f m call' handle) firm.truth (Do steps.LoadNothing) (record { values = us; locals = ls; self = number; columns = cols }) w))
        (sym (rest_at vs n 0 e))
        (alike_stops (λ a b. Unit {0}) (Packs p.tables l k f o) L 1 at 0 s
        (record { values = drop (suc n) vs; locals = ls; self = number; columns = cols }) w i tt))

    -- no method that a delegate is of has so many parameters
    none_bound : (at t ps rt : ℕ) (params us : List CoreType) → IsRow p.tables params ps → Subs p.tables us (onto params [])
        → nat_lt (length us) 61 ≡ false → (receiver : Option ℕ) (n : ℕ) → IsDelegate p.tables l.kinds receiver n ps rt
        → IsKept l.numbering (Bound receiver n) → ⊥
    none_bound at t ps rt params us row subs e receiver n (y, ey, ef, h) ((q, eq, bi), kept) =
        let few = laid.few_parameters n q y eq ey in
        let same : length y.params ≡ length params = ap length (params_are p.tables y ps rt params (formed.functions n y ey) ef row) in
        let many : length us ≡ length params = subs_length p.tables us (onto params []) subs ∙ (onto_length params [] ∙ nothing_more (length params)) in
        let lt : length us < 61 = omega (arith, few, same, many) in
        clash (sym (below (length us) 61 lt) ∙ e)
      where
        nothing_more : (n : ℕ) → n + length {0} {A = CoreType} [] ≡ n
        nothing_more n = omega arith

        clash : true ≡ false → ⊥
        clash z = absurd (let q : true ≡ false = z in cc)

    step_call_null : (x : List CoreType) (at t ps rt : ℕ) (params us : List CoreType) → IsRow p.tables params ps → Subs p.tables us (onto params [])
        → nat_lt (length us) 61 ≡ false
        → StandsFor' (us ++ FunctionType ps rt ∷ x) (CallValue at (length us) t) (forgets (length us) (Do steps.LoadNothing))
    step_call_null x at t ps rt params us row subs many _ _ w i
        (packs {vs = vs} {ls = ls} {self = self} {h = heap} {number = number} {cols = cols} y z ks rec q) j =
        by (slice_get vs (length us)) refl
      where
        before : State
        before = record { values = vs; locals = ls; self = self; heap = heap }

        rest : State
        rest = record { values = take (length us) vs ++ drop (length us + 1) vs; locals = ls; self = self; heap = heap }

        dropped : Piece FirmState K
        dropped = performed r (firm.step k f m call' handle) firm.truth (forgets (length us) (Do steps.LoadNothing))

        behind : FirmState
        behind = record { values = map (coded l.numbering k) vs; locals = map (coded l.numbering k) ls; self = number; columns = cols }

        found : (v : CoreValue) → slice_get vs (length us) ≡ Some v → IsKept l.numbering v → HasType p.tables l.kinds v (FunctionType ps rt)
            → Alike (Packs p.tables l k f o) L (core.call_bound p.tables call at (length us) t v rest w) (dropped behind w)
        found Null e kept h =
            null_called at (length us) rest (map (coded l.numbering k) vs) (map (coded l.numbering k) ls) number cols w i
            (slice_get-map (coded l.numbering k) vs (length us) ∙ ap (option_map (coded l.numbering k)) e)
        found (Bound receiver n) e kept h = absurd (none_bound at t ps rt params us row subs many receiver n h kept)
        found (Int n) e kept h = absurd h
        found (Truth n) e kept h = absurd h
        found (Char n) e kept h = absurd h
        found (Raw n n1) e kept h = absurd h
        found (Obj n) e kept h = absurd h
        found (Arr n) e kept h = absurd h

        by : (c : Option CoreValue) → slice_get vs (length us) ≡ c
            → Alike (Packs p.tables l k f o) L (core.with_found c (core.call_bound p.tables call at (length us) t) rest w) (dropped behind w)
        by None e = wrong
        by (Some v) e = found v e (kept_get l vs (length us) v y e) (typed_below us (FunctionType ps rt) x before v j e)

    -- a call with as many arguments as a method may have, or with more
    step_call : (x : List CoreType) (at t ps rt : ℕ) (params us : List CoreType) → IsRow p.tables params ps → Subs p.tables us (onto params [])
        → ((n q : ℕ) (y : Method) → l.numbering.procedure n ≡ Some q → l.numbering.bindable n ≡ true → slice_get p.tables.methods n ≡ Some y
        → y.function ≡ t → is_among cs q ≡ true)
        → (b : Bool) → nat_lt (length us) 61 ≡ b
        → StandsFor' (us ++ FunctionType ps rt ∷ x) (CallValue at (length us) t)
        (if b then Do (steps.CallValue (length us)) else forgets (length us) (Do steps.LoadNothing))
    step_call x at t ps rt params us row subs among true e = step_call_value x at t ps rt params us row subs among
    step_call x at t ps rt params us row subs among false e = step_call_null x at t ps rt params us row subs e

    step_call_component : (x : List CoreType) (n c : ℕ) (y : Method) (us : List CoreType) → slice_get p.tables.methods n ≡ Some y → y.owner ≡ InComponent c
        → Subs p.tables us (onto y.params []) → (q : ℕ) × (l.numbering.procedure n ≡ Some q) × (is_among cs q ≡ true)
        → Stands (us ++ x) (CallComponent n (length us)) (steps.Call (known (l.numbering.procedure n)) (length us))
    step_call_component x n c y us ey eo subs (q, eq, am) =
        subst (λ z. SameFrom p l k f o (Typed p l.kinds ts o (us ++ x)) L (call (Run n) (length us) Null) (call' z (length us) None)) (sym (ap known eq))
        (weak p l k f o (Typed p l.kinds ts o (us ++ x)) L _ _
        (calls o ts us x n q (record { owner = y.owner; params = y.params; result = y.result }) Null None eq am (ap method_signature ey) subs tt
        (subst (SelfOf p.tables l.kinds Null) (sym eo) tt) (subst (λ z. Receiver l k z Null None) (sym eo) tt) tt))

    -- ---- each step

    step_literal : (x : List CoreType) (a : ℕ) → 0 < l.numbering.number a → Stands x (Literal a) (steps.Number (l.numbering.number a))
    step_literal x a kept =
        same_found o L (Typed p l.kinds ts o x) (slice_get p.tables.literals a) (λ bytes. core.put (Arr a)) (firm.put (l.numbering.number a))
        (λ bytes e. same_put p l k f o (Typed p l.kinds ts o x) L (Arr a) kept)

    step_component_method : (x : List CoreType) (n : ℕ) → IsBindable l.numbering n
        → Stands x (ComponentMethod n) (steps.Bind (known (l.numbering.procedure n)))
    step_component_method x n (q, eq, bi) =
        subst (λ z. SameFrom {K = K} p l k f o (Typed p l.kinds ts o x) L (core.put (Bound None n)) (firm.put_delegate k f z 0)) (sym (ap known eq))
        (same_bound o L (Typed p l.kinds ts o x) None n q eq bi tt)

    -- a step of a packed method and what stands for it do the same
    pub same_step : (s : Step) (x y : List CoreType) → Takes p.tables ts o s x y → Allowed p.tables l f cs s → StandsFor' x s (move p.tables l k s)
    same_step _ x _ (t_put {v = v} h) a = same_put p l k f o (Typed p l.kinds ts o x) L v a
    same_step _ x _ (t_literal {k = n} bytes e) a = step_literal x n a
    same_step _ x _ (t_this {c = c} e) a = step_this x c e
    same_step _ x _ (t_local {k = n} e) a = step_local x n
    same_step _ x _ (t_component_field {f = g} y e eo) a = step_component_field x g a
    same_step _ x _ (t_register {a = n}) a = step_register x n
    same_step _ x _ (t_component_method {m = n} y e eo ef) a = step_component_method x n a
    same_step _ x _ (t_apply {op = op} {t = t} h) a =
        same_take p l k f o (Typed p l.kinds ts o x) L _ _ (λ v kept. same_applied o L op t v kept)
    same_step _ x _ (t_operate {at = at} {op = op} {t = t} {u = u} {r = rt} h) a =
        same_take p l k f o (Typed p l.kinds ts o x) L _ _ (λ y ky. same_take p l k f o Any L _ _ (λ z kz. same_operated o L at op t u rt h z y kz ky))
    same_step _ x _ (t_cast {at = at} {t = t} {u = u} h) a = step_cast x at t u a
    same_step _ x _ (t_is_below {d = d} h) a = same_take p l k f o (Typed p l.kinds ts o x) L _ _ (same_test p formed l k f laid o Any L d)
    same_step _ x _ (t_field {at = at} {f = g} y e eo eb) a = step_field x at g (l.column g) refl a
    same_step _ x _ (t_item {at = at} {t = t} e) a = step_item x at t
    same_step _ x _ (t_length {at = at} {t = t}) a = same_take p l k f o (Typed p l.kinds ts o x) L _ _ (same_length p formed l k f laid o Any L at t)
    same_step _ x _ (t_method_of {at = at} {d = d} {s = s} n y em ey ef) a = step_method_of x at d s a
    same_step _ _ _ (t_call_method {at = at} {d = d} {s = s} {x = x} n y us em ey subs) a = step_call_method x at d s n y us em ey subs a
    same_step _ _ _ (t_call_value {at = at} {f = t} {ps = ps} {r = rt} {x = x} params us ef row et subs) a =
        step_call x at t ps rt params us row subs a (nat_lt (length us) 61) refl
    same_step _ _ _ (t_call_component {m = n} {k = c} {x = x} y us ey eo subs) a = step_call_component x n c y us ey eo subs a
    same_step _ _ _ (t_new_object c us ek subs) a = absurd a
    same_step _ _ _ (t_new_array e) a = absurd a
    same_step _ x _ (t_set_local {k = n} {t = t} e sub) a = step_set_local x n t e
    same_step _ x _ (t_set_component_field {f = g} y e eo sub) a = step_set_component_field x g (l.column g) refl a
    same_step _ x _ (t_set_register {a = n}) a = step_set_register x n
    same_step _ _ _ (t_set_field {at = at} {f = g} {d = d} {e = e} {u = u} {x = x} y ey eo eb sub) a =
        step_set_field x at g d e u y ey sub (l.column g) refl a
    same_step _ _ _ (t_set_item {at = at} {t = t} {e = e} {u = u} {x = x} et sub) a = step_set_item x at t e u et sub a
    same_step _ x _ (t_forget {t = t}) a = same_take p l k f o (Typed p l.kinds ts o x) L _ _ (λ v kept s t1 w i q j. gives i q)
    same_step _ _ _ (t_super c us ek subs eo eb) a = absurd a
