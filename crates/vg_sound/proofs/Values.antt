-- The types of values and of lists of values.
use Rattle.std.proofs.Common.{◌≡◌, ℕ, zero, suc, ◌+◌, ◌==◌, ◌&&◌, Bool, true, List, [], ◌∷◌, ◌++◌, length, map, take, drop, Option, Some, None, slice_get}
use Rattle.std.proofs.Common.{slice_set}
use Rattle.std.proofs.Common.{refl, sym, ap, ◌∙◌, subst, arith}
use Rattle.std.proofs.lemmas.Bool.{eq-eqb}
use Rattle.std.specs.Prelude.{ℤ}
use Rattle.vg_core.specs.declared.types.CoreType.{CoreType}
use Rattle.vg_core.specs.declared.types.CoreType.TheVariants.{IntType, BoolType, CharType, RawType, NullType, ClassType, ArrayType, FunctionType, NoType}
use Rattle.vg_core.specs.declared.types.CoreType.TheVariants.{MoreTypes}
use Rattle.vg_core.specs.declared.value.CoreValue.{CoreValue}
use Rattle.vg_core.specs.declared.value.CoreValue.TheVariants.{Int, Bool as Truth, Char, Raw, Null, Obj, Arr, Bound}
use Rattle.vg_core.specs.declared.program.Owner.{Owner}
use Rattle.vg_core.specs.declared.program.Owner.TheVariants.{InClass, InComponent}
use Rattle.vg_core.specs.declared.program.Tables.{Tables}
use Rattle.vg_core.specs.Heap.{Kind, default}
use Rattle.vg_core.specs.State.{onto}
use Rattle.vg_core.specs.Types.{Extends, ReceiverOf, HasType, HasTypes, HasFieldType, HasFields, AllHave, SelfOf}
use Rattle.vg_core.specs.Typing.{Sub, same, below, null_class, null_array, null_function, Subs, WellFormed}

-- ---- equations

pub the_same : {A : Type 0} (a b : A) → Some a ≡ Some b → a ≡ b
the_same a b e = cc

pub none_some : {A : Type 0} {X : Type 0} (a : A) → None ≡ Some a → X
none_some a e = absurd (let clash : None ≡ Some a = e in cc)

pub eq_true : (m n : ℕ) → m ≡ n → (m == n) ≡ true
eq_true m n e = eq-eqb m n e

pub eq_refl : (n : ℕ) → (n == n) ≡ true
eq_refl n = eq-eqb n n refl

pub both : (a b : Bool) → a ≡ true → b ≡ true → (a && b) ≡ true
both a b e f = ap (λ z. z && b) e ∙ f

-- ---- values

module _ (p : Tables) where
  receiver_more : (κ κ' : List Kind) → Extends κ κ' → (r : Option ℕ) (o : Owner) → ReceiverOf p κ r o → ReceiverOf p κ' r o
  receiver_more κ κ' e None (InComponent k) h = tt
  receiver_more κ κ' e None (InClass c) h = absurd h
  receiver_more κ κ' e (Some r) (InComponent k) h = absurd h
  receiver_more κ κ' e (Some r) (InClass d) (c, a, b) = (c, e _ _ a, b)

  -- a value keeps its type where cells are added
  pub more : (κ κ' : List Kind) → Extends κ κ' → (v : CoreValue) (t : CoreType) → HasType p κ v t → HasType p κ' v t
  more κ κ' e (Obj k) (ClassType d) (c, a, b) = (c, e _ _ a, b)
  more κ κ' e (Arr k) (ArrayType t) (size, a) = (size, e _ _ a)
  more κ κ' e (Bound r m) (FunctionType ps t) (x, a, b, c) = (x, a, b, receiver_more κ κ' e r x.owner c)
  more κ κ' e (Raw j x) (RawType k) h = h
  more κ κ' e v t h = h

  pub all_more : (κ κ' : List Kind) → Extends κ κ' → (vs : List CoreValue) (ts : List CoreType) → HasTypes p κ vs ts → HasTypes p κ' vs ts
  all_more κ κ' e [] [] h = tt
  all_more κ κ' e (v ∷ vs) (t ∷ ts) (a, h) = (more κ κ' e v t a, all_more κ κ' e vs ts h)
  all_more κ κ' e [] (t ∷ ts) h = absurd h
  all_more κ κ' e (v ∷ vs) [] h = absurd h

  pub self_more : (κ κ' : List Kind) → Extends κ κ' → (v : CoreValue) (o : Owner) → SelfOf p κ v o → SelfOf p κ' v o
  self_more κ κ' e v (InClass c) (k, a, (d, b, h)) = (k, a, (d, e _ _ b, h))
  self_more κ κ' e v (InComponent k) h = tt

  pub fields_more : (κ κ' : List Kind) → Extends κ κ' → (fs : List ℕ) (vs : List CoreValue) → HasFields p κ fs vs → HasFields p κ' fs vs
  fields_more κ κ' e [] [] h = tt
  fields_more κ κ' e (f ∷ fs) (v ∷ vs) ((x, ex, a), h) = ((x, ex, more κ κ' e v x.type_ a), fields_more κ κ' e fs vs h)
  fields_more κ κ' e [] (v ∷ vs) h = absurd h
  fields_more κ κ' e (f ∷ fs) [] h = absurd h

  pub items_more : (κ κ' : List Kind) → Extends κ κ' → (t : CoreType) (vs : List CoreValue) → AllHave p κ t vs → AllHave p κ' t vs
  items_more κ κ' e t [] h = tt
  items_more κ κ' e t (v ∷ vs) (a, h) = (more κ κ' e v t a, items_more κ κ' e t vs h)

  -- a default is of its type
  pub default_typed : (κ : List Kind) (t : CoreType) → HasType p κ (default t) t
  default_typed κ IntType = tt
  default_typed κ BoolType = tt
  default_typed κ CharType = tt
  default_typed κ (RawType k) = refl
  default_typed κ NullType = tt
  default_typed κ (ClassType c) = tt
  default_typed κ (ArrayType t) = tt
  default_typed κ (FunctionType ps r) = tt
  default_typed κ NoType = tt
  default_typed κ (MoreTypes t ts) = tt

  pub defaults_typed : (κ : List Kind) (ts : List CoreType) → HasTypes p κ (map default ts) ts
  defaults_typed κ [] = tt
  defaults_typed κ (t ∷ ts) = (default_typed κ t, defaults_typed κ ts)

  -- ---- the values of a type

  pub int_of : (κ : List Kind) (v : CoreValue) → HasType p κ v IntType → (n : ℤ) × (v ≡ Int n)
  int_of κ (Int n) h = (n, refl)
  int_of κ _ h = absurd h

  pub truth_of : (κ : List Kind) (v : CoreValue) → HasType p κ v BoolType → (b : Bool) × (v ≡ Truth b)
  truth_of κ (Truth b) h = (b, refl)
  truth_of κ _ h = absurd h

  pub char_of : (κ : List Kind) (v : CoreValue) → HasType p κ v CharType → (c : ℕ) × (v ≡ Char c)
  char_of κ (Char c) h = (c, refl)
  char_of κ _ h = absurd h

  pub raw_of : (κ : List Kind) (v : CoreValue) (k : ℕ) → HasType p κ v (RawType k) → (x : ℕ) × (v ≡ Raw k x)
  raw_of κ (Raw j x) k h = (x, ap (λ z. Raw z x) h)
  raw_of κ Null k h = absurd h
  raw_of κ (Int n) k h = absurd h
  raw_of κ (Truth n) k h = absurd h
  raw_of κ (Char n) k h = absurd h
  raw_of κ (Obj n) k h = absurd h
  raw_of κ (Arr n) k h = absurd h
  raw_of κ (Bound r m) k h = absurd h

  -- ---- lists of values

  pub get : (κ : List Kind) (vs : List CoreValue) (ts : List CoreType) (k : ℕ) (t : CoreType) → HasTypes p κ vs ts → slice_get ts k ≡ Some t
      → (v : CoreValue) × (slice_get vs k ≡ Some v) × HasType p κ v t
  get κ [] [] k t h e = none_some t e
  get κ (v ∷ vs) (u ∷ us) zero t (a, h) e = (v, refl, subst (HasType p κ v) (the_same _ _ e) a)
  get κ (v ∷ vs) (u ∷ us) (suc k) t (a, h) e = get κ vs us k t h e
  get κ [] (u ∷ us) k t h e = absurd h
  get κ (v ∷ vs) [] k t h e = absurd h

  pub set : (κ : List Kind) (vs : List CoreValue) (ts : List CoreType) (k : ℕ) (v : CoreValue) (t : CoreType) → HasTypes p κ vs ts
      → slice_get ts k ≡ Some t → HasType p κ v t → HasTypes p κ (slice_set vs k v) ts
  set κ [] [] k v t h e b = tt
  set κ (u ∷ vs) (t' ∷ ts) zero v t (a, h) e b = (subst (HasType p κ v) (sym (the_same _ _ e)) b, h)
  set κ (u ∷ vs) (t' ∷ ts) (suc k) v t (a, h) e b = (a, set κ vs ts k v t h e b)
  set κ [] (u ∷ us) k v t h e b = absurd h
  set κ (u ∷ vs) [] k v t h e b = absurd h

  pub front : (κ : List Kind) (us x : List CoreType) (vs : List CoreValue) → HasTypes p κ vs (us ++ x) → HasTypes p κ (take (length us) vs) us
  front κ [] x vs h = tt
  front κ (u ∷ us) x (v ∷ vs) (a, h) = (a, front κ us x vs h)
  front κ (u ∷ us) x [] h = absurd h

  pub back : (κ : List Kind) (us x : List CoreType) (vs : List CoreValue) → HasTypes p κ vs (us ++ x) → HasTypes p κ (drop (length us) vs) x
  back κ [] x vs h = h
  back κ (u ∷ us) x (v ∷ vs) (a, h) = back κ us x vs h
  back κ (u ∷ us) x [] h = absurd h

  -- the value below so many others, and those others with what lies below it
  pub beneath : (κ : List Kind) (us : List CoreType) (t : CoreType) (x : List CoreType) (vs : List CoreValue) → HasTypes p κ vs (us ++ t ∷ x)
      → (v : CoreValue) × (slice_get vs (length us) ≡ Some v) × HasType p κ v t
      × HasTypes p κ (take (length us) vs ++ drop (length us + 1) vs) (us ++ x)
  beneath κ [] t x (v ∷ vs) (a, h) = (v, refl, a, h)
  beneath κ [] t x [] h = absurd h
  beneath κ (u ∷ us) t x (v ∷ vs) (a, h) = by (beneath κ us t x vs h)
    where
      by : ((y : CoreValue) × (slice_get vs (length us) ≡ Some y) × HasType p κ y t
          × HasTypes p κ (take (length us) vs ++ drop (length us + 1) vs) (us ++ x))
          → (y : CoreValue) × (slice_get (v ∷ vs) (length (u ∷ us)) ≡ Some y) × HasType p κ y t
          × HasTypes p κ (take (length (u ∷ us)) (v ∷ vs) ++ drop (length (u ∷ us) + 1) (v ∷ vs)) (u ∷ (us ++ x))
      by (y, e, b, g) =
          let n : suc (length us) + 1 ≡ suc (length us + 1) = omega arith in
          (y, e, b, subst (λ z. HasTypes p κ (v ∷ (take (length us) vs ++ drop z (v ∷ vs))) (u ∷ (us ++ x))) (sym n) (a, g))
  beneath κ (u ∷ us) t x [] h = absurd h

  pub turned_round : (κ : List Kind) (vs acc : List CoreValue) (ts us : List CoreType) → HasTypes p κ vs ts → HasTypes p κ acc us
      → HasTypes p κ (onto vs acc) (onto ts us)
  turned_round κ [] acc [] us h g = g
  turned_round κ (v ∷ vs) acc (t ∷ ts) us (a, h) g = turned_round κ vs (v ∷ acc) ts (t ∷ us) h (a, g)
  turned_round κ [] acc (t ∷ ts) us h g = absurd h
  turned_round κ (v ∷ vs) acc [] us h g = absurd h

  -- ---- fields and elements

  pub field_get : (κ : List Kind) (fs : List ℕ) (vs : List CoreValue) (i f : ℕ) → HasFields p κ fs vs → slice_get fs i ≡ Some f
      → (v : CoreValue) × (slice_get vs i ≡ Some v) × HasFieldType p κ v f
  field_get κ [] [] i f h e = none_some f e
  field_get κ (g ∷ fs) (v ∷ vs) zero f (a, h) e = (v, refl, subst (HasFieldType p κ v) (the_same _ _ e) a)
  field_get κ (g ∷ fs) (v ∷ vs) (suc i) f (a, h) e = field_get κ fs vs i f h e
  field_get κ [] (v ∷ vs) i f h e = absurd h
  field_get κ (g ∷ fs) [] i f h e = absurd h

  pub field_set : (κ : List Kind) (fs : List ℕ) (vs : List CoreValue) (i f : ℕ) (v : CoreValue) → HasFields p κ fs vs → slice_get fs i ≡ Some f
      → HasFieldType p κ v f → HasFields p κ fs (slice_set vs i v)
  field_set κ [] [] i f v h e b = tt
  field_set κ (g ∷ fs) (u ∷ vs) zero f v (a, h) e b = (subst (HasFieldType p κ v) (sym (the_same _ _ e)) b, h)
  field_set κ (g ∷ fs) (u ∷ vs) (suc i) f v (a, h) e b = (a, field_set κ fs vs i f v h e b)
  field_set κ [] (u ∷ vs) i f v h e b = absurd h
  field_set κ (g ∷ fs) [] i f v h e b = absurd h

  pub item_get : (κ : List Kind) (t : CoreType) (vs : List CoreValue) (i : ℕ) (v : CoreValue) → AllHave p κ t vs → slice_get vs i ≡ Some v
      → HasType p κ v t
  item_get κ t [] i v h e = none_some v e
  item_get κ t (u ∷ vs) zero v (a, h) e = subst (λ z. HasType p κ z t) (the_same _ _ e) a
  item_get κ t (u ∷ vs) (suc i) v (a, h) e = item_get κ t vs i v h e

  pub item_set : (κ : List Kind) (t : CoreType) (vs : List CoreValue) (i : ℕ) (v : CoreValue) → AllHave p κ t vs → HasType p κ v t
      → AllHave p κ t (slice_set vs i v)
  item_set κ t [] i v h b = tt
  item_set κ t (u ∷ vs) zero v (a, h) b = (b, h)
  item_set κ t (u ∷ vs) (suc i) v (a, h) b = (a, item_set κ t vs i v h b)

-- ---- what fits

module _ (p : Tables) (formed : WellFormed p) where
  -- a value that fits a type is of it
  pub fits : (κ : List Kind) (u t : CoreType) → Sub p u t → (v : CoreValue) → HasType p κ v u → HasType p κ v t
  fits κ _ _ same v h = h
  fits κ _ _ (below e) (Obj k) (c, a, b) = (c, a, formed.trans _ _ _ b e)
  fits κ _ _ (below e) Null h = tt
  fits κ _ _ (below e) _ h = absurd h
  fits κ _ _ null_class Null h = tt
  fits κ _ _ null_class _ h = absurd h
  fits κ _ _ null_array Null h = tt
  fits κ _ _ null_array _ h = absurd h
  fits κ _ _ null_function Null h = tt
  fits κ _ _ null_function _ h = absurd h

  pub all_fit : (κ : List Kind) (vs : List CoreValue) (us ts : List CoreType) → HasTypes p κ vs us → Subs p us ts → HasTypes p κ vs ts
  all_fit κ [] [] [] h f = tt
  all_fit κ (v ∷ vs) (u ∷ us) (t ∷ ts) (a, h) (b, f) = (fits κ u t b v a, all_fit κ vs us ts h f)
  all_fit κ [] (u ∷ us) ts h f = absurd h
  all_fit κ (v ∷ vs) [] ts h f = absurd h
  all_fit κ vs [] (t ∷ ts) h f = absurd f
  all_fit κ vs (u ∷ us) [] h f = absurd f

-- ---- lengths

pub subs_length : (p : Tables) (us ts : List CoreType) → Subs p us ts → length us ≡ length ts
subs_length p [] [] h = refl
subs_length p (u ∷ us) (t ∷ ts) (a, h) = ap suc (subs_length p us ts h)
subs_length p [] (t ∷ ts) h = absurd h
subs_length p (u ∷ us) [] h = absurd h

pub onto_length : {A : Type 0} (xs acc : List A) → length (onto xs acc) ≡ length xs + length acc
onto_length [] acc = omega arith
onto_length (x ∷ xs) acc =
    let e : length (onto xs (x ∷ acc)) ≡ length xs + suc (length acc) = onto_length xs (x ∷ acc) in
    let n : length xs + suc (length acc) ≡ suc (length xs) + length acc = omega arith in
    e ∙ n
