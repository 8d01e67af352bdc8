-- Casts and class tests: what the types in the tables allow is what those that they stand for allow, and the steps are typed.
use Rattle.std.proofs.Common.{◌≡◌, ◌||◌, ℕ, Bool, true, false, List, ◌∷◌, Some, None, if◌then◌else◌, Decides, refl, sym, ap, ◌∙◌, subst}
use Rattle.vg_syntax.specs.Tree.{Node}
use Rattle.vg_tree.specs.declared.node.Node as held_node
use Rattle.vg_source.specs.Types.{StaticType}
use Rattle.vg_rules.specs.Operands.{can_cast}
use Rattle.vg_rules.specs.Operands as operands
use Rattle.vg_core.specs.declared.types.CoreType.{CoreType}
use Rattle.vg_core.specs.declared.types.CoreType.TheVariants.{IntType, BoolType, CharType, RawType, NullType, ClassType, ArrayType, FunctionType}
use Rattle.vg_core.specs.declared.types.CoreType.TheVariants.{NoType, MoreTypes}
use Rattle.vg_core.specs.declared.program.Owner.{Owner}
use Rattle.vg_core.specs.declared.program.Tables.{Tables}
use Rattle.vg_core.specs.declared.step.Step.TheVariants.{IsBelow}
use Rattle.vg_core.specs.Tables.{is_below}
use Rattle.vg_core.specs.Typing.{IsNumber, int_number, char_number, raw_number, Related, upward, downward, Casts, numbers, bool_itself, array_itself}
use Rattle.vg_core.specs.Typing.{function_itself, classes, null_to_class, Takes, t_is_below}
use Rattle.vg_types_tables.specs.declared.declared.Declared.{Declared}
use Rattle.vg_types_tables.specs.declared.judged.Head.{Head}
use Rattle.vg_types_tables.specs.declared.judged.Head.TheVariants.{Value}
use Rattle.vg_types_tables.specs.Views.{declarations_at, type_view}
use Rattle.vg_types_tables.specs.Declares.{Declares, IsFormed, IsKnown}
use Rattle.vg_types_tables.specs.Promises.{waiting}
use Rattle.vg_types_tables.proofs.Fitting.{same_agrees}
use Rattle.vg_types_tables.proofs.SameType.{false_true}
use Rattle.vg_types_operators.specs.Casts.{IsTarget}
use Rattle.vg_types_operators.specs.Operands.{has_bits, casts_where, tested}

or_none : (a : Bool) → a ≡ (a || false)
or_none true = refl
or_none false = refl

or_twice : (a : Bool) → a ≡ ((a || false) || false)
or_twice true = refl
or_twice false = refl

-- ---- what is allowed

module _ (texts : List (List ℕ)) (root : held_node.Node) (d : Declared) (all : Declares texts root d) where
  abbrev ds : Node
  ds = declarations_at texts root

  abbrev view : CoreType → StaticType
  view t = type_view texts d t

  bits_same : (t : CoreType) → has_bits t ≡ operands.has_bits (view t)
  bits_same IntType = refl
  bits_same CharType = refl
  bits_same (RawType k) = refl
  bits_same t = refl

  with_bits : (a s : Bool) (u : CoreType) → a ≡ s → (a || has_bits u) ≡ (((s || operands.has_bits (view u)) || false) || false)
  with_bits a s u e = ap (λ z. z || has_bits u) e ∙ ap (λ z. s || z) (bits_same u) ∙ or_twice (s || operands.has_bits (view u))

  with_classes : (a s b b' r r' : Bool) → a ≡ s → b ≡ b' → r ≡ r' → (a || (b || r)) ≡ (((s || false) || (b' || r')) || false)
  with_classes a s b b' r r' ea eb er =
      ap (λ z. z || (b || r)) (ea ∙ or_none s) ∙ ap (λ z. (s || false) || (z || r)) eb ∙ ap (λ z. (s || false) || (b' || z)) er
      ∙ or_none ((s || false) || (b' || r'))

  pub casts_agree : (t u : CoreType) → IsKnown d.tables t → IsKnown d.tables u → (equal : Bool) → Decides equal (t ≡ u)
      → casts_where d.tables t u equal ≡ can_cast ds (view t) (view u)
  casts_agree NoType u k l equal e = refl
  casts_agree IntType u k l equal e = with_bits equal _ u (same_agrees texts root d all IntType u k l equal e)
  casts_agree CharType u k l equal e = with_bits equal _ u (same_agrees texts root d all CharType u k l equal e)
  casts_agree (RawType n) u k l equal e = with_bits equal _ u (same_agrees texts root d all (RawType n) u k l equal e)
  casts_agree (ClassType c) (ClassType b) (x, k) (y, l) equal e =
      with_classes equal _ _ _ _ _ (same_agrees texts root d all (ClassType c) (ClassType b) (x, k) (y, l) equal e) (all.below c b x y k l)
      (all.below b c y x l k)
  casts_agree NullType (ClassType b) k l equal e = refl
  casts_agree t u k l equal e = same_agrees texts root d all t u k l equal e ∙ or_none _ ∙ or_twice _

-- ---- what is typed

module _ (p : Tables) where
  related : (c d : ℕ) (a b : Bool) → is_below p c d ≡ a → is_below p d c ≡ b → (a || b) ≡ true → Related p c d
  related c d true b ea eb e = upward ea
  related c d false b ea eb e = downward (eb ∙ e)

  bits_number : (t : CoreType) → has_bits t ≡ true → IsNumber t
  bits_number IntType e = int_number
  bits_number CharType e = char_number
  bits_number (RawType k) e = raw_number
  bits_number t e = false_true e

  number_casts : (t u : CoreType) → IsNumber t → (equal : Bool) → (equal ≡ true → t ≡ u) → (equal || has_bits u) ≡ true → Casts p t u
  number_casts t u n true same e = subst (Casts p t) (same refl) (numbers n n)
  number_casts t u n false same e = numbers n (bits_number u e)

  class_casts : (f : IsFormed p) (c b : ℕ) → IsKnown p (ClassType c) → (equal : Bool) → (equal ≡ true → ClassType c ≡ ClassType b)
      → (equal || (is_below p c b || is_below p b c)) ≡ true → Casts p (ClassType c) (ClassType b)
  class_casts f c b (x, k) true same e = subst (Casts p (ClassType c)) (same refl) (classes (upward (f.itself c x k)))
  class_casts f c b (x, k) false same e = classes (related c b (is_below p c b) (is_below p b c) refl refl e)

  pub casts : (f : IsFormed p) (t u : CoreType) → IsKnown p t → (equal : Bool) → (equal ≡ true → t ≡ u) → casts_where p t u equal ≡ true → IsTarget u
      → Casts p t u
  casts f NoType u k equal same e h = false_true e
  casts f IntType u k equal same e h = number_casts IntType u int_number equal same e
  casts f CharType u k equal same e h = number_casts CharType u char_number equal same e
  casts f (RawType n) u k equal same e h = number_casts (RawType n) u raw_number equal same e
  casts f (ClassType c) (ClassType b) k equal same e h = class_casts f c b k equal same e
  casts f (ClassType c) u (x, k) equal same e h = subst (Casts p (ClassType c)) (same e) (classes (upward (f.itself c x k)))
  casts f NullType (ClassType b) k equal same e h = null_to_class
  casts f NullType u k equal same e h = absurd (subst IsTarget (sym (same e)) h)
  casts f BoolType u k equal same e h = subst (Casts p BoolType) (same e) bool_itself
  casts f (ArrayType t) u k equal same e h = subst (Casts p (ArrayType t)) (same e) array_itself
  casts f (FunctionType ps r) u k equal same e h = subst (Casts p (FunctionType ps r)) (same e) function_itself
  casts f (MoreTypes t rest) u k equal same e h = absurd (subst IsTarget (sym (same e)) h)

  test_takes : (ts : List CoreType) (o : Owner) (c b n : ℕ) (x : List CoreType) (r : Bool) → (is_below p c b || is_below p b c) ≡ r
      → Some n ≡ (if r then Some b else None) → Takes p ts o (IsBelow n) (ClassType c ∷ x) (BoolType ∷ x)
  test_takes ts o c b n x true e g =
      let is : n ≡ b = cc in
      subst (λ z. Takes p ts o (IsBelow z) (ClassType c ∷ x) (BoolType ∷ x)) (sym is) (t_is_below (related c b (is_below p c b) (is_below p b c) refl refl e))
  test_takes ts o c b n x false e g = absurd cc

  pub tests : (ts : List CoreType) (o : Owner) (h : Head) (u : CoreType) (n : ℕ) (x : List CoreType) → Some n ≡ tested p h u
      → Takes p ts o (IsBelow n) (waiting h x) (BoolType ∷ x)
  tests ts o (Value (ClassType c)) (ClassType b) n x e = test_takes ts o c b n x (is_below p c b || is_below p b c) refl e
  tests ts o (Value t) u n x e = absurd cc
  tests ts o h u n x e = absurd cc
