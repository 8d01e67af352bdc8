-- The program with a store to a field of null is well typed.
use Rattle.std.proofs.Common.{◌≡◌, ◌↔◌, ℕ, zero, suc, ◌==◌, ◌&&◌, ◌||◌, Bool, true, false, [], ◌∷◌, Some, slice_get}
use Rattle.std.proofs.Common.{refl, sym, ap, ◌∙◌, subst}
use Rattle.std.specs.Prelude.{bytes_eq}
use Rattle.std.proofs.lemmas.Bool.{eqb-true}
use Rattle.vg_core.specs.declared.types.CoreType.{CoreType}
use Rattle.vg_core.specs.declared.types.CoreType.TheVariants.{IntType, RawType, CharType, ClassType, FunctionType, NoType}
use Rattle.vg_core.specs.declared.program.Owner.TheVariants.{InClass, InComponent}
use Rattle.vg_core.specs.declared.program.Field.{Field}
use Rattle.vg_core.specs.declared.program.Method.{Method}
use Rattle.vg_core.specs.declared.program.Class.{Class}
use Rattle.vg_core.specs.declared.program.Target.{Target}
use Rattle.vg_core.specs.declared.program.Target.TheVariants.{Run, Construct, Start}
use Rattle.vg_core.specs.Tables.{is_in, is_below, top, dispatch, slot_of, global_slot}
use Rattle.vg_core.specs.Program.{Body, Signature, signature_of, body_of}
use Rattle.vg_core.specs.Typing.{same, t_put, t_component_field, t_set_register, t_set_field, TypedBody, HasFunction, WellFormed, WellTyped}
use Rattle.vg_core.specs.Naming.{Naming, naming_of}
use Rattle.vg_sound.proofs.Values.{the_same, none_some}
use Rattle.vg_renamed.specs.IsNamed.{KeysTell}
use Rattle.vg_renamed.specs.NamesTell.{NamesTell}
use Rattle.vg_typed_examples.specs.StoreToNull.{texts, tables, store_to_null}

no_true : {X : Type 0} → false ≡ true → X
no_true e = absurd (let clash : false ≡ true = e in cc)

only_zero : (d : ℕ) → is_in (0 ∷ []) d ≡ true → 0 ≡ d
only_zero d e = by (0 == d) (eqb-true 0 d) e
  where
    by : (b : Bool) → (b ≡ true → 0 ≡ d) → (b || false) ≡ true → 0 ≡ d
    by true h q = h refl
    by false h q = no_true q

-- the one class, the one method and the two fields
abbrev a_class : Class
a_class = record { name = 0; above = 0 ∷ []; fields = 0 ∷ []; methods = []; params = [] }

abbrev main_method : Method
main_method = record { name = 4; owner = InComponent 0; selector = 0; function = 2; params = []; result = NoType; nodes = 18 }

abbrev log_field : Field
log_field = record { name = 1; owner = InClass 0; type_ = IntType; slot = 0 }

abbrev a_field : Field
a_field = record { name = 3; owner = InComponent 0; type_ = ClassType 0; slot = 0 }

-- ---- tables

itself : (c : ℕ) (k : Class) → slice_get tables.classes c ≡ Some k → is_below tables c c ≡ true
itself zero k e = refl
itself (suc c) k e = none_some k e

below_zero : (c d : ℕ) → is_below tables c d ≡ true → (c ≡ 0) × (0 ≡ d)
below_zero zero d e = (refl, only_zero d e)
below_zero (suc c) d e = no_true e

trans : (c d e : ℕ) → is_below tables c d ≡ true → is_below tables d e ≡ true → is_below tables c e ≡ true
trans c d e f g = let h = below_zero c d f in subst (λ z. is_below tables z e ≡ true) (sym (h.0 ∙ h.1)) g

one_top : (c d : ℕ) → is_below tables c d ≡ true → top tables c ≡ top tables d
one_top c d f = let h = below_zero c d f in ap (top tables) (h.0 ∙ h.1)

zero_of : {i : ℕ} → Some 0 ≡ Some i → 0 ≡ i
zero_of e = the_same _ _ e

object_slots : (i f : ℕ) → (slice_get {X = ℕ} (0 ∷ []) i ≡ Some f) ↔ (slot_of tables 0 f ≡ Some i)
object_slots i f = (there i, back f)
  where
    there : (i : ℕ) → slice_get {X = ℕ} (0 ∷ []) i ≡ Some f → slot_of tables 0 f ≡ Some i
    there zero e = subst (λ z. slot_of tables 0 z ≡ Some 0) (zero_of e) refl
    there (suc i) e = none_some f e

    back : (f : ℕ) → slot_of tables 0 f ≡ Some i → slice_get {X = ℕ} (0 ∷ []) i ≡ Some f
    back zero e = subst (λ z. slice_get {X = ℕ} (0 ∷ []) z ≡ Some 0) (zero_of e) refl
    back (suc zero) e = none_some i e
    back (suc (suc f)) e = none_some i e

slots : (c i f : ℕ) (k : Class) → slice_get tables.classes c ≡ Some k → (slice_get k.fields i ≡ Some f) ↔ (slot_of tables c f ≡ Some i)
slots zero i f k e = subst (λ z. (slice_get z.fields i ≡ Some f) ↔ (slot_of tables 0 f ≡ Some i)) (the_same a_class k e) (object_slots i f)
slots (suc c) i f k e = none_some k e

global_slots : (i f : ℕ) → (slice_get {X = ℕ} (1 ∷ []) i ≡ Some f) ↔ (global_slot tables f ≡ Some i)
global_slots i f = (there i, back f)
  where
    there : (i : ℕ) → slice_get {X = ℕ} (1 ∷ []) i ≡ Some f → global_slot tables f ≡ Some i
    there zero e = subst (λ z. global_slot tables z ≡ Some 0) (the_same 1 f e) refl
    there (suc i) e = none_some f e

    back : (f : ℕ) → global_slot tables f ≡ Some i → slice_get {X = ℕ} (1 ∷ []) i ≡ Some f
    back zero e = none_some i e
    back (suc zero) e = subst (λ z. slice_get {X = ℕ} (1 ∷ []) z ≡ Some 1) (zero_of e) refl
    back (suc (suc f)) e = none_some i e

no_dispatch : {X : Type 0} (d s m : ℕ) → dispatch tables d s ≡ Some m → X
no_dispatch zero s m e = none_some m e
no_dispatch (suc d) s m e = none_some m e

functions : (m : ℕ) (y : Method) → slice_get tables.methods m ≡ Some y → HasFunction tables y
functions zero y e = subst (HasFunction tables) (the_same main_method y e) (1, 1, refl, refl, refl)
functions (suc m) y e = none_some y e

one_number : (i j : ℕ) (t : CoreType) → slice_get tables.types i ≡ Some t → slice_get tables.types j ≡ Some t → i ≡ j
one_number zero zero t e f = refl
one_number (suc zero) (suc zero) t e f = refl
one_number (suc (suc zero)) (suc (suc zero)) t e f = refl
one_number zero (suc zero) t e f = absurd (let clash : Some CharType ≡ Some NoType = e ∙ sym f in cc)
one_number (suc zero) zero t e f = absurd (let clash : Some NoType ≡ Some CharType = e ∙ sym f in cc)
one_number zero (suc (suc zero)) t e f = absurd (let clash : Some CharType ≡ Some (FunctionType 1 1) = e ∙ sym f in cc)
one_number (suc (suc zero)) zero t e f = absurd (let clash : Some (FunctionType 1 1) ≡ Some CharType = e ∙ sym f in cc)
one_number (suc zero) (suc (suc zero)) t e f = absurd (let clash : Some NoType ≡ Some (FunctionType 1 1) = e ∙ sym f in cc)
one_number (suc (suc zero)) (suc zero) t e f = absurd (let clash : Some (FunctionType 1 1) ≡ Some NoType = e ∙ sym f in cc)
one_number (suc (suc (suc i))) j t e f = none_some t e
one_number zero (suc (suc (suc j))) t e f = none_some t f
one_number (suc zero) (suc (suc (suc j))) t e f = none_some t f
one_number (suc (suc zero)) (suc (suc (suc j))) t e f = none_some t f

formed : WellFormed tables
formed = record {
  itself = itself;
  trans = trans;
  one_top = one_top;
  slots = slots;
  global_slots = global_slots;
  overrides = λ c d s m y e f g. no_dispatch d s m f;
  functions = functions;
  one_number = one_number;
  char_type = refl;
}

-- ---- bodies

abbrev Bodied : Target → Signature → Type 0
Bodied t g = (b : Body) × (body_of store_to_null t ≡ Some b) × TypedBody tables g b

bodies : (t : Target) (g : Signature) → signature_of tables t ≡ Some g → Bodied t g
bodies (Run zero) g e = subst (Bodied (Run 0)) (the_same _ g e) (
  _,
  refl,
  (
    RawType 8 ∷ [],
    t_put {t = RawType 8} refl,
    (
      [],
      t_set_register,
      (
        ClassType 0 ∷ [],
        t_component_field {k = 0} a_field refl refl,
        (
          IntType ∷ ClassType 0 ∷ [],
          t_put {t = IntType} tt,
          (
            [],
            t_set_field {d = 0} {e = 0} {u = IntType} log_field refl refl refl same,
            (RawType 8 ∷ [], t_put {t = RawType 8} refl, ([], t_set_register, refl)),
          ),
        ),
      ),
    ),
  ),
)
bodies (Construct zero) g e = subst (Bodied (Construct 0)) (the_same _ g e) (_, refl, refl)
bodies (Start zero) g e = subst (Bodied (Start 0)) (the_same _ g e) (_, refl, refl)
bodies (Run (suc m)) g e = none_some g e
bodies (Construct (suc c)) g e = none_some g e
bodies (Start (suc k)) g e = none_some g e

pub well_typed : WellTyped store_to_null
well_typed = record {
  tables = formed;
  bodies = bodies;
  main = record { method = main_method; component = 0; is = refl; owner = refl; params = refl };
  handlers = tt;
}

-- ---- names

abbrev names : Naming
names = naming_of texts tables

classes_tell : (c d : ℕ) (k l : Class) → slice_get tables.classes c ≡ Some k → slice_get tables.classes d ≡ Some l
    → bytes_eq (names.class c) (names.class d) ≡ (c == d)
classes_tell zero zero k l e f = refl
classes_tell zero (suc d) k l e f = none_some l f
classes_tell (suc c) d k l e f = none_some k e

components_tell : (j k x y : ℕ) → slice_get tables.components j ≡ Some x → slice_get tables.components k ≡ Some y
    → bytes_eq (names.component j) (names.component k) ≡ (j == k)
components_tell zero zero x y e f = refl
components_tell zero (suc k) x y e f = none_some y f
components_tell (suc j) k x y e f = none_some x e

fields_tell : KeysTell names tables
fields_tell zero zero x y e f = refl
fields_tell zero (suc zero) x y e f = refl
fields_tell (suc zero) zero x y e f = refl
fields_tell (suc zero) (suc zero) x y e f = refl
fields_tell zero (suc (suc g)) x y e f = none_some y f
fields_tell (suc zero) (suc (suc g)) x y e f = none_some y f
fields_tell (suc (suc k)) g x y e f = none_some x e

methods_tell : (i j : ℕ) (x y : Method) → slice_get tables.methods i ≡ Some x → slice_get tables.methods j ≡ Some y
    → (bytes_eq (names.method i).owner (names.method j).owner && bytes_eq (names.method i).name (names.method j).name) ≡ (i == j)
methods_tell zero zero x y e f = refl
methods_tell zero (suc j) x y e f = none_some y f
methods_tell (suc i) j x y e f = none_some x e

declared : (i j c : ℕ) (x y : Method) (k : Class) → slice_get tables.methods i ≡ Some x → slice_get tables.methods j ≡ Some y
    → slice_get tables.classes c ≡ Some k
    → (bytes_eq (names.method i).owner (names.class c) && bytes_eq (names.method i).name (names.selector y.selector)) ≡ true
    → (x.owner ≡ InClass c) × (x.selector ≡ y.selector)
declared zero j zero x y k e g f h = no_true h
declared zero j (suc c) x y k e g f h = none_some k f
declared (suc i) j c x y k e g f h = none_some x e

owners : (i c : ℕ) (x : Method) → slice_get tables.methods i ≡ Some x → x.owner ≡ InClass c → (names.method i).owner ≡ names.class c
owners zero c x e h = absurd (let clash : InComponent 0 ≡ InClass c = ap (λ z. z.owner) (the_same main_method x e) ∙ h in cc)
owners (suc i) c x e h = none_some x e

selectors : (i : ℕ) (x : Method) → slice_get tables.methods i ≡ Some x → names.selector x.selector ≡ (names.method i).name
selectors zero x e = ap (λ z. names.selector z.selector) (sym (the_same main_method x e))
selectors (suc i) x e = none_some x e

above : (c d : ℕ) → is_below tables c d ≡ true → (l : Class) × (slice_get tables.classes d ≡ Some l)
above c d e = let h = below_zero c d e in (a_class, ap (slice_get tables.classes) (sym h.1))

targets : (t : Target) (g : Signature) (b : Body) → signature_of tables t ≡ Some g → body_of store_to_null t ≡ Some b
    → (i : ℕ) × (slice_get tables.targets i ≡ Some t)
targets (Construct zero) g b e f = (0, refl)
targets (Start zero) g b e f = (1, refl)
targets (Run zero) g b e f = (2, refl)
targets (Run (suc m)) g b e f = none_some g e
targets (Construct (suc c)) g b e f = none_some g e
targets (Start (suc k)) g b e f = none_some g e

has_body : (t : Target) (g : Signature) → Bodied t g → (b : Body) × (body_of store_to_null t ≡ Some b)
has_body t g (b, e, typed) = (b, e)

pub names_tell : NamesTell names store_to_null
names_tell = record {
  classes = classes_tell;
  above = above;
  components = components_tell;
  fields = fields_tell;
  methods = methods_tell;
  declared = declared;
  owners = owners;
  selectors = selectors;
  inherits = λ c s m e. no_dispatch c s m e;
  targets = targets;
  bodies = λ t g e. has_body t g (bodies t g e);
}
