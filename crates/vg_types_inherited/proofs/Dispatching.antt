-- What overrides a method has its function type.
-- The method that a class has and the one that a class above it has stand for members of one name; both are of the same types as the member that is found
-- in the class (`types_kept`), so their function types are one type of the tables, which has one number.
use Rattle.std.proofs.Common.{◌≡◌, ℕ, ◌==◌, Bool, true, false, List, [], ◌∷◌, Option, Some, None, slice_get, if◌then◌else◌, refl, sym, ap, ◌∙◌, arith}
use Rattle.std.proofs.lemmas.Bool.{eqb-true}
use Rattle.vg_tree.specs.declared.node.Node as held_node
use Rattle.vg_tree.specs.Held.{text_at}
use Rattle.vg_source.specs.Types as source
use Rattle.vg_source.specs.Declared.{Member, AMethod, length_of, class_member}
use Rattle.vg_rules.specs.Inherited.{inherited_breach}
use Rattle.vg_core.specs.declared.types.CoreType.TheVariants.{FunctionType}
use Rattle.vg_core.specs.declared.program.Class.{Class}
use Rattle.vg_core.specs.declared.program.Method.{Method}
use Rattle.vg_core.specs.declared.program.Tables.{Tables}
use Rattle.vg_core.specs.Tables.{is_below, is_in, above_in, has_selector, find_selector, methods_in}
use Rattle.vg_core.specs.Typing.{WellFormed}
use Rattle.vg_types_tables.specs.declared.declared.Declared.{Declared}
use Rattle.vg_types_tables.specs.Views.{declarations_at, naming, type_view, row_view}
use Rattle.vg_types_tables.specs.Declares.{Declares, IsFormed, IsClass}
use Rattle.vg_types_tables.proofs.Entries.{known_entry, row_function_view}
use Rattle.vg_types_tables.proofs.OneClass.{one_type}
use Rattle.vg_types_inherited.specs.Dispatches.{IsDeclaredAbove, Dispatches, AllOverride}
use Rattle.vg_types_inherited.proofs.Kept.{types_kept}

-- ---- the tables alone

-- tables that keep all but what overrides what, and that too
pub well_formed : (p : Tables) → IsFormed p → AllOverride p → WellFormed p
well_formed p h o = record {
  itself = h.itself;
  trans = h.trans;
  one_top = h.one_top;
  slots = h.slots;
  global_slots = h.global_slots;
  overrides = o;
  functions = h.functions;
  one_number = h.one_number;
  char_type = h.char_type;
}

-- a method that is found has its selector
record Selected (p : Tables) (s m : ℕ) : Type 0 where
  method : Method
  is : slice_get p.methods m ≡ Some method
  selector : method.selector ≡ s

selected : (p : Tables) (ms : List ℕ) (s m : ℕ) → find_selector p ms s ≡ Some m → Selected p s m
selected p [] s m e = cc
selected p (k ∷ ms) s m e = by (slice_get p.methods k) refl e (selected p ms s m)
  where
    on : (y : Method) → slice_get p.methods k ≡ Some y → (b : Bool) → (y.selector == s) ≡ b
        → (if b then Some k else find_selector p ms s) ≡ Some m → (find_selector p ms s ≡ Some m → Selected p s m) → Selected p s m
    on y f true g z go = record { method = y; is = let w : k ≡ m = cc in ap (slice_get p.methods) (sym w) ∙ f; selector = eqb-true y.selector s g }
    on y f false g z go = go z

    by : (o : Option Method) → slice_get p.methods k ≡ o → (if has_selector o s then Some k else find_selector p ms s) ≡ Some m
        → (find_selector p ms s ≡ Some m → Selected p s m) → Selected p s m
    by None f q go = go q
    by (Some y) f q go = on y f (y.selector == s) refl q go

-- what has classes above it is there
below_there : (p : Tables) (c e : ℕ) → is_below p c e ≡ true → IsClass p c
below_there p c e h = by (slice_get p.classes c) refl h
  where
    by : (o : Option Class) → slice_get p.classes c ≡ o → is_in (above_in o) e ≡ true → (k : Class) × (o ≡ Some k)
    by (Some k) f q = (k, refl)
    by None f q = cc

some_is : {A : Type 0} {x y : A} → Some x ≡ Some y → x ≡ y
some_is e = cc

abbrev params_of : Member → source.StaticType
params_of (AMethod ps r) = ps
params_of _ = source.NoType

abbrev result_of : Member → source.StaticType
result_of (AMethod ps r) = r
result_of _ = source.NoType

module _ (texts : List (List ℕ)) (root : held_node.Node) (d : Declared) (h : Declares texts root d) (q : Dispatches texts root d)
    (b : inherited_breach (declarations_at texts root) (declarations_at texts root) ≡ None) where
  -- the member that a class has under the name of a method of a class above it
  member_is : (c e : ℕ) (y : Method) → is_below d.tables c e ≡ true → IsDeclaredAbove texts root d e y
      → class_member (declarations_at texts root) ((naming texts d).class c) (text_at texts y.name)
      ≡ Some (AMethod (row_view texts d y.params) (type_view texts d y.result))
  member_is c e y l i =
      let t = h.formed.trans c e i.0 l i.2 in
      let k = below_there d.tables c i.0 t in
      let z = h.formed.classes_above c i.0 t in
      types_kept (length_of (declarations_at texts root)) (declarations_at texts root) ((naming texts d).class c) ((naming texts d).class i.0)
      (text_at texts y.name) (row_view texts d y.params) (type_view texts d y.result) b (omega arith)
      (sym (h.below c i.0 k.0 z.0 k.1 z.1) ∙ t) i.3

  same_function : (m n : ℕ) (y z : Method) → slice_get d.tables.methods m ≡ Some y → slice_get d.tables.methods n ≡ Some z
      → row_view texts d y.params ≡ row_view texts d z.params → type_view texts d y.result ≡ type_view texts d z.result → z.function ≡ y.function
  same_function m n y z e f g k =
      let u = h.formed.functions m y e in
      let v = h.formed.functions n z f in
      let w : FunctionType v.0 v.1 ≡ FunctionType u.0 u.1 =
      one_type texts root d h (FunctionType v.0 v.1) (FunctionType u.0 u.1)
      (known_entry d.tables h.formed z.function (FunctionType v.0 v.1) v.2) (known_entry d.tables h.formed y.function (FunctionType u.0 u.1) u.2)
      (row_function_view texts d h.formed v.0 v.1 z.params z.result v.3 v.4
      ∙ sym (ap (λ t. source.FunctionType t (type_view texts d y.result)) g ∙ ap (source.FunctionType (row_view texts d z.params)) k)
      ∙ sym (row_function_view texts d h.formed u.0 u.1 y.params y.result u.3 u.4)) in
      h.formed.one_number z.function y.function (FunctionType v.0 v.1) v.2 (u.2 ∙ ap Some (sym w))

  pub all_override : AllOverride d.tables
  all_override c e s m y l f g =
      let i = q.inherited c e s m l f in
      let z = selected d.tables (methods_in (slice_get d.tables.classes c)) s i.0 i.1 in
      let y' = selected d.tables (methods_in (slice_get d.tables.classes e)) s m f in
      let one : y.selector ≡ z.method.selector = ap (λ w. w.selector) (some_is (sym g ∙ y'.is)) ∙ y'.selector ∙ sym z.selector in
      let a = q.declared e s m y f g in
      let k = q.declared c s i.0 z.method i.1 z.is in
      let own = below_there d.tables c e l in
      let p = member_is c e y l a in
      let r = member_is c c z.method (h.formed.itself c own.0 own.1) k in
      let both : Some (AMethod (row_view texts d y.params) (type_view texts d y.result))
      ≡ Some (AMethod (row_view texts d z.method.params) (type_view texts d z.method.result)) =
      sym p ∙ ap (class_member (declarations_at texts root) ((naming texts d).class c)) (q.one_name m i.0 y z.method g z.is one) ∙ r in (
        i.0,
        k.0,
        z.method,
        i.1,
        z.is,
        same_function m i.0 y z.method g z.is (ap params_of (some_is both)) (ap result_of (some_is both)),
        k.1,
        k.2,
      )
