-- The layout of the worked program is the one of its live set.
use Rattle.std.proofs.Common.{◌≡◌, refl, sym, ap, subst, ◌∙◌, arith, ℕ, zero, suc, ◌<◌, true, false, List, length, Option, Some, None, slice_get, pos}
use mathlib.Core.Logic.{inl}
use Rattle.vg_core.specs.declared.member.Member.TheVariants.{Method, Field, Cell}
use Rattle.vg_core.specs.declared.value.CoreValue.{CoreValue}
use Rattle.vg_core.specs.declared.value.CoreValue.TheVariants.{Int, Obj, Bound}
use Rattle.vg_core.specs.declared.step.Step.{Step}
use Rattle.vg_core.specs.declared.step.Step.TheVariants.{ComponentMethod, MethodOf, CallMethod, CallComponent, CallValue}
use Rattle.vg_core.specs.declared.program.Field.{Field as TheField}
use Rattle.vg_core.specs.declared.program.Method.{Method as TheMethod}
use Rattle.vg_core.specs.declared.program.Owner.TheVariants.{InClass, InComponent}
use Rattle.vg_core.specs.declared.program.Target.TheVariants.{Run}
use Rattle.vg_core.specs.Heap.{ObjectOf, ArrayOf, Place, OfComponent, OfObject, OfArray, value_at}
use Rattle.vg_core.specs.Program.{Body, Signature, signature_of}
use Rattle.vg_sound.proofs.Values.{the_same, none_some}
use Rattle.vg_coded.specs.Numbers.{coded}
use Rattle.vg_packing.specs.Layout as layouts
use Rattle.vg_packing.specs.Layout.{Spot, spot}
use Rattle.vg_packing.specs.Pass.{packed}
use Rattle.vg_packing.specs.Allowed.{IsRead, IsWritten, IsArray}
use Rattle.vg_packing.specs.Packs.{IsKeptPlace, entry_at}
use Rattle.vg_live.specs.Uses.{steps_of, Asked, asked, made_at}
use Rattle.vg_live.specs.Rules.{Live, none, by, main, component_field, class_field, in_component}
use Rattle.vg_numbers.specs.Numbers.{IsChain, AreChains}
use Rattle.vg_placement.specs.declared.column.Held.TheVariants.{Field as OfField}
use Rattle.vg_placement.specs.declared.column.Column.{Column}
use Rattle.vg_placement.specs.Columns.{item_width, columns}
use Rattle.vg_packed.specs.Apart.{held_in, HasColumns}
use Rattle.vg_packed.specs.Uses.{Has, HasDelegates, Calls, held}
use Rattle.vg_packed.specs.Uses as used
use Rattle.vg_packed.specs.IsOf.{IsOf}
use Rattle.vg_packed.specs.IsPlaced.{IsPlaced}
use Rattle.vg_start_examples.specs.Worked.{program, heap, kinds, kept, layout, procedure_of, codes, firm, main_signature}

-- ---- what is live

main_live : Live program heap (Some (Method 0))
main_live = by main (omega arith) none none

a_live : Live program heap (Some (Field 1))
a_live = by (component_field 0 refl) (omega arith) main_live none

log_live : Live program heap (Some (Field 0))
log_live = by (class_field 1 8 refl) (omega arith) main_live none

object_live : Live program heap (Some (Cell 0))
object_live = by (in_component (Obj 0) refl refl) (omega arith) a_live none

-- ---- what steps do not do

-- a step calls, or names a method
abbrev names : Option Step → ℕ
names (Some (ComponentMethod n)) = 1
names (Some (MethodOf at c s)) = 1
names (Some (CallMethod at c s count)) = 1
names (Some (CallComponent n count)) = 1
names (Some (CallValue at count t)) = 1
names _ = 0

nothing_named : (m i : ℕ) → names (slice_get (steps_of program m) i) ≡ 1 → ⊥
nothing_named zero zero e = omega (arith, e)
nothing_named zero (suc zero) e = omega (arith, e)
nothing_named zero (suc (suc zero)) e = omega (arith, e)
nothing_named zero (suc (suc (suc i))) e = omega (arith, e)
nothing_named (suc m) i e = omega (arith, e)

has_none : (m : ℕ) (s : Step) → Has program heap m s → names (Some s) ≡ 1 → ⊥
has_none m s has e = nothing_named m has.place (ap names has.stands ∙ e)

abbrev made : Option Step → Option ℕ
made (Some s) = made_at s
made None = None

made_nothing : (m i : ℕ) → made (slice_get (steps_of program m) i) ≡ None
made_nothing zero zero = refl
made_nothing zero (suc zero) = refl
made_nothing zero (suc (suc zero)) = refl
made_nothing zero (suc (suc (suc i))) = refl
made_nothing (suc m) i = refl

abbrev asks : Option Step → Option Asked
asks (Some s) = asked s
asks None = None

asks_nothing : (m i : ℕ) → asks (slice_get (steps_of program m) i) ≡ None
asks_nothing zero zero = refl
asks_nothing zero (suc zero) = refl
asks_nothing zero (suc (suc zero)) = refl
asks_nothing zero (suc (suc (suc i))) = refl
asks_nothing (suc m) i = refl

-- ---- delegates

abbrev is_bound : Option CoreValue → ℕ
is_bound (Some (Bound r m)) = 1
is_bound _ = 0

unbound : (x : Place) → is_bound (value_at program.tables heap x) ≡ 1 → ⊥
unbound (OfComponent zero) e = omega (arith, e)
unbound (OfComponent (suc zero)) e = omega (arith, e)
unbound (OfComponent (suc (suc f))) e = omega (arith, e)
unbound (OfObject zero zero) e = omega (arith, e)
unbound (OfObject zero (suc zero)) e = omega (arith, e)
unbound (OfObject zero (suc (suc f))) e = omega (arith, e)
unbound (OfObject (suc j) f) e = omega (arith, e)
unbound (OfArray zero i) e = omega (arith, e)
unbound (OfArray (suc j) i) e = omega (arith, e)

no_delegates : (m : ℕ) → HasDelegates program heap m → ⊥
no_delegates _ (used.HasDelegates.of_component m {n} has) = has_none m (ComponentMethod n) has refl
no_delegates _ (used.HasDelegates.of_object m at c s has finds) = has_none m (MethodOf at c s) has refl
no_delegates _ (held x r a b e) = unbound x (ap is_bound e)

no_calls : (m n : ℕ) → Calls program heap m n → ⊥
no_calls m _ (used.Calls.of_component count {n} has) = has_none m (CallComponent n count) has refl
no_calls m _ (used.Calls.of_object at c s count has finds) = has_none m (CallMethod at c s count) has refl
no_calls m _ (used.by_delegate at count y has there d) = has_none m (CallValue at count y.function) has refl

-- ---- the layout is the one of the live set

false_true : {X : Type 0} → false ≡ true → X
false_true e = absurd (let clash : false ≡ true = e in cc)

cells : (j : ℕ) → Live program heap (Some (Cell j)) → 0 < layout.numbering.number j
cells zero live = omega arith
cells (suc j) (by rule there a b) = absurd (omega (arith, there))

only_cells : (j : ℕ) → 0 < layout.numbering.number j → Live program heap (Some (Cell j))
only_cells zero h = object_live
only_cells (suc j) h = absurd (omega (arith, h))

component_fields : (f k : ℕ) (y : TheField) → slice_get program.tables.fields f ≡ Some y → y.owner ≡ InComponent k → Live program heap (Some (Field f))
    → (c : layouts.Column) × (layout.column f ≡ Some c)
component_fields zero k y e eo live = (_, refl)
component_fields (suc zero) k y e eo live = (_, refl)
component_fields (suc (suc f)) k y e eo live = none_some y e

class_fields : (f : ℕ) → Live program heap (Some (Field f)) → IsRead program.tables layout f
class_fields zero live j c i o e = (_, refl)
class_fields (suc zero) live j c i o e = (_, refl)
class_fields (suc (suc f)) live j c i o e = none_some i e

only_fields : (f : ℕ) (c : layouts.Column) → layout.column f ≡ Some c → Live program heap (Some (Field f))
only_fields zero c e = log_live
only_fields (suc zero) c e = a_live
only_fields (suc (suc f)) c e = none_some c e

methods : (m : ℕ) → Live program heap (Some (Method m)) → (q : ℕ) × (layout.numbering.procedure m ≡ Some q)
methods zero live = (0, refl)
methods (suc m) (by rule there a b) = absurd (omega (arith, there))

only_methods : (m q : ℕ) → layout.numbering.procedure m ≡ Some q → Live program heap (Some (Method m))
only_methods zero q e = main_live
only_methods (suc m) q e = none_some q e

class_receives : (m c : ℕ) (y : TheMethod) → slice_get program.tables.methods m ≡ Some y → y.owner ≡ InClass c → layout.receives m ≡ true
class_receives zero c y e eo = absurd (clash (ap (λ z. z.owner) (the_same _ _ e) ∙ eo))
  where
    clash : InComponent 0 ≡ InClass c → ⊥
    clash q = cc
class_receives (suc m) c y e eo = none_some y e

written : (x : ℕ) → IsWritten (layout.column x)
written zero = refl
written (suc zero) = refl
written (suc (suc x)) = tt

values : (x : Place) (o : Spot) (v : CoreValue) → IsKeptPlace layout x → spot program.tables layout x ≡ Some o → value_at program.tables heap x ≡ Some v
    → entry_at firm firm.ram o ≡ Some (coded layout.numbering codes v)
values (OfComponent zero) o v kept s e = none_some v e
values (OfComponent (suc zero)) o v kept s e =
    subst (λ z. entry_at firm firm.ram z ≡ Some (coded layout.numbering codes v)) (the_same _ _ s)
    (subst (λ z. Some 1 ≡ Some (coded layout.numbering codes z)) (the_same (Obj 0) v e) refl)
values (OfComponent (suc (suc f))) o v kept s e = none_some v e
values (OfObject zero zero) o v kept s e =
    subst (λ z. entry_at firm firm.ram z ≡ Some (coded layout.numbering codes v)) (the_same _ _ s)
    (subst (λ z. Some 0 ≡ Some (coded layout.numbering codes z)) (the_same (Int (pos 0)) v e) refl)
values (OfObject zero (suc zero)) o v kept s e = none_some v e
values (OfObject zero (suc (suc f))) o v kept s e = none_some v e
values (OfObject (suc j) f) o v kept s e = none_some v e
values (OfArray zero i) o v kept s e = none_some v e
values (OfArray (suc j) i) o v kept s e = none_some v e

pub of_live : IsOf program heap layout codes firm
of_live = record {
  kinds = refl;
  cells = cells;
  only_cells = only_cells;
  component_fields = component_fields;
  class_fields = class_fields;
  only_fields = only_fields;
  methods = methods;
  only_methods = only_methods;
  bindable = λ m d. absurd (no_delegates m d);
  only_bindable = λ m e. false_true e;
  class_receives = class_receives;
  bindable_receives = λ m e. false_true e;
  edges = λ m n q c e. absurd (no_calls m n c);
  nothing_made = λ m s has. sym (ap made has.stands) ∙ made_nothing m has.place;
  fields_in_ram = λ m x s has e. written x;
  items_in_ram = λ m t s has e. refl;
  dispatches = λ m j d n q s x has e o b g eq. none_some x (sym (asks_nothing m has.place) ∙ (ap asks has.stands ∙ e));
  values = values;
}

-- ---- and it is placed

chains : AreChains program.tables
chains zero k e = subst (λ z. IsChain program.tables 0 z.above) (the_same _ _ e) (inl refl)
chains (suc c) k e = none_some k e

no_arrays : (j t n : ℕ) → IsArray layout j t n → ⊥
no_arrays zero t n (e, h) = let clash : Some (ObjectOf 0) ≡ Some (ArrayOf t n) = e in cc
no_arrays (suc j) t n (e, h) = none_some (ArrayOf t n) e

-- the columns of all fields
abbrev all : List Column
all = columns program.tables (record { live = λ f. true; written = λ f. true; items_written = λ t. true; kept = kept; count = layout.count }) kinds

fields_stand : (f : ℕ) (c : layouts.Column) → layout.column f ≡ Some c → slice_get (held_in c.home all) c.column ≡ Some (OfField f)
fields_stand zero c e = subst (λ z. slice_get (held_in z.home all) z.column ≡ Some (OfField 0)) (the_same _ _ e) refl
fields_stand (suc zero) c e = subst (λ z. slice_get (held_in z.home all) z.column ≡ Some (OfField 1)) (the_same _ _ e) refl
fields_stand (suc (suc f)) c e = none_some c e

has_columns : HasColumns layout kept all
has_columns = record {
  fields = fields_stand;
  items = λ j t n is. absurd (no_arrays j t (suc n) is);
  starts = λ j t n is. absurd (no_arrays j t n is);
  kept_cells = λ j h. refl;
}

code_numbers : (m q : ℕ) → procedure_of m ≡ Some q → (codes.at_code (codes.code q) ≡ Some q) × (0 < codes.code q) × (codes.code q < 65536)
code_numbers zero q e = subst (λ z. (codes.at_code (codes.code z) ≡ Some z) × (0 < codes.code z) × (codes.code z < 65536)) (the_same _ _ e)
    (refl, omega arith, omega arith)
code_numbers (suc m) q e = none_some q e

procedures : (m q : ℕ) (g : Signature) (b : Body) → procedure_of m ≡ Some q → signature_of program.tables (Run m) ≡ Some g
    → slice_get program.methods m ≡ Some b → slice_get firm.procedures q ≡ Some (packed program.tables layout codes m g b)
procedures zero q g b e eg eb =
    subst (λ z. slice_get firm.procedures z ≡ Some (packed program.tables layout codes 0 g b)) (the_same _ _ e)
    (subst (λ z. slice_get firm.procedures 0 ≡ Some (packed program.tables layout codes 0 z b)) (the_same _ _ eg)
    (subst (λ z. slice_get firm.procedures 0 ≡ Some (packed program.tables layout codes 0 main_signature z)) (the_same _ _ eb) refl))
procedures (suc m) q g b e eg eb = none_some q e

few_parameters : (m q : ℕ) (y : TheMethod) → procedure_of m ≡ Some q → slice_get program.tables.methods m ≡ Some y → length y.params < 61
few_parameters zero q y e ey = subst (λ z. length z.params < 61) (the_same _ _ ey) (omega arith)
few_parameters (suc m) q y e ey = none_some q e

pub placed : IsPlaced program layout codes firm
placed = record {
  kept = kept;
  columns = all;
  chains = chains;
  counted = record { numbers = λ j. refl; firsts = λ c. refl; counts = λ c. refl };
  few = omega arith;
  has_columns = has_columns;
  widths = λ t. refl;
  items = λ t e h. ap item_width h;
  tables = λ j t n is. absurd (no_arrays j t n is);
  codes = code_numbers;
  few_parameters = few_parameters;
  procedures = procedures;
  main = refl;
  handlers = λ v. tt;
}
