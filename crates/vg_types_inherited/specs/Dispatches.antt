-- Which methods the objects of classes have.
use Rattle.std.specs.Prelude.{◌≡◌, true, ℕ, List, Some, slice_get}
use Rattle.vg_tree.specs.declared.node.Node as held_node
use Rattle.vg_tree.specs.Held.{text_at}
use Rattle.vg_source.specs.Declared.{AMethod, member_in, members_of}
use Rattle.vg_core.specs.declared.program.Owner.TheVariants.{InClass}
use Rattle.vg_core.specs.declared.program.Method.{Method}
use Rattle.vg_core.specs.declared.program.Tables.{Tables}
use Rattle.vg_core.specs.Tables.{is_below, dispatch}
use Rattle.vg_core.specs.Typing.{Overrides}
use Rattle.vg_types_tables.specs.declared.declared.Declared.{Declared}
use Rattle.vg_types_tables.specs.Views.{declarations_at, naming, type_view, row_view}

-- A method is that of its name among the members of its owner, which is class c or above it.
abbrev pub IsDeclaredAbove : (texts : List (List ℕ)) → held_node.Node → Declared → (c : ℕ) → Method → Type 0
IsDeclaredAbove texts root d c y =
    (e : ℕ) × (y.owner ≡ InClass e) × (is_below d.tables c e ≡ true)
    × (member_in ((naming texts d).class e) (members_of (declarations_at texts root) ((naming texts d).class e)) (text_at texts y.name)
    ≡ Some (AMethod (row_view texts d y.params) (type_view texts d y.result)))

-- The methods that the objects of classes have are those that are declared, whatever overrides what.
pub record Dispatches (texts : List (List ℕ)) (root : held_node.Node) (d : Declared) : Type 0 where
  pub declared : (c s m : ℕ) (y : Method) → dispatch d.tables c s ≡ Some m → slice_get d.tables.methods m ≡ Some y → IsDeclaredAbove texts root d c y
  -- a class has a method for each selector for which a class above it has one
  pub inherited : (c e s m : ℕ) → is_below d.tables c e ≡ true → dispatch d.tables e s ≡ Some m → (n : ℕ) × (dispatch d.tables c s ≡ Some n)
  -- methods of one selector have one name
  pub one_name : (m n : ℕ) (y z : Method) → slice_get d.tables.methods m ≡ Some y → slice_get d.tables.methods n ≡ Some z → y.selector ≡ z.selector
      → text_at texts y.name ≡ text_at texts z.name

-- What overrides a method has its function type, in all classes.
abbrev pub AllOverride : Tables → Type 0
AllOverride p = (c e s m : ℕ) (y : Method) → is_below p c e ≡ true → dispatch p e s ≡ Some m → slice_get p.methods m ≡ Some y → Overrides p c s y
