-- What the tables of a typed program keep of what a text declares: its fields and its methods with their types, in order of the text, and the classes above
-- classes.
use Rattle.std.specs.Prelude.{◌≡◌, ℕ, ◌<◌, List, length, map, Some, slice_get}
use Rattle.vg_syntax.specs.Tree.{Node}
use Rattle.vg_source.specs.Names.{Name}
use Rattle.vg_source.specs.Resolved as source
use Rattle.vg_core.specs.declared.program.Owner.{Owner}
use Rattle.vg_core.specs.declared.program.Owner.TheVariants.{InClass, InComponent}
use Rattle.vg_core.specs.declared.program.Field.{Field}
use Rattle.vg_core.specs.declared.program.Method.{Method}
use Rattle.vg_core.specs.declared.program.Tables.{Tables}
use Rattle.vg_core.specs.declared.types.CoreType.TheVariants.{FunctionType}
use Rattle.vg_core.specs.Naming.{Naming, naming_of, named_type, type_at, params_named, result_named, owner_name, text_at}
use Rattle.vg_numbers.specs.Numbers.{AreChains}
use Rattle.vg_static_source.specs.Fields.{DeclaredField, fields_of}
use Rattle.vg_calls_source.specs.Methods.{DeclaredMethod, methods_of}

-- An owner under its name.
abbrev pub named_owner : Naming → Owner → source.Owner
named_owner n (InClass c) = source.InClass (n.class c)
named_owner n (InComponent k) = source.InComponent (n.component k)

-- A field under its names, which are those of these texts.
abbrev pub named_field : (texts : List Name) → Tables → Field → DeclaredField
named_field texts p f = record {
  owner = named_owner (naming_of texts p) f.owner;
  name = text_at texts f.name;
  type = named_type (naming_of texts p) p f.type_;
}

-- A method under its names, with the types of its function type.
abbrev pub named_method : (texts : List Name) → Tables → Method → DeclaredMethod
named_method texts p m = record {
  method = record { owner = owner_name texts p m.owner; name = text_at texts m.name };
  params = params_named (naming_of texts p) p (slice_get p.types m.function);
  result = result_named (naming_of texts p) p (slice_get p.types m.function);
}

-- Function types under one name have one number.
abbrev pub AreOneFunction : Naming → Tables → Type 0
AreOneFunction n p =
    (i j ps r qs s : ℕ) → slice_get p.types i ≡ Some (FunctionType ps r) → slice_get p.types j ≡ Some (FunctionType qs s)
    → type_at n p ps ≡ type_at n p qs → type_at n p r ≡ type_at n p s → i ≡ j

-- A class that declares something is in the tables.
abbrev pub IsOwner : Tables → Owner → Type 0
IsOwner p (InClass c) = c < length p.classes
IsOwner p (InComponent k) = Unit {0}

-- The fields and methods of the tables are those that the text declares, each field of an owner that is there; function types have the numbers of their names;
-- and classes are chained as they stand above one another.
pub record AreWritten (texts : List Name) (text : Node) (p : Tables) : Type 0 where
  pub fields : map (named_field texts p) p.fields ≡ fields_of text
  pub methods : map (named_method texts p) p.methods ≡ methods_of text
  pub functions : AreOneFunction (naming_of texts p) p
  pub owners : (f : ℕ) (y : Field) → slice_get p.fields f ≡ Some y → IsOwner p y.owner
  pub chains : AreChains p

-- The same as one fact. A proof about a program that has it sees its parts only where it asks for them.
pub data IsWritten (texts : List Name) (text : Node) (p : Tables) : Type 0 where
  is_written : AreWritten texts text p → IsWritten texts text p

-- What is written.
abbrev pub parts_of : {texts : List Name} {text : Node} {p : Tables} → IsWritten texts text p → AreWritten texts text p
parts_of (is_written w) = w
