-- Tables of types.
use Rattle.std.specs.Prelude.{◌≡◌, ℕ, nat_lt, ◌&&◌, Bool, true, List, [], ◌∷◌, slice_get, Option, Some, None}
use Rattle.vg_core.specs.declared.types.CoreType.{CoreType}
use Rattle.vg_core.specs.declared.types.CoreType.TheVariants.{ClassType, ArrayType, FunctionType, NoType, MoreTypes, CharType}
use Rattle.vg_source.specs.Names.{Name}
use Rattle.vg_tree.specs.declared.type_tree.Param.{Param}
use Rattle.vg_tree.specs.Held.{type_at}
use Rattle.vg_source.specs.Declared.{written_type}
use Rattle.vg_source.specs.Types.{StaticType}
use Rattle.vg_core.specs.Naming.{Naming, no_key, named_types, named_type_in}
use Rattle.vg_types_views.specs.ByText.{found}

-- A type is made of classes with numbers below k and of types with numbers below n.
abbrev pub is_made_of : (k n : ℕ) → CoreType → Bool
is_made_of k n (ClassType c) = nat_lt c k
is_made_of k n (ArrayType t) = nat_lt t n
is_made_of k n (FunctionType ps r) = nat_lt ps n && nat_lt r n
is_made_of k n (MoreTypes t rest) = nat_lt t n && nat_lt rest n
is_made_of k n _ = true

-- A table of types over k classes: equal types have one number, each type is made of earlier ones, and that of characters is the first.
pub record AreTypes (k : ℕ) (ts : List CoreType) : Type 0 where
  pub one_number : (i j : ℕ) (t : CoreType) → slice_get ts i ≡ Some t → slice_get ts j ≡ Some t → i ≡ j
  pub made_of : (n : ℕ) (t : CoreType) → slice_get ts n ≡ Some t → is_made_of k n t ≡ true
  pub char_type : slice_get ts 0 ≡ Some CharType

-- A map of texts to their places in it.
abbrev pub AreNumbered : List (Name × ℕ) → Type 0
AreNumbered m = (x : Name) (c : ℕ) → found x m ≡ Some c → slice_get m c ≡ Some (x, c)

-- ---- what types stand for

-- The name at a place.
abbrev pub name_in : Option (Name × ℕ) → Name
name_in (Some e) = e.0
name_in None = []

-- The names of classes, where this map has their numbers. Nothing else is named.
abbrev pub class_names : List (Name × ℕ) → Naming
class_names m = record {
  class = λ c. name_in (slice_get m c);
  component = λ k. [];
  field = λ f. no_key;
  method = λ y. no_key;
  selector = λ s. [];
}

-- The types of a table.
abbrev pub views : List (Name × ℕ) → List CoreType → List StaticType
views m ts = named_types (class_names m) [] ts

-- A type that is made of classes of this map and of types of this table.
abbrev pub type_view : List (Name × ℕ) → List CoreType → CoreType → StaticType
type_view m ts t = named_type_in (class_names m) (views m ts) t

-- The type that is written for a parameter.
abbrev pub param_type : (texts : List (List ℕ)) → Param → StaticType
param_type texts p = written_type (type_at texts p.type_)

-- ---- numbers of rows and of function types

-- The number n is that of the row of these types.
abbrev pub IsRowIn : (table : List CoreType) → List CoreType → (n : ℕ) → Type 0
IsRowIn table [] n = slice_get table n ≡ Some NoType
IsRowIn table (t ∷ ts) n =
    (first rest : ℕ) × (slice_get table n ≡ Some (MoreTypes first rest)) × (slice_get table first ≡ Some t) × IsRowIn table ts rest

-- The number n is that of the function type of these parameters and this result.
abbrev pub IsFunctionIn : (table params : List CoreType) → (value : CoreType) → (n : ℕ) → Type 0
IsFunctionIn table params value n =
    (ps r : ℕ) × (slice_get table n ≡ Some (FunctionType ps r)) × IsRowIn table params ps × (slice_get table r ≡ Some value)
