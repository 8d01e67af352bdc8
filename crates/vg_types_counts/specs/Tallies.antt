-- Mirrors: how the code goes through the declarations of a text. No clause of a public function cites them.
use Rattle.std.specs.Prelude.{ℕ, suc, ◌+◌, ◌≤◌, max, nat_le, Bool, true, false, length, Option, Some, None}
use Rattle.vg_syntax.specs.Tree.{Node, Nothing, Then, ClassDecl, ComponentDecl, FieldDecl, MethodDecl, ConstructorDecl}
use Rattle.vg_syntax.specs.Numbering.{count_nodes}
use Rattle.vg_rules.specs.declared.what.What.TheVariants.{Classes, Methods, Locals, Height}
use Rattle.vg_rules.specs.Counts.{height}
use Rattle.vg_rules.specs.Limits.{limit_of}
use Rattle.vg_tree.specs.declared.node.Node as held
use Rattle.vg_types_counts.specs.declared.tally.Tally.{Tally}
use Rattle.vg_types_counts.specs.Extents.{locals_in}

-- the first node past a limit: this one, where there was none before and it is not within
abbrev pub noted : Option ℕ → (within : Bool) → (node : ℕ) → Option ℕ
noted (Some first) within node = Some first
noted None true node = None
noted None false node = Some node

-- past so many nodes
abbrev pub passed : Tally → ℕ → Tally
passed t n = record t { next = t.next + n }

-- behind a class or component, and before its members
abbrev pub with_class : Tally → Tally
with_class t = record t { next = t.next + 1; classes = suc t.classes; past_classes = noted t.past_classes (nat_le (suc t.classes) (limit_of Classes)) t.next }

-- behind a field whose initialiser has so many nodes and this height
abbrev pub with_field : Tally → (nodes height : ℕ) → Tally
with_field t n h = record t { next = t.next + (1 + n); past_height = noted t.past_height (nat_le h (limit_of Height)) t.next }

-- behind a method or constructor whose parameters and locals are few or not, with so many nodes below it and this height below it
abbrev pub with_method : Tally → (few : Bool) → (nodes height : ℕ) → Tally
with_method t few n h = record t {
  next = t.next + (1 + n);
  methods = suc t.methods;
  past_methods = noted t.past_methods (nat_le (suc t.methods) (limit_of Methods)) t.next;
  past_locals = noted t.past_locals few t.next;
  past_height = noted t.past_height (nat_le (suc h) (limit_of Height)) t.next;
}

-- whether so many parameters and so many locals are within the limit
abbrev pub are_few : (params locals : ℕ) → Bool
are_few params locals = nat_le (params + locals) (limit_of Locals)

-- behind a member
abbrev pub tally_member : Tally → Node → Tally
tally_member t (FieldDecl at x type e) = with_field t (count_nodes e) (height e)
tally_member t (MethodDecl at x ps type body) = with_method t (are_few (length ps) (locals_in body)) (count_nodes body) (height body)
tally_member t (ConstructorDecl at ps calls args body) =
    with_method t (are_few (length ps) (locals_in body)) (count_nodes args + count_nodes body) (max (height args) (height body))
tally_member t a = passed t (count_nodes a)

-- behind members
abbrev pub tally_members : Tally → Node → Tally
tally_members t Nothing = t
tally_members t (Then m rest) = tally_members (tally_member t m) rest
tally_members t a = passed t (count_nodes a)

-- behind a declaration
abbrev pub tally_declaration : Tally → Node → Tally
tally_declaration t (ClassDecl at c above members) = tally_members (with_class t) members
tally_declaration t (ComponentDecl at c members) = tally_members (with_class t) members
tally_declaration t a = passed t (count_nodes a)

-- behind declarations
abbrev pub tally_declarations : Tally → Node → Tally
tally_declarations t Nothing = t
tally_declarations t (Then d rest) = tally_declarations (tally_declaration t d) rest
tally_declarations t a = passed t (count_nodes a)

-- before the first declaration, which has the number 1
abbrev pub first_tally : Tally
first_tally = record { next = 1; classes = 0; methods = 0; past_classes = None; past_methods = None; past_locals = None; past_height = None }

-- each class and each method has a node
pub record IsTally (t : Tally) : Type 0 where
  pub classes : t.classes ≤ t.next
  pub methods : t.methods ≤ t.next

-- whether a node is a field, a method or a constructor
abbrev pub is_member : held.Node → Bool
is_member (held.FieldDecl' place name type p e) = true
is_member (held.MethodDecl' place name params result p body) = true
is_member (held.ConstructorDecl' place params calls_super p arguments q body) = true
is_member _ = false

-- whether a node is a class or a component
abbrev pub has_members : held.Node → Bool
has_members (held.ClassDecl' place name above p members) = true
has_members (held.ComponentDecl' place name p members) = true
has_members _ = false

-- whether a node is a row
abbrev pub is_row : held.Node → Bool
is_row (held.Row' shape all) = true
is_row _ = false

-- whether a node is a whole text
abbrev pub is_text : held.Node → Bool
is_text (held.Text' place p declarations) = true
is_text _ = false
