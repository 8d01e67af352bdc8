-- Mirrors: how the code goes over entries. No clause of a public function cites them.
use Rattle.std.specs.Prelude.{◌≡◌, ℕ, ◌+◌, ◌==◌, ◌&&◌, Bool, true, false, List, [], ◌∷◌, ◌++◌, map, Option, Some, None, slice_get, if◌then◌else◌}
use Rattle.vg_syntax.specs.Tree.{Node, EntryDecl}
use Rattle.vg_syntax.specs.Numbering.{numbered}
use Rattle.vg_tree.specs.declared.node.Node as held
use Rattle.vg_tree.specs.Held.{text_at, node_at, row_at}
use Rattle.vg_source.specs.Names.{Name}
use Rattle.vg_source.specs.Literals.{number_of}
use Rattle.vg_source.specs.Program.{entries_in}
use Rattle.vg_rules.specs.Breach.{Breach, ◌or◌}
use Rattle.vg_rules.specs.Names.{programs}
use Rattle.vg_rules.specs.Entries.{is_main, mains, is_vector, keys_keep, methods_breach, entries_breach}
use Rattle.vg_core.specs.declared.types.CoreType.{CoreType}
use Rattle.vg_core.specs.declared.types.CoreType.TheVariants.{NoType}
use Rattle.vg_core.specs.declared.program.Owner.TheVariants.{InComponent}
use Rattle.vg_core.specs.declared.program.Handler.{Handler}
use Rattle.vg_core.specs.declared.program.Method.{Method}
use Rattle.vg_core.specs.declared.program.Tables.{Tables}
use Rattle.vg_types_tables.specs.declared.declared.Declared.{Declared}
use Rattle.vg_types_tables.specs.Views.{naming}
use Rattle.vg_types_entries.specs.declared.program.Entry.{Entry as HeldEntry}
use Rattle.vg_types_entries.specs.declared.program.Main.{Main}
use Rattle.vg_types_entries.specs.declared.program.Main.TheVariants.{Missing, Once, Twice}
use Rattle.vg_types_entries.specs.declared.program.Passed.{Passed}

-- ---- methods

-- a method is in the tables
abbrev pub IsMethodNumber : Tables → ℕ → Type 0
IsMethodNumber p m = (y : Method) × (slice_get p.methods m ≡ Some y)

-- what is entered: a method of a component without parameters, by its names
pub record IsEntered (texts : List (List ℕ)) (d : Declared) (c x : Name) (m : ℕ) : Type 0 where
  pub method : Method
  pub component : ℕ
  pub is : slice_get d.tables.methods m ≡ Some method
  pub owner : method.owner ≡ InComponent component
  pub params : method.params ≡ []
  pub owner_named : ((naming texts d).method m).owner ≡ c
  pub named : ((naming texts d).method m).name ≡ x

abbrev pub is_nothing : CoreType → Bool
is_nothing NoType = true
is_nothing _ = false

abbrev pub is_empty : {A : Type 0} → List A → Bool
is_empty [] = true
is_empty (x ∷ xs) = false

-- a method has no parameters and no result
abbrev pub is_plain : Option Method → Bool
is_plain (Some y) = is_empty y.params && is_nothing y.result
is_plain None = false

-- ---- the program declaration

-- the entries of a program declaration
abbrev pub program_at : List (List ℕ) → held.Node → Option Node
program_at texts (held.ProgramDecl' place name p es) = Some (node_at texts es)
program_at texts _ = None

-- the first breach in a program declaration of this number with these entries
abbrev pub program_breach : Node → (id : ℕ) → Node → Option Breach
program_breach ds id es = methods_breach ds es or (if (mains es == 1) && keys_keep [] es then None else Some (record { rule = 3; node = id }))

-- the program declaration has this number and these entries; where there is one such declaration, the breach of all is its breach
pub record IsProgramAt (nodes : List held.Node) (id : ℕ) (es : held.Node) : Type 0 where
  pub breach : (texts : List (List ℕ)) (ds : Node) → programs (numbered 1 (row_at texts nodes)) ≡ 1
      → entries_breach ds (numbered 1 (row_at texts nodes)) ≡ program_breach ds id (numbered (id + 1) (node_at texts es))
  pub entries : (texts : List (List ℕ)) → entries_in (numbered 1 (row_at texts nodes)) ≡ numbered (id + 1) (node_at texts es)

-- ---- entries

pub record Entry : Type 0 where
  pub key : List ℕ
  pub component : Name
  pub method : Name

abbrev pub entry_of : Node → Option Entry
entry_of (EntryDecl at key c m) = Some (record { key = key; component = c; method = m })
entry_of _ = None

abbrev pub entry_view : List (List ℕ) → HeldEntry → Entry
entry_view texts e = record { key = text_at texts e.key; component = text_at texts e.component; method = text_at texts e.method }

-- before the first entry
abbrev pub no_entries : Passed
no_entries = record { main = Missing; kept = true; handlers = [] }

-- with one more `main`
abbrev pub again : Main → ℕ → Main
again Missing m = Once m
again _ m = Twice

abbrev pub vectors : List Handler → List ℕ
vectors hs = map (λ h. h.vector) hs

-- behind a key that is no `main`, where those before it are vectors that differ
abbrev pub with_key : List ℕ → ℕ → Passed → Passed
with_key key m p =
    if is_vector (vectors p.handlers) key then record p { handlers = p.handlers ++ (record { vector = number_of key; method = m }) ∷ [] }
    else record p { kept = false }

-- behind an entry of this key and this method
abbrev pub with_entry : List ℕ → ℕ → Passed → Passed
with_entry key m p = if is_main key then record p { main = again p.main m } else if p.kept then with_key key m p else p

-- the method of the one `main`, where the other keys are kept
abbrev pub only_main : Main → Bool → Option ℕ
only_main (Once m) true = Some m
only_main _ kept = None
