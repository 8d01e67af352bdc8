-- Mirrors: the first breach of a text, in the parts in which the code asks for it, and the program that is put together. No clause of a public function
-- cites them.
use Rattle.std.specs.Prelude.{◌≡◌, ℕ, List, Option, None}
use Rattle.vg_syntax.specs.Tree.{Node, Text}
use Rattle.vg_source.specs.Program.{declarations_of}
use Rattle.vg_rules.specs.Breach.{Breach, ◌or◌}
use Rattle.vg_rules.specs.Inherited.{inherited_breach}
use Rattle.vg_rules.specs.Entries.{entries_breach}
use Rattle.vg_rules.specs.Legal.{written_breach}
use Rattle.vg_core.specs.declared.program.Program.{Program as HeldProgram}
use Rattle.vg_core.specs.Program.{Program}
use Rattle.vg_types_names.specs.Declarations.{names_part}
use Rattle.vg_types_signatures.specs.Parts.{declared_part}
use Rattle.vg_types_tables.specs.declared.declared.Declared.{Declared}
use Rattle.vg_types_entries.specs.declared.program.ProgramEntries.{ProgramEntries}
use Rattle.vg_types_routines.specs.declared.pass.Bodies.{Bodies}
use Rattle.vg_types.specs.Checks.{IsTypedOf}

-- on what is inherited, on the entries of the program, and on what is written in members
abbrev pub members_breach : Node → Option Breach
members_breach ds = inherited_breach ds ds or entries_breach ds ds or written_breach ds ds

abbrev pub members_part : Node → Option Breach
members_part (Text at ds) = members_breach ds
members_part _ = None

-- on the names of declarations and the program, on what each declaration says for itself, and then these
abbrev pub asked_part : Node → Option Breach
asked_part tree = names_part tree or declared_part tree or members_part tree

-- a program is that of each tree that has these declarations
abbrev pub IsProgramFor : List (List ℕ) → Node → Program → Type 0
IsProgramFor texts ds p = (tree : Node) → declarations_of tree ≡ ds → IsTypedOf texts tree p

-- the program has these tables, entries and bodies
pub record IsMovedFrom (d : Declared) (e : ProgramEntries) (b : Bodies) (p : HeldProgram) : Type 0 where
  pub tables : p.tables ≡ d.tables
  pub methods : p.methods ≡ b.methods.items
  pub makings : p.makings ≡ b.makings.items
  pub starts : p.starts ≡ b.starts.items
  pub main : p.main ≡ e.main
  pub handlers : p.handlers ≡ e.handlers
