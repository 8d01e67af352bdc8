-- What the entries of a program stand for.
use Rattle.std.specs.Prelude.{◌≡◌, ℕ, List, map}
use Rattle.vg_syntax.specs.Tree.{Node}
use Rattle.vg_tree.specs.declared.node.Node as held_node
use Rattle.vg_source.specs.Program.{main_of, handlers_in, entries_in}
use Rattle.vg_core.specs.declared.program.Target.TheVariants.{Run}
use Rattle.vg_core.specs.Naming.{named_target, named_handler}
use Rattle.vg_core.specs.Program.{Program}
use Rattle.vg_core.specs.Typing.{IsEntry, AreEntries}
use Rattle.vg_types_tables.specs.declared.declared.Declared.{Declared}
use Rattle.vg_types_tables.specs.Views.{declarations_at, naming}
use Rattle.vg_types_entries.specs.declared.program.ProgramEntries.{ProgramEntries}

-- The entries are those that this row of entries names, and are entries in each program of these tables.
pub record NamesEntries (texts : List (List ℕ)) (d : Declared) (row : Node) (e : ProgramEntries) : Type 0 where
  pub main : named_target (naming texts d) d.tables (Run e.main) ≡ main_of row
  pub handlers : map (named_handler (naming texts d) d.tables) e.handlers ≡ handlers_in row
  pub main_is : (p : Program) → p.tables ≡ d.tables → IsEntry p e.main
  pub handlers_are : (p : Program) → p.tables ≡ d.tables → AreEntries p e.handlers

-- The entries are those of the program declaration.
abbrev pub AreEntriesOf : (texts : List (List ℕ)) → held_node.Node → Declared → ProgramEntries → Type 0
AreEntriesOf texts root d e = NamesEntries texts d (entries_in (declarations_at texts root)) e
