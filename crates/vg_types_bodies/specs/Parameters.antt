-- Parameters in scope.
use Rattle.std.specs.Prelude.{◌≡◌, ℕ, List, map}
use Rattle.std.specs.List.{AllByRecursion}
use Rattle.vg_syntax.specs.Tree.{Param}
use Rattle.vg_tree.specs.declared.type_tree.Param.{Param as HeldParam}
use Rattle.vg_tree.specs.Held.{param_at}
use Rattle.vg_source.specs.Declared.{row_of}
use Rattle.vg_source.specs.Program.{scope_of}
use Rattle.vg_types_tables.specs.declared.declared.Declared.{Declared}
use Rattle.vg_types_tables.specs.declared.locals.Locals.{Locals}
use Rattle.vg_types_tables.specs.Views.{row_view, scope_view}
use Rattle.vg_types_tables.specs.Declares.{IsKnown}
use Rattle.vg_types_tables.specs.Promises.{AreDeclared}

-- The parameters that the compiler holds.
abbrev pub params_at : (texts : List (List ℕ)) → List HeldParam → List Param
params_at texts ps = map (param_at texts) ps

-- Locals that are these parameters alone.
pub record AreParameters (texts : List (List ℕ)) (d : Declared) (ps : List Param) (ls : Locals) : Type 0 where
  pub scope : scope_view texts d ls ≡ scope_of ps
  pub types : row_view texts d ls.declared ≡ row_of ps
  pub known : AllByRecursion (IsKnown d.tables) ls.declared
  pub declared : AreDeclared d.tables ls
