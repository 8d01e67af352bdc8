-- What the passes over declarations leave, whatever it was that they made on their way.
use Rattle.std.specs.Prelude.{◌≡◌, ℕ, List}
use Rattle.vg_syntax.specs.Tree.{Node}
use Rattle.vg_types_interned.specs.declared.table.Types.{Types}
use Rattle.vg_types_heads.specs.declared.heads.Heads.{Heads}
use Rattle.vg_types_homes.specs.declared.homes.Homes.{Homes}
use Rattle.vg_types_tables.specs.declared.declared.Declared.{Declared}
use Rattle.vg_types_declared.specs.Named.{IsLeft}

-- What is declared is what the passes over these declarations left, with all that can be called.
pub record Left (texts : List (List ℕ)) (ds : Node) (d : Declared) : Type 0 where
  pub types : Types
  pub heads : Heads
  pub homes : Homes
  pub left : IsLeft texts ds types heads homes d
  pub targets : d.tables.targets ≡ homes.targets
