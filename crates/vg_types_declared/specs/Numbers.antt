-- The numbers of nodes say nothing of names and members.
use Rattle.std.specs.Prelude.{◌≡◌, ℕ}
use Rattle.vg_syntax.specs.Tree.{Node}
use Rattle.vg_syntax.specs.Numbering.{numbered}
use Rattle.vg_types_heads.specs.Heads.{HeadsView, with_heads}
use Rattle.vg_types_homes.specs.Homes.{HomesView, with_declarations}

-- The passes over numbered declarations leave what they leave of the declarations.
pub record Unnumbered (ds : Node) : Type 0 where
  pub heads : (i : ℕ) (v : HeadsView) → with_heads (numbered i ds) v ≡ with_heads ds v
  pub homes : (i : ℕ) (v : HomesView) → with_declarations (numbered i ds) v ≡ with_declarations ds v
