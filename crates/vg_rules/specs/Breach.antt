-- A breach of a rule, and the first of several.
use Rattle.std.specs.Prelude.{ℕ, Bool, true, false, Option, Some, None}
use Rattle.vg_syntax.specs.Tree.{Spot}

-- A rule, by its number from 1 to 25, and the node that breaks it.
pub record Breach : Type 0 where
  pub rule : ℕ
  pub node : ℕ

-- The rule is kept at the node where this holds, else it is broken there.
abbrev pub asks : Bool → (rule : ℕ) → Spot → Option Breach
asks true rule at = None
asks false rule at = Some (record { rule = rule; node = at.id })

-- The first breach of two parts. Where the first part has one, nothing is asked of the second.
infixr 10 ◌or◌
abbrev pub ◌or◌ : Option Breach → Option Breach → Option Breach
Some b or rest = Some b
None or rest = rest
