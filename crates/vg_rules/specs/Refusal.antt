-- Why a text that has a tree is refused: it has too many of something, or it breaks a rule.
use Rattle.std.specs.Prelude.{ℕ, nat_le, List, [], ◌∷◌, Option, Some, None, if◌then◌else◌}
use Rattle.vg_syntax.specs.Tree.{Node}
use Rattle.vg_source.specs.Declared.{or_else}
use Rattle.vg_rules.specs.declared.what.What.{What}
use Rattle.vg_rules.specs.declared.what.What.TheVariants.{Classes, Methods, Locals, Height}
use Rattle.vg_rules.specs.Breach.{Breach}
use Rattle.vg_rules.specs.Legal.{breach_of}
use Rattle.vg_rules.specs.Limits.{limit_of}
use Rattle.vg_rules.specs.Counts.{Counted, counts}

-- What a tree is refused for, with the node.
pub data Refused : Type 0 where
  TooMany : (what : What) (limit node : ℕ) → Refused
  Broken : (rule node : ℕ) → Refused

-- The node of the first declaration whose number passes the limit.
abbrev pub first_past : (limit : ℕ) → List Counted → Option ℕ
first_past limit [] = None
first_past limit (c ∷ cs) = if nat_le c.number limit then first_past limit cs else Some c.node

abbrev pub too_many_at : What → Option ℕ → Option Refused
too_many_at what None = None
too_many_at what (Some node) = Some (TooMany what (limit_of what) node)

-- A text has too many of this.
abbrev pub too_many_of : What → Node → Option Refused
too_many_of what text = too_many_at what (first_past (limit_of what) (counts what text))

-- A text has too many of something: the first, in this order and then in order of the text.
abbrev pub too_many : Node → Option Refused
too_many text =
    or_else (too_many_of Classes text) (or_else (too_many_of Methods text) (or_else (too_many_of Locals text) (too_many_of Height text)))

abbrev pub broken_at : Option Breach → Option Refused
broken_at None = None
broken_at (Some b) = Some (Broken b.rule b.node)

-- Why a text is refused: what it has too many of comes first, then the first rule that it breaks.
abbrev pub refusal_of : Node → Option Refused
refusal_of text = or_else (too_many text) (broken_at (breach_of text))
