-- Operators before an operand.
use Rattle.std.specs.Prelude.{◌≡◌, ◌≤◌, ℕ, true, false, List, length, take, drop, Option, Some, None}
use Rattle.vg_meaning.specs.Code.{Nothing}
use Rattle.vg_syntax.specs.declared.kind.Kind.{Kind}
use Rattle.vg_source.specs.Resolved as source
use Rattle.vg_source.specs.Resolved.{IsValue, apply_all}
use Rattle.vg_rules.specs.Operands.{takes_one, operand_keeps}
use Rattle.vg_core.specs.declared.types.CoreType.{CoreType}
use Rattle.vg_core.specs.declared.operator.Prefix.{Prefix}
use Rattle.vg_core.specs.declared.code.Code as held
use Rattle.vg_core.specs.HeldProgram.{code_row}
use Rattle.vg_core.specs.Operators.{prefix_of}
use Rattle.vg_core.specs.Typing.{PrefixTakes}
use Rattle.vg_types_tables.specs.declared.declared.Declared.{Declared}
use Rattle.vg_types_tables.specs.declared.locals.Locals.{Locals}
use Rattle.vg_types_tables.specs.declared.body.BodyKind.{BodyKind}
use Rattle.vg_types_tables.specs.declared.judged.Head.TheVariants.{Value}
use Rattle.vg_types_tables.specs.Views.{type_view}
use Rattle.vg_types_tables.specs.Promises.{Leads}
use Rattle.vg_types_tables.specs.Codes.{in_front}

module _ (texts : List (List ℕ)) (d : Declared) where
  -- The operator that a sign before an operand of this type is, where it takes the operand.
  abbrev pub IsPrefix : Kind → CoreType → Option Prefix → Type 0
  IsPrefix k t (Some p) = (takes_one k (type_view texts d t) ≡ true) × (prefix_of p ≡ source.prefix_of k) × PrefixTakes p t
  IsPrefix k t None = takes_one k (type_view texts d t) ≡ false

  -- How far a row of operators has come from its end, with so many of them left: those behind take the operand, and all of them
  -- stand for the codes so far and those that are left.
  pub record Applying (b : BodyKind) (ls : Locals) (ks : List Kind) (t : CoreType) (count : ℕ) (codes : List held.Code) : Type 0 where
    pub within : count ≤ length ks
    pub keeps : operand_keeps (drop count ks) (IsValue (type_view texts d t)) ≡ true
    pub stands : in_front texts d codes (apply_all (take count ks) Nothing) ≡ apply_all ks Nothing
    pub leads : Leads d.tables b ls (Value t) (code_row codes) (Value t)
