-- Rules that are asked at a node of this number.
use Rattle.std.specs.Prelude.{ℕ, Bool, true, false, Option, Some, None, not, is_some, if◌then◌else◌}
use Rattle.vg_syntax.specs.Tree.{TypeTree, Node}
use Rattle.vg_source.specs.Names.{Name}
use Rattle.vg_source.specs.Types.{StaticType}
use Rattle.vg_source.specs.Resolved.{Scope, find_local}
use Rattle.vg_rules.specs.Breach.{Breach, ◌or◌}
use Rattle.vg_rules.specs.Fits.{fits}
use Rattle.vg_rules.specs.Written.{type_keeps}
use Rattle.vg_rules.specs.Inherited.{has_no_type}

-- The rule is kept where this holds, else it is broken at the node.
abbrev pub asked : Bool → (rule node : ℕ) → Option Breach
asked true rule node = None
asked false rule node = Some (record { rule = rule; node = node })

-- A value of this type may be returned where there is such a result.
abbrev pub return_fits : Node → (value result : StaticType) → Bool
return_fits ds u r = if has_no_type r then false else fits ds u r

-- Rules 11 and 8 for a local: no parameter or local in scope has its name, and its type is written rightly.
abbrev pub declaration_breach : Node → (id : ℕ) → Name → TypeTree → Scope → Option Breach
declaration_breach ds id x t ls = asked (not (is_some (find_local ls.names x))) 11 id or asked (type_keeps ds t) 8 id
