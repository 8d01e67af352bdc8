use Rattle.std.proofs.Common.{◌≡◌, false, IfOk, IfNone, sym, subst}
use Rattle.vg_syntax.specs.Tree.{Node}
use Rattle.vg_source.specs.Resolved.{Scope}
use Rattle.vg_rules.specs.Bodies.{Body, call_keeps}
use Rattle.vg_types_tables.specs.Views.{head_view}
use Rattle.vg_types_calls.proofs.call.call_of.Goals as goal

pub returns-in-Value-clause-none : goal.returns-in-Value-clause-none
returns-in-Value-clause-none c =
    subst (λ h. IfOk c.value_call.result (λ o. IfNone o ((ds : Node) (k : Body) (args : Node) (ls : Scope)
    → call_keeps ds k args (head_view c.args.names.now c.args.declared.now h) ls ≡ false))) (sym c.in-Value.is) c.value_call.ensures.none
