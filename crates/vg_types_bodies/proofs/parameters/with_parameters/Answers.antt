use Rattle.std.proofs.Common.{sym, ap}
use Rattle.vg_tree_walks.proofs.Passing.{left_of}
use Rattle.vg_tree.specs.Held.{param_at}
use Rattle.vg_types_bodies.specs.Parameters.{params_at}
use Rattle.vg_types_bodies.proofs.InScope.{none_left, passing_starts, passing_on, passing_ends}
use Rattle.vg_types_bodies.proofs.parameters.with_parameters.Goals as goal

pub each-init : goal.each-init
each-init c =
    passing_starts c.args.names.now c.args.declared.now (params_at c.args.names.now c.args.params.now) c.new-locals.result c.new-locals.ensures.in_scope
    c.new-locals.ensures.declared

pub each-preserved : goal.each-preserved
each-preserved c =
    passing_on c.args.names.now c.args.declared.now (params_at c.args.names.now c.args.params.now) c.each.locals c.declare.new.self _ _ _ c.in-Some.type_
    c.each.invariant
    (ap (params_at c.args.names.now) (left_of c.args.params.now c.each.param-index c.param-item.result c.each-test.true (sym c.param-item.is)))
    c.in-Some.ensures.0 c.in-Some.ensures.1 c.in_ok-declare.ensures.scope c.in_ok-declare.ensures.declared
    (c.in_ok-declare.ensures.kept c.each.invariant.declared c.in-Some.ensures.1)

pub returns : goal.returns
returns c =
    passing_ends c.args.names.now c.args.declared.now (params_at c.args.names.now c.args.params.now) c.each.locals _ c.each.invariant
    (none_left (param_at c.args.names.now) c.args.params.now c.each.param-index c.each-test.false)
