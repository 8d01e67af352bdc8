use Rattle.vg_core.specs.Typing.{compare_up, compare_down}
use Rattle.vg_types_tables.specs.Views.{declarations_at, type_view}
use Rattle.vg_types_operators.proofs.Comparing.{not_left, not_right}
use Rattle.vg_types_operators.proofs.compared.comparable.Goals as goal

pub returns-then-not-left_is-clause-exact : goal.returns-then-not-left_is-clause-exact
returns-then-not-left_is-clause-exact c =
    not_left (declarations_at c.args.names.now c.args.root.now) (type_view c.args.names.now c.args.declared.now c.args.left)
    (type_view c.args.names.now c.args.declared.now c.args.right) c.in_ok-left_is.left_is c.if-not-left_is.true
    (c.in_ok-left_is.ensures.exact c.args.names.now c.args.declared.now)

pub returns-then-not-right_is-clause-exact : goal.returns-then-not-right_is-clause-exact
returns-then-not-right_is-clause-exact c =
    not_right (declarations_at c.args.names.now c.args.root.now) (type_view c.args.names.now c.args.declared.now c.args.left)
    (type_view c.args.names.now c.args.declared.now c.args.right) c.in_ok-left_is.left_is c.in_ok-right_is.right_is c.if-not-left_is.false
    c.if-not-right_is.true (c.in_ok-left_is.ensures.exact c.args.names.now c.args.declared.now)
    (c.in_ok-right_is.ensures.exact c.args.names.now c.args.declared.now)

pub returns-then-fits-clause-typed : goal.returns-then-fits-clause-typed
returns-then-fits-clause-typed c = λ h o s.
    compare_up s (c.in_ok-left_is.ensures.typed c.if-not-left_is.false) (c.in_ok-right_is.ensures.typed c.if-not-right_is.false)
    (c.fits.ensures.sub c.if-fits.true)

pub returns-clause-typed : goal.returns-clause-typed
returns-clause-typed c = λ h o s.
    compare_down s (c.in_ok-left_is.ensures.typed c.if-not-left_is.false) (c.in_ok-right_is.ensures.typed c.if-not-right_is.false)
    (c.fits-2.ensures.sub h)
