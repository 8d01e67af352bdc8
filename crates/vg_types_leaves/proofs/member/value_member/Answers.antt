use Rattle.std.proofs.Common.{sym, ◌∙◌}
use Rattle.vg_types_leaves.proofs.Members.{length_reached}
use Rattle.vg_types_leaves.proofs.member.value_member.Goals as goal

pub returns-then-eq-clause-reached : goal.returns-then-eq-clause-reached
returns-then-eq-clause-reached c =
    length_reached c.args.names.now c.args.root.now c.args.declared.now c.requires.declares c.args.locals.now c.args.id c.in-ArrayType.element c.args.text.now
    c.args.type_ c.in-ArrayType.is c.requires.known (sym c.eq.ensures ∙ c.if-eq.true)
