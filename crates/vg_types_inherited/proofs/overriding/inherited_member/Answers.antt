use Rattle.vg_types_inherited.proofs.Finds.{member_missing, member_found, member_there}
use Rattle.vg_types_inherited.proofs.overriding.inherited_member.Goals as goal

pub returns-in-Some-clause-member : goal.returns-in-Some-clause-member
returns-in-Some-clause-member c =
    member_found c.args.names.now c.args.root.now c.args.declared.now c.requires c.args.class.now c.args.text.now c.in-Some.number c.class_member.result
    c.in-Some.ensures c.class_member.ensures

pub returns-in-Some-clause-there : goal.returns-in-Some-clause-there
returns-in-Some-clause-there c =
    member_there c.args.names.now c.args.root.now c.args.declared.now c.requires c.args.class.now c.args.text.now c.in-Some.number c.class_member.result
    c.in-Some.ensures c.class_member.ensures

pub returns-in-None-clause-member : goal.returns-in-None-clause-member
returns-in-None-clause-member c =
    member_missing c.args.names.now c.args.root.now c.args.declared.now c.requires c.args.class.now c.args.text.now c.in-None.ensures
