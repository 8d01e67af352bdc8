use Rattle.std.proofs.Common.{◌+◌}
use Rattle.vg_syntax.specs.Reads.{spot}
use Rattle.vg_tree.specs.Held.{text_at}
use Rattle.vg_types_leaves.proofs.Suffixes.{member_aims, member_stores}
use Rattle.vg_types_leaves.proofs.member.member_target.Goals as goal

pub returns-in-Some-clause-judged : goal.returns-in-Some-clause-judged
returns-in-Some-clause-judged c =
    member_aims c.args.names.now c.args.root.now c.args.declared.now c.args.body c.args.locals.now c.args.head c.args.id (spot c.args.place)
    (text_at c.args.names.now c.args.name) c.text_of.result.now c.in-Some.reached c.place.result (c.args.id + 1) c.text_of.ensures c.in-Some.ensures.reached
    c.place.ensures

pub returns-in-Some-clause-typed : goal.returns-in-Some-clause-typed
returns-in-Some-clause-typed c =
    member_stores c.args.names.now c.args.root.now c.args.declared.now c.args.body c.args.locals.now c.args.head c.args.id c.in-Some.reached c.place.result
    c.in-Some.ensures.front c.in-Some.ensures.reached.1 c.place.ensures
