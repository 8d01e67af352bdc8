use Rattle.vg_syntax.specs.Numbering.{numbered}
use Rattle.vg_syntax.specs.Reads.{spot}
use Rattle.std.proofs.Common.{◌+◌}
use Rattle.vg_tree.specs.Held.{node_at}
use Rattle.vg_types_expressions.proofs.Calling.{making_leaves}
use Rattle.vg_types_expressions.proofs.called.made.Goals as goal

pub returns-in_ok-standing-in-Some-clause-judged : goal.returns-in_ok-standing-in-Some-clause-judged
returns-in_ok-standing-in-Some-clause-judged c =
    let s = c.in_ok-standing-in-Some.ensures in
    making_leaves c.args.names.now c.args.root.now c.args.declared.now c.args.body c.args.locals.now c.args.id (spot c.args.place) c.args.name.now
    (numbered (c.args.id + 1) (node_at c.args.names.now c.args.args.now)) c.args.params.now c.args.argued c.in-Some.call c.in_ok-standing-in-Some.standing
    c.requires.kept c.requires.argued c.requires.params c.in-Some.ensures.making c.if-argued.true s.head s.code
