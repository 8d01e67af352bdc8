use Rattle.std.proofs.Common.{◌+◌}
use Rattle.vg_syntax.specs.Reads.{spot}
use Rattle.vg_tree.specs.Held.{text_at}
use Rattle.vg_core.specs.HeldProgram.{code_of}
use Rattle.vg_types_leaves.specs.Reached.{front}
use Rattle.vg_types_leaves.proofs.Reading.{leads_reached}
use Rattle.vg_types_leaves.proofs.Suffixes.{member_leaves, leads_from}
use Rattle.vg_types_leaves.proofs.member.member_behind.Goals as goal

pub returns-in-Some-clause-judged : goal.returns-in-Some-clause-judged
returns-in-Some-clause-judged c =
    member_leaves c.args.names.now c.args.root.now c.args.declared.now c.args.body c.args.locals.now c.args.head c.args.id (spot c.args.place)
    (text_at c.args.names.now c.args.name) c.text_of.result.now c.in-Some.reached
    (record { head = c.head.result; code = c.code.result; next = c.args.id + 1 }) c.text_of.ensures c.in-Some.ensures.reached c.head.ensures.head c.code.ensures

pub returns-in-Some-clause-typed : goal.returns-in-Some-clause-typed
returns-in-Some-clause-typed c =
    leads_from c.args.names.now c.args.root.now c.args.declared.now c.args.body c.args.locals.now c.args.head (front c.in-Some.reached)
    (code_of c.code.result) c.head.result c.in-Some.ensures.front
    (leads_reached c.args.names.now c.args.declared.now c.args.locals.now c.args.body c.args.id c.in-Some.reached
    (record { head = c.head.result; code = c.code.result; next = c.args.id + 1 }) c.in-Some.ensures.reached.1 c.head.ensures.head c.code.ensures)
