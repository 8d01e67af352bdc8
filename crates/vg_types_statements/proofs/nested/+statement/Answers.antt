-- Statements leave the locals as they are, or more of them. Rows are loops: what is left of a row has the breach of all, so a fault in the
-- statement or arm at hand is the first of all, and behind the last one the row is done.
use Rattle.std.proofs.Common.{◌+◌, refl, ◌∙◌, arith}
use Rattle.vg_syntax.specs.Numbering.{count_nodes, numbered}
use Rattle.vg_syntax.specs.Reads.{spot}
use Rattle.vg_tree.specs.Held.{node_at, row_at, arm_row}
use Rattle.vg_core.specs.HeldProgram.{code_of}
use Rattle.vg_types_tables.specs.Promises.{Does}
use Rattle.vg_types_statements.specs.Arms.{condition_of, block_of, DoesArm, DoesArms}
use Rattle.vg_types_simple.proofs.Judging.{always_ok, err_in_front, not_false}
use Rattle.vg_types_statements.proofs.Typing.{nothing_runs, loop_runs, then_runs, runs_more}
use Rattle.vg_types_statements.proofs.Rows.{stays, left_grows, row_rest, none_left, going_starts, going_on, going_done, going_next, room_for, broken_there}
use Rattle.vg_types_statements.proofs.Rows.{row_runs}
use Rattle.vg_types_statements.proofs.ArmRows.{if_done_at, arms_rest, arm_is, no_arms_left, arm_room, arm_refused, arms_start, arms_on, arms_done, arms_next}
use Rattle.vg_types_statements.proofs.nested.+statement.Goals as goal

-- ---- a statement

pub statement-returns-in-Nothing-clause-grows : goal.statement-returns-in-Nothing-clause-grows
statement-returns-in-Nothing-clause-grows t c = stays c.args.declared.now.tables c.args.locals.now c.requires.scope

pub statement-returns-in-Eval-clause-grows : goal.statement-returns-in-Eval-clause-grows
statement-returns-in-Eval-clause-grows t c = always_ok c.eval_statement.result (stays c.args.declared.now.tables c.args.locals.now c.requires.scope)

pub statement-returns-in-Assign-clause-grows : goal.statement-returns-in-Assign-clause-grows
statement-returns-in-Assign-clause-grows t c = always_ok c.assign_statement.result (stays c.args.declared.now.tables c.args.locals.now c.requires.scope)

pub statement-returns-in-Return-clause-grows : goal.statement-returns-in-Return-clause-grows
statement-returns-in-Return-clause-grows t c = always_ok c.return_statement.result (stays c.args.declared.now.tables c.args.locals.now c.requires.scope)

pub statement-returns-in-Break-clause-grows : goal.statement-returns-in-Break-clause-grows
statement-returns-in-Break-clause-grows t c = always_ok c.jump.result (stays c.args.declared.now.tables c.args.locals.now c.requires.scope)

pub statement-returns-in-Continue-clause-grows : goal.statement-returns-in-Continue-clause-grows
statement-returns-in-Continue-clause-grows t c =
    always_ok c.jump-in-Continue.result (stays c.args.declared.now.tables c.args.locals.now c.requires.scope)

-- ---- blocks and rows

pub block_statement-returns-clause-grows : goal.block_statement-returns-clause-grows
block_statement-returns-clause-grows t c =
    left_grows c.args.declared.now.tables c.args.locals.now c.statements.new.locals c.leave.new.self _ c.in_ok-done.ensures.grows c.requires.scope
    c.len-count.ensures c.leave.ensures.in_scope c.leave.ensures.declared

pub statements-statement-requires : goal.statements-statement-requires
statements-statement-requires t c =
    let n = room_for c.args.names.now c.args.root.now c.args.declared.now c.args.body c.args.locals.now c.args.id (row_at c.args.names.now c.args.nodes.now)
    c.each.codes.items c.each.next c.each.locals (node_at c.args.names.now c.node-item.result) _ _ c.each.invariant
    (row_rest c.args.names.now c.args.nodes.now c.each.node-index c.node-item.result c.each-test.true c.node-item.is) in
    let a = n.0 in
    let b = n.1 in
    let room = c.requires.room in
    (omega (arith, b), (c.requires.declares, (c.requires.body, (c.each.invariant.grows.known, omega (arith, a, room)))))

pub statements-returns-in-Err-clause-judged : goal.statements-returns-in-Err-clause-judged
statements-returns-in-Err-clause-judged t c =
    err_in_front
    (Does c.args.names.now c.args.root.now c.args.declared.now c.args.body c.each.locals
    (numbered c.each.next (node_at c.args.names.now c.node-item.result)) c.statement.new.locals)
    (Does c.args.names.now c.args.root.now c.args.declared.now c.args.body c.args.locals.now
    (numbered c.args.id (row_at c.args.names.now c.args.nodes.now)) c.statement.new.locals)
    c.in-Err.fault _ _ _
    (broken_there c.args.names.now c.args.root.now c.args.declared.now c.args.body c.args.locals.now c.args.id (row_at c.args.names.now c.args.nodes.now)
    c.each.codes.items c.each.next c.each.locals (node_at c.args.names.now c.node-item.result) _ _ c.each.invariant
    (row_rest c.args.names.now c.args.nodes.now c.each.node-index c.node-item.result c.each-test.true c.node-item.is))
    c.in-Err.ensures.judged

pub statements-each-preserved : goal.statements-each-preserved
statements-each-preserved t c =
    going_on c.args.names.now c.args.root.now c.args.declared.now c.args.body c.args.locals.now c.args.id (row_at c.args.names.now c.args.nodes.now)
    c.each.codes.items _ c.each.next c.each.locals c.statement.new.locals (node_at c.args.names.now c.node-item.result) _ c.in-Ok.done _ c.each.invariant
    (row_rest c.args.names.now c.args.nodes.now c.each.node-index c.node-item.result c.each-test.true c.node-item.is)
    c.in-Ok.ensures.judged c.in-Ok.ensures.typed c.in-Ok.ensures.grows c.in-Ok.ensures.next c.in_ok-push.ensures.items

pub statements-each-init : goal.statements-each-init
statements-each-init t c =
    going_starts c.args.names.now c.args.root.now c.args.declared.now c.args.body c.args.locals.now c.args.id (row_at c.args.names.now c.args.nodes.now)
    c.new-codes.result.items c.new-codes.ensures.items c.requires.scope

pub statements-returns-clause-judged : goal.statements-returns-clause-judged
statements-returns-clause-judged t c =
    going_done c.args.names.now c.args.root.now c.args.declared.now c.args.body c.args.locals.now c.args.id (row_at c.args.names.now c.args.nodes.now)
    c.each.codes.items c.each.next c.each.locals _ (record { code = c.row.result; next = c.each.next }) c.each.invariant
    (none_left c.args.names.now c.args.nodes.now c.each.node-index c.each-test.false) c.row.ensures

pub statements-returns-clause-typed : goal.statements-returns-clause-typed
statements-returns-clause-typed t c =
    row_runs c.args.declared.now.tables c.args.body c.each.locals.declared c.each.codes.items (code_of c.row.result) c.each.invariant.runs c.row.ensures

pub statements-returns-clause-grows : goal.statements-returns-clause-grows
statements-returns-clause-grows t c = c.each.invariant.grows

pub statements-returns-clause-next : goal.statements-returns-clause-next
statements-returns-clause-next t c =
    going_next c.args.names.now c.args.root.now c.args.declared.now c.args.body c.args.locals.now c.args.id (row_at c.args.names.now c.args.nodes.now)
    c.each.codes.items c.each.next c.each.locals _ c.each.invariant (none_left c.args.names.now c.args.nodes.now c.each.node-index c.each-test.false)

-- ---- loops

pub while_statement-returns-clause-typed : goal.while_statement-returns-clause-typed
while_statement-returns-clause-typed t c =
    loop_runs c.args.declared.now.tables c.args.body c.looped.result c.args.locals.now c.statement.new.locals (code_of c.in_ok-judged.judged.code)
    (code_of c.in_ok-done.done.code) (code_of c.nothing.result) (code_of c.in_ok-code.code) c.in_ok-judged.judged.type_ c.looped.ensures
    (c.if-not-is_bool.ensures.bool refl)
    c.in_ok-judged.ensures.typed c.in_ok-done.ensures.grows c.in_ok-done.ensures.typed
    (nothing_runs c.args.declared.now.tables c.args.body c.args.locals.now (code_of c.nothing.result) c.nothing.ensures) c.in_ok-code.ensures

pub for_statement-returns-clause-typed : goal.for_statement-returns-clause-typed
for_statement-returns-clause-typed t c =
    then_runs c.args.declared.now.tables c.args.body c.statement.new.locals (code_of c.in_ok-before.before.code) (code_of c.in_ok-loop_code.loop_code)
    (code_of c.in_ok-code.code)
    (runs_more c.args.declared.now.tables c.args.body c.args.locals.now.declared c.in_ok-done.ensures.grows.more_types c.statement.new.locals.declared
    (code_of c.in_ok-before.before.code) c.in_ok-done.ensures.grows.types c.in_ok-before.ensures.typed)
    (loop_runs c.args.declared.now.tables c.args.body c.looped.result c.args.locals.now c.statement.new.locals (code_of c.in_ok-judged.judged.code)
    (code_of c.in_ok-done.done.code) (code_of c.in_ok-behind.behind.code) (code_of c.in_ok-loop_code.loop_code) c.in_ok-judged.judged.type_
    c.looped.ensures (c.if-not-is_bool.ensures.bool refl) c.in_ok-judged.ensures.typed c.in_ok-done.ensures.grows c.in_ok-done.ensures.typed
    c.in_ok-behind.ensures.typed
    c.in_ok-loop_code.ensures)
    c.in_ok-code.ensures

-- ---- arms

pub if_statement-returns-clause-judged : goal.if_statement-returns-clause-judged
if_statement-returns-clause-judged t c =
    if_done_at c.args.names.now c.args.root.now c.args.declared.now c.args.body c.args.locals.now c.arms.new.locals c.statement.new.locals c.args.id
    (spot c.args.place) (numbered (c.args.id + 1) (arm_row c.args.names.now c.args.pairs.now)) (node_at c.args.names.now c.args.otherwise.now)
    c.in_ok-arms.arms.next _ c.in_ok-arms.ensures.next
    c.in_ok-arms.arms c.in_ok-last.last (record { code = c.in_ok-code.code; next = c.in_ok-last.last.next }) c.in_ok-arms.ensures.judged
    (not_false c.in_ok-arms.arms.holds c.if-not-arms.false) c.in_ok-last.ensures.judged c.in_ok-code.ensures

pub arms-arm-requires : goal.arms-arm-requires
arms-arm-requires t c =
    let n = arm_room c.args.names.now c.args.root.now c.args.declared.now c.args.body c.args.locals.now c.args.id (arm_row c.args.names.now c.args.pairs.now)
    c.each.codes.items c.each.holds c.each.next c.each.locals c.pair-item.result _ _ c.each.invariant
    (arms_rest c.args.names.now c.args.pairs.now c.each.pair-index c.pair-item.result c.each-test.true c.pair-item.is) in
    let a = n.0 in
    let b = n.1 in
    let room = c.requires.room in
    (omega (arith, b), (c.requires.declares, (c.requires.body, (c.each.invariant.grows.known, omega (arith, a, room)))))

pub arms-returns-in-Err-clause-judged : goal.arms-returns-in-Err-clause-judged
arms-returns-in-Err-clause-judged t c =
    arm_refused c.args.names.now c.args.root.now c.args.declared.now c.args.body
    (DoesArm c.args.names.now c.args.root.now c.args.declared.now c.args.body c.each.locals
    (numbered c.each.next (condition_of c.args.names.now c.pair-item.result))
    (numbered (c.each.next + count_nodes (condition_of c.args.names.now c.pair-item.result)) (block_of c.args.names.now c.pair-item.result)) c.arm.new.locals)
    (DoesArms c.args.names.now c.args.root.now c.args.declared.now c.args.body c.args.locals.now
    (numbered c.args.id (arm_row c.args.names.now c.args.pairs.now)) c.arm.new.locals)
    c.in-Err.fault c.args.locals.now c.args.id
    (arm_row c.args.names.now c.args.pairs.now) c.each.codes.items c.each.holds c.each.next c.each.locals c.pair-item.result _ _ c.each.invariant
    (arms_rest c.args.names.now c.args.pairs.now c.each.pair-index c.pair-item.result c.each-test.true c.pair-item.is) c.in-Err.ensures.judged

pub arms-each-init : goal.arms-each-init
arms-each-init t c =
    arms_start c.args.names.now c.args.root.now c.args.declared.now c.args.body c.args.locals.now c.args.id (arm_row c.args.names.now c.args.pairs.now)
    c.new-codes.result.items c.new-codes.ensures.items c.requires.scope

pub arms-each-preserved : goal.arms-each-preserved
arms-each-preserved t c =
    arms_on c.args.names.now c.args.root.now c.args.declared.now c.args.body c.args.locals.now c.args.id (arm_row c.args.names.now c.args.pairs.now)
    c.each.codes.items c.each.holds c.each.next c.each.locals (condition_of c.args.names.now c.pair-item.result) (block_of c.args.names.now
    c.pair-item.result)
    _ _ c.each.invariant
    (arms_rest c.args.names.now c.args.pairs.now c.each.pair-index c.pair-item.result c.each-test.true c.pair-item.is
    ∙ arm_is c.args.names.now c.pair-item.result _ c.in-Ok.ensures.pair)
    _ c.in_ok-code.code c.both-holds.result c.in-Ok.one.next c.arm.new.locals c.in-Ok.one c.in-Ok.ensures.judged c.in-Ok.ensures.test c.in-Ok.ensures.typed
    c.in-Ok.ensures.grows c.in_ok-code.ensures.code (c.in_ok-code.ensures.named c.args.names.now c.args.declared.now) c.both-holds.ensures
    c.in-Ok.ensures.next c.in_ok-push.ensures.items

pub arms-returns-clause-judged : goal.arms-returns-clause-judged
arms-returns-clause-judged t c =
    arms_done c.args.names.now c.args.root.now c.args.declared.now c.args.body c.args.locals.now c.args.id (arm_row c.args.names.now c.args.pairs.now)
    c.each.holds c.each.next c.each.locals _ (record { codes = c.each.codes; holds = c.each.holds; next = c.each.next }) c.each.invariant
    (no_arms_left c.args.names.now c.args.pairs.now c.each.pair-index c.each-test.false) refl

pub arms-returns-clause-typed : goal.arms-returns-clause-typed
arms-returns-clause-typed t c = c.each.invariant.runs

pub arms-returns-clause-grows : goal.arms-returns-clause-grows
arms-returns-clause-grows t c = c.each.invariant.grows

pub arms-returns-clause-next : goal.arms-returns-clause-next
arms-returns-clause-next t c =
    arms_next c.args.names.now c.args.root.now c.args.declared.now c.args.body c.args.locals.now c.args.id (arm_row c.args.names.now c.args.pairs.now)
    c.each.codes.items c.each.holds c.each.next c.each.locals _ c.each.invariant
    (no_arms_left c.args.names.now c.args.pairs.now c.each.pair-index c.each-test.false)
