use Rattle.std.proofs.Common.{◌≡◌, ◌+◌, false, refl, sym, ◌∙◌}
use Rattle.vg_meaning.specs.Code.{Nothing, Then, Do}
use Rattle.vg_syntax.specs.Numbering.{numbered}
use Rattle.vg_syntax.specs.Reads.{spot}
use Rattle.vg_tree.specs.Held.{node_at}
use Rattle.vg_tree.specs.Nothing.{is_nothing}
use Rattle.vg_core.specs.declared.step.Step.TheVariants.{Put}
use Rattle.vg_core.specs.declared.value.CoreValue.TheVariants.{Null}
use Rattle.vg_core.specs.HeldProgram.{code_of}
use Rattle.vg_types_tables.specs.Promises.{Does}
use Rattle.vg_types_simple.specs.Nodes.{return_node}
use Rattle.vg_types_simple.proofs.Judging.{refused, judged_ok}
use Rattle.vg_types_simple.proofs.Typing.{returns_nothing, returns_value}
use Rattle.vg_types_simple.proofs.Written.{written_numbered}
use Rattle.vg_types_simple.proofs.Asking.{return_refused, return_done}
use Rattle.vg_types_simple.proofs.returns.return_statement.Goals as goal

pub returns-then-is_nothing-clause-typed : goal.returns-then-is_nothing-clause-typed
returns-then-is_nothing-clause-typed c =
    judged_ok _ _ c.return_nothing.result _
    (λ j w. returns_nothing c.args.declared.now.tables c.args.body c.args.locals.now (Then (Do (Put Null)) Nothing) (code_of j.code) (sym w.1) refl w.0)
    c.return_nothing.ensures.judged

pub returns-then-not-may_return-clause-judged : goal.returns-then-not-may_return-clause-judged
returns-then-not-may_return-clause-judged c =
    let n : is_nothing (numbered (c.args.id + 1) (node_at c.args.names.now c.args.value.now)) ≡ false
    = written_numbered (c.args.id + 1) (node_at c.args.names.now c.args.value.now) ∙ sym (c.is_nothing.ensures c.args.names.now) ∙ c.if-is_nothing.false in
    refused
    (Does c.args.names.now c.args.root.now c.args.declared.now c.args.body c.args.locals.now
    (return_node c.args.id (spot c.args.place) (numbered (c.args.id + 1) (node_at c.args.names.now c.args.value.now))) c.args.locals.now)
    c.broken.result _ _ c.broken.ensures
    (return_refused c.args.names.now c.args.root.now c.args.declared.now c.args.body c.args.locals.now c.args.id (spot c.args.place)
    (numbered (c.args.id + 1) (node_at c.args.names.now c.args.value.now)) c.in_ok-judged.judged n c.in_ok-judged.ensures.judged.0
    c.in_ok-judged.ensures.judged.1 (sym c.may_return.ensures.exact ∙ c.if-not-may_return.true))

pub returns-clause-judged : goal.returns-clause-judged
returns-clause-judged c =
    let n : is_nothing (numbered (c.args.id + 1) (node_at c.args.names.now c.args.value.now)) ≡ false
    = written_numbered (c.args.id + 1) (node_at c.args.names.now c.args.value.now) ∙ sym (c.is_nothing.ensures c.args.names.now) ∙ c.if-is_nothing.false in
    return_done c.args.names.now c.args.root.now c.args.declared.now c.args.body c.args.locals.now c.args.id (spot c.args.place)
    (numbered (c.args.id + 1) (node_at c.args.names.now c.args.value.now)) c.in_ok-judged.judged
    (record { code = c.in_ok-code.code; next = c.in_ok-judged.judged.next }) n c.in_ok-judged.ensures.judged.0
    c.in_ok-judged.ensures.judged.1 (sym c.may_return.ensures.exact ∙ c.if-not-may_return.false) c.in_ok-code.ensures

pub returns-clause-typed : goal.returns-clause-typed
returns-clause-typed c =
    returns_value c.args.declared.now.tables c.args.body c.args.locals.now (code_of c.in_ok-judged.judged.code) (code_of c.in_ok-code.code)
    c.in_ok-judged.judged.type_ c.in_ok-judged.ensures.typed (c.if-not-may_return.ensures.sub refl) c.in_ok-code.ensures
