use Rattle.std.proofs.Common.{◌≡◌, ◌+◌, false, refl, sym, ◌∙◌}
use Rattle.vg_syntax.specs.Numbering.{numbered}
use Rattle.vg_syntax.specs.Reads.{spot}
use Rattle.vg_tree.specs.Held.{text_at, type_at, node_at}
use Rattle.vg_tree.specs.Nothing.{is_nothing}
use Rattle.vg_core.specs.HeldProgram.{code_of}
use Rattle.vg_types_tables.specs.Promises.{Does}
use Rattle.vg_types_simple.specs.Nodes.{local_node}
use Rattle.vg_types_simple.proofs.Judging.{refused}
use Rattle.vg_types_simple.proofs.Written.{written_numbered}
use Rattle.vg_types_simple.proofs.Asking.{local_refused, local_done, local_runs}
use Rattle.vg_types_simple.proofs.local.local_statement.Goals as goal

pub returns-then-not-fits-clause-judged : goal.returns-then-not-fits-clause-judged
returns-then-not-fits-clause-judged c =
    let n : is_nothing (numbered (c.args.id + 1) (node_at c.args.names.now c.args.value.now)) ≡ false
    = written_numbered (c.args.id + 1) (node_at c.args.names.now c.args.value.now) ∙ sym (c.is_nothing.ensures c.args.names.now) ∙ c.if-is_nothing.false in
    refused
    (Does c.args.names.now c.args.root.now c.args.declared.now c.args.body c.args.locals.now
    (local_node c.args.id (spot c.args.place) (text_at c.args.names.now c.args.name) (type_at c.args.names.now c.args.type_.now)
    (numbered (c.args.id + 1) (node_at c.args.names.now c.args.value.now))) c.args.locals.now)
    c.broken.result _ _ c.broken.ensures
    (local_refused c.args.names.now c.args.root.now c.args.declared.now c.args.body c.args.locals.now c.args.id (spot c.args.place)
    (text_at c.args.names.now c.args.name) (type_at c.args.names.now c.args.type_.now)
    (numbered (c.args.id + 1) (node_at c.args.names.now c.args.value.now)) c.in_ok-judged.judged c.in-Ok.wanted n c.in_ok-judged.ensures.judged.0
    c.in_ok-judged.ensures.judged.1 c.in-Ok.ensures.0 c.in-Ok.ensures.1.0 (sym c.fits.ensures.exact ∙ c.if-not-fits.true))

pub returns-clause-judged : goal.returns-clause-judged
returns-clause-judged c =
    let n : is_nothing (numbered (c.args.id + 1) (node_at c.args.names.now c.args.value.now)) ≡ false
    = written_numbered (c.args.id + 1) (node_at c.args.names.now c.args.value.now) ∙ sym (c.is_nothing.ensures c.args.names.now) ∙ c.if-is_nothing.false in
    local_done c.args.names.now c.args.root.now c.args.declared.now c.args.body c.args.locals.now c.args.id (spot c.args.place)
    (text_at c.args.names.now c.args.name) (type_at c.args.names.now c.args.type_.now)
    (numbered (c.args.id + 1) (node_at c.args.names.now c.args.value.now)) c.in_ok-judged.judged c.in-Ok.wanted c.declared_as.new.locals
    (record { code = c.in_ok-code.code; next = c.in_ok-judged.judged.next }) n c.in_ok-judged.ensures.judged.0
    c.in_ok-judged.ensures.judged.1 c.in-Ok.ensures.0 c.in-Ok.ensures.1.0 (sym c.fits.ensures.exact ∙ c.if-not-fits.false) c.in_ok-code.ensures.code
    c.in_ok-code.ensures.scope

pub returns-clause-typed : goal.returns-clause-typed
returns-clause-typed c =
    local_runs c.args.declared.now.tables c.args.body c.args.locals.now c.declared_as.new.locals (code_of c.in_ok-judged.judged.code)
    (code_of c.in_ok-code.code) c.in-Ok.wanted c.in_ok-judged.judged.type_ c.in_ok-judged.ensures.typed (c.if-not-fits.ensures.sub refl)
    c.in_ok-code.ensures.types c.in_ok-code.ensures.code
