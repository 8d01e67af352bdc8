-- Each answer names the law of its node: what stands for the parts, their codes one behind another.
use Rattle.std.proofs.Common.{◌≡◌, ◌+◌, ◌-◌, ◌&&◌, ◌==◌, [], ◌∷◌, ◌++◌, length, drop, sym, refl, subst, arith, ap, ◌∙◌}
use Rattle.std.proofs.lemmas.Grind.{common_steps}
use Rattle.vg_syntax.specs.Tree.{Then}
use Rattle.vg_syntax.specs.Numbering.{count_nodes, numbered}
use Rattle.vg_syntax.specs.Reads.{spot}
use Rattle.vg_tree.specs.Held.{node_at, row_at}
use Rattle.vg_source.specs.Resolved.{Fresh}
use Rattle.vg_core.specs.HeldProgram.{code_of, code_chain}
use Rattle.vg_types_views.specs.Judges.{Judges}
use Rattle.vg_types_tables.specs.declared.judged.Head.TheVariants.{Nothing, Value}
use Rattle.vg_types_tables.specs.declared.judged.Standing.{Standing}
use Rattle.vg_types_tables.specs.Views.{declarations_at, owner_view, scope_view}
use Rattle.vg_types_tables.specs.Promises.{Leaves}
use Rattle.vg_types_expressions.specs.Arguments.{Arguing}
use Rattle.vg_types_expressions.specs.Links.{Linking}
use Rattle.vg_types_expressions.proofs.RowRests.{row_rest, some_left, last_left, none_left}
use Rattle.vg_types_expressions.proofs.Arguing.{one_argument, arguing_ends, arguing_puts}
use Rattle.vg_types_expressions.proofs.Linking.{one_link, row_leaves, row_leads}
use Rattle.vg_types_expressions.proofs.Wholes.{no_name_front, two_lead, chain_leaves, part_judged}
use Rattle.vg_types_expressions.proofs.+expression.Goals as goal

pub whole::expression-returns-clause-typed : goal.whole::expression-returns-clause-typed
whole::expression-returns-clause-typed t c = c.in_ok-settle.ensures.typed Nothing c.in_ok-standing.ensures.typed

pub whole::front_links-each-preserved : goal.whole::front_links-each-preserved
whole::front_links-each-preserved t c =
    let nodes = c.args.nodes.now in
    let n = c.index-nodes-index.result in
    let i = c.each.index in
    let test = c.each-test.true in
    let first = row_rest c.args.names.now nodes i n (omega (arith, test)) c.index-nodes-index.is in
    let second = some_left c.args.names.now nodes (i + 1) (omega (arith, test)) in
    let r = subst (Linking c.args.names.now c.args.root.now c.args.declared.now c.args.body c.args.locals.now c.args.head c.args.id
    (row_at c.args.names.now nodes) c.each.codes.items c.each.so_far c.each.next) (first ∙ ap (Then (node_at c.args.names.now n)) second.1) c.each.invariant in
    subst (λ z. Linking c.args.names.now c.args.root.now c.args.declared.now c.args.body c.args.locals.now c.args.head c.args.id
    (row_at c.args.names.now nodes) z c.in_ok-one.one.head c.in_ok-one.one.next (row_at c.args.names.now (drop (i + 1) nodes)))
    (sym c.in_ok-push.ensures.items)
    (subst (Linking c.args.names.now c.args.root.now c.args.declared.now c.args.body c.args.locals.now c.args.head c.args.id
    (row_at c.args.names.now nodes) (c.each.codes.items ++ c.in_ok-one.one.code ∷ []) c.in_ok-one.one.head c.in_ok-one.one.next) (sym second.1)
    (one_link c.args.names.now c.args.root.now c.args.declared.now c.args.body c.args.locals.now c.args.head c.args.id (row_at c.args.names.now nodes)
    c.each.codes.items c.each.so_far c.each.next (node_at c.args.names.now n) (node_at c.args.names.now second.0)
    (row_at c.args.names.now (drop (i + 1 + 1) nodes)) c.in_ok-one.one r c.in_ok-one.ensures.judged.0 c.in_ok-one.ensures.judged.1 c.in_ok-one.ensures.typed
    c.in_ok-one.ensures.next))

pub whole::link_row-returns-clause-judged : goal.whole::link_row-returns-clause-judged
whole::link_row-returns-clause-judged t c =
    let nodes = c.args.nodes.now in
    let n = c.index-nodes-nodes.result in
    let r = subst (Linking c.args.names.now c.args.root.now c.args.declared.now c.args.body c.args.locals.now c.args.head c.args.id
    (row_at c.args.names.now nodes) c.in_ok-fronts.fronts.codes.items c.in_ok-fronts.fronts.head c.in_ok-fronts.fronts.next)
    (last_left c.args.names.now nodes (length nodes - 1) n (grind (arith, common_steps)) c.index-nodes-nodes.is) c.in_ok-fronts.ensures.judged in
    let j : Standing = record { head = c.in_ok-last.last.head; code = c.chain.result; next = c.in_ok-last.last.next } in
    row_leaves c.args.names.now c.args.root.now c.args.declared.now c.args.body c.args.locals.now c.args.head c.args.id (row_at c.args.names.now nodes)
    c.in_ok-fronts.fronts.codes.items c.in_ok-fronts.fronts.head c.in_ok-fronts.fronts.next (node_at c.args.names.now n) c.in_ok-last.last j r
    c.in_ok-last.ensures.judged.0 c.in_ok-last.ensures.judged.1 refl (c.chain.ensures ∙ ap code_chain c.in_ok-push.ensures.items)

pub whole::link_row-returns-clause-typed : goal.whole::link_row-returns-clause-typed
whole::link_row-returns-clause-typed t c =
    let nodes = c.args.nodes.now in
    let n = c.index-nodes-nodes.result in
    let r = subst (Linking c.args.names.now c.args.root.now c.args.declared.now c.args.body c.args.locals.now c.args.head c.args.id
    (row_at c.args.names.now nodes) c.in_ok-fronts.fronts.codes.items c.in_ok-fronts.fronts.head c.in_ok-fronts.fronts.next)
    (last_left c.args.names.now nodes (length nodes - 1) n (grind (arith, common_steps)) c.index-nodes-nodes.is) c.in_ok-fronts.ensures.judged in
    let j : Standing = record { head = c.in_ok-last.last.head; code = c.chain.result; next = c.in_ok-last.last.next } in
    row_leads c.args.names.now c.args.root.now c.args.declared.now c.args.body c.args.locals.now c.args.head c.args.id (row_at c.args.names.now nodes)
    c.in_ok-fronts.fronts.codes.items c.in_ok-fronts.fronts.head c.in_ok-fronts.fronts.next (node_at c.args.names.now n) c.in_ok-last.last j r
    c.in_ok-last.ensures.typed refl (c.chain.ensures ∙ ap code_chain c.in_ok-push.ensures.items)

pub whole::operand-returns-in-None-clause-judged : goal.whole::operand-returns-in-None-clause-judged
whole::operand-returns-in-None-clause-judged t c =
    subst (Judges (Leaves c.args.names.now c.args.root.now c.args.declared.now c.args.body c.args.locals.now
    (numbered c.args.id (node_at c.args.names.now c.args.first.now)) Fresh) c.primary.result)
    (sym (no_name_front (declarations_at c.args.names.now c.args.root.now) (owner_view c.args.names.now c.args.declared.now c.args.body.owner)
    (scope_view c.args.names.now c.args.declared.now c.args.locals.now) (numbered c.args.id (node_at c.args.names.now c.args.first.now)) _ _
    (c.in-None.ensures.none c.args.names.now c.args.id))) c.primary.ensures.judged

pub whole::operator_chain-returns-clause-judged : goal.whole::operator_chain-returns-clause-judged
whole::operator_chain-returns-clause-judged t c =
    let j : Standing = record { head = c.in_ok-behind.behind.head; code = c.in_ok-code.code; next = c.in_ok-behind.behind.next } in
    chain_leaves c.args.names.now c.args.root.now c.args.declared.now c.args.body c.args.locals.now c.args.id c.in_ok-front.front.next
    (c.args.id + 1 + count_nodes (node_at c.args.names.now c.args.first.now)) (spot c.args.place)
    (numbered (c.args.id + 1) (node_at c.args.names.now c.args.first.now))
    (node_at c.args.names.now c.args.parts.now) c.in_ok-front.front c.in_ok-behind.behind j
    c.in_ok-front.ensures.next c.in_ok-front.ensures.judged.0 c.in_ok-front.ensures.judged.1 c.in_ok-behind.ensures.judged.0
    c.in_ok-behind.ensures.judged.1 refl
    c.in_ok-code.ensures

pub whole::operator_chain-returns-clause-typed : goal.whole::operator_chain-returns-clause-typed
whole::operator_chain-returns-clause-typed t c =
    two_lead c.args.names.now c.args.root.now c.args.declared.now c.args.body c.args.locals.now Nothing (Value c.in_ok-front.front.type_)
    c.in_ok-behind.behind.head (code_of c.in_ok-front.front.code) (code_of c.in_ok-behind.behind.code) (code_of c.in_ok-code.code) c.in_ok-code.ensures
    c.in_ok-front.ensures.typed c.in_ok-behind.ensures.typed

pub whole::postfix-returns-clause-typed : goal.whole::postfix-returns-clause-typed
whole::postfix-returns-clause-typed t c =
    two_lead c.args.names.now c.args.root.now c.args.declared.now c.args.body c.args.locals.now Nothing c.in_ok-front.front.head
    (Value c.in_ok-whole.whole.type_) (code_of c.in_ok-front.front.code) (code_of c.in_ok-whole.whole.code) (code_of c.in_ok-code.code) c.in_ok-code.ensures
    c.in_ok-front.ensures.typed (c.in_ok-whole.ensures.typed c.in_ok-front.front.head c.in_ok-behind.ensures.typed)

pub argued::argument_row-each-preserved : goal.argued::argument_row-each-preserved
argued::argument_row-each-preserved t c =
    let nodes = c.args.nodes.now in
    let n = c.index-nodes-index.result in
    let i = c.each.index in
    let test = c.each-test.true in
    let r = subst (Arguing c.args.names.now c.args.root.now c.args.declared.now c.args.body c.args.locals.now c.args.params.now c.args.id
    (row_at c.args.names.now nodes) c.each.codes.items c.each.fitting c.each.next i)
    (row_rest c.args.names.now nodes i n (omega (arith, test)) c.index-nodes-index.is) c.each.invariant in
    subst (λ z. Arguing c.args.names.now c.args.root.now c.args.declared.now c.args.body c.args.locals.now c.args.params.now c.args.id
    (row_at c.args.names.now nodes) c.push.new.self.items z c.in_ok-judged.judged.next (i + 1) (row_at c.args.names.now (drop (i + 1) nodes)))
    (sym c.both-fitting.ensures)
    (subst (λ z. Arguing c.args.names.now c.args.root.now c.args.declared.now c.args.body c.args.locals.now c.args.params.now c.args.id
    (row_at c.args.names.now nodes) z (c.each.fitting && c.argument_fits-one_fits.result) c.in_ok-judged.judged.next (i + 1)
    (row_at c.args.names.now (drop (i + 1) nodes)))
    (sym c.in_ok-push.ensures.items)
    (one_argument c.args.names.now c.args.root.now c.args.declared.now c.args.body c.args.locals.now c.args.params.now c.args.id (row_at c.args.names.now nodes)
    c.each.codes.items c.each.fitting c.each.next i (node_at c.args.names.now n) (row_at c.args.names.now (drop (i + 1) nodes)) c.in_ok-judged.judged
    c.argument_fits-one_fits.result r c.in_ok-judged.ensures.judged.0 c.in_ok-judged.ensures.judged.1 c.in_ok-judged.ensures.typed c.in_ok-judged.ensures.next
    c.argument_fits-one_fits.ensures.test c.argument_fits-one_fits.ensures.sub))

pub argued::argument_row-returns-clause-judged : goal.argued::argument_row-returns-clause-judged
argued::argument_row-returns-clause-judged t c =
    let nodes = c.args.nodes.now in
    let test = c.each-test.false in
    let end = c.each.auto.index-end in
    let at_end : c.each.index ≡ length nodes = omega (arith, test, end) in
    let r = subst (Arguing c.args.names.now c.args.root.now c.args.declared.now c.args.body c.args.locals.now c.args.params.now c.args.id
    (row_at c.args.names.now nodes) c.each.codes.items c.each.fitting c.each.next c.each.index)
    (none_left c.args.names.now nodes c.each.index (omega (arith, at_end))) c.each.invariant in
    arguing_ends c.args.names.now c.args.root.now c.args.declared.now c.args.body c.args.locals.now c.args.params.now c.args.id (row_at c.args.names.now nodes)
    c.each.codes.items c.each.fitting c.each.next c.each.index
    (record { code = c.row.result; fits = c.all_fit-fits.result; count = length c.args.params.now; next = c.each.next }) r c.row.ensures
    (c.all_fit-fits.ensures ∙ ap (λ z. c.each.fitting && (z == length c.args.params.now)) (sym at_end)) refl

pub argued::argument_row-returns-clause-typed : goal.argued::argument_row-returns-clause-typed
argued::argument_row-returns-clause-typed t c =
    let nodes = c.args.nodes.now in
    let test = c.each-test.false in
    let end = c.each.auto.index-end in
    let at_end : c.each.index ≡ length nodes = omega (arith, test, end) in
    let r = subst (Arguing c.args.names.now c.args.root.now c.args.declared.now c.args.body c.args.locals.now c.args.params.now c.args.id
    (row_at c.args.names.now nodes) c.each.codes.items c.each.fitting c.each.next c.each.index)
    (none_left c.args.names.now nodes c.each.index (omega (arith, at_end))) c.each.invariant in
    arguing_puts c.args.names.now c.args.root.now c.args.declared.now c.args.body c.args.locals.now c.args.params.now c.args.id (row_at c.args.names.now nodes)
    c.each.codes.items c.each.fitting c.each.next c.each.index
    (record { code = c.row.result; fits = c.all_fit-fits.result; count = length c.args.params.now; next = c.each.next }) r c.row.ensures
    (c.all_fit-fits.ensures ∙ ap (λ z. c.each.fitting && (z == length c.args.params.now)) (sym at_end)) refl

pub whole::part_behind-returns-clause-judged : goal.whole::part_behind-returns-clause-judged
whole::part_behind-returns-clause-judged t c =
    part_judged c.args.names.now c.args.root.now c.args.declared.now c.args.body c.args.locals.now c.args.id (spot c.args.place) c.args.op
    (numbered (c.args.id + 1) (node_at c.args.names.now c.args.operand.now)) c.args.head c.in_ok-judged.judged c.part.result
    c.in_ok-judged.ensures.judged.0 c.in_ok-judged.ensures.judged.1 c.part.ensures.judged
