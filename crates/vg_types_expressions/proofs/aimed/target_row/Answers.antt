use Rattle.std.proofs.Common.{◌-◌, IfSome, length, refl, subst, ap, ◌∙◌, arith}
use Rattle.std.proofs.lemmas.Grind.{common_steps}
use Rattle.vg_syntax.specs.Numbering.{numbered}
use Rattle.vg_tree.specs.Held.{node_at, row_at}
use Rattle.vg_source.specs.Resolved.{Onto}
use Rattle.vg_core.specs.HeldProgram.{code_chain}
use Rattle.vg_types_tables.specs.declared.judged.Storing.{Storing}
use Rattle.vg_types_tables.specs.Views.{head_view}
use Rattle.vg_types_tables.specs.Promises.{Aims, Stores}
use Rattle.vg_types_expressions.specs.Links.{Linking}
use Rattle.vg_types_expressions.proofs.RowRests.{last_left}
use Rattle.vg_types_expressions.proofs.Aiming.{row_place, row_no_place, row_kept, row_stores}
use Rattle.vg_types_expressions.proofs.aimed.target_row.Goals as goal

pub returns-in_ok-push-in-Some-clause-judged : goal.returns-in_ok-push-in-Some-clause-judged
returns-in_ok-push-in-Some-clause-judged c =
    let nodes = c.args.nodes.now in
    let n = c.index-nodes-nodes.result in
    let r = subst (Linking c.args.names.now c.args.root.now c.args.declared.now c.args.body c.args.locals.now c.args.head c.args.id
    (row_at c.args.names.now nodes) c.in_ok-fronts.fronts.codes.items c.in_ok-fronts.fronts.head c.in_ok-fronts.fronts.next)
    (last_left c.args.names.now nodes (length nodes - 1) n (grind (arith, common_steps)) c.index-nodes-nodes.is) c.in_ok-fronts.ensures.judged in
    let s = c.in-Some.place in
    let t : Storing = record { aims = c.chain.result; store = s.store; type_ = s.type_ } in
    let p = subst (λ o. Aims c.args.names.now c.args.root.now c.args.declared.now c.args.body c.args.locals.now
    (numbered c.in_ok-fronts.fronts.next (node_at c.args.names.now n))
    (Onto (head_view c.args.names.now c.args.declared.now c.in_ok-fronts.fronts.head)) (record { place = o; next = c.in_ok-last.last.next }))
    c.in-Some.is
    c.in_ok-last.ensures.judged.1 in (
      row_kept c.args.names.now c.args.root.now c.args.declared.now c.args.body c.args.locals.now c.args.head c.args.id (row_at c.args.names.now nodes)
          c.in_ok-fronts.fronts.codes.items c.in_ok-fronts.fronts.head c.in_ok-fronts.fronts.next (node_at c.args.names.now n) r c.in_ok-last.ensures.judged.0,
      row_place c.args.names.now c.args.root.now c.args.declared.now c.args.body c.args.locals.now c.args.head c.args.id (row_at c.args.names.now nodes)
          c.in_ok-fronts.fronts.codes.items c.in_ok-fronts.fronts.head c.in_ok-fronts.fronts.next (node_at c.args.names.now n) s t r p
          (c.chain.ensures ∙ ap code_chain c.in_ok-push-in-Some.ensures.items) refl refl,
    )

pub returns-in_ok-push-in-Some-clause-typed : goal.returns-in_ok-push-in-Some-clause-typed
returns-in_ok-push-in-Some-clause-typed c =
    let nodes = c.args.nodes.now in
    let n = c.index-nodes-nodes.result in
    let r = subst (Linking c.args.names.now c.args.root.now c.args.declared.now c.args.body c.args.locals.now c.args.head c.args.id
    (row_at c.args.names.now nodes) c.in_ok-fronts.fronts.codes.items c.in_ok-fronts.fronts.head c.in_ok-fronts.fronts.next)
    (last_left c.args.names.now nodes (length nodes - 1) n (grind (arith, common_steps)) c.index-nodes-nodes.is) c.in_ok-fronts.ensures.judged in
    let s = c.in-Some.place in
    let t : Storing = record { aims = c.chain.result; store = s.store; type_ = s.type_ } in
    let p = subst (λ o. IfSome o (Stores c.args.declared.now.tables c.args.body c.args.locals.now c.in_ok-fronts.fronts.head)) c.in-Some.is
    c.in_ok-last.ensures.typed in
    row_stores c.args.names.now c.args.root.now c.args.declared.now c.args.body c.args.locals.now c.args.head c.args.id (row_at c.args.names.now nodes)
    c.in_ok-fronts.fronts.codes.items c.in_ok-fronts.fronts.head c.in_ok-fronts.fronts.next (node_at c.args.names.now n) s t r p
    (c.chain.ensures ∙ ap code_chain c.in_ok-push-in-Some.ensures.items) refl refl

pub returns-in-None-clause-judged : goal.returns-in-None-clause-judged
returns-in-None-clause-judged c =
    let nodes = c.args.nodes.now in
    let n = c.index-nodes-nodes.result in
    let r = subst (Linking c.args.names.now c.args.root.now c.args.declared.now c.args.body c.args.locals.now c.args.head c.args.id
    (row_at c.args.names.now nodes) c.in_ok-fronts.fronts.codes.items c.in_ok-fronts.fronts.head c.in_ok-fronts.fronts.next)
    (last_left c.args.names.now nodes (length nodes - 1) n (grind (arith, common_steps)) c.index-nodes-nodes.is) c.in_ok-fronts.ensures.judged in
    let p = subst (λ o. Aims c.args.names.now c.args.root.now c.args.declared.now c.args.body c.args.locals.now
    (numbered c.in_ok-fronts.fronts.next (node_at c.args.names.now n))
    (Onto (head_view c.args.names.now c.args.declared.now c.in_ok-fronts.fronts.head)) (record { place = o; next = c.in_ok-last.last.next }))
    c.in-None.is
    c.in_ok-last.ensures.judged.1 in (
      row_kept c.args.names.now c.args.root.now c.args.declared.now c.args.body c.args.locals.now c.args.head c.args.id (row_at c.args.names.now nodes)
          c.in_ok-fronts.fronts.codes.items c.in_ok-fronts.fronts.head c.in_ok-fronts.fronts.next (node_at c.args.names.now n) r c.in_ok-last.ensures.judged.0,
      row_no_place c.args.names.now c.args.root.now c.args.declared.now c.args.body c.args.locals.now c.args.head c.args.id (row_at c.args.names.now nodes)
          c.in_ok-fronts.fronts.codes.items c.in_ok-fronts.fronts.head c.in_ok-fronts.fronts.next (node_at c.args.names.now n) r p,
    )
