use Rattle.std.proofs.Common.{◌+◌, IfSome, refl, subst}
use Rattle.vg_syntax.specs.Reads.{spot}
use Rattle.vg_syntax.specs.Numbering.{count_nodes, numbered}
use Rattle.vg_tree.specs.Held.{node_at}
use Rattle.vg_source.specs.Resolved.{Onto}
use Rattle.vg_core.specs.HeldProgram.{code_of}
use Rattle.vg_types_tables.specs.declared.judged.Head.TheVariants.{Nothing}
use Rattle.vg_types_tables.specs.declared.judged.Storing.{Storing}
use Rattle.vg_types_tables.specs.Views.{head_view}
use Rattle.vg_types_tables.specs.Promises.{Aims, Stores}
use Rattle.vg_types_expressions.proofs.Aiming.{postfix_place, postfix_no_place, postfix_kept, front_stores}
use Rattle.vg_types_expressions.proofs.aimed.postfix_target.Goals as goal

pub returns-in_ok-aims-in-Some-clause-judged : goal.returns-in_ok-aims-in-Some-clause-judged
returns-in_ok-aims-in-Some-clause-judged c =
    let s = c.in-Some.last in
    let t : Storing = record { aims = c.in_ok-aims-in-Some.aims; store = s.store; type_ = s.type_ } in
    let p = subst (λ o. Aims c.args.names.now c.args.root.now c.args.declared.now c.args.body c.args.locals.now
    (numbered c.in_ok-front.front.next (node_at c.args.names.now c.args.suffixes.now))
    (Onto (head_view c.args.names.now c.args.declared.now c.in_ok-front.front.head)) (record { place = o; next = c.in_ok-aimed.aimed.next }))
    c.in-Some.is
    c.in_ok-aimed.ensures.judged.1 in (
      postfix_kept c.args.names.now c.args.root.now c.args.declared.now c.args.body c.args.locals.now c.args.id c.in_ok-front.front.next
          (c.args.id + 1 + count_nodes (node_at c.args.names.now c.args.first.now)) (spot c.args.place)
          (numbered (c.args.id + 1) (node_at c.args.names.now c.args.first.now))
          (node_at c.args.names.now c.args.suffixes.now) c.in_ok-front.front c.in_ok-front.ensures.next c.in_ok-front.ensures.judged.1
          c.in_ok-front.ensures.judged.0 c.in_ok-aimed.ensures.judged.0,
      postfix_place c.args.names.now c.args.root.now c.args.declared.now c.args.body c.args.locals.now c.args.id c.in_ok-front.front.next
          (c.args.id + 1 + count_nodes (node_at c.args.names.now c.args.first.now)) (spot c.args.place)
          (numbered (c.args.id + 1) (node_at c.args.names.now c.args.first.now)) (node_at c.args.names.now c.args.suffixes.now) c.in_ok-front.front s t
          c.in_ok-front.ensures.next c.in_ok-front.ensures.judged.1 p c.in_ok-aims-in-Some.ensures refl refl,
    )

pub returns-in_ok-aims-in-Some-clause-typed : goal.returns-in_ok-aims-in-Some-clause-typed
returns-in_ok-aims-in-Some-clause-typed c =
    let s = c.in-Some.last in
    let t : Storing = record { aims = c.in_ok-aims-in-Some.aims; store = s.store; type_ = s.type_ } in
    let p = subst (λ o. IfSome o (Stores c.args.declared.now.tables c.args.body c.args.locals.now c.in_ok-front.front.head)) c.in-Some.is
    c.in_ok-aimed.ensures.typed in
    front_stores c.args.names.now c.args.root.now c.args.declared.now c.args.body c.args.locals.now Nothing c.in_ok-front.front.head
    (code_of c.in_ok-front.front.code) s t
    c.in_ok-front.ensures.typed p c.in_ok-aims-in-Some.ensures refl refl

pub returns-in-None-clause-judged : goal.returns-in-None-clause-judged
returns-in-None-clause-judged c =
    let p = subst (λ o. Aims c.args.names.now c.args.root.now c.args.declared.now c.args.body c.args.locals.now
    (numbered c.in_ok-front.front.next (node_at c.args.names.now c.args.suffixes.now))
    (Onto (head_view c.args.names.now c.args.declared.now c.in_ok-front.front.head)) (record { place = o; next = c.in_ok-aimed.aimed.next }))
    c.in-None.is
    c.in_ok-aimed.ensures.judged.1 in (
      postfix_kept c.args.names.now c.args.root.now c.args.declared.now c.args.body c.args.locals.now c.args.id c.in_ok-front.front.next
          (c.args.id + 1 + count_nodes (node_at c.args.names.now c.args.first.now)) (spot c.args.place)
          (numbered (c.args.id + 1) (node_at c.args.names.now c.args.first.now))
          (node_at c.args.names.now c.args.suffixes.now) c.in_ok-front.front c.in_ok-front.ensures.next c.in_ok-front.ensures.judged.1
          c.in_ok-front.ensures.judged.0 c.in_ok-aimed.ensures.judged.0,
      postfix_no_place c.args.names.now c.args.root.now c.args.declared.now c.args.body c.args.locals.now c.args.id c.in_ok-front.front.next
          (c.args.id + 1 + count_nodes (node_at c.args.names.now c.args.first.now)) (spot c.args.place)
          (numbered (c.args.id + 1) (node_at c.args.names.now c.args.first.now)) (node_at c.args.names.now c.args.suffixes.now) c.in_ok-front.front
          c.in_ok-front.ensures.next c.in_ok-front.ensures.judged.1 p,
    )
