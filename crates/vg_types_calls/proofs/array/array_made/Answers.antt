use Rattle.std.proofs.Common.{◌≡◌, refl, sym, ◌∙◌}
use Rattle.vg_syntax.specs.Reads.{spot}
use Rattle.vg_syntax.specs.Numbering.{with_id}
use Rattle.vg_tree.specs.Held.{type_at}
use Rattle.vg_core.specs.declared.types.CoreType.TheVariants.{IntType, ArrayType}
use Rattle.vg_types_tables.specs.declared.judged.Standing.{Standing}
use Rattle.vg_types_tables.specs.declared.judged.Head.TheVariants.{Value}
use Rattle.vg_types_calls.proofs.Arrays.{array_shows, array_leads, size_breaks}
use Rattle.vg_types_calls.proofs.array.array_made.Goals as goal

pub returns-then-not-is_int-clause-judged : goal.returns-then-not-is_int-clause-judged
returns-then-not-is_int-clause-judged c =
    size_breaks c.args.names.now c.args.root.now c.args.declared.now c.args.body c.args.locals.now (with_id c.args.id (spot c.args.place))
    (type_at c.args.names.now c.args.element.now) c.args.size (sym c.array_keeps.ensures ∙ c.if-not-array_keeps.false)
    (sym (c.is_int.ensures.keeps c.args.names.now c.args.declared.now) ∙ c.if-not-is_int.true)

pub returns-in_ok-code-in-Some-clause-judged : goal.returns-in_ok-code-in-Some-clause-judged
returns-in_ok-code-in-Some-clause-judged c =
    let ei : c.args.size.type_ ≡ IntType = c.is_int.ensures.is c.if-not-is_int.false in
    let j : Standing = record { head = Value (ArrayType c.in-Some.number); code = c.in_ok-code-in-Some.code; next = c.args.size.next } in
    array_shows c.args.names.now c.args.root.now c.args.declared.now c.args.body c.args.locals.now c.args.id c.in-Some.number
    (with_id c.args.id (spot c.args.place)) c.in-Some.ensures.0 (type_at c.args.names.now c.args.element.now) c.args.size j c.requires.declares
    (sym c.array_keeps.ensures ∙ c.if-not-array_keeps.false) ei c.in-Some.ensures.1 c.in-Some.ensures.2 refl c.in_ok-code-in-Some.ensures

pub returns-in_ok-code-in-Some-clause-typed : goal.returns-in_ok-code-in-Some-clause-typed
returns-in_ok-code-in-Some-clause-typed c =
    let ei : c.args.size.type_ ≡ IntType = c.is_int.ensures.is c.if-not-is_int.false in
    let j : Standing = record { head = Value (ArrayType c.in-Some.number); code = c.in_ok-code-in-Some.code; next = c.args.size.next } in
    array_leads c.args.names.now c.args.root.now c.args.declared.now c.args.body c.args.locals.now c.args.id c.in-Some.number c.in-Some.ensures.0
    c.args.size j ei c.in-Some.ensures.1 refl c.in_ok-code-in-Some.ensures c.requires.typed
