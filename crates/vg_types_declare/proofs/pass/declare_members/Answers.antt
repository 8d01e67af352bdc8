use Rattle.std.proofs.Common.{[], length, subst, ap, arith}
use Rattle.vg_syntax.specs.Numbering.{count_nodes}
use Rattle.vg_types_homes.proofs.Passing.{small}
use Rattle.vg_types_declare.specs.Made.{IsMade}
use Rattle.vg_types_declare.proofs.Declaring.{declared, all_left, dispatched}
use Rattle.vg_types_declare.proofs.pass.declare_members.Goals as goal

pub declared_homes-requires : goal.declared_homes-requires
declared_homes-requires c =
    let n = ap count_nodes (c.requires.row []) in let r = c.requires.room in small 4294967296 c.args.nodes.now (omega (arith, n, r))

pub returns-clause-declares : goal.returns-clause-declares
returns-clause-declares c =
    declared c.args.names.now c.args.root.now c.args.nodes.now (c.requires.row c.args.names.now) c.requires.keeps c.args.types c.args.above c.args.others
    c.in_ok-homes.homes c.in_ok-lists.lists c.in_ok-literals.literals c.declared_of.result c.requires.heads c.in_ok-homes.ensures.view
    c.in_ok-homes.ensures.sound
    (subst (λ z. IsMade (length c.args.nodes.now) c.args.others.class_names z c.args.types c.in_ok-homes.homes c.in_ok-lists.lists)
    c.as_slice.ensures c.in_ok-lists.ensures)
    c.declared_of.ensures c.in_ok-literals.ensures.nodes c.in_ok-literals.ensures.texts

pub returns-clause-left : goal.returns-clause-left
returns-clause-left c =
    all_left c.args.names.now c.args.root.now c.args.nodes.now (c.requires.row c.args.names.now) c.requires.keeps c.args.types c.args.above c.args.others
    c.in_ok-homes.homes c.in_ok-lists.lists c.in_ok-literals.literals c.declared_of.result c.requires.heads c.in_ok-homes.ensures.view
    c.in_ok-homes.ensures.sound
    (subst (λ z. IsMade (length c.args.nodes.now) c.args.others.class_names z c.args.types c.in_ok-homes.homes c.in_ok-lists.lists)
    c.as_slice.ensures c.in_ok-lists.ensures)
    c.declared_of.ensures c.in_ok-literals.ensures.nodes c.in_ok-literals.ensures.texts

pub returns-clause-dispatches : goal.returns-clause-dispatches
returns-clause-dispatches c =
    dispatched c.args.names.now c.args.root.now c.args.nodes.now (c.requires.row c.args.names.now) c.requires.keeps c.args.types c.args.above c.args.others
    c.in_ok-homes.homes c.in_ok-lists.lists c.in_ok-literals.literals c.declared_of.result c.requires.heads c.in_ok-homes.ensures.view
    c.in_ok-homes.ensures.sound
    (subst (λ z. IsMade (length c.args.nodes.now) c.args.others.class_names z c.args.types c.in_ok-homes.homes c.in_ok-lists.lists)
    c.as_slice.ensures c.in_ok-lists.ensures)
    c.declared_of.ensures c.in_ok-literals.ensures.nodes c.in_ok-literals.ensures.texts
    c.requires.signatures (c.requires.members c.args.names.now)
