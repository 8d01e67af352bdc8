use Rattle.std.proofs.Common.{◌<◌, ◌^◌, [], subst}
use Rattle.vg_syntax.specs.Numbering.{count_nodes}
use Rattle.vg_types_homes.proofs.Passing.{small}
use Rattle.vg_types_homes.proofs.pass.add_component.Goals as goal

pub add_members-requires-clause-room : goal.add_members-requires-clause-room
add_members-requires-clause-room c =
    small _ c.in_ok-nodes.nodes.now (subst (λ n. count_nodes n < 2 ^ 32) (c.in_ok-nodes.ensures []) c.requires.room)
