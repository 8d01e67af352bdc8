use Rattle.std.proofs.Common.{map, ap, ◌∙◌}
use Rattle.vg_types_hierarchy.specs.Classes.{above_number}
use Rattle.vg_types_heads.specs.Heads.{heads_view}
use Rattle.vg_types_declare.specs.Made.{whole}
use Rattle.vg_types_declare.proofs.Declaring.{classes_numbered}
use Rattle.vg_types_declare.proofs.pass.declare_row.Goals as goal

pub types_of-requires : goal.types_of-requires
types_of-requires c =
    classes_numbered c.args.names.now c.args.root.now c.args.nodes.now (c.requires.row c.args.names.now)
    (whole c.parts_of-classes.result.0 c.parts_of-classes.result.1 c.parts_of-classes.result.2) c.requires.keeps
    (ap (heads_view c.args.names.now) c.parts_of-classes.ensures ∙ c.in_ok-declared_heads.ensures)

pub declare_members-requires-clause-heads : goal.declare_members-requires-clause-heads
declare_members-requires-clause-heads c = record {
  above = c.parts_of-classes.result.1;
  left = ap (λ z. heads_view c.args.names.now (whole z c.parts_of-classes.result.1 c.parts_of-classes.result.2)) c.in_ok-types.ensures
      ∙ ap (heads_view c.args.names.now) c.parts_of-classes.ensures ∙ c.in_ok-declared_heads.ensures;
  numbers_are = c.in_ok-above.ensures
      ∙ ap (map (above_number c.args.names.now c.in_ok-types.types.classes)) c.as_slice.ensures;
}
