use Rattle.vg_types_tables.proofs.Entries.{array_view}
use Rattle.vg_types_tables.proofs.written_type.array_type.Goals as goal

pub returns : goal.returns
returns c = (
  array_view c.args.names.now c.args.declared.now c.requires.declares.formed c.in_ok-element.element c.args.element c.in_ok-element.ensures,
  (c.args.element, c.in_ok-element.ensures),
)
