use Rattle.vg_types_tables.proofs.Entries.{more_view}
use Rattle.vg_types_tables.proofs.written_type.more_types.Goals as goal

pub returns : goal.returns
returns c = (
  more_view c.args.names.now c.args.declared.now c.requires.declares.formed c.in_ok-first.first c.in_ok-rest.rest c.args.first c.args.rest
      c.in_ok-first.ensures c.in_ok-rest.ensures,
  ((c.args.first, c.in_ok-first.ensures), (c.args.rest, c.in_ok-rest.ensures)),
)
