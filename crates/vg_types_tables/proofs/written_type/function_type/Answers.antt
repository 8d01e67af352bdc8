use Rattle.vg_types_tables.proofs.Entries.{function_view}
use Rattle.vg_types_tables.proofs.written_type.function_type.Goals as goal

pub returns : goal.returns
returns c = (
  function_view c.args.names.now c.args.declared.now c.requires.declares.formed c.in_ok-params.params c.in_ok-value.value c.args.params c.args.value
      c.in_ok-params.ensures c.in_ok-value.ensures,
  ((c.args.params, c.in_ok-params.ensures), (c.args.value, c.in_ok-value.ensures)),
)
