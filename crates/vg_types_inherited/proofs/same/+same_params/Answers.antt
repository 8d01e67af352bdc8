use Rattle.vg_types_inherited.proofs.Rules.{no_params}
use Rattle.vg_types_inherited.proofs.same.+same_params.Goals as goal

pub returns-in-empty : goal.returns-in-empty
returns-in-empty t c =
    no_params c.args.names.now c.args.declared.now c.args.params.now c.args.others.now c.is_empty.result c.in-empty.len_below c.is_empty.ensures
