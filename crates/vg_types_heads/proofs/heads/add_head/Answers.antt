use Rattle.vg_types_heads.specs.Heads.{heads_view}
use Rattle.vg_types_heads.proofs.Passing.{on_ok, with_other}
use Rattle.vg_types_heads.proofs.heads.add_head.Goals as goal

pub returns-in_default : goal.returns-in_default
returns-in_default c =
    on_ok c.passed.result (with_other c.args.names.now c.args.declaration.now (heads_view c.args.names.now c.args.heads.now) c.passed.ensures)
