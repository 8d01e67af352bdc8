use Rattle.vg_types_heads.proofs.Passing.{on_ok, no_register}
use Rattle.vg_types_heads.proofs.registers.add_register.Goals as goal

pub returns-in_default : goal.returns-in_default
returns-in_default c = on_ok c.passed.result (no_register c.args.names.now c.args.register.now c.args.map.now c.passed.ensures)
