use Rattle.std.proofs.Common.{sym}
use Rattle.vg_types_expressions.proofs.Sorts.{no_member}
use Rattle.vg_types_expressions.proofs.rows.is_member.Goals as goal

pub returns-in_default : goal.returns-in_default
returns-in_default c = λ texts i rest. sym (no_member c.args.node.now c.in_default.not-Member texts i rest)
