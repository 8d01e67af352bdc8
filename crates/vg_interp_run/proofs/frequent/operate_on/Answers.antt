use Rattle.std.proofs.Common.{sym, subst, ◌∙◌}
use Rattle.vg_core.specs.Operators.{operand_of}
use Rattle.vg_interp_values.specs.Made.{of_operands}
use Rattle.vg_interp_run.specs.Exits.{Comes}
use Rattle.vg_interp_run.specs.Run.{state, world}
use Rattle.vg_interp_run.proofs.Steps.{operated_is}
use Rattle.vg_interp_run.proofs.frequent.operate_on.Goals as goal

pub returns-clause-answers : goal.returns-clause-answers
returns-clause-answers c =
    let s = state c.args.run.now in
    let w = world c.args.run.now in
    let is = operated_is c.args.tables.now c.args.at c.args.op c.args.left.now c.args.right.now c.args.on.left c.args.on.right s w
    (sym c.has_type.ensures ∙ c.if-not-has_type.false) (sym c.has_type-2.ensures ∙ c.if-not-has_type-2.false) in
    subst (Comes c.push_made.result c.push_made.new.run) (sym is)
    (c.push_made.ensures.answers (of_operands c.args.op (operand_of c.args.on.left) (operand_of c.args.on.right)) c.operate.ensures)
