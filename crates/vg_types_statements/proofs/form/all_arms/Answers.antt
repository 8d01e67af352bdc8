use Rattle.vg_types_statements.proofs.ArmCodes.{code_of_arms}
use Rattle.vg_types_statements.proofs.form.all_arms.Goals as goal

pub returns : goal.returns
returns c = code_of_arms c.args.arms c.in_ok-new.field-0.value c.args.last c.in_ok-new.ensures.ok
