use Rattle.vg_memory.proofs.SessionsAgree.{agrees, agrees_held}
use Rattle.vg_memory.proofs.agreeing.images_agree.Goals as goal

pub returns-clause-costs : goal.returns-clause-costs
returns-clause-costs c = λ n p text named good h typed e stack floor does. agrees n p text named good h typed e stack floor does

pub returns-clause-held : goal.returns-clause-held
returns-clause-held c = λ n p text named good h typed e stack extra by_method does holds.
    agrees_held n p text named good h typed e stack extra by_method does holds
