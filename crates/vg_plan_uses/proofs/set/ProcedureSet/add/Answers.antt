use Rattle.vg_plan_uses.proofs.Noting.{marked_more}
use Rattle.vg_plan_uses.proofs.set.ProcedureSet.add.Goals as goal

pub returns-clause-is : goal.returns-clause-is
returns-clause-is c =
    marked_more c.args.self.now c.self.inside.marks.items c.mark.new.marks.items c.self.inside.list c.push.new.self c.args.procedure c.from.result
    c.self.view_is c.requires.set c.from.ensures c.mark.ensures c.in_ok-push.ensures.ok
