use Rattle.vg_types_tables.proofs.Scopes.{one_more}
use Rattle.vg_types_tables.proofs.locals.Locals.declare.Goals as goal

pub returns-clause-kept : goal.returns-clause-kept
returns-clause-kept c = λ h k. one_more c.args.declared.now.tables c.args.self.now _ (record { name = c.args.name; type_ = c.args.type_; number = _ }) h k
    c.len-number.ensures c.in_ok-push.ensures.ok c.in_ok-push-2.ensures.ok
