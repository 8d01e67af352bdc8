use Rattle.std.proofs.Common.{◌<◌, subst}
use Rattle.vg_pack_calls.specs.Cases.{cases_from}
use Rattle.vg_pack_calls.proofs.Gathering.{more_cases}
use Rattle.vg_pack_calls.proofs.cases.cases.Goals as goal

pub loop-class-preserved : goal.loop-class-preserved
loop-class-preserved c =
    more_cases c.args.tables.now c.args.numbers.now c.args.plan.now c.args.own.now c.args.asked c.args.tables.now.classes c.loop-class.class c.loop-class.row
    c.push_case.new.row (cases_from c.args.tables.now c.args.numbers.now c.args.plan.now c.args.own.now c.args.asked 0 c.args.tables.now.classes)
    (subst (λ z. c.loop-class.class < z) c.len-class-end.ensures c.loop-class-test.true) c.loop-class.invariant c.in_ok-push_case.ensures
