use Rattle.std.proofs.Common.{sym, subst}
use Rattle.vg_finders.specs.Numbering.{AreNumbers, IsNumber}
use Rattle.vg_finders.proofs.Numbered.{number_more}
use Rattle.vg_finders.proofs.numbering.numbers.Goals as goal

pub loop-place-preserved : goal.loop-place-preserved
loop-place-preserved c =
    subst (AreNumbers c.args.setting.count c.args.setting.before c.args.setting.olds.now c.args.setting.news.now c.args.setting.finders.now)
    (sym c.in_ok-push.ensures.ok)
    (number_more c.args.setting.count c.args.setting.before c.args.setting.olds.now c.args.setting.news.now c.args.setting.finders.now c.loop-place.row
    c.number_of-number.result c.loop-place.invariant
    (subst (λ d. IsNumber c.args.setting.count c.args.setting.before c.args.setting.olds.now c.args.setting.news.now c.args.setting.finders.now d
    c.number_of-number.result) c.len.ensures c.number_of-number.ensures))
