use Rattle.vg_finders.specs.Numbering.{AreNumbers}
use Rattle.vg_finders.proofs.numbering.numbers.Given as goal

abbrev pub invariant-loop-place : goal.invariant-loop-place
invariant-loop-place l = AreNumbers l.setting.count l.setting.before l.setting.olds.now l.setting.news.now l.setting.finders.now l.row
