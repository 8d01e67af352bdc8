use Rattle.std.proofs.Common.{◌∙◌, sym, ap, Some}
use Rattle.vg_reach_marks.proofs.Marking.{marks_first, marks_nothing}
use Rattle.vg_reach_marks.proofs.marks.Marks.mark.Goals as goal

pub returns-in_ok-push-in-Some-None : goal.returns-in_ok-push-in-Some-None
returns-in_ok-push-in-Some-None c =
    marks_first c.args.self.now c.keep.new.self c.push.new.self c.args.member c.args.rule c.count-rank.result c.args.from c.args.also c.count-rank.ensures
    (sym c.entry.ensures ∙ c.in-Some-None.is ∙ ap Some c.in-Some-None.field-0-is) c.in_ok-push-in-Some-None.ensures c.keep.ensures

pub returns-in-None : goal.returns-in-None
returns-in-None c = marks_nothing c.args.self.now c.args.member c.args.rule c.args.from c.args.also (sym c.entry.ensures ∙ c.in-None.is)
