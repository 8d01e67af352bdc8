use Rattle.std.proofs.Common.{◌∙◌, sym}
use Rattle.vg_reach_holding.proofs.Places.{on_ok}
use Rattle.vg_reach_holding.proofs.Steps.{names_one}
use Rattle.vg_reach_holding.proofs.naming.name.Goals as goal

pub returns-in-Some : goal.returns-in-Some
returns-in-Some c =
    on_ok c.mark.result (names_one c.args.marks.now c.mark.new.self c.args.method c.args.step c.in-Some.found (sym c.named_by.ensures ∙ c.in-Some.is)) c.mark.ensures
