use Rattle.std.proofs.Common.{◌∙◌, sym, subst}
use Rattle.vg_report.specs.Chains.{IsWhy, live, dead}
use Rattle.vg_report.proofs.Walking.{if_ok}
use Rattle.vg_report.proofs.why.why_text.Goals as goal

pub returns-in-Some : goal.returns-in-Some
returns-in-Some c = if_ok c.chain_text.result (λ text chain. live chain) c.chain_text.ensures

pub returns-in-None : goal.returns-in-None
returns-in-None c =
    if_ok c.dead_text.result (λ text e. subst (IsWhy c.args.names.now c.args.program.now.tables c.args.live.now c.args.member) (sym e)
    (dead (sym c.reason.ensures ∙ c.in-None.is))) c.dead_text.ensures
