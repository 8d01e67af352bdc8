use Rattle.vg_report.proofs.Walking.{Walks}
use Rattle.vg_report.proofs.why.chain_text.Given as goal

abbrev pub decreases-loop-text : goal.decreases-loop-text
decreases-loop-text l = l.link.reason.rank

abbrev pub invariant-loop-text : goal.invariant-loop-text
invariant-loop-text l = Walks l.names l.tables l.live l.fn.first.member l.text l.link
