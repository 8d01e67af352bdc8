use Rattle.vg_report.proofs.Walking.{walks_more, walks_last}
use Rattle.vg_report.proofs.why.chain_text.Goals as goal

pub loop-text-preserved : goal.loop-text-preserved
loop-text-preserved c =
    walks_more c.args.names.now c.args.tables.now c.args.live.now c.args.first.member c.loop-text.text c.put_line.new.text c.loop-text.link c.in-Some.next
    c.in_ok-put_line.ensures c.in-Some.ensures c.loop-text.invariant

pub returns-in-None : goal.returns-in-None
returns-in-None c =
    walks_last c.args.names.now c.args.tables.now c.args.live.now c.args.first.member c.loop-text.text c.put_line.new.text c.loop-text.link
    c.in_ok-put_line.ensures c.in-None.ensures c.loop-text.invariant
