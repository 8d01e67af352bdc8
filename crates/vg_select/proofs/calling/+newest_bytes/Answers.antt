use Rattle.vg_select.proofs.Dropping.{newest_bytes_are}
use Rattle.vg_select.proofs.calling.+newest_bytes.Goals as goal

pub returns-in-len1-up-clause-bytes : goal.returns-in-len1-up-clause-bytes
returns-in-len1-up-clause-bytes t c =
    newest_bytes_are c.args.waits.now c.args.count c.from.result c.newest_bytes.result c.in-len1-up.len_at_least c.if-count-eq0.false c.from.ensures
    c.newest_bytes.ensures.bytes
