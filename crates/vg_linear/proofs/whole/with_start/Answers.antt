use Rattle.vg_linear.proofs.Wholes.{started}
use Rattle.vg_linear.proofs.whole.with_start.Goals as goal

pub returns : goal.returns
returns c =
    started c.args.firm.now c.as_slice.result.now c.from.result c.index-as_slice-from.result c.in_ok-start.field-0 c.args.procedures c.push.new.self
    c.as_slice.ensures c.from.ensures c.requires c.index-as_slice-from.is c.in_ok-start.ensures c.in_ok-push.ensures.ok
