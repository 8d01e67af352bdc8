use Rattle.vg_flatten_pushed.proofs.Pops.{drawn_code}
use Rattle.vg_flatten_pushed.proofs.pushed.draw.Goals as goal

pub returns : goal.returns
returns c = (
  drawn_code c.args.room.locals c.args.missing c.args.at c.args.news.homes _ _ _ c.new-code.ensures c.in_ok-push_lifts.ensures c.in_ok-push_pops.ensures,
  c.forget_newest.ensures,
)
