use Rattle.std.proofs.Common.{◌≡◌, drop}
use Rattle.vg_flatten_pushed.proofs.Parting.{above}
use Rattle.vg_flatten_pushed.proofs.parts.push_all.Given as goal

abbrev pub invariant-news : goal.invariant-news
invariant-news l = above (drop l.home-index l.news) l.homes ≡ above l.news l.fn.homes
