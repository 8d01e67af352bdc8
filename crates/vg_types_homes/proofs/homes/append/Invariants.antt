use Rattle.std.proofs.Common.{◌≡◌, ◌++◌, take}
use Rattle.vg_types_homes.proofs.homes.append.Given as goal

abbrev pub invariant-more : goal.invariant-more
invariant-more l = l.row ≡ l.fn.row ++ take l.number-index l.more
