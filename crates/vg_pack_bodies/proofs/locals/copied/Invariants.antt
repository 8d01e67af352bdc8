use Rattle.std.proofs.Common.{◌≡◌, ◌++◌, drop}
use Rattle.vg_pack_bodies.proofs.locals.copied.Given as goal

abbrev pub invariant-loop-number : goal.invariant-loop-number
invariant-loop-number l = l.row ++ drop l.number-index l.numbers ≡ l.numbers
