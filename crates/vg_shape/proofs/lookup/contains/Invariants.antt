use Rattle.std.proofs.Common.{◌≡◌, drop}
use Rattle.vg_core.specs.Tables.{is_in}
use Rattle.vg_shape.proofs.lookup.contains.Given as goal

abbrev pub invariant-loop-number : goal.invariant-loop-number
invariant-loop-number l = is_in (drop l.number-index l.numbers) l.wanted ≡ is_in l.numbers l.wanted
