use Rattle.std.proofs.Common.{◌≡◌, ◌++◌, map, drop}
use Rattle.vg_number.specs.Counting.{first_of}
use Rattle.vg_number.proofs.numbers.firsts.Given as goal

abbrev pub invariant-loop-span : goal.invariant-loop-span
invariant-loop-span l = l.firsts.items ++ map first_of (drop l.span-index l.spans) ≡ map first_of l.spans
