use Rattle.std.proofs.Common.{◌≡◌, drop}
use Rattle.vg_grammar.specs.Numbers.{number}
use Rattle.vg_grammar.specs.Tables.{mem}
use Rattle.vg_grammar.proofs.choice.contains.Given as goal

abbrev pub invariant-loop-other : goal.invariant-loop-other
invariant-loop-other l = mem (number l.kind) (drop l.other-index l.kinds) ≡ mem (number l.kind) l.kinds
