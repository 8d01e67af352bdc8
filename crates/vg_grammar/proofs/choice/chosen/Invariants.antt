use Rattle.std.proofs.Common.{◌≡◌, ◌≤◌, ◌-◌, drop, length}
use Rattle.vg_syntax.specs.Grammar.{rules}
use Rattle.vg_grammar.specs.Numbers.{number}
use Rattle.vg_grammar.specs.Tables.{first_suited, chosen}
use Rattle.vg_grammar.proofs.choice.chosen.Given as goal

abbrev pub invariant-loop-symbols : goal.invariant-loop-symbols
invariant-loop-symbols l = (l.index ≤ length (rules l.part)) × (first_suited (drop l.index (rules l.part)) (number l.look) ≡ chosen l.part (number l.look))

abbrev pub decreases-loop-symbols : goal.decreases-loop-symbols
decreases-loop-symbols l = length (rules l.part) - l.index
