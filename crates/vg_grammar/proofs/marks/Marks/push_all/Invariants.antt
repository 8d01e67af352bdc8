use Rattle.std.proofs.Common.{◌≡◌, ◌++◌, reverse, length, map}
use Rattle.vg_grammar.specs.declared.marks.Mark.TheVariants.{See}
use Rattle.vg_grammar.proofs.marks.Marks.push_all.Given as goal

abbrev pub invariant-loop-last : goal.invariant-loop-last
invariant-loop-last l = map See l.left ++ reverse l.self-inside.marks.items ≡ map See l.fn.symbols ++ l.fn.self

abbrev pub decreases-loop-last : goal.decreases-loop-last
decreases-loop-last l = length l.left
