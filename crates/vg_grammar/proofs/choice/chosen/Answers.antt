use Rattle.std.proofs.Common.{sym, ◌∙◌, length}
use Rattle.vg_syntax.specs.Grammar.{rules}
use Rattle.vg_grammar.specs.Numbers.{number}
use Rattle.vg_grammar.proofs.Room.{short_alternative}
use Rattle.vg_grammar.proofs.Search.{suited, passed, none_left, shorter}
use Rattle.vg_grammar.proofs.choice.chosen.Goals as goal

pub returns-then-suits-clause-chosen : goal.returns-then-suits-clause-chosen
returns-then-suits-clause-chosen c =
    suited (rules c.args.part) c.loop-symbols.index (number c.args.look) _ c.in-Some.ensures (sym c.suits.ensures ∙ c.if-suits.true)
    ∙ c.loop-symbols.invariant.1

pub returns-then-suits-clause-short : goal.returns-then-suits-clause-short
returns-then-suits-clause-short c = short_alternative c.args.part c.loop-symbols.index _ c.in-Some.ensures

pub loop-symbols-smaller : goal.loop-symbols-smaller
loop-symbols-smaller c =
    shorter (length (rules c.args.part)) c.loop-symbols.index (passed (rules c.args.part) c.loop-symbols.index (number c.args.look) _ c.in-Some.ensures
    (sym c.suits.ensures ∙ c.if-suits.false)).0

pub loop-symbols-preserved : goal.loop-symbols-preserved
loop-symbols-preserved c =
    let h = passed (rules c.args.part) c.loop-symbols.index (number c.args.look) _ c.in-Some.ensures (sym c.suits.ensures ∙ c.if-suits.false) in
    (h.0, h.1 ∙ c.loop-symbols.invariant.1)

pub returns-clause-chosen : goal.returns-clause-chosen
returns-clause-chosen c = none_left (rules c.args.part) c.loop-symbols.index (number c.args.look) c.in_default.ensures ∙ c.loop-symbols.invariant.1
