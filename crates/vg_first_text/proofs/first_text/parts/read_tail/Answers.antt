use Rattle.std.proofs.lemmas.Bool.{false≢true}
use Rattle.std.proofs.Common.{◌∙◌, sym}
use Rattle.vg_first_text.proofs.Parts.{tail_some, tail_none}
use Rattle.vg_first_text.proofs.first_text.parts.read_tail.Goals as goal

pub returns-clause-some : goal.returns-clause-some
returns-clause-some c =
    tail_some _ _ _ _ _ _ (c.are_of_kinds.ensures.0 c.if-not-are_of_kinds.false) c.text_of.ensures c.text_of-2.ensures c.text_of-3.ensures c.text_of-4.ensures

pub returns-then-not-are_of_kinds-clause-none : goal.returns-then-not-are_of_kinds-clause-none
returns-then-not-are_of_kinds-clause-none c = tail_none _ _ (λ k. false≢true (sym c.if-not-are_of_kinds.true ∙ c.are_of_kinds.ensures.1 k))
