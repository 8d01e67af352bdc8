use Rattle.std.proofs.Common.{◌∙◌}
use Rattle.vg_lookup.proofs.Words.{cut_word, short_word, split_word}
use Rattle.vg_lookup.proofs.naming.is_word_of.Goals as goal

pub returns-in-Some : goal.returns-in-Some
returns-in-Some c =
    let (fits, front, behind, size, rest) = c.in-Some.ensures.cases in
    c.are_parts.ensures ∙ cut_word c.args.word.now _ _ c.args.owner.now c.args.name.now (split_word c.args.word.now _ _ _ front behind) size

pub returns-in-None : goal.returns-in-None
returns-in-None c = short_word c.args.word.now c.args.owner.now c.args.name.now c.in-None.ensures.cases
