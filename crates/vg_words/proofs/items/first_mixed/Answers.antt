use Rattle.std.proofs.Common.{sym, ◌∙◌, ap}
use Rattle.vg_words.specs.Items.{ends_options, is_option}
use Rattle.vg_words.proofs.Firsts.{begins_option}
use Rattle.vg_words.proofs.items.first_mixed.Goals as goal

pub returns-then-is_option-clause-begins : goal.returns-then-is_option-clause-begins
returns-then-is_option-clause-begins c =
    begins_option c.args.words.now c.word-item.result c.as_bytes.result.now c.first_option.result c.in-len1-up.len_at_least c.word-item.is
    c.as_bytes.ensures.value
    (ap ends_options (c.as_bytes.ensures.value ∙ sym c.as_str.ensures.value) ∙ sym c.eq.ensures ∙ c.if-eq.false)
    (ap is_option (c.as_bytes.ensures.value ∙ sym c.deref.ensures) ∙ sym c.is_option.ensures ∙ c.if-is_option.true)
    c.first_option.ensures.begins
