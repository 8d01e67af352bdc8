use Rattle.std.proofs.Common.{sym, ap, ◌∙◌, subst, ◌+◌, ◌/◌, ◌≤◌}
use Rattle.std.proofs.lemmas.Result.{IfOk-weaker}
use Rattle.vg_link.proofs.Imaging.{first_is}
use Rattle.vg_link.proofs.linking.first_word.Goals as goal

pub word_behind_tables-requires : goal.word_behind_tables-requires
word_behind_tables-requires c = subst (λ k. k ≤ 60000) (sym c.len.ensures) c.requires.can.few_tables

pub returns : goal.returns
returns c =
    IfOk-weaker c.behind_code.result _ _ (λ first h.
    first_is c.args.unlinked.now c.word_behind_tables.result first c.args.reset.now
    (c.word_behind_tables.ensures ∙ ap (λ k. 70 + (k + 1) / 2) c.len.ensures) c.requires.reset h)
    c.behind_code.ensures
