use Rattle.std.proofs.Common.{sym, ap, ◌∙◌}
use Rattle.vg_types_counts.specs.Tallies.{passed}
use Rattle.vg_types_counts.proofs.Tallying.{other_member}
use Rattle.vg_types_counts.proofs.tally.past_member.Goals as goal

pub returns-clause-tally : goal.returns-clause-tally
returns-clause-tally c texts =
    c.passed.ensures.tally ∙ ap (λ e. passed c.args.so_far e.nodes) (c.measure.ensures.measured texts)
    ∙ sym (other_member c.args.so_far texts c.args.member.now c.requires.other)
