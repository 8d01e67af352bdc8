use Rattle.std.proofs.Common.{sym, ap, ◌∙◌}
use Rattle.vg_types_counts.specs.Tallies.{passed}
use Rattle.vg_types_counts.proofs.Tallying.{no_members}
use Rattle.vg_types_counts.proofs.tally.tally_members.Goals as goal

pub returns-in-None-clause-tally : goal.returns-in-None-clause-tally
returns-in-None-clause-tally c texts =
    c.passed.ensures.tally ∙ ap (λ e. passed c.args.so_far e.nodes) (c.measure.ensures.measured texts)
    ∙ sym (no_members c.args.so_far texts c.args.members.now (sym c.in-None.ensures.some))
