use Rattle.std.proofs.Common.{sym, ap, ◌∙◌}
use Rattle.vg_types_counts.specs.Tallies.{passed}
use Rattle.vg_types_counts.proofs.Tallying.{other_declaration}
use Rattle.vg_types_counts.proofs.tally.past_declaration.Goals as goal

pub returns-clause-tally : goal.returns-clause-tally
returns-clause-tally c texts =
    c.passed.ensures.tally ∙ ap (λ e. passed c.args.so_far e.nodes) (c.measure.ensures.measured texts)
    ∙ sym (other_declaration c.args.so_far texts c.args.declaration.now c.requires.other)
