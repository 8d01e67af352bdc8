use Rattle.std.proofs.Common.{sym, ap, ◌∙◌}
use Rattle.vg_types_counts.specs.Tallies.{passed}
use Rattle.vg_types_counts.proofs.Tallying.{no_declarations}
use Rattle.vg_types_counts.proofs.tally.tally_declarations.Goals as goal

pub returns-in-None : goal.returns-in-None
returns-in-None c = record {
  tally = λ texts.
      c.passed.ensures.tally ∙ ap (λ e. passed c.args.so_far e.nodes) (c.measure.ensures.measured texts)
      ∙ sym (no_declarations c.args.so_far texts c.args.declarations.now (sym c.in-None.ensures.some));
}
