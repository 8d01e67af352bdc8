use Rattle.std.proofs.Common.{◌≤◌, length, sym, subst}
use Rattle.vg_gen.proofs.Lengths.{generated_short}
use Rattle.vg_gen.proofs.generator.generate.Goals as goal

pub returns-clause-short : goal.returns-clause-short
returns-clause-short c = subst (λ text. length text ≤ 262144) (sym c.in_ok-text.ensures) (generated_short c.args.n c.requires.few)
