use Rattle.std.proofs.Common.{ap, ◌∙◌, length}
use Rattle.vg_source.specs.Peak.{cost_of}
use Rattle.vg_method_sizes.specs.Sizes.{sizes}
use Rattle.vg_text_counted.proofs.Costs.{as_many, by_size}
use Rattle.vg_text_counted.proofs.laws.methods_of_texts_cost.Goals as goal

pub returns-clause-each : goal.returns-clause-each
returns-clause-each c = λ bytes texts tree p is reads m y b ey eb.
    ap (λ z. cost_of z m) (c.costs_by_size.ensures tree)
    ∙ by_size (sizes tree) m _
    (c.methods_have_sizes.ensures texts tree p is.named is.told is.nodes (c.locals_among_statements.ensures bytes tree reads) m y b ey eb)

pub returns-clause-many : goal.returns-clause-many
returns-clause-many c = λ texts tree p is. ap length (c.costs_by_size.ensures tree) ∙ as_many p.tables.methods (sizes tree) is.nodes
