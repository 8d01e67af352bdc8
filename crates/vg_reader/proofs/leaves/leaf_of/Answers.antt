use Rattle.std.proofs.Common.{ap, ◌∙◌}
use Rattle.vg_syntax.specs.Made.{Word}
use Rattle.vg_syntax.specs.Reads.{value}
use Rattle.vg_reader.proofs.Named.{text_found}
use Rattle.vg_reader.proofs.leaves.leaf_of.Goals as goal

pub returns-clause-value : goal.returns-clause-value
returns-clause-value c texts g =
    c.leaf.ensures texts
    ∙ ap (λ s. value c.args.token.now.place (Word c.args.token.now.kind s))
    (text_found c.text_of.result.now c.args.names.now c.intern.new.self texts c.in_ok-name.name c.in_ok-name.ensures.held c.in_ok-name.ensures.name g
    ∙ c.text_of.ensures)
