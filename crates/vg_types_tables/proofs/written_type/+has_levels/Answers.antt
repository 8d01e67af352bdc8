use Rattle.std.proofs.Common.{ap, ◌∙◌, nat_le, ◌-◌}
use Rattle.vg_tree.specs.Held.{type_at}
use Rattle.vg_rules.specs.Written.{levels}
use Rattle.vg_types_tables.proofs.WrittenTypes.{levels_within, levels_beyond, no_levels_within}
use Rattle.vg_types_tables.proofs.written_type.+has_levels.Goals as goal

pub returns-then-levels-most : goal.returns-then-levels-most
returns-then-levels-most t c = λ texts.
    levels_within texts c.args.type_.now c.in-Array.levels c.in-Array.element c.in-Array.is c.args.most c.has_levels.result c.if-levels-most.true
    (c.has_levels.ensures texts ∙ ap (λ e. nat_le (levels (type_at texts e)) (c.args.most - c.in-Array.levels)) c.deref.ensures)

pub returns-else-levels-most : goal.returns-else-levels-most
returns-else-levels-most t c = λ texts.
    levels_beyond texts c.args.type_.now c.in-Array.levels c.in-Array.element c.in-Array.is c.args.most c.if-levels-most.false

pub returns-in-Row : goal.returns-in-Row
returns-in-Row t c = λ texts. no_levels_within texts c.args.type_.now c.in-Row.field-0 c.in-Row.is c.args.most
