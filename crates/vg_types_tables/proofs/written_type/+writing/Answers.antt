use Rattle.std.proofs.Common.{◌<◌, ◌-◌, length, ap, ◌∙◌, arith}
use Rattle.std.proofs.lemmas.Option.{IfSome_then}
use Rattle.vg_source.specs.Declared.{written_type}
use Rattle.vg_types_tables.proofs.WrittenTypes.{one_smaller, size_of_row, row_same}
use Rattle.vg_types_tables.proofs.written_type.+writing.Goals as goal

pub written_row-written-requires : goal.written_row-written-requires
written_row-written-requires t c =
    let within = c.loop-count.invariant.0 in
    let inside : c.loop-count.count - 1 < length c.args.all.now = omega (arith, within) in
    let less = one_smaller c.args.all.now (c.loop-count.count - 1) c.index-all-count.result inside c.index-all-count.is in
    (omega (arith, less), c.requires.declares)

pub written-written_row-requires : goal.written-written_row-requires
written-written_row-requires t c =
    let size = size_of_row c.args.type_.now c.in-Row.all c.as_slice.result.now c.in-Row.is c.as_slice.ensures.value in
    (omega (arith, size), c.requires.declares)

pub written-returns-in-Row : goal.written-returns-in-Row
written-returns-in-Row t c =
    IfSome_then c.written_row.result c.written_row.ensures
    (λ u e. (e.0 ∙ ap written_type (row_same c.args.names.now c.args.type_.now c.in-Row.all c.as_slice.result.now c.in-Row.is c.as_slice.ensures.value), e.1))
