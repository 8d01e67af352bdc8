use Rattle.std.proofs.Common.{refl, map, ap, ◌∙◌}
use Rattle.vg_firm.specs.Held.{procedure_of}
use Rattle.vg_core.specs.HeldProgram.{program_at}
use Rattle.vg_pack.proofs.Whole.{all_listed, few_cells, few_elements, few_live, few_in_heap, few_listed, planned_of, starts_there, fit_there, parts}
use Rattle.vg_pack.proofs.packing.by_plan.Goals as goal

pub plan-requires-clause-listed : goal.plan-requires-clause-listed
plan-requires-clause-listed c =
    all_listed (program_at c.args.program.now) c.args.heap.now c.args.live.now c.args.numbers.now c.args.columns.now c.requires

pub plan-requires-clause-few : goal.plan-requires-clause-few
plan-requires-clause-few c =
    few_cells (program_at c.args.program.now) c.args.heap.now c.args.live.now c.args.numbers.now c.args.columns.now c.requires

pub plan-requires-clause-small : goal.plan-requires-clause-small
plan-requires-clause-small c =
    few_elements (program_at c.args.program.now) c.args.heap.now c.args.live.now c.args.numbers.now c.args.columns.now c.requires

pub plan-requires-clause-live : goal.plan-requires-clause-live
plan-requires-clause-live c =
    few_live (program_at c.args.program.now) c.args.heap.now c.args.live.now c.args.numbers.now c.args.columns.now c.requires

pub plan-requires-clause-columns : goal.plan-requires-clause-columns
plan-requires-clause-columns c =
    few_listed (program_at c.args.program.now) c.args.heap.now c.args.live.now c.args.numbers.now c.args.columns.now c.requires
    c.as_slice-list.result.now c.as_slice-list.ensures

pub first_columns-requires-clause-cells : goal.first_columns-requires-clause-cells
first_columns-requires-clause-cells c =
    few_in_heap (program_at c.args.program.now) c.args.heap.now c.args.live.now c.args.numbers.now c.args.columns.now c.requires

pub array_tables-requires-clause-starts : goal.array_tables-requires-clause-starts
array_tables-requires-clause-starts c =
    starts_there (program_at c.args.program.now) c.args.heap.now c.args.live.now c.args.numbers.now c.args.columns.now c.requires c.in_ok-planned.planned
    (planned_of (program_at c.args.program.now) c.args.heap.now c.args.live.now c.args.numbers.now c.args.columns.now c.requires
    c.as_slice-list.result.now c.in_ok-planned.planned c.as_slice-list.ensures c.in_ok-planned.ensures.plans)
    c.cells.result.now c.as_slice.result.now c.as_slice-3.result.now c.cells.ensures c.as_slice.ensures c.as_slice-3.ensures

pub array_tables-requires-clause-fit : goal.array_tables-requires-clause-fit
array_tables-requires-clause-fit c =
    fit_there (program_at c.args.program.now) c.args.heap.now c.args.live.now c.args.numbers.now c.args.columns.now c.requires c.in_ok-planned.planned
    (planned_of (program_at c.args.program.now) c.args.heap.now c.args.live.now c.args.numbers.now c.args.columns.now c.requires
    c.as_slice-list.result.now c.in_ok-planned.planned c.as_slice-list.ensures c.in_ok-planned.ensures.plans)
    c.cells.result.now c.as_slice.result.now c.as_slice-2.result.now c.cells.ensures c.as_slice.ensures c.as_slice-2.ensures

pub procedures-requires-clause-asked : goal.procedures-requires-clause-asked
procedures-requires-clause-asked c = c.in_ok-planned.ensures.asked

pub returns : goal.returns
returns c =
    parts (program_at c.args.program.now) c.args.heap.now c.args.live.now c.args.numbers.now c.args.columns.now c.requires c.in_ok-planned.planned
    (planned_of (program_at c.args.program.now) c.args.heap.now c.args.live.now c.args.numbers.now c.args.columns.now c.requires
    c.as_slice-list.result.now c.in_ok-planned.planned c.as_slice-list.ensures c.in_ok-planned.ensures.plans)
    c.as_slice-list.result.now c.cells.result.now c.as_slice.result.now c.as_slice-2.result.now c.as_slice-4.result.now _
    c.as_slice-list.ensures c.cells.ensures c.as_slice.ensures c.as_slice-2.ensures c.as_slice-4.ensures
    (ap (map procedure_of) c.from_vec.ensures ∙ c.in_ok-procedures.ensures) refl
    c.procedure-main.ensures c.in_ok-handlers.ensures c.in_ok-tables.ensures.0 c.in_ok-tables.ensures.1 c.in_ok-tables.ensures.2 c.in_ok-values.ensures
