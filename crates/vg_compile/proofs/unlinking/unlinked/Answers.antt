use Rattle.std.proofs.Common.{ap, ◌∙◌, map}
use Rattle.vg_compile.specs.Compile.{handler_of}
use Rattle.vg_compile.proofs.Unlinked.{is_unlinked}
use Rattle.vg_compile.proofs.unlinking.unlinked.Goals as goal

pub returns-clause-unlinked : goal.returns-clause-unlinked
returns-clause-unlinked c =
    is_unlinked c.args.columns.now c.args.firm.now c.args.linear c.as_slice.result.now c.as_slice-2.result.now c.into_parts-procedures.result.0
    c.into_parts-procedures.result.1 c.in_ok-tables.tables c.in_ok-handlers.handlers c.as_slice.ensures c.as_slice-2.ensures
    c.into_parts-procedures.ensures.procedures c.into_parts-procedures.ensures.dispatches c.in_ok-tables.ensures c.in_ok-handlers.ensures

pub returns-clause-handlers : goal.returns-clause-handlers
returns-clause-handlers c = c.in_ok-handlers.ensures ∙ ap (map handler_of) c.as_slice-2.ensures
