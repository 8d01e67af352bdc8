use Rattle.std.proofs.Common.{length, sym, ap, ◌∙◌}
use Rattle.vg_firm.specs.Held.{procedure_of}
use Rattle.vg_flatten.specs.Flattened.{temps_for}
use Rattle.vg_flatten.proofs.Searching.{all_needed}
use Rattle.vg_flatten.proofs.procedure.flattened.Goals as goal

pub with_most-requires-clause-needed : goal.with_most-requires-clause-needed
with_most-requires-clause-needed c =
    all_needed c.args.layout.now (procedure_of c.args.procedure.now) (temps_for (length c.as_slice-2.result.now)) c.temps_beside-most.result
    c.in_ok-made.field-0 c.in-None.is c.in_ok-made.ensures.flat
    (c.temps_beside-most.ensures.is ∙ ap temps_for c.len-count.ensures ∙ ap (λ z. temps_for (length z)) (sym c.as_slice-2.ensures))
