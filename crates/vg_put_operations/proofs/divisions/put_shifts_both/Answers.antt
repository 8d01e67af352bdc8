use Rattle.vg_put_operations.proofs.Put.{on_ok, three}
use Rattle.vg_put_operations.proofs.divisions.put_shifts_both.Goals as goal

-- src/divisions.rt
pub returns : goal.returns
returns c = on_ok c.put_compares_four.result (λ last. three _ _ _ _ _ _ _ c.in_ok-put_doubles.ensures c.in_ok-put_doubles_on.ensures last) c.put_compares_four.ensures
