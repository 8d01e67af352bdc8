use Rattle.vg_put_operations.proofs.Put.{on_ok, three}
use Rattle.vg_put_operations.proofs.divisions.put_divides_in_place.Goals as goal

-- src/divisions.rt
pub returns : goal.returns
returns c = on_ok c.put_turns_in_place.result (λ last. three _ _ _ _ _ _ _ c.in_ok-put_brings.ensures c.in_ok-put_count.ensures last) c.put_turns_in_place.ensures
