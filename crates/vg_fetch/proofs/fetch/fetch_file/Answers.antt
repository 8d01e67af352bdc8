use Rattle.vg_fetch.proofs.Turns.{one_fetched}
use Rattle.vg_fetch.proofs.fetch.fetch_file.Goals as goal

pub returns-clause-asked : goal.returns-clause-asked
returns-clause-asked g c = one_fetched _ _ _ _ _ c.fetch_within.ensures.asked
