use Rattle.vg_fetch.proofs.Turns.{second_missing, two_given}
use Rattle.vg_fetch.proofs.fetch.fetch_two.Goals as goal

pub returns-in-Err-fetch_within-clause-asked : goal.returns-in-Err-fetch_within-clause-asked
returns-in-Err-fetch_within-clause-asked g c =
    second_missing _ _ _ _ _ _ _ _ c.in-Ok.ensures.asked c.in-Err-fetch_within.ensures.asked

pub returns-in-Ok-fetch_within-clause-asked : goal.returns-in-Ok-fetch_within-clause-asked
returns-in-Ok-fetch_within-clause-asked g c =
    two_given _ _ _ _ _ _ _ c.in-Ok.ensures.asked c.in-Ok-fetch_within.ensures.asked
