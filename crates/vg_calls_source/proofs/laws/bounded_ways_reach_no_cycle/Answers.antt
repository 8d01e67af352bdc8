use Rattle.std.proofs.Common.{◌≡◌, true}
use Rattle.vg_calls_source.proofs.Rounds.{no_cycle}
use Rattle.vg_calls_source.proofs.laws.bounded_ways_reach_no_cycle.Goals as goal

pub returns : goal.returns
returns c = λ entry edge cost most enough paid. no_cycle (λ a. entry a ≡ true) (λ a b. edge a b ≡ true) cost most enough paid
