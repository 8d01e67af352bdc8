use Rattle.std.proofs.Common.{◌≡◌, true}
use Rattle.vg_calls_source.proofs.Alike.{no_cycles}
use Rattle.vg_calls_source.proofs.laws.graphs_alike_have_cycles_alike.Goals as goal

pub returns : goal.returns
returns c = λ entry other_entry edge other_edge stands entries edges one none.
    no_cycles (λ a. entry a ≡ true) (λ a b. edge a b ≡ true) (λ a. other_entry a ≡ true) (λ a b. other_edge a b ≡ true) (λ a b. stands a b ≡ true) entries edges
    one none
