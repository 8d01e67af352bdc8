use Rattle.vg_followed.proofs.Finding.{goes_finds_procedure}
use Rattle.vg_followed.proofs.dispatches.procedures_are_found.Goals as goal

pub returns : goal.returns
returns c = λ e i ok m frames. goes_finds_procedure i ok m frames e ⊥
