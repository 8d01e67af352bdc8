use Rattle.std.proofs.Common.{◌≡◌, true}
use Rattle.vg_flat_names.proofs.Expanded.{names_expanded}
use Rattle.vg_flat_names.proofs.laws.expanded_code_names.Goals as goal

pub returns : goal.returns
returns c = λ is_ok. names_expanded (λ a. is_ok a ≡ true)
