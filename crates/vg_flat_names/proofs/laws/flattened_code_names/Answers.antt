use Rattle.std.proofs.Common.{◌≡◌, true}
use Rattle.vg_flat_names.proofs.Flat.{names_flattened}
use Rattle.vg_flat_names.proofs.laws.flattened_code_names.Goals as goal

pub returns : goal.returns
returns c = λ is_ok. names_flattened (λ a. is_ok a ≡ true)
