use Rattle.vg_renamed.proofs.Named.{is_named}
use Rattle.vg_renamed.proofs.renaming.names_in_place.Goals as goal

pub returns : goal.returns
returns c = λ n p tell. is_named n p tell
