use Rattle.vg_toy.specs.Plain.{methods_of}
use Rattle.vg_toy.proofs.Renaming.{same_renamed}
use Rattle.vg_toy.proofs.places.rename.Goals as goal

pub returns : goal.returns
returns c = same_renamed (methods_of c.args.program.now) c.rename_methods.result c.rename_methods.ensures
