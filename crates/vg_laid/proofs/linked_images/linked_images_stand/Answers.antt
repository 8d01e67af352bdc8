use Rattle.vg_laid.proofs.Placing.{program_stands}
use Rattle.vg_laid.proofs.linked_images.linked_images_stand.Goals as goal

pub returns : goal.returns
returns c = λ e x p parts flash slots ranged words linked sleeps wakes. program_stands e x p parts flash slots ranged words linked sleeps wakes
