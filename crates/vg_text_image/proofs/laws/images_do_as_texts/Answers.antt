use Rattle.vg_text_image.proofs.Texts.{does_text}
use Rattle.vg_text_image.proofs.laws.images_do_as_texts.Goals as goal

pub returns : goal.returns
returns g bytes clock f is short i m = does_text bytes clock f is short i m
