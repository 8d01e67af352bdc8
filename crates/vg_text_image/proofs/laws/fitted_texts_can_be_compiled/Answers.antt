use Rattle.vg_text_image.proofs.Texts.{can_compile}
use Rattle.vg_text_image.proofs.laws.fitted_texts_can_be_compiled.Goals as goal

pub returns : goal.returns
returns g bytes clock f is short = can_compile bytes clock f is short
