use Rattle.vg_text_image.proofs.Texts.{deep_calls}
use Rattle.vg_text_image.proofs.laws.needs_are_of_texts.Goals as goal

pub returns : goal.returns
returns c = λ bytes clock f is short need needs. deep_calls bytes clock f is short need needs
