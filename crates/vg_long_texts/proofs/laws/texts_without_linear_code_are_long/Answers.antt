use Rattle.vg_long_texts.proofs.Long.{long_of}
use Rattle.vg_long_texts.proofs.laws.texts_without_linear_code_are_long.Goals as goal

pub returns : goal.returns
returns c = λ bytes clock f is short lacks words bound. long_of c.short_texts_have_linear_code.ensures bytes clock f is short lacks words bound
