use Rattle.vg_long_texts.proofs.Unbuilt.{framed, handled}
use Rattle.vg_long_texts.proofs.laws.texts_that_are_not_built_are_long.Goals as goal

pub returns : goal.returns
returns c = record {
  handlers = handled;
  frames = λ bytes clock f is short lacks words bound. framed c.texts_are_paid.ensures bytes clock f is short lacks words bound;
}
