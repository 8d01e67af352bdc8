use Rattle.vg_text_image.proofs.Texts.{built_of, deep_of, full_of, linear_of, needs_of}
use Rattle.vg_text_image.proofs.making.image_of.Goals as goal

pub returns-clause-full : goal.returns-clause-full
returns-clause-full c = full_of _ _ c.compiled.ensures.refused

pub returns-clause-deep : goal.returns-clause-deep
returns-clause-deep c = deep_of _ _ c.compiled.ensures.refused

pub returns-clause-calls : goal.returns-clause-calls
returns-clause-calls c = needs_of c.args.fitted.now c.compiled.result c.compiled.ensures.calls

pub returns-clause-linear : goal.returns-clause-linear
returns-clause-linear c = linear_of c.args.fitted.now c.compiled.result c.compiled.ensures.linear

pub returns-clause-built : goal.returns-clause-built
returns-clause-built c = built_of c.args.fitted.now c.compiled.result c.compiled.ensures.built
