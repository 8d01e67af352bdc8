use Rattle.vg_trim.proofs.Soundness.{sound_with}
use Rattle.vg_trim.proofs.trimmed.trimmed.Goals as goal

pub new-requires : goal.new-requires
new-requires c =
    sound_with c.args.old.now c.args.guess.widths c.args.guess.code c.args.guess.facts c.args.guess.places c.method.result c.params.result c.result_width.result c.keeps.ensures
    c.requires.looked c.method.ensures c.params.ensures c.result_width.ensures
