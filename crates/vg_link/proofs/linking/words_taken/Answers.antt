use Rattle.std.proofs.Common.{refl, length}
use Rattle.std.proofs.lemmas.Result.{IfOk-weaker}
use Rattle.vg_link.proofs.Imaging.{words_are}
use Rattle.vg_link.proofs.linking.words_taken.Goals as goal

pub returns : goal.returns
returns c =
    IfOk-weaker c.word_behind_stubs.result _ _ (λ words h.
    words_are c.args.unlinked.now c.args.laid.now.end (length c.args.stubs.now) words c.args.stubs.now c.requires.end refl c.requires.stubs h)
    c.word_behind_stubs.ensures
