use Rattle.std.proofs.Common.{◌≡◌, ◌++◌, ◌∷◌, [], ℕ, List, codes, refl, ap, ◌∙◌, slice_index}
use Rattle.hex.specs.Hex.{encode_with}
use Rattle.vg_script.specs.Traces.{word_digits}
use Rattle.vg_script.proofs.traces.bad_line.Goals as goal

abbrev line : (p w : List ℕ) → List ℕ
line p w =
    98 ∷ 97 ∷ 100 ∷ 32 ∷ slice_index p 0 ∷ slice_index p 1 ∷ slice_index p 2 ∷ slice_index p 3 ∷ 32
    ∷ slice_index w 0 ∷ slice_index w 1 ∷ slice_index w 2 ∷ slice_index w 3 ∷ 10 ∷ []

spelled : (pc word : ℕ) → line (word_digits pc) (word_digits word) ≡ codes "bad " ++ word_digits pc ++ codes " " ++ word_digits word ++ codes "\n"
unfolding encode_with
spelled pc word = refl

pub returns : goal.returns
returns c =
    ap (λ p. line p c.word_digits-w.result) c.word_digits-p.ensures
    ∙ ap (line (word_digits c.args.pc)) c.word_digits-w.ensures
    ∙ spelled c.args.pc c.args.word
