-- Open calls, from the newest frame to the oldest.
use Rattle.std.specs.Prelude.{ℕ, ◌+◌, ◌-◌, ◌<◌, List, [], ◌∷◌, ◌++◌, length, get_or, drop, reverse, Option, Some, None}
use Rattle.std.proofs.Common.{◌≡◌, refl, sym, ap, ◌∙◌, arith, append_assoc}
use Rattle.std.proofs.lemmas.List.{drop_more, get_or-reverse, length-reverse}
use Rattle.vg_meaning.specs.History.{Active}
use Rattle.vg_lin.specs.Steps.{Frame, Language, with_named, open_below}
use Rattle.vg_lin.specs.State.{State}

named_first : (o : Option Active) (calls : List Active) → with_named o calls ≡ with_named o [] ++ calls
named_first None calls = refl
named_first (Some call) calls = refl

pub one_more : (l : Language State) (frames : List (Frame State)) (i : ℕ) (f : Frame State) (so_far new whole : List Active) → i < length frames
    → f ≡ get_or frames (length frames - 1 - i) f → new ≡ so_far ++ open_below l (f ∷ [])
    → so_far ++ open_below l (drop i (reverse frames)) ≡ whole → new ++ open_below l (drop (i + 1) (reverse frames)) ≡ whole
one_more l frames i f so_far new whole below is more before =
    let e = length-reverse frames in
    let within : i < length (reverse frames) = omega (arith, below, e) in
    let first : drop i (reverse frames) ≡ f ∷ drop (i + 1) (reverse frames) =
    drop_more (reverse frames) i f within ∙ ap (λ g. g ∷ drop (i + 1) (reverse frames)) (get_or-reverse frames i f below ∙ sym is) in
    ap (λ xs. xs ++ open_below l (drop (i + 1) (reverse frames))) more
    ∙ append_assoc so_far (open_below l (f ∷ [])) (open_below l (drop (i + 1) (reverse frames)))
    ∙ ap (λ xs. so_far ++ xs) (sym (named_first (l.named f.proc) (open_below l (drop (i + 1) (reverse frames)))) ∙ ap (open_below l) (sym first))
    ∙ before
