-- Where no text goes on there is no text.
use Rattle.std.proofs.Common.{ℕ, List, [], ◌∷◌, ◌++◌, sym, subst, append_assoc, append-nil, take, drop, take-append-drop}
use Rattle.vg_syntax.specs.declared.token.Token.{Token}
use Rattle.vg_syntax.specs.Parses.{Sentence, Stops, NoTreeAt}

stops_text : (front rest : List Token) → Stops front rest → Sentence (front ++ rest) → ⊥
stops_text front [] h = λ k. h (subst Sentence (append-nil front) k)
stops_text front (t ∷ rest) h = λ k. h (rest, subst Sentence (sym (append_assoc front (t ∷ []) rest)) k)

pub no_text : (ts : List Token) (i : ℕ) → NoTreeAt ts i → Sentence ts → ⊥
no_text ts i n k = stops_text (take i ts) (drop i ts) n.1 (subst Sentence (sym (take-append-drop i ts)) k)
