-- One step of the walk that finds the places.
use Rattle.std.specs.Prelude.{ℕ, suc, ◌+◌, ◌*◌, ◌<◌, ◌≤◌, List, [], ◌∷◌, ◌++◌, length, drop, get_or}
use Rattle.std.proofs.Common.{◌≡◌, sym, ap, ◌∙◌, arith, length-append, append_assoc, drop-cons}
use Rattle.vg_lin.specs.declared.instr.Instr.{Instr}
use Rattle.vg_expand.specs.Code.{Base, expanded_at, size, places_from}
use Rattle.vg_expand.proofs.Placed.{size_is}
use Rattle.vg_expand.proofs.Expanded.{size_small}

pub walked : (base : Base) (f : ℕ → ℕ) (code : List Instr) (k : ℕ) (d : Instr) (draft next : List Instr) (found more : List ℕ) (len : ℕ) → k < length code
    → found ++ places_from base (length draft) (drop k code) ≡ places_from base 0 code → length draft ≤ 2 * k
    → next ≡ draft ++ expanded_at base f (get_or code k d) → more ≡ found ++ len ∷ [] → len ≡ length draft
    → (more ++ places_from base (length next) (drop (k + 1) code) ≡ places_from base 0 code) × (length next ≤ 2 * (k + 1))
walked base f code k d draft next found more len h all short n m l = (
  ap (λ z. z ++ places_from base (length next) (drop (k + 1) code)) (m ∙ ap (λ z. found ++ z ∷ []) l)
      ∙ (append_assoc found (length draft ∷ []) (places_from base (length next) (drop (k + 1) code))
      ∙ (ap (λ z. found ++ length draft ∷ places_from base z (drop (k + 1) code)) grown
      ∙ (ap (λ z. found ++ places_from base (length draft) z) (sym rest) ∙ all))),
  let s = size_small base i in omega (arith, grown, short, s),
)
  where
    i : Instr
    i = get_or code k d

    grown : length next ≡ length draft + size base i
    grown = ap length n ∙ (length-append draft (expanded_at base f i) ∙ ap (λ z. length draft + z) (size_is base f i))

    rest : drop k code ≡ i ∷ drop (k + 1) code
    rest = drop-cons code k d h ∙ ap (λ z. i ∷ drop z code) (one_more k)
      where
        one_more : (k : ℕ) → suc k ≡ k + 1
        one_more k = omega arith
