-- One step from a class to that above it.
use Rattle.std.proofs.Common.{◌≡◌, ℕ, suc, List, [], ◌∷◌, ◌++◌, Option, Some, slice_get, sym, ap, ◌∙◌}
use Rattle.std.proofs.lemmas.List.{append_assoc}
use Rattle.vg_types_chains.specs.Chains.{above_at, chain_up}

pub walked : (above : List (Option ℕ)) (row new : List ℕ) (n m c : ℕ) (o next : Option ℕ) (all : List ℕ) → n ≡ suc m → o ≡ Some c → new ≡ row ++ c ∷ []
    → next ≡ above_at (slice_get above c) → row ++ chain_up n above o ≡ all → new ++ chain_up m above next ≡ all
walked above row new n m c o next all e f g h k =
    ap (λ z. z ++ chain_up m above next) g ∙ ap (λ z. (row ++ c ∷ []) ++ chain_up m above z) h
    ∙ append_assoc row (c ∷ []) (chain_up m above (above_at (slice_get above c)))
    ∙ sym (ap (λ z. row ++ chain_up z above o) e ∙ ap (λ z. row ++ chain_up (suc m) above z) f) ∙ k
