-- A move of at least two bytes begins with a move of two.
use Rattle.std.proofs.Common.{◌≡◌, ℕ, zero, suc, ◌+◌, ◌-◌, ◌≤◌, ◌++◌, ap, ◌∙◌, arith}
use Rattle.vg_templates.specs.Transfers.{moves_two, moves}

pub moves_more : (r d w n : ℕ) → 2 ≤ w → 2 ≤ n → moves r d w n ≡ moves_two r d ++ moves (r + 2) (d + 2) (w - 2) (n - 2)
moves_more r d zero n low few = absurd (omega arith)
moves_more r d (suc zero) n low few = absurd (omega arith)
moves_more r d (suc (suc w)) zero low few = absurd (omega arith)
moves_more r d (suc (suc w)) (suc zero) low few = absurd (omega arith)
moves_more r d (suc (suc w)) (suc (suc n)) low few =
    let a : suc (suc r) ≡ r + 2 = omega arith in
    let b : suc (suc d) ≡ d + 2 = omega arith in
    let x : w ≡ suc (suc w) - 2 = omega arith in
    let y : n ≡ suc (suc n) - 2 = omega arith in
    ap (λ z. moves_two r d ++ moves z (suc (suc d)) w n) a ∙ ap (λ z. moves_two r d ++ moves (r + 2) z w n) b
    ∙ ap (λ z. moves_two r d ++ moves (r + 2) (d + 2) z n) x ∙ ap (λ z. moves_two r d ++ moves (r + 2) (d + 2) (suc (suc w) - 2) z) y
