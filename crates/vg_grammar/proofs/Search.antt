-- The search for the first alternative that suits the next token.
use Rattle.std.proofs.Common.{◌≡◌, ℕ, zero, suc, ◌+◌, ◌-◌, ◌<◌, ◌≤◌, true, false, List, [], ◌∷◌, length, Some, None, refl, sym, ap, ◌∙◌, arith, drop}
use Rattle.std.specs.Prelude.{if◌then◌else◌}
use Rattle.vg_syntax.specs.declared.grammar.Symbol.{Symbol}
use Rattle.vg_syntax.specs.Parses.{nth}
use Rattle.vg_grammar.specs.Tables.{suits, pick, first_suited}

pub suited : (rs : List (List Symbol)) (i u : ℕ) (r : List Symbol) → Some r ≡ nth rs i → suits r u ≡ true → Some r ≡ first_suited (drop i rs) u
suited [] i u r e s = absurd (let clash : Some r ≡ None = e in cc)
suited (x ∷ rs) zero u r e s =
    let f : Some r ≡ Some x = e in
    let g : r ≡ x = cc in
    let t : suits x u ≡ true = ap (λ l. suits l u) (sym g) ∙ s in
    e ∙ sym (ap (λ b. nth (x ∷ rs) (if b then 0 else suc (pick rs u))) t)
suited (x ∷ rs) (suc i) u r e s = suited rs i u r e s

pub passed : (rs : List (List Symbol)) (i u : ℕ) (r : List Symbol) → Some r ≡ nth rs i → suits r u ≡ false
    → (i + 1 ≤ length rs) × (first_suited (drop (i + 1) rs) u ≡ first_suited (drop i rs) u)
passed [] i u r e s = absurd (let clash : Some r ≡ None = e in cc)
passed (x ∷ rs) zero u r e s =
    let f : Some r ≡ Some x = e in
    let g : r ≡ x = cc in
    let t : suits x u ≡ false = ap (λ l. suits l u) (sym g) ∙ s in
    (omega arith, sym (ap (λ b. nth (x ∷ rs) (if b then 0 else suc (pick rs u))) t))
passed (x ∷ rs) (suc i) u r e s =
    let h = passed rs i u r e s in
    let n = h.0 in
    let z : suc i + 1 ≡ suc (i + 1) = omega arith in
    (omega (arith, n), ap (λ j. first_suited (drop j (x ∷ rs)) u) z ∙ h.1)

pub none_left : (rs : List (List Symbol)) (i u : ℕ) → None ≡ nth rs i → None ≡ first_suited (drop i rs) u
none_left [] zero u e = refl
none_left [] (suc i) u e = refl
none_left (x ∷ rs) zero u e = absurd (let clash : None ≡ Some x = e in cc)
none_left (x ∷ rs) (suc i) u e = none_left rs i u e

pub shorter : (l i : ℕ) → i + 1 ≤ l → l - (i + 1) < l - i
shorter l i h = omega (arith, h)
