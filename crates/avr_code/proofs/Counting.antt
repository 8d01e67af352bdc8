-- Words of instructions, of those in front and one more.
use Rattle.std.proofs.Common.{◌≡◌, ℕ, zero, suc, ◌+◌, ◌<◌, ◌≤◌, List, [], ◌∷◌, length, get_or, take, refl, ap, ◌∙◌, arith}
use Rattle.avr_instr.specs.declared.instr.Instr.{Instr}
use Rattle.avr_isa.specs.Standing.{width, widths}

pub widths_more : (code : List Instr) (k : ℕ) (d : Instr) → k < length code → widths (take (k + 1) code) ≡ widths (take k code) + width (get_or code k d)
widths_more [] k d h = absurd (omega arith)
widths_more (i ∷ is) zero d h = omega arith
widths_more (i ∷ is) (suc k) d h =
    let e : suc k + 1 ≡ suc (k + 1) = omega arith in
    let rest = widths_more is k d (omega arith) in
    let all : width i + widths (take (k + 1) is) ≡ width i + widths (take k is) + width (get_or is k d) = omega (arith, rest) in
    ap (λ n. widths (take n (i ∷ is))) e ∙ all

pub widths_all : (code : List Instr) (k : ℕ) → length code ≤ k → widths (take k code) ≡ widths code
widths_all [] zero h = refl
widths_all [] (suc k) h = refl
widths_all (i ∷ is) zero h = absurd (omega arith)
widths_all (i ∷ is) (suc k) h = let rest = widths_all is k (omega arith) in omega (arith, rest)
