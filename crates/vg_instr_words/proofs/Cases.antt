-- How many words the cases of a dispatch take.
use Rattle.std.specs.Prelude.{ℕ, ◌+◌, ◌*◌, ◌≤◌, Bool, true, false, ◌==◌, ◌&&◌, if◌then◌else◌, List, [], ◌∷◌, ◌++◌, length}
use Rattle.std.proofs.Common.{◌≡◌, arith}
use Rattle.avr_instr.specs.declared.instr.Instr.TheVariants.{Brbc, Movw}
use Rattle.avr_isa.specs.Standing.{widths}
use Rattle.avr_isa.proofs.Standing.{widths-append}
use Rattle.vg_codes.specs.declared.case.Case.{Case}
use Rattle.vg_templates.specs.Transfers.{known}
use Rattle.vg_templates.specs.Chains.{takes_known}
use Rattle.vg_templates.specs.Choices.{is_alone, unusual}
use Rattle.vg_templates.specs.Lookups.{tries_case, tries_cases}
use Rattle.vg_instr_words.proofs.Chains.{known_words, takes_words}

pub unusual_few : (p : ℕ) (cs : List Case) → length (unusual p cs) ≤ length cs
unusual_few p [] = omega arith
unusual_few p (c ∷ cs) = by_test ((c.procedure == p) && is_alone p c cs) (unusual_few p cs)
  where
    by_test : (b : Bool) → length (unusual p cs) ≤ length cs → length (if b then unusual p cs else c ∷ unusual p cs) ≤ length (c ∷ cs)
    by_test true few = omega (arith, few)
    by_test false few = omega (arith, few)

case_words : (codes : ℕ → ℕ) (c : Case) → widths (tries_case codes c) ≡ 8
case_words codes c =
    let all = widths-append (Movw 26 24 ∷ takes_known 26 2 c.first) (takes_known 26 2 c.count ++ Brbc 0 2 ∷ known 22 2 (codes c.procedure)) in
    let behind = widths-append (takes_known 26 2 c.count) (Brbc 0 2 ∷ known 22 2 (codes c.procedure)) in
    let first = takes_words 26 2 c.first in
    let count = takes_words 26 2 c.count in
    let code = known_words 22 2 (codes c.procedure) in omega (arith, all, behind, first, count, code)

pub cases_words : (codes : ℕ → ℕ) (p : ℕ) (cs : List Case) → widths (tries_cases codes p cs) ≡ 2 + 8 * length cs
cases_words codes p [] = let all = known_words 22 2 (codes p) in omega (arith, all)
cases_words codes p (c ∷ cs) =
    let rest = cases_words codes p cs in
    let one = case_words codes c in
    let all = widths-append (tries_cases codes p cs) (tries_case codes c) in omega (arith, rest, one, all)
