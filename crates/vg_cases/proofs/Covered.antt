-- Cases that cover others have their procedures.
use Rattle.std.proofs.Common.{◌≡◌, refl, ◌∙◌, ap, sym, arith, ℕ, ◌≤◌, ◌==◌, ◌&&◌, Bool, true, false, List, [], ◌∷◌, length, drop, Some}
use Rattle.std.proofs.Common.{if◌then◌else◌}
use Rattle.std.proofs.Math.ListN.{drop_of_length-le}
use Rattle.vg_codes.specs.declared.case.Case.{Case}
use Rattle.vg_codes.specs.Dispatch.{is_within, procedure_for}
use Rattle.vg_cases.specs.Fewer.{Covers, covers, has_all, is_covered, overlap}

-- a case that has all of another one has its numbers, and its procedure
all_numbers : (d c : Case) (n : ℕ) → has_all d c ≡ true → is_within c.first c.count n ≡ true → is_within d.first d.count n ≡ true
all_numbers d c n h w = grind (arith, h, w)

all_procedure : (d c : Case) → has_all d c ≡ true → d.procedure ≡ c.procedure
all_procedure d c h = grind (arith, h)

-- a case that shares no number with another one has none of its numbers
none_shared : (d c : Case) (n : ℕ) → overlap c d ≡ false → is_within c.first c.count n ≡ true → is_within d.first d.count n ≡ false
none_shared d c n h w = grind (arith, h, w)

no_number : (c : Case) (n : ℕ) → (c.count == 0) ≡ true → is_within c.first c.count n ≡ true → ⊥
no_number c n h w = grind (arith, h, w)

both : (a b : Bool) → (a && b) ≡ true → (a ≡ true) × (b ≡ true)
both true b h = (refl, h)
both false b h = grind (arith, h)

covered_is : (new : List Case) (c : Case) (n : ℕ) → is_covered new c ≡ true → is_within c.first c.count n ≡ true → procedure_for new n ≡ Some c.procedure
covered_is [] c n h w = absurd (no_number c n h w)
covered_is (d ∷ ds) c n h w = by (overlap c d) refl h (λ q. covered_is ds c n q w)
  where
    by : (b : Bool) → overlap c d ≡ b → (if b then has_all d c else is_covered ds c) ≡ true
        → (is_covered ds c ≡ true → procedure_for ds n ≡ Some c.procedure) → procedure_for (d ∷ ds) n ≡ Some c.procedure
    by true e q more =
        ap (λ z. if z then Some d.procedure else procedure_for ds n) (all_numbers d c n q w) ∙ ap Some (all_procedure d c q)
    by false e q more = ap (λ z. if z then Some d.procedure else procedure_for ds n) (none_shared d c n e w) ∙ more q

pub covers_is : (new old : List Case) → covers new old ≡ true → Covers old new
covers_is new [] h n q e = absurd (grind (arith, e))
covers_is new (c ∷ cs) h n q e =
    let each = both (is_covered new c) (covers new cs) h in by (is_within c.first c.count n) refl e (each.0) (covers_is new cs (each.1) n q)
  where
    by : (b : Bool) → is_within c.first c.count n ≡ b → (if b then Some c.procedure else procedure_for cs n) ≡ Some q
        → is_covered new c ≡ true → (procedure_for cs n ≡ Some q → procedure_for new n ≡ Some q) → procedure_for new n ≡ Some q
    by true w is one more = covered_is new c n one w ∙ is
    by false w is one more = more is

-- where nothing is left to be covered
pub all_covered : (new old : List Case) (i : ℕ) → length old ≤ i → covers new (drop i old) ≡ covers new old → covers new old ≡ true
all_covered new old i past e = sym e ∙ ap (covers new) (drop_of_length-le old past)

pub covers_then : (a b c : List Case) → Covers a b → Covers b c → Covers a c
covers_then a b c one two n q e = two n q (one n q e)

pub covers_same : (a : List Case) → Covers a a
covers_same a n q e = e
