-- Joined cases are no more than before, and their numbers have two bytes where they had before.
use Rattle.std.proofs.Common.{◌≡◌, refl, arith, suc, ◌≤◌, Bool, true, false, List, [], ◌∷◌, length, if◌then◌else◌}
use Rattle.vg_codes.specs.declared.case.Case.{Case}
use Rattle.vg_cases.specs.Fewer.{AreTwoBytes, IsTwoBytes, can_join, joined, merged, together}

joined_small : (c d : Case) → can_join c d ≡ true → IsTwoBytes c → IsTwoBytes d → IsTwoBytes (joined c d)
joined_small c d h hc hd = record { first = hc.first; count = grind (arith, h); last = grind (arith, h, hd.last) }

together_few : (c : Case) (ds : List Case) → length (together c ds) ≤ suc (length ds)
together_few c [] = omega arith
together_few c (d ∷ ds) = by (can_join c d) (together_few (joined c d) ds) (together_few d ds)
  where
    by : (b : Bool) → length (together (joined c d) ds) ≤ suc (length ds) → length (together d ds) ≤ suc (length ds)
        → length (if b then together (joined c d) ds else c ∷ together d ds) ≤ suc (suc (length ds))
    by true one two = omega (arith, one)
    by false one two = omega (arith, two)

together_small : (c : Case) (ds : List Case) → IsTwoBytes c → AreTwoBytes ds → AreTwoBytes (together c ds)
together_small c [] h a = (h, tt)
together_small c (d ∷ ds) h (hd, a) = by (can_join c d) refl (λ hj. together_small (joined c d) ds hj a) (together_small d ds hd a)
  where
    by : (b : Bool) → can_join c d ≡ b → (IsTwoBytes (joined c d) → AreTwoBytes (together (joined c d) ds)) → AreTwoBytes (together d ds)
        → AreTwoBytes (if b then together (joined c d) ds else c ∷ together d ds)
    by true e one two = one (joined_small c d e h hd)
    by false e one two = (h, two)

pub merged_few : (cs : List Case) → length (merged cs) ≤ length cs
merged_few [] = omega arith
merged_few (c ∷ cs) = together_few c cs

pub merged_small : (cs : List Case) → AreTwoBytes cs → AreTwoBytes (merged cs)
merged_small [] a = tt
merged_small (c ∷ cs) (h, a) = together_small c cs h a
