-- A script line by line.
use Rattle.std.proofs.Common.{◌≡◌, ℕ, ◌+◌, ◌-◌, ◌*◌, ◌≤◌, Bool, true, false, List, [], ◌∷◌, ◌++◌, length, Option, Some, None, refl, sym, ap, ◌∙◌}
use Rattle.std.proofs.Common.{subst, arith, append_assoc, append-nil, ◌==◌}
use Rattle.std.specs.Prelude.{if◌then◌else◌, ◌&&◌, nat_le}
use Rattle.std.specs.List.{flat_map}
use Rattle.vg_meaning.specs.Outside.{IsVector, AreVectors}
use Rattle.vg_lines.specs.Lines.{lines}
use Rattle.vg_script.specs.declared.reader.Taken.{Taken}
use Rattle.vg_script.specs.declared.reader.Taken.TheVariants.{Good, Bad as Refused}
use Rattle.vg_script.specs.Script.{in_front, Line, Passed, Reads, Interrupts, Bad, one_digit, two_digits, interrupts_in, some, reads_line}
use Rattle.vg_script.specs.Script.{interrupts_line, line_of, reads_of, interrupts_of, or_behind, bad_line, first_bad}
use Rattle.vg_script.specs.Walk.{TakesLine}

-- a good line
pub good_line : (n : ℕ) (line : Line) (rest : Option ℕ) (r r' i i' : List ℕ) → TakesLine line r r' i i' Good
    → (or_behind n line rest ≡ rest) × (r' ≡ r ++ reads_of line) × (i' ≡ i ++ interrupts_of line)
good_line n Passed rest r r' i i' h = (refl, h.0 ∙ sym (append-nil r), h.1 ∙ sym (append-nil i))
good_line n (Reads vs) rest r r' i i' h = (refl, h.0, h.1 ∙ sym (append-nil i))
good_line n (Interrupts vs) rest r r' i i' h = (refl, h.0 ∙ sym (append-nil r), h.1)
good_line n Bad rest r r' i i' h = absurd h

-- a bad line
pub bad_is : (n : ℕ) (line : Line) (rest : Option ℕ) (r r' i i' : List ℕ) → TakesLine line r r' i i' Refused → or_behind n line rest ≡ Some n
bad_is n Passed rest r r' i i' h = absurd h
bad_is n (Reads vs) rest r r' i i' h = absurd h
bad_is n (Interrupts vs) rest r r' i i' h = absurd h
bad_is n Bad rest r r' i i' h = refl

-- the lists so far, and the rest
pub goes_on : (text rest bytes behind : List ℕ) (n : ℕ) (r r' i i' : List ℕ) (taken : Taken) → lines rest ≡ bytes ∷ lines behind
    → TakesLine (line_of bytes) r r' i i' taken → taken ≡ Good
    → bad_line n (lines rest) ≡ first_bad text
    → r ++ flat_map (λ x. reads_of (line_of x)) (lines rest) ≡ flat_map (λ x. reads_of (line_of x)) (lines text)
    → i ++ flat_map (λ x. interrupts_of (line_of x)) (lines rest) ≡ flat_map (λ x. interrupts_of (line_of x)) (lines text)
    → (bad_line (n + 1) (lines behind) ≡ first_bad text)
    × (r' ++ flat_map (λ x. reads_of (line_of x)) (lines behind) ≡ flat_map (λ x. reads_of (line_of x)) (lines text))
    × (i' ++ flat_map (λ x. interrupts_of (line_of x)) (lines behind) ≡ flat_map (λ x. interrupts_of (line_of x)) (lines text))
goes_on text rest bytes behind n r r' i i' taken e h g bad reads interrupts =
    let k = good_line n (line_of bytes) (bad_line (n + 1) (lines behind)) r r' i i' (subst (TakesLine (line_of bytes) r r' i i') g h) in (
      sym k.0 ∙ ap (bad_line n) (sym e) ∙ bad,
      ap (λ l. l ++ flat_map (λ x. reads_of (line_of x)) (lines behind)) k.1
          ∙ append_assoc r (reads_of (line_of bytes)) (flat_map (λ x. reads_of (line_of x)) (lines behind))
          ∙ ap (λ ls. r ++ flat_map (λ x. reads_of (line_of x)) ls) (sym e) ∙ reads,
      ap (λ l. l ++ flat_map (λ x. interrupts_of (line_of x)) (lines behind)) k.2
          ∙ append_assoc i (interrupts_of (line_of bytes)) (flat_map (λ x. interrupts_of (line_of x)) (lines behind))
          ∙ ap (λ ls. i ++ flat_map (λ x. interrupts_of (line_of x)) ls) (sym e) ∙ interrupts,
    )

pub stops : (text rest bytes behind : List ℕ) (n : ℕ) (r r' i i' : List ℕ) (taken : Taken) → lines rest ≡ bytes ∷ lines behind
    → TakesLine (line_of bytes) r r' i i' taken → taken ≡ Refused
    → bad_line n (lines rest) ≡ first_bad text → first_bad text ≡ Some n
stops text rest bytes behind n r r' i i' taken e h g bad =
    sym bad ∙ ap (bad_line n) e ∙ bad_is n (line_of bytes) (bad_line (n + 1) (lines behind)) r r' i i' (subst (TakesLine (line_of bytes) r r' i i') g h)

-- each interrupt is a vector
one_vector : (space first k : ℕ) → one_digit space first ≡ Some k → IsVector k
one_vector space first k e = by_tests (space == 32) (nat_le 49 first) (nat_le first 57) refl refl e
  where
    by_tests : (x y z : Bool) → nat_le 49 first ≡ y → nat_le first 57 ≡ z → (if x && y && z then Some (first - 48) else None) ≡ Some k → IsVector k
    by_tests true true true g h e =
        let i : first - 48 ≡ k = cc in
        let a = low first g in
        let b = high first h in
        (omega (arith, a, i), omega (arith, b, i))
      where
        low : (n : ℕ) → nat_le 49 n ≡ true → 49 ≤ n
        low n g = grind (arith, g)

        high : (n : ℕ) → nat_le n 57 ≡ true → n ≤ 57
        high n g = grind (arith, g)
    by_tests true true false g h e = cc
    by_tests true false z g h e = cc
    by_tests false y z g h e = cc

two_vector : (space first second k : ℕ) → two_digits space first second ≡ Some k → IsVector k
two_vector space first second k e = by_tests ((space == 32) && nat_le 49 first && nat_le first 57 && nat_le 48 second && nat_le second 57)
    (nat_le ((first - 48) * 10 + (second - 48)) 34) (nat_le 49 first) refl
    (front (space == 32) (nat_le 49 first) (nat_le first 57) (nat_le 48 second) (nat_le second 57)) refl e
  where
    front : (a b c d f : Bool) → (a && b && c && d && f) ≡ true → b ≡ true
    front true true c d f h = refl
    front true false c d f h = absurd (cc)
    front false b c d f h = absurd (cc)

    low : (n : ℕ) → nat_le 49 n ≡ true → 49 ≤ n
    low n g = grind (arith, g)

    most : (n : ℕ) → nat_le n 34 ≡ true → n ≤ 34
    most n g = grind (arith, g)

    by_tests : (x y z : Bool) → nat_le ((first - 48) * 10 + (second - 48)) 34 ≡ y → (x ≡ true → z ≡ true) → nat_le 49 first ≡ z
        → (if x && y then Some ((first - 48) * 10 + (second - 48)) else None) ≡ Some k → IsVector k
    by_tests true true z g h i e =
        let j : (first - 48) * 10 + (second - 48) ≡ k = cc in
        let a = low first (i ∙ h refl) in
        let b = most ((first - 48) * 10 + (second - 48)) g in
        (omega (arith, a, j), omega (arith, b, j))
    by_tests true false z g h i e = cc
    by_tests false y z g h i e = cc

all_front : (o : Option ℕ) (p : Option (List ℕ)) (ks : List ℕ) → ((k : ℕ) → o ≡ Some k → IsVector k) → ((js : List ℕ) → p ≡ Some js → AreVectors js)
    → in_front o p ≡ Some ks → AreVectors ks
all_front None p ks f g e = cc
all_front (Some k) None ks f g e = cc
all_front (Some k) (Some js) ks f g e = let i : k ∷ js ≡ ks = cc in subst AreVectors i (f k refl, g js refl)

are_vectors : (items ks : List ℕ) → interrupts_in items ≡ Some ks → AreVectors ks
are_vectors [] ks e = let i : [] ≡ ks = cc in subst AreVectors i tt
are_vectors (a ∷ []) ks e = cc
are_vectors (a ∷ b ∷ []) ks e = all_front (one_digit a b) (Some []) ks (one_vector a b) (λ js f. let i : [] ≡ js = cc in subst AreVectors i tt) e
are_vectors (a ∷ b ∷ c ∷ items) ks e = by_test (c == 32) (λ js f. are_vectors (c ∷ items) js f) (λ js f. are_vectors items js f) e
  where
    by_test : (t : Bool) → ((js : List ℕ) → interrupts_in (c ∷ items) ≡ Some js → AreVectors js)
        → ((js : List ℕ) → interrupts_in items ≡ Some js → AreVectors js)
        → (if t then in_front (one_digit a b) (interrupts_in (c ∷ items)) else in_front (two_digits a b c) (interrupts_in items)) ≡ Some ks → AreVectors ks
    by_test true f g e = all_front (one_digit a b) (interrupts_in (c ∷ items)) ks (one_vector a b) f e
    by_test false f g e = all_front (two_digits a b c) (interrupts_in items) ks (two_vector a b c) g e

line_vectors : (line : List ℕ) → AreVectors (interrupts_of (line_of line))
line_vectors [] = tt
line_vectors (c ∷ items) = by_tests (c == 35) (c == 114) (c == 105) (interrupts_in items) (are_vectors items)
  where
    reads_none : (o : Option (List ℕ)) → AreVectors (interrupts_of (reads_line o))
    reads_none None = tt
    reads_none (Some vs) = tt

    these : (o : Option (List ℕ)) → ((ks : List ℕ) → o ≡ Some ks → AreVectors ks) → AreVectors (interrupts_of (interrupts_line (some o)))
    these None f = tt
    these (Some []) f = tt
    these (Some (k ∷ ks)) f = f (k ∷ ks) refl

    by_tests : (x y z : Bool) (o : Option (List ℕ)) → ((ks : List ℕ) → o ≡ Some ks → AreVectors ks)
        → AreVectors (interrupts_of (if x then Passed else if y then reads_line (some (Rattle.vg_script.specs.Script.reads_in items))
        else if z then interrupts_line (some o) else Bad))
    by_tests true y z o f = tt
    by_tests false true z o f = reads_none (some (Rattle.vg_script.specs.Script.reads_in items))
    by_tests false false true o f = these o f
    by_tests false false false o f = tt

all_append : (a b : List ℕ) → AreVectors a → AreVectors b → AreVectors (a ++ b)
all_append [] b h k = k
all_append (x ∷ a) b h k = (h.0, all_append a b h.1 k)

text_vectors : (ls : List (List ℕ)) → AreVectors (flat_map (λ x. interrupts_of (line_of x)) ls)
text_vectors [] = tt
text_vectors (l ∷ ls) = all_append (interrupts_of (line_of l)) (flat_map (λ x. interrupts_of (line_of x)) ls) (line_vectors l) (text_vectors ls)

pub read_vectors : (text rest interrupts : List ℕ) → length rest ≡ 0 → interrupts ++ flat_map (λ x. interrupts_of (line_of x)) (lines rest) ≡ flat_map
    (λ x. interrupts_of (line_of x)) (lines text) → AreVectors interrupts
read_vectors text [] interrupts h e = subst AreVectors (sym e ∙ append-nil interrupts) (text_vectors (lines text))
read_vectors text (b ∷ rest) interrupts h e = absurd (omega (arith, h))
