-- Which of the values that wait are pushed, and which wait above them: where all are pushed, where few wait, and behind what was made of
-- the newer ones.
use Rattle.std.specs.Prelude.{ℕ, suc, ◌+◌, ◌-◌, ◌≤◌, Bool, true, false, ◌==◌, ◌&&◌, nat_le, List, ◌++◌, length, take, drop, Option, Some, None}
use Rattle.std.specs.Prelude.{if◌then◌else◌}
use Rattle.std.proofs.Common.{◌≡◌, refl, sym, ap, ◌∙◌, subst, arith}
use Rattle.std.proofs.lemmas.List.{length-append, length-drop, length-take-le}
use Rattle.std.proofs.Math.Seq.{take-append_seam, drop-append_seam}
use Rattle.vg_lin.specs.declared.instr.Operand.{Operand}
use Rattle.vg_flatten_shapes.specs.declared.open.Truth.{Truth}
use Rattle.vg_flatten_shapes.specs.Shapes.{Shape, only, empty, is_none}
use Rattle.vg_flatten_pushed.specs.Pushed.{is_high, newer, older, count_of, all_pushed}

pub le_of : (a b : ℕ) → nat_le a b ≡ true → a ≤ b
le_of a b e = grind arith

pub more_of : (a b : ℕ) → nat_le a b ≡ false → suc b ≤ a
more_of a b e = grind arith

is_le : (a b : ℕ) → a ≤ b → nat_le a b ≡ true
is_le a b e = grind arith

-- What is newer, by whether so many values wait.
abbrev newer_as : (most : ℕ) → Shape → Bool → Shape
newer_as most s b = if b then record { truth = s.truth; homes = take (length s.homes - most) s.homes } else empty

-- ---- where all are pushed

pub record AllPushed (most : ℕ) (s : Shape) : Type 0 where
  pub newer_none : newer most s ≡ empty
  pub older_all : older most s ≡ s.homes
  pub few : length s.homes ≤ most

none_above : (most : ℕ) (s : Shape) → length s.homes - most ≡ 0 → s.truth ≡ None → newer_as most s true ≡ empty
none_above most s e et =
    ap (λ z. record { truth = z; homes = take (length s.homes - most) s.homes }) et ∙ ap (λ z. only (take z s.homes)) e

pub pushed_all : (most : ℕ) (s : Shape) → all_pushed most s ≡ true → AllPushed most s
pushed_all most s e = by_high (is_high most s) refl e
  where
    by_truth : (o : Option Truth) (n : ℕ) → (n + (if is_none o then 0 else 1) == 0) ≡ true → (n ≡ 0) × (o ≡ None)
    by_truth None n e1 = (grind arith, refl)
    by_truth (Some t) n e1 = absurd (grind arith)

    all_older : length s.homes - most ≡ 0 → older most s ≡ s.homes
    all_older none = ap (λ z. drop z s.homes) none

    by_high : (b : Bool) → is_high most s ≡ b → (count_of (newer_as most s (is_high most s)) == 0) ≡ true → AllPushed most s
    by_high false h e1 =
        let more = more_of most (length s.homes) h in
        record { newer_none = ap (newer_as most s) h; older_all = all_older (omega (arith, more)); few = omega (arith, more) }
    by_high true h e1 =
        let le = le_of most (length s.homes) h in
        let both = by_truth s.truth (length (take (length s.homes - most) s.homes)) (subst (λ z. (count_of (newer_as most s z) == 0) ≡ true) h e1) in
        let long = length-take-le (length s.homes - most) s.homes (omega (arith, le)) in
        let none : length s.homes - most ≡ 0 = sym long ∙ both.0 in
        record { newer_none = ap (newer_as most s) h ∙ none_above most s none both.1; older_all = all_older none; few = omega (arith, none) }

-- ---- where few wait

pub few_pushed : (most : ℕ) (hs : List Operand) → length hs ≤ most → AllPushed most (only hs)
few_pushed most hs le =
    let none : length hs - most ≡ 0 = omega (arith, le) in
    record { newer_none = by_high none (is_high most (only hs)) refl; older_all = ap (λ z. drop z hs) none; few = le }
  where
    by_high : length hs - most ≡ 0 → (b : Bool) → is_high most (only hs) ≡ b → newer most (only hs) ≡ empty
    by_high none false h = ap (newer_as most (only hs)) h
    by_high none true h = ap (newer_as most (only hs)) h ∙ none_above most (only hs) none refl

-- ---- where a value waits above the pushed ones

pub high_of : (most : ℕ) (s : Shape) → all_pushed most s ≡ false → is_high most s ≡ true
high_of most s e = by_high (is_high most s) refl
  where
    not_all : all_pushed most s ≡ true → ⊥
    not_all e1 = absurd (grind arith)

    by_high : (b : Bool) → is_high most s ≡ b → is_high most s ≡ true
    by_high true h = h
    by_high false h = absurd (not_all (ap (λ z. count_of (newer_as most s z) == 0) h))

-- So many are pushed then.
pub older_long : (most : ℕ) (s : Shape) → is_high most s ≡ true → length (older most s) ≡ most
older_long most s h = length-drop (length s.homes - most) s.homes ∙ back (le_of most (length s.homes) h)
  where
    back : most ≤ length s.homes → length s.homes - (length s.homes - most) ≡ most
    back le = omega (arith, le)

-- ---- where a step takes pushed values, or leaves a value that is to be pushed

pub record Crosses (most n : ℕ) (s : Shape) : Type 0 where
  pub few : count_of (newer most s) ≤ n
  pub left : n ≤ count_of (newer most s) + length (older most s) → suc (length (older most s) - (n - count_of (newer most s))) ≤ most

pub crosses : (most n : ℕ) (s : Shape) → (is_high most s && nat_le n (count_of (newer most s))) ≡ false → Crosses most n s
crosses most n s e = by_high (is_high most s) refl e
  where
    count : ℕ
    count = count_of (newer most s)

    below : ℕ
    below = length (older most s)

    lower : below ≡ length s.homes - (length s.homes - most)
    lower = length-drop (length s.homes - most) s.homes

    by_high : (b : Bool) → is_high most s ≡ b → (b && nat_le n count) ≡ false → Crosses most n s
    by_high true h e1 =
        let more = more_of n count e1 in
        let all = older_long most s h in
        record { few = omega (arith, more); left = λ le. omega (arith, more, all, le) }
    by_high false h e1 =
        let none : count ≡ 0 = ap (λ z. count_of (newer_as most s z)) h in
        let more = more_of most (length s.homes) h in
        let low = lower in
        record { few = omega (arith, none); left = λ le. omega (arith, none, more, low) }

-- ---- what was made of the newer ones

-- A shape above pushed values.
abbrev pub above_pushed : Shape → List Operand → Shape
above_pushed s os = record { truth = s.truth; homes = s.homes ++ os }

pub record IsAbove (most : ℕ) (s : Shape) (os : List Operand) : Type 0 where
  pub newer_is : newer most (above_pushed s os) ≡ s
  pub older_is : older most (above_pushed s os) ≡ os

pub is_above_pushed : (most : ℕ) (s : Shape) (os : List Operand) → length os ≡ most → IsAbove most s os
is_above_pushed most s os e =
    record {
      newer_is = ap (newer_as most (above_pushed s os)) high ∙ ap (λ z. record { truth = s.truth; homes = take z (s.homes ++ os) }) long
          ∙ ap (λ z. record { truth = s.truth; homes = z }) (take-append_seam s.homes os);
      older_is = ap (λ z. drop z (s.homes ++ os)) long ∙ drop-append_seam s.homes os;
    }
  where
    all_long : length (s.homes ++ os) ≡ length s.homes + most
    all_long = length-append s.homes os ∙ ap (λ z. length s.homes + z) e

    long : length (s.homes ++ os) - most ≡ length s.homes
    long = let l = all_long in omega (arith, l)

    high : is_high most (above_pushed s os) ≡ true
    high = let l = all_long in is_le most (length (s.homes ++ os)) (omega (arith, l))
