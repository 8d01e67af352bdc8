-- The pushed values of a shape, and those above them.
use Rattle.std.specs.Prelude.{ℕ, suc, ◌+◌, ◌-◌, ◌≤◌, Bool, true, false, ◌&&◌, ◌==◌, nat_le, List, ◌++◌, length, take, drop, Option, Some, None}
use Rattle.std.specs.Prelude.{if◌then◌else◌}
use Rattle.std.proofs.Common.{◌≡◌, refl, sym, ap, ◌∙◌, subst, arith}
use Rattle.std.proofs.lemmas.Bool.{leb-true, leb-false, and_parts}
use Rattle.std.proofs.lemmas.List.{length-append, length-drop, length-take-le}
use Rattle.std.proofs.Math.Seq.{take-append_seam, drop-append_seam}
use Rattle.vg_firm.specs.declared.step.Step.{Step}
use Rattle.vg_firm_typed.specs.Steps.{takes}
use Rattle.vg_lin.specs.declared.instr.Operand.{Operand}
use Rattle.vg_flatten_shapes.specs.declared.open.Truth.{Truth}
use Rattle.vg_flatten_shapes.specs.declared.room.Room.{Room}
use Rattle.vg_flatten_shapes.specs.Shapes.{Shape, only, empty, is_none, is_empty, temp}
use Rattle.vg_flatten_shapes.specs.Made.{Made, Gives, Refused, by_temp, settled, settled_as}
use Rattle.vg_flatten_pushed.specs.Pushed.{is_high, newer, older, count_of, all_pushed, is_above}
use Rattle.vg_flatten.proofs.Sound.{AreIn, ShapeIn}

none_of : (n : ℕ) → (n == 0) ≡ true → n ≡ 0
none_of n e = grind arith

pub none_waits : (s : Shape) → is_empty s ≡ true → length s.homes ≡ 0
none_waits s e = none_of (length s.homes) (and_parts (is_none s.truth) (length s.homes == 0) e).1

-- ---- where no more values wait than may be pushed

pub low_older : (most : ℕ) (s : Shape) → length s.homes ≤ most → older most s ≡ s.homes
low_older most s le = ap (λ z. drop z s.homes) (none (length s.homes) le)
  where
    none : (n : ℕ) → n ≤ most → n - most ≡ 0
    none n l = omega (arith, l)

pub low_newer : (size most : ℕ) (hs : List Operand) → length hs ≤ most → ShapeIn size (newer most (only hs))
low_newer size most hs le = by_high (nat_le most (length hs))
  where
    none : (n : ℕ) → n ≤ most → n - most ≡ 0
    none n l = omega (arith, l)

    by_high : (b : Bool) → ShapeIn size (if b then record { truth = None; homes = take (length hs - most) hs } else empty)
    by_high true = (subst (λ z. AreIn size (take z hs)) (sym (none (length hs) le)) tt, tt)
    by_high false = (tt, tt)

pub empty_older : (most : ℕ) (s : Shape) → is_empty s ≡ true → length (older most s) ≡ 0
empty_older most s e = let n = none_waits s e in let d = length-drop (length s.homes - most) s.homes in omega (arith, n, d)

pub older_few : (most : ℕ) (s : Shape) → length (older most s) ≤ most
older_few most s = let d = length-drop (length s.homes - most) s.homes in omega (arith, d)

-- ---- where all are pushed

-- no value waits above the pushed ones
pub all_low : (most : ℕ) (s : Shape) → all_pushed most s ≡ true → length s.homes ≤ most
all_low most s e = by_high (nat_le most (length s.homes)) refl e
  where
    few : (n k : ℕ) → n + k ≡ 0 → n ≡ length s.homes - most → length s.homes ≤ most
    few n k e1 e2 = omega (arith, e1, e2)

    by_high : (b : Bool) → nat_le most (length s.homes) ≡ b
        → (count_of (if b then record { truth = s.truth; homes = take (length s.homes - most) s.homes } else empty) == 0) ≡ true → length s.homes ≤ most
    by_high true h e1 =
        few (length (take (length s.homes - most) s.homes)) (if is_none s.truth then 0 else 1) (none_of _ e1)
        (length-take-le (length s.homes - most) s.homes (omega arith))
    by_high false h e1 = let lt = leb-false most (length s.homes) h in omega (arith, lt)

pub not_all_high : (most : ℕ) (s : Shape) → all_pushed most s ≡ false → is_high most s ≡ true
not_all_high most s e = by_high (nat_le most (length s.homes)) e
  where
    by_high : (b : Bool) → (count_of (if b then record { truth = s.truth; homes = take (length s.homes - most) s.homes } else empty) == 0) ≡ false → b ≡ true
    by_high true e1 = refl
    by_high false e1 = absurd (grind arith)

-- ---- what was made of the newer ones, above the pushed ones

pub high_long : (most : ℕ) (s : Shape) → is_high most s ≡ true → length (older most s) ≡ most
high_long most s e = let le = leb-true most (length s.homes) e in let d = length-drop (length s.homes - most) s.homes in omega (arith, le, d)

onto_less : (most : ℕ) (hs os : List Operand) → length os ≡ most → length (hs ++ os) - most ≡ length hs
onto_less most hs os e = let l = length-append hs os in omega (arith, l, e)

pub onto_older : (most : ℕ) (t : Option Truth) (hs os : List Operand) → length os ≡ most → older most (record { truth = t; homes = hs ++ os }) ≡ os
onto_older most t hs os e =
    ap (λ z. drop z (hs ++ os)) (onto_less most hs os e) ∙ drop-append_seam hs os

pub onto_newer : (most : ℕ) (t : Option Truth) (hs os : List Operand) → length os ≡ most
    → newer most (record { truth = t; homes = hs ++ os }) ≡ record { truth = t; homes = hs }
onto_newer most t hs os e = by_high (nat_le most (length (hs ++ os))) refl
  where
    high : nat_le most (length (hs ++ os)) ≡ false → ⊥
    high f = let lt = leb-false most (length (hs ++ os)) f in let l = length-append hs os in omega (arith, lt, l, e)

    taken_is : take (length (hs ++ os) - most) (hs ++ os) ≡ hs
    taken_is = ap (λ z. take z (hs ++ os)) (onto_less most hs os e) ∙ take-append_seam hs os

    by_high : (b : Bool) → nat_le most (length (hs ++ os)) ≡ b
        → ◌≡◌ {A = Shape} (if b then record { truth = t; homes = take (length (hs ++ os) - most) (hs ++ os) } else empty) record { truth = t; homes = hs }
    by_high true f = ap (λ z. record { truth = t; homes = z }) taken_is
    by_high false f = absurd (high f)

-- ---- a step that takes pushed values, or leaves a value that is to be pushed

-- so many values wait behind
abbrev pub Counts : ℕ → Made → Type 0
Counts n (Gives b s) = length s.homes ≡ n
Counts n (Refused why) = Unit {0}

counts_temp : (n : ℕ) (o : Option ℕ) (go : ℕ → Made) → ((to : ℕ) → Counts n (go to)) → Counts n (by_temp o go)
counts_temp n (Some to) go h = h to
counts_temp n None go h = tt

pub settled_counts : (r : Room) (s : Shape) → Counts (count_of s) (settled r s)
settled_counts r s = by_truth s.truth
  where
    by_truth : (o : Option Truth) → Counts (length s.homes + (if is_none o then 0 else 1)) (settled_as r o s.homes)
    by_truth None = omega arith
    by_truth (Some t) = counts_temp (length s.homes + 1) (temp r s.homes) _ (λ to. omega arith)

-- it takes all newer ones, and a pushed one besides where there are so many as may be pushed
pub crossed_few : (most : ℕ) (p : Step) (s : Shape) → is_above most p s ≡ false → count_of (newer most s) ≤ takes p
crossed_few most p s e = by_high (nat_le most (length s.homes)) e
  where
    by_high : (b : Bool)
        → (b && nat_le (takes p) (count_of (if b then record { truth = s.truth; homes = take (length s.homes - most) s.homes } else empty))) ≡ false
        → count_of (if b then record { truth = s.truth; homes = take (length s.homes - most) s.homes } else empty) ≤ takes p
    by_high true e1 = let lt = leb-false (takes p) _ e1 in omega (arith, lt)
    by_high false e1 = omega arith

pub crossed_low : (most : ℕ) (p : Step) (s : Shape) → is_above most p s ≡ false
    → suc (length (older most s)) ≤ most + (takes p - count_of (newer most s))
crossed_low most p s e = by_high (nat_le most (length s.homes)) refl e
  where
    d : length (older most s) ≡ length s.homes - (length s.homes - most)
    d = length-drop (length s.homes - most) s.homes

    by_high : (b : Bool) → nat_le most (length s.homes) ≡ b
        → (b && nat_le (takes p) (count_of (if b then record { truth = s.truth; homes = take (length s.homes - most) s.homes } else empty))) ≡ false
        → suc (length (older most s))
        ≤ most + (takes p - count_of (if b then record { truth = s.truth; homes = take (length s.homes - most) s.homes } else empty))
    by_high true h e1 = let lt = leb-false (takes p) _ e1 in omega (arith, lt, d)
    by_high false h e1 = let lt = leb-false most (length s.homes) h in omega (arith, lt, d)
