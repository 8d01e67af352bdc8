-- Numbers that are too large.
use Rattle.std.proofs.Common.{◌≡◌, ℕ, ◌+◌, ◌-◌, ◌*◌, ◌<◌, ◌≤◌, Bool, true, false, List, [], ◌∷◌, drop, length, get_or, Some, None, refl, sym, ◌∙◌, arith}
use Rattle.std.proofs.lemmas.List.{at_drop_more}
use Rattle.std.specs.Prelude.{if◌then◌else◌, ◌&&◌, nat_le}
use Rattle.std.specs.List.{list_all}
use Rattle.vg_words.specs.Numbers.{is_digit, decimal_number, decimal_behind}
use Rattle.vg_words.specs.Walk.{decimal_to}

-- digits behind a number make it no smaller
grows : (front : ℕ) (digits : List ℕ) → front ≤ decimal_behind front digits
grows front [] = omega arith
grows front (digit ∷ digits) = omega (arith, grows (front * 10 + (digit - 48)) digits)

above : (n most : ℕ) → most < n → nat_le n most ≡ false
above n most h = grind (arith, h)

none_for : (a b : Bool) (n : ℕ) → b ≡ false → None ≡ (if a && b then Some n else None)
none_for true b n e = rw e refl
none_for false b n e = refl

-- a digit that leads past the limit
pub too_large : (most value i : ℕ) (text : List ℕ) → i < length text → decimal_behind value (drop i text) ≡ decimal_number text
    → most < value * 10 + (get_or text i 0 - 48) → None ≡ decimal_to most text
too_large most value i text l e h =
    let longer = value * 10 + (get_or text i 0 - 48) in
    let k : decimal_behind longer (drop (i + 1) text) ≡ decimal_number text = sym (at_drop_more (decimal_behind value) text i 0 l) ∙ e in
    none_for (list_all is_digit text) (nat_le (decimal_number text) most) (decimal_number text)
    (above (decimal_number text) most (omega (arith, k, h, grows longer (drop (i + 1) text))))
