-- What methods cost, and how bytes that wait are counted.
use Rattle.std.specs.Prelude.{ℕ, zero, suc, ◌+◌, ◌-◌, ◌<◌, ◌≤◌, max, get_or, List, [], ◌∷◌, ◌++◌, take, drop, length, reverse, slice_index}
use Rattle.std.proofs.Common.{◌≡◌, refl, sym, ap, ◌∙◌, arith}
use Rattle.std.proofs.lemmas.List.{at_drop_more, reverse-append}
use Rattle.vg_lin.specs.declared.instr.Instr.{Instr}
use Rattle.vg_lin.specs.Sound.{behind}
use Rattle.vg_source.specs.Peak.{cost_of}
use Rattle.vg_frame_costs.specs.Bytes.{bytes_of, kept_at, most_kept}
use Rattle.vg_frame_costs.proofs.Newest.{kept}

pub cost_at : (cs : List ℕ) (n : ℕ) → n < length cs → cost_of cs n ≡ slice_index cs n
cost_at [] n h = absurd (omega (arith, h))
cost_at (c ∷ cs) zero h = refl
cost_at (c ∷ cs) (suc n) h = cost_at cs n (omega (arith, h))

pub cost_behind : (cs : List ℕ) (n : ℕ) → length cs ≤ n → cost_of cs n ≡ 0
cost_behind [] n h = refl
cost_behind (c ∷ cs) zero h = absurd (omega (arith, h))
cost_behind (c ∷ cs) (suc n) h = cost_behind cs n (omega (arith, h))

-- ---- sums

pub bytes_append : (xs ys : List ℕ) → bytes_of (xs ++ ys) ≡ bytes_of xs + bytes_of ys
bytes_append [] ys = omega arith
bytes_append (x ∷ xs) ys = let rest = bytes_append xs ys in omega (arith, rest)

pub bytes_reversed : (ws : List ℕ) → bytes_of (reverse ws) ≡ bytes_of ws
bytes_reversed [] = refl
bytes_reversed (w ∷ ws) =
    let split = ap bytes_of (reverse-append (w ∷ []) ws) ∙ bytes_append (reverse ws) (w ∷ []) in
    let rest = bytes_reversed ws in omega (arith, split, rest)

-- those of all but the newest values
pub bytes_left : (xs : List ℕ) (n : ℕ) → bytes_of (take (length xs - n) xs) ≡ bytes_of (drop n (reverse xs))
bytes_left xs n = sym (bytes_reversed (take (length xs - n) xs)) ∙ ap bytes_of (kept xs n)

-- one turn of the loop that adds widths
pub summed : (ws : List ℕ) (at sum sum' t x : ℕ) → at < length ws → sum' ≡ sum + get_or ws at x → sum + bytes_of (drop at ws) ≡ t
    → sum' + bytes_of (drop (at + 1) ws) ≡ t
summed ws at sum sum' t x lt es e =
    let d : bytes_of (drop at ws) ≡ bytes_of (get_or ws at x ∷ drop (at + 1) ws) = at_drop_more bytes_of ws at x lt in omega (arith, es, e, d)

-- one turn of the loop that counts
pub counted : (code : List Instr) (at : ℕ) (waits there next : List ℕ) (most most' bytes t : ℕ) (x : Instr) → at < length code
    → there ≡ waits → bytes ≡ kept_at (reverse there) (get_or code at x) → most' ≡ max most bytes
    → reverse next ≡ behind (get_or code at x) (reverse waits) → max most (most_kept (reverse waits) (drop at code)) ≡ t
    → max most' (most_kept (reverse next) (drop (at + 1) code)) ≡ t
counted code at waits there next most most' bytes t x lt es eb em en e =
    let d : most_kept (reverse waits) (drop at code) ≡ most_kept (reverse waits) (get_or code at x ∷ drop (at + 1) code) =
    at_drop_more (λ is. most_kept (reverse waits) is) code at x lt in
    let same = ap (λ ws. kept_at (reverse ws) (get_or code at x)) es in
    let rest = ap (λ ws. most_kept ws (drop (at + 1) code)) en in omega (arith, d, rest, eb, same, em, e)
