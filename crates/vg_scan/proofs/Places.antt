-- A place carried along is the place from the bytes before.
use Rattle.std.proofs.Common.{◌≡◌, ℕ, ◌+◌, ◌-◌, ◌<◌, ◌≤◌, Bool, true, false, List, [], ◌∷◌, ◌++◌, length, take, drop, sym, ap, ◌∙◌, arith, append_assoc}
use Rattle.std.proofs.Common.{append-nil, length-append, length-take, length-drop}
use Rattle.std.specs.Prelude.{if◌then◌else◌}
use Rattle.std.proofs.lemmas.List.Folds.{list_any-append}
use Rattle.std.proofs.lemmas.List.{take-append-drop}
use Rattle.std.proofs.Math.Seq.{take-append-add}
use Rattle.vg_base.specs.declared.place.Place.{Place}
use Rattle.vg_base.specs.Limits.{text_limit}
use Rattle.vg_syntax.specs.Bytes.{is_line_end}
use Rattle.vg_syntax.specs.Places.{line_ends, last_line, place_behind}
use Rattle.vg_scan.specs.Walk.{next_place, walked}

ends_one_more : (xs : List ℕ) (b : ℕ) → line_ends (xs ++ b ∷ []) ≡ (if is_line_end b then line_ends xs + 1 else line_ends xs)
ends_one_more [] b = grind arith
ends_one_more (x ∷ xs) b = grind (arith, ends_one_more xs b)

last_one_more : (xs : List ℕ) (b : ℕ) → last_line (xs ++ b ∷ []) ≡ (if is_line_end b then [] else last_line xs ++ b ∷ [])
last_one_more [] b = grind arith
last_one_more (x ∷ xs) b = grind (arith, last_one_more xs b, list_any-append is_line_end xs (b ∷ []))

at_end : (b n : ℕ) (xs : List ℕ) → length (if is_line_end b then [] else xs ++ b ∷ []) ≡ (if is_line_end b then 0 else length xs + 1)
at_end b n xs = grind (arith, length-append xs (b ∷ []))

one_more : (xs : List ℕ) (b : ℕ) → next_place (place_behind xs) b ≡ place_behind (xs ++ b ∷ [])
one_more xs b =
    same (is_line_end b) (line_ends xs) (length (last_line xs)) (line_ends (xs ++ b ∷ [])) (length (last_line (xs ++ b ∷ [])))
    (ends_one_more xs b) (ap length (last_one_more xs b) ∙ at_end b 0 (last_line xs))
  where
    same : (e : Bool) (n m n' m' : ℕ) → n' ≡ (if e then n + 1 else n) → m' ≡ (if e then 0 else m + 1)
        → (let place : Place = if e then record { line = 1 + n + 1; col = 1 } else record { line = 1 + n; col = 1 + m + 1 } in place)
        ≡ record { line = 1 + n'; col = 1 + m' }
    same true n m n' m' f g = rw (f, g) (ap (λ k. record { line = k; col = 1 }) (omega arith))
    same false n m n' m' f g = rw (f, g) (ap (λ k. record { line = 1 + n; col = k }) (omega arith))

pub walked_behind : (xs ys : List ℕ) → walked (place_behind xs) ys ≡ place_behind (xs ++ ys)
walked_behind xs [] = ap place_behind (sym (append-nil xs))
walked_behind xs (b ∷ bs) =
    ap (λ p. walked p bs) (one_more xs b) ∙ walked_behind (xs ++ b ∷ []) bs ∙ ap place_behind (append_assoc xs (b ∷ []) bs)

last_line_within : (xs : List ℕ) → length (last_line xs) ≤ length xs
last_line_within [] = grind arith
last_line_within (x ∷ xs) = grind (arith, last_line_within xs)

ends_within : (xs : List ℕ) → line_ends xs ≤ length xs
ends_within [] = grind arith
ends_within (x ∷ xs) = grind (arith, ends_within xs)

pub line_within : (xs : List ℕ) → (place_behind xs).line ≤ 1 + length xs
line_within xs = omega (arith, ends_within xs)

pub col_within : (xs : List ℕ) → (place_behind xs).col ≤ 1 + length xs
col_within xs = omega (arith, last_line_within xs)

-- the place is carried along from one offset to a later one
pub later : (bytes : List ℕ) (from to : ℕ) (p : Place) → from ≤ to → to ≤ length bytes → p ≡ place_behind (take from bytes)
    → walked p (take (to - from) (drop from bytes)) ≡ place_behind (take to bytes)
later bytes from to p h within e =
    ap (λ q. walked q (take (to - from) (drop from bytes))) e
    ∙ walked_behind (take from bytes) (take (to - from) (drop from bytes))
    ∙ ap place_behind (taken from to bytes h within)
  where
    taken : (m n : ℕ) (xs : List ℕ) → m ≤ n → n ≤ length xs → take m xs ++ take (n - m) (drop m xs) ≡ take n xs
    taken m n xs h g =
        let same : length (take m xs) + (n - m) ≡ n = omega (arith, length-take m xs) in
        sym (take-append-add (take m xs) (drop m xs) (n - m)) ∙ ap (λ k. take k (take m xs ++ drop m xs)) same ∙ ap (take n) (take-append-drop m xs)

pub line_short : (bytes : List ℕ) (from to : ℕ) (p : Place) → from ≤ to → to ≤ length bytes → length bytes ≤ text_limit → p ≡ place_behind (take from bytes)
    → p.line + length (take (to - from) (drop from bytes)) < 4294967296
line_short bytes from to p h within short e =
    let line : p.line ≡ (place_behind (take from bytes)).line = ap (λ (q : Place). q.line) e in
    let same : length (take (to - from) (drop from bytes)) ≡ to - from = simp (length-take, length-drop) (omega arith) in
    omega (arith, line, same, line_within (take from bytes), length-take from bytes)

pub col_short : (bytes : List ℕ) (from to : ℕ) (p : Place) → from ≤ to → to ≤ length bytes → length bytes ≤ text_limit → p ≡ place_behind (take from bytes)
    → p.col + length (take (to - from) (drop from bytes)) < 4294967296
col_short bytes from to p h within short e =
    let col : p.col ≡ (place_behind (take from bytes)).col = ap (λ (q : Place). q.col) e in
    let same : length (take (to - from) (drop from bytes)) ≡ to - from = simp (length-take, length-drop) (omega arith) in
    omega (arith, col, same, col_within (take from bytes), length-take from bytes)
