-- Values above others.
use Rattle.std.proofs.Common.{◌≡◌, ℕ, zero, suc, set, get_or, Option, Some, ◌+◌, ◌-◌, ◌<◌, ◌≤◌, List, [], ◌∷◌, ◌++◌, length, take, drop, reverse, refl, sym, ap, ◌∙◌, subst, arith, append_assoc}
use Rattle.std.proofs.lemmas.List.{
  take-append-le,
  drop-append-le,
  reverse-append,
  length-drop,
  take-set-le,
  drop-set-add,
  drop-set-lt,
  take_at,
  drop_at,
  take_rest,
  take-append-drop,
  take-take,
  drop_more,
  length-take-le,
  length-reverse,
  reverse-reverse,
  drop-drop,
  length-append,
  drop_all,
}
use Rattle.std.proofs.Math.Seq.{take-add}
use Rattle.std.specs.List.{remove}
use Rattle.std.specs.Prelude.{slice_get}
use Rattle.vg_core.specs.declared.value.CoreValue.{CoreValue}
use Rattle.vg_interp_frames.specs.Frame.{Frame, frame_of, with_value, entering}

abbrev pub made : List CoreValue → List CoreValue → List CoreValue → Frame
made below locals values = record { below = below; locals = locals; values = values }

-- one value behind the others is one that waits in front
pub pushed : (xs : List CoreValue) (v : CoreValue) (start base : ℕ) → start ≤ base → base ≤ length xs
    → frame_of (xs ++ v ∷ []) start base ≡ with_value v (frame_of xs start base)
pushed xs v start base h k =
    let low : start ≤ length xs = omega (arith, h, k) in
    let within : base - start ≤ length (drop start xs) = omega (arith, length-drop start xs, h, k) in
    ap (λ b. made b (take (base - start) (drop start (xs ++ v ∷ []))) (reverse (drop base (xs ++ v ∷ [])))) (take-append-le start xs (v ∷ []) low)
    ∙ ap (λ l. made (take start xs) (take (base - start) l) (reverse (drop base (xs ++ v ∷ [])))) (drop-append-le start xs (v ∷ []) low)
    ∙ ap (λ l. made (take start xs) l (reverse (drop base (xs ++ v ∷ [])))) (take-append-le (base - start) (drop start xs) (v ∷ []) within)
    ∙ ap (λ l. made (take start xs) (take (base - start) (drop start xs)) (reverse l)) (drop-append-le base xs (v ∷ []) k)
    ∙ ap (made (take start xs) (take (base - start) (drop start xs))) (reverse-append (drop base xs) (v ∷ []))

set_taken : (n : ℕ) (xs : List CoreValue) (i : ℕ) (v : CoreValue) → take n (set xs i v) ≡ set (take n xs) i v
set_taken zero xs i v = refl
set_taken (suc n) [] i v = refl
set_taken (suc n) (x ∷ xs) zero v = refl
set_taken (suc n) (x ∷ xs) (suc i) v = ap (λ l. x ∷ l) (set_taken n xs i v)

-- a local is set in its place
pub set_there : (xs : List CoreValue) (i : ℕ) (v : CoreValue) (start base : ℕ) → start + i < base
    → frame_of (set xs (start + i) v) start base ≡ made (take start xs) (set (take (base - start) (drop start xs)) i v) (reverse (drop base xs))
set_there xs i v start base h =
    let place = start + i in
    ap (λ b. made b (take (base - start) (drop start (set xs place v))) (reverse (drop base (set xs place v)))) (take-set-le start xs place v (omega arith))
    ∙ ap (λ l. made (take start xs) (take (base - start) l) (reverse (drop base (set xs place v)))) (drop-set-add start xs i v)
    ∙ ap (λ l. made (take start xs) l (reverse (drop base (set xs place v)))) (set_taken (base - start) (drop start xs) i v)
    ∙ ap (λ l. made (take start xs) (set (take (base - start) (drop start xs)) i v) (reverse l)) (drop-set-lt base xs place v h)

-- values above others: those below a place stay as they are
above : (xs ys : List CoreValue) (start base : ℕ) → start ≤ base → base ≤ length xs
    → frame_of (xs ++ ys) start base ≡ made (take start xs) (take (base - start) (drop start xs)) (reverse ys ++ reverse (drop base xs))
above xs ys start base h k =
    let low : start ≤ length xs = omega (arith, h, k) in
    let within : base - start ≤ length (drop start xs) = omega (arith, length-drop start xs, h, k) in
    ap (λ b. made b (take (base - start) (drop start (xs ++ ys))) (reverse (drop base (xs ++ ys)))) (take-append-le start xs ys low)
    ∙ ap (λ l. made (take start xs) (take (base - start) l) (reverse (drop base (xs ++ ys)))) (drop-append-le start xs ys low)
    ∙ ap (λ l. made (take start xs) l (reverse (drop base (xs ++ ys)))) (take-append-le (base - start) (drop start xs) ys within)
    ∙ ap (λ l. made (take start xs) (take (base - start) (drop start xs)) (reverse l)) (drop-append-le base xs ys k)
    ∙ ap (made (take start xs) (take (base - start) (drop start xs))) (reverse-append (drop base xs) ys)

got : (ps : List CoreValue) (x : CoreValue) (qs : List CoreValue) (n : ℕ) → length ps ≡ n → slice_get (ps ++ x ∷ qs) n ≡ Some x
got ps x qs n e = subst (λ m. slice_get (ps ++ x ∷ qs) m ≡ Some x) e (at_end ps)
  where
    at_end : (ps : List CoreValue) → slice_get (ps ++ x ∷ qs) (length ps) ≡ Some x
    at_end [] = refl
    at_end (y ∷ ys) = at_end ys

rest_behind : (ps : List CoreValue) (x : CoreValue) (qs : List CoreValue) (n : ℕ) → length ps ≡ n → drop (n + 1) (ps ++ x ∷ qs) ≡ qs
rest_behind ps x qs n e =
    ap (drop (n + 1)) (sym (append_assoc ps (x ∷ []) qs)) ∙ drop_at (ps ++ x ∷ []) qs (n + 1) (length-append ps (x ∷ []) ∙ ap (λ m. m + 1) e)

-- A value of a frame, and the frame without it.
abbrev pub IsTaken : (count : ℕ) → CoreValue → (before now : Frame) → Type 0
IsTaken count x f g =
    (slice_get f.values count ≡ Some x) × (g ≡ made f.below f.locals (take count f.values ++ drop (count + 1) f.values))

taken : (b l ps : List CoreValue) (x : CoreValue) (qs : List CoreValue) (n : ℕ) → length ps ≡ n
    → IsTaken n x (made b l (ps ++ x ∷ qs)) (made b l (ps ++ qs))
taken b l ps x qs n e =
    (got ps x qs n e, sym (ap (λ m. made b l (m ++ drop (n + 1) (ps ++ x ∷ qs))) (take_at ps (x ∷ qs) n e) ∙ ap (λ m. made b l (ps ++ m)) (rest_behind ps x qs n e)))

-- the value that waits below so many others is taken away
pub removed : (xs : List CoreValue) (start base count place : ℕ) (x : CoreValue) → start ≤ base → base ≤ length xs → count < length xs - base
    → place ≡ length xs - 1 - count → x ≡ get_or xs place x → IsTaken count x (frame_of xs start base) (frame_of (remove xs place) start base)
removed xs start base count place x h k below at is =
    let within : place < length xs = omega (arith, at, below) in
    let high : base ≤ place = omega (arith, at, below) in
    let A = take place xs in
    let B = drop (place + 1) xs in
    let R = reverse (drop base A) in
    let long : length A ≡ place = length-take-le place xs (omega (arith, within)) in
    let few : length (reverse B) ≡ count = length-reverse B ∙ length-drop (place + 1) xs ∙ omega (arith, at, below) in
    let next : place + 1 ≡ suc place = omega arith in
    let split : xs ≡ A ++ (x ∷ B) = sym (take-append-drop place xs) ∙ ap (λ l. A ++ l) (drop_more xs place x within ∙ ap (λ y. y ∷ B) (sym is)) in
    let fits : base ≤ length A = omega (arith, long, high) in
    let old : frame_of xs start base ≡ made (take start A) (take (base - start) (drop start A)) (reverse B ++ (x ∷ R)) =
    ap (λ l. frame_of l start base) split ∙ above A (x ∷ B) start base h fits
    ∙ ap (λ l. made (take start A) (take (base - start) (drop start A)) (l ++ R)) (reverse-append (x ∷ []) B)
    ∙ ap (made (take start A) (take (base - start) (drop start A))) (append_assoc (reverse B) (x ∷ []) R) in
    let new : frame_of (remove xs place) start base ≡ made (take start A) (take (base - start) (drop start A)) (reverse B ++ R) =
    ap (λ n. frame_of (A ++ drop n xs) start base) (sym next) ∙ above A B start base h fits in
    subst (λ f. IsTaken count x f (frame_of (remove xs place) start base)) (sym old)
    (subst (λ g. IsTaken count x (made (take start A) (take (base - start) (drop start A)) (reverse B ++ (x ∷ R))) g) (sym new)
    (taken (take start A) (take (base - start) (drop start A)) (reverse B) x R count few))

-- The newest of the values that wait, and those below them.
newest_of : (vs : List CoreValue) (count : ℕ) → count ≤ length vs → reverse (take count (reverse vs)) ≡ drop (length vs - count) vs
newest_of vs count h =
    let n = length vs - count in
    let B = drop n vs in
    let few : length (reverse B) ≡ count = length-reverse B ∙ length-drop n vs ∙ omega (arith, h) in
    ap (λ l. reverse (take count l)) (ap reverse (sym (take-append-drop n vs)) ∙ reverse-append (take n vs) B)
    ∙ ap reverse (take_at (reverse B) (reverse (take n vs)) count few) ∙ reverse-reverse B

below_newest : (vs : List CoreValue) (count : ℕ) → count ≤ length vs → reverse (drop count (reverse vs)) ≡ take (length vs - count) vs
below_newest vs count h =
    let n = length vs - count in
    let B = drop n vs in
    let few : length (reverse B) ≡ count = length-reverse B ∙ length-drop n vs ∙ omega (arith, h) in
    ap (λ l. reverse (drop count l)) (ap reverse (sym (take-append-drop n vs)) ∙ reverse-append (take n vs) B)
    ∙ ap reverse (drop_at (reverse B) (reverse (take n vs)) count few) ∙ reverse-reverse (take n vs)

-- so many of the newest values are the last of all
pub last_ones : (xs : List CoreValue) (base count : ℕ) → base ≤ length xs → count ≤ length xs - base
    → take (length xs - (length xs - count)) (drop (length xs - count) xs) ≡ reverse (take count (reverse (drop base xs)))
last_ones xs base count h k =
    let long : length (drop base xs) ≡ length xs - base = length-drop base xs in
    let place : base + (length (drop base xs) - count) ≡ length xs - count = omega (arith, long, h, k) in
    take_rest xs (length xs - count) ∙ sym (newest_of (drop base xs) count (omega (arith, long, k)) ∙ drop-drop (length (drop base xs) - count) base xs ∙ ap (λ n. drop n xs) place)

-- the places move over the newest values
pub entered_at : (xs : List CoreValue) (start base count : ℕ) → start ≤ base → base ≤ length xs → count ≤ length xs - base
    → frame_of xs (length xs - count) (length xs) ≡ entering count (frame_of xs start base)
entered_at xs start base count s h k =
    let vs = drop base xs in
    let long : length vs ≡ length xs - base = length-drop base xs in
    let few : count ≤ length vs = omega (arith, long, k) in
    let place : length xs - count ≡ base + (length vs - count) = omega (arith, long, h, k) in
    let up : start + (base - start) ≡ base = omega (arith, s) in
    let low : take (length xs - count) xs ≡ take start xs ++ take (base - start) (drop start xs) ++ reverse (drop count (reverse vs)) =
    ap (λ n. take n xs) place ∙ take-add base (length vs - count) xs
    ∙ ap (λ l. l ++ take (length vs - count) vs) (ap (λ n. take n xs) (sym up) ∙ take-add start (base - start) xs)
    ∙ ap (λ l. take start xs ++ take (base - start) (drop start xs) ++ l) (sym (below_newest vs count few)) in
    ap (λ b. made b (take (length xs - (length xs - count)) (drop (length xs - count) xs)) (reverse (drop (length xs) xs))) low
    ∙ ap (λ l. made (take start xs ++ take (base - start) (drop start xs) ++ reverse (drop count (reverse vs))) l (reverse (drop (length xs) xs))) (last_ones xs base count h k)
    ∙ ap (λ l. made (take start xs ++ take (base - start) (drop start xs) ++ reverse (drop count (reverse vs))) (reverse (take count (reverse vs))) (reverse l)) (drop_all (length xs) xs (omega arith))
