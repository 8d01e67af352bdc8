-- Values that were pushed become parameters where they lie.
use Rattle.std.proofs.Common.{◌≡◌, ℕ, zero, suc, ◌+◌, ◌-◌, ◌%◌, ◌^◌, ◌<◌, ◌≤◌, Bool, true, false, ◌&&◌, ◌==◌, List, [], ◌∷◌, ◌++◌}
use Rattle.std.proofs.Common.{length, Some, refl, sym, ap, ◌∙◌, subst, arith, slice_index, slice_get, append_assoc, length-append}
use Rattle.std.specs.Prelude.{map, reverse}
use Rattle.std.proofs.lemmas.List.{get_or_append_left, get_or-append_right, append-nil, reverse-append}
use Rattle.vg_lin.specs.State.{LocalState, Waiting, value_in}
use Rattle.vg_lin.specs.Meaning.{begun, same_widths, values_of}
use Rattle.avr_view.specs.Registers.{Regs}
use Rattle.vg_templates.specs.Spots.{InFrame, read, value_at}
use Rattle.vg_templates.specs.Layouts.{Layout, frame_size, width_of}
use Rattle.vg_templates.specs.Frames.{Fits, Waits, Pushed, bytes_of, bytes_behind, width_at, number_at}

-- ---- numbers of two lists, one behind the other

pub read-front : (xs ys : List ℕ) (at w : ℕ) → at + w ≤ length xs → read (xs ++ ys) at w ≡ read xs at w
read-front xs ys at zero h = refl
read-front xs ys at (suc w) h =
    let one : slice_index (xs ++ ys) at ≡ slice_index xs at = get_or_append_left xs ys 0 at (omega arith) in
    let rest = read-front xs ys (suc at) w (omega arith) in
    omega (arith, one, rest)

pub read-back : (xs ys : List ℕ) (n at w : ℕ) → length xs ≡ n → read (xs ++ ys) (n + at) w ≡ read ys at w
read-back xs ys n at zero e = refl
read-back xs ys n at (suc w) e =
    let same : n + at - n ≡ at = omega arith in
    let one : slice_index (xs ++ ys) (n + at) ≡ slice_index ys at = get_or-append_right xs ys n (n + at) 0 e (omega arith) ∙ ap (slice_index ys) same in
    let there : suc (n + at) ≡ n + suc at = omega arith in
    let rest = ap (λ k. read (xs ++ ys) k w) there ∙ read-back xs ys n (suc at) w e in
    omega (arith, one, rest)

-- ---- what waits, in the order in which it was pushed

pushed-deeper : (ps : List Waiting) (w : Waiting) (front bytes : List ℕ) → length front ≡ w.width → read front 0 w.width ≡ w.value → Pushed ps bytes
    → Pushed (ps ++ w ∷ []) (front ++ bytes)
pushed-deeper [] w front bytes long value h = ([], front, ap (λ b. front ++ b) h ∙ append-nil front, refl, long, value, refl)
pushed-deeper (p ∷ ps) w front bytes long value (f, b, cut, size, own, val, more) =
    let inner = pushed-deeper ps w front f long value more in
    let total : (qs : List Waiting) → bytes_of (qs ++ w ∷ []) ≡ bytes_of qs + w.width = λ qs. bytes_of-last qs w in
    let grown = total ps in
    (front ++ f, b, ap (λ x. front ++ x) cut ∙ sym (append_assoc front f b), omega (arith, length-append front f, size, long, grown), own, val, inner)
  where
    bytes_of-last : (qs : List Waiting) (w : Waiting) → bytes_of (qs ++ w ∷ []) ≡ bytes_of qs + w.width
    bytes_of-last [] w = omega arith
    bytes_of-last (q ∷ qs) w = let rest = bytes_of-last qs w in omega (arith, rest)

pub waits-pushed : (ws : List Waiting) (bytes : List ℕ) → Waits ws bytes → Pushed (reverse ws) bytes
waits-pushed [] bytes h = h
waits-pushed (w ∷ ws) bytes (front, back, cut, long, value, more) =
    subst (λ ps. Pushed ps bytes) (sym (reverse-append (w ∷ []) ws))
    (subst (Pushed (reverse ws ++ w ∷ [])) (sym cut) (pushed-deeper (reverse ws) w front back long value (waits-pushed ws back more)))

behind-inside : (ps : List Waiting) (k : ℕ) → k < length ps → bytes_behind ps k + width_at ps k ≤ bytes_of ps
behind-inside [] k h = absurd (omega arith)
behind-inside (p ∷ ps) zero h = omega arith
behind-inside (p ∷ ps) (suc k) h = let rest = behind-inside ps k (omega arith) in omega (arith, rest)

pushed-read : (ps : List Waiting) (bytes : List ℕ) (k : ℕ) → Pushed ps bytes → k < length ps → read bytes (bytes_behind ps k) (width_at ps k) ≡ number_at ps k
pushed-read [] bytes k p h = absurd (omega arith)
pushed-read (p ∷ ps) bytes zero (front, back, cut, size, own, value, more) h =
    let there : bytes_of ps ≡ bytes_of ps + 0 = omega arith in
    ap (λ b. read b (bytes_of ps) p.width) cut
    ∙ ap (λ at. read (front ++ back) at p.width) there
    ∙ read-back front back (bytes_of ps) 0 p.width size
    ∙ value
pushed-read (p ∷ ps) bytes (suc k) (front, back, cut, size, own, value, more) h =
    let inside = behind-inside ps k (omega arith) in
    ap (λ b. read b (bytes_behind ps k) (width_at ps k)) cut
    ∙ read-front front back (bytes_behind ps k) (width_at ps k) (omega (arith, inside, size))
    ∙ pushed-read ps front k more (omega arith)

-- ---- the locals of a procedure that begins

both-true : (a b : Bool) → (a && b) ≡ true → (a ≡ true) × (b ≡ true)
both-true true b h = (refl, h)
both-true false b h = absurd (let clash : false ≡ true = h in cc)

some_same : (x y : ℕ) → Some x ≡ Some y → x ≡ y
some_same x y e = cc

begun-width : (ws : List ℕ) (ps : List Waiting) (k : ℕ) → same_widths ws ps ≡ true → k < length ps → slice_index ws k ≡ width_at ps k
begun-width ws [] k h low = absurd (omega arith)
begun-width [] (p ∷ ps) k h low = absurd (let clash : false ≡ true = h in cc)
begun-width (w ∷ ws) (p ∷ ps) zero h low = let same = (both-true (w == p.width) (same_widths ws ps) h).0 in grind (arith, same)
begun-width (w ∷ ws) (p ∷ ps) (suc k) h low = begun-width ws ps k (both-true (w == p.width) (same_widths ws ps) h).1 (omega arith)

begun-value : (ws : List ℕ) (ps : List Waiting) (others : List ℕ) (k x : ℕ) → same_widths ws ps ≡ true → k < length ps
    → value_in (slice_get (begun ws (values_of ps ++ others)) k) ≡ Some x → x ≡ number_at ps k % 256 ^ width_at ps k
begun-value ws [] others k x h low got = absurd (omega arith)
begun-value [] (p ∷ ps) others k x h low got = absurd (let clash : false ≡ true = h in cc)
begun-value (w ∷ ws) (p ∷ ps) others zero x h low got =
    let same : w ≡ p.width = let test = (both-true (w == p.width) (same_widths ws ps) h).0 in grind (arith, test) in
    sym (some_same _ x got) ∙ ap (λ n. p.value % 256 ^ n) same
begun-value (w ∷ ws) (p ∷ ps) others (suc k) x h low got = begun-value ws ps others k x (both-true (w == p.width) (same_widths ws ps) h).1 (omega arith) got

begun-widths : (ws xs : List ℕ) → map (λ (s : LocalState). s.width) (begun ws xs) ≡ ws
begun-widths [] xs = refl
begun-widths (w ∷ ws) [] = ap (λ l. w ∷ l) (begun-widths ws [])
begun-widths (w ∷ ws) (x ∷ xs) = ap (λ l. w ∷ l) (begun-widths ws xs)

-- the parameters that were pushed lie at their spots, where these are the arguments; each value has been cut to its width
pub arguments_fit : (l : Layout) (live : ℕ → Bool) (ps : List Waiting) (others front args : List ℕ) (g : Regs) → same_widths l.widths ps ≡ true
    → ((k : ℕ) → k < length ps → l.spots k ≡ InFrame (length front + bytes_behind ps k))
    → ((k : ℕ) → k < length ps → number_at ps k % 256 ^ width_at ps k ≡ number_at ps k)
    → ((k : ℕ) → live k ≡ true → k < length ps) → Pushed ps args → length (front ++ args) ≡ frame_size l
    → Fits l live (begun l.widths (values_of ps ++ others)) (front ++ args) g
arguments_fit l live ps others front args g same spots cut pushed_alone pushed long =
    record { each = λ k x low alive got. at k x (pushed_alone k alive) got; widths = begun-widths l.widths (values_of ps ++ others); long = long }
  where
    at : (k x : ℕ) → k < length ps → value_in (slice_get (begun l.widths (values_of ps ++ others)) k) ≡ Some x
        → value_at (l.spots k) (width_of l k) (front ++ args) g ≡ x
    at k x low got =
        ap (λ s. value_at s (width_of l k) (front ++ args) g) (spots k low)
        ∙ ap (λ w. read (front ++ args) (length front + bytes_behind ps k) w) (begun-width l.widths ps k same low)
        ∙ read-back front args (length front) (bytes_behind ps k) (width_at ps k) refl
        ∙ pushed-read ps args k pushed low
        ∙ sym (begun-value l.widths ps others k x same low got ∙ cut k low)
