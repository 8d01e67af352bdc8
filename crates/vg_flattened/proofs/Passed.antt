-- Arguments of calls: operands and their values, and what waits behind pushes.
use Rattle.std.specs.Prelude.{ℕ, zero, suc, ◌+◌, ◌<◌, ◌≤◌, ◌^◌, Bool, true, false, ◌==◌, ◌&&◌, nat_lt, List, [], ◌∷◌, ◌++◌, length, reverse, take, drop, replicate, Some, slice_get}
use Rattle.std.proofs.Common.{◌≡◌, refl, sym, ap, ◌∙◌, subst, arith}
use Rattle.std.proofs.lemmas.List.{reverse-append, reverse-reverse, append_assoc, append-nil, length-take-le}
use Rattle.std.proofs.Math.Nat.{mod-eq_of_lt}
use Rattle.std.proofs.Math.Seq.{take-length, drop-length, take-append_seam, drop-append_seam}
use Rattle.vg_lin.specs.declared.instr.Operand.{Operand}
use Rattle.vg_lin.specs.declared.instr.Operand.TheVariants.{Local, Known}
use Rattle.vg_lin.specs.State.{State, LocalState, Waiting, value}
use Rattle.vg_lin.specs.declared.instr.Passed.{Passed}
use Rattle.vg_lin.specs.Values.{low}
use Rattle.vg_lin.specs.Meaning.{operands, values, with_value, values_of, same_widths}
use Rattle.vg_firm.specs.Meaning.{fits}
use Rattle.vg_firm.specs.Session.{all_fit}
use Rattle.vg_flatten_shapes.specs.declared.layout.Width.{Width}
use Rattle.vg_flatten_shapes.specs.Widths.{bytes_of, all_bytes}
use Rattle.vg_flatten_steps.specs.Calls.{in_widths, registers_of}
use Rattle.vg_flatten.specs.Flattened.{widened}
use Rattle.vg_flattened.proofs.Numbers.{low_same}
use Rattle.vg_flattened.proofs.Related.{ArePlaced, AreAt}
use Rattle.vg_flattened.proofs.Locals.{value_of_home}

-- ---- operands and their values, one by one

abbrev pub Valued : List Operand → List ℕ → State → Type 0
Valued [] [] t = Unit {0}
Valued (a ∷ more) (v ∷ vs) t = (value a t ≡ Some v) × (v < 2 ^ 32) × Valued more vs t
Valued _ _ t = ⊥

pub valued_homes : (hs : List Operand) (vs : List ℕ) (t : State) → AreAt hs vs t.locals → Valued hs vs t
valued_homes [] [] t h = tt
valued_homes [] (v ∷ vs) t h = absurd h
valued_homes (a ∷ hs) [] t h = absurd h
valued_homes (a ∷ hs) (v ∷ vs) t h = (value_of_home a v t h.0.0, h.0.1, valued_homes hs vs t h.1)

pub valued_long : (xs : List Operand) (vs : List ℕ) (t : State) → Valued xs vs t → length xs ≡ length vs
valued_long [] [] t h = refl
valued_long [] (v ∷ vs) t h = absurd h
valued_long (a ∷ xs) [] t h = absurd h
valued_long (a ∷ xs) (v ∷ vs) t h = ap suc (valued_long xs vs t h.2)

pub valued_take : (n : ℕ) (xs : List Operand) (vs : List ℕ) (t : State) → Valued xs vs t → Valued (take n xs) (take n vs) t
valued_take zero xs vs t h = tt
valued_take (suc n) [] [] t h = tt
valued_take (suc n) [] (v ∷ vs) t h = absurd h
valued_take (suc n) (a ∷ xs) [] t h = absurd h
valued_take (suc n) (a ∷ xs) (v ∷ vs) t h = (h.0, h.1, valued_take n xs vs t h.2)

pub valued_drop : (n : ℕ) (xs : List Operand) (vs : List ℕ) (t : State) → Valued xs vs t → Valued (drop n xs) (drop n vs) t
valued_drop zero xs vs t h = h
valued_drop (suc n) [] [] t h = tt
valued_drop (suc n) [] (v ∷ vs) t h = absurd h
valued_drop (suc n) (a ∷ xs) [] t h = absurd h
valued_drop (suc n) (a ∷ xs) (v ∷ vs) t h = valued_drop n xs vs t h.2

valued_both : (xs ys : List Operand) (vs us : List ℕ) (t : State) → Valued xs vs t → Valued ys us t → Valued (xs ++ ys) (vs ++ us) t
valued_both [] ys [] us t h g = g
valued_both [] ys (v ∷ vs) us t h g = absurd h
valued_both (a ∷ xs) ys [] us t h g = absurd h
valued_both (a ∷ xs) ys (v ∷ vs) us t h g = (h.0, h.1, valued_both xs ys vs us t h.2 g)

pub valued_reverse : (xs : List Operand) (vs : List ℕ) (t : State) → Valued xs vs t → Valued (reverse xs) (reverse vs) t
valued_reverse [] [] t h = tt
valued_reverse [] (v ∷ vs) t h = absurd h
valued_reverse (a ∷ xs) [] t h = absurd h
valued_reverse (a ∷ xs) (v ∷ vs) t h =
    subst (λ z. Valued z (reverse (v ∷ vs)) t) (sym (reverse-append (a ∷ []) xs))
    (subst (λ z. Valued (reverse xs ++ a ∷ []) z t) (sym (reverse-append (v ∷ []) vs))
    (valued_both (reverse xs) (a ∷ []) (reverse vs) (v ∷ []) t (valued_reverse xs vs t h.2) (h.0, h.1, tt)))

value_as : (a : Operand) (t : State) (waits : List Waiting) → value a (record t { waiting = waits }) ≡ value a t
value_as (Local i) t waits = refl
value_as (Known v) t waits = refl

head_is : {A : Type 0} (x y : A) (xs ys : List A) → x ∷ xs ≡ y ∷ ys → (x ≡ y) × (xs ≡ ys)
head_is {A} x y xs ys e = (ap (λ z. first z) e, ap (λ z. drop 1 z) e)
  where
    first : List A → A
    first [] = x
    first (z ∷ zs) = z

-- ---- arguments in so many bytes each

-- the bytes of arguments
abbrev pub bytes_in : List Passed → List ℕ
bytes_in [] = []
bytes_in (a ∷ more) = a.width ∷ bytes_in more

-- their bytes hold these values
abbrev pub Within : (widths vs : List ℕ) → Type 0
Within [] [] = Unit {0}
Within (w ∷ ws) (v ∷ vs) = (low w v ≡ v) × Within ws vs
Within _ _ = ⊥

-- arguments with their values, which their bytes hold
abbrev pub Passes : List Passed → List ℕ → State → Type 0
Passes [] [] t = Unit {0}
Passes (a ∷ more) (v ∷ vs) t = (value a.value t ≡ Some v) × (low a.width v ≡ v) × Passes more vs t
Passes _ _ t = ⊥

pub passes_long : (xs : List Passed) (vs : List ℕ) (t : State) → Passes xs vs t → length xs ≡ length vs
passes_long [] [] t h = refl
passes_long [] (v ∷ vs) t h = absurd h
passes_long (a ∷ xs) [] t h = absurd h
passes_long (a ∷ xs) (v ∷ vs) t h = ap suc (passes_long xs vs t h.2)

pub passes_take : (n : ℕ) (xs : List Passed) (vs : List ℕ) (t : State) → Passes xs vs t → Passes (take n xs) (take n vs) t
passes_take zero xs vs t h = tt
passes_take (suc n) [] [] t h = tt
passes_take (suc n) [] (v ∷ vs) t h = absurd h
passes_take (suc n) (a ∷ xs) [] t h = absurd h
passes_take (suc n) (a ∷ xs) (v ∷ vs) t h = (h.0, h.1, passes_take n xs vs t h.2)

pub passes_drop : (n : ℕ) (xs : List Passed) (vs : List ℕ) (t : State) → Passes xs vs t → Passes (drop n xs) (drop n vs) t
passes_drop zero xs vs t h = h
passes_drop (suc n) [] [] t h = tt
passes_drop (suc n) [] (v ∷ vs) t h = absurd h
passes_drop (suc n) (a ∷ xs) [] t h = absurd h
passes_drop (suc n) (a ∷ xs) (v ∷ vs) t h = passes_drop n xs vs t h.2

pub passes_as : (xs : List Passed) (vs : List ℕ) (t : State) (waits : List Waiting) → Passes xs vs t → Passes xs vs (record t { waiting = waits })
passes_as [] [] t waits h = tt
passes_as [] (v ∷ vs) t waits h = absurd h
passes_as (a ∷ xs) [] t waits h = absurd h
passes_as (a ∷ xs) (v ∷ vs) t waits h = (value_as a.value t waits ∙ h.0, h.1, passes_as xs vs t waits h.2)

-- operands with values pass them, where the bytes hold them
pub passes_in : (ws : List Width) (xs : List Operand) (vs : List ℕ) (t : State) → Valued xs vs t → Within (bytes_in (in_widths ws xs)) vs
    → Passes (in_widths ws xs) vs t
passes_in [] [] [] t h g = tt
passes_in (w ∷ ws) [] [] t h g = tt
passes_in [] [] (v ∷ vs) t h g = absurd h
passes_in (w ∷ ws) [] (v ∷ vs) t h g = absurd h
passes_in [] (a ∷ xs) [] t h g = absurd h
passes_in (w ∷ ws) (a ∷ xs) [] t h g = absurd h
passes_in [] (a ∷ xs) (v ∷ vs) t h g = (h.0, g.0, passes_in [] xs vs t h.2 g.1)
passes_in (w ∷ ws) (a ∷ xs) (v ∷ vs) t h g = (h.0, g.0, passes_in ws xs vs t h.2 g.1)

pub bytes_in_widths : (ws : List Width) (xs : List Operand) → length ws ≡ length xs → bytes_in (in_widths ws xs) ≡ all_bytes ws
bytes_in_widths [] [] e = refl
bytes_in_widths (w ∷ ws) [] e = absurd (grind arith)
bytes_in_widths [] (a ∷ xs) e = absurd (grind arith)
bytes_in_widths (w ∷ ws) (a ∷ xs) e = ap (λ z. bytes_of w ∷ z) (bytes_in_widths ws xs (one_less (length ws) (length xs) e))
  where
    one_less : (a b : ℕ) → suc a ≡ suc b → a ≡ b
    one_less a b h = omega (arith, h)

pub bytes_in_fours : (xs : List Operand) → bytes_in (in_widths [] xs) ≡ replicate (length xs) 4
bytes_in_fours [] = refl
bytes_in_fours (a ∷ xs) = ap (λ z. 4 ∷ z) (bytes_in_fours xs)

pub in_widths_long : (ws : List Width) (xs : List Operand) → length (in_widths ws xs) ≡ length xs
in_widths_long [] [] = refl
in_widths_long (w ∷ ws) [] = refl
in_widths_long [] (a ∷ xs) = ap suc (in_widths_long [] xs)
in_widths_long (w ∷ ws) (a ∷ xs) = ap suc (in_widths_long ws xs)

pub all_bytes_long : (ws : List Width) → length (all_bytes ws) ≡ length ws
all_bytes_long [] = refl
all_bytes_long (w ∷ ws) = ap suc (all_bytes_long ws)

-- ---- what waits

abbrev pub waits_of : List Passed → List ℕ → List Waiting
waits_of [] vs = []
waits_of (a ∷ more) [] = []
waits_of (a ∷ more) (v ∷ vs) = record { width = a.width; value = v } ∷ waits_of more vs

pub waits_long : (xs : List Passed) (vs : List ℕ) (t : State) → Passes xs vs t → length (waits_of xs vs) ≡ length vs
waits_long [] [] t h = refl
waits_long [] (v ∷ vs) t h = absurd h
waits_long (a ∷ xs) [] t h = absurd h
waits_long (a ∷ xs) (v ∷ vs) t h = ap suc (waits_long xs vs t h.2)

pub waits_values : (xs : List Passed) (vs : List ℕ) (t : State) → Passes xs vs t → values_of (waits_of xs vs) ≡ vs
waits_values [] [] t h = refl
waits_values [] (v ∷ vs) t h = absurd h
waits_values (a ∷ xs) [] t h = absurd h
waits_values (a ∷ xs) (v ∷ vs) t h = ap (λ z. v ∷ z) (waits_values xs vs t h.2)

pub waits_split : (n : ℕ) (xs : List Passed) (vs : List ℕ) → waits_of (take n xs) (take n vs) ++ waits_of (drop n xs) (drop n vs) ≡ waits_of xs vs
waits_split zero xs vs = refl
waits_split (suc n) [] vs = refl
waits_split (suc n) (a ∷ xs) [] = nothing (drop n xs)
  where
    nothing : (ys : List Passed) → waits_of ys [] ≡ []
    nothing [] = refl
    nothing (y ∷ ys) = refl
waits_split (suc n) (a ∷ xs) (v ∷ vs) = ap (λ z. record { width = a.width; value = v } ∷ z) (waits_split n xs vs)

-- they have the widths of the parameters that they become
pub waits_same : (ws : List ℕ) (n : ℕ) (more : List ℕ) (xs : List Passed) (vs : List ℕ) → take n ws ≡ bytes_in xs
    → same_widths (ws ++ more) (waits_of xs vs) ≡ true
waits_same ws n more [] vs e = refl
waits_same ws n more (a ∷ xs) [] e = refl
waits_same [] zero more (a ∷ xs) (v ∷ vs) e = absurd (grind arith)
waits_same [] (suc n) more (a ∷ xs) (v ∷ vs) e = absurd (grind arith)
waits_same (w ∷ ws) zero more (a ∷ xs) (v ∷ vs) e = absurd (grind arith)
waits_same (w ∷ ws) (suc n) more (a ∷ xs) (v ∷ vs) e =
    let both = head_is w a.width (take n ws) (bytes_in xs) e in
    ap (λ b. b && same_widths (ws ++ more) (waits_of xs vs)) (same_is w a.width both.0) ∙ waits_same ws n more xs vs both.1
  where
    same_is : (a b : ℕ) → a ≡ b → (a == b) ≡ true
    same_is a b e = grind arith

pub all_values : (xs : List Passed) (vs : List ℕ) (t : State) → Passes xs vs t → values xs t ≡ Some (waits_of xs vs)
all_values [] [] t h = refl
all_values [] (v ∷ vs) t h = absurd h
all_values (a ∷ xs) [] t h = absurd h
all_values (a ∷ xs) (v ∷ vs) t h =
    ap (λ z. with_value a.width z (values xs t)) h.0 ∙ ap (λ z. with_value a.width (Some v) z) (all_values xs vs t h.2)
    ∙ ap (λ z. Some (record { width = a.width; value = z } ∷ waits_of xs vs)) h.1

-- at most four arguments go in registers
pub registers_valued : (xs : List Passed) (vs : List ℕ) (t : State) → length xs ≤ 4 → Passes xs vs t
    → values (operands (registers_of xs)) t ≡ Some (waits_of xs vs)
registers_valued [] vs t le h = all_values [] vs t h
registers_valued (a ∷ []) vs t le h = all_values (a ∷ []) vs t h
registers_valued (a ∷ b ∷ []) vs t le h = all_values (a ∷ b ∷ []) vs t h
registers_valued (a ∷ b ∷ c ∷ []) vs t le h = all_values (a ∷ b ∷ c ∷ []) vs t h
registers_valued (a ∷ b ∷ c ∷ d ∷ []) vs t le h = all_values (a ∷ b ∷ c ∷ d ∷ []) vs t h
registers_valued (a ∷ b ∷ c ∷ d ∷ e ∷ xs) vs t le h = absurd (omega (arith, le))

-- Values are pushed one by one.
abbrev pub stacked : List Waiting → List Waiting → List Waiting
stacked [] waits = waits
stacked (x ∷ xs) waits = stacked xs (x ∷ waits)

stacked_is : (xs waits : List Waiting) → stacked xs waits ≡ reverse xs ++ waits
stacked_is [] waits = refl
stacked_is (x ∷ xs) waits =
    stacked_is xs (x ∷ waits) ∙ sym (append_assoc (reverse xs) (x ∷ []) waits) ∙ ap (λ z. z ++ waits) (sym (reverse-append (x ∷ []) xs))

stacked_more : (xs waits : List Waiting) → length (stacked xs waits) ≡ length xs + length waits
stacked_more [] waits = omega arith
stacked_more (x ∷ xs) waits = let h = stacked_more xs (x ∷ waits) in omega (arith, h)

pub stacked_long : (xs : List Waiting) → length (stacked xs []) ≡ length xs
stacked_long xs = let h = stacked_more xs [] in omega (arith, h)

pub stacked_taken : (xs : List Waiting) → take (length xs) (stacked xs []) ≡ stacked xs []
stacked_taken xs = ap (λ n. take n (stacked xs [])) (sym (stacked_long xs)) ∙ take-length (stacked xs [])

pub stacked_dropped : (xs : List Waiting) → drop (length xs) (stacked xs []) ≡ []
stacked_dropped xs = ap (λ n. drop n (stacked xs [])) (sym (stacked_long xs)) ∙ drop-length (stacked xs [])

pub stacked_reversed : (xs : List Waiting) → reverse (stacked xs []) ≡ xs
stacked_reversed xs = ap reverse (stacked_is xs [] ∙ append-nil (reverse xs)) ∙ reverse-reverse xs

-- ---- what the bytes of parameters hold

pub within_fours : (xs : List Operand) (vs : List ℕ) (t : State) → Valued xs vs t → Within (replicate (length vs) 4) vs
within_fours [] [] t h = tt
within_fours [] (v ∷ vs) t h = absurd h
within_fours (a ∷ xs) [] t h = absurd h
within_fours (a ∷ xs) (v ∷ vs) t h = (low_same v h.1, within_fours xs vs t h.2)

pub within_fit : (ws vs : List ℕ) → all_fit ws vs ≡ true → Within (take (length vs) ws) vs
within_fit [] [] e = tt
within_fit (w ∷ ws) [] e = tt
within_fit [] (v ∷ vs) e = absurd (grind arith)
within_fit (w ∷ ws) (v ∷ vs) e =
    let both = both_of (fits w v) (all_fit ws vs) e in (mod-eq_of_lt (lt_of v (256 ^ w) both.0), within_fit ws vs both.1)
  where
    both_of : (a b : Bool) → (a && b) ≡ true → (a ≡ true) × (b ≡ true)
    both_of true true h = (refl, refl)
    both_of true false h = absurd (grind arith)
    both_of false b h = absurd (grind arith)

    lt_of : (a b : ℕ) → nat_lt a b ≡ true → a < b
    lt_of a b h = grind arith

-- the number of a receiver, where one is passed, is within two bytes
abbrev pub IsNarrow : (receives : Bool) → List ℕ → Type 0
IsNarrow true (v ∷ vs) = v < 256 ^ 2
IsNarrow true [] = Unit {0}
IsNarrow false vs = Unit {0}

pub take_widened : (n : ℕ) (ws : List ℕ) → n ≤ length ws → take n (widened n ws) ≡ replicate n 4
take_widened zero ws le = refl
take_widened (suc n) [] le = absurd (omega (arith, le))
take_widened (suc n) (w ∷ ws) le = ap (λ z. 4 ∷ z) (take_widened n ws (omega (arith, le)))

-- the widths of a receiver and of so many parameters behind it
pub take_found : (n : ℕ) (ws : List ℕ) → n ≤ length ws → take (1 + n) (2 ∷ widened n ws) ≡ 2 ∷ replicate n 4
take_found n ws le = ap (λ z. take z (2 ∷ widened n ws)) (next n) ∙ ap (λ z. 2 ∷ z) (take_widened n ws le)
  where
    next : (a : ℕ) → 1 + a ≡ suc a
    next a = omega arith

pub within_found : (n : ℕ) (ws : List ℕ) (xs : List Operand) (vs : List ℕ) (t : State) → n ≤ length ws → length vs ≡ 1 + n → IsNarrow true vs → Valued xs vs t
    → Within (take (1 + n) (2 ∷ widened n ws)) vs
within_found n ws [] [] t le long narrow h = absurd (omega (arith, long))
within_found n ws (a ∷ xs) [] t le long narrow h = absurd h
within_found n ws [] (v ∷ vs) t le long narrow h = absurd h
within_found n ws (a ∷ xs) (v ∷ vs) t le long narrow h =
    subst (λ z. Within z (v ∷ vs)) (sym (take_found n ws le ∙ ap (λ k. 2 ∷ replicate k 4) (as_many n (length vs) long))) held
  where
    as_many : (a b : ℕ) → suc b ≡ 1 + a → a ≡ b
    as_many a b e = omega (arith, e)

    held : Within (2 ∷ replicate (length vs) 4) (v ∷ vs)
    held = (mod-eq_of_lt narrow, within_fours xs vs t h.2)

-- ---- the value below so many others

-- one more of a list
one_more : (n : ℕ) (vs : List ℕ) → n + 1 ≤ length vs → (v : ℕ) × (slice_get vs n ≡ Some v) × (take (n + 1) vs ≡ take n vs ++ v ∷ [])
one_more n [] le = absurd (omega (arith, le))
one_more zero (v ∷ vs) le = (v, refl, refl)
one_more (suc n) (v ∷ vs) le =
    let h = one_more n vs (omega (arith, le)) in (h.0, h.1, ap (λ z. take z (v ∷ vs)) (onward n) ∙ ap (λ z. v ∷ z) h.2)
  where
    onward : (a : ℕ) → suc a + 1 ≡ suc (a + 1)
    onward a = omega arith

pub split_below : (n : ℕ) (vs : List ℕ) (v : ℕ) (us : List ℕ) → n + 1 ≤ length vs → reverse (take (n + 1) vs) ≡ v ∷ us
    → (slice_get vs n ≡ Some v) × (reverse (take n vs) ≡ us)
split_below n vs v us le e =
    let h = one_more n vs le in
    let both = head_is h.0 v (reverse (take n vs)) us (sym (ap reverse h.2 ∙ reverse-append (take n vs) (h.0 ∷ [])) ∙ e) in
    (h.1 ∙ ap Some both.0, both.1)

-- without it
pub without : (n : ℕ) (vs : List ℕ) → n ≤ length vs → (take n (take n vs ++ drop (n + 1) vs) ≡ take n vs) × (drop n (take n vs ++ drop (n + 1) vs) ≡ drop (n + 1) vs)
without n vs le =
    let long = length-take-le n vs le in (
      subst (λ z. take z (take n vs ++ drop (n + 1) vs) ≡ take n vs) long (take-append_seam (take n vs) (drop (n + 1) vs)),
      subst (λ z. drop z (take n vs ++ drop (n + 1) vs) ≡ drop (n + 1) vs) long (drop-append_seam (take n vs) (drop (n + 1) vs)),
    )

-- ---- homes below

pub placed_drop : (n count : ℕ) (hs : List Operand) → ArePlaced n hs → ArePlaced n (drop count hs)
placed_drop n zero hs h = h
placed_drop n (suc count) [] h = tt
placed_drop n (suc count) (a ∷ hs) h = placed_drop n count hs h.1

pub at_drop : (count : ℕ) (hs : List Operand) (vs : List ℕ) (ls : List LocalState) → AreAt hs vs ls → AreAt (drop count hs) (drop count vs) ls
at_drop zero hs vs ls h = h
at_drop (suc count) [] [] ls h = tt
at_drop (suc count) [] (v ∷ vs) ls h = absurd h
at_drop (suc count) (a ∷ hs) [] ls h = absurd h
at_drop (suc count) (a ∷ hs) (v ∷ vs) ls h = at_drop count hs vs ls h.1
