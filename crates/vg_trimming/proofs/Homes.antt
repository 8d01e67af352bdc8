-- What is known at a place holds of a state of the older code and one of the newer code, and what lasts of it where both change.
use Rattle.std.specs.Prelude.{◌≢◌, ℕ, zero, suc, ◌<◌, ◌≤◌, ◌^◌, Bool, true, false, ◌==◌, ◌&&◌, not, nat_lt, nat_le, List, [], ◌∷◌, length}
use Rattle.std.specs.Prelude.{Option, Some, None, slice_get, get_or, if◌then◌else◌}
use Rattle.std.specs.List.{AllByRecursion}
use Rattle.std.proofs.Common.{◌≡◌, refl, sym, ap, ◌∙◌, subst, arith}
use Rattle.std.proofs.Math.Nat.{mod-eq_of_lt, mod-le, mod-lt, one-le-pow, pow-le-pow_right}
use Rattle.std.proofs.lemmas.Bool.{and_parts, not-true}
use Rattle.std.proofs.lemmas.Option.{same_Some, none-some}
use Rattle.vg_lin.specs.declared.instr.Operand.{Operand}
use Rattle.vg_lin.specs.declared.instr.Operand.TheVariants.{Local, Known}
use Rattle.vg_lin.specs.declared.instr.Operator.{Operator}
use Rattle.vg_lin.specs.declared.instr.Operator.TheVariants.{Plus, Minus, Times, Divide, Remainder, And, Or, Xor, ShiftLeft, ShiftRight}
use Rattle.vg_lin.specs.declared.instr.Computation.{Computation}
use Rattle.vg_lin.specs.Values.{low, computed}
use Rattle.vg_lin.specs.Sound.{IsWidth}
use Rattle.vg_lin.specs.State.{LocalState, State, value_in, value, with_local}
use Rattle.vg_expand.specs.Expansion.{IsHeld, Holds}
use Rattle.vg_trimming.specs.declared.facts.Twin.{Twin}
use Rattle.vg_trimming.specs.declared.facts.Worked.{Worked}
use Rattle.vg_trimming.specs.declared.facts.Bound.{Bound}
use Rattle.vg_trimming.specs.declared.facts.Facts.{Facts}
use Rattle.vg_trimming.specs.declared.facts.Change.{Change}
use Rattle.vg_trimming.specs.Facts.{same_home, is_twin, stands_for, is_filled, bytes_of, is_it, overwrites, gains, twin_lasts, twins_last}
use Rattle.vg_trimming.specs.Facts.{stays_filled, all_stay_filled, same_operator, is_of, found_for, same_worked, is_worked, is_new}
use Rattle.vg_trimming.specs.Facts.{stays_worked, all_stay_worked, leads, greatest, most_in, most_known, most_of, is_bounded, stays_bounded, all_stay_bounded}
use Rattle.vg_trimming.specs.Runs.{AreBytes}

-- ---- tests

pub no : {A : Type 0} → false ≡ true → A
no e = absurd (let clash : false ≡ true = e in cc)

pub same_number : (a b : ℕ) → (a == b) ≡ true → a ≡ b
same_number a b e = grind arith

pub at_most : (a b : ℕ) → nat_le a b ≡ true → a ≤ b
at_most a b e = grind arith

pub is_more : (a b : ℕ) → nat_le a b ≡ false → b < a
is_more a b e = grind arith

pub same_home_is : (g h : Operand) → same_home g h ≡ true → g ≡ h
same_home_is (Local i) (Local j) e = ap Local (same_number i j e)
same_home_is (Local i) (Known w) e = no e
same_home_is (Known v) (Local j) e = no e
same_home_is (Known v) (Known w) e = ap Known (same_number v w e)

-- the local that is named
pub is_named : (o : Option ℕ) (x : ℕ) → is_it o x ≡ true → o ≡ Some x
is_named (Some y) x e = ap Some (same_number y x e)
is_named None x e = no e

pub same_operator_is : (a b : Operator) → same_operator a b ≡ true → a ≡ b
same_operator_is Plus Plus e = refl
same_operator_is Minus Minus e = refl
same_operator_is Times Times e = refl
same_operator_is Divide Divide e = refl
same_operator_is Remainder Remainder e = refl
same_operator_is And And e = refl
same_operator_is Or Or e = refl
same_operator_is Xor Xor e = refl
same_operator_is ShiftLeft ShiftLeft e = refl
same_operator_is ShiftRight ShiftRight e = refl
same_operator_is _ _ e = no e

-- ---- locals

abbrev pub local : List LocalState → ℕ → Option ℕ
local ls x = value_in (slice_get ls x)

pub own_value : (ws : List ℕ) (ls : List LocalState) (x z v d : ℕ) → Holds ws ls → local (with_local ls x z) x ≡ Some v → v ≡ low (get_or ws x d) z
own_value [] [] x z v d h e = absurd (none-some v e)
own_value [] (l ∷ ls) x z v d h e = absurd h
own_value (w ∷ ws) [] x z v d h e = absurd h
own_value (w ∷ ws) (l ∷ ls) zero z v d (g, i, h) e = sym (same_Some _ v e) ∙ ap (λ k. low k z) g
own_value (w ∷ ws) (l ∷ ls) (suc x) z v d (g, i, h) e = own_value ws ls x z v d h e

pub gets_value : (ws : List ℕ) (ls : List LocalState) (x z d : ℕ) → Holds ws ls → x < length ws
    → local (with_local ls x z) x ≡ Some (low (get_or ws x d) z)
gets_value [] ls x z d h lt = absurd (omega (arith, lt))
gets_value (w ∷ ws) [] x z d h lt = absurd h
gets_value (w ∷ ws) (l ∷ ls) zero z d (g, i, h) lt = ap (λ k. Some (low k z)) g
gets_value (w ∷ ws) (l ∷ ls) (suc x) z d (g, i, h) lt = gets_value ws ls x z d h (omega (arith, lt))

pub has_value : (ws : List ℕ) (ls : List LocalState) (x z v : ℕ) → Holds ws ls → local (with_local ls x z) x ≡ Some v → x < length ws
has_value [] [] x z v h e = absurd (none-some v e)
has_value [] (l ∷ ls) x z v h e = absurd h
has_value (w ∷ ws) [] x z v h e = absurd h
has_value (w ∷ ws) (l ∷ ls) zero z v (g, i, h) e = omega arith
has_value (w ∷ ws) (l ∷ ls) (suc x) z v (g, i, h) e = let k = has_value ws ls x z v h e in omega (arith, k)

pub held_value : (ws : List ℕ) (ls : List LocalState) (x v d : ℕ) → Holds ws ls → local ls x ≡ Some v → v < 256 ^ get_or ws x d
held_value [] [] x v d h e = absurd (none-some v e)
held_value [] (l ∷ ls) x v d h e = absurd h
held_value (w ∷ ws) [] x v d h e = absurd h
held_value (w ∷ ws) (l ∷ ls) zero v d (g, i, h) e = subst (IsHeld w) e i
held_value (w ∷ ws) (l ∷ ls) (suc x) v d (g, i, h) e = held_value ws ls x v d h e

pub other_local : (ls : List LocalState) (to i v : ℕ) → (to == i) ≡ false → local (with_local ls to v) i ≡ local ls i
other_local [] to i v e = refl
other_local (l ∷ ls) zero zero v e = absurd (grind arith)
other_local (l ∷ ls) zero (suc i) v e = refl
other_local (l ∷ ls) (suc to) zero v e = refl
other_local (l ∷ ls) (suc to) (suc i) v e = other_local ls to i v (less_one to i e)
  where
    less_one : (to i : ℕ) → (suc to == suc i) ≡ false → (to == i) ≡ false
    less_one to i e = grind arith

pub same_default : (ws : List ℕ) (x d e : ℕ) → x < length ws → get_or ws x d ≡ get_or ws x e
same_default [] x d e lt = absurd (omega (arith, lt))
same_default (w ∷ ws) zero d e lt = refl
same_default (w ∷ ws) (suc x) d e lt = same_default ws x d e (omega (arith, lt))

pub few_bytes : (ws : List ℕ) (x : ℕ) → AllByRecursion IsWidth ws → get_or ws x 0 ≤ 4
few_bytes [] x h = omega arith
few_bytes (w ∷ ws) zero ((g, i), h) = i
few_bytes (w ∷ ws) (suc x) (g, h) = few_bytes ws x h

pub low_below : (w x : ℕ) → low w x < 256 ^ w
low_below w x = mod-lt x (let h = one-le-pow w 256 (omega arith) in omega (arith, h))

-- so many bytes hold a value
pub low_small : (w v b : ℕ) → v < 256 ^ b → b ≤ w → low w v ≡ v
low_small w v b h g = mod-eq_of_lt (let k : 256 ^ b ≤ 256 ^ w = pow-le-pow_right (omega arith) g in omega (arith, h, k))

pub fits_bytes : (n : List ℕ) (h : Operand) (u : State) (v : ℕ) → Holds n u.locals → value h u ≡ Some v → bytes_of n h ≤ 4 → v < 256 ^ bytes_of n h
fits_bytes n (Local i) u v g e f = held_value n u.locals i v 5 g e
fits_bytes n (Known w) u v g e f = subst (λ k. k < 256 ^ bytes_of n (Known w)) (same_Some w v e) (by_first (nat_lt w 256) refl f)
  where
    below : (w k : ℕ) → nat_lt w k ≡ true → w < k
    below w k e = grind arith

    by_second : (b : Bool) → nat_lt w 65536 ≡ b → (if b then 2 else 5) ≤ 4 → w < 256 ^ (if b then 2 else 5)
    by_second true e f = below w 65536 e
    by_second false e f = absurd (omega (arith, f))

    by_first : (b : Bool) → nat_lt w 256 ≡ b → (if b then 1 else if nat_lt w 65536 then 2 else 5) ≤ 4
        → w < 256 ^ (if b then 1 else if nat_lt w 65536 then 2 else 5)
    by_first true e f = below w 256 e
    by_first false e f = by_second (nat_lt w 65536) refl f

-- the greatest value of so many bytes is one of them
pub most_fits : (w m : ℕ) → m ≤ most_in w → m < 256 ^ w
most_fits w m h = by_four (nat_le 4 w) refl h
  where
    wide : (k : ℕ) → nat_le k w ≡ true → 256 ^ k ≤ 256 ^ w
    wide k e = pow-le-pow_right (omega arith) (at_most k w e)

    by_one : (b : Bool) → nat_le 1 w ≡ b → m ≤ (if b then 255 else 0) → m < 256 ^ w
    by_one true e h = let k : 256 ≤ 256 ^ w = wide 1 e in omega (arith, h, k)
    by_one false e h = let k = one-le-pow w 256 (omega arith) in omega (arith, h, k)

    by_two : (b : Bool) → nat_le 2 w ≡ b → m ≤ (if b then 65535 else if nat_le 1 w then 255 else 0) → m < 256 ^ w
    by_two true e h = let k : 65536 ≤ 256 ^ w = wide 2 e in omega (arith, h, k)
    by_two false e h = by_one (nat_le 1 w) refl h

    by_three : (b : Bool) → nat_le 3 w ≡ b → m ≤ (if b then 16777215 else if nat_le 2 w then 65535 else if nat_le 1 w then 255 else 0) → m < 256 ^ w
    by_three true e h = let k : 16777216 ≤ 256 ^ w = wide 3 e in omega (arith, h, k)
    by_three false e h = by_two (nat_le 2 w) refl h

    by_four : (b : Bool) → nat_le 4 w ≡ b
        → m ≤ (if b then greatest else if nat_le 3 w then 16777215 else if nat_le 2 w then 65535 else if nat_le 1 w then 255 else 0) → m < 256 ^ w
    by_four true e h = let k : 4294967296 ≤ 256 ^ w = wide 4 e in omega (arith, h, k)
    by_four false e h = by_three (nat_le 3 w) refl h

pub fits_most_in : (w m : ℕ) → m < 256 ^ w → m ≤ greatest → m ≤ most_in w
fits_most_in w m h f = by_four (nat_le 4 w) refl
  where
    narrow : (k : ℕ) → nat_le (suc k) w ≡ false → 256 ^ w ≤ 256 ^ k
    narrow k e = let le = is_more (suc k) w e in pow-le-pow_right (omega arith) (omega (arith, le))

    by_one : (b : Bool) → nat_le 1 w ≡ b → nat_le 2 w ≡ false → m ≤ (if b then 255 else 0)
    by_one true e g = let k : 256 ^ w ≤ 256 = narrow 1 g in omega (arith, h, k)
    by_one false e g = let k : 256 ^ w ≤ 1 = narrow 0 e in omega (arith, h, k)

    by_two : (b : Bool) → nat_le 2 w ≡ b → nat_le 3 w ≡ false → m ≤ (if b then 65535 else if nat_le 1 w then 255 else 0)
    by_two true e g = let k : 256 ^ w ≤ 65536 = narrow 2 g in omega (arith, h, k)
    by_two false e g = by_one (nat_le 1 w) refl e

    by_three : (b : Bool) → nat_le 3 w ≡ b → nat_le 4 w ≡ false
        → m ≤ (if b then 16777215 else if nat_le 2 w then 65535 else if nat_le 1 w then 255 else 0)
    by_three true e g = let k : 256 ^ w ≤ 16777216 = narrow 3 g in omega (arith, h, k)
    by_three false e g = by_two (nat_le 2 w) refl e

    by_four : (b : Bool) → nat_le 4 w ≡ b
        → m ≤ (if b then greatest else if nat_le 3 w then 16777215 else if nat_le 2 w then 65535 else if nat_le 1 w then 255 else 0)
    by_four true e = f
    by_four false e = by_three (nat_le 3 w) refl e

-- a local has at most four bytes
pub local_small : (o : List ℕ) (ls : List LocalState) (x v : ℕ) → AllByRecursion IsWidth o → Holds o ls → local ls x ≡ Some v → v ≤ greatest
local_small o ls x v ws h e =
    let few = few_bytes o x ws in
    let k : 256 ^ get_or o x 0 ≤ 4294967296 = pow-le-pow_right (omega arith) few in
    let g = held_value o ls x v 0 h e in omega (arith, k, g)

-- what a local gets is no more than what it is given
pub gets_most : (o : List ℕ) (ls : List LocalState) (x z m v : ℕ) → AllByRecursion IsWidth o → Holds o ls → ((v : ℕ) → v ≤ z → v ≤ greatest → v ≤ m)
    → local (with_local ls x z) x ≡ Some v → v ≤ m
gets_most o ls x z m v ws h top e =
    let same = own_value o ls x z v 0 h e in
    let less = mod-le z (256 ^ get_or o x 0) in
    let few = few_bytes o x ws in
    let k : 256 ^ get_or o x 0 ≤ 4294967296 = pow-le-pow_right (omega arith) few in
    let below = low_below (get_or o x 0) z in
    top v (omega (arith, same, less)) (omega (arith, same, k, below))

-- ---- what is known of two states

abbrev pub Twinned : List Twin → (older newer : State) → Type 0
Twinned ts s u = (x : ℕ) (h : Operand) (v : ℕ) → is_twin ts x h ≡ true → value (Local x) s ≡ Some v → value h u ≡ Some v

abbrev pub Filled : List ℕ → State → Type 0
Filled xs s = (x v : ℕ) → is_filled xs x ≡ true → value (Local x) s ≡ Some v → v ≢ 0

-- the newer code has what the older code would compute
pub record IsThere (w : Worked) (s u : State) : Type 0 where
  pub has : (x y v : ℕ) → value w.left s ≡ Some x → value w.right s ≡ Some y → computed w.operator w.width x y ≡ Some v → value (Local w.home) u ≡ Some v

abbrev pub AreThere : List Worked → (older newer : State) → Type 0
AreThere ws s u = AllByRecursion (λ w. IsThere w s u) ws

there_as : (op op' : Operator) (k k' : ℕ) (l l' r r' : Operand) (h h' : ℕ) (s u : State) → op ≡ op' → k ≡ k' → l ≡ l' → r ≡ r' → h ≡ h'
    → IsThere (record { operator = op; width = k; left = l; right = r; home = h }) s u
    → IsThere (record { operator = op'; width = k'; left = l'; right = r'; home = h' }) s u
there_as op op' k k' l l' r r' h h' s u eo ek el er eh t =
    subst (λ z. IsThere (record { operator = op'; width = k'; left = l'; right = r'; home = z }) s u) eh
    (subst (λ z. IsThere (record { operator = op'; width = k'; left = l'; right = z; home = h }) s u) er
    (subst (λ z. IsThere (record { operator = op'; width = k'; left = z; right = r; home = h }) s u) el
    (subst (λ z. IsThere (record { operator = op'; width = z; left = l; right = r; home = h }) s u) ek
    (subst (λ z. IsThere (record { operator = z; width = k; left = l; right = r; home = h }) s u) eo t))))

pub same_there : (x w : Worked) (s u : State) → same_worked x w ≡ true → IsThere x s u → IsThere w s u
same_there x w s u e t =
    let z0 = and_parts (same_operator x.operator w.operator && (x.width == w.width) && same_home x.left w.left && same_home x.right w.right) (x.home == w.home) e in
    let z1 = and_parts (same_operator x.operator w.operator && (x.width == w.width) && same_home x.left w.left) (same_home x.right w.right) z0.0 in
    let z2 = and_parts (same_operator x.operator w.operator && (x.width == w.width)) (same_home x.left w.left) z1.0 in
    let z3 = and_parts (same_operator x.operator w.operator) (x.width == w.width) z2.0 in
    there_as x.operator w.operator x.width w.width x.left w.left x.right w.right x.home w.home s u (same_operator_is x.operator w.operator z3.0)
    (same_number x.width w.width z3.1) (same_home_is x.left w.left z2.1) (same_home_is x.right w.right z1.1) (same_number x.home w.home z0.1) t

pub there_for : (ws : List Worked) (w : Worked) (s u : State) → AreThere ws s u → is_worked ws w ≡ true → IsThere w s u
there_for [] w s u h e = no e
there_for (x ∷ xs) w s u (g, h) e = by_first (same_worked x w) refl e (λ f. there_for xs w s u h f)
  where
    by_first : (b : Bool) → same_worked x w ≡ b → (if b then true else is_worked xs w) ≡ true → (is_worked xs w ≡ true → IsThere w s u) → IsThere w s u
    by_first true f e more = same_there x w s u f g
    by_first false f e more = more e

-- what was found for a computation is its result
pub found_there : (ws : List Worked) (c : Computation) (w : Worked) (s u : State) (x y v : ℕ) → AreThere ws s u → found_for ws c ≡ Some w
    → value c.left s ≡ Some x → value c.right s ≡ Some y → computed c.operator c.width x y ≡ Some v → value (Local w.home) u ≡ Some v
found_there [] c w s u x y v h e f k q = absurd (none-some w e)
found_there (a ∷ ws) c w s u x y v (g, h) e f k q = by_first (is_of a c) refl e (λ i. found_there ws c w s u x y v h i f k q)
  where
    here : is_of a c ≡ true → value (Local a.home) u ≡ Some v
    here i =
        let z0 = and_parts (same_operator a.operator c.operator && (a.width == c.width) && same_home a.left c.left) (same_home a.right c.right) i in
        let z1 = and_parts (same_operator a.operator c.operator && (a.width == c.width)) (same_home a.left c.left) z0.0 in
        let z2 = and_parts (same_operator a.operator c.operator) (a.width == c.width) z1.0 in
        g.has x y v (ap (λ z. value z s) (same_home_is a.left c.left z1.1) ∙ f) (ap (λ z. value z s) (same_home_is a.right c.right z0.1) ∙ k)
        (ap (λ z. computed z a.width x y) (same_operator_is a.operator c.operator z2.0)
        ∙ (ap (λ z. computed c.operator z x y) (same_number a.width c.width z2.1) ∙ q))

    by_first : (b : Bool) → is_of a c ≡ b → (if b then Some a else found_for ws c) ≡ Some w
        → (found_for ws c ≡ Some w → value (Local w.home) u ≡ Some v) → value (Local w.home) u ≡ Some v
    by_first true i e more = subst (λ z. value (Local z.home) u ≡ Some v) (same_Some a w e) (here i)
    by_first false i e more = more e

-- a local has at most so much
abbrev pub HasAtMost : Bound → State → Type 0
HasAtMost b s = (v : ℕ) → value (Local b.local) s ≡ Some v → v ≤ b.most

abbrev pub AreBounded : List Bound → State → Type 0
AreBounded bs s = AllByRecursion (λ b. HasAtMost b s) bs

pub bounded_by : (bs : List Bound) (b : Bound) (s : State) → AreBounded bs s → is_bounded bs b ≡ true → HasAtMost b s
bounded_by [] b s h e = no e
bounded_by (k ∷ ks) b s (g, h) e = by_first (k.local == b.local) refl e (λ f. bounded_by ks b s h f)
  where
    by_first : (t : Bool) → (k.local == b.local) ≡ t → (if t then nat_le k.most b.most else is_bounded ks b) ≡ true
        → (is_bounded ks b ≡ true → HasAtMost b s) → HasAtMost b s
    by_first true f e more =
        λ v q.
        let le = at_most k.most b.most e in
        let h = g v (ap (λ y. local s.locals y) (same_number k.local b.local f) ∙ q) in omega (arith, h, le)
    by_first false f e more = more e

most_known_holds : (d : ℕ) (bs : List Bound) (x v : ℕ) (s : State) → AreBounded bs s → value (Local x) s ≡ Some v → v ≤ d → v ≤ most_known d bs x
most_known_holds d [] x v s h e f = f
most_known_holds d (b ∷ bs) x v s (g, h) e f = by_first (b.local == x) refl (most_known_holds d bs x v s h e f)
  where
    by_first : (t : Bool) → (b.local == x) ≡ t → v ≤ most_known d bs x → v ≤ (if t then b.most else most_known d bs x)
    by_first true k more = g v (ap (λ y. local s.locals y) (same_number b.local x k) ∙ e)
    by_first false k more = more

-- an operand has no more than is known
pub most_holds : (o : List ℕ) (bs : List Bound) (h : Operand) (v : ℕ) (s : State) → AllByRecursion IsWidth o → Holds o s.locals → AreBounded bs s
    → value h s ≡ Some v → v ≤ most_of o bs h
most_holds o bs (Local x) v s ws held b e =
    most_known_holds (most_in (get_or o x 4)) bs x v s b e
    (fits_most_in (get_or o x 4) v (held_value o s.locals x v 4 held e) (local_small o s.locals x v ws held e))
most_holds o bs (Known w) v s ws held b e = let same = same_Some w v e in omega (arith, same)

-- what every step keeps
pub record Steady (o n : List ℕ) (s u : State) : Type 0 where
  pub held : Holds o s.locals
  pub held_too : Holds n u.locals
  pub bytes : AreBytes s.ram

-- what is known at a place holds of both states
pub record Agree (o n : List ℕ) (a : Facts) (s u : State) : Type 0 where
  pub reached : a.reached ≡ true
  pub twins : Twinned a.twins s u
  pub filled : Filled a.filled s
  pub worked : AreThere a.worked s u
  pub bounded : AreBounded a.bounds s
  pub waiting : u.waiting ≡ s.waiting
  pub ram : u.ram ≡ s.ram
  pub steady : Steady o n s u

pub stands : (ts : List Twin) (s u : State) → Twinned ts s u → (a b : Operand) (v : ℕ) → stands_for ts a b ≡ true → value a s ≡ Some v → value b u ≡ Some v
stands ts s u t (Local i) b v e f = t i b v e f
stands ts s u t (Known w) b v e f = subst (λ h. value h u ≡ Some v) (same_home_is (Known w) b e) f

-- ---- what a change leaves

pub record Changed (n : List ℕ) (a : Facts) (c : Change) (s u s1 u1 : State) : Type 0 where
  pub old_kept : (x : ℕ) → is_it c.old x ≡ false → value (Local x) s1 ≡ value (Local x) s
  pub new_kept : (h : Operand) → overwrites c.new h ≡ false → value h u1 ≡ value h u
  pub gained : (x : ℕ) (h : Operand) (v : ℕ) → is_it c.old x ≡ true → gains n a.twins c.new c.gain h ≡ true → value (Local x) s1 ≡ Some v
      → value h u1 ≡ Some v
  pub filled : (x v : ℕ) → is_it c.filled x ≡ true → value (Local x) s1 ≡ Some v → v ≢ 0
  pub worked : (w : Worked) → c.worked ≡ Some w → IsThere w s1 u1
  pub bounded : (x v : ℕ) → is_it c.old x ≡ true → value (Local x) s1 ≡ Some v → v ≤ c.most
  pub waiting : u1.waiting ≡ s1.waiting
  pub ram : u1.ram ≡ s1.ram

twin_behind : (n : List ℕ) (bs : List Twin) (c : Change) (ts : List Twin) (x : ℕ) (h : Operand) → twins_last n bs c ts ≡ true → is_twin ts x h ≡ true
    → twin_lasts n bs c (record { local = x; home = h }) ≡ true
twin_behind n bs c [] x h e f = no f
twin_behind n bs c (t ∷ ts) x h e f =
    by_first ((t.local == x) && same_home t.home h) refl f
    (λ g. twin_behind n bs c ts x h (and_parts (twin_lasts n bs c t) (twins_last n bs c ts) e).1 g)
  where
    by_first : (b : Bool) → ((t.local == x) && same_home t.home h) ≡ b → (if b then true else is_twin ts x h) ≡ true
        → (is_twin ts x h ≡ true → twin_lasts n bs c (record { local = x; home = h }) ≡ true)
        → twin_lasts n bs c (record { local = x; home = h }) ≡ true
    by_first true g f more =
        let z = and_parts (t.local == x) (same_home t.home h) g in
        subst (λ k. twin_lasts n bs c (record { local = x; home = k }) ≡ true) (same_home_is t.home h z.1)
        (subst (λ y. twin_lasts n bs c (record { local = y; home = t.home }) ≡ true) (same_number t.local x z.0)
        (and_parts (twin_lasts n bs c t) (twins_last n bs c ts) e).0)
    by_first false g f more = more f

filled_behind : (bs : List ℕ) (c : Change) (xs : List ℕ) (x : ℕ) → all_stay_filled bs c xs ≡ true → is_filled xs x ≡ true → stays_filled bs c x ≡ true
filled_behind bs c [] x e f = no f
filled_behind bs c (y ∷ xs) x e f =
    by_first (y == x) refl f (λ g. filled_behind bs c xs x (and_parts (stays_filled bs c y) (all_stay_filled bs c xs) e).1 g)
  where
    by_first : (b : Bool) → (y == x) ≡ b → (if b then true else is_filled xs x) ≡ true → (is_filled xs x ≡ true → stays_filled bs c x ≡ true)
        → stays_filled bs c x ≡ true
    by_first true g f more = subst (λ k. stays_filled bs c k ≡ true) (same_number y x g) (and_parts (stays_filled bs c y) (all_stay_filled bs c xs) e).0
    by_first false g f more = more f

worked_kept : (n : List ℕ) (a : Facts) (c : Change) (s u s1 u1 : State) (ws : List Worked) → Changed n a c s u s1 u1 → AreThere a.worked s u
    → all_stay_worked a.worked c ws ≡ true → AreThere ws s1 u1
worked_kept n a c s u s1 u1 [] ch h e = tt {0}
worked_kept n a c s u s1 u1 (w ∷ ws) ch h e =
    let z = and_parts (stays_worked a.worked c w) (all_stay_worked a.worked c ws) e in
    (by_new c.worked refl (is_new c.worked w) refl z.0, worked_kept n a c s u s1 u1 ws ch h z.1)
  where
    new_there : (o : Option Worked) → c.worked ≡ o → is_new o w ≡ true → IsThere w s1 u1
    new_there (Some x) q f = same_there x w s1 u1 f (ch.worked x q)
    new_there None q f = no f

    operand_kept : (x : Operand) → not (overwrites c.old x) ≡ true → value x s1 ≡ value x s
    operand_kept (Local i) f = ch.old_kept i (other c.old i f)
      where
        other : (o : Option ℕ) (i : ℕ) → not (overwrites o (Local i)) ≡ true → is_it o i ≡ false
        other (Some y) i f = not-true (y == i) f
        other None i f = refl
    operand_kept (Known k) f = refl

    by_new : (o : Option Worked) → c.worked ≡ o → (b : Bool) → is_new c.worked w ≡ b
        → (if b then true else is_worked a.worked w && not (overwrites c.old w.left) && not (overwrites c.old w.right) && not (overwrites c.new (Local w.home)))
        ≡ true → IsThere w s1 u1
    by_new o q true k f = new_there c.worked refl k
    by_new o q false k f =
        let z0 = and_parts (is_worked a.worked w && not (overwrites c.old w.left) && not (overwrites c.old w.right)) (not (overwrites c.new (Local w.home))) f in
        let z1 = and_parts (is_worked a.worked w && not (overwrites c.old w.left)) (not (overwrites c.old w.right)) z0.0 in
        let z2 = and_parts (is_worked a.worked w) (not (overwrites c.old w.left)) z1.0 in
        record {
          has =
              λ x y v el er q. ch.new_kept (Local w.home) (not-true (overwrites c.new (Local w.home)) z0.1)
              ∙ (there_for a.worked w s u h z2.0).has x y v (sym (operand_kept w.left z2.1) ∙ el) (sym (operand_kept w.right z1.1) ∙ er) q;
        }

bounded_kept : (n : List ℕ) (a : Facts) (c : Change) (s u s1 u1 : State) (bs : List Bound) → Changed n a c s u s1 u1 → AreBounded a.bounds s
    → all_stay_bounded a.bounds c bs ≡ true → AreBounded bs s1
bounded_kept n a c s u s1 u1 [] ch h e = tt {0}
bounded_kept n a c s u s1 u1 (b ∷ bs) ch h e =
    let z = and_parts (stays_bounded a.bounds c b) (all_stay_bounded a.bounds c bs) e in
    (by_old (is_it c.old b.local) refl z.0, bounded_kept n a c s u s1 u1 bs ch h z.1)
  where
    by_old : (t : Bool) → is_it c.old b.local ≡ t → (if t then nat_le c.most b.most else is_bounded a.bounds b) ≡ true → HasAtMost b s1
    by_old true k f = λ v q. let le = at_most c.most b.most f in let g = ch.bounded b.local v k q in omega (arith, g, le)
    by_old false k f = λ v q. bounded_by a.bounds b s h f v (sym (ch.old_kept b.local k) ∙ q)

-- what is known behind an instruction holds of both states behind it
pub behind : (o n : List ℕ) (a b : Facts) (c : Change) (s u s1 u1 : State) → leads n a c b ≡ true → Agree o n a s u → Changed n a c s u s1 u1
    → Steady o n s1 u1 → Agree o n b s1 u1
behind o n a b c s u s1 u1 e g ch st =
    record {
      reached = (and_parts b.reached (twins_last n a.twins c b.twins) both).0;
      twins = twins;
      filled = filled;
      worked = worked_kept n a c s u s1 u1 b.worked ch g.worked parts.1;
      bounded = bounded_kept n a c s u s1 u1 b.bounds ch g.bounded whole.1;
      waiting = ch.waiting;
      ram = ch.ram;
      steady = st;
    }
  where
    whole : ((b.reached && twins_last n a.twins c b.twins && all_stay_filled a.filled c b.filled && all_stay_worked a.worked c b.worked) ≡ true)
        × (all_stay_bounded a.bounds c b.bounds ≡ true)
    whole = and_parts (b.reached && twins_last n a.twins c b.twins && all_stay_filled a.filled c b.filled && all_stay_worked a.worked c b.worked) _ e

    parts : ((b.reached && twins_last n a.twins c b.twins && all_stay_filled a.filled c b.filled) ≡ true) × (all_stay_worked a.worked c b.worked ≡ true)
    parts = and_parts (b.reached && twins_last n a.twins c b.twins && all_stay_filled a.filled c b.filled) (all_stay_worked a.worked c b.worked) whole.0

    both : (b.reached && twins_last n a.twins c b.twins) ≡ true
    both = (and_parts (b.reached && twins_last n a.twins c b.twins) (all_stay_filled a.filled c b.filled) parts.0).0

    by_old : (x : ℕ) (h : Operand) (v : ℕ) (z : Bool) → is_it c.old x ≡ z
        → (if z then gains n a.twins c.new c.gain h else is_twin a.twins x h && not (overwrites c.new h)) ≡ true
        → value (Local x) s1 ≡ Some v → value h u1 ≡ Some v
    by_old x h v true k f q = ch.gained x h v k f q
    by_old x h v false k f q =
        let z = and_parts (is_twin a.twins x h) (not (overwrites c.new h)) f in
        ch.new_kept h (not-true (overwrites c.new h) z.1) ∙ g.twins x h v z.0 (sym (ch.old_kept x k) ∙ q)

    twins : Twinned b.twins s1 u1
    twins x h v f q =
        by_old x h v (is_it c.old x) refl
        (twin_behind n a.twins c b.twins x h (and_parts b.reached (twins_last n a.twins c b.twins) both).1 f) q

    by_filled : (x v : ℕ) (z : Bool) → is_it c.filled x ≡ z → (if z then true else is_filled a.filled x && not (is_it c.old x)) ≡ true
        → value (Local x) s1 ≡ Some v → v ≢ 0
    by_filled x v true k f q = ch.filled x v k q
    by_filled x v false k f q =
        let z = and_parts (is_filled a.filled x) (not (is_it c.old x)) f in
        g.filled x v z.0 (sym (ch.old_kept x (not-true (is_it c.old x) z.1)) ∙ q)

    filled : Filled b.filled s1
    filled x v f q =
        by_filled x v (is_it c.filled x) refl
        (filled_behind a.filled c b.filled x (and_parts (b.reached && twins_last n a.twins c b.twins) (all_stay_filled a.filled c b.filled) parts.0).1 f) q
