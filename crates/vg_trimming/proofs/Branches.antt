-- Branches: where one stands for another one, both tests say the same, and what they say of a local is known behind them.
use Rattle.std.specs.Prelude.{◌≢◌, ℕ, ◌-◌, ◌*◌, ◌/◌, ◌<◌, ◌≤◌, ◌^◌, Bool, true, false, ◌==◌, ◌&&◌, not, nat_lt, nat_le, List}
use Rattle.std.specs.Prelude.{Option, Some, None, pos, negsuc, int_lt, get_or, if◌then◌else◌}
use Rattle.std.proofs.Common.{◌≡◌, refl, sym, ap, ◌∙◌, arith, inl, inr, ◌⊎◌}
use Rattle.std.proofs.Math.Nat.{mod-le, div-mul-le_self}
use Rattle.std.proofs.lemmas.Bool.{and_parts, or_cases, false_from_ne_true, eq-eqb, both_ways, lt-ltb}
use Rattle.std.proofs.lemmas.Option.{same_Some, none-some}
use Rattle.vg_lin.specs.declared.instr.Operand.{Operand}
use Rattle.vg_lin.specs.declared.instr.Operand.TheVariants.{Local, Known}
use Rattle.vg_lin.specs.declared.instr.Comparison.{Comparison}
use Rattle.vg_lin.specs.declared.instr.Comparison.TheVariants.{Below, Less, Same}
use Rattle.vg_lin.specs.declared.instr.Test.{Test}
use Rattle.vg_lin.specs.Values.{low, signed, compared}
use Rattle.vg_lin.specs.Program.{Procedure}
use Rattle.vg_lin.specs.Sound.{IsTest, IsSound}
use Rattle.vg_lin.specs.State.{State, value, both, holds}
use Rattle.vg_trimming.specs.declared.facts.Bound.{Bound}
use Rattle.vg_trimming.specs.declared.facts.Facts.{Facts}
use Rattle.vg_trimming.specs.declared.facts.Learned.{Learned}
use Rattle.vg_trimming.specs.Facts.{is_filled, bytes_of, stands_for, is_it, most_in, most_of}
use Rattle.vg_trimming.specs.Trimming.{same_comparison, is_signed, sees_as_much, says_same, sees_most, sees_so, same_test, filled_in, never_less, is_greater}
use Rattle.vg_trimming.specs.Trimming.{always_less, never_holds, always_holds}
use Rattle.vg_trimming.specs.Walking.{checked, tells_less, none_learned, bound_of, bound_met, bound_unmet, learned_met, learned_unmet}
use Rattle.vg_trimming.proofs.Homes.{no, same_number, at_most, most_fits, most_holds, local, held_value, low_small, fits_bytes, HasAtMost, Agree, stands}
use Rattle.vg_trimming.proofs.Places.{same_comparison_is}

-- ---- what a test says of a local that it compares with 0

-- a local that is not the same as 0 is not 0
pub not_zero : (c : Comparison) (w : ℕ) (l r : Operand) (s : State) (x v : ℕ)
    → holds (record { comparison = c; width = w; left = l; right = r }) s ≡ Some false
    → is_it (checked (record { comparison = c; width = w; left = l; right = r })) x ≡ true → value (Local x) s ≡ Some v → v ≢ 0
not_zero Same w (Local y) (Known k) s x v h e q = by_known (k == 0) refl e
  where
    is_zero : k ≡ 0 → y ≡ x → v ≡ 0 → ⊥
    is_zero ek ey ev =
        both_ways (low w 0 == low w 0)
        (same_Some _ false (sym (ap (λ o. both o (Some 0) (compared Same w)) (ap (local s.locals) ey ∙ (q ∙ ap Some ev)))
        ∙ (ap (λ k. both (local s.locals y) (Some k) (compared Same w)) (sym ek) ∙ h)))
        (eq-eqb (low w 0) (low w 0) refl)

    by_known : (b : Bool) → (k == 0) ≡ b → is_it (if b then Some y else None) x ≡ true → v ≢ 0
    by_known true ek e = is_zero (same_number k 0 ek) (same_number y x e)
    by_known false ek e = no e
not_zero _ w l r s x v h e q = no e

-- a local that is not 0, and that the test sees whole, is not the same as 0
pub not_same : (c : Comparison) (w : ℕ) (l r : Operand) (o xs : List ℕ) (s : State)
    → filled_in o xs w (checked (record { comparison = c; width = w; left = l; right = r })) ≡ true
    → ((x v d : ℕ) → is_filled xs x ≡ true → value (Local x) s ≡ Some v → (v ≢ 0) × (v < 256 ^ get_or o x d))
    → (b : Bool) → holds (record { comparison = c; width = w; left = l; right = r }) s ≡ Some b → b ≡ false
not_same Same w (Local y) (Known k) o xs s e f b h = by_known (k == 0) refl e
  where
    with_value : (v : ℕ) → k ≡ 0 → v ≢ 0 → v < 256 ^ get_or o y 5 → get_or o y 5 ≤ w → (low w v == low w k) ≡ b → b ≡ false
    with_value v ek nz small wide q =
        false_from_ne_true b (λ t. nz (sym (low_small w v (get_or o y 5) small wide) ∙ (same_number (low w v) (low w k) (q ∙ t)
        ∙ (ap (low w) ek ∙ low_small w 0 0 (omega arith) (omega arith)))))

    by_value : (a : Option ℕ) → local s.locals y ≡ a → k ≡ 0 → is_filled xs y ≡ true → get_or o y 5 ≤ w
        → both a (Some k) (compared Same w) ≡ Some b → b ≡ false
    by_value (Some v) g ek fl wide q = let z = f y v 5 fl g in with_value v ek z.0 z.1 wide (same_Some _ b q)
    by_value None g ek fl wide q = absurd (none-some b q)

    by_known : (t : Bool) → (k == 0) ≡ t → filled_in o xs w (if t then Some y else None) ≡ true → b ≡ false
    by_known true ek e =
        let z = and_parts (is_filled xs y) (nat_le (get_or o y 5) w) e in
        by_value (local s.locals y) refl (same_number k 0 ek) z.0 (at_most (get_or o y 5) w z.1) h
    by_known false ek e = no e
not_same _ w l r o xs s e f b h = no e

-- ---- which of two values is less

below : (x y : ℕ) → nat_lt x y ≡ true → x < y
below x y e = grind arith

not_below : (x y : ℕ) → nat_lt x y ≡ false → y ≤ x
not_below x y e = grind arith

none_below : (x y : ℕ) → y ≡ 0 → nat_lt x y ≡ false
none_below x y e = grind arith

unsigned : (x y : ℕ) → int_lt (pos x) (pos y) ≡ nat_lt x y
unsigned x y = grind arith

-- a value that is not negative
not_negative : (w a x : ℕ) → x ≤ a → nat_le a (most_in w / 2) ≡ true → signed w x ≡ pos (low w x)
not_negative w a x h e =
    ap (λ t. if t then pos (low w x) else negsuc (256 ^ w - 1 - low w x))
    (lt-ltb (2 * low w x) (256 ^ w)
    (let k = at_most a (most_in w / 2) e in
    let half = div-mul-le_self (most_in w) 2 in
    let less = mod-le x (256 ^ w) in most_fits w (2 * low w x) (omega (arith, h, k, half, less))))

less_told : (c : Comparison) (w a b x y : ℕ) → x ≤ a → y ≤ b → tells_less c w a b ≡ true → compared c w x y ≡ nat_lt (low w x) (low w y)
less_told Below w a b x y h g e = refl
less_told Less w a b x y h g e =
    let k = and_parts (nat_le a (most_in w / 2)) (nat_le b (most_in w / 2)) e in
    ap (λ z. int_lt z (signed w y)) (not_negative w a x h k.0)
    ∙ (ap (λ z. int_lt (pos (low w x)) z) (not_negative w b y g k.1) ∙ unsigned (low w x) (low w y))
less_told Same w a b x y h g e = no e

-- a value that is seen whole
whole : (w m x : ℕ) → x ≤ m → m ≤ most_in w → low w x ≡ x
whole w m x h g = low_small w x w (most_fits w x (omega (arith, h, g))) (omega arith)

-- ---- how a test comes out

-- both operands have values, and the comparison says so
abbrev Sees : Test → State → Bool → Type 0
Sees t s r = (x : ℕ) × (y : ℕ) × (value t.left s ≡ Some x) × (value t.right s ≡ Some y) × (compared t.comparison t.width x y ≡ r)

sees : (t : Test) (s : State) (r : Bool) → holds t s ≡ Some r → Sees t s r
sees t s r e = by_left (value t.left s) refl e
  where
    by_right : (x : ℕ) → value t.left s ≡ Some x → (o : Option ℕ) → value t.right s ≡ o → both (Some x) o (compared t.comparison t.width) ≡ Some r
        → Sees t s r
    by_right x ex (Some y) ey e = (x, y, ex, ey, same_Some (compared t.comparison t.width x y) r e)
    by_right x ex None ey e = absurd (none-some r e)

    by_left : (o : Option ℕ) → value t.left s ≡ o → both o (value t.right s) (compared t.comparison t.width) ≡ Some r → Sees t s r
    by_left (Some x) ex e = by_right x ex (value t.right s) refl e
    by_left None ex e = absurd (none-some r e)

abbrev pub HasTold : Option Bound → State → Type 0
HasTold None s = Unit {0}
HasTold (Some b) s = HasAtMost b s

told_of : (l : Operand) (m : ℕ) (s : State) → ((v : ℕ) → value l s ≡ Some v → v ≤ m) → HasTold (bound_of l m) s
told_of (Local x) m s h = h
told_of (Known v) m s h = tt {0}

module _ (t : Test) (s : State) (a b : ℕ) (h : (v : ℕ) → value t.left s ≡ Some v → v ≤ a) (g : (v : ℕ) → value t.right s ≡ Some v → v ≤ b) where
  abbrev w : ℕ
  w = t.width

  met_told : holds t s ≡ Some true → HasTold (bound_met t a b) s
  met_told e = by_test (tells_less t.comparison w a b && nat_le a (most_in w)) refl
    where
      less : (tells_less t.comparison w a b && nat_le a (most_in w)) ≡ true → (v : ℕ) → value t.left s ≡ Some v → Sees t s true → v ≤ b - 1
      less k v q (x, y, ex, ey, c) =
          let z = and_parts (tells_less t.comparison w a b) (nat_le a (most_in w)) k in
          let same = same_Some v x (sym q ∙ ex) in
          let lt = below (low w x) (low w y) (sym (less_told t.comparison w a b x y (h x ex) (g y ey) z.0) ∙ c) in
          let all = whole w a x (h x ex) (at_most a (most_in w) z.1) in
          let part = mod-le y (256 ^ w) in
          let top = g y ey in omega (arith, same, lt, all, part, top)

      by_test : (k : Bool) → (tells_less t.comparison w a b && nat_le a (most_in w)) ≡ k → HasTold (if k then bound_of t.left (b - 1) else None) s
      by_test true k = told_of t.left (b - 1) s (λ v q. less k v q (sees t s true e))
      by_test false k = tt {0}

  unmet_told : holds t s ≡ Some false → HasTold (bound_unmet t a b) s
  unmet_told e = by_test (tells_less t.comparison w a b && nat_le b (most_in w)) refl
    where
      no_more : (tells_less t.comparison w a b && nat_le b (most_in w)) ≡ true → (v : ℕ) → value t.right s ≡ Some v → Sees t s false → v ≤ a
      no_more k v q (x, y, ex, ey, c) =
          let z = and_parts (tells_less t.comparison w a b) (nat_le b (most_in w)) k in
          let same = same_Some v y (sym q ∙ ey) in
          let le = not_below (low w x) (low w y) (sym (less_told t.comparison w a b x y (h x ex) (g y ey) z.0) ∙ c) in
          let all = whole w b y (g y ey) (at_most b (most_in w) z.1) in
          let part = mod-le x (256 ^ w) in
          let top = h x ex in omega (arith, same, le, all, part, top)

      by_test : (k : Bool) → (tells_less t.comparison w a b && nat_le b (most_in w)) ≡ k → HasTold (if k then bound_of t.right a else None) s
      by_test true k = told_of t.right a s (λ v q. no_more k v q (sees t s false e))
      by_test false k = tt {0}

  never_so : never_less t a b ≡ true → (r : Bool) → holds t s ≡ Some r → r ≡ false
  never_so k r e = by_values (sees t s r e)
    where
      by_values : Sees t s r → r ≡ false
      by_values (x, y, ex, ey, c) =
          let z = and_parts (tells_less t.comparison w a b) (b == 0) k in
          let none = same_number b 0 z.1 in
          let part = mod-le y (256 ^ w) in
          let top = g y ey in
          sym c ∙ (less_told t.comparison w a b x y (h x ex) (g y ey) z.0 ∙ none_below (low w x) (low w y) (omega (arith, none, part, top)))

  always_so : always_less t a b ≡ true → (r : Bool) → holds t s ≡ Some r → r ≡ true
  always_so k r e = by_values (sees t s r e)
    where
      z : (tells_less t.comparison w a b ≡ true) × (is_greater t.right a w ≡ true)
      z = and_parts (tells_less t.comparison w a b) (is_greater t.right a w) k

      is_less : (x y : ℕ) (d : Operand) → x ≤ a → value d s ≡ Some y → is_greater d a w ≡ true → nat_lt (low w x) (low w y) ≡ true
      is_less x y (Known n) le ey f =
          let i = and_parts (nat_lt a n) (nat_le n (most_in w)) f in
          let lt = below a n i.0 in
          let same = same_Some n y ey in
          let all = whole w n y (omega (arith, same)) (at_most n (most_in w) i.1) in
          let part = mod-le x (256 ^ w) in lt-ltb (low w x) (low w y) (omega (arith, le, lt, same, all, part))
      is_less x y (Local i) le ey f = no f

      by_values : Sees t s r → r ≡ true
      by_values (x, y, ex, ey, c) =
          sym c ∙ (less_told t.comparison w a b x y (h x ex) (g y ey) z.0 ∙ is_less x y t.right (h x ex) ey z.1)

-- what a branch tells holds
pub record Learns (f : Learned) (s : State) : Type 0 where
  pub filled : (x v : ℕ) → is_it f.filled x ≡ true → value (Local x) s ≡ Some v → v ≢ 0
  pub told : HasTold f.bound s

pub learns_none : (s : State) → Learns none_learned s
learns_none s = record { filled = λ x v e. no e; told = tt {0} }

-- ---- tests

-- fewer bytes say the same of values of at most so much
says_so : (c c' : Comparison) (w v a b x y : ℕ) → v ≤ w → x ≤ a → y ≤ b → a ≤ most_in v → b ≤ most_in v → says_same c c' w a b ≡ true
    → compared c w x y ≡ compared c' v x y
says_so c c' w v a b x y le h g ka kb e = by_both c c' e
  where
    small : (z m : ℕ) → z ≤ m → m ≤ most_in v → low w z ≡ low v z
    small z m h k =
        let fits = most_fits v z (omega (arith, h, k)) in low_small w z v fits le ∙ sym (low_small v z v fits (omega arith))

    by_less : nat_lt (low w x) (low w y) ≡ nat_lt (low v x) (low v y)
    by_less = ap (λ z. nat_lt z (low w y)) (small x a h ka) ∙ ap (λ z. nat_lt (low v x) z) (small y b g kb)

    by_both : (c c' : Comparison) → says_same c c' w a b ≡ true → compared c w x y ≡ compared c' v x y
    by_both Below Below e = by_less
    by_both Same Same e = ap (λ z. z == low w y) (small x a h ka) ∙ ap (λ z. low v x == z) (small y b g kb)
    by_both Less Below e = less_told Less w a b x y h g e ∙ by_less
    by_both _ _ e = no e

-- fewer bytes say the same of small values
sees_less : (c : Comparison) (w k x y d e : ℕ) → not (is_signed c) ≡ true → k ≤ w → d ≤ k → e ≤ k → x < 256 ^ d → y < 256 ^ e
    → compared c w x y ≡ compared c k x y
sees_less Below w k x y d e f h g i hx hy =
    ap (λ z. nat_lt z (low w y)) (low_small w x d hx (omega (arith, h, g)) ∙ sym (low_small k x d hx g))
    ∙ ap (λ z. nat_lt (low k x) z) (low_small w y e hy (omega (arith, h, i)) ∙ sym (low_small k y e hy i))
sees_less Same w k x y d e f h g i hx hy =
    ap (λ z. z == low w y) (low_small w x d hx (omega (arith, h, g)) ∙ sym (low_small k x d hx g))
    ∙ ap (λ z. low k x == z) (low_small w y e hy (omega (arith, h, i)) ∙ sym (low_small k y e hy i))
sees_less Less w k x y d e f h g i hx hy = no f

module _ (old now : Procedure) (sound : IsSound old) (a : Facts) (s u : State) (g : Agree old.widths now.widths a s u) where
  abbrev most : Operand → ℕ
  most h = most_of old.widths a.bounds h

  has_most : (h : Operand) (v : ℕ) → value h s ≡ Some v → v ≤ most h
  has_most h v e = most_holds old.widths a.bounds h v s sound.widths g.steady.held g.bounded e

  pub test_follows : (t t' : Test) → IsTest now t' → same_test old.widths now.widths a t t' ≡ true → (b : Bool) → holds t s ≡ Some b → holds t' u ≡ Some b
  test_follows t t' h e b q = by_left (value t.left s) refl q
    where
      z0 : ((stands_for a.twins t.left t'.left && stands_for a.twins t.right t'.right) ≡ true)
          × (sees_so old.widths now.widths a.bounds t t' ≡ true)
      z0 = and_parts (stands_for a.twins t.left t'.left && stands_for a.twins t.right t'.right) _ e

      z1 : (stands_for a.twins t.left t'.left ≡ true) × (stands_for a.twins t.right t'.right ≡ true)
      z1 = and_parts (stands_for a.twins t.left t'.left) _ z0.0

      widths : (x y : ℕ) → value t'.left u ≡ Some x → value t'.right u ≡ Some y
          → ((t.width == t'.width) ≡ true)
          ⊎ ((not (is_signed t'.comparison) && nat_le t'.width t.width && nat_le (bytes_of now.widths t'.left) t'.width
          && nat_le (bytes_of now.widths t'.right) t'.width) ≡ true)
          → compared t'.comparison t.width x y ≡ compared t'.comparison t'.width x y
      widths x y ex ey (inl k) = ap (λ w. compared t'.comparison w x y) (same_number t.width t'.width k)
      widths x y ex ey (inr k) =
          let a0 = and_parts (not (is_signed t'.comparison) && nat_le t'.width t.width && nat_le (bytes_of now.widths t'.left) t'.width)
          (nat_le (bytes_of now.widths t'.right) t'.width) k in
          let a1 = and_parts (not (is_signed t'.comparison) && nat_le t'.width t.width) (nat_le (bytes_of now.widths t'.left) t'.width) a0.0 in
          let a2 = and_parts (not (is_signed t'.comparison)) (nat_le t'.width t.width) a1.0 in
          let left = at_most (bytes_of now.widths t'.left) t'.width a1.1 in
          let right = at_most (bytes_of now.widths t'.right) t'.width a0.1 in
          let few : t'.width ≤ 4 = h.0.1 in
          sees_less t'.comparison t.width t'.width x y (bytes_of now.widths t'.left) (bytes_of now.widths t'.right) a2.0
          (at_most t'.width t.width a2.1) left right
          (fits_bytes now.widths t'.left u x g.steady.held_too ex (omega (arith, left, few)))
          (fits_bytes now.widths t'.right u y g.steady.held_too ey (omega (arith, right, few)))

      said : (x y : ℕ) → value t.left s ≡ Some x → value t.right s ≡ Some y → value t'.left u ≡ Some x → value t'.right u ≡ Some y
          → ((same_comparison t.comparison t'.comparison && sees_as_much now.widths t t') ≡ true) ⊎ (sees_most t t' (most t.left) (most t.right) ≡ true)
          → compared t.comparison t.width x y ≡ compared t'.comparison t'.width x y
      said x y ex ey fx fy (inl k) =
          let i = and_parts (same_comparison t.comparison t'.comparison) (sees_as_much now.widths t t') k in
          ap (λ c. compared c t.width x y) (same_comparison_is t.comparison t'.comparison i.0)
          ∙ widths x y fx fy (or_cases (t.width == t'.width) _ i.1)
      said x y ex ey fx fy (inr k) =
          let i0 = and_parts (nat_le t'.width t.width && nat_le (most t.left) (most_in t'.width) && nat_le (most t.right) (most_in t'.width))
          (says_same t.comparison t'.comparison t.width (most t.left) (most t.right)) k in
          let i1 = and_parts (nat_le t'.width t.width && nat_le (most t.left) (most_in t'.width)) (nat_le (most t.right) (most_in t'.width)) i0.0 in
          let i2 = and_parts (nat_le t'.width t.width) (nat_le (most t.left) (most_in t'.width)) i1.0 in
          says_so t.comparison t'.comparison t.width t'.width (most t.left) (most t.right) x y (at_most t'.width t.width i2.0) (has_most t.left x ex)
          (has_most t.right y ey) (at_most (most t.left) (most_in t'.width) i2.1) (at_most (most t.right) (most_in t'.width) i1.1) i0.1

      by_values : (x y : ℕ) → value t.left s ≡ Some x → value t.right s ≡ Some y → Some (compared t.comparison t.width x y) ≡ Some b → holds t' u ≡ Some b
      by_values x y ex ey q =
          let fx = stands a.twins s u g.twins t.left t'.left x z1.0 ex in
          let fy = stands a.twins s u g.twins t.right t'.right y z1.1 ey in
          ap (λ k. both k (value t'.right u) (compared t'.comparison t'.width)) fx
          ∙ (ap (λ k. both (Some x) k (compared t'.comparison t'.width)) fy
          ∙ (ap Some (sym (said x y ex ey fx fy (or_cases (same_comparison t.comparison t'.comparison && sees_as_much now.widths t t') _ z0.1))) ∙ q))

      by_right : (x : ℕ) → value t.left s ≡ Some x → (k : Option ℕ) → value t.right s ≡ k → both (Some x) k (compared t.comparison t.width) ≡ Some b
          → holds t' u ≡ Some b
      by_right x ex (Some y) ey q = by_values x y ex ey q
      by_right x ex None ey q = absurd (none-some b q)

      by_left : (k : Option ℕ) → value t.left s ≡ k → both k (value t.right s) (compared t.comparison t.width) ≡ Some b → holds t' u ≡ Some b
      by_left (Some x) ex q = by_right x ex (value t.right s) refl q
      by_left None ex q = absurd (none-some b q)

  -- what a test says of its operands
  pub learns_met : (t : Test) → holds t s ≡ Some true → Learns (learned_met old.widths a.bounds t) s
  learns_met t e =
      record { filled = λ x v f. no f; told = met_told t s (most t.left) (most t.right) (has_most t.left) (has_most t.right) e }

  pub learns_unmet : (t : Test) → holds t s ≡ Some false → Learns (learned_unmet old.widths a.bounds t) s
  learns_unmet t e =
      record {
        filled = λ x v f q. not_zero t.comparison t.width t.left t.right s x v e f q;
        told = unmet_told t s (most t.left) (most t.right) (has_most t.left) (has_most t.right) e;
      }

  pub never : (t : Test) → never_holds old.widths a t ≡ true → (b : Bool) → holds t s ≡ Some b → b ≡ false
  never t e b h = by_way (or_cases (filled_in old.widths a.filled t.width (checked t)) _ e)
    where
      by_way : (filled_in old.widths a.filled t.width (checked t) ≡ true) ⊎ (never_less t (most t.left) (most t.right) ≡ true) → b ≡ false
      by_way (inl k) =
          not_same t.comparison t.width t.left t.right old.widths a.filled s k
          (λ x v d f q. (g.filled x v f q, held_value old.widths s.locals x v d g.steady.held q)) b h
      by_way (inr k) = never_so t s (most t.left) (most t.right) (has_most t.left) (has_most t.right) k b h

  pub always : (t : Test) → always_holds old.widths a t ≡ true → (b : Bool) → holds t s ≡ Some b → b ≡ true
  always t e b h = always_so t s (most t.left) (most t.right) (has_most t.left) (has_most t.right) e b h
