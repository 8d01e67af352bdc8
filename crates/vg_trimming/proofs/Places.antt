-- Plain instructions and branches: where one stands for another one, both do the same, and what is known behind them holds.
use Rattle.std.specs.Prelude.{ℕ, zero, suc, ◌+◌, ◌-◌, ◌*◌, ◌%◌, ◌<◌, ◌≤◌, ◌^◌, bit_and, bit_or, bit_xor, Bool, true, false, ◌==◌, ◌&&◌, ◌||◌, not, nat_le}
use Rattle.std.specs.Prelude.{List, [], ◌∷◌, length}
use Rattle.std.specs.Prelude.{Option, Some, None, get_or, if◌then◌else◌}
use Rattle.std.proofs.Common.{◌≡◌, refl, sym, ap, ◌∙◌, subst, arith, inl, inr, ◌⊎◌}
use Rattle.std.proofs.Common.{pow-add}
use Rattle.std.proofs.Math.Nat.{pow-suc, pow-le-pow_right, mod-mod_of_dvd, dvd-mul_right}
use Rattle.std.proofs.lemmas.Bool.{and_parts, or_cases, not-true}
use Rattle.std.proofs.lemmas.Option.{same_Some, none-some}
use Rattle.std.proofs.lemmas.Nat.{and_le_l, and_le_r, or_lt, xor_lt}
use Rattle.vg_meaning.specs.declared.event.Event.TheVariants.{Write}
use Rattle.vg_meaning.specs.Outside.{Outside, AreReads, with_event}
use Rattle.vg_codes.specs.Dispatch.{dispatched}
use Rattle.vg_lin.specs.declared.instr.Operand.{Operand}
use Rattle.vg_lin.specs.declared.instr.Operand.TheVariants.{Local, Known}
use Rattle.vg_lin.specs.declared.instr.Operator.{Operator}
use Rattle.vg_lin.specs.declared.instr.Operator.TheVariants.{Plus, Minus, Times, Divide, Remainder, And, Or, Xor, ShiftLeft, ShiftRight}
use Rattle.vg_lin.specs.declared.instr.Computation.{Computation}
use Rattle.vg_lin.specs.declared.instr.Comparison.{Comparison}
use Rattle.vg_lin.specs.declared.instr.Comparison.TheVariants.{Below, Less, Same}
use Rattle.vg_lin.specs.declared.instr.Memory.{Memory}
use Rattle.vg_lin.specs.declared.instr.Memory.TheVariants.{Ram, Flash}
use Rattle.vg_lin.specs.declared.instr.Plain.{Plain as PlainInstr}
use Rattle.vg_lin.specs.declared.instr.Plain.TheVariants.{Copy, Compute, Load, Store, ReadDevice, WriteDevice, Push, Pop, Find, CodeOf, Stop}
use Rattle.vg_lin.specs.Values.{low, computed}
use Rattle.vg_lin.specs.Steps.{Went, Goes, Raises, Lacks, Fails}
use Rattle.vg_lin.specs.Program.{Procedure, Program}
use Rattle.vg_lin.specs.Sound.{IsPlain, IsSound}
use Rattle.vg_lin.specs.State.{Waiting, State, value, using, with_local, sets, number_at, with_number, index_of, loaded, stores, pushes, pops_from}
use Rattle.vg_lin.specs.State.{reads_from, plain}
use Rattle.vg_trimming.specs.declared.facts.Facts.{Facts}
use Rattle.vg_trimming.specs.declared.facts.Gain.{Gain}
use Rattle.vg_trimming.specs.declared.facts.Gain.TheVariants.{Nothing, In, Copied}
use Rattle.vg_trimming.specs.declared.facts.Worked.{Worked}
use Rattle.vg_trimming.specs.declared.facts.Change.{Change}
use Rattle.vg_trimming.specs.Facts.{same_operator, found_for, bytes_of, stands_for, is_it, overwrites, gains, no_change}
use Rattle.vg_trimming.specs.Facts.{greatest, most_in, most_computed}
use Rattle.vg_trimming.specs.Trimming.{same_memory, same_plain, is_paired, gain_in, keeps_operands, worked_in, both_change, is_pure, left_out, is_stop}
use Rattle.vg_trimming.specs.Trimming.{most_given, has_bytes, fits_bounds}
use Rattle.vg_trimming.specs.Trimming.{same_comparison, fits_result, narrower, found_in, reused}
use Rattle.vg_trimming.specs.Runs.{AreBytes}
use Rattle.vg_trimming.proofs.Homes.{no, same_number, at_most, same_operator_is, local, own_value, gets_value, other_local, same_default, few_bytes}
use Rattle.vg_trimming.proofs.Homes.{gets_most, most_fits, fits_most_in, most_holds, low_small, fits_bytes, IsThere, found_there, Agree}
use Rattle.vg_trimming.proofs.Homes.{stands, same_home_is, Changed}
use Rattle.vg_trimming.proofs.Values.{computed_below, loaded_below}
use Rattle.vg_trimming.proofs.Bounds.{computed_most, computed_fewer}

-- ---- what two instructions do

-- both go on, or end in the same way; nothing is asked where the first one fails
pub data SameWent (C : State → State → Outside → Type 0) : Went State → Went State → Type 0 where
  both_go : (s1 u1 : State) (o1 : Outside) → C s1 u1 o1 → SameWent C (Goes s1 o1) (Goes u1 o1)
  both_raise : (code : ℕ) → SameWent C (Raises code) (Raises code)
  both_lack : (address : ℕ) → SameWent C (Lacks address) (Lacks address)
  wrong : (z : Went State) → SameWent C Fails z

using_same : (C : State → State → Outside → Type 0) (x y : Option ℕ) (go go' : ℕ → Went State) → ((v : ℕ) → x ≡ Some v → y ≡ Some v)
    → ((v : ℕ) → x ≡ Some v → y ≡ Some v → SameWent C (go v) (go' v)) → SameWent C (using x go) (using y go')
using_same C (Some v) y go go' f g = subst (λ k. SameWent C (go v) (using k go')) (sym (f v refl)) (g v refl (f v refl))
using_same C None y go go' f g = wrong (using y go')

-- the first one goes on alone, with the same outside; nothing is asked where it fails
pub data Alone (C : State → Type 0) (o : Outside) : Went State → Type 0 where
  alone_goes : (s1 : State) → C s1 → Alone C o (Goes s1 o)
  alone_fails : Alone C o Fails

using_alone : (C : State → Type 0) (o : Outside) (x : Option ℕ) (go : ℕ → Went State) → ((v : ℕ) → x ≡ Some v → Alone C o (go v)) → Alone C o (using x go)
using_alone C o (Some v) go g = g v refl
using_alone C o None go g = alone_fails

-- nothing but a local changes that may be named
pub record Spoils (new : Option ℕ) (u u1 : State) : Type 0 where
  pub kept : (h : Operand) → overwrites new h ≡ false → value h u1 ≡ value h u
  pub waiting : u1.waiting ≡ u.waiting
  pub ram : u1.ram ≡ u.ram

pub spoils_none : (u : State) → Spoils None u u
spoils_none u = record { kept = λ h e. refl; waiting = refl; ram = refl }

pub spoils_one : (z v : ℕ) (u : State) → Spoils (Some z) u (sets z v u)
spoils_one z v u = record { kept = kept; waiting = refl; ram = refl }
  where
    kept : (h : Operand) → overwrites (Some z) h ≡ false → value h (sets z v u) ≡ value h u
    kept (Local i) e = other_local u.locals z i v e
    kept (Known w) e = refl

same_memory_is : (a b : Memory) → same_memory a b ≡ true → a ≡ b
same_memory_is Ram Ram e = refl
same_memory_is Flash Flash e = refl
same_memory_is _ _ e = no e

pub same_comparison_is : (a b : Comparison) → same_comparison a b ≡ true → a ≡ b
same_comparison_is Below Below e = refl
same_comparison_is Less Less e = refl
same_comparison_is Same Same e = refl
same_comparison_is _ _ e = no e

-- fewer low bytes of low bytes
low_low : (w v z : ℕ) → v ≤ w → low v (low w z) ≡ low v z
low_low w v z le =
    let rest = w - v in
    let e : w ≡ v + rest = omega (arith, le) in
    ap (λ m. z % m % 256 ^ v) (ap (λ k. 256 ^ k) e ∙ pow-add 256 v rest) ∙ mod-mod_of_dvd (256 ^ v) z (dvd-mul_right (256 ^ v) (256 ^ rest))

-- ---- at a place

module _ (p : Program) (tables : AreBytes p.tables) (old now : Procedure) (sound : IsSound old) (a : Facts) (s u : State)
    (g : Agree old.widths now.widths a s u) where
  abbrev o : List ℕ
  o = old.widths

  abbrev n : List ℕ
  n = now.widths

  operand : (x y : Operand) (v : ℕ) → stands_for a.twins x y ≡ true → value x s ≡ Some v → value y u ≡ Some v
  operand x y v e f = stands a.twins s u g.twins x y v e f

  value_kept : (y v : ℕ) (h : Operand) (u1 u2 : State) → u2.locals ≡ with_local u1.locals y v → overwrites (Some y) h ≡ false
      → value h u2 ≡ value h u1
  value_kept y v (Local i) u1 u2 q e = ap (λ k. local k i) q ∙ other_local u1.locals y i v e
  value_kept y v (Known w) u1 u2 q e = refl

  -- neither code gives a local a value
  pub none_changed : (s1 u1 : State) → s1.locals ≡ s.locals → u1.locals ≡ u.locals → u1.waiting ≡ s1.waiting → u1.ram ≡ s1.ram
      → Changed n a no_change s u s1 u1
  none_changed s1 u1 es eu ew er =
      record {
        old_kept = λ y e. ap (λ k. local k y) es;
        new_kept = new_kept;
        gained = λ y h v e k q. no e;
        filled = λ y v e q. no e;
        worked = λ w e. absurd (none-some w e);
        bounded = λ x v e q. no e;
        waiting = ew;
        ram = er;
      }
    where
      new_kept : (h : Operand) → overwrites None h ≡ false → value h u1 ≡ value h u
      new_kept (Local i) e = ap (λ k. local k i) eu
      new_kept (Known w) e = refl

  -- a local gets no more than what it is given
  gets_at_most : (x z m v : ℕ) → ((v : ℕ) → v ≤ z → v ≤ greatest → v ≤ m) → local (with_local s.locals x z) x ≡ Some v → v ≤ m
  gets_at_most x z m v top q = gets_most o s.locals x z m v sound.widths g.steady.held top q

  -- both give a local the same value
  pub both_changed : (x y b m z : ℕ) (s1 u1 : State) → y < length n → (b ≤ 4 → z < 256 ^ b) → ((v : ℕ) → v ≤ z → v ≤ greatest → v ≤ m)
      → s1.locals ≡ with_local s.locals x z → u1.locals ≡ with_local u.locals y z → u1.waiting ≡ s1.waiting → u1.ram ≡ s1.ram
      → Changed n a (record { old = Some x; new = Some y; gain = gain_in o n (Some x) (Some y) b m; filled = None; worked = None; most = m }) s u s1 u1
  both_changed x y b m z s1 u1 lt small top es eu ew er =
      record {
        old_kept = λ k e. ap (λ ls. local ls k) es ∙ other_local s.locals x k z e;
        new_kept = λ h e. value_kept y z h u u1 eu e;
        gained = λ k h v e f q. by_pair h v (is_paired o n x y b m) refl f
            (sym (ap (λ ls. local ls x) es) ∙ (ap (λ i. local s1.locals i) (same_number x k e) ∙ q));
        filled = λ k v e q. no e;
        worked = λ w e. absurd (none-some w e);
        bounded = λ k v e q. gets_at_most x z m v top
            (sym (ap (λ ls. local ls x) es) ∙ (ap (λ i. local s1.locals i) (same_number x k e) ∙ q));
        waiting = ew;
        ram = er;
      }
    where
      -- the older local has the value in as few bytes as the newer one has
      of_bytes : (v : ℕ) → local (with_local s.locals x z) x ≡ Some v → has_bytes o n x y m ≡ true → low (get_or n y 6) z ≡ v
      of_bytes v q e =
          let h = and_parts (nat_le (get_or n y 0) (get_or o x 0)) (nat_le m (most_in (get_or n y 0))) e in
          let le = gets_at_most x z m v top q in
          let k = at_most m (most_in (get_or n y 0)) h.1 in
          let fits = most_fits (get_or n y 0) v (omega (arith, le, k)) in
          ap (λ w. low w z) (same_default n y 6 0 lt)
          ∙ (sym (low_low (get_or o x 0) (get_or n y 0) z (at_most (get_or n y 0) (get_or o x 0) h.0))
          ∙ (ap (low (get_or n y 0)) (sym (own_value o s.locals x z v 0 g.steady.held q))
          ∙ low_small (get_or n y 0) v (get_or n y 0) fits (omega arith)))

      of_width : (v : ℕ) → local (with_local s.locals x z) x ≡ Some v
          → ((nat_le b (get_or o x 0) && nat_le b (get_or n y 0)) ≡ true) ⊎ (has_bytes o n x y m ≡ true) → low (get_or n y 6) z ≡ v
      of_width v q (inr e) = of_bytes v q e
      of_width v q (inl e) =
          let h = and_parts (nat_le b (get_or o x 0)) (nat_le b (get_or n y 0)) e in
          let k = few_bytes o x sound.widths in
          let h0 = at_most b (get_or o x 0) h.0 in
          let h1 = at_most b (get_or n y 0) h.1 in
          let small' = small (omega (arith, k, h0)) in
          ap (λ w. low w z) (same_default n y 6 0 lt) ∙ (low_small (get_or n y 0) z b small' h1
          ∙ (sym (low_small (get_or o x 0) z b small' h0) ∙ sym (own_value o s.locals x z v 0 g.steady.held q)))

      as_wide : (v : ℕ) → local (with_local s.locals x z) x ≡ Some v
          → ((get_or o x 5 == get_or n y 6) ≡ true) ⊎ ((nat_le b (get_or o x 0) && nat_le b (get_or n y 0) || has_bytes o n x y m) ≡ true)
          → low (get_or n y 6) z ≡ v
      as_wide v q (inl e) =
          ap (λ w. low w z) (sym (same_number (get_or o x 5) (get_or n y 6) e)) ∙ sym (own_value o s.locals x z v 5 g.steady.held q)
      as_wide v q (inr e) = of_width v q (or_cases (nat_le b (get_or o x 0) && nat_le b (get_or n y 0)) (has_bytes o n x y m) e)

      by_pair : (h : Operand) (v : ℕ) (t : Bool) → is_paired o n x y b m ≡ t → gains n a.twins (Some y) (if t then In y else Nothing) h ≡ true
          → local (with_local s.locals x z) x ≡ Some v → value h u1 ≡ Some v
      by_pair h v true e f q =
          subst (λ k. value k u1 ≡ Some v) (same_home_is (Local y) h f)
          (ap (λ ls. local ls y) eu ∙ (gets_value n u.locals y z 6 g.steady.held_too lt
          ∙ ap Some (as_wide v q (or_cases (get_or o x 5 == get_or n y 6) _ e))))
      by_pair h v false e f q = no f

  -- both give a local the same result of a computation, and the newer code may have all of it
  with_worked : (ch : Change) (k : Option Worked) (s1 u1 : State)
      → Changed n a (record { old = ch.old; new = ch.new; gain = ch.gain; filled = ch.filled; worked = None; most = ch.most }) s u s1 u1
      → ((w : Worked) → k ≡ Some w → IsThere w s1 u1)
      → Changed n a (record { old = ch.old; new = ch.new; gain = ch.gain; filled = ch.filled; worked = k; most = ch.most }) s u s1 u1
  with_worked ch k s1 u1 c f =
      record {
        old_kept = c.old_kept;
        new_kept = c.new_kept;
        gained = c.gained;
        filled = c.filled;
        worked = f;
        bounded = c.bounded;
        waiting = c.waiting;
        ram = c.ram;
      }

  both_computed : (c d : Computation) (x y v : ℕ) → d.width ≤ 4 → d.to < length n → value c.left s ≡ Some x → value c.right s ≡ Some y
      → computed c.operator c.width x y ≡ Some v → computed d.operator d.width x y ≡ Some v
      → Changed n a (both_change o n a.bounds (Compute c) (Compute d)) s u (sets c.to v s) (sets d.to v u)
  both_computed c d x y v four lt ex ey q q' =
      with_worked (both_change o n a.bounds (Compute c) (Compute d)) (worked_in n most (Compute c) (Compute d)) (sets c.to v s) (sets d.to v u)
      (both_changed c.to d.to d.width most v (sets c.to v s) (sets d.to v u) lt (λ small. computed_below d.operator d.width x y v q') top refl refl
      g.waiting g.ram)
      (λ w e. by_test w ((nat_le d.width (get_or n d.to 0) || nat_le most (most_in (get_or n d.to 0))) && keeps_operands c) refl e)
    where
      most : ℕ
      most = most_computed o a.bounds c

      top : (k : ℕ) → k ≤ v → k ≤ greatest → k ≤ most
      top k = computed_most o a.bounds c s x y v k sound.widths g.steady.held g.bounded ex ey q

      below : v < 256 ^ d.width
      below = computed_below d.operator d.width x y v q'

      all_of_it : (nat_le d.width (get_or n d.to 0) ≡ true) ⊎ (nat_le most (most_in (get_or n d.to 0)) ≡ true) → low (get_or n d.to 0) v ≡ v
      all_of_it (inl e) = low_small (get_or n d.to 0) v d.width below (at_most d.width (get_or n d.to 0) e)
      all_of_it (inr e) =
          let wide : 256 ^ d.width ≤ 4294967296 = pow-le-pow_right (omega arith) four in
          let le = top v (omega arith) (omega (arith, below, wide)) in
          let k = at_most most (most_in (get_or n d.to 0)) e in
          low_small (get_or n d.to 0) v (get_or n d.to 0) (most_fits (get_or n d.to 0) v (omega (arith, le, k))) (omega arith)

      kept : (h : Operand) → not (overwrites (Some c.to) h) ≡ true → value h (sets c.to v s) ≡ value h s
      kept h e = value_kept c.to v h s (sets c.to v s) refl (not-true (overwrites (Some c.to) h) e)

      there : ((nat_le d.width (get_or n d.to 0) || nat_le most (most_in (get_or n d.to 0))) && keeps_operands c) ≡ true
          → IsThere (record { operator = c.operator; width = c.width; left = c.left; right = c.right; home = d.to }) (sets c.to v s) (sets d.to v u)
      there e =
          let z0 = and_parts (nat_le d.width (get_or n d.to 0) || nat_le most (most_in (get_or n d.to 0))) (keeps_operands c) e in
          let z2 = and_parts (not (overwrites (Some c.to) c.left)) (not (overwrites (Some c.to) c.right)) z0.1 in
          record {
            has =
                λ x' y' v' el er q2.
                let same_x = same_Some x x' (sym ex ∙ (sym (kept c.left z2.0) ∙ el)) in
                let same_y = same_Some y y' (sym ey ∙ (sym (kept c.right z2.1) ∙ er)) in
                let same_v = same_Some v v' (sym q ∙ (ap (λ k. computed c.operator c.width k y) same_x ∙ (ap (λ k. computed c.operator c.width x' k) same_y ∙ q2))) in
                gets_value n u.locals d.to v 0 g.steady.held_too lt
                ∙ ap Some (all_of_it (or_cases (nat_le d.width (get_or n d.to 0)) _ z0.0) ∙ same_v);
          }

      by_test : (w : Worked) (b : Bool) → ((nat_le d.width (get_or n d.to 0) || nat_le most (most_in (get_or n d.to 0))) && keeps_operands c) ≡ b
          → (if b then Some (record { operator = c.operator; width = c.width; left = c.left; right = c.right; home = d.to }) else None) ≡ Some w
          → IsThere w (sets c.to v s) (sets d.to v u)
      by_test w true i e = subst (λ z. IsThere z (sets c.to v s) (sets d.to v u)) (same_Some _ w e) (there i)
      by_test w false i e = absurd (none-some w e)

  -- ---- plain instructions

  abbrev pub BothGo : PlainInstr → PlainInstr → State → State → Outside → Type 0
  BothGo i j s1 u1 o1 = (is_stop i ≡ false) × Changed n a (both_change o n a.bounds i j) s u s1 u1

  loaded_same : (m : Memory) (w : ℕ) (i : Option ℕ) → loaded p m u w i ≡ loaded p m s w i
  loaded_same Ram w (Some i) = ap (λ r. number_at r w i) g.ram
  loaded_same Flash w (Some i) = refl
  loaded_same m w None = refl

  does_load : (m m' : Memory) (w w' x y k k' : ℕ) (b b' : Operand) (o1 : Outside) → y < length n → m ≡ m' → w ≡ w' → k ≡ k'
      → stands_for a.twins b b' ≡ true
      → SameWent (BothGo (Load m w x (record { base = k; index = b })) (Load m' w' y (record { base = k'; index = b' })))
      (plain p (Load m w x (record { base = k; index = b })) s o1) (plain p (Load m' w' y (record { base = k'; index = b' })) u o1)
  does_load m m' w w' x y k k' b b' o1 lt em ew ek e =
      using_same C (value b s) (value b' u) _ _ (λ i f. operand b b' i e f) (λ i f f'. using_same C (loaded p m s w (index_of m (k + i)))
      (loaded p m' u w' (index_of m' (k' + i))) _ _ (λ z h. sym (same i) ∙ h)
      (λ z h h'. both_go (sets x z s) (sets y z u) o1 (
        refl,
        both_changed x y w' (most_in w) z (sets x z s) (sets y z u) lt
            (λ small. loaded_below p m' u w' (index_of m' (k' + i)) z tables (subst AreBytes (sym g.ram) g.steady.bytes) h')
            (λ v le few. let b = loaded_below p m s w (index_of m (k + i)) z tables g.steady.bytes h in fits_most_in w v (omega (arith, b, le)) few)
            refl refl g.waiting g.ram,
      )))
    where
      C : State → State → Outside → Type 0
      C = BothGo (Load m w x (record { base = k; index = b })) (Load m' w' y (record { base = k'; index = b' }))

      same : (i : ℕ) → loaded p m s w (index_of m (k + i)) ≡ loaded p m' u w' (index_of m' (k' + i))
      same i =
          sym (loaded_same m w (index_of m (k + i))) ∙ (ap (λ m. loaded p m u w (index_of m (k + i))) em
          ∙ (ap (λ w. loaded p m' u w (index_of m' (k + i))) ew ∙ ap (λ k. loaded p m' u w' (index_of m' (k + i))) ek))

  stores_same : (C : State → State → Outside → Type 0) (w w' x : ℕ) (i i' : Option ℕ) (o1 : Outside) → w ≡ w' → i ≡ i'
      → ((s1 u1 : State) → s1.locals ≡ s.locals → u1.locals ≡ u.locals → u1.waiting ≡ s1.waiting → u1.ram ≡ s1.ram → C s1 u1 o1)
      → SameWent C (stores s o1 w x i) (stores u o1 w' x i')
  stores_same C w w' x i i' o1 ew ei c =
      subst (λ k. SameWent C (stores s o1 w x i) (stores u o1 k x i')) ew (subst (λ k. SameWent C (stores s o1 w x i) (stores u o1 w x k)) ei (here i))
    where
      here : (i : Option ℕ) → SameWent C (stores s o1 w x i) (stores u o1 w x i)
      here (Some i) =
          using_same C (number_at s.ram w i) (number_at u.ram w i) _ _ (λ v e. ap (λ r. number_at r w i) g.ram ∙ e)
          (λ v e f. both_go (record s { ram = with_number s.ram w i x }) (record u { ram = with_number u.ram w i x }) o1
          (c _ _ refl refl g.waiting (ap (λ r. with_number r w i x) g.ram)))
      here None = wrong (stores u o1 w x None)

  pops_same : (w w' x y : ℕ) (o1 : Outside) → y < length n → w ≡ w'
      → SameWent (BothGo (Pop w x) (Pop w' y)) (pops_from s.waiting w x s o1) (pops_from u.waiting w' y u o1)
  pops_same w w' x y o1 lt e =
      subst (λ k. SameWent C (pops_from s.waiting w x s o1) (pops_from u.waiting k y u o1)) e
      (subst (λ ws. SameWent C (pops_from s.waiting w x s o1) (pops_from ws w y u o1)) (sym g.waiting) (here s.waiting))
    where
      C : State → State → Outside → Type 0
      C = BothGo (Pop w x) (Pop w' y)

      by_test : (v : Waiting) (vs : List Waiting) (b : Bool)
          → SameWent C (if b then Goes (sets x v.value (record s { waiting = vs })) o1 else Fails)
          (if b then Goes (sets y v.value (record u { waiting = vs })) o1 else Fails)
      by_test v vs true =
          both_go _ _ o1 (refl, both_changed x y 5 greatest v.value _ _ lt (λ k. absurd (omega (arith, k))) (λ v le few. few) refl refl refl g.ram)
      by_test v vs false = wrong Fails

      here : (ws : List Waiting) → SameWent C (pops_from ws w x s o1) (pops_from ws w y u o1)
      here [] = wrong Fails
      here (v ∷ vs) = by_test v vs (v.width == w)

  reads_same : (x y b b' : ℕ) (o1 : Outside) → y < length n → AreReads o1.reads → b ≡ b'
      → SameWent (BothGo (ReadDevice x b) (ReadDevice y b')) (reads_from o1.reads x b s o1) (reads_from o1.reads y b' u o1)
  reads_same x y b b' o1 lt reads e =
      subst (λ k. SameWent C (reads_from o1.reads x b s o1) (reads_from o1.reads y k u o1)) e (here o1.reads reads)
    where
      C : State → State → Outside → Type 0
      C = BothGo (ReadDevice x b) (ReadDevice y b')

      here : (vs : List ℕ) → AreReads vs → SameWent C (reads_from vs x b s o1) (reads_from vs y b u o1)
      here [] h = both_lack b
      here (v ∷ vs) (h, k) = both_go _ _ _ (
        refl,
        both_changed x y 1 255 v (sets x v s) (sets y v u) lt (λ z. h) (λ k le few. omega (arith, h, le)) refl refl g.waiting g.ram,
      )

  -- a copy gives no more than what is known of what is copied
  given_most : (x : ℕ) (b : Operand) (v : ℕ) → value b s ≡ Some v → (k : ℕ) → k ≤ v → k ≤ greatest → k ≤ most_given o a.bounds (Copy x b)
  given_most x b v f k le few = let h = most_holds o a.bounds b v s sound.widths g.steady.held g.bounded f in omega (arith, h, le)

  pub plain_follows : (i j : PlainInstr) (o1 : Outside) → AreReads o1.reads → IsPlain now j → same_plain a.twins i j ≡ true
      → SameWent (BothGo i j) (plain p i s o1) (plain p j u o1)
  plain_follows (Copy x b) (Copy y c) o1 reads h e =
      using_same (BothGo (Copy x b) (Copy y c)) (value b s) (value c u) _ _ (λ v f. operand b c v e f)
      (λ v f k. both_go (sets x v s) (sets y v u) o1 (
        refl,
        both_changed x y (bytes_of n c) (most_given o a.bounds (Copy x b)) v (sets x v s) (sets y v u) h.0
            (λ small. fits_bytes n c u v g.steady.held_too k small) (given_most x b v f) refl refl g.waiting g.ram,
      ))
  plain_follows (Compute c) (Compute d) o1 reads h e =
      using_same C (value c.left s) (value d.left u) _ _ (λ v. operand c.left d.left v z1.1) (λ x f f'.
      using_same C (value c.right s) (value d.right u) _ _ (λ v. operand c.right d.right v z0.1) (λ y k k'.
      using_same C (computed c.operator c.width x y) (computed d.operator d.width x y) _ _ (λ v q. sym (same x y) ∙ q) (λ v q q'.
      both_go (sets c.to v s) (sets d.to v u) o1 (refl, both_computed c d x y v h.0.1 h.1 f k q q'))))
    where
      C : State → State → Outside → Type 0
      C = BothGo (Compute c) (Compute d)

      z0 : ((same_operator c.operator d.operator && (c.width == d.width) && stands_for a.twins c.left d.left) ≡ true)
          × (stands_for a.twins c.right d.right ≡ true)
      z0 = and_parts (same_operator c.operator d.operator && (c.width == d.width) && stands_for a.twins c.left d.left) _ e

      z1 : ((same_operator c.operator d.operator && (c.width == d.width)) ≡ true) × (stands_for a.twins c.left d.left ≡ true)
      z1 = and_parts (same_operator c.operator d.operator && (c.width == d.width)) _ z0.0

      z2 : (same_operator c.operator d.operator ≡ true) × ((c.width == d.width) ≡ true)
      z2 = and_parts (same_operator c.operator d.operator) _ z1.0

      same : (x y : ℕ) → computed c.operator c.width x y ≡ computed d.operator d.width x y
      same x y =
          ap (λ k. computed k c.width x y) (same_operator_is c.operator d.operator z2.0)
          ∙ ap (λ k. computed d.operator k x y) (same_number c.width d.width z2.1)
  plain_follows (Load m w x b) (Load m' w' y b') o1 reads h e =
      let z0 = and_parts (same_memory m m' && (w == w') && (b.base == b'.base)) (stands_for a.twins b.index b'.index) e in
      let z1 = and_parts (same_memory m m' && (w == w')) (b.base == b'.base) z0.0 in
      let z2 = and_parts (same_memory m m') (w == w') z1.0 in
      does_load m m' w w' x y b.base b'.base b.index b'.index o1 h.1 (same_memory_is m m' z2.0) (same_number w w' z2.1)
      (same_number b.base b'.base z1.1) z0.1
  plain_follows (Store w b t) (Store w' b' t') o1 reads h e =
      let z0 = and_parts ((w == w') && (b.base == b'.base) && stands_for a.twins b.index b'.index) (stands_for a.twins t t') e in
      let z1 = and_parts ((w == w') && (b.base == b'.base)) (stands_for a.twins b.index b'.index) z0.0 in
      let z2 = and_parts (w == w') (b.base == b'.base) z1.0 in
      using_same C (value b.index s) (value b'.index u) _ _ (λ v. operand b.index b'.index v z1.1) (λ i f f'.
      using_same C (value t s) (value t' u) _ _ (λ v. operand t t' v z0.1) (λ x k k'.
      stores_same C w w' x (index_of Ram (b.base + i)) (index_of Ram (b'.base + i)) o1 (same_number w w' z2.0)
      (ap (λ k. index_of Ram (k + i)) (same_number b.base b'.base z2.1)) (λ s1 u1 es eu ew er. (refl, none_changed s1 u1 es eu ew er))))
    where
      C : State → State → Outside → Type 0
      C = BothGo (Store w b t) (Store w' b' t')
  plain_follows (ReadDevice x b) (ReadDevice y b') o1 reads h e = reads_same x y b b' o1 h reads (same_number b b' e)
  plain_follows (WriteDevice b t) (WriteDevice b' t') o1 reads h e =
      let z0 = and_parts (b == b') (stands_for a.twins t t') e in
      using_same C (value t s) (value t' u) _ _ (λ v. operand t t' v z0.1) (λ v f f'.
      subst (λ k. SameWent C (Goes s (with_event o1 (Write b (low 1 v)))) (Goes u (with_event o1 (Write k (low 1 v))))) (same_number b b' z0.0)
      (both_go s u _ (refl, none_changed s u refl refl g.waiting g.ram)))
    where
      C : State → State → Outside → Type 0
      C = BothGo (WriteDevice b t) (WriteDevice b' t')
  plain_follows (Push w t) (Push w' t') o1 reads h e =
      let z0 = and_parts (w == w') (stands_for a.twins t t') e in
      using_same C (value t s) (value t' u) _ _ (λ v. operand t t' v z0.1) (λ v f f'.
      subst (λ k. SameWent C (Goes (pushes w v s) o1) (Goes (pushes k v u) o1)) (same_number w w' z0.0)
      (both_go (pushes w v s) (pushes w v u) o1 (
        refl,
        none_changed (pushes w v s) (pushes w v u) refl refl
            (ap (λ ws. record { width = w; value = low w v } ∷ ws) g.waiting) g.ram,
      )))
    where
      C : State → State → Outside → Type 0
      C = BothGo (Push w t) (Push w' t')
  plain_follows (Pop w x) (Pop w' y) o1 reads h e = pops_same w w' x y o1 h.1 (same_number w w' e)
  plain_follows (Find d x t) (Find d' y t') o1 reads h e =
      let z0 = and_parts (d == d') (stands_for a.twins t t') e in
      using_same C (value t s) (value t' u) _ _ (λ v. operand t t' v z0.1) (λ v f f'.
      using_same C (dispatched p.dispatches d v) (dispatched p.dispatches d' v) _ _ (λ q k. ap (λ d. dispatched p.dispatches d v)
      (sym (same_number d d' z0.0)) ∙ k) (λ q k k'.
      both_go _ _ o1 (
        refl,
        both_changed x y 5 greatest (p.codes.code q) (sets x (p.codes.code q) s) (sets y (p.codes.code q) u) h.0
            (λ small. absurd (omega (arith, small))) (λ v le few. few) refl refl g.waiting g.ram,
      )))
    where
      C : State → State → Outside → Type 0
      C = BothGo (Find d x t) (Find d' y t')
  plain_follows (CodeOf q x) (CodeOf r y) o1 reads h e =
      subst (λ k. SameWent (BothGo (CodeOf q x) (CodeOf r y)) (Goes (sets x (p.codes.code q) s) o1) (Goes (sets y (p.codes.code k) u) o1))
      (same_number q r e)
      (both_go _ _ o1 (
        refl,
        both_changed x y 5 greatest (p.codes.code q) (sets x (p.codes.code q) s) (sets y (p.codes.code q) u) h
            (λ small. absurd (omega (arith, small))) (λ v le few. few) refl refl g.waiting g.ram,
      ))
  plain_follows (Stop c) (Stop d) o1 reads h e =
      subst (λ k. SameWent (BothGo (Stop c) (Stop d)) (Raises c) (Raises k)) (same_number c d e) (both_raise c)
  plain_follows _ _ o1 reads h e = no e

  -- ---- instructions that are left out

  -- the older code gives a local a value, the newer one at most another local one that nobody needs
  alone_changed : (x k m : ℕ) (new : Option ℕ) (u1 : State) (gain : Gain) → Spoils new u u1 → ((v : ℕ) → v ≤ k → v ≤ greatest → v ≤ m)
      → ((h : Operand) (r : ℕ) → gains n a.twins new gain h ≡ true → local (with_local s.locals x k) x ≡ Some r → value h u1 ≡ Some r)
      → Changed n a (record { old = Some x; new = new; gain = gain; filled = None; worked = None; most = m }) s u (sets x k s) u1
  alone_changed x k m new u1 gain sp top f =
      record {
        old_kept = λ y e. other_local s.locals x y k e;
        new_kept = sp.kept;
        gained = λ y h r e q w. f h r q (ap (λ i. local (with_local s.locals x k) i) (same_number x y e) ∙ w);
        filled = λ y r e q. no e;
        worked = λ w e. absurd (none-some w e);
        bounded = λ y r e q. gets_at_most x k m r top (ap (λ i. local (with_local s.locals x k) i) (same_number x y e) ∙ q);
        waiting = sp.waiting ∙ g.waiting;
        ram = sp.ram ∙ g.ram;
      }

  -- ---- fewer bytes of a result

  within : (v : ℕ) (h : Operand) (x : ℕ) → v ≤ 4 → value h u ≡ Some x → nat_le (bytes_of n h) v ≡ true → x < 256 ^ v
  within v h x four e f =
      let few = at_most (bytes_of n h) v f in
      let k = fits_bytes n h u x g.steady.held_too e (omega (arith, few, four)) in
      let more : 256 ^ bytes_of n h ≤ 256 ^ v = pow-le-pow_right (omega arith) few in omega (arith, k, more)

  same_low : (w v z : ℕ) → z < 256 ^ v → v ≤ w → Some (low w z) ≡ Some (low v z)
  same_low w v z small le = ap Some (low_small w z v small le ∙ sym (low_small v z v small (omega arith)))

  bits_of : (v : ℕ) → 256 ^ v ≡ 2 ^ (8 * v)
  bits_of zero = refl
  bits_of (suc v) =
      let e : 8 * suc v ≡ 8 * v + 8 = omega arith in
      pow-suc 256 v ∙ (ap (λ k. k * 256) (bits_of v) ∙ (sym (pow-add 2 (8 * v) 8) ∙ ap (λ k. 2 ^ k) (sym e)))

  narrower_same : (op : Operator) (w v x y : ℕ) (l r : Operand) → v ≤ 4 → v ≤ w → value l u ≡ Some x → value r u ≡ Some y
      → fits_result n op v l r ≡ true → computed op w x y ≡ computed op v x y
  narrower_same And w v x y l r four le el er f =
      same_low w v (bit_and x y) (by (or_cases (nat_le (bytes_of n l) v) (nat_le (bytes_of n r) v) f)) le
    where
      by : (nat_le (bytes_of n l) v ≡ true) ⊎ (nat_le (bytes_of n r) v ≡ true) → bit_and x y < 256 ^ v
      by (inl k) = let h = within v l x four el k in let m = and_le_l x y in omega (arith, h, m)
      by (inr k) = let h = within v r y four er k in let m = and_le_r x y in omega (arith, h, m)
  narrower_same Or w v x y l r four le el er f =
      let k = and_parts (nat_le (bytes_of n l) v) (nat_le (bytes_of n r) v) f in
      same_low w v (bit_or x y)
      (subst (λ m. bit_or x y < m) (sym (bits_of v))
      (or_lt (8 * v) x y (subst (λ m. x < m) (bits_of v) (within v l x four el k.0)) (subst (λ m. y < m) (bits_of v) (within v r y four er k.1)))) le
  narrower_same Xor w v x y l r four le el er f =
      let k = and_parts (nat_le (bytes_of n l) v) (nat_le (bytes_of n r) v) f in
      same_low w v (bit_xor x y)
      (subst (λ m. bit_xor x y < m) (sym (bits_of v))
      (xor_lt (8 * v) x y (subst (λ m. x < m) (bits_of v) (within v l x four el k.0)) (subst (λ m. y < m) (bits_of v) (within v r y four er k.1)))) le
  narrower_same Plus w v x y l r four le el er f = no f
  narrower_same Minus w v x y l r four le el er f = no f
  narrower_same Times w v x y l r four le el er f = no f
  narrower_same Divide w v x y l r four le el er f = no f
  narrower_same Remainder w v x y l r four le el er f = no f
  narrower_same ShiftLeft w v x y l r four le el er f = no f
  narrower_same ShiftRight w v x y l r four le el er f = no f

  computed_narrower : (c d : Computation) (o1 : Outside) → IsPlain now (Compute d) → narrower o n a (Compute c) (Compute d) ≡ true
      → SameWent (BothGo (Compute c) (Compute d)) (plain p (Compute c) s o1) (plain p (Compute d) u o1)
  computed_narrower c d o1 h e =
      using_same C (value c.left s) (value d.left u) _ _ (λ v. operand c.left d.left v z2.1) (λ x f f'.
      using_same C (value c.right s) (value d.right u) _ _ (λ v. operand c.right d.right v z1.1) (λ y k k'.
      using_same C (computed c.operator c.width x y) (computed d.operator d.width x y) _ _ (λ v q. sym (same x y f k f' k') ∙ q) (λ v q q'.
      both_go (sets c.to v s) (sets d.to v u) o1 (refl, both_computed c d x y v h.0.1 h.1 f k q q'))))
    where
      C : State → State → Outside → Type 0
      C = BothGo (Compute c) (Compute d)

      z0 : ((same_operator c.operator d.operator && nat_le d.width c.width && stands_for a.twins c.left d.left && stands_for a.twins c.right d.right) ≡ true)
          × ((fits_result n d.operator d.width d.left d.right || fits_bounds o a.bounds c d.width) ≡ true)
      z0 = and_parts (same_operator c.operator d.operator && nat_le d.width c.width && stands_for a.twins c.left d.left && stands_for a.twins c.right d.right) _ e

      z1 : ((same_operator c.operator d.operator && nat_le d.width c.width && stands_for a.twins c.left d.left) ≡ true)
          × (stands_for a.twins c.right d.right ≡ true)
      z1 = and_parts (same_operator c.operator d.operator && nat_le d.width c.width && stands_for a.twins c.left d.left) _ z0.0

      z2 : ((same_operator c.operator d.operator && nat_le d.width c.width) ≡ true) × (stands_for a.twins c.left d.left ≡ true)
      z2 = and_parts (same_operator c.operator d.operator && nat_le d.width c.width) _ z1.0

      z3 : (same_operator c.operator d.operator ≡ true) × (nat_le d.width c.width ≡ true)
      z3 = and_parts (same_operator c.operator d.operator) _ z2.0

      same : (x y : ℕ) → value c.left s ≡ Some x → value c.right s ≡ Some y → value d.left u ≡ Some x → value d.right u ≡ Some y
          → computed c.operator c.width x y ≡ computed d.operator d.width x y
      same x y f k f' k' = by_way (or_cases (fits_result n d.operator d.width d.left d.right) _ z0.1)
        where
          by_way : (fits_result n d.operator d.width d.left d.right ≡ true) ⊎ (fits_bounds o a.bounds c d.width ≡ true)
              → computed c.operator c.width x y ≡ computed d.operator d.width x y
          by_way (inl e) =
              ap (λ m. computed m c.width x y) (same_operator_is c.operator d.operator z3.0)
              ∙ narrower_same d.operator c.width d.width x y d.left d.right h.0.1 (at_most d.width c.width z3.1) f' k' e
          by_way (inr e) =
              computed_fewer o a.bounds c s d.width x y sound.widths g.steady.held g.bounded f k (at_most d.width c.width z3.1) e
              ∙ ap (λ m. computed m d.width x y) (same_operator_is c.operator d.operator z3.0)

  pub narrower_follows : (i j : PlainInstr) (o1 : Outside) → IsPlain now j → narrower o n a i j ≡ true
      → SameWent (BothGo i j) (plain p i s o1) (plain p j u o1)
  narrower_follows (Compute c) (Compute d) o1 h e = computed_narrower c d o1 h e
  narrower_follows i j o1 h e = no e

  made : (c : Computation) (x y r : ℕ) → value c.left s ≡ Some x → value c.right s ≡ Some y → computed c.operator c.width x y ≡ Some r
      → (v : ℕ) → v ≤ r → v ≤ greatest → v ≤ most_computed o a.bounds c
  made c x y r f k q v = computed_most o a.bounds c s x y r v sound.widths g.steady.held g.bounded f k q

  pub left_follows : (i : PlainInstr) (new : Option ℕ) (u1 : State) (o1 : Outside) → Spoils new u u1 → is_pure i ≡ true
      → Alone (λ s1. Changed n a (left_out o a.bounds i new) s u s1 u1) o1 (plain p i s o1)
  left_follows (Copy x b) new u1 o1 sp e =
      using_alone C o1 (value b s) _ (λ k f. alone_goes (sets x k s)
      (alone_changed x k (most_given o a.bounds (Copy x b)) new u1 (Copied b (get_or o x 0)) sp (given_most x b k f) (stays k f)))
    where
      C : State → Type 0
      C s1 = Changed n a (left_out o a.bounds (Copy x b) new) s u s1 u1

      stays : (k : ℕ) → value b s ≡ Some k → (h : Operand) (r : ℕ) → gains n a.twins new (Copied b (get_or o x 0)) h ≡ true
          → local (with_local s.locals x k) x ≡ Some r → value h u1 ≡ Some r
      stays k f h r q w =
          let z0 = and_parts (stands_for a.twins b h && nat_le (bytes_of n h) (get_or o x 0)) (not (overwrites new h)) q in
          let z1 = and_parts (stands_for a.twins b h) (nat_le (bytes_of n h) (get_or o x 0)) z0.0 in
          let few = few_bytes o x sound.widths in
          let wide = at_most (bytes_of n h) (get_or o x 0) z1.1 in
          let stood = operand b h k z1.0 f in
          let small = fits_bytes n h u k g.steady.held_too stood (omega (arith, few, wide)) in
          sp.kept h (not-true (overwrites new h) z0.1)
          ∙ (stood ∙ ap Some (sym (low_small (get_or o x 0) k (bytes_of n h) small wide) ∙ sym (own_value o s.locals x k r 0 g.steady.held w)))
  left_follows (Compute c) new u1 o1 sp e =
      using_alone C o1 (value c.left s) _ (λ x f. using_alone C o1 (value c.right s) _ (λ y k. using_alone C o1 (computed c.operator c.width x y) _
      (λ r q. alone_goes (sets c.to r s) (alone_changed c.to r (most_computed o a.bounds c) new u1 Nothing sp (made c x y r f k q) (λ h r k. no k)))))
    where
      C : State → Type 0
      C s1 = Changed n a (left_out o a.bounds (Compute c) new) s u s1 u1
  left_follows (Load m w x b) new u1 o1 sp e =
      using_alone C o1 (value b.index s) _ (λ i f. using_alone C o1 (loaded p m s w (index_of m (b.base + i))) _
      (λ r q. alone_goes (sets x r s)
      (alone_changed x r (most_in w) new u1 Nothing sp
      (λ v le few. let h = loaded_below p m s w (index_of m (b.base + i)) r tables g.steady.bytes q in fits_most_in w v (omega (arith, h, le)) few)
      (λ h r k. no k))))
    where
      C : State → Type 0
      C s1 = Changed n a (left_out o a.bounds (Load m w x b) new) s u s1 u1
  left_follows (Find d x t) new u1 o1 sp e =
      using_alone C o1 (value t s) _ (λ i f. using_alone C o1 (dispatched p.dispatches d i) _
      (λ r q. alone_goes (sets x (p.codes.code r) s) (alone_changed x (p.codes.code r) greatest new u1 Nothing sp (λ v le few. few) (λ h r k. no k))))
    where
      C : State → Type 0
      C s1 = Changed n a (left_out o a.bounds (Find d x t) new) s u s1 u1
  left_follows (CodeOf q x) new u1 o1 sp e =
      alone_goes (sets x (p.codes.code q) s) (alone_changed x (p.codes.code q) greatest new u1 Nothing sp (λ v le few. few) (λ h r k. no k))
  left_follows _ new u1 o1 sp e = no e

  -- what is computed is there already
  pub reused_follows : (c : Computation) (new : Option ℕ) (u1 : State) (h : ℕ) (o1 : Outside) → Spoils new u u1
      → found_in o c new (found_for a.worked c) ≡ Some h
      → Alone (λ s1. Changed n a (reused (most_computed o a.bounds c) new c h) s u s1 u1) o1 (plain p (Compute c) s o1)
  reused_follows c new u1 h o1 sp e =
      using_alone C o1 (value c.left s) _ (λ x f. using_alone C o1 (value c.right s) _ (λ y k. using_alone C o1 (computed c.operator c.width x y) _
      (λ r q. alone_goes (sets c.to r s)
      (alone_changed c.to r (most_computed o a.bounds c) new u1 (In h) sp (made c x y r f k q)
      (gains_it x y r f k q (found_for a.worked c) refl e)))))
    where
      C : State → Type 0
      C s1 = Changed n a (reused (most_computed o a.bounds c) new c h) s u s1 u1

      apart : (z : Option ℕ) (y : ℕ) → is_it z y ≡ false → overwrites z (Local y) ≡ false
      apart (Some z) y e = e
      apart None y e = refl

      gains_it : (x y r : ℕ) → value c.left s ≡ Some x → value c.right s ≡ Some y → computed c.operator c.width x y ≡ Some r
          → (k : Option Worked) → found_for a.worked c ≡ k → found_in o c new k ≡ Some h
          → (i : Operand) (r' : ℕ) → gains n a.twins new (In h) i ≡ true → local (with_local s.locals c.to r) c.to ≡ Some r' → value i u1 ≡ Some r'
      gains_it x y r f k q None i e i' r' j l = absurd (none-some h e)
      gains_it x y r f k q (Some w) i e i' r' j l = by_test (nat_le c.width (get_or o c.to 0) && not (is_it new w.home)) refl e
        where
          by_test : (b : Bool) → (nat_le c.width (get_or o c.to 0) && not (is_it new w.home)) ≡ b → (if b then Some w.home else None) ≡ Some h
              → value i' u1 ≡ Some r'
          by_test false m e = absurd (none-some h e)
          by_test true m e =
              let z0 = and_parts (nat_le c.width (get_or o c.to 0)) (not (is_it new w.home)) m in
              let is = same_Some w.home h e in
              let stood = found_there a.worked c w s u x y r g.worked i f k q in
              let small = low_small (get_or o c.to 0) r c.width (computed_below c.operator c.width x y r q) (at_most c.width (get_or o c.to 0) z0.0) in
              subst (λ t. value t u1 ≡ Some r') (same_home_is (Local h) i' j)
              (subst (λ t. value (Local t) u1 ≡ Some r') is
              (sp.kept (Local w.home) (apart new w.home (not-true (is_it new w.home) z0.1))
              ∙ (stood ∙ ap Some (sym small ∙ sym (own_value o s.locals c.to r r' 0 g.steady.held l)))))
