-- Walks through the older code: what holds of both states on the way, and what is known where the walk ends.
use Rattle.std.specs.Prelude.{◌≢◌, ℕ, zero, suc, ◌<◌, ◌≤◌, Bool, true, false, ◌==◌, ◌&&◌, ◌||◌, not, nat_lt, nat_le, List, [], ◌∷◌, length}
use Rattle.std.specs.Prelude.{Option, Some, None, slice_get, get_or, if◌then◌else◌}
use Rattle.std.specs.List.{AllByRecursion}
use Rattle.std.proofs.Common.{◌≡◌, refl, sym, ap, ◌∙◌, arith, inl, inr, ◌⊎◌}
use Rattle.std.proofs.lemmas.Bool.{and_parts, or_cases, or_parts, or_from, not-true, both_ways, false_from_ne_true}
use Rattle.std.proofs.lemmas.Option.{same_Some, none-some}
use Rattle.vg_lin.specs.declared.instr.Operand.{Operand}
use Rattle.vg_lin.specs.declared.instr.Operand.TheVariants.{Local, Known}
use Rattle.vg_lin.specs.declared.instr.Comparison.{Comparison}
use Rattle.vg_lin.specs.declared.instr.Comparison.TheVariants.{Same}
use Rattle.vg_lin.specs.declared.instr.Test.{Test}
use Rattle.vg_lin.specs.Values.{low, compared}
use Rattle.vg_lin.specs.Program.{Procedure}
use Rattle.vg_lin.specs.Sound.{IsWidth, IsTest, IsSound}
use Rattle.vg_lin.specs.State.{State, value, sets, both, holds}
use Rattle.vg_expand.proofs.Holding.{sets_holds}
use Rattle.vg_trimming.specs.declared.facts.Twin.{Twin}
use Rattle.vg_trimming.specs.declared.facts.Worked.{Worked}
use Rattle.vg_trimming.specs.declared.facts.Bound.{Bound}
use Rattle.vg_trimming.specs.declared.facts.Facts.{Facts}
use Rattle.vg_trimming.specs.declared.facts.Learned.{Learned}
use Rattle.vg_trimming.specs.declared.facts.Met.{Met}
use Rattle.vg_trimming.specs.declared.facts.Sets.{Sets}
use Rattle.vg_trimming.specs.Facts.{same_home, is_it, is_twin, is_filled, is_worked, is_bounded}
use Rattle.vg_trimming.specs.Walking.{checked, decided, none_set, is_set, is_set_in, has_room, with_second, with_set}
use Rattle.vg_trimming.specs.Walking.{twins_over, filled_over, worked_over, is_told, bounded_over, leads_over, leads_over_in, arrives, walks, most_steps}
use Rattle.vg_trimming.specs.Walking.{way_leads}
use Rattle.vg_trimming.specs.Trimmed.{Trims}
use Rattle.vg_trimming.proofs.Homes.{no, same_number, same_home_is, is_named, local, own_value, has_value, other_local, low_small, there_for}
use Rattle.vg_trimming.proofs.Homes.{at_most, Twinned, Filled, AreThere, HasAtMost, AreBounded, bounded_by, Steady, Agree}
use Rattle.vg_trimming.proofs.Branches.{HasTold, Learns}
use Rattle.vg_trimming.proofs.Calls.{AtPlace, trimmed}

-- ---- the locals that get numbers

-- a local that has got no number is not the last one that did, and had none before
unset_before : (a b : Option ℕ) (x y : ℕ) → has_room (record { first = a; second = b }) x ≡ true
    → is_set (with_set (record { first = a; second = b }) x) y ≡ false → ((x == y) ≡ false) × (is_set (record { first = a; second = b }) y ≡ false)
unset_before a b x y e f = by_set (is_set xs x) refl f
  where
    xs : Sets
    xs = record { first = a; second = b }

    another : is_set xs x ≡ true → is_set xs y ≡ false → (x == y) ≡ false
    another g h = false_from_ne_true (x == y) (λ k. both_ways (is_set xs y) h (ap (is_set xs) (sym (same_number x y k)) ∙ g))

    by_room : (a b : Option ℕ) → has_room (record { first = a; second = b }) x ≡ true → is_set (record { first = a; second = b }) x ≡ false
        → is_set (with_second (record { first = a; second = b }) x a) y ≡ false
        → ((x == y) ≡ false) × (is_set (record { first = a; second = b }) y ≡ false)
    by_room None b e g h = or_parts (x == y) (is_it b y) h
    by_room (Some z) None e g h =
        let k = or_parts (z == y) (x == y) h in (k.1, or_from (z == y) false k.0 refl)
    by_room (Some z) (Some w) e g h = no (sym (or_from ((z == x) || (w == x) || false) false (or_from ((z == x) || (w == x)) false g refl) refl) ∙ e)

    by_set : (t : Bool) → is_set xs x ≡ t → is_set (if t then xs else with_second xs x a) y ≡ false → ((x == y) ≡ false) × (is_set xs y ≡ false)
    by_set true g h = (another g h, h)
    by_set false g h = by_room a b e g h

one_byte : (ws : List ℕ) (x : ℕ) → AllByRecursion IsWidth ws → x < length ws → 1 ≤ get_or ws x 0
one_byte [] x h lt = absurd (omega (arith, lt))
one_byte (w ∷ ws) zero ((g, i), h) lt = g
one_byte (w ∷ ws) (suc x) (g, h) lt = one_byte ws x h (omega (arith, lt))

-- ---- what is known where a walk ends

twin_over : (xs : Sets) (bs ts : List Twin) (x : ℕ) (h : Operand) → twins_over xs bs ts ≡ true → is_twin ts x h ≡ true
    → (is_set xs x ≡ false) × (is_twin bs x h ≡ true)
twin_over xs bs [] x h e f = no f
twin_over xs bs (t ∷ ts) x h e f =
    by_first ((t.local == x) && same_home t.home h) refl f (λ g. twin_over xs bs ts x h z.1 g)
  where
    z : ((not (is_set xs t.local) && is_twin bs t.local t.home) ≡ true) × (twins_over xs bs ts ≡ true)
    z = and_parts (not (is_set xs t.local) && is_twin bs t.local t.home) (twins_over xs bs ts) e

    by_first : (b : Bool) → ((t.local == x) && same_home t.home h) ≡ b → (if b then true else is_twin ts x h) ≡ true
        → (is_twin ts x h ≡ true → (is_set xs x ≡ false) × (is_twin bs x h ≡ true)) → (is_set xs x ≡ false) × (is_twin bs x h ≡ true)
    by_first true g f more =
        let k = and_parts (t.local == x) (same_home t.home h) g in
        let i = and_parts (not (is_set xs t.local)) (is_twin bs t.local t.home) z.0 in
        let same = same_number t.local x k.0 in (
          ap (is_set xs) (sym same) ∙ not-true (is_set xs t.local) i.0,
          ap (λ y. is_twin bs y h) (sym same) ∙ (ap (is_twin bs t.local) (sym (same_home_is t.home h k.1)) ∙ i.1),
        )
    by_first false g f more = more f

number_over : (xs : Sets) (f : Option ℕ) (bs ys : List ℕ) (x : ℕ) → filled_over xs f bs ys ≡ true → is_filled ys x ≡ true
    → (is_set xs x ≡ false) × ((is_it f x || is_filled bs x) ≡ true)
number_over xs f bs [] x e h = no h
number_over xs f bs (y ∷ ys) x e h = by_first (y == x) refl h (λ g. number_over xs f bs ys x z.1 g)
  where
    z : ((not (is_set xs y) && (is_it f y || is_filled bs y)) ≡ true) × (filled_over xs f bs ys ≡ true)
    z = and_parts (not (is_set xs y) && (is_it f y || is_filled bs y)) (filled_over xs f bs ys) e

    by_first : (b : Bool) → (y == x) ≡ b → (if b then true else is_filled ys x) ≡ true
        → (is_filled ys x ≡ true → (is_set xs x ≡ false) × ((is_it f x || is_filled bs x) ≡ true))
        → (is_set xs x ≡ false) × ((is_it f x || is_filled bs x) ≡ true)
    by_first true g h more =
        let i = and_parts (not (is_set xs y)) (is_it f y || is_filled bs y) z.0 in
        let same = same_number y x g in
        (ap (is_set xs) (sym same) ∙ not-true (is_set xs y) i.0, ap (λ k. is_it f k || is_filled bs k) (sym same) ∙ i.1)
    by_first false g h more = more h

-- ---- tests

-- how a test comes out that compares with 0 a local which has 0 or 1
compared_so : (c : Comparison) (w : ℕ) (l r : Operand) (s : State) (x n : ℕ) → 1 ≤ w
    → is_it (checked (record { comparison = c; width = w; left = l; right = r })) x ≡ true → n < 2
    → ((v : ℕ) → value (Local x) s ≡ Some v → v ≡ n) → (b : Bool) → holds (record { comparison = c; width = w; left = l; right = r }) s ≡ Some b
    → b ≡ (n == 0)
compared_so Same w (Local y) (Known k) s x n some e few has b q = by_known (k == 0) refl e
  where
    by_value : (o : Option ℕ) → value (Local y) s ≡ o → k ≡ 0 → y ≡ x → both o (Some k) (compared Same w) ≡ Some b → b ≡ (n == 0)
    by_value (Some v) g ek ey q =
        let same : v ≡ n = has v (ap (local s.locals) (sym ey) ∙ g) in
        sym (same_Some (low w v == low w k) b q)
        ∙ (ap (λ z. z == low w k) (ap (low w) same ∙ low_small w n 1 (omega (arith, few)) some)
        ∙ ap (λ z. n == z) (ap (low w) ek ∙ low_small w 0 1 (omega arith) some))
    by_value None g ek ey q = absurd (none-some b q)

    by_known : (t : Bool) → (k == 0) ≡ t → is_it (if t then Some y else None) x ≡ true → b ≡ (n == 0)
    by_known true ek e = by_value (value (Local y) s) refl (same_number k 0 ek) (same_number y x e) q
    by_known false ek e = no e
compared_so _ w l r s x n some e few has b q = no e

-- ---- on the way

-- the local that got a number last has it
abbrev pub HasMet : Option Met → State → Type 0
HasMet None s = Unit {0}
HasMet (Some m) s = (v : ℕ) → m.number < 2 → value (Local m.local) s ≡ Some v → v ≡ m.number

-- a walk began in states where something is known and a local is not 0; the older code has given numbers to locals since
pub record OnWalk (old now : Procedure) (a : Facts) (f : Learned) (xs : Sets) (m : Option Met) (first s u : State) : Type 0 where
  pub began : Agree old.widths now.widths a first u
  pub learned : Learns f first
  pub kept : (x : ℕ) → is_set xs x ≡ false → value (Local x) s ≡ value (Local x) first
  pub met : HasMet m s
  pub waiting : u.waiting ≡ s.waiting
  pub ram : u.ram ≡ s.ram
  pub steady : Steady old.widths now.widths s u

module _ (old now : Procedure) (sound : IsSound old) (a : Facts) (f : Learned) (xs : Sets) (m : Option Met) (first s u : State)
    (on : OnWalk old now a f xs m first s u) where
  worked_kept : (ws : List Worked) → worked_over xs a.worked ws ≡ true → AreThere ws s u
  worked_kept [] e = tt {0}
  worked_kept (w ∷ ws) e =
      let z0 = and_parts (not (is_set_in xs w.left) && not (is_set_in xs w.right) && is_worked a.worked w) (worked_over xs a.worked ws) e in
      let z1 = and_parts (not (is_set_in xs w.left) && not (is_set_in xs w.right)) (is_worked a.worked w) z0.0 in
      let z2 = and_parts (not (is_set_in xs w.left)) (not (is_set_in xs w.right)) z1.0 in (
        record {
          has =
              λ x y v el er q. (there_for a.worked w first u on.began.worked z1.1).has x y v (sym (operand_kept w.left z2.0) ∙ el)
              (sym (operand_kept w.right z2.1) ∙ er) q;
        },
        worked_kept ws z0.1,
      )
    where
      operand_kept : (h : Operand) → not (is_set_in xs h) ≡ true → value h s ≡ value h first
      operand_kept (Local i) k = on.kept i (not-true (is_set xs i) k)
      operand_kept (Known v) k = refl

  -- what a branch told, or was known
  told : (k : Option Bound) (b : Bound) → HasTold k first → is_told k b ≡ true → HasAtMost b first
  told (Some k) b h e =
      let z = and_parts (k.local == b.local) (nat_le k.most b.most) e in
      λ v q.
      let le = at_most k.most b.most z.1 in
      let g = h v (ap (λ x. value (Local x) first) (same_number k.local b.local z.0) ∙ q) in omega (arith, g, le)
  told None b h e = no e

  bounded_kept : (bs : List Bound) → bounded_over xs f.bound a.bounds bs ≡ true → AreBounded bs s
  bounded_kept [] e = tt {0}
  bounded_kept (b ∷ bs) e =
      let z0 = and_parts (not (is_set xs b.local) && (is_told f.bound b || is_bounded a.bounds b)) (bounded_over xs f.bound a.bounds bs) e in
      let z1 = and_parts (not (is_set xs b.local)) (is_told f.bound b || is_bounded a.bounds b) z0.0 in
      (λ v q. by_which (or_cases (is_told f.bound b) _ z1.1) v (sym (on.kept b.local (not-true (is_set xs b.local) z1.0)) ∙ q), bounded_kept bs z0.1)
    where
      by_which : (is_told f.bound b ≡ true) ⊎ (is_bounded a.bounds b ≡ true) → HasAtMost b first
      by_which (inl i) = told f.bound b on.learned.told i
      by_which (inr i) = bounded_by a.bounds b first on.began.bounded i

  -- where the walk ends
  pub arrived : (b : Facts) → leads_over xs f a b ≡ true → Agree old.widths now.widths b s u
  arrived b e =
      record {
        reached = z2.0;
        twins = twins;
        filled = filled;
        worked = worked_kept b.worked z0.1;
        bounded = bounded_kept b.bounds z.1;
        waiting = on.waiting;
        ram = on.ram;
        steady = on.steady;
      }
    where
      z : ((b.reached && twins_over xs a.twins b.twins && filled_over xs f.filled a.filled b.filled && worked_over xs a.worked b.worked) ≡ true)
          × (bounded_over xs f.bound a.bounds b.bounds ≡ true)
      z = and_parts (b.reached && twins_over xs a.twins b.twins && filled_over xs f.filled a.filled b.filled && worked_over xs a.worked b.worked) _ e

      z0 : ((b.reached && twins_over xs a.twins b.twins && filled_over xs f.filled a.filled b.filled) ≡ true) × (worked_over xs a.worked b.worked ≡ true)
      z0 = and_parts (b.reached && twins_over xs a.twins b.twins && filled_over xs f.filled a.filled b.filled) _ z.0

      z1 : ((b.reached && twins_over xs a.twins b.twins) ≡ true) × (filled_over xs f.filled a.filled b.filled ≡ true)
      z1 = and_parts (b.reached && twins_over xs a.twins b.twins) _ z0.0

      z2 : (b.reached ≡ true) × (twins_over xs a.twins b.twins ≡ true)
      z2 = and_parts b.reached _ z1.0

      twins : Twinned b.twins s u
      twins x h v k q =
          let t = twin_over xs a.twins b.twins x h z2.1 k in on.began.twins x h v t.1 (sym (on.kept x t.0) ∙ q)

      filled : Filled b.filled s
      filled x v k q =
          let t = number_over xs f.filled a.filled b.filled x z1.1 k in
          by_which (or_cases (is_it f.filled x) (is_filled a.filled x) t.1) (sym (on.kept x t.0) ∙ q)
        where
          by_which : (is_it f.filled x ≡ true) ⊎ (is_filled a.filled x ≡ true) → value (Local x) first ≡ Some v → v ≢ 0
          by_which (inl i) q = on.learned.filled x v i q
          by_which (inr i) q = on.began.filled x v i q

  -- behind a copy of a number
  pub walks_copy : (x v : ℕ) → has_room xs x ≡ true
      → OnWalk old now a f (with_set xs x) (Some (record { local = x; number = v })) first (sets x v s) u
  walks_copy x v e =
      record {
        began = on.began;
        learned = on.learned;
        kept = λ y k.
            let z = unset_before xs.first xs.second x y e k in other_local s.locals x y v z.0 ∙ on.kept y z.1;
        met = met;
        waiting = on.waiting;
        ram = on.ram;
        steady =
            record { held = sets_holds old.widths s.locals x v on.steady.held; held_too = on.steady.held_too; bytes = on.steady.bytes };
      }
    where
      met : (w : ℕ) → v < 2 → local (sets x v s).locals x ≡ Some w → w ≡ v
      met w few q =
          own_value old.widths s.locals x v w 0 on.steady.held q
          ∙ low_small (get_or old.widths x 0) v 1 (omega (arith, few))
          (one_byte old.widths x sound.widths (has_value old.widths s.locals x v w on.steady.held q))

  -- how a test comes out
  pub walks_test : (t : Test) (b r : Bool) → IsTest old t → decided m t ≡ Some b → holds t s ≡ Some r → r ≡ b
  walks_test t b r h e q = by_met m on.met e
    where
      by_test : (k : Met) → ((v : ℕ) → k.number < 2 → value (Local k.local) s ≡ Some v → v ≡ k.number)
          → (c : Bool) → (is_it (checked t) k.local && nat_lt k.number 2) ≡ c → (if c then Some (k.number == 0) else None) ≡ Some b → r ≡ b
      by_test k has true g e =
          let z = and_parts (is_it (checked t) k.local) (nat_lt k.number 2) g in
          let few : k.number < 2 = less k.number z.1 in
          compared_so t.comparison t.width t.left t.right s k.local k.number h.0.0 z.0 few (λ v. has v few) r q ∙ same_Some (k.number == 0) b e
        where
          less : (x : ℕ) → nat_lt x 2 ≡ true → x < 2
          less x e = grind arith
      by_test k has false g e = absurd (none-some b e)

      by_met : (k : Option Met) → HasMet k s → decided k t ≡ Some b → r ≡ b
      by_met (Some k) has e = by_test k has (is_it (checked t) k.local && nat_lt k.number 2) refl e
      by_met None has e = absurd (none-some b e)

-- ---- ahead

-- both are at a place, or the newer code is already where a walk of the older code will end; a step of it may count that is not spent
pub data Ahead (old now : Procedure) (spent : Bool) (pc at : ℕ) (s u : State) : Type 0 where
  there : AtPlace old now pc at s u → Ahead old now spent pc at s u
  on_way : (fs : List Facts) (ps : List ℕ) → Trims fs ps old now → (a : Facts) (f : Learned) (most : ℕ) (xs : Sets) (m : Option Met) (first : State)
      → walks old.code fs ps a f at most (record { at = pc; spent = spent; sets = xs; met = m }) ≡ true → OnWalk old now a f xs m first s u
      → Ahead old now spent pc at s u

-- where a walk has ended both are at a place
pub ended : (old now : Procedure) (sound : IsSound old) (fs : List Facts) (ps : List ℕ) (trim : Trims fs ps old now) (a : Facts) (f : Learned)
    (spent : Bool) (pc at : ℕ) (xs : Sets) (m : Option Met) (first s u : State) → OnWalk old now a f xs m first s u
    → arrives fs ps a f at (record { at = pc; spent = spent; sets = xs; met = m }) ≡ true → AtPlace old now pc at s u
ended old now sound fs ps trim a f spent pc at xs m first s u on e = by_facts (slice_get fs pc) refl z.1
  where
    z : (is_it (slice_get ps pc) at ≡ true) × (leads_over_in xs f a (slice_get fs pc) ≡ true)
    z = and_parts (is_it (slice_get ps pc) at) (leads_over_in xs f a (slice_get fs pc)) e

    by_facts : (k : Option Facts) → slice_get fs pc ≡ k → leads_over_in xs f a k ≡ true → AtPlace old now pc at s u
    by_facts (Some b) g e = trimmed fs ps trim b g (is_named (slice_get ps pc) at z.0) (arrived old now sound a f xs m first s u on b e)
    by_facts None g e = no e

-- a way begins
pub sets_out : (old now : Procedure) (fs : List Facts) (ps : List ℕ) (trim : Trims fs ps old now) (a : Facts) (f : Learned) (spent : Bool) (to at : ℕ)
    (s u : State) → Agree old.widths now.widths a s u → Learns f s
    → way_leads old.code fs ps a f spent to at ≡ true → Ahead old now spent to at s u
sets_out old now fs ps trim a f spent to at s u g fl e =
    on_way fs ps trim a f most_steps none_set None s e
    (record { began = g; learned = fl; kept = λ x e. refl; met = tt {0}; waiting = g.waiting; ram = g.ram; steady = g.steady })
