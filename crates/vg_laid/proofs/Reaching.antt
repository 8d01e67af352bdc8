-- Distances that reach lead where they are to.
use Rattle.std.specs.Prelude.{ℕ, ◌+◌, ◌-◌, ◌%◌, ◌<◌, ◌≤◌, ◌≢◌, ◌⊎◌, ◌==◌, nat_lt, ◌&&◌, Bool, true, false, if◌then◌else◌, List, length}
use Rattle.std.proofs.Common.{◌≡◌, refl, ap, ◌∙◌, arith, inl, inr}
use Rattle.avr_isa.specs.Flow.{near_from, far_from}
use Rattle.avr_view.proofs.Going.{below_or_not}
use Rattle.vg_lin.specs.declared.instr.Instr.{Instr}
use Rattle.vg_templates.specs.Layouts.{Layout}
use Rattle.vg_followed.specs.Stands.{HopLeads, TurnLeads, WayLeads}
use Rattle.vg_put_programs.specs.declared.reach.Reach.{Reach}
use Rattle.vg_put_programs.specs.declared.reach.Reach.TheVariants.{Short as Within7, Near as Within12, Far as Beyond}
use Rattle.vg_put_programs.specs.Programs.{aim_in, behind_in, is_within, reach_for, reach_in, offset_to}
use Rattle.vg_laid.specs.Laid.{hop_by, turn_by, way_by}
use Rattle.vg_laid.proofs.Sizes.{turn_words}

-- ---- what is in reach

abbrev pub Reaches : (half behind aim : ℕ) → Type 0
Reaches half behind aim = (behind ≤ aim + half) × (aim < behind + half)

abbrev pub InReach : Reach → (behind aim : ℕ) → Type 0
InReach Within7 behind aim = Reaches 64 behind aim
InReach Within12 behind aim = Reaches 2048 behind aim
InReach Beyond behind aim = Unit {0}

both_true : (a b : Bool) → (a && b) ≡ true → (a ≡ true) × (b ≡ true)
both_true true b e = (refl, e)
both_true false b e = absurd (let clash : false ≡ true = e in cc)

is_below : (a b : ℕ) → nat_lt a b ≡ true → a < b
is_below a b e = grind arith

within_reaches : (half behind aim : ℕ) → is_within half behind aim ≡ true → Reaches half behind aim
within_reaches half behind aim e =
    let both = both_true (nat_lt behind (aim + half + 1)) (nat_lt aim (behind + half)) e in
    let low = is_below behind (aim + half + 1) both.0 in (omega (arith, low), is_below aim (behind + half) both.1)

for_reach : (behind aim : ℕ) → InReach (reach_for behind aim) behind aim
for_reach behind aim = short (is_within 64 behind aim) refl
  where
    near : (x : Bool) → is_within 2048 behind aim ≡ x → InReach (if x then Within12 else Beyond) behind aim
    near true e = within_reaches 2048 behind aim e
    near false e = tt

    short : (x : Bool) → is_within 64 behind aim ≡ x
        → InReach (if x then Within7 else if is_within 2048 behind aim then Within12 else Beyond) behind aim
    short true e = within_reaches 64 behind aim e
    short false e = near (is_within 2048 behind aim) refl

pub reached : (l : Layout) (entries places : List ℕ) (pc : ℕ) (i : Instr)
    → InReach (reach_in l entries places pc i) (behind_in l places pc i) (aim_in entries places i)
reached l entries places pc i = by_length (length places == 0)
  where
    by_length : (x : Bool)
        → InReach (if x then Beyond else reach_for (behind_in l places pc i) (aim_in entries places i)) (behind_in l places pc i) (aim_in entries places i)
    by_length true = tt
    by_length false = for_reach (behind_in l places pc i) (aim_in entries places i)

-- ---- what is in reach stays there, where all stands nearer

-- two places that lie in the same order as two others, and no further from one another
abbrev pub Nearer : (far_behind far_aim behind aim : ℕ) → Type 0
Nearer fb fa b a = ((b + fa ≤ fb + a) × (a ≤ b)) ⊎ ((a + fb ≤ fa + b) × (b ≤ a))

still_reaches : (half fu fv u v fb b c : ℕ) → 1 ≤ half → c ≤ 1 → fb ≡ fu + c → b ≡ u + c → Nearer fu fv u v → Reaches half fb fv → Reaches half b v
still_reaches half fu fv u v fb b c some one ef en (inl (x, y)) (h, k) = (omega (arith, one, ef, en, x, h), omega (arith, some, en, y))
still_reaches half fu fv u v fb b c some one ef en (inr (x, y)) (h, k) = (omega (arith, some, one, en, y), omega (arith, ef, en, x, k))

pub still_in_reach : (r : Reach) (fu fv u v fb b c : ℕ) → c ≤ 1 → fb ≡ fu + c → b ≡ u + c → Nearer fu fv u v → InReach r fb fv → InReach r b v
still_in_reach Within7 fu fv u v fb b c one ef en near h = still_reaches 64 fu fv u v fb b c (omega arith) one ef en near h
still_in_reach Within12 fu fv u v fb b c one ef en near h = still_reaches 2048 fu fv u v fb b c (omega arith) one ef en near h
still_in_reach Beyond fu fv u v fb b c one ef en near h = tt

-- ---- distances

below : (a b : ℕ) → a < b → nat_lt a b ≡ true
below a b h = grind (arith, h)

past : (a b : ℕ) → b ≤ a → nat_lt a b ≡ false
past a b h = grind (arith, h)

far_forward : (here k to : ℕ) → k < 2048 → here + 1 + k ≡ to → to < 65536 → far_from here k ≡ to
far_forward here k to h e low =
    ap (λ b. (here + 1 + k + (if b then 0 else 0xF000)) % 65536) (below k 0x800 h) ∙ (let z : (here + 1 + k + 0) % 65536 ≡ to = omega (arith, e, low) in z)

far_back : (here k to : ℕ) → 2048 ≤ k → here + 1 + k ≡ to + 4096 → to < 65536 → far_from here k ≡ to
far_back here k to h e low =
    ap (λ b. (here + 1 + k + (if b then 0 else 0xF000)) % 65536) (past k 0x800 h)
    ∙ (let z : (here + 1 + k + 0xF000) % 65536 ≡ to = omega (arith, e, low) in z)

near_forward : (here k to : ℕ) → k < 64 → here + 1 + k ≡ to → to < 65536 → near_from here k ≡ to
near_forward here k to h e low =
    ap (λ b. (here + 1 + k + (if b then 0 else 0xFF80)) % 65536) (below k 0x40 h) ∙ (let z : (here + 1 + k + 0) % 65536 ≡ to = omega (arith, e, low) in z)

near_back : (here k to : ℕ) → 64 ≤ k → here + 1 + k ≡ to + 128 → to < 65536 → near_from here k ≡ to
near_back here k to h e low =
    ap (λ b. (here + 1 + k + (if b then 0 else 0xFF80)) % 65536) (past k 0x40 h)
    ∙ (let z : (here + 1 + k + 0xFF80) % 65536 ≡ to = omega (arith, e, low) in z)

ahead12 : (behind aim d : ℕ) → aim ≡ behind + d → d < 4096 → offset_to 4096 behind aim ≡ d
ahead12 behind aim d e h = omega (arith, e, h)

back12 : (behind aim d : ℕ) → behind ≡ aim + d → 1 ≤ d → d ≤ 4096 → offset_to 4096 behind aim + d ≡ 4096
back12 behind aim d e some h = omega (arith, e, some, h)

ahead7 : (behind aim d : ℕ) → aim ≡ behind + d → d < 128 → offset_to 128 behind aim ≡ d
ahead7 behind aim d e h = omega (arith, e, h)

back7 : (behind aim d : ℕ) → behind ≡ aim + d → 1 ≤ d → d ≤ 128 → offset_to 128 behind aim + d ≡ 128
back7 behind aim d e some h = omega (arith, e, some, h)

apart : (a b : ℕ) → a ≤ b → (d : ℕ) × (b ≡ a + d)
apart a b h = (b - a, omega (arith, h))

leads12 : (here behind aim : ℕ) → behind ≡ here + 1 → Reaches 2048 behind aim → aim < 65536 → far_from here (offset_to 4096 behind aim) ≡ aim
leads12 here behind aim e (h, k) low = elim (below_or_not aim behind) [
  | inl less ↦
      (let d = apart aim behind (omega (arith, less)) in let x = back12 behind aim d.0 d.1 (omega (arith, less, d.1)) (omega (arith, h, d.1)) in
      far_back here (offset_to 4096 behind aim) aim (omega (arith, x, h, d.1)) (omega (arith, x, e, d.1)) low)
  | inr more ↦
      (let d = apart behind aim more in let x = ahead12 behind aim d.0 d.1 (omega (arith, k, d.1)) in
      far_forward here (offset_to 4096 behind aim) aim (omega (arith, x, k, d.1)) (omega (arith, x, e, d.1)) low)
]

leads7 : (here behind aim : ℕ) → behind ≡ here + 1 → Reaches 64 behind aim → aim < 65536 → near_from here (offset_to 128 behind aim) ≡ aim
leads7 here behind aim e (h, k) low = elim (below_or_not aim behind) [
  | inl less ↦
      (let d = apart aim behind (omega (arith, less)) in let x = back7 behind aim d.0 d.1 (omega (arith, less, d.1)) (omega (arith, h, d.1)) in
      near_back here (offset_to 128 behind aim) aim (omega (arith, x, h, d.1)) (omega (arith, x, e, d.1)) low)
  | inr more ↦
      (let d = apart behind aim more in let x = ahead7 behind aim d.0 d.1 (omega (arith, k, d.1)) in
      near_forward here (offset_to 128 behind aim) aim (omega (arith, x, k, d.1)) (omega (arith, x, e, d.1)) low)
]

-- ---- jumps, calls and branches

reduced : (z : ℕ) → z < 65536 → z % 65536 ≡ z
reduced z h = omega (arith, h)

pub hop_leads : (r : Reach) (here behind aim : ℕ) → behind ≡ here + 1 → InReach r behind aim → aim < 65536 → aim ≢ here
    → HopLeads (hop_by r behind aim) here aim
hop_leads Within7 here behind aim e (h, k) low other = (leads12 here behind aim e (omega (arith, h), omega (arith, k)) low, other)
hop_leads Within12 here behind aim e h low other = (leads12 here behind aim e h low, other)
hop_leads Beyond here behind aim e h low other = (reduced aim low, other)

pub way_leads : (r : Reach) (here behind aim : ℕ) → behind ≡ here + 1 → InReach r behind aim → aim < 65536 → WayLeads (way_by r behind aim) here aim
way_leads Within7 here behind aim e (h, k) low = leads12 here behind aim e (omega (arith, h), omega (arith, k)) low
way_leads Within12 here behind aim e h low = leads12 here behind aim e h low
way_leads Beyond here behind aim e h low = reduced aim low

-- A branch leads to no place within the code that it goes past.
pub turn_leads : (r : Reach) (branch behind aim : ℕ) → behind ≡ branch + turn_words r → InReach r behind aim → aim < 65536
    → (branch + 1 < behind → aim ≢ branch + 1) → TurnLeads (turn_by r behind aim) branch aim
turn_leads Within7 branch behind aim e h low other = leads7 branch behind aim e h low
turn_leads Within12 branch behind aim e h low other =
    hop_leads Within12 (branch + 1) behind aim (omega (arith, e)) h low (other (omega (arith, e)))
turn_leads Beyond branch behind aim e h low other = (reduced aim low, other (omega (arith, e)))
