-- Where a newer instruction flows as an older one, what waits is what waited, and a procedure that kept what every one keeps still does; where nothing
-- waits anywhere, each instruction keeps that.
use Rattle.std.specs.Prelude.{ℕ, zero, suc, ◌<◌, ◌≤◌, ◌==◌, true, List, [], ◌∷◌, length, drop, Some}
use Rattle.std.proofs.Common.{◌≡◌, refl, sym, ap, ◌∙◌, subst, arith}
use Rattle.std.proofs.lemmas.Option.{same_Some, none-some}
use Rattle.vg_lin.specs.declared.instr.Plain.{Plain as PlainInstr}
use Rattle.vg_lin.specs.declared.instr.Plain.TheVariants.{Copy, Compute, Product, DivideSteps, Load, Store, ReadDevice, WriteDevice, Push, Pop, Find, CodeOf}
use Rattle.vg_lin.specs.declared.instr.Plain.TheVariants.{Stop}
use Rattle.vg_lin.specs.declared.instr.Instr.{Instr}
use Rattle.vg_lin.specs.declared.instr.Instr.TheVariants.{Plain, When, Unless, Jump, Call, Return, Idle}
use Rattle.vg_lin.specs.Program.{Procedure}
use Rattle.vg_lin.specs.Sound.{behind_plain, behind, GoesOn, Jumps, PlainWaits, Waits}
use Rattle.vg_trim.specs.declared.flow.Effect.{Effect}
use Rattle.vg_trim.specs.declared.flow.Effect.TheVariants.{Nothing, Pushes, Pops, Takes}
use Rattle.vg_trim.specs.Flow.{effect_of_plain, effect_of, led_to, is_return, goes_next, is_idle, LeadsAlong, FlowsFreely}

-- ---- what waits

abbrev left_by : Effect → List ℕ → List ℕ
left_by Nothing held = held
left_by (Pushes w) held = w ∷ held
left_by (Pops w) held = drop 1 held
left_by (Takes n) held = drop n held

plain_left : (p : PlainInstr) (held : List ℕ) → behind_plain p held ≡ left_by (effect_of_plain p) held
plain_left (Copy to a) held = refl
plain_left (Compute c) held = refl
plain_left (Product to a b) held = refl
plain_left (DivideSteps r d a) held = refl
plain_left (Load m w to a) held = refl
plain_left (Store w a from) held = refl
plain_left (ReadDevice to a) held = refl
plain_left (WriteDevice to a) held = refl
plain_left (Push w a) held = refl
plain_left (Pop w to) held = refl
plain_left (Find d to a) held = refl
plain_left (CodeOf q to) held = refl
plain_left (Stop c) held = refl

left : (i : Instr) (held : List ℕ) → behind i held ≡ left_by (effect_of i) held
left (Plain p) held = plain_left p held
left (When t to) held = refl
left (Unless t to) held = refl
left (Jump to) held = refl
left (Call c) held = refl
left (Return w a) held = refl
left Idle held = refl

pub same_behind : (i j : Instr) (held : List ℕ) → effect_of i ≡ effect_of j → behind i held ≡ behind j held
same_behind i j held e = left i held ∙ ap (λ f. left_by f held) e ∙ sym (left j held)

none_left : (n : ℕ) → drop {A = ℕ} n [] ≡ []
none_left zero = refl
none_left (suc n) = refl

-- an instruction that changes nothing of what waits leaves nothing where nothing waits
idle_left : (f : Effect) → is_idle f ≡ true → left_by f [] ≡ []
idle_left Nothing e = refl
idle_left (Pushes w) e = absurd (grind arith)
idle_left (Pops w) e = refl
idle_left (Takes n) e = none_left n

pub none_waits : (j : Instr) → is_idle (effect_of j) ≡ true → behind j [] ≡ []
none_waits j e = left j [] ∙ idle_left (effect_of j) e

-- ---- what the older instruction keeps

module _ (p : Procedure) (w : ℕ → List ℕ) (at : ℕ) where
  -- what is said of a value or values that wait no more
  abbrev Gives : Effect → Type 0
  Gives Nothing = Unit {0}
  Gives (Pushes v) = Unit {0}
  Gives (Pops v) = (rest : List ℕ) × (w at ≡ v ∷ rest)
  Gives (Takes n) = n ≤ length (w at)

  plain_gives : (i : PlainInstr) → PlainWaits p w at i → Gives (effect_of_plain i)
  plain_gives (Copy to a) h = tt {0}
  plain_gives (Compute c) h = tt {0}
  plain_gives (Product to a b) h = tt {0}
  plain_gives (DivideSteps r d a) h = tt {0}
  plain_gives (Load m v to a) h = tt {0}
  plain_gives (Store v a from) h = tt {0}
  plain_gives (ReadDevice to a) h = tt {0}
  plain_gives (WriteDevice to a) h = tt {0}
  plain_gives (Push v a) h = tt {0}
  plain_gives (Pop v to) (rest, e, g) = (rest, e)
  plain_gives (Find d to a) h = tt {0}
  plain_gives (CodeOf q to) h = tt {0}
  plain_gives (Stop c) h = tt {0}

  gives : (i : Instr) → Waits p w at i → Gives (effect_of i)
  gives (Plain i) h = plain_gives i h
  gives (When t to) h = tt {0}
  gives (Unless t to) h = tt {0}
  gives (Jump to) h = tt {0}
  gives (Call c) (h, g) = h
  gives (Return v a) h = tt {0}
  gives Idle h = tt {0}

  jumps : (i : Instr) (to : ℕ) → led_to i ≡ Some to → Waits p w at i → Jumps p w at to (w at)
  jumps (Plain i) to e h = absurd (none-some to e)
  jumps (When t x) to e (j, g) = subst (λ z. Jumps p w at z (w at)) (same_Some x to e) j
  jumps (Unless t x) to e (j, g) = subst (λ z. Jumps p w at z (w at)) (same_Some x to e) j
  jumps (Jump x) to e j = subst (λ z. Jumps p w at z (w at)) (same_Some x to e) j
  jumps (Call c) to e h = absurd (none-some to e)
  jumps (Return v a) to e h = absurd (none-some to e)
  jumps Idle to e h = absurd (none-some to e)

  pub returns : (i : Instr) → is_return i ≡ true → Waits p w at i → w at ≡ []
  returns (Plain i) e h = absurd (grind arith)
  returns (When t to) e h = absurd (grind arith)
  returns (Unless t to) e h = absurd (grind arith)
  returns (Jump to) e h = absurd (grind arith)
  returns (Call c) e h = absurd (grind arith)
  returns (Return v a) e h = h
  returns Idle e h = absurd (grind arith)

-- ---- what the newer one keeps

rest_of : (held rest : List ℕ) (x : ℕ) → held ≡ x ∷ rest → drop 1 held ≡ rest
rest_of held rest x e = ap (drop 1) e

module _ (p q : Procedure) (w : ℕ → List ℕ) (at : ℕ) (long : length q.code ≡ length p.code) (i : Instr) (h : Waits p w at i) where
  jumps_too : (to : ℕ) → led_to i ≡ Some to → Jumps q w at to (w at)
  jumps_too to e =
      let (n, (lt, same)) = jumps p w at i to e h in
      (n, (subst (λ k. to < k) (sym long) lt, same))

  plain_too : (j : PlainInstr) → effect_of i ≡ effect_of_plain j → (goes_next (Plain j) ≡ true → GoesOn q w (suc at) (behind_plain j (w at)))
      → PlainWaits q w at j
  plain_too (Copy to a) e g = g refl
  plain_too (Compute c) e g = g refl
  plain_too (Product to a b) e g = g refl
  plain_too (DivideSteps r d a) e g = g refl
  plain_too (Load m v to a) e g = g refl
  plain_too (Store v a from) e g = g refl
  plain_too (ReadDevice to a) e g = g refl
  plain_too (WriteDevice to a) e g = g refl
  plain_too (Push v a) e g = g refl
  plain_too (Pop v to) e g =
      let (rest, same) = subst (Gives p w at) e (gives p w at i h) in
      (rest, same, subst (GoesOn q w (suc at)) (rest_of (w at) rest v same) (g refl))
  plain_too (Find d to a) e g = g refl
  plain_too (CodeOf n to) e g = g refl
  plain_too (Stop c) e g = tt {0}

  pub waits_too : (j : Instr) → effect_of i ≡ effect_of j → LeadsAlong (led_to i) (led_to j) → (is_return j ≡ true → is_return i ≡ true)
      → (goes_next j ≡ true → GoesOn q w (suc at) (behind j (w at))) → Waits q w at j
  waits_too (Plain j) e l r g = plain_too j e g
  waits_too (When t to) e l r g = (jumps_too to l, g refl)
  waits_too (Unless t to) e l r g = (jumps_too to l, g refl)
  waits_too (Jump to) e l r g = jumps_too to l
  waits_too (Call c) e l r g = (subst (Gives p w at) e (gives p w at i h), g refl)
  waits_too (Return v a) e l r g = returns p w at i (r refl) h
  waits_too Idle e l r g = g refl

-- ---- where nothing waits

abbrev pub none : ℕ → List ℕ
none k = []

module _ (q : Procedure) (at : ℕ) where
  plain_free : (p : PlainInstr) → is_idle (effect_of_plain p) ≡ true → (goes_next (Plain p) ≡ true → suc at < length q.code) → PlainWaits q none at p
  plain_free (Copy to a) e g = (g refl, refl)
  plain_free (Compute c) e g = (g refl, refl)
  plain_free (Product to a b) e g = (g refl, refl)
  plain_free (DivideSteps r d a) e g = (g refl, refl)
  plain_free (Load m v to a) e g = (g refl, refl)
  plain_free (Store v a from) e g = (g refl, refl)
  plain_free (ReadDevice to a) e g = (g refl, refl)
  plain_free (WriteDevice to a) e g = (g refl, refl)
  plain_free (Push v a) e g = absurd (grind arith)
  plain_free (Pop v to) e g = absurd (grind arith)
  plain_free (Find d to a) e g = (g refl, refl)
  plain_free (CodeOf n to) e g = (g refl, refl)
  plain_free (Stop c) e g = tt {0}

  none_taken : (n : ℕ) → (n == 0) ≡ true → n ≤ length {A = ℕ} []
  none_taken n e = grind arith

  pub waits_free : (j : Instr) → FlowsFreely (length q.code) at j → Waits q none at j
  waits_free (Plain p) f = plain_free p f.waits f.next
  waits_free (When t to) f = ((f.leads.0, (f.leads.1, refl)), (f.next refl, refl))
  waits_free (Unless t to) f = ((f.leads.0, (f.leads.1, refl)), (f.next refl, refl))
  waits_free (Jump to) f = (f.leads.0, (f.leads.1, refl))
  waits_free (Call c) f = (none_taken c.pushed f.waits, (f.next refl, sym (none_left c.pushed)))
  waits_free (Return v a) f = refl
  waits_free Idle f = (f.next refl, refl)
