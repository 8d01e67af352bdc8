-- Walks, one step further.
use Rattle.std.specs.Prelude.{ℕ, zero, suc, ◌+◌, ◌-◌, Bool, true, false, ◌||◌, List, Option, Some, None, IfSome, slice_get}
use Rattle.std.proofs.Common.{◌≡◌, refl, sym, subst, arith}
use Rattle.vg_lin.specs.declared.instr.Test.{Test}
use Rattle.vg_lin.specs.declared.instr.Instr.{Instr}
use Rattle.vg_lin.specs.declared.instr.Instr.TheVariants.{When, Unless}
use Rattle.vg_lin.specs.Turns.{counts_at}
use Rattle.vg_trimming.specs.declared.facts.Facts.{Facts}
use Rattle.vg_trimming.specs.declared.facts.Learned.{Learned}
use Rattle.vg_trimming.specs.declared.facts.Sets.{Sets}
use Rattle.vg_trimming.specs.Walking.{Walk, none_set, decided, arrives, by_truth, further, walks, most_steps, way_leads}
use Rattle.vg_trim_pairs.specs.declared.walking.Walk.{Walk as TheWalk}
use Rattle.vg_trim_pairs.specs.Views.{walk_in}

one_up : (n : ℕ) → n + 1 ≡ suc n
one_up n = grind arith

pub at_when : (go : Walk → Bool) (counts : Bool) (k : Walk) (t : Test) (to : ℕ) (i : Instr) (truth : Option Bool) (next : Option TheWalk)
    → i ≡ When t to → truth ≡ decided k.met t → IfSome next (λ n. go (walk_in n) ≡ true → by_truth go counts k to (k.at + 1) truth ≡ true)
    → IfSome next (λ n. go (walk_in n) ≡ true → further go counts k (Some i) ≡ true)
at_when go counts k t to i truth next e d h =
    subst (λ j. IfSome next (λ n. go (walk_in n) ≡ true → further go counts k (Some j) ≡ true)) (sym e)
    (subst (λ m. IfSome next (λ n. go (walk_in n) ≡ true → by_truth go counts k to m (decided k.met t) ≡ true)) (one_up k.at)
    (subst (λ b. IfSome next (λ n. go (walk_in n) ≡ true → by_truth go counts k to (k.at + 1) b ≡ true)) d h))

pub at_unless : (go : Walk → Bool) (counts : Bool) (k : Walk) (t : Test) (to : ℕ) (i : Instr) (truth : Option Bool) (next : Option TheWalk)
    → i ≡ Unless t to → truth ≡ decided k.met t → IfSome next (λ n. go (walk_in n) ≡ true → by_truth go counts k (k.at + 1) to truth ≡ true)
    → IfSome next (λ n. go (walk_in n) ≡ true → further go counts k (Some i) ≡ true)
at_unless go counts k t to i truth next e d h =
    subst (λ j. IfSome next (λ n. go (walk_in n) ≡ true → further go counts k (Some j) ≡ true)) (sym e)
    (subst (λ m. IfSome next (λ n. go (walk_in n) ≡ true → by_truth go counts k m to (decided k.met t) ≡ true)) (one_up k.at)
    (subst (λ b. IfSome next (λ n. go (walk_in n) ≡ true → by_truth go counts k (k.at + 1) to b ≡ true)) d h))

or_second : (a b : Bool) → b ≡ true → (a || b) ≡ true
or_second true b e = refl
or_second false b e = e

module _ (is : List Instr) (fs : List Facts) (ps : List ℕ) (before : Facts) (sure : Learned) (place : ℕ) where
  abbrev Walks : ℕ → Walk → Type 0
  Walks most k = walks is fs ps before sure place most k ≡ true

  one_more : (most : ℕ) (k next : Walk) → (most ≡ 0 → ⊥)
      → (Walks (most - 1) next → further (walks is fs ps before sure place (most - 1)) (counts_at is k.at) k (slice_get is k.at) ≡ true)
      → Walks (most - 1) next → Walks most k
  one_more most k next e step h = subst (λ m. Walks m k) (before_it most e) (or_second (arrives fs ps before sure place k) _ (step h))
    where
      before_it : (m : ℕ) → (m ≡ 0 → ⊥) → suc (m - 1) ≡ m
      before_it zero e = absurd (e refl)
      before_it (suc n) e = grind arith

  pub goes_on : (most : ℕ) (k : Walk) (counts : Bool) (instr : Option Instr) (found : Option TheWalk) (next : TheWalk) → (most ≡ 0 → ⊥)
      → counts ≡ counts_at is k.at → instr ≡ slice_get is k.at → found ≡ Some next
      → ((go : Walk → Bool) → IfSome found (λ n. go (walk_in n) ≡ true → further go counts k instr ≡ true))
      → Walks (most - 1) (walk_in next) → Walks most k
  goes_on most k counts instr found next e c i f step h =
      one_more most k (walk_in next) e
      (subst (λ o. IfSome o (λ n. go (walk_in n) ≡ true → further go (counts_at is k.at) k (slice_get is k.at) ≡ true)) f
      (subst (λ x. IfSome found (λ n. go (walk_in n) ≡ true → further go (counts_at is k.at) k x ≡ true)) i
      (subst (λ b. IfSome found (λ n. go (walk_in n) ≡ true → further go b k instr ≡ true)) c (step go))))
      h
    where
      go : Walk → Bool
      go = walks is fs ps before sure place (most - 1)

  pub begins : (spent : Bool) (to : ℕ) (sets : Sets) → sets ≡ none_set → Walks 24 (record { at = to; spent = spent; sets = sets; met = None })
      → way_leads is fs ps before sure spent to place ≡ true
  begins spent to sets e h = unfold most_steps in subst (λ x. Walks 24 (record { at = to; spent = spent; sets = x; met = None })) e h
