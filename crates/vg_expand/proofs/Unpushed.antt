-- Steps that are no pushes: how many are made by one run behind another one, and that those that count are among them.
use Rattle.std.specs.Prelude.{ℕ, zero, suc, ◌+◌, ◌≤◌, Bool, true, false, not, List, Option, Some, None, slice_get}
use Rattle.std.proofs.Common.{◌≡◌, refl, sym, ap, ◌∙◌, arith}
use Rattle.vg_meaning.specs.Answer.{End}
use Rattle.vg_lin.specs.declared.instr.Instr.{Instr}
use Rattle.vg_lin.specs.declared.instr.Instr.TheVariants.{Plain, When, Unless, Jump, Call, Return, Idle}
use Rattle.vg_lin.specs.Steps.{Language, Config, code_of, stepped, step, steps}
use Rattle.vg_lin.specs.Turns.{instr_counts, next_counts, step_counts, one_more, counted}
use Rattle.vg_lin.specs.Follows.{Leads}
use Rattle.vg_expand.specs.Unpushed.{is_push, next_pushes, step_pushes, unpushed}

-- one step more, or none
pub no_less : (b : Bool) (m n : ℕ) → m ≤ n → m ≤ one_more b n
no_less true m n h = omega (arith, h)
no_less false m n h = h

one_within : (b : Bool) (k n : ℕ) → k ≤ n → one_more b k ≤ suc n
one_within true k n h = omega (arith, h)
one_within false k n h = omega (arith, h)

one_beside : (b : Bool) (m k : ℕ) → one_more b (m + k) ≡ one_more b m + k
one_beside true m k = omega arith
one_beside false m k = refl

one_apart : (b : Bool) (k : ℕ) → one_more b k ≡ one_more b 0 + k
one_apart true k = omega arith
one_apart false k = omega arith

none_before : (k : ℕ) → zero + k ≡ k
none_before k = omega arith

one_before : (j k : ℕ) → suc j + k ≡ suc (j + k)
one_before j k = omega arith

-- an instruction that counts is no push
counts_unpushed : (code : List Instr) (at : ℕ) (i : Option Instr) → one_more (instr_counts code at i) 0 ≤ one_more (not (is_push i)) 0
counts_unpushed code at None = omega arith
counts_unpushed code at (Some (Plain p)) = omega arith
counts_unpushed code at (Some (When t to)) = one_within (instr_counts code at (Some (When t to))) 0 0 (omega arith)
counts_unpushed code at (Some (Unless t to)) = one_within (instr_counts code at (Some (Unless t to))) 0 0 (omega arith)
counts_unpushed code at (Some (Jump to)) = omega arith
counts_unpushed code at (Some (Call c)) = omega arith
counts_unpushed code at (Some (Return w a)) = omega arith
counts_unpushed code at (Some Idle) = omega arith

module _ {S : Type 0} (l : Language S) (procs : List (List Instr)) where
  -- no more are made than there are steps
  pub unpushed_within : (n : ℕ) (c : Config S) → unpushed l procs n c ≤ n
  unpushed_within zero c = omega arith
  unpushed_within (suc n) c =
      one_within (not (step_pushes procs c)) (unpushed l procs n (step l procs c)) n (unpushed_within n (step l procs c))

  -- a step that counts is no push
  step_unpushed : (c : Config S) → one_more (step_counts procs c) 0 ≤ one_more (not (step_pushes procs c)) 0
  step_unpushed c = by_ending c.ending c.woken
    where
      by_ending : (e : Option End) (v : Option ℕ) → one_more (next_counts procs c e v) 0 ≤ one_more (not (next_pushes procs c e v)) 0
      by_ending (Some why) v = omega arith
      by_ending None (Some v) = omega arith
      by_ending None None =
          counts_unpushed (code_of (slice_get procs c.proc)) c.pc (slice_get (code_of (slice_get procs c.proc)) c.pc)

  pub counted_unpushed : (n : ℕ) (c : Config S) → counted l procs n c ≤ unpushed l procs n c
  counted_unpushed zero c = omega arith
  counted_unpushed (suc n) c =
      both (step_counts procs c) (not (step_pushes procs c)) (counted l procs n (step l procs c)) (unpushed l procs n (step l procs c))
      (step_unpushed c) (counted_unpushed n (step l procs c))
    where
      both : (a b : Bool) (j k : ℕ) → one_more a 0 ≤ one_more b 0 → j ≤ k → one_more a j ≤ one_more b k
      both true true j k h g = omega (arith, g)
      both true false j k h g = absurd (omega (arith, h))
      both false b j k h g = no_less b j k g

  -- ---- one run behind another one

  steps_then : (j k : ℕ) (c : Config S) → steps l procs (j + k) c ≡ steps l procs k (steps l procs j c)
  steps_then zero k c = ap (λ z. steps l procs z c) (none_before k)
  steps_then (suc j) k c = ap (λ z. steps l procs z c) (one_before j k) ∙ steps_then j k (step l procs c)

  unpushed_then : (j k : ℕ) (c : Config S) → unpushed l procs (j + k) c ≡ unpushed l procs j c + unpushed l procs k (steps l procs j c)
  unpushed_then zero k c = ap (λ z. unpushed l procs z c) (none_before k) ∙ sym (none_before (unpushed l procs k c))
  unpushed_then (suc j) k c =
      ap (λ z. unpushed l procs z c) (one_before j k) ∙ ap (one_more (not (step_pushes procs c))) (unpushed_then j k (step l procs c))
      ∙ one_beside (not (step_pushes procs c)) (unpushed l procs j (step l procs c)) (unpushed l procs k (steps l procs j (step l procs c)))

  -- the first step of a way is among those that are no pushes, where it is none
  first_unpushed : (j : ℕ) (c : Config S) → 1 ≤ j → one_more (not (step_pushes procs c)) 0 ≤ unpushed l procs j c
  first_unpushed zero c h = absurd (omega (arith, h))
  first_unpushed (suc j) c h = more (not (step_pushes procs c)) (unpushed l procs j (step l procs c))
    where
      more : (b : Bool) (k : ℕ) → one_more b 0 ≤ one_more b k
      more true k = omega arith
      more false k = omega arith

  -- by a way of at least one step
  pub leads_unpushed : (c d : Config S) → Leads l procs 1 c d → (k : ℕ)
      → (j : ℕ) × (one_more (not (step_pushes procs c)) (unpushed l procs k d) ≤ unpushed l procs j c) × (steps l procs j c ≡ steps l procs k d)
  leads_unpushed c d t k = behind (t.by 0)
    where
      behind : (i : ℕ) × (0 + 1 ≤ i) × (steps l procs i c ≡ d)
          → (j : ℕ) × (one_more (not (step_pushes procs c)) (unpushed l procs k d) ≤ unpushed l procs j c) × (steps l procs j c ≡ steps l procs k d)
      behind (i, h, e) = (
        i + k,
        let f = first_unpushed i c (omega (arith, h)) in
            let g = unpushed_then i k c in
            let r = ap (unpushed l procs k) e in
            let s = one_apart (not (step_pushes procs c)) (unpushed l procs k d) in omega (arith, f, g, r, s),
        steps_then i k c ∙ ap (steps l procs k) e,
      )

  -- ---- a run that has ended

  stays : (c : Config S) (why : End) → c.ending ≡ Some why → step l procs c ≡ c
  stays c why e = ap (λ x. stepped l procs c x c.woken) e

  -- its steps are no pushes
  pub ended_unpushed : (n : ℕ) (c : Config S) (why : End) → c.ending ≡ Some why → unpushed l procs n c ≡ n
  ended_unpushed zero c why e = refl
  ended_unpushed (suc n) c why e =
      ap (λ x. one_more (not (next_pushes procs c x c.woken)) (unpushed l procs n (step l procs c))) e
      ∙ ap suc (ap (unpushed l procs n) (stays c why e) ∙ ended_unpushed n c why e)
