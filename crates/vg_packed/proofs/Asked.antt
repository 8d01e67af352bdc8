-- What the steps of live methods ask for.
use Rattle.std.proofs.Common.{◌≡◌, refl, sym, ap, subst, ◌∙◌, arith, ℕ, zero, suc, ◌+◌, ◌==◌, ◌&&◌, ◌||◌, Bool, true, false}
use Rattle.std.proofs.Common.{List, [], ◌∷◌, ◌++◌, is_some, Option, Some, None, slice_get, if◌then◌else◌}
use Rattle.vg_core.specs.declared.step.Step.{Step}
use Rattle.vg_core.specs.Program.{Program}
use Rattle.vg_live.specs.declared.live_set.Reason.{Reason}
use Rattle.vg_live.specs.Uses.{asked, steps_of}
use Rattle.vg_live.specs.Uses as uses
use Rattle.vg_number.specs.Numbering.{has_reason}
use Rattle.vg_pack_code.specs.declared.plan.Asked.{Asked}
use Rattle.vg_pack_calls.specs.Asked.{steps_if, steps_from, is_there, with_pair, with_asked, asked_from}

false_true : {B : Type 0} → false ≡ true → B
false_true e = absurd cc

-- ---- what stands among steps

data Among (s : Step) : List Step → Type 0 where
  here : {ss : List Step} → Among s (s ∷ ss)
  there : {t : Step} {ss : List Step} → Among s ss → Among s (t ∷ ss)

among : (ss : List Step) (i : ℕ) (s : Step) → slice_get ss i ≡ Some s → Among s ss
among [] i s e = absurd (grind (arith, e))
among (t ∷ ss) zero s e = let q : t ≡ s = cc in subst (λ z. Among s (z ∷ ss)) (sym q) here
among (t ∷ ss) (suc i) s e = there (among ss i s e)

front : (s : Step) (xs ys : List Step) → Among s xs → Among s (xs ++ ys)
front s _ ys here = here
front s _ ys (there {ss = ss} a) = there (front s ss ys a)

rear : (s : Step) (xs ys : List Step) → Among s ys → Among s (xs ++ ys)
rear s [] ys a = a
rear s (x ∷ xs) ys a = there (rear s xs ys a)

live_among : (p : Program) (m : ℕ) (live : List (Option Reason)) (k : ℕ) (s : Step) → has_reason live k ≡ true → Among s (steps_of p (k + m))
    → Among s (steps_from p m live)
live_among p m [] k s e a = absurd (grind (arith, e))
live_among p m (r ∷ rs) zero s e a =
    front s (steps_if p (is_some r) m) (steps_from p (suc m) rs)
    (subst (λ b. Among s (steps_if p b m)) (sym e) (let z : 0 + m ≡ m = omega arith in subst (λ i. Among s (steps_of p i)) z a))
live_among p m (r ∷ rs) (suc k) s e a =
    rear s (steps_if p (is_some r) m) (steps_from p (suc m) rs)
    (live_among p (suc m) rs k s e (let z : suc k + m ≡ k + suc m = omega arith in subst (λ i. Among s (steps_of p i)) z a))

-- ---- what is asked for

or_true : (b : Bool) → (b || true) ≡ true
or_true true = refl
or_true false = refl

behind : (xs ys : List Asked) (c s : ℕ) → is_there ys c s ≡ true → is_there (xs ++ ys) c s ≡ true
behind [] ys c s e = e
behind (x ∷ xs) ys c s e = ap (λ b. ((x.class == c) && (x.selector == s)) || b) (behind xs ys c s e) ∙ or_true ((x.class == c) && (x.selector == s))

before : (xs ys : List Asked) (c s : ℕ) → is_there xs c s ≡ true → is_there (xs ++ ys) c s ≡ true
before [] ys c s e = false_true e
before (x ∷ xs) ys c s e = by ((x.class == c) && (x.selector == s)) e (before xs ys c s)
  where
    by : (b : Bool) → (b || is_there xs c s) ≡ true → (is_there xs c s ≡ true → is_there (xs ++ ys) c s ≡ true) → (b || is_there (xs ++ ys) c s) ≡ true
    by true h again = refl
    by false h again = again h

pair_stays : (xs : List Asked) (a b c s : ℕ) → is_there xs c s ≡ true → is_there (with_pair xs a b) c s ≡ true
pair_stays xs a b c s e = by (is_there xs a b)
  where
    by : (t : Bool) → is_there (if t then xs else xs ++ record { class = a; selector = b } ∷ []) c s ≡ true
    by true = e
    by false = before xs (record { class = a; selector = b } ∷ []) c s e

pair_there : (xs : List Asked) (c s : ℕ) → is_there (with_pair xs c s) c s ≡ true
pair_there xs c s = by (is_there xs c s) refl
  where
    itself : is_there (record { class = c; selector = s } ∷ []) c s ≡ true
    itself = let u : (c == c) ≡ true = grind arith in let v : (s == s) ≡ true = grind arith in rw u (rw v refl)

    by : (t : Bool) → is_there xs c s ≡ t → is_there (if t then xs else xs ++ record { class = c; selector = s } ∷ []) c s ≡ true
    by true q = q
    by false q = behind xs (record { class = c; selector = s } ∷ []) c s itself

asked_stays : (xs : List Asked) (o : Option uses.Asked) (c s : ℕ) → is_there xs c s ≡ true → is_there (with_asked xs o) c s ≡ true
asked_stays xs (Some a) c s e = pair_stays xs a.class a.selector c s e
asked_stays xs None c s e = e

stays : (xs : List Asked) (ss : List Step) (c s : ℕ) → is_there xs c s ≡ true → is_there (asked_from xs ss) c s ≡ true
stays xs [] c s e = e
stays xs (t ∷ ss) c s e = stays (with_asked xs (asked t)) ss c s (asked_stays xs (asked t) c s e)

asked_by : (s : Step) (a : uses.Asked) → asked s ≡ Some a → (xs : List Asked) (ss : List Step) → Among s ss
    → is_there (asked_from xs ss) a.class a.selector ≡ true
asked_by s a e xs _ (here {ss = ss}) =
    stays (with_asked xs (asked s)) ss a.class a.selector
    (subst (λ o. is_there (with_asked xs o) a.class a.selector ≡ true) (sym e) (pair_there xs a.class a.selector))
asked_by s a e xs _ (there {t = t} {ss = ss} h) = asked_by s a e (with_asked xs (asked t)) ss h

pub is_asked : (p : Program) (live : List (Option Reason)) (m i : ℕ) (s : Step) (a : uses.Asked) → has_reason live m ≡ true
    → slice_get (steps_of p m) i ≡ Some s → asked s ≡ Some a → is_there (asked_from [] (steps_from p 0 live)) a.class a.selector ≡ true
is_asked p live m i s a l e q =
    asked_by s a q [] (steps_from p 0 live)
    (live_among p 0 live m s l (let z : m + 0 ≡ m = omega arith in subst (λ k. Among s (steps_of p k)) (sym z) (among (steps_of p m) i s e)))
