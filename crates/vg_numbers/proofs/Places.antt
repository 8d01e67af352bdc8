-- Where lists of numbers stand against one another.
use Rattle.std.proofs.Common.{◌≡◌, ◌⊎◌, refl, sym, ap, ◌∙◌, arith, ℕ, ◌<◌, Bool, true, false, List, [], ◌∷◌, if◌then◌else◌, nat_lt}
use mathlib.Core.Logic.{inl, inr}
use Rattle.vg_numbers.specs.Keys.{Where, Earlier, Inside, Later, place}

abbrev pub rank_of : Where → ℕ
rank_of Earlier = 0
rank_of Inside = 1
rank_of Later = 2

differ : (a b : Where) → a ≡ b → rank_of a ≡ rank_of b
differ a b e = ap rank_of e

-- how heads compare
abbrev pub Heads : ℕ → ℕ → Where → Where → Type 0
Heads x c w d = ((x < c) × (w ≡ Earlier)) ⊎ ((c < x) × (w ≡ Later)) ⊎ ((x ≡ c) × (w ≡ d))

pub heads : (x c : ℕ) (cs xs : List ℕ) → Heads x c (place (c ∷ cs) (x ∷ xs)) (place cs xs)
heads x c cs xs = by (nat_lt x c) refl (nat_lt c x) refl
  where
    by : (a : Bool) → nat_lt x c ≡ a → (b : Bool) → nat_lt c x ≡ b → Heads x c (if a then Earlier else if b then Later else place cs xs) (place cs xs)
    by true e b f = inl (grind (arith, e), refl)
    by false e true f = inr (inl (grind (arith, f), refl))
    by false e false f = inr (inr (grind (arith, e, f), refl))

pub clash : (w a b : Where) → w ≡ a → w ≡ b → ((rank_of a ≡ rank_of b) → ⊥) → ⊥
clash w a b e f n = n (ap rank_of (sym e ∙ f))

pub earlier_head : (x c : ℕ) (cs xs : List ℕ) → x < c → place (c ∷ cs) (x ∷ xs) ≡ Earlier
earlier_head x c cs xs lt = by (heads x c cs xs)
  where
    by : Heads x c (place (c ∷ cs) (x ∷ xs)) (place cs xs) → place (c ∷ cs) (x ∷ xs) ≡ Earlier
    by (inl (l, e)) = e
    by (inr (inl (l, e))) = absurd (omega (arith, l, lt))
    by (inr (inr (l, e))) = absurd (omega (arith, l, lt))

pub same_head : (x c : ℕ) (cs xs : List ℕ) → x ≡ c → place (c ∷ cs) (x ∷ xs) ≡ place cs xs
same_head x c cs xs eq = by (heads x c cs xs)
  where
    by : Heads x c (place (c ∷ cs) (x ∷ xs)) (place cs xs) → place (c ∷ cs) (x ∷ xs) ≡ place cs xs
    by (inl (l, e)) = absurd (omega (arith, l, eq))
    by (inr (inl (l, e))) = absurd (omega (arith, l, eq))
    by (inr (inr (l, e))) = e

-- what is earlier than an earlier one is earlier
pub earlier_than : (c k j : List ℕ) → place c k ≡ Earlier → place k j ≡ Earlier → place c j ≡ Earlier
earlier_than [] k j p q = absurd (clash Inside Inside Earlier refl p (λ z. omega (arith, z)))
earlier_than (c ∷ cs) [] j p q = absurd (clash Inside Inside Earlier refl q (λ z. omega (arith, z)))
earlier_than (c ∷ cs) (k ∷ ks) [] p q = refl
earlier_than (c ∷ cs) (k ∷ ks) (j ∷ js) p q = by (heads k c cs ks) (heads j k ks js) (earlier_than cs ks js)
  where
    by : Heads k c (place (c ∷ cs) (k ∷ ks)) (place cs ks) → Heads j k (place (k ∷ ks) (j ∷ js)) (place ks js)
        → (place cs ks ≡ Earlier → place ks js ≡ Earlier → place cs js ≡ Earlier) → place (c ∷ cs) (j ∷ js) ≡ Earlier
    by (inl (a, e)) (inl (b, f)) h = earlier_head j c cs js (omega (arith, a, b))
    by (inl (a, e)) (inr (inr (b, f))) h = earlier_head j c cs js (omega (arith, a, b))
    by (inr (inr (a, e))) (inl (b, f)) h = earlier_head j c cs js (omega (arith, a, b))
    by (inr (inr (a, e))) (inr (inr (b, f))) h = same_head j c cs js (b ∙ a) ∙ h (sym e ∙ p) (sym f ∙ q)
    by (inr (inl (a, e))) y h = absurd (clash _ Later Earlier e p (λ z. omega (arith, z)))
    by x (inr (inl (b, f))) h = absurd (clash _ Later Earlier f q (λ z. omega (arith, z)))

-- what is earlier than one inside is earlier or inside
pub earlier_than_inside : (c k j : List ℕ) → place c k ≡ Inside → place k j ≡ Earlier → (place c j ≡ Earlier) ⊎ (place c j ≡ Inside)
earlier_than_inside [] k j p q = inr refl
earlier_than_inside (c ∷ cs) [] j p q = absurd (clash Earlier Earlier Inside refl p (λ z. omega (arith, z)))
earlier_than_inside (c ∷ cs) (k ∷ ks) [] p q = inl refl
earlier_than_inside (c ∷ cs) (k ∷ ks) (j ∷ js) p q = by (heads k c cs ks) (heads j k ks js) (earlier_than_inside cs ks js)
  where
    same : j ≡ c → (place cs js ≡ Earlier) ⊎ (place cs js ≡ Inside) → (place (c ∷ cs) (j ∷ js) ≡ Earlier) ⊎ (place (c ∷ cs) (j ∷ js) ≡ Inside)
    same e (inl h) = inl (same_head j c cs js e ∙ h)
    same e (inr h) = inr (same_head j c cs js e ∙ h)

    by : Heads k c (place (c ∷ cs) (k ∷ ks)) (place cs ks) → Heads j k (place (k ∷ ks) (j ∷ js)) (place ks js)
        → (place cs ks ≡ Inside → place ks js ≡ Earlier → (place cs js ≡ Earlier) ⊎ (place cs js ≡ Inside))
        → (place (c ∷ cs) (j ∷ js) ≡ Earlier) ⊎ (place (c ∷ cs) (j ∷ js) ≡ Inside)
    by (inr (inr (a, e))) (inl (b, f)) h = inl (earlier_head j c cs js (omega (arith, a, b)))
    by (inr (inr (a, e))) (inr (inr (b, f))) h = same (b ∙ a) (h (sym e ∙ p) (sym f ∙ q))
    by (inr (inr (a, e))) (inr (inl (b, f))) h = absurd (clash _ Later Earlier f q (λ z. omega (arith, z)))
    by (inl (a, e)) y h = absurd (clash _ Earlier Inside e p (λ z. omega (arith, z)))
    by (inr (inl (a, e))) y h = absurd (clash _ Later Inside e p (λ z. omega (arith, z)))

-- what is earlier than a class is earlier than all inside it
pub earlier_than_class : (c k j : List ℕ) → place c k ≡ Inside → place c j ≡ Earlier → place k j ≡ Earlier
earlier_than_class [] k j p q = absurd (clash Inside Inside Earlier refl q (λ z. omega (arith, z)))
earlier_than_class (c ∷ cs) [] j p q = absurd (clash Earlier Earlier Inside refl p (λ z. omega (arith, z)))
earlier_than_class (c ∷ cs) (k ∷ ks) [] p q = refl
earlier_than_class (c ∷ cs) (k ∷ ks) (j ∷ js) p q = by (heads k c cs ks) (heads j c cs js) (earlier_than_class cs ks js)
  where
    by : Heads k c (place (c ∷ cs) (k ∷ ks)) (place cs ks) → Heads j c (place (c ∷ cs) (j ∷ js)) (place cs js)
        → (place cs ks ≡ Inside → place cs js ≡ Earlier → place ks js ≡ Earlier) → place (k ∷ ks) (j ∷ js) ≡ Earlier
    by (inr (inr (a, e))) (inl (b, f)) h = earlier_head j k ks js (omega (arith, a, b))
    by (inr (inr (a, e))) (inr (inr (b, f))) h = same_head j k ks js (b ∙ sym a) ∙ h (sym e ∙ p) (sym f ∙ q)
    by (inr (inr (a, e))) (inr (inl (b, f))) h = absurd (clash _ Later Earlier f q (λ z. omega (arith, z)))
    by (inl (a, e)) y h = absurd (clash _ Earlier Inside e p (λ z. omega (arith, z)))
    by (inr (inl (a, e))) y h = absurd (clash _ Later Inside e p (λ z. omega (arith, z)))

-- all of a class is earlier than what is later than the class
pub earlier_than_later : (c k j : List ℕ) → place c k ≡ Later → ((place c j ≡ Later) → ⊥) → place k j ≡ Earlier
earlier_than_later [] k j p q = absurd (clash Inside Inside Later refl p (λ z. omega (arith, z)))
earlier_than_later (c ∷ cs) [] j p q = absurd (clash Earlier Earlier Later refl p (λ z. omega (arith, z)))
earlier_than_later (c ∷ cs) (k ∷ ks) [] p q = refl
earlier_than_later (c ∷ cs) (k ∷ ks) (j ∷ js) p q = by (heads k c cs ks) (heads j c cs js) (earlier_than_later cs ks js)
  where
    by : Heads k c (place (c ∷ cs) (k ∷ ks)) (place cs ks) → Heads j c (place (c ∷ cs) (j ∷ js)) (place cs js)
        → (place cs ks ≡ Later → ((place cs js ≡ Later) → ⊥) → place ks js ≡ Earlier) → place (k ∷ ks) (j ∷ js) ≡ Earlier
    by (inr (inl (a, e))) (inl (b, f)) h = earlier_head j k ks js (omega (arith, a, b))
    by (inr (inl (a, e))) (inr (inr (b, f))) h = earlier_head j k ks js (omega (arith, a, b))
    by (inr (inr (a, e))) (inl (b, f)) h = earlier_head j k ks js (omega (arith, a, b))
    by (inr (inr (a, e))) (inr (inr (b, f))) h = same_head j k ks js (b ∙ sym a) ∙ h (sym e ∙ p) (λ z. q (f ∙ z))
    by x (inr (inl (b, f))) h = absurd (q f)
    by (inl (a, e)) y h = absurd (clash _ Earlier Later e p (λ z. omega (arith, z)))

pub itself : (k : List ℕ) → place k k ≡ Inside
itself [] = refl
itself (x ∷ xs) = same_head x x xs xs refl ∙ itself xs
