-- Ways and cycles of one graph are ways and cycles of another: its nodes stand for those of the first one, entries for entries, and its edges follow theirs.
use Rattle.std.proofs.Common.{◌≡◌, refl, ap, subst, arith, ℕ, ◌+◌, ◌≤◌, List, [], ◌∷◌, ◌++◌}
use Rattle.vg_calls_source.specs.Graphs.{LeadsTo, IsCycle, IsWayTo, IsCycleIn, HasNoCycle, sum_of}

-- nodes stand for nodes, one for each
abbrev pub Pairs : {A B : Type 0} → (A → B → Type 0) → List A → List B → Type 0
Pairs R [] [] = Unit {0}
Pairs R (a ∷ xs) (b ∷ ys) = R a b × Pairs R xs ys
Pairs R _ _ = ⊥

more : (a b c d : ℕ) → a ≤ b → c ≤ d → a + c ≤ b + d
more a b c d h k = omega (arith, h, k)

pub sum_pairs : {A B : Type 0} (R : A → B → Type 0) (c : A → ℕ) (d : B → ℕ) → ((a : A) (b : B) → R a b → c a ≤ d b) → (xs : List A) (ys : List B)
    → Pairs R xs ys → sum_of c xs ≤ sum_of d ys
sum_pairs R c d h [] [] p = omega arith
sum_pairs R c d h (a ∷ xs) (b ∷ ys) (r, p) = more (c a) (d b) (sum_of c xs) (sum_of d ys) (h a b r) (sum_pairs R c d h xs ys p)
sum_pairs R c d h [] (b ∷ ys) p = absurd p
sum_pairs R c d h (a ∷ xs) [] p = absurd p

-- the last of nodes
pub last_pair : {A B : Type 0} (R : A → B → Type 0) (xs : List A) (a : A) (zs : List B) → Pairs R (xs ++ a ∷ []) zs
    → (ys : List B) × (b : B) × (zs ≡ ys ++ b ∷ []) × Pairs R xs ys × R a b
last_pair R [] a [] p = absurd p
last_pair R [] a (b ∷ []) (r, p) = ([], b, refl, tt, r)
last_pair R [] a (b ∷ (c ∷ zs)) (r, p) = absurd p
last_pair R (x ∷ xs) a [] p = absurd p
last_pair R (x ∷ xs) a (z ∷ zs) (r, p) =
    let (ys, b, e, q, s) = last_pair R xs a zs p in
    (z ∷ ys, b, ap (λ w. z ∷ w) e, (r, q), s)

module _ {A B : Type 0} (EntryA : A → Type 0) (EdgeA : A → A → Type 0) (EntryB : B → Type 0) (EdgeB : B → B → Type 0) (R : A → B → Type 0)
    (entries : (a : A) → EntryA a → (b : B) × R a b × EntryB b) (edges : (a : A) (b : B) (c : A) → R a b → EdgeA a c → (d : B) × R c d × EdgeB b d) where
  -- a way goes where another one goes
  abbrev pub Goes : A → List A → B → Type 0
  Goes end xs b = (ys : List B) × (last : B) × R end last × LeadsTo EdgeB b ys last × Pairs R xs ys

  pub leads : (a : A) (xs : List A) (end : A) (b : B) → R a b → LeadsTo EdgeA a xs end → Goes end xs b
  leads a [] end b r e = ([], b, subst (λ z. R z b) e r, refl, tt)
  leads a (x ∷ xs) end b r (e, h) =
      let (d, s, f) = edges a b x r e in
      let (ys, last, t, g, p) = leads x xs end d s h in
      (d ∷ ys, last, t, (f, g), (s, p))

  abbrev pub Comes : A → List A → Type 0
  Comes end xs = (ys : List B) × (last : B) × R end last × IsWayTo EntryB EdgeB last ys × Pairs R xs ys

  pub comes : (xs : List A) (end : A) → IsWayTo EntryA EdgeA end xs → Comes end xs
  comes [] end is = absurd is
  comes (a ∷ xs) end (entry, h) =
      let (b, r, f) = entries a entry in
      let (ys, last, t, g, p) = leads a xs end b r h in
      (b ∷ ys, last, t, (f, g), (r, p))

  module _ (one : (a : A) (b c : B) → R a b → R a c → b ≡ c) where
    turned : (a : A) (xs : List A) (b : B) → R a b → LeadsTo EdgeA a (xs ++ a ∷ []) a → (ys : List B) × IsCycle EdgeB (b ∷ ys) × Pairs R xs ys
    turned a xs b r h =
        let (zs, last, t, g, p) = leads a (xs ++ a ∷ []) a b r h in
        let (ys, c, e, q, s) = last_pair R xs a zs p in
        let g' = subst (λ z. LeadsTo EdgeB b z last) e g in
        let g'' = subst (λ z. LeadsTo EdgeB b (ys ++ z ∷ []) last) (one a c b s r) g' in
        (ys, subst (λ z. LeadsTo EdgeB b (ys ++ b ∷ []) z) (one a last b t r) g'', q)

    -- a cycle goes round where another one does
    pub cycles : (xs : List A) → IsCycleIn EntryA EdgeA xs → (ys : List B) × IsCycleIn EntryB EdgeB ys × Pairs R xs ys
    cycles [] is = absurd is
    cycles (a ∷ xs) (round, (way, reached)) =
        let (ws, last, t, g, p) = comes way a reached in
        let (ys, cycle, q) = turned a xs last t round in
        (last ∷ ys, (cycle, (ws, g)), (t, q))

    pub no_cycles : HasNoCycle EntryB EdgeB → HasNoCycle EntryA EdgeA
    no_cycles none xs is = let (ys, cycle, q) = cycles xs is in none ys cycle
