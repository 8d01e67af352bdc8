-- The forced steps of a reader by the tables: the next token chooses the alternative of every parse.
-- The tables of firsts and follows were checked by computation. So a next token that a part can begin with is in its firsts, one
-- that can follow it is in its follows, and these choose one alternative: that of every parse.
use Rattle.std.proofs.Common.{◌≡◌, ℕ, zero, suc, ◌+◌, Bool, true, false, not, List, [], ◌∷◌, ◌++◌, Some, None, refl, sym, ap, ◌∙◌, subst, arith, ◌⊎◌, inl}
use Rattle.std.proofs.Common.{inr, ⊎_elim, ◌&&◌, ◌||◌, ◌==◌}
use Rattle.std.specs.Prelude.{if◌then◌else◌}
use Rattle.std.proofs.lemmas.Bool.{false≢true}
use Rattle.vg_syntax.specs.declared.kind.Kind.{Kind}
use Rattle.vg_syntax.specs.declared.token.Token.{Token}
use Rattle.vg_syntax.specs.declared.grammar.Symbol.{Symbol}
use Rattle.vg_syntax.specs.declared.grammar.Symbol.TheVariants.{Sign, Use}
use Rattle.vg_syntax.specs.declared.grammar.Part.{Part}
use Rattle.vg_syntax.specs.Grammar.{rules}
use Rattle.vg_syntax.specs.Parses.{Parse, Nil, Tok, Sub, leaves, nth, Fits}
use Rattle.vg_grammar.specs.Numbers.{number}
use Rattle.vg_grammar.specs.Tables.{mem, firsts, follows, nullable, nullable_seq, firsts_seq, pick, chosen}
use Rattle.vg_grammar.specs.Looks.{look}
use Rattle.vg_grammar.proofs.Checks.{subset, picks, follow_ok, check_alt, check_from}
use Rattle.vg_grammar.proofs.Checked.{all_checked}
use Rattle.vg_grammar.proofs.Rows.{join, leaves_join, fits_join, cut}

pub both : (a b : Bool) → (a && b) ≡ true → (a ≡ true) × (b ≡ true)
both true b e = (refl, e)
both false b e = absurd (false≢true e)

implied : (a b : Bool) → (not a || b) ≡ true → a ≡ true → b ≡ true
implied true b e h = e
implied false b e h = absurd (false≢true h)

pub either : (a b : Bool) → (a || b) ≡ true → (a ≡ true) ⊎ (b ≡ true)
either true b e = inl refl
either false b e = inr e

or_right : (a b : Bool) → b ≡ true → (a || b) ≡ true
or_right true b e = refl
or_right false b e = e

or_left : (a b : Bool) → a ≡ true → (a || b) ≡ true
or_left true b e = refl
or_left false b e = absurd (false≢true e)

and_of : (a b : Bool) → a ≡ true → b ≡ true → (a && b) ≡ true
and_of true b e f = f
and_of false b e f = absurd (false≢true e)

pub same : (u k : ℕ) → (u == k) ≡ true → u ≡ k
same u k e = grind arith

same_test : (u k : ℕ) → u ≡ k → (u == k) ≡ true
same_test u k e = grind arith

mem_subset : (us ks : List Kind) (u : ℕ) → subset us ks ≡ true → mem u us ≡ true → mem u ks ≡ true
mem_subset [] ks u s m = absurd (false≢true m)
mem_subset (v ∷ us) ks u s m =
    let b = both (mem (number v) ks) (subset us ks) s in
    ⊎_elim (λ e. subst (λ w. mem w ks ≡ true) (sym (same u (number v) e)) b.0) (λ e. mem_subset us ks u b.1 e) (either (u == number v) (mem u us) m)

mem_append_right : (us ks : List Kind) (u : ℕ) → mem u ks ≡ true → mem u (us ++ ks) ≡ true
mem_append_right [] ks u e = e
mem_append_right (v ∷ us) ks u e = or_right (u == number v) _ (mem_append_right us ks u e)

mem_append_left : (us ks : List Kind) (u : ℕ) → mem u us ≡ true → mem u (us ++ ks) ≡ true
mem_append_left [] ks u e = absurd (false≢true e)
mem_append_left (v ∷ us) ks u e =
    ⊎_elim (λ h. or_left (u == number v) _ h) (λ h. or_right (u == number v) _ (mem_append_left us ks u h)) (either (u == number v) (mem u us) e)

picked : (n : Part) (a u : ℕ) (us : List Kind) → picks n a us ≡ true → mem u us ≡ true → pick (rules n) u ≡ a
picked n a u [] p m = absurd (false≢true m)
picked n a u (v ∷ us) p m =
    let b = both (pick (rules n) (number v) == a) (picks n a us) p in
    ⊎_elim (λ h. ap (pick (rules n)) (same u (number v) h) ∙ same _ a b.0) (λ h. picked n a u us b.1 h) (either (u == number v) (mem u us) m)

-- what the tables were checked for, at one alternative
record Right (n : Part) (a : ℕ) (rhs : List Symbol) : Type 0 where
  first : (u : ℕ) → mem u (firsts_seq rhs) ≡ true → pick (rules n) u ≡ a
  empty : nullable_seq rhs ≡ true → (u : ℕ) → mem u (follows n) ≡ true → pick (rules n) u ≡ a
  within : (u : ℕ) → mem u (firsts_seq rhs) ≡ true → mem u (firsts n) ≡ true
  nulls : nullable_seq rhs ≡ true → nullable n ≡ true
  follow : follow_ok n rhs ≡ true

right_of : (n : Part) (a : ℕ) (rhs : List Symbol) → check_alt n a rhs ≡ true → Right n a rhs
right_of n a rhs e =
    let b = both _ _ e in
    let c = both _ _ b.1 in
    let d = both _ _ c.1 in
    let f = both _ _ d.1 in
    record {
      first = λ u m. picked n a u (firsts_seq rhs) b.0 m;
      empty = λ h u m. picked n a u (follows n) (implied (nullable_seq rhs) _ c.0 h) m;
      within = λ u m. mem_subset (firsts_seq rhs) (firsts n) u d.0 m;
      nulls = λ h. implied (nullable_seq rhs) _ f.0 h;
      follow = f.1;
    }

check_nth : (n : Part) (i a : ℕ) (rs : List (List Symbol)) (rhs : List Symbol) → check_from n i rs ≡ true → nth rs a ≡ Some rhs → check_alt n (i + a) rhs ≡ true
check_nth n i a [] rhs e f = absurd (let clash : None ≡ Some rhs = f in cc)
check_nth n i zero (r ∷ rs) rhs e f =
    let g : Some r ≡ Some rhs = f in
    let h : r ≡ rhs = cc in
    let z : i ≡ i + 0 = omega arith in
    subst (λ j. check_alt n j rhs ≡ true) z (subst (λ l. check_alt n i l ≡ true) h (both (check_alt n i r) _ e).0)
check_nth n i (suc a) (r ∷ rs) rhs e f =
    let z : suc i + a ≡ i + suc a = omega arith in
    subst (λ j. check_alt n j rhs ≡ true) z (check_nth n (suc i) a rs rhs (both (check_alt n i r) _ e).1 f)

right : (n : Part) (a : ℕ) (rhs : List Symbol) → nth (rules n) a ≡ Some rhs → Right n a rhs
right n a rhs e = right_of n a rhs (subst (λ j. check_alt n j rhs ≡ true) z (check_nth n 0 a (rules n) rhs (all_checked n) e))
  where
    z : 0 + a ≡ a
    z = omega arith

-- what a row of parses begins with
Begins : List Token → List Symbol → Type 0
Begins ts s = ((ts ≡ []) × (nullable_seq s ≡ true)) ⊎ ((t : Token) × (rest : List Token) × (ts ≡ t ∷ rest) × (mem (number t.kind) (firsts_seq s) ≡ true))

begins_use : (n : Part) (s : List Symbol) (us vs : List Token) (a : ℕ) (rhs : List Symbol) → Right n a rhs → Begins us rhs → Begins vs s
    → Begins (us ++ vs) (Use n ∷ s)
unfolding Begins
begins_use n s us vs a rhs r (inr h) k =
    inr (h.0, h.1 ++ vs, ap (λ l. l ++ vs) h.2, mem_append_left (firsts n) _ (number h.0.kind) (r.within (number h.0.kind) h.3))
begins_use n s us vs a rhs r (inl h) (inl k) =
    inl (ap (λ l. l ++ vs) h.0 ∙ k.0, and_of (nullable n) _ (r.nulls h.1) k.1)
begins_use n s us vs a rhs r (inl h) (inr k) =
    let e : firsts_seq (Use n ∷ s) ≡ firsts n ++ firsts_seq s = ap (λ b. firsts n ++ (if b then firsts_seq s else [])) (r.nulls h.1) in
    inr (
      k.0,
      k.1,
      ap (λ l. l ++ vs) h.0 ∙ k.2,
      subst (λ l. mem (number k.0.kind) l ≡ true) (sym e)
          (mem_append_right (firsts n) (firsts_seq s) (number k.0.kind) k.3),
    )

sign_first : (t : Token) (k : Kind) → t.kind ≡ k → mem (number t.kind) (k ∷ []) ≡ true
sign_first t k e = or_left (number t.kind == number k) _ (same_test (number t.kind) (number k) (ap number e))

begins : (p : Parse) (s : List Symbol) → Fits p s → Begins (leaves p) s
unfolding Begins
begins Nil [] h = inl (refl, refl)
begins Nil (x ∷ s) h = absurd h
begins (Tok t p) [] h = absurd h
begins (Tok t p) (Sign k ∷ s) h = inr (t, leaves p, refl, sign_first t k h.0)
begins (Tok t p) (Use n ∷ s) h = absurd h
begins (Sub n a kids p) [] h = absurd h
begins (Sub n a kids p) (Sign k ∷ s) h = absurd h
begins (Sub n a kids p) (Use m ∷ s) h =
    let e : nth (rules m) a ≡ Some h.1 = subst (λ o. nth (rules o) a ≡ Some h.1) h.0 h.2 in
    begins_use m s (leaves kids) (leaves p) a h.1 (right m a h.1 e) (begins kids h.1 h.3) (begins p s h.4)

-- what can come next where these symbols are all that is to come
abbrev pub Can : List Symbol → ℕ → Type 0
Can [] u = u ≡ 0
Can (Sign k ∷ s) u = u ≡ number k
Can (Use n ∷ s) u = (mem u (firsts n) ≡ true) ⊎ ((nullable n ≡ true) × Can s u)

can_use : (m : Part) (a : ℕ) (rhs s : List Symbol) (us vs : List Token) → Right m a rhs → Begins us rhs → Can s (look vs) → Can (Use m ∷ s) (look (us ++ vs))
unfolding Begins
can_use m a rhs s us vs r (inl b) c = inr (r.nulls b.1, subst (λ l. Can s (look (l ++ vs))) (sym b.0) c)
can_use m a rhs s us vs r (inr b) c =
    inl (subst (λ l. mem (look (l ++ vs)) (firsts m) ≡ true) (sym b.2) (r.within (number b.0.kind) b.3))

can : (p : Parse) (s : List Symbol) → Fits p s → Can s (look (leaves p))
can Nil [] h = refl
can Nil (x ∷ s) h = absurd h
can (Tok t p) [] h = absurd h
can (Tok t p) (Sign k ∷ s) h = ap number h.0
can (Tok t p) (Use n ∷ s) h = absurd h
can (Sub n a kids p) [] h = absurd h
can (Sub n a kids p) (Sign k ∷ s) h = absurd h
can (Sub n a kids p) (Use m ∷ s) h =
    let e : nth (rules m) a ≡ Some h.1 = subst (λ o. nth (rules o) a ≡ Some h.1) h.0 h.2 in
    can_use m a h.1 s (leaves kids) (leaves p) (right m a h.1 e) (begins kids h.1 h.3) (can p s h.4)

-- each part of a stack is followed by what its table says
abbrev pub Stacked : List Symbol → Type 0
Stacked [] = Unit {0}
Stacked (Sign k ∷ s) = Stacked s
Stacked (Use n ∷ s) = ((u : ℕ) → Can s u → mem u (follows n) ≡ true) × Stacked s

can_split : (l s : List Symbol) (u : ℕ) → Can (l ++ s) u → (mem u (firsts_seq l) ≡ true) ⊎ ((nullable_seq l ≡ true) × Can s u)
can_split [] s u h = inr (refl, h)
can_split (Sign k ∷ l) s u h = inl (or_left (u == number k) _ (same_test u (number k) h))
can_split (Use n ∷ l) s u (inl h) = inl (mem_append_left (firsts n) _ u h)
can_split (Use n ∷ l) s u (inr h) = by_cases (can_split l s u h.1)
  where
    e : firsts_seq (Use n ∷ l) ≡ firsts n ++ firsts_seq l
    e = ap (λ b. firsts n ++ (if b then firsts_seq l else [])) h.0

    by_cases : (mem u (firsts_seq l) ≡ true) ⊎ ((nullable_seq l ≡ true) × Can s u)
        → (mem u (firsts_seq (Use n ∷ l)) ≡ true) ⊎ ((nullable_seq (Use n ∷ l) ≡ true) × Can s u)
    by_cases (inl m) = inl (subst (λ ks. mem u ks ≡ true) (sym e) (mem_append_right (firsts n) (firsts_seq l) u m))
    by_cases (inr m) = inr (and_of (nullable n) _ h.0 m.0, m.1)

stacked_push : (n : Part) (l s : List Symbol) → follow_ok n l ≡ true → ((u : ℕ) → Can s u → mem u (follows n) ≡ true) → Stacked s → Stacked (l ++ s)
stacked_push n [] s f c h = h
stacked_push n (Sign k ∷ l) s f c h = stacked_push n l s f c h
stacked_push n (Use m ∷ l) s f c h =
    let b = both _ _ f in
    let d = both _ _ b.1 in
    (λ u k. by_cases u b.0 d.0 (can_split l s u k), stacked_push n l s d.1 c h)
  where
    by_cases : (u : ℕ) → subset (firsts_seq l) (follows m) ≡ true → (not (nullable_seq l) || subset (follows n) (follows m)) ≡ true
        → (mem u (firsts_seq l) ≡ true) ⊎ ((nullable_seq l ≡ true) × Can s u) → mem u (follows m) ≡ true
    by_cases u x y (inl k) = mem_subset (firsts_seq l) (follows m) u x k
    by_cases u x y (inr k) = mem_subset (follows n) (follows m) u (implied (nullable_seq l) _ y k.0) (c u k.1)

pub stacked_expand : (n : Part) (s : List Symbol) (a : ℕ) (rhs : List Symbol) → nth (rules n) a ≡ Some rhs → Stacked (Use n ∷ s) → Stacked (rhs ++ s)
stacked_expand n s a rhs e h = stacked_push n rhs s (right n a rhs e).follow h.0 h.1

-- the step of a part, in both directions
pub expand_forth : (n : Part) (a : ℕ) (rhs s : List Symbol) → nth (rules n) a ≡ Some rhs → (q : Parse) → Fits q (rhs ++ s)
    → (p : Parse) × Fits p (Use n ∷ s) × (leaves p ≡ leaves q)
expand_forth n a rhs s e q h = let c = cut q rhs s h in (Sub n a c.0 c.1, (refl, rhs, e, c.2, c.3), sym c.4)

chosen_is : (n : Part) (a : ℕ) (rhs s : List Symbol) (us vs : List Token) → Right n a rhs → Begins us rhs → Can s (look vs)
    → ((u : ℕ) → Can s u → mem u (follows n) ≡ true) → pick (rules n) (look (us ++ vs)) ≡ a
unfolding Begins
chosen_is n a rhs s us vs r (inl b) c f = subst (λ l. pick (rules n) (look (l ++ vs)) ≡ a) (sym b.0) (r.empty b.1 (look vs) (f _ c))
chosen_is n a rhs s us vs r (inr b) c f = subst (λ l. pick (rules n) (look (l ++ vs)) ≡ a) (sym b.2) (r.first (number b.0.kind) b.3)

-- every parse that begins with a part begins with its chosen alternative
pub record Expanded (n : Part) (s : List Symbol) (p : Parse) : Type 0 where
  pub rhs : List Symbol
  pub is_chosen : chosen n (look (leaves p)) ≡ Some rhs
  pub alternative : ℕ
  pub kids : Parse
  pub behind : Parse
  pub is : p ≡ Sub n alternative kids behind
  pub kids_fit : Fits kids rhs
  pub all_fit : Fits (join kids behind) (rhs ++ s)
  pub same_leaves : leaves (join kids behind) ≡ leaves p

pub expanded : (n : Part) (s : List Symbol) → Stacked (Use n ∷ s) → (p : Parse) → Fits p (Use n ∷ s) → Expanded n s p
expanded n s k Nil h = absurd h
expanded n s k (Tok t p) h = absurd h
expanded n s k (Sub m a kids p) h =
    let e : nth (rules n) a ≡ Some h.1 = subst (λ o. nth (rules o) a ≡ Some h.1) h.0 h.2 in
    let r = right n a h.1 e in
    let i = chosen_is n a h.1 s (leaves kids) (leaves p) r (begins kids h.1 h.3) (can p s h.4) k.0 in
    record {
      rhs = h.1;
      is_chosen = ap (nth (rules n)) i ∙ e;
      alternative = a;
      kids = kids;
      behind = p;
      is = ap (λ o. Sub o a kids p) h.0;
      kids_fit = h.3;
      all_fit = fits_join kids p h.1 s h.3 h.4;
      same_leaves = leaves_join kids p;
    }
