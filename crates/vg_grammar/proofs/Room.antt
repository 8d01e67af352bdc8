-- How many steps are left: each step makes the room smaller.
-- The room is 128 for each token left and 1 for each symbol; where the next token has begun the part on top, 7 for each rank of that
-- part in place of 128. A token that is read and a part that is opened make it smaller, by the ranks, which were checked by computation.
use Rattle.std.proofs.Common.{◌≡◌, ℕ, zero, suc, ◌+◌, ◌*◌, ◌<◌, ◌≤◌, Bool, true, false, not, List, [], ◌∷◌, ◌++◌, length, length-append, Some, None, refl}
use Rattle.std.proofs.Common.{sym, ap, subst, arith, ◌⊎◌, inl, inr, ⊎_elim, ◌&&◌, ◌==◌}
use Rattle.std.specs.Prelude.{if◌then◌else◌, nat_lt, nat_le}
use Rattle.std.proofs.lemmas.Bool.{false≢true}
use Rattle.vg_syntax.specs.declared.kind.Kind.{Kind}
use Rattle.vg_syntax.specs.declared.token.Token.{Token}
use Rattle.vg_syntax.specs.declared.grammar.Symbol.{Symbol}
use Rattle.vg_syntax.specs.declared.grammar.Symbol.TheVariants.{Sign, Use}
use Rattle.vg_syntax.specs.declared.grammar.Part.{Part}
use Rattle.vg_syntax.specs.Grammar.{rules}
use Rattle.vg_syntax.specs.Parses.{nth}
use Rattle.vg_grammar.specs.Numbers.{number}
use Rattle.vg_grammar.specs.Looks.{look}
use Rattle.vg_grammar.specs.Tables.{mem, firsts, suits, pick, chosen}
use Rattle.vg_grammar.proofs.Checks.{full, all_full, head_ok, heads_ok}
use Rattle.vg_grammar.proofs.Ranked.{rank, all_ranked}
use Rattle.vg_grammar.proofs.Theory.{both, either, same}

head_at : (n : Part) (rs : List (List Symbol)) (i : ℕ) (r : List Symbol) → heads_ok rank n rs ≡ true → nth rs i ≡ Some r → head_ok rank n r ≡ true
head_at n [] i r h e = absurd (let clash : None ≡ Some r = e in cc)
head_at n (x ∷ rs) zero r h e = let f : Some x ≡ Some r = e in let g : x ≡ r = cc in subst (λ l. head_ok rank n l ≡ true) g (both (head_ok rank n x) _ h).0
head_at n (x ∷ rs) (suc i) r h e = head_at n rs i r (both (head_ok rank n x) _ h).1 e

full_at : (m : Part) (us : List Kind) (u : ℕ) → all_full m us ≡ true → mem u us ≡ true → full (chosen m u) ≡ true
full_at m [] u h e = absurd (false≢true e)
full_at m (v ∷ us) u h e =
    ⊎_elim (λ i. subst (λ w. full (chosen m w) ≡ true) (sym (same u (number v) i)) (both (full (chosen m (number v))) _ h).0)
    (λ i. full_at m us u (both (full (chosen m (number v))) _ h).1 i) (either (u == number v) (mem u us) e)

pick_if : (b : Bool) (r x : List Symbol) (rs : List (List Symbol)) (i : ℕ) → nth (r ∷ rs) (if b then 0 else suc i) ≡ Some x
    → ((b ≡ true) × (r ≡ x)) ⊎ (nth rs i ≡ Some x)
pick_if true r x rs i e = inl (refl, (let f : Some r ≡ Some x = e in cc))
pick_if false r x rs i e = inr e

picks_it : (rs : List (List Symbol)) (u : ℕ) (x : List Symbol) → nth rs (pick rs u) ≡ Some x → suits x u ≡ true
picks_it [] u x e = absurd (let clash : None ≡ Some x = e in cc)
picks_it (r ∷ rs) u x e = ⊎_elim (λ h. subst (λ l. suits l u ≡ true) h.1 h.0) (λ h. picks_it rs u x h) (pick_if (suits r u) r x rs (pick rs u) e)

-- the tokens left weigh most; a part that the next token has begun weighs by its rank
abbrev pub room : List Symbol → List Token → ℕ
room s [] = length s
room [] (t ∷ rest) = 128 + 128 * length rest
room (Sign k ∷ s) (t ∷ rest) = 1 + length s + 128 * length rest + (if number k == number t.kind then 0 else 128)
room (Use n ∷ s) (t ∷ rest) = 1 + length s + 128 * length rest + (if full (chosen n (number t.kind)) then 7 * rank n else 128)

at_most : (a b : ℕ) → nat_le a b ≡ true → a ≤ b
at_most a b h = grind (arith, h)

below : (a b : ℕ) → nat_lt a b ≡ true → a < b
below a b h = grind (arith, h)

eq_test : (a b : ℕ) → a ≡ b → (a == b) ≡ true
eq_test a b h = grind (arith, h)

-- what the ranks were checked for
record Ranks (n : Part) : Type 0 where
  least : 1 ≤ rank n
  most : rank n ≤ 18
  ends : not (full (chosen n 0)) ≡ true
  few : length (rules n) ≤ 9
  heads : heads_ok rank n (rules n) ≡ true

ranks : (n : Part) → Ranks n
ranks n =
    let b = both (nat_le 1 (rank n)) _ (all_ranked n) in
    let c = both (nat_le (rank n) 18) _ b.1 in
    let d = both (not (full (chosen n 0))) _ c.1 in
    let e = both (nat_le (length (rules n)) 9) _ d.1 in
    record {
      least = at_most 1 (rank n) b.0;
      most = at_most (rank n) 18 c.0;
      ends = d.0;
      few = at_most (length (rules n)) 9 e.0;
      heads = e.1;
    }

pub short_alternative : (n : Part) (i : ℕ) (r : List Symbol) → Some r ≡ nth (rules n) i → length r ≤ 5
short_alternative n i [] e = omega arith
short_alternative n i (Sign k ∷ s) e =
    let h : nat_le (length s) 4 ≡ true = head_at n (rules n) i (Sign k ∷ s) (ranks n).heads (sym e) in
    let l : length s ≤ 4 = at_most _ _ h in
    omega (arith, l)
short_alternative n i (Use m ∷ s) e =
    let h = both (nat_le (length s) 4) (nat_lt (rank m) (rank n) && all_full m (firsts m)) (head_at n (rules n) i (Use m ∷ s) (ranks n).heads (sym e)) in
    let l : length s ≤ 4 = at_most _ _ h.0 in
    omega (arith, l)

most : (s : List Symbol) (rest : List Token) → room s rest ≤ length s + 128 * length rest
most s [] = omega arith
most [] (t ∷ rest) = omega arith
most (Sign k ∷ s) (t ∷ rest) = by_cases (number k == number t.kind)
  where
    by_cases : (b : Bool) → 1 + length s + 128 * length rest + (if b then 0 else 128) ≤ suc (length s) + 128 * suc (length rest)
    by_cases true = omega arith
    by_cases false = omega arith
most (Use n ∷ s) (t ∷ rest) = by_cases (full (chosen n (number t.kind))) (ranks n).most
  where
    by_cases : (b : Bool) → rank n ≤ 18 → 1 + length s + 128 * length rest + (if b then 7 * rank n else 128) ≤ suc (length s) + 128 * suc (length rest)
    by_cases true h = omega (arith, h)
    by_cases false h = omega arith

pub room_match : (k : Kind) (s : List Symbol) (t : Token) (rest : List Token) → t.kind ≡ k → room s rest < room (Sign k ∷ s) (t ∷ rest)
room_match k s t rest e = let m = most s rest in by_cases (number k == number t.kind) m
  where
    by_cases : (b : Bool) → room s rest ≤ length s + 128 * length rest → room s rest < 1 + length s + 128 * length rest + (if b then 0 else 128)
    by_cases true h = omega (arith, h)
    by_cases false h = omega (arith, h)

room_empty : (n : Part) (s : List Symbol) (rest : List Token) → chosen n (look rest) ≡ Some [] → room s rest < room (Use n ∷ s) rest
room_empty n s [] e = omega arith
room_empty n s (t ∷ rest) e =
    let m = most s (t ∷ rest) in
    let f : full (chosen n (number t.kind)) ≡ false = ap full e in
    subst (λ b. room s (t ∷ rest) < 1 + length s + 128 * length rest + (if b then 7 * rank n else 128)) (sym f) (omega (arith, m))

not_both : (b : Bool) → not b ≡ true → b ≡ true → ⊥
not_both true h k = false≢true h
not_both false h k = false≢true k

room_expand : (n : Part) (s : List Symbol) (x : Symbol) (l : List Symbol) (rest : List Token) → chosen n (look rest) ≡ Some (x ∷ l)
    → room ((x ∷ l) ++ s) rest < room (Use n ∷ s) rest
room_expand n s x l [] e =
    let g : full (chosen n 0) ≡ true = ap full e in
    absurd (not_both (full (chosen n 0)) (ranks n).ends g)
room_expand n s (Sign k) l (t ∷ rest) e =
    let r = ranks n in
    let o : nat_le (length l) 4 ≡ true = head_at n (rules n) (pick (rules n) (number t.kind)) (Sign k ∷ l) r.heads e in
    let i : (number t.kind == number k) ≡ true = picks_it (rules n) (number t.kind) (Sign k ∷ l) e in
    let same_number : number k ≡ number t.kind = sym (same (number t.kind) (number k) i) in
    let len : length l ≤ 4 = at_most _ _ o in
    let g : full (chosen n (number t.kind)) ≡ true = ap full e in
    let app = length-append l s in
    let one = r.least in
    let q : (number k == number t.kind) ≡ true = eq_test (number k) (number t.kind) same_number in
    subst (λ b. 1 + length (l ++ s) + 128 * length rest + (if b then 0 else 128) < 1 + length s + 128 * length rest +
    (if full (chosen n (number t.kind)) then 7 * rank n else 128)) (sym q) (subst
    (λ b. 1 + length (l ++ s) + 128 * length rest + 0 < 1 + length s + 128 * length rest + (if b then 7 * rank n else 128)) (sym g)
    (omega (arith, app, len, one)))
room_expand n s (Use m) l (t ∷ rest) e =
    let o = both (nat_le (length l) 4) (nat_lt (rank m) (rank n) && all_full m (firsts m))
    (head_at n (rules n) (pick (rules n) (number t.kind)) (Use m ∷ l) (ranks n).heads e) in
    let p = both (nat_lt (rank m) (rank n)) (all_full m (firsts m)) o.1 in
    let in_m : mem (number t.kind) (firsts m) ≡ true = picks_it (rules n) (number t.kind) (Use m ∷ l) e in
    let fm = full_at m (firsts m) (number t.kind) p.1 in_m in
    let len : length l ≤ 4 = at_most _ _ o.0 in
    let lower : rank m < rank n = below _ _ p.0 in
    let g : full (chosen n (number t.kind)) ≡ true = ap full e in
    let app = length-append l s in
    subst (λ b. 1 + length (l ++ s) + 128 * length rest + (if b then 7 * rank m else 128) < 1 + length s + 128 * length rest +
    (if full (chosen n (number t.kind)) then 7 * rank n else 128)) (sym fm) (subst
    (λ b. 1 + length (l ++ s) + 128 * length rest + 7 * rank m < 1 + length s + 128 * length rest + (if b then 7 * rank n else 128)) (sym g)
    (omega (arith, app, len, lower)))

pub room_any : (n : Part) (s rhs : List Symbol) (rest : List Token) → chosen n (look rest) ≡ Some rhs → room (rhs ++ s) rest < room (Use n ∷ s) rest
room_any n s [] rest e = room_empty n s rest e
room_any n s (x ∷ l) rest e = room_expand n s x l rest e
