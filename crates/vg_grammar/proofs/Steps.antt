-- One step of the reader.
-- The invariant of the loop, At, is a run as in Runs with the count of open brackets. Each lemma is one way through the loop:
-- a part is opened, a token is read, or the tokens are refused at this place.
use Rattle.std.proofs.Common.{◌≡◌, ℕ, zero, suc, ◌+◌, ◌-◌, ◌<◌, ◌≤◌, Bool, true, false, List, [], ◌∷◌, ◌++◌, length, Option, Some, None, refl, sym, ap, ◌∙◌}
use Rattle.std.proofs.Common.{subst, arith, take, drop, take_all, ◌==◌}
use Rattle.std.specs.Prelude.{if◌then◌else◌}
use Rattle.std.proofs.lemmas.Bool.{false≢true}
use Rattle.std.specs.Option.{option_and_then}
use Rattle.vg_syntax.specs.declared.kind.Kind.{Kind}
use Rattle.vg_syntax.specs.declared.token.Token.{Token}
use Rattle.vg_syntax.specs.declared.grammar.Symbol.{Symbol}
use Rattle.vg_syntax.specs.declared.grammar.Symbol.TheVariants.{Sign, Use}
use Rattle.vg_syntax.specs.declared.grammar.Part.{Part}
use Rattle.vg_syntax.specs.declared.grammar.Part.TheVariants as part
use Rattle.vg_syntax.specs.Parses.{Sentence, Stops, NoTreeAt, Shallow, TooDeepAt, is_open, is_close, opened, open_in}
use Rattle.vg_grammar.specs.Numbers.{number}
use Rattle.vg_grammar.specs.Looks.{look, kind_at, is_at}
use Rattle.vg_grammar.specs.Tables.{chosen}
use Rattle.vg_grammar.proofs.Numbers.{same_kind}
use Rattle.vg_grammar.proofs.Theory.{same}
use Rattle.vg_grammar.proofs.Runs.{Run, run_start, run_expand, run_match, viable, whole, stops_part, stops_sign, stops_end, stops_left, look_at, open_more}
use Rattle.vg_grammar.proofs.Room.{room, room_any, room_match}

-- the first `at` tokens are read, the symbols s are to come, and `deep` brackets are open
pub record At (ts : List Token) (at : ℕ) (s : List Symbol) (deep : ℕ) : Type 0 where
  pub within : at ≤ length ts
  pub run : Run (take at ts) s (look (drop at ts))
  pub opens : open_in 0 (take at ts) ≡ Some deep
  pub low : deep ≤ 64

pub starts : (ts : List Token) (s : List Symbol) → s ≡ Use part.Text ∷ [] → At ts 0 s 0
starts ts s e = record { within = omega arith; run = subst (λ l. Run [] l (look ts)) (sym e) (run_start (look ts)); opens = refl; low = omega arith }

pub asked : (ts : List Token) (at : ℕ) (k : Kind) (n : Part) (o : Option (List Symbol)) → k ≡ kind_at ts at → o ≡ chosen n (number k)
    → chosen n (look (drop at ts)) ≡ o
asked ts at k n o e c = ap (chosen n) (sym (look_at ts at)) ∙ ap (λ j. chosen n (number j)) (sym e) ∙ sym c

pub refuses_part : (ts : List Token) (at : ℕ) (k : Kind) (deep : ℕ) (s rest : List Symbol) (n : Part) → At ts at s deep → s ≡ Use n ∷ rest → k ≡ kind_at ts at
    → None ≡ chosen n (number k) → NoTreeAt ts at × Shallow (take at ts)
refuses_part ts at k deep s rest n a e f c =
    let r = subst (λ l. Run (take at ts) l (look (drop at ts))) e a.run in
    ((viable _ _ _ r, stops_part _ _ n rest r (asked ts at k n None f c)), (deep, a.opens))

pub expands : (ts : List Token) (at : ℕ) (k : Kind) (deep : ℕ) (s rest rhs new : List Symbol) (n : Part) → At ts at s deep → s ≡ Use n ∷ rest
    → k ≡ kind_at ts at → Some rhs ≡ chosen n (number k) → new ≡ rhs ++ rest → At ts at new deep
expands ts at k deep s rest rhs new n a e f c g =
    let r = subst (λ l. Run (take at ts) l (look (drop at ts))) e a.run in
    record {
      within = a.within;
      run = subst (λ l. Run (take at ts) l (look (drop at ts))) (sym g) (run_expand _ n rest _ rhs r (asked ts at k n (Some rhs) f c));
      opens = a.opens;
      low = a.low;
    }

pub expands_room : (ts : List Token) (at : ℕ) (k : Kind) (s rest rhs new : List Symbol) (n : Part) → s ≡ Use n ∷ rest → k ≡ kind_at ts at
    → Some rhs ≡ chosen n (number k) → new ≡ rhs ++ rest → room new (drop at ts) < room s (drop at ts)
expands_room ts at k s rest rhs new n e f c g =
    let h = room_any n rest rhs (drop at ts) (asked ts at k n (Some rhs) f c) in
    subst (λ l. room l (drop at ts) < room s (drop at ts)) (sym g) (subst (λ l. room (rhs ++ rest) (drop at ts) < room l (drop at ts)) (sym e) h)

-- the token of a number
pub record Here (ts : List Token) (at : ℕ) (k : Kind) : Type 0 where
  pub token : Token
  pub rest : List Token
  pub kind : token.kind ≡ k
  pub at_it : drop at ts ≡ token ∷ rest
  pub front : take (at + 1) ts ≡ take at ts ++ token ∷ []
  pub behind : drop (at + 1) ts ≡ rest
  pub within : at < length ts

pub here : (ts : List Token) (at : ℕ) (k : Kind) → is_at ts at k ≡ true → Here ts at k
here [] at k h = absurd (false≢true h)
here (t ∷ ts) zero k h =
    record {
      token = t;
      rest = ts;
      kind = same_kind t.kind k (same (number t.kind) (number k) h);
      at_it = refl;
      front = refl;
      behind = refl;
      within = omega
          arith;
    }
here (t ∷ ts) (suc at) k h =
    let r = here ts at k h in
    let e : suc at + 1 ≡ suc (at + 1) = omega arith in
    let w = r.within in
    record {
      token = r.token;
      rest = r.rest;
      kind = r.kind;
      at_it = r.at_it;
      front = ap (λ i. take i (t ∷ ts)) e ∙ ap (λ l. t ∷ l) r.front;
      behind = ap (λ i. drop i (t ∷ ts)) e ∙ r.behind;
      within = omega (arith, w);
    }

unequal : (u k : ℕ) → (u == k) ≡ false → u ≡ k → ⊥
unequal u k h e = grind (arith, h, e)

not_here : (ts : List Token) (at : ℕ) (k : Kind) (t : Token) (rest : List Token) → is_at ts at k ≡ false → drop at ts ≡ t ∷ rest → number t.kind ≡ number k → ⊥
not_here [] zero k t rest h e f = let g : [] ≡ t ∷ rest = e in cc
not_here [] (suc at) k t rest h e f = let g : [] ≡ t ∷ rest = e in cc
not_here (v ∷ ts) zero k t rest h e f =
    let g : v ∷ ts ≡ t ∷ rest = e in let i : v ≡ t = cc in unequal (number v.kind) (number k) h (ap (λ x. number x.kind) i ∙ f)
not_here (v ∷ ts) (suc at) k t rest h e f = not_here ts at k t rest h e f

stops_at : (front rest : List Token) (k : Kind) (s : List Symbol) → Run front (Sign k ∷ s) (look rest)
    → ((t : Token) (more : List Token) → rest ≡ t ∷ more → number t.kind ≡ number k → ⊥) → Stops front rest
stops_at front [] k s r h = stops_end front k s r
stops_at front (t ∷ rest) k s r h = stops_sign front t rest k s r (h t rest refl)

pub refuses_sign : (ts : List Token) (at : ℕ) (k : Kind) (deep : ℕ) (s rest : List Symbol) → At ts at s deep → s ≡ Sign k ∷ rest → is_at ts at k ≡ false
    → NoTreeAt ts at × Shallow (take at ts)
refuses_sign ts at k deep s rest a e h =
    let r = subst (λ l. Run (take at ts) l (look (drop at ts))) e a.run in
    ((viable _ _ _ r, stops_at _ _ k rest r (λ t more f g. not_here ts at k t more h f g)), (deep, a.opens))

step : (ts : List Token) (at : ℕ) (k : Kind) (s : List Symbol) (h : Here ts at k) → Run (take at ts) (Sign k ∷ s) (look (drop at ts)) → (v : ℕ)
    → Run (take (at + 1) ts) s v
step ts at k s h r v =
    let q = subst (λ l. Run (take at ts) (Sign k ∷ s) (look l)) h.at_it r in
    subst (λ l. Run l s v) (sym h.front) (run_match (take at ts) k s h.token v q h.kind)

open_step : (ts : List Token) (at : ℕ) (k : Kind) (deep : ℕ) (h : Here ts at k) → open_in 0 (take at ts) ≡ Some deep
    → open_in 0 (take (at + 1) ts) ≡ opened deep k
open_step ts at k deep h e =
    ap (open_in 0) h.front ∙ open_more 0 (take at ts) h.token ∙ ap (λ o. option_and_then (λ d. opened d h.token.kind) o) e ∙ ap (opened deep) h.kind

pub too_deep : (ts : List Token) (at : ℕ) (k : Kind) (deep : ℕ) (s rest : List Symbol) → At ts at s deep → s ≡ Sign k ∷ rest → is_at ts at k ≡ true
    → None ≡ opened deep k → TooDeepAt ts at
too_deep ts at k deep s rest a e i o =
    let h = here ts at k i in
    let r = subst (λ l. Run (take at ts) l (look (drop at ts))) e a.run in
    (viable _ _ 0 (step ts at k rest h r 0), (deep, a.opens), open_step ts at k deep h a.opens ∙ sym o)

opened_low : (opens closes : Bool) (d e : ℕ) → d ≤ 64 → (if opens then (if d == 64 then None else Some (d + 1)) else if closes then Some (d - 1) else Some d)
    ≡ Some e → e ≤ 64
opened_low opens closes d e h f = grind (arith, h, f)

pub matches : (ts : List Token) (at : ℕ) (k : Kind) (deep now : ℕ) (s rest : List Symbol) → At ts at s deep → s ≡ Sign k ∷ rest → is_at ts at k ≡ true
    → Some now ≡ opened deep k → At ts (at + 1) rest now
matches ts at k deep now s rest a e i o =
    let h = here ts at k i in
    let r = subst (λ l. Run (take at ts) l (look (drop at ts))) e a.run in
    let w = h.within in
    record {
      within = omega (arith, w);
      run = step ts at k rest h r (look (drop (at + 1) ts));
      opens = open_step ts at k deep h a.opens ∙ sym o;
      low = opened_low (is_open k) (is_close k) deep now a.low (sym o);
    }

pub matches_room : (ts : List Token) (at : ℕ) (k : Kind) (s rest : List Symbol) → s ≡ Sign k ∷ rest → is_at ts at k ≡ true
    → room rest (drop (at + 1) ts) < room s (drop at ts)
matches_room ts at k s rest e i =
    let h = here ts at k i in
    subst (λ l. room rest (drop (at + 1) ts) < room l (drop at ts)) (sym e)
    (subst (λ l. room rest (drop (at + 1) ts) < room (Sign k ∷ rest) l) (sym h.at_it)
    (subst (λ l. room rest l < room (Sign k ∷ rest) (h.token ∷ h.rest)) (sym h.behind) (room_match k rest h.token h.rest h.kind)))

pub ends : (ts : List Token) (at deep : ℕ) (s : List Symbol) → At ts at s deep → s ≡ [] → at ≡ length ts → Sentence ts × Shallow ts
ends ts at deep s a e f =
    let r = subst (λ l. Run (take at ts) l (look (drop at ts))) e a.run in
    let all : take at ts ≡ ts = take_all at ts (omega (arith, f)) in
    (subst Sentence all (whole _ _ r), (deep, ap (open_in 0) (sym all) ∙ a.opens))

stops_more : (front rest : List Token) → Run front [] (look rest) → (rest ≡ [] → ⊥) → Stops front rest
stops_more front [] r h = absurd (h refl)
stops_more front (t ∷ rest) r h = stops_left front t rest r

no_rest : (ts : List Token) (at : ℕ) → at ≤ length ts → (at ≡ length ts → ⊥) → drop at ts ≡ [] → ⊥
no_rest [] zero h f e = f refl
no_rest [] (suc at) h f e = absurd (omega (arith, h))
no_rest (t ∷ ts) zero h f e = let g : t ∷ ts ≡ [] = e in cc
no_rest (t ∷ ts) (suc at) h f e = no_rest ts at (omega (arith, h)) (λ g. f (ap suc g)) e

pub left_over : (ts : List Token) (at deep : ℕ) (s : List Symbol) → At ts at s deep → s ≡ [] → (at ≡ length ts → ⊥) → NoTreeAt ts at × Shallow (take at ts)
left_over ts at deep s a e f =
    let r = subst (λ l. Run (take at ts) l (look (drop at ts))) e a.run in
    ((viable _ _ _ r, stops_more _ _ r (no_rest ts at a.within f)), (deep, a.opens))

pub top : (x y : Symbol) (s rest : List Symbol) → s ≡ x ∷ rest → x ≡ y → s ≡ y ∷ rest
top x y s rest e f = e ∙ ap (λ z. z ∷ rest) f
