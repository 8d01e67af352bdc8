-- What the tokens read so far and the stack say of all texts that begin so.
-- Two ways: every parse of the stack completes what is read to a whole text, and every whole text that goes on so has a parse of
-- the stack. The first makes what is read viable; from the second, no text goes on where the stack refuses the next token.
use Rattle.std.proofs.Common.{◌≡◌, ℕ, zero, suc, true, List, [], ◌∷◌, ◌++◌, Option, Some, None, refl, sym, ap, ◌∙◌, subst, append_assoc, append-nil, drop}
use Rattle.std.specs.Option.{option_and_then}
use Rattle.vg_syntax.specs.declared.kind.Kind.{Kind}
use Rattle.vg_syntax.specs.declared.token.Token.{Token}
use Rattle.vg_syntax.specs.declared.grammar.Symbol.{Symbol}
use Rattle.vg_syntax.specs.declared.grammar.Symbol.TheVariants.{Sign, Use}
use Rattle.vg_syntax.specs.declared.grammar.Part.{Part}
use Rattle.vg_syntax.specs.declared.grammar.Part.TheVariants as part
use Rattle.vg_syntax.specs.Grammar.{rules}
use Rattle.vg_syntax.specs.Parses.{Parse, Nil, Tok, Sub, leaves, Fits, Sentence, Viable, Stops, opened, open_in}
use Rattle.vg_grammar.specs.Numbers.{number}
use Rattle.vg_grammar.specs.Looks.{look, kind_at}
use Rattle.vg_grammar.specs.Tables.{mem, follows, pick, chosen}
use Rattle.vg_grammar.proofs.Completions.{Has, completed}
use Rattle.vg_grammar.proofs.Rows.{join}
use Rattle.vg_grammar.proofs.Theory.{Stacked, stacked_expand, expand_forth, expanded}

-- `front` is read, the symbols `s` are to come, and the next token's kind has the number u
pub record Run (front : List Token) (s : List Symbol) (u : ℕ) : Type 0 where
  pub forth : (q : Parse) → Fits q s → (p : Parse) × Fits p (Use part.Text ∷ []) × (leaves p ≡ front ++ leaves q)
  pub back : (p : Parse) (more : List Token) → look more ≡ u → Fits p (Use part.Text ∷ []) → leaves p ≡ front ++ more
      → (q : Parse) × Fits q s × (leaves q ≡ more)
  pub ok : Stacked s

pub run_start : (u : ℕ) → Run [] (Use part.Text ∷ []) u
run_start u = record {
  forth = λ q h. (q, h, refl);
  back = λ p more l h e. (p, h, e);
  ok = ((λ v h. subst (λ w. mem w (follows part.Text) ≡ true) (sym h) refl), tt);
}

pub same_some : (a b : List Symbol) (o : Option (List Symbol)) → o ≡ Some a → o ≡ Some b → a ≡ b
same_some a b o e f = let g : Some a ≡ Some b = sym e ∙ f in cc

pub run_expand : (front : List Token) (n : Part) (s : List Symbol) (u : ℕ) (rhs : List Symbol) → Run front (Use n ∷ s) u → chosen n u ≡ Some rhs
    → Run front (rhs ++ s) u
run_expand front n s u rhs r c = record {
  forth = λ q h. let e = expand_forth n (pick (rules n) u) rhs s c q h in let o = r.forth e.0 e.1 in (o.0, o.1, o.2 ∙ ap (λ l. front ++ l) e.2);
  back = λ p more l h e.
      let o = r.back p more l h e in
      let x = expanded n s r.ok o.0 o.1 in
      let w = ap (chosen n) (ap look o.2 ∙ l) in
      let i : x.rhs ≡ rhs = same_some x.rhs rhs (chosen n (look (leaves o.0))) x.is_chosen (w ∙ c) in
      (join x.kids x.behind, subst (λ z. Fits (join x.kids x.behind) (z ++ s)) i x.all_fit, x.same_leaves ∙ o.2);
  ok = stacked_expand n s (pick (rules n) u) rhs c r.ok;
}

take_tok : (q : Parse) (k : Kind) (s : List Symbol) (t : Token) (more : List Token) → Fits q (Sign k ∷ s) → leaves q ≡ t ∷ more
    → (x : Parse) × Fits x s × (leaves x ≡ more)
take_tok Nil k s t more h e = absurd h
take_tok (Tok v q) k s t more h e = let f : v ∷ leaves q ≡ t ∷ more = e in (q, h.1, cc)
take_tok (Sub n a kids q) k s t more h e = absurd h

pub run_match : (front : List Token) (k : Kind) (s : List Symbol) (t : Token) (v : ℕ) → Run front (Sign k ∷ s) (number t.kind) → t.kind ≡ k
    → Run (front ++ t ∷ []) s v
run_match front k s t v r c = record {
  forth = λ q h. let o = r.forth (Tok t q) (c, h) in (o.0, o.1, o.2 ∙ sym (append_assoc front (t ∷ []) (leaves q)));
  back = λ p more l h e.
      let o = r.back p (t ∷ more) refl h (e ∙ append_assoc front (t ∷ []) more) in
      take_tok o.0 k s t more o.1 o.2;
  ok = r.ok;
}

pub viable : (front : List Token) (s : List Symbol) (u : ℕ) → Run front s u → Viable front
unfolding Has
viable front s u r =
    let c = completed s in
    let o = r.forth c.0 c.1 in
    (leaves c.0, (o.0, (o.1, o.2)))

pub whole : (front : List Token) (u : ℕ) → Run front [] u → Sentence front
whole front u r = let o = r.forth Nil tt in (o.0, (o.1, o.2 ∙ append-nil front))

-- no whole text goes on with a next token whose kind has the number u
abbrev Dead : List Token → ℕ → Type 0
Dead front u = (more : List Token) → look more ≡ u → Sentence (front ++ more) → ⊥

dead_part : (front : List Token) (n : Part) (s : List Symbol) (u : ℕ) → Run front (Use n ∷ s) u → chosen n u ≡ None → Dead front u
dead_part front n s u r c more l h =
    let o = r.back h.0 more l h.1.0 h.1.1 in
    let x = expanded n s r.ok o.0 o.1 in
    let e : Some x.rhs ≡ None = sym x.is_chosen ∙ ap (chosen n) (ap look o.2 ∙ l) ∙ c in cc

sign_look : (q : Parse) (k : Kind) (s : List Symbol) → Fits q (Sign k ∷ s) → look (leaves q) ≡ number k
sign_look Nil k s h = absurd h
sign_look (Tok v q) k s h = ap number h.0
sign_look (Sub n a kids q) k s h = absurd h

dead_sign : (front : List Token) (k : Kind) (s : List Symbol) (u : ℕ) → Run front (Sign k ∷ s) u → (u ≡ number k → ⊥) → Dead front u
dead_sign front k s u r c more l h =
    let o = r.back h.0 more l h.1.0 h.1.1 in
    c (sym l ∙ ap look (sym o.2) ∙ sign_look o.0 k s o.1)

no_sign : (q : Parse) (k : Kind) (s : List Symbol) → Fits q (Sign k ∷ s) → leaves q ≡ [] → ⊥
no_sign Nil k s h e = absurd h
no_sign (Tok v q) k s h e = let f : v ∷ leaves q ≡ [] = e in cc
no_sign (Sub n a kids q) k s h e = absurd h

all_read : (q : Parse) → Fits q [] → leaves q ≡ []
all_read Nil h = refl
all_read (Tok v q) h = absurd h
all_read (Sub n a kids q) h = absurd h

stops_dead : (front rest : List Token) → Dead front (look rest) → Stops front rest
stops_dead front [] d = λ h. d [] refl (subst Sentence (sym (append-nil front)) h)
stops_dead front (t ∷ rest) d = λ v. d (t ∷ v.0) refl (subst Sentence (append_assoc front (t ∷ []) v.0) v.1)

pub stops_part : (front rest : List Token) (n : Part) (s : List Symbol) → Run front (Use n ∷ s) (look rest) → chosen n (look rest) ≡ None → Stops front rest
stops_part front rest n s r c = stops_dead front rest (dead_part front n s (look rest) r c)

pub stops_sign : (front : List Token) (t : Token) (rest : List Token) (k : Kind) (s : List Symbol) → Run front (Sign k ∷ s) (number t.kind)
    → (number t.kind ≡ number k → ⊥) → Stops front (t ∷ rest)
stops_sign front t rest k s r c = stops_dead front (t ∷ rest) (dead_sign front k s (number t.kind) r c)

pub stops_end : (front : List Token) (k : Kind) (s : List Symbol) → Run front (Sign k ∷ s) 0 → Stops front []
stops_end front k s r = λ h.
    let o = r.back h.0 [] refl h.1.0 (h.1.1 ∙ sym (append-nil front)) in no_sign o.0 k s o.1 o.2

pub stops_left : (front : List Token) (t : Token) (rest : List Token) → Run front [] (number t.kind) → Stops front (t ∷ rest)
stops_left front t rest r = λ v.
    let o = r.back v.1.0 (t ∷ v.0) refl v.1.1.0 (v.1.1.1 ∙ append_assoc front (t ∷ []) v.0) in
    let e : t ∷ v.0 ≡ [] = sym o.2 ∙ all_read o.0 o.1 in cc

-- the same at a token's number
pub look_at : (ts : List Token) (i : ℕ) → number (kind_at ts i) ≡ look (drop i ts)
look_at [] zero = refl
look_at [] (suc i) = refl
look_at (t ∷ ts) zero = refl
look_at (t ∷ ts) (suc i) = look_at ts i

pub open_more : (d : ℕ) (ts : List Token) (t : Token) → open_in d (ts ++ t ∷ []) ≡ option_and_then (λ e. opened e t.kind) (open_in d ts)
open_more d [] t = last (opened d t.kind)
  where
    last : (o : Option ℕ) → option_and_then (λ e. Some e) o ≡ o
    last None = refl
    last (Some e) = refl
open_more d (v ∷ ts) t = then_all (opened d v.kind) (λ e. open_more e ts t)
  where
    then_all : (o : Option ℕ) → ((e : ℕ) → open_in e (ts ++ t ∷ []) ≡ option_and_then (λ e. opened e t.kind) (open_in e ts))
        → option_and_then (λ e. open_in e (ts ++ t ∷ [])) o ≡ option_and_then (λ e. opened e t.kind) (option_and_then (λ e. open_in e ts) o)
    then_all None h = refl
    then_all (Some e) h = h e
