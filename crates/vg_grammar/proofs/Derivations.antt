-- What the steps made so far and the marks to come say of every parse that begins so.
-- The marks hold the symbols to come, so what Runs says of a stack of symbols holds of them; beside it each parse of the rest
-- gives the steps to come, and with the steps so far these are the steps of the whole parse.
use Rattle.std.proofs.Common.{◌≡◌, ℕ, zero, suc, ◌+◌, ◌*◌, ◌<◌, true, false, List, [], ◌∷◌, ◌++◌, length, Some, None, refl, sym, ap, ◌∙◌, subst, arith}
use Rattle.std.proofs.Common.{append_assoc, append-nil, take, drop, take_all}
use Rattle.vg_syntax.specs.declared.kind.Kind.{Kind}
use Rattle.vg_syntax.specs.declared.token.Token.{Token}
use Rattle.vg_syntax.specs.declared.grammar.Symbol.{Symbol}
use Rattle.vg_syntax.specs.declared.grammar.Symbol.TheVariants.{Sign, Use}
use Rattle.vg_syntax.specs.declared.grammar.Part.{Part}
use Rattle.vg_syntax.specs.declared.grammar.Part.TheVariants as part
use Rattle.vg_syntax.specs.Grammar.{rules}
use Rattle.vg_syntax.specs.Parses.{Parse, Nil, Tok, Sub, leaves, Fits, Shallow, NoTreeAt, TooDeepAt, opened}
use Rattle.vg_grammar.specs.Numbers.{number}
use Rattle.vg_grammar.specs.Looks.{look, kind_at, is_at}
use Rattle.vg_grammar.specs.Tables.{pick, chosen}
use Rattle.vg_grammar.specs.Marks.{sees}
use Rattle.vg_grammar.specs.Derivation.{width, steps_of, AreSteps}
use Rattle.vg_grammar.specs.declared.marks.Mark.{Mark}
use Rattle.vg_grammar.specs.declared.marks.Mark.TheVariants.{See, Make}
use Rattle.vg_grammar.specs.declared.derivation.Step.{Step}
use Rattle.vg_grammar.specs.declared.derivation.Step.TheVariants as step
use Rattle.vg_grammar.proofs.Rows.{join}
use Rattle.vg_grammar.proofs.Theory.{Stacked, stacked_expand, expanded}
use Rattle.vg_grammar.proofs.Runs.{same_some, run_start}
use Rattle.vg_grammar.proofs.Room.{room}
use Rattle.vg_grammar.proofs.Steps.{At, here, starts, asked, refuses_part, expands, expands_room, refuses_sign, too_deep, matches, matches_room, ends}
use Rattle.vg_grammar.proofs.Steps.{left_over}

-- the symbols among the marks
abbrev pub plain : List Mark → List Symbol
plain [] = []
plain (See x ∷ m) = x ∷ plain m
plain (Make n c ∷ m) = plain m

-- the steps to come, where the symbols to come are parsed so
abbrev pub to_come : List Mark → Parse → List Step
to_come [] q = []
to_come (Make n c ∷ m) q = step.Make n c ∷ to_come m q
to_come (See x ∷ m) Nil = []
to_come (See x ∷ m) (Tok t q) = step.Take ∷ to_come m q
to_come (See x ∷ m) (Sub n a kids q) = steps_of kids ++ step.Make n (width kids) ∷ to_come m q

plain_sees : (s : List Symbol) (m : List Mark) → plain (sees s m) ≡ s ++ plain m
plain_sees [] m = refl
plain_sees (x ∷ s) m = ap (λ l. x ∷ l) (plain_sees s m)

width_is : (p : Parse) (s : List Symbol) → Fits p s → width p ≡ length s
width_is Nil [] h = refl
width_is Nil (x ∷ s) h = absurd h
width_is (Tok t p) [] h = absurd h
width_is (Tok t p) (Sign k ∷ s) h = ap suc (width_is p s h.1)
width_is (Tok t p) (Use n ∷ s) h = absurd h
width_is (Sub n a kids p) [] h = absurd h
width_is (Sub n a kids p) (Sign k ∷ s) h = absurd h
width_is (Sub n a kids p) (Use o ∷ s) h = ap suc (width_is p s h.4)

come_sees : (kids q : Parse) (s : List Symbol) (m : List Mark) → Fits kids s → to_come (sees s m) (join kids q) ≡ steps_of kids ++ to_come m q
come_sees Nil q [] m h = refl
come_sees Nil q (x ∷ s) m h = absurd h
come_sees (Tok t p) q [] m h = absurd h
come_sees (Tok t p) q (Sign k ∷ s) m h = ap (λ l. step.Take ∷ l) (come_sees p q s m h.1)
come_sees (Tok t p) q (Use n ∷ s) m h = absurd h
come_sees (Sub n a kids p) q [] m h = absurd h
come_sees (Sub n a kids p) q (Sign k ∷ s) m h = absurd h
come_sees (Sub n a kids p) q (Use o ∷ s) m h =
    ap (λ l. steps_of kids ++ step.Make n (width kids) ∷ l) (come_sees p q s m h.4)
    ∙ sym (append_assoc (steps_of kids) (step.Make n (width kids) ∷ steps_of p) (to_come m q))

-- every parse that begins with the tokens read has these steps so far, and goes on as a parse of the marks
pub record Made (front : List Token) (m : List Mark) (steps : List Step) (u : ℕ) : Type 0 where
  pub back : (p : Parse) (more : List Token) → look more ≡ u → Fits p (Use part.Text ∷ []) → leaves p ≡ front ++ more
      → (q : Parse) × Fits q (plain m) × (leaves q ≡ more) × (steps ++ to_come m q ≡ steps_of p)
  pub ok : Stacked (plain m)

made_expand : (front : List Token) (n : Part) (m : List Mark) (steps : List Step) (u : ℕ) (rhs : List Symbol) → Made front (See (Use n) ∷ m) steps u
    → chosen n u ≡ Some rhs → Made front (sees rhs (Make n (length rhs) ∷ m)) steps u
made_expand front n m steps u rhs r c = record {
  back = λ p more l h e.
      let o = r.back p more l h e in
      let x = expanded n (plain m) r.ok o.0 o.1 in
      let i : x.rhs ≡ rhs = same_some x.rhs rhs (chosen n (look (leaves o.0))) x.is_chosen (ap (chosen n) (ap look o.2 ∙ l) ∙ c) in
      let f : Fits x.kids rhs = subst (λ z. Fits x.kids z) i x.kids_fit in
      let g : to_come (sees rhs (Make n (length rhs) ∷ m)) (join x.kids x.behind) ≡ steps_of x.kids ++ step.Make n (width x.kids) ∷ to_come m x.behind =
      come_sees x.kids x.behind rhs (Make n (length rhs) ∷ m) f ∙ ap (λ w. steps_of x.kids ++ step.Make n w ∷ to_come m x.behind)
      (sym (width_is x.kids rhs f)) in (
        join x.kids x.behind,
        subst (λ z. Fits (join x.kids x.behind) z) (sym (plain_sees rhs (Make n (length rhs) ∷ m)))
            (subst (λ z. Fits (join x.kids x.behind) (z ++ plain m)) i x.all_fit),
        x.same_leaves ∙ o.2,
        ap (λ l. steps ++ l) (g ∙ ap (to_come (See (Use n) ∷ m)) (sym x.is)) ∙ o.3,
      );
  ok = subst Stacked (sym (plain_sees rhs (Make n (length rhs) ∷ m))) (stacked_expand n (plain m) (pick (rules n) u) rhs c r.ok);
}

made_part : (front : List Token) (n : Part) (c : ℕ) (m : List Mark) (steps : List Step) (u : ℕ) → Made front (Make n c ∷ m) steps u
    → Made front m (steps ++ step.Make n c ∷ []) u
made_part front n c m steps u r = record {
  back = λ p more l h e. let o = r.back p more l h e in (o.0, o.1, o.2, append_assoc steps (step.Make n c ∷ []) (to_come m o.0) ∙ o.3);
  ok = r.ok;
}

take_tok : (q : Parse) (k : Kind) (m : List Mark) (t : Token) (more : List Token) → Fits q (Sign k ∷ plain m) → leaves q ≡ t ∷ more
    → (x : Parse) × Fits x (plain m) × (leaves x ≡ more) × (step.Take ∷ to_come m x ≡ to_come (See (Sign k) ∷ m) q)
take_tok Nil k m t more h e = absurd h
take_tok (Tok v q) k m t more h e = let f : v ∷ leaves q ≡ t ∷ more = e in (q, h.1, cc, refl)
take_tok (Sub n a kids q) k m t more h e = absurd h

made_match : (front : List Token) (k : Kind) (m : List Mark) (steps : List Step) (t : Token) (v : ℕ) → Made front (See (Sign k) ∷ m) steps (number t.kind)
    → Made (front ++ t ∷ []) m (steps ++ step.Take ∷ []) v
made_match front k m steps t v r = record {
  back = λ p more l h e.
      let o = r.back p (t ∷ more) refl h (e ∙ append_assoc front (t ∷ []) more) in
      let x = take_tok o.0 k m t more o.1 o.2 in
      (x.0, x.1, x.2, append_assoc steps (step.Take ∷ []) (to_come m x.0) ∙ ap (λ l. steps ++ l) x.3 ∙ o.3);
  ok = r.ok;
}

-- the loop's invariant
pub record Making (ts : List Token) (at : ℕ) (m : List Mark) (steps : List Step) (deep : ℕ) : Type 0 where
  pub at_it : At ts at (plain m) deep
  pub made : Made (take at ts) m steps (look (drop at ts))

whole_steps : (p : Parse) → Fits p (Use part.Text ∷ []) → to_come (See (Use part.Text) ∷ []) p ≡ steps_of p
whole_steps Nil h = absurd h
whole_steps (Tok t p) h = absurd h
whole_steps (Sub n a kids Nil) h = refl
whole_steps (Sub n a kids (Tok t p)) h = absurd h.4
whole_steps (Sub n a kids (Sub o b more p)) h = absurd h.4

pub begins : (ts : List Token) (m : List Mark) → m ≡ See (Use part.Text) ∷ [] → Making ts 0 m [] 0
begins ts m e = record {
  at_it = starts ts (plain m) (ap plain e);
  made = subst (λ l. Made [] l [] (look ts)) (sym e) (record { back = λ p more l h f. (p, h, f, whole_steps p h); ok = (run_start 0).ok });
}

makes : List Mark → ℕ
makes [] = 0
makes (See x ∷ m) = makes m
makes (Make n c ∷ m) = suc (makes m)

pub steps_left : List Mark → List Token → ℕ
unfolding makes
steps_left m rest = 16 * room (plain m) rest + makes m

makes_sees : (s : List Symbol) (m : List Mark) → makes (sees s m) ≡ makes m
unfolding makes
makes_sees [] m = refl
makes_sees (x ∷ s) m = makes_sees s m

pub expanding : (ts : List Token) (at : ℕ) (k : Kind) (deep : ℕ) (m rest mid new : List Mark) (steps : List Step) (rhs : List Symbol) (n : Part)
    → Making ts at m steps deep → m ≡ See (Use n) ∷ rest → k ≡ kind_at ts at → Some rhs ≡ chosen n (number k) → mid ≡ Make n (length rhs) ∷ rest
    → new ≡ sees rhs mid → Making ts at new steps deep
expanding ts at k deep m rest mid new steps rhs n r e o c i j =
    let f : new ≡ sees rhs (Make n (length rhs) ∷ rest) = j ∙ ap (sees rhs) i in
    let v = subst (λ l. Made (take at ts) l steps (look (drop at ts))) e r.made in
    record {
      at_it = expands ts at k deep (plain m) (plain rest) rhs (plain new) n r.at_it (ap plain e) o c (ap plain f ∙ plain_sees rhs (Make n (length rhs) ∷ rest));
      made = subst (λ l. Made (take at ts) l steps (look (drop at ts))) (sym f)
          (made_expand (take at ts) n rest steps (look (drop at ts)) rhs v (asked ts at k n (Some rhs) o c));
    }

pub expanding_less : (ts : List Token) (at : ℕ) (k : Kind) (m rest mid new : List Mark) (rhs : List Symbol) (n : Part) → m ≡ See (Use n) ∷ rest
    → k ≡ kind_at ts at → Some rhs ≡ chosen n (number k) → mid ≡ Make n (length rhs) ∷ rest → new ≡ sees rhs mid
    → steps_left new (drop at ts) < steps_left m (drop at ts)
unfolding steps_left makes
expanding_less ts at k m rest mid new rhs n e o c i j =
    let f : new ≡ sees rhs (Make n (length rhs) ∷ rest) = j ∙ ap (sees rhs) i in
    let h = expands_room ts at k (plain m) (plain rest) rhs (plain new) n (ap plain e) o c (ap plain f ∙ plain_sees rhs (Make n (length rhs) ∷ rest)) in
    let a : makes new ≡ suc (makes rest) = ap makes f ∙ makes_sees rhs (Make n (length rhs) ∷ rest) in
    let b : makes m ≡ makes rest = ap makes e in
    omega (arith, h, a, b)

pub making : (ts : List Token) (at deep c : ℕ) (m rest : List Mark) (steps new : List Step) (n : Part) → Making ts at m steps deep → m ≡ Make n c ∷ rest
    → new ≡ steps ++ step.Make n c ∷ [] → Making ts at rest new deep
making ts at deep c m rest steps new n r e f = record {
  at_it = subst (λ l. At ts at l deep) (ap plain e) r.at_it;
  made = subst (λ l. Made (take at ts) rest l (look (drop at ts))) (sym f)
      (made_part (take at ts) n c rest steps (look (drop at ts)) (subst (λ l. Made (take at ts) l steps (look (drop at ts))) e r.made));
}

pub making_less : (ts : List Token) (at c : ℕ) (m rest : List Mark) (n : Part) → m ≡ Make n c ∷ rest → steps_left rest (drop at ts) < steps_left m (drop at ts)
unfolding steps_left makes
making_less ts at c m rest n e =
    let a : makes m ≡ suc (makes rest) = ap makes e in
    let b : room (plain m) (drop at ts) ≡ room (plain rest) (drop at ts) = ap (λ l. room (plain l) (drop at ts)) e in
    omega (arith, a, b)

pub matching : (ts : List Token) (at : ℕ) (k : Kind) (deep now : ℕ) (m rest : List Mark) (steps new : List Step) → Making ts at m steps deep
    → m ≡ See (Sign k) ∷ rest → is_at ts at k ≡ true → Some now ≡ opened deep k → new ≡ steps ++ step.Take ∷ [] → Making ts (at + 1) rest new now
matching ts at k deep now m rest steps new r e i o g =
    let h = here ts at k i in
    let v = subst (λ l. Made (take at ts) l steps (look (drop at ts))) e r.made in
    let w = subst (λ u. Made (take at ts) (See (Sign k) ∷ rest) steps u) (ap look h.at_it) v in
    record {
      at_it = matches ts at k deep now (plain m) (plain rest) r.at_it (ap plain e) i o;
      made = subst (λ l. Made (take (at + 1) ts) rest l (look (drop (at + 1) ts))) (sym g)
          (subst (λ l. Made l rest (steps ++ step.Take ∷ []) (look (drop (at + 1) ts))) (sym h.front)
          (made_match (take at ts) k rest steps h.token (look (drop (at + 1) ts)) w));
    }

pub matching_less : (ts : List Token) (at : ℕ) (k : Kind) (m rest : List Mark) → m ≡ See (Sign k) ∷ rest → is_at ts at k ≡ true
    → steps_left rest (drop (at + 1) ts) < steps_left m (drop at ts)
unfolding steps_left makes
matching_less ts at k m rest e i =
    let h = matches_room ts at k (plain m) (plain rest) (ap plain e) i in
    let b : makes m ≡ makes rest = ap makes e in
    omega (arith, h, b)

pub ending : (ts : List Token) (at deep : ℕ) (m : List Mark) (steps : List Step) → Making ts at m steps deep → m ≡ [] → at ≡ length ts
    → AreSteps ts steps × Shallow ts
ending ts at deep m steps r e f =
    let s = ends ts at deep (plain m) r.at_it (ap plain e) f in
    let a : take at ts ≡ ts = take_all at ts (omega (arith, f)) in
    let v = subst (λ l. Made (take at ts) l steps (look (drop at ts))) e r.made in
    let w = subst (λ u. Made (take at ts) [] steps u) (nothing at ts f) v in
    let p = s.0.0 in
    let b = w.back p [] refl s.0.1.0 (s.0.1.1 ∙ sym a ∙ sym (append-nil (take at ts))) in
    ((p, s.0.1, sym b.3 ∙ append-nil steps), s.1)
  where
    nothing : (at : ℕ) (ts : List Token) → at ≡ length ts → look (drop at ts) ≡ 0
    nothing zero [] f = refl
    nothing zero (t ∷ ts) f = absurd (omega (arith, f))
    nothing (suc at) [] f = refl
    nothing (suc at) (t ∷ ts) f = nothing at ts (omega (arith, f))

pub top : (k : Mark) (x y : Symbol) (m rest : List Mark) → m ≡ k ∷ rest → k ≡ See x → x ≡ y → m ≡ See y ∷ rest
top k x y m rest e f g = e ∙ ap (λ z. z ∷ rest) (f ∙ ap See g)

pub top_make : (k : Mark) (n : Part) (c : ℕ) (m rest : List Mark) → m ≡ k ∷ rest → k ≡ Make n c → m ≡ Make n c ∷ rest
top_make k n c m rest e f = e ∙ ap (λ z. z ∷ rest) f

pub refuse_part : (ts : List Token) (at : ℕ) (k : Kind) (deep : ℕ) (m rest : List Mark) (steps : List Step) (n : Part) → Making ts at m steps deep
    → m ≡ See (Use n) ∷ rest → k ≡ kind_at ts at → None ≡ chosen n (number k) → NoTreeAt ts at × Shallow (take at ts)
refuse_part ts at k deep m rest steps n r e o c = refuses_part ts at k deep (plain m) (plain rest) n r.at_it (ap plain e) o c

pub refuse_sign : (ts : List Token) (at : ℕ) (k : Kind) (deep : ℕ) (m rest : List Mark) (steps : List Step) → Making ts at m steps deep
    → m ≡ See (Sign k) ∷ rest → is_at ts at k ≡ false → NoTreeAt ts at × Shallow (take at ts)
refuse_sign ts at k deep m rest steps r e i = refuses_sign ts at k deep (plain m) (plain rest) r.at_it (ap plain e) i

pub refuse_deep : (ts : List Token) (at : ℕ) (k : Kind) (deep : ℕ) (m rest : List Mark) (steps : List Step) → Making ts at m steps deep
    → m ≡ See (Sign k) ∷ rest → is_at ts at k ≡ true → None ≡ opened deep k → TooDeepAt ts at
refuse_deep ts at k deep m rest steps r e i o = too_deep ts at k deep (plain m) (plain rest) r.at_it (ap plain e) i o

pub refuse_left : (ts : List Token) (at deep : ℕ) (m : List Mark) (steps : List Step) → Making ts at m steps deep → m ≡ [] → (at ≡ length ts → ⊥)
    → NoTreeAt ts at × Shallow (take at ts)
refuse_left ts at deep m steps r e f = left_over ts at deep (plain m) r.at_it (ap plain e) f
