-- The values that are held stand for those that the steps make.
-- The invariant of the loop, Built: with the steps and tokens that are left, the values so far become those of all steps, for
-- all texts that the names may stand for later. Each lemma is one step: a token is taken, or a part is made.
use Rattle.std.proofs.Common.{◌≡◌, ℕ, zero, suc, slice_get, get_or, ◌+◌, ◌-◌, ◌<◌, ◌≤◌, List, [], ◌∷◌, ◌++◌, length, map, Some, None, refl, sym, ap, ◌∙◌}
use Rattle.std.proofs.Common.{subst, arith, take, drop}
use Rattle.std.specs.Prelude.{Vec}
use Rattle.std.specs.Global.{Global}
use Rattle.std.proofs.lemmas.List.{take-map, drop-map, length-map, map-append}
use Rattle.std.proofs.lemmas.Option.{slice_get_within}
use Rattle.vg_syntax.specs.declared.grammar.Part.{Part}
use Rattle.vg_syntax.specs.declared.token.Token.{Token}
use Rattle.vg_syntax.specs.Made.{Value}
use Rattle.vg_syntax.specs.Reads.{Two, leaf, made, kids_of}
use Rattle.vg_grammar.specs.declared.derivation.Step.{Step}
use Rattle.vg_grammar.specs.declared.derivation.Step.TheVariants.{Take, Make}
use Rattle.vg_tree.specs.declared.made.Value.{Value as HeldValue}
use Rattle.vg_tree.specs.HeldMade.{value_at}
use Rattle.vg_reader.specs.Derivation.{reduced, run}
use Rattle.vg_reader.specs.Grown.{Grown}
use Rattle.vg_reader.proofs.Named.{grown_none, grown_twice}

-- the front of a list stays where what stands behind it is changed and then cut off
pub front_stays : (front kids rest : List HeldValue) (len : ℕ) → length front ≤ len → take (length front) (take len (front ++ kids ++ rest)) ≡ front
front_stays [] kids rest len l = refl
front_stays (v ∷ front) kids rest zero l = absurd (omega (arith, l))
front_stays (v ∷ front) kids rest (suc len) l = ap (λ f. v ∷ f) (front_stays front kids rest len (omega (arith, l)))

pub reduce_step : (texts : List (List ℕ)) (n : Part) (count at : ℕ) (old new : List HeldValue) (v : HeldValue) → at ≡ length old - count
    → new ≡ take at old ++ v ∷ []
    → value_at texts v ≡ made n (kids_of (map (value_at texts) (drop at old))) → map (value_at texts) new ≡ reduced n count (map (value_at texts) old)
reduce_step texts n count at old new v e f g =
    let same : at ≡ length (map (value_at texts) old) - count = e ∙ ap (λ l. l - count) (sym (length-map old (value_at texts))) in
    ap (map (value_at texts)) f
    ∙ map-append (value_at texts) (take at old) (v ∷ [])
    ∙ ap (λ l. l ++ value_at texts v ∷ []) (sym (take-map (value_at texts) at old))
    ∙ ap (λ w. take at (map (value_at texts) old) ++ w ∷ []) (g ∙ ap (λ l. made n (kids_of l)) (sym (drop-map (value_at texts) at old)))
    ∙ ap (λ i. take i (map (value_at texts) old) ++ made n (kids_of (drop i (map (value_at texts) old))) ∷ []) same

stays : (texts : List (List ℕ)) (n : Part) (k : ℕ) (vs : List HeldValue) (rest : HeldValue) → length vs ≡ suc (suc k) → slice_get vs (suc k) ≡ Some rest
    → ((first : Value) → made n (Two first (value_at texts rest)) ≡ first)
    → map (value_at texts) (take (suc k) vs) ≡ take k (map (value_at texts) vs) ++ made n (kids_of (drop k (map (value_at texts) vs))) ∷ []
stays texts n zero [] rest l e h = absurd (omega (arith, l))
stays texts n zero (v ∷ []) rest l e h = absurd (omega (arith, l))
stays texts n zero (v ∷ w ∷ []) rest l e h =
    let same : rest ≡ w = cc in
    ap (λ u. u ∷ []) (sym (h (value_at texts v)) ∙ ap (λ u. made n (Two (value_at texts v) (value_at texts u))) same)
stays texts n zero (v ∷ w ∷ u ∷ vs) rest l e h = absurd (omega (arith, l))
stays texts n (suc k) [] rest l e h = absurd (omega (arith, l))
stays texts n (suc k) (v ∷ vs) rest l e h = ap (λ us. value_at texts v ∷ us) (stays texts n k vs rest (omega (arith, l)) e h)

-- a part of the last two values that is the first of them
pub first_stays : (texts : List (List ℕ)) (n : Part) (vs : List HeldValue) (rest : HeldValue) → 1 < length vs → slice_get vs (length vs - 1) ≡ Some rest
    → ((first : Value) → made n (Two first (value_at texts rest)) ≡ first)
    → map (value_at texts) (take (length vs - 1) vs) ≡ reduced n 2 (map (value_at texts) vs)
first_stays texts n vs rest l e h =
    let one : length vs - 1 ≡ suc (length vs - 2) = omega (arith, l) in
    let two : length vs ≡ suc (suc (length vs - 2)) = omega (arith, l) in
    ap (λ i. map (value_at texts) (take i vs)) one
    ∙ stays texts n (length vs - 2) vs rest two (sym (ap (slice_get vs) one) ∙ e) h
    ∙ ap (λ m. take (m - 2) (map (value_at texts) vs) ++ made n (kids_of (drop (m - 2) (map (value_at texts) vs))) ∷ []) (sym (length-map vs (value_at texts)))

next_token : (tokens : List Token) (at : ℕ) (t : Token) → slice_get tokens at ≡ Some t → drop at tokens ≡ t ∷ drop (at + 1) tokens
next_token [] at t e = absurd (let clash : None ≡ Some t = e in cc)
next_token (u ∷ tokens) zero t e = let same : u ≡ t = cc in ap (λ w. w ∷ tokens) same
next_token (u ∷ tokens) (suc at) t e =
    let one : suc at + 1 ≡ suc (at + 1) = omega arith in next_token tokens at t e ∙ ap (λ i. t ∷ drop i (u ∷ tokens)) (sym one)

left_none : (tokens : List Token) (at : ℕ) → slice_get tokens at ≡ None → drop at tokens ≡ []
left_none [] zero e = refl
left_none [] (suc at) e = refl
left_none (u ∷ tokens) zero e = absurd (let clash : Some u ≡ None = e in cc)
left_none (u ∷ tokens) (suc at) e = left_none tokens at e

-- so many steps are left, and with them the values become those of all steps, whatever names come later
pub record Built (bytes : List ℕ) (steps : List Step) (tokens : List Token) (first : List (List ℕ)) (left : List Step) (at : ℕ) (values : List HeldValue)
    (names : List (List ℕ)) : Type 0 where
  pub forth : (texts : List (List ℕ)) → Grown names texts → run bytes left (drop at tokens) (map (value_at texts) values) ≡ run bytes steps tokens []
  pub grown : Grown first names
  pub room : length names ≤ length first + at
  pub within : at ≤ length tokens

pub begins : (bytes : List ℕ) (steps : List Step) (tokens : List Token) (first : List (List ℕ)) (values : List HeldValue) → values ≡ []
    → Built bytes steps tokens first steps 0 values first
begins bytes steps tokens first values e = record {
  forth = λ texts _. ap (λ l. run bytes steps tokens (map (value_at texts) l)) e;
  grown = grown_none first;
  room = omega arith;
  within = omega arith;
}

pub made_one : (bytes : List ℕ) (steps : List Step) (tokens : List Token) (first : List (List ℕ)) (left : List Step) (at : ℕ) (old new : List HeldValue)
    (names : List (List ℕ)) (n : Part) (count : ℕ)
    → Built bytes steps tokens first (Make n count ∷ left) at old names
    → ((texts : List (List ℕ)) → Grown names texts → map (value_at texts) new ≡ reduced n count (map (value_at texts) old))
    → Built bytes steps tokens first left at new names
made_one bytes steps tokens first left at old new names n count b e = record {
  forth = λ texts g. ap (run bytes left (drop at tokens)) (e texts g) ∙ b.forth texts g;
  grown = b.grown;
  room = b.room;
  within = b.within;
}

pub taken_one : (bytes : List ℕ) (steps : List Step) (tokens : List Token) (first : List (List ℕ)) (left : List Step) (at : ℕ) (old new : List HeldValue)
    (names names' : List (List ℕ)) (t : Token) (v : HeldValue)
    → Built bytes steps tokens first (Take ∷ left) at old names → slice_get tokens at ≡ Some t
    → ((texts : List (List ℕ)) → Grown names' texts → value_at texts v ≡ leaf bytes t) → new ≡ old ++ v ∷ []
    → Grown names names' → length names' ≤ length names + 1 → Built bytes steps tokens first left (at + 1) new names'
taken_one bytes steps tokens first left at old new names names' t v b e f g h l = record {
  forth = λ texts k.
      ap (λ w. run bytes left (drop (at + 1) tokens) (map (value_at texts) w)) g
      ∙ ap (run bytes left (drop (at + 1) tokens)) (map-append (value_at texts) old (v ∷ []) ∙ ap (λ w. map (value_at texts) old ++ w ∷ []) (f texts k))
      ∙ sym (ap (λ w. run bytes (Take ∷ left) w (map (value_at texts) old)) (next_token tokens at t e))
      ∙ b.forth texts (grown_twice names names' texts h k);
  grown = grown_twice first names names' b.grown h;
  room = let r = b.room in omega (arith, r, l);
  within = let w = slice_get_within tokens at t e in omega (arith, w);
}

-- no token is left
pub taken_none : (bytes : List ℕ) (steps : List Step) (tokens : List Token) (first : List (List ℕ)) (left : List Step) (at : ℕ) (values : List HeldValue)
    (names : List (List ℕ))
    → Built bytes steps tokens first (Take ∷ left) at values names → slice_get tokens at ≡ None → Built bytes steps tokens first left at values names
taken_none bytes steps tokens first left at values names b e = record {
  forth = λ texts k. sym (no_token (drop at tokens) (map (value_at texts) values) (left_none tokens at e)) ∙ b.forth texts k;
  grown = b.grown;
  room = b.room;
  within = b.within;
}
  where
    no_token : (ts : List Token) (vs : List Value) → ts ≡ [] → run bytes (Take ∷ left) ts vs ≡ run bytes left ts vs
    no_token ts vs e = ap (λ l. run bytes (Take ∷ left) l vs) e ∙ sym (ap (λ l. run bytes left l vs) e)

-- the next step
pub next_step : (steps : List Step) (i : ℕ) (other s : Step) → i < length steps → get_or steps i other ≡ s → drop i steps ≡ s ∷ drop (i + 1) steps
next_step [] i other s h e = absurd (omega (arith, h))
next_step (u ∷ steps) zero other s h e = ap (λ w. w ∷ steps) e
next_step (u ∷ steps) (suc i) other s h e =
    let one : suc i + 1 ≡ suc (i + 1) = omega arith in next_step steps i other s (omega (arith, h)) e ∙ ap (λ j. s ∷ drop j (u ∷ steps)) (sym one)

none_left : (steps : List Step) (i : ℕ) → length steps ≤ i → drop i steps ≡ []
none_left [] zero h = refl
none_left [] (suc i) h = refl
none_left (s ∷ steps) zero h = absurd (omega (arith, h))
none_left (s ∷ steps) (suc i) h = none_left steps i (omega (arith, h))

-- the same in other words
pub arrived : (bytes : List ℕ) (steps : List Step) (tokens : List Token) (first : List (List ℕ)) (left : List Step) (at at' : ℕ)
    (values values' : List HeldValue) (names names' : List (List ℕ))
    → at' ≡ at → values' ≡ values → names' ≡ names → Built bytes steps tokens first left at values names
    → Built bytes steps tokens first left at' values' names'
arrived bytes steps tokens first left at at' values values' names names' e f g b =
    subst (λ i. Built bytes steps tokens first left i values' names') (sym e)
    (subst (λ v. Built bytes steps tokens first left at v names') (sym f) (subst (λ n. Built bytes steps tokens first left at values n) (sym g) b))

pub items_same : (v w : Vec HeldValue Global) → v ≡ w → v.items ≡ w.items
items_same v w e = ap (λ (u : Vec HeldValue Global). u.items) e

pub left_same : (bytes : List ℕ) (steps : List Step) (tokens : List Token) (first : List (List ℕ)) (left left' : List Step) (at : ℕ) (values : List HeldValue)
    (names : List (List ℕ))
    → left ≡ left' → Built bytes steps tokens first left at values names → Built bytes steps tokens first left' at values names
left_same bytes steps tokens first left left' at values names e b = subst (λ l. Built bytes steps tokens first l at values names) e b

-- no step is left
pub ended : (bytes : List ℕ) (steps steps' : List Step) (tokens tokens' : List Token) (first : List (List ℕ)) (i at : ℕ) (values : List HeldValue)
    (names texts : List (List ℕ))
    → steps ≡ steps' → tokens ≡ tokens' → length steps ≤ i → Built bytes steps tokens first (drop i steps) at values names → Grown names texts
    → map (value_at texts) values ≡ run bytes steps' tokens' []
ended bytes steps steps' tokens tokens' first i at values names texts e f h b g =
    sym (ap (λ l. run bytes l (drop at tokens) (map (value_at texts) values)) (none_left steps i h)) ∙ b.forth texts g ∙ ap (λ l. run bytes l tokens []) e
    ∙ ap (λ l. run bytes steps' l []) f
