-- Pieces that are those of some symbols, with what stands behind them, and what is made of them. A row of values is spoken of by a predicate, one for each
-- of its values; what a part makes follows from those of its kids.
use Rattle.std.proofs.Common.{◌≡◌, ℕ, List, [], ◌∷◌, ◌++◌, Some, refl, sym, ap, ◌∙◌, subst, append_assoc, append-nil}
use Rattle.vg_syntax.specs.declared.kind.Kind.{Kind}
use Rattle.vg_syntax.specs.declared.kind.Kind.TheVariants as kind
use Rattle.vg_syntax.specs.declared.token.Token.{Token}
use Rattle.vg_syntax.specs.declared.grammar.Symbol.{Symbol}
use Rattle.vg_syntax.specs.declared.grammar.Symbol.TheVariants.{Sign, Use}
use Rattle.vg_syntax.specs.declared.grammar.Part.{Part}
use Rattle.vg_syntax.specs.Grammar.{rules}
use Rattle.vg_syntax.specs.Parses.{Parse, Nil, Tok, Sub, leaves, nth, Fits}
use Rattle.vg_syntax.specs.Made.{Word, Row, Value, row_in}
use Rattle.vg_syntax.specs.Tree.{Nothing}
use Rattle.vg_syntax.specs.Reads.{Zero, Two, kids_of, made, level, chained, leaf, values}
use Rattle.vg_first_text.specs.Pieces.{Piece, Named, Digits, Plain, piece, piece_of, pieces}
use Rattle.vg_syntax.specs.Tokens.{text_of}
use Rattle.vg_grammar.proofs.Rows.{join, leaves_join, fits_join}

-- the kind of a piece's token
abbrev pub kind_of : Piece → Kind
kind_of (Named text) = kind.Name
kind_of (Digits text) = kind.Number
kind_of (Plain k) = k

pub kind_of_piece : (k : Kind) (text : List ℕ) → kind_of (piece k text) ≡ k
kind_of_piece kind.Name text = refl
kind_of_piece kind.Number text = refl
kind_of_piece other text = refl

-- ---- values

-- the value of a token of this piece
abbrev pub IsLeaf : Piece → Value → Type 0
IsLeaf (Named text) v = v.made ≡ Word kind.Name text
IsLeaf (Digits text) v = v.made ≡ Word kind.Number text
IsLeaf (Plain k) v = (text : List ℕ) × (v.made ≡ Word k text)

leaf_of_piece : (bytes : List ℕ) (t : Token) → IsLeaf (piece t.kind (text_of bytes t)) (leaf bytes t)
leaf_of_piece bytes t = by t.kind refl
  where
    by : (k : Kind) → k ≡ t.kind → IsLeaf (piece k (text_of bytes t)) (leaf bytes t)
    by kind.Name e = ap (λ k. Word k (text_of bytes t)) (sym e)
    by kind.Number e = ap (λ k. Word k (text_of bytes t)) (sym e)
    by other e = (text_of bytes t, ap (λ k. Word k (text_of bytes t)) (sym e))

abbrev pub NoValue : List Value → Type 0
NoValue vs = vs ≡ []

-- a first value, and the others
abbrev pub First : (Value → Type 0) → (List Value → Type 0) → List Value → Type 0
First P V vs = (v : Value) × (rest : List Value) × (vs ≡ v ∷ rest) × P v × V rest

-- one value
abbrev pub Alone : (Value → Type 0) → List Value → Type 0
Alone P = First P NoValue

values_join : (bytes : List ℕ) (p q : Parse) → values bytes (join p q) ≡ values bytes p ++ values bytes q
values_join bytes Nil q = refl
values_join bytes (Tok t p) q = ap (λ l. leaf bytes t ∷ l) (values_join bytes p q)
values_join bytes (Sub n a kids p) q = ap (λ l. made n (kids_of (values bytes kids)) ∷ l) (values_join bytes p q)

-- what holds of all rows of this form holds of a row with these values
pub of_none : (Q : List Value → Type 0) → Q [] → (vs : List Value) → NoValue vs → Q vs
of_none Q q vs e = subst Q (sym e) q

pub of_first : (P : Value → Type 0) (V Q : List Value → Type 0) → ((v : Value) → P v → (rest : List Value) → V rest → Q (v ∷ rest))
    → (vs : List Value) → First P V vs → Q vs
of_first P V Q q vs (v, rest, e, p, r) = subst Q (sym e) (q v p rest r)

pub one_value : (P : Value → Type 0) (Q : List Value → Type 0) → ((v : Value) → P v → Q (v ∷ [])) → (vs : List Value) → Alone P vs → Q vs
one_value P Q q = of_first P NoValue Q (λ v p. of_none (λ vs. Q (v ∷ vs)) (q v p))

pub two_values : (P R : Value → Type 0) (Q : List Value → Type 0) → ((v w : Value) → P v → R w → Q (v ∷ w ∷ []))
    → (vs : List Value) → First P (Alone R) vs → Q vs
two_values P R Q q = of_first P (Alone R) Q (λ v p. one_value R (λ vs. Q (v ∷ vs)) (λ w r. q v w p r))

pub three_values : (P R S : Value → Type 0) (Q : List Value → Type 0) → ((v w x : Value) → P v → R w → S x → Q (v ∷ w ∷ x ∷ []))
    → (vs : List Value) → First P (First R (Alone S)) vs → Q vs
three_values P R S Q q = of_first P (First R (Alone S)) Q (λ v p. two_values R S (λ vs. Q (v ∷ vs)) (λ w x r s. q v w x p r s))

pub five_values : (P R S T U : Value → Type 0) (Q : List Value → Type 0)
    → ((v w x y z : Value) → P v → R w → S x → T y → U z → Q (v ∷ w ∷ x ∷ y ∷ z ∷ []))
    → (vs : List Value) → First P (First R (First S (First T (Alone U)))) vs → Q vs
five_values P R S T U Q q =
    of_first P (First R (First S (First T (Alone U)))) Q (λ v p.
    of_first R (First S (First T (Alone U))) (λ vs. Q (v ∷ vs)) (λ w r.
    three_values S T U (λ vs. Q (v ∷ w ∷ vs)) (λ x y z s t u. q v w x y z p r s t u)))

-- ---- pieces

-- Tokens of the pieces `ps` begin with a row of parses of `s`, whose values are such, and those behind have the pieces `qs`.
unfoldable pub Goes : (bytes : List ℕ) (ps : List Piece) (s : List Symbol) (V : List Value → Type 0) (qs : List Piece) → Type 0
Goes bytes ps s V qs =
    (ts : List Token) → pieces bytes ts ≡ ps
    → (p : Parse) × (more : List Token) × Fits p s × (ts ≡ leaves p ++ more) × (pieces bytes more ≡ qs) × V (values bytes p)

module _ (bytes : List ℕ) where
  pub nil : (qs : List Piece) → Goes bytes qs [] NoValue qs
  unfolding Goes
  nil qs ts e = (Nil, ts, tt, refl, e, refl)

  pub sign : (q : Piece) (ps qs : List Piece) (s : List Symbol) (V : List Value → Type 0) → Goes bytes ps s V qs
      → Goes bytes (q ∷ ps) (Sign (kind_of q) ∷ s) (First (IsLeaf q) V) qs
  unfolding Goes
  sign q ps qs s V g [] e = absurd (let clash : [] ≡ q ∷ ps = e in cc)
  sign q ps qs s V g (t ∷ ts) e =
      let both : piece_of bytes t ∷ pieces bytes ts ≡ q ∷ ps = e in
      let first : piece_of bytes t ≡ q = cc in
      let rest : pieces bytes ts ≡ ps = cc in
      let r = g ts rest in (
        Tok t r.0,
        r.1,
        (sym (kind_of_piece t.kind (text_of bytes t)) ∙ ap kind_of first, r.2),
        ap (λ l. t ∷ l) r.3,
        r.4,
        (leaf bytes t, values bytes r.0, refl, subst (λ x. IsLeaf x (leaf bytes t)) first (leaf_of_piece bytes t), r.5),
      )

  pub one_of : (n : Part) (a : ℕ) (rhs : List Symbol) (V : List Value → Type 0) (P : Value → Type 0) (ps qs : List Piece) → nth (rules n) a ≡ Some rhs
      → ((vs : List Value) → V vs → P (made n (kids_of vs))) → Goes bytes ps rhs V qs → Goes bytes ps (Use n ∷ []) (Alone P) qs
  unfolding Goes
  one_of n a rhs V P ps qs e make g ts h =
      let r = g ts h in (
        Sub n a r.0 Nil,
        r.1,
        (refl, rhs, e, r.2, tt),
        r.3 ∙ ap (λ l. l ++ r.1) (sym (append-nil (leaves r.0))),
        r.4,
        (made n (kids_of (values bytes r.0)), [], refl, make (values bytes r.0) r.5, refl),
      )

  pub before : (n : Part) (s : List Symbol) (P : Value → Type 0) (V : List Value → Type 0) (ps qs rs : List Piece) → Goes bytes ps (Use n ∷ []) (Alone P) qs
      → Goes bytes qs s V rs → Goes bytes ps (Use n ∷ s) (First P V) rs
  unfolding Goes
  before n s P V ps qs rs f g ts h =
      let a = f ts h in
      let b = g a.1 a.4 in
      let e = a.3 ∙ ap (λ l. leaves a.0 ++ l) b.3 ∙ sym (append_assoc (leaves a.0) (leaves b.0) b.1) in
      let (v, rest, is, p, none) = a.5 in (
        join a.0 b.0,
        b.1,
        fits_join a.0 b.0 (Use n ∷ []) s a.2 b.2,
        e ∙ ap (λ l. l ++ b.1) (sym (leaves_join a.0 b.0)),
        b.4,
        (v, values bytes b.0, values_join bytes a.0 b.0 ∙ ap (λ l. l ++ values bytes b.0) (is ∙ ap (λ l. v ∷ l) none), p, b.5),
      )

  pub empty : (n : Part) (a : ℕ) (P : Value → Type 0) (qs : List Piece) → nth (rules n) a ≡ Some [] → P (made n Zero) → Goes bytes qs (Use n ∷ []) (Alone P) qs
  empty n a P qs e p = one_of n a [] NoValue P qs qs e (of_none (λ vs. P (made n (kids_of vs))) p) (nil qs)

  -- a level of expressions that is one operand of the next level
  pub level_of : (n m r : Part) (a : ℕ) (P : Value → Type 0) (ps qs : List Piece) → nth (rules n) 0 ≡ Some (Use m ∷ Use r ∷ [])
      → nth (rules r) a ≡ Some [] → (made r Zero).made ≡ Row Nothing → ((v w : Value) → made n (Two v w) ≡ level (Two v w))
      → Goes bytes ps (Use m ∷ []) (Alone P) qs → Goes bytes ps (Use n ∷ []) (Alone P) qs
  level_of n m r a P ps qs e f none is g =
      one_of n 0 (Use m ∷ Use r ∷ []) (First P (Alone (λ w. w.made ≡ Row Nothing))) P ps qs e
      (of_first P (Alone (λ w. w.made ≡ Row Nothing)) (λ vs. P (made n (kids_of vs)))
      (λ v p. of_first (λ w. w.made ≡ Row Nothing) NoValue (λ vs. P (made n (kids_of (v ∷ vs))))
      (λ w h. of_none (λ vs. P (made n (kids_of (v ∷ w ∷ vs))))
      (subst P (sym (is v w ∙ ap (λ x. chained v (row_in x)) h)) p))))
      (before m (Use r ∷ []) P (Alone (λ w. w.made ≡ Row Nothing)) ps qs qs g (empty r a (λ w. w.made ≡ Row Nothing) qs f none))

  no_tokens : (ts : List Token) → pieces bytes ts ≡ [] → ts ≡ []
  no_tokens [] e = refl
  no_tokens (t ∷ ts) e = absurd (let clash : piece_of bytes t ∷ pieces bytes ts ≡ [] = e in cc)

  -- where nothing stands behind, they are the tokens of a parse
  pub whole_of : (ps : List Piece) (s : List Symbol) (V : List Value → Type 0) → Goes bytes ps s V [] → (ts : List Token) → pieces bytes ts ≡ ps
      → (p : Parse) × (Fits p s × (leaves p ≡ ts)) × V (values bytes p)
  unfolding Goes
  whole_of ps s V g ts e =
      let r = g ts e in
      (r.0, (r.2, sym (r.3 ∙ ap (λ l. leaves r.0 ++ l) (no_tokens r.1 r.4) ∙ append-nil (leaves r.0))), r.5)
