-- A front of some pieces is a front of tokens of their kinds.
use Rattle.std.proofs.Common.{◌≡◌, ℕ, List, [], ◌∷◌, ◌++◌, map, refl, sym, ap, ◌∙◌}
use Rattle.vg_syntax.specs.declared.kind.Kind.{Kind}
use Rattle.vg_syntax.specs.declared.kind.Kind.TheVariants as kind
use Rattle.vg_syntax.specs.declared.token.Token.{Token}
use Rattle.vg_first_text.specs.Pieces.{Piece, piece, piece_of, pieces}
use Rattle.vg_first_text.specs.Shapes.{kind_of, piece_kind, spelled}
use Rattle.vg_syntax.specs.Tokens.{text_of}

pub pieces_spelled : (bytes : List ℕ) (ts : List Token) → pieces bytes ts ≡ spelled (map kind_of ts) (map (text_of bytes) ts)
pieces_spelled bytes [] = refl
pieces_spelled bytes (t ∷ ts) = ap (λ l. piece_of bytes t ∷ l) (pieces_spelled bytes ts)

kind_kept : (k : Kind) (text : List ℕ) → piece_kind (piece k text) ≡ k
kind_kept kind.Name text = refl
kind_kept kind.Number text = refl
kind_kept _ text = refl

pub kinds_kept : (bytes : List ℕ) (ts : List Token) → map piece_kind (pieces bytes ts) ≡ map kind_of ts
kinds_kept bytes [] = refl
kinds_kept bytes (t ∷ ts) = ap (λ k. k ∷ map piece_kind (pieces bytes ts)) (kind_kept t.kind (text_of bytes t)) ∙ ap (λ l. t.kind ∷ l) (kinds_kept bytes ts)

-- the tokens of a front of pieces and those of the rest
pub record Front (bytes : List ℕ) (ts : List Token) (ps more : List Piece) : Type 0 where
  pub front : List Token
  pub rest : List Token
  pub all : ts ≡ front ++ rest
  pub front_is : pieces bytes front ≡ ps
  pub rest_is : pieces bytes rest ≡ more

pub front_of : (bytes : List ℕ) (ts : List Token) (ps more : List Piece) → pieces bytes ts ≡ ps ++ more → Front bytes ts ps more
front_of bytes ts [] more e = record { front = []; rest = ts; all = refl; front_is = refl; rest_is = e }
front_of bytes [] (p ∷ ps) more e = absurd cc
front_of bytes (t ∷ ts) (p ∷ ps) more e =
    let tail : pieces bytes ts ≡ ps ++ more = cc in
    let head : piece_of bytes t ≡ p = cc in
    let f = front_of bytes ts ps more tail in
    record {
      front = t ∷ f.front;
      rest = f.rest;
      all = ap (λ l. t ∷ l) f.all;
      front_is = ap (λ q. q ∷ pieces bytes f.front) head ∙ ap (λ l. p ∷ l) f.front_is;
      rest_is = f.rest_is;
    }

-- where no front has these kinds, none has pieces of these kinds
pub no_front : (bytes : List ℕ) (ts : List Token) (kinds : List Kind)
    → ((front rest : List Token) → ts ≡ front ++ rest → map kind_of front ≡ kinds → ⊥)
    → (ps more : List Piece) → map piece_kind ps ≡ kinds → pieces bytes ts ≡ ps ++ more → ⊥
no_front bytes ts kinds none ps more k e =
    let f = front_of bytes ts ps more e in
    none f.front f.rest f.all (sym (kinds_kept bytes f.front) ∙ ap (map piece_kind) f.front_is ∙ k)
