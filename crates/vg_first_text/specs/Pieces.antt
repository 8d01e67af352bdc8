-- What a token is without its place.
use Rattle.std.specs.Prelude.{ℕ, List, map}
use Rattle.vg_syntax.specs.declared.kind.Kind.{Kind}
use Rattle.vg_syntax.specs.declared.kind.Kind.TheVariants as kind
use Rattle.vg_syntax.specs.declared.token.Token.{Token}
use Rattle.vg_syntax.specs.Tokens.{text_of}

-- a name or a number with its text, or a token of another kind
pub data Piece : Type 0 where
  Named : (text : List ℕ) → Piece
  Digits : (text : List ℕ) → Piece
  Plain : (kind : Kind) → Piece

-- the piece of a kind and a text
abbrev pub piece : Kind → List ℕ → Piece
piece kind.Name text = Named text
piece kind.Number text = Digits text
piece other _ = Plain other

-- the piece of a token
abbrev pub piece_of : List ℕ → Token → Piece
piece_of bytes t = piece t.kind (text_of bytes t)

-- the pieces of the tokens of a text
abbrev pub pieces : List ℕ → List Token → List Piece
pieces bytes ts = map (piece_of bytes) ts
