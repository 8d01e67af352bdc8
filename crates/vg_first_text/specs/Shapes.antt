-- Mirrors: how the code finds a spelled part by the kinds of its tokens.
use Rattle.std.specs.Prelude.{ℕ, List, [], ◌∷◌}
use Rattle.vg_syntax.specs.declared.kind.Kind.{Kind}
use Rattle.vg_syntax.specs.declared.kind.Kind.TheVariants as kind
use Rattle.vg_syntax.specs.declared.token.Token.{Token}
use Rattle.vg_first_text.specs.Pieces.{Piece, Named, Digits, Plain, piece}

-- the kind of a token
abbrev pub kind_of : Token → Kind
kind_of t = t.kind

-- the kind of a piece
abbrev pub piece_kind : Piece → Kind
piece_kind (Named text) = kind.Name
piece_kind (Digits text) = kind.Number
piece_kind (Plain k) = k

-- pieces of such kinds with such texts
abbrev pub spelled : List Kind → List (List ℕ) → List Piece
spelled [] texts = []
spelled (k ∷ ks) [] = []
spelled (k ∷ ks) (t ∷ ts) = piece k t ∷ spelled ks ts
