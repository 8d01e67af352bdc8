-- The parts of a program of constants, by the kinds of their tokens.
-- A part is known by the kinds of its tokens, in order; with their texts it is spelled in one way. The lemmas go from kinds to
-- pieces and back.
use Rattle.std.proofs.Common.{◌≡◌, ℕ, List, [], ◌∷◌, ◌++◌, map, get_or, refl, sym, ap, ◌∙◌}
use Rattle.std.proofs.lemmas.List.{map-append}
use Rattle.vg_syntax.specs.declared.kind.Kind.{Kind}
use Rattle.vg_syntax.specs.declared.kind.Kind.TheVariants as kind
use Rattle.vg_syntax.specs.declared.token.Token.{Token}
use Rattle.vg_first_text.specs.FirstText.{head_pieces, assignment_pieces, middle_pieces, register_pieces, tail_pieces}
use Rattle.vg_first_text.specs.Pieces.{Piece, piece_of, pieces}
use Rattle.vg_first_text.specs.Shapes.{kind_of, piece_kind, spelled}
use Rattle.vg_syntax.specs.Tokens.{text_of}
use Rattle.vg_first_text.specs.FirstViews.{IsBehindAssignments, IsBehindRegisters}
use Rattle.vg_first_text.proofs.Pieces.{pieces_spelled, no_front, kinds_kept}

abbrev pub head_kinds : List Kind
head_kinds = map piece_kind (head_pieces [] [])

abbrev pub assignment_kinds : List Kind
assignment_kinds = map piece_kind (assignment_pieces (record { device = []; register = []; digits = [] }))

abbrev pub middle_kinds : List Kind
middle_kinds = map piece_kind (middle_pieces [])

abbrev pub register_kinds : List Kind
register_kinds = map piece_kind (register_pieces (record { name = []; digits = [] }))

abbrev pub tail_kinds : List Kind
tail_kinds = map piece_kind (tail_pieces [] [] [] [])

-- the text of the token at a place
abbrev pub text_at : List ℕ → List Token → ℕ → List ℕ
text_at bytes ts i = text_of bytes (get_or ts i (record { kind = kind.Name; place = record { line = 0; col = 0 }; start = 0; end = 0 }))

by_kinds : (bytes : List ℕ) (ts : List Token) (ks : List Kind) → map kind_of ts ≡ ks → pieces bytes ts ≡ spelled ks (map (text_of bytes) ts)
by_kinds bytes ts ks e = pieces_spelled bytes ts ∙ ap (λ l. spelled l (map (text_of bytes) ts)) e

pub head_spelled : (bytes : List ℕ) (ts : List Token) → map kind_of ts ≡ head_kinds → pieces bytes ts ≡ head_pieces (text_at bytes ts 1) (text_at bytes ts 4)
head_spelled bytes (a ∷ b ∷ c ∷ d ∷ e ∷ f ∷ g ∷ h ∷ []) k = by_kinds bytes (a ∷ b ∷ c ∷ d ∷ e ∷ f ∷ g ∷ h ∷ []) head_kinds k
head_spelled bytes _ k = absurd cc

pub assignment_spelled : (bytes : List ℕ) (ts : List Token) → map kind_of ts ≡ assignment_kinds
    → pieces bytes ts ≡ assignment_pieces (record { device = text_at bytes ts 0; register = text_at bytes ts 2; digits = text_at bytes ts 4 })
assignment_spelled bytes (a ∷ b ∷ c ∷ d ∷ e ∷ f ∷ []) k = by_kinds bytes (a ∷ b ∷ c ∷ d ∷ e ∷ f ∷ []) assignment_kinds k
assignment_spelled bytes _ k = absurd cc

pub middle_spelled : (bytes : List ℕ) (ts : List Token) → map kind_of ts ≡ middle_kinds → pieces bytes ts ≡ middle_pieces (text_at bytes ts 3)
middle_spelled bytes (a ∷ b ∷ c ∷ d ∷ e ∷ []) k = by_kinds bytes (a ∷ b ∷ c ∷ d ∷ e ∷ []) middle_kinds k
middle_spelled bytes _ k = absurd cc

pub register_spelled : (bytes : List ℕ) (ts : List Token) → map kind_of ts ≡ register_kinds
    → pieces bytes ts ≡ register_pieces (record { name = text_at bytes ts 1; digits = text_at bytes ts 3 })
register_spelled bytes (a ∷ b ∷ c ∷ d ∷ e ∷ []) k = by_kinds bytes (a ∷ b ∷ c ∷ d ∷ e ∷ []) register_kinds k
register_spelled bytes _ k = absurd cc

pub tail_spelled : (bytes : List ℕ) (ts : List Token) → map kind_of ts ≡ tail_kinds
    → pieces bytes ts ≡ tail_pieces (text_at bytes ts 2) (text_at bytes ts 5) (text_at bytes ts 7) (text_at bytes ts 9)
tail_spelled bytes (a ∷ b ∷ c ∷ d ∷ e ∷ f ∷ g ∷ h ∷ i ∷ j ∷ k ∷ l ∷ []) q = by_kinds bytes (a ∷ b ∷ c ∷ d ∷ e ∷ f ∷ g ∷ h ∷ i ∷ j ∷ k ∷ l ∷ []) tail_kinds q
tail_spelled bytes _ k = absurd cc

-- a front that spells a part, and the rest
pub in_front : (bytes : List ℕ) (ts front rest : List Token) (ps : List Piece) → ts ≡ front ++ rest → pieces bytes front ≡ ps
    → pieces bytes ts ≡ ps ++ pieces bytes rest
in_front bytes ts front rest ps e p = ap (pieces bytes) e ∙ map-append (piece_of bytes) front rest ∙ ap (λ l. l ++ pieces bytes rest) p

-- no front of these kinds
abbrev pub HasNoFront : List Token → List Kind → Type 0
HasNoFront ts kinds = (front rest : List Token) → ts ≡ front ++ rest → map kind_of front ≡ kinds → ⊥

pub head_some : (bytes : List ℕ) (ts front rest : List Token) (component method : List ℕ) → ts ≡ front ++ rest → map kind_of front ≡ head_kinds
    → component ≡ text_at bytes front 1 → method ≡ text_at bytes front 4 → pieces bytes ts ≡ head_pieces component method ++ pieces bytes rest
head_some bytes ts front rest component method e k f g =
    in_front bytes ts front rest (head_pieces component method) e
    (head_spelled bytes front k ∙ ap (λ t. head_pieces t (text_at bytes front 4)) (sym f) ∙ ap (head_pieces component) (sym g))

pub head_none : (bytes : List ℕ) (ts : List Token) → HasNoFront ts head_kinds → (component method : List ℕ) (more : List Piece)
    → pieces bytes ts ≡ head_pieces component method ++ more → ⊥
head_none bytes ts none component method more = no_front bytes ts head_kinds none (head_pieces component method) more refl

pub assignment_some : (bytes : List ℕ) (ts front rest : List Token) (device register digits : List ℕ) → ts ≡ front ++ rest
    → map kind_of front ≡ assignment_kinds
    → device ≡ text_at bytes front 0 → register ≡ text_at bytes front 2 → digits ≡ text_at bytes front 4
    → pieces bytes ts ≡ assignment_pieces (record { device = device; register = register; digits = digits }) ++ pieces bytes rest
assignment_some bytes ts front rest device register digits e k f g h =
    in_front bytes ts front rest (assignment_pieces (record { device = device; register = register; digits = digits })) e
    (assignment_spelled bytes front k
    ∙ ap (λ t. assignment_pieces (record { device = t; register = text_at bytes front 2; digits = text_at bytes front 4 })) (sym f)
    ∙ ap (λ t. assignment_pieces (record { device = device; register = t; digits = text_at bytes front 4 })) (sym g)
    ∙ ap (λ t. assignment_pieces (record { device = device; register = register; digits = t })) (sym h))

pub assignment_none : (bytes : List ℕ) (ts : List Token) → HasNoFront ts assignment_kinds → IsBehindAssignments (pieces bytes ts)
assignment_none bytes ts none a more = no_front bytes ts assignment_kinds none (assignment_pieces a) more refl

pub middle_some : (bytes : List ℕ) (ts front rest : List Token) (device : List ℕ) → ts ≡ front ++ rest → map kind_of front ≡ middle_kinds
    → device ≡ text_at bytes front 3 → pieces bytes ts ≡ middle_pieces device ++ pieces bytes rest
middle_some bytes ts front rest device e k f =
    in_front bytes ts front rest (middle_pieces device) e (middle_spelled bytes front k ∙ ap middle_pieces (sym f))

pub middle_none : (bytes : List ℕ) (ts : List Token) → HasNoFront ts middle_kinds → (device : List ℕ) (more : List Piece)
    → pieces bytes ts ≡ middle_pieces device ++ more → ⊥
middle_none bytes ts none device more = no_front bytes ts middle_kinds none (middle_pieces device) more refl

pub register_some : (bytes : List ℕ) (ts front rest : List Token) (name digits : List ℕ) → ts ≡ front ++ rest → map kind_of front ≡ register_kinds
    → name ≡ text_at bytes front 1 → digits ≡ text_at bytes front 3
    → pieces bytes ts ≡ register_pieces (record { name = name; digits = digits }) ++ pieces bytes rest
register_some bytes ts front rest name digits e k f g =
    in_front bytes ts front rest (register_pieces (record { name = name; digits = digits })) e
    (register_spelled bytes front k
    ∙ ap (λ t. register_pieces (record { name = t; digits = text_at bytes front 3 })) (sym f)
    ∙ ap (λ t. register_pieces (record { name = name; digits = t })) (sym g))

pub register_none : (bytes : List ℕ) (ts : List Token) → HasNoFront ts register_kinds → IsBehindRegisters (pieces bytes ts)
register_none bytes ts none r more = no_front bytes ts register_kinds none (register_pieces r) more refl

pub tail_some : (bytes : List ℕ) (ts : List Token) (program key component method : List ℕ) → map kind_of ts ≡ tail_kinds
    → program ≡ text_at bytes ts 2 → key ≡ text_at bytes ts 5 → component ≡ text_at bytes ts 7 → method ≡ text_at bytes ts 9
    → pieces bytes ts ≡ tail_pieces program key component method
tail_some bytes ts program key component method k e f g h =
    tail_spelled bytes ts k
    ∙ ap (λ t. tail_pieces t (text_at bytes ts 5) (text_at bytes ts 7) (text_at bytes ts 9)) (sym e)
    ∙ ap (λ t. tail_pieces program t (text_at bytes ts 7) (text_at bytes ts 9)) (sym f)
    ∙ ap (λ t. tail_pieces program key t (text_at bytes ts 9)) (sym g)
    ∙ ap (λ t. tail_pieces program key component t) (sym h)

pub tail_none : (bytes : List ℕ) (ts : List Token) → (map kind_of ts ≡ tail_kinds → ⊥) → (program key component method : List ℕ)
    → pieces bytes ts ≡ tail_pieces program key component method → ⊥
tail_none bytes ts none program key component method e = none (sym (kinds_kept bytes ts) ∙ ap (map piece_kind) e)
