-- The open brackets of a program of constants: an assignment and a register leave them as they are.
use Rattle.std.proofs.Common.{◌≡◌, ℕ, List, [], ◌∷◌, ◌++◌, Option, Some, None, refl, sym, ap, ◌∙◌}
use Rattle.std.specs.List.{flat_map}
use Rattle.std.specs.Option.{option_and_then}
use Rattle.vg_syntax.specs.declared.token.Token.{Token}
use Rattle.vg_first_text.specs.FirstText.{First, FirstAssignment, FirstRegister, assignment_pieces, middle_pieces, register_pieces, tail_pieces, first_pieces}
use Rattle.vg_syntax.specs.Parses.{opened, open_in, Shallow}
use Rattle.vg_first_text.specs.Pieces.{Piece, pieces}
use Rattle.vg_syntax.specs.Tokens.{text_of}
use Rattle.vg_first_laws.proofs.Spelled.{kind_of, kind_of_piece}

-- how many brackets are open behind these pieces
abbrev open_behind : ℕ → List Piece → Option ℕ
open_behind d [] = Some d
open_behind d (q ∷ qs) = option_and_then (λ e. open_behind e qs) (opened d (kind_of q))

open_pieces : (bytes : List ℕ) (d : ℕ) (ts : List Token) → open_in d ts ≡ open_behind d (pieces bytes ts)
open_pieces bytes d [] = refl
open_pieces bytes d (t ∷ ts) =
    by_cases (λ e. open_pieces bytes e ts) (opened d t.kind) ∙ ap (λ k. option_and_then (λ e. open_behind e (pieces bytes ts)) (opened d k))
    (sym (kind_of_piece t.kind (text_of bytes t)))
  where
    by_cases : ((e : ℕ) → open_in e ts ≡ open_behind e (pieces bytes ts)) → (o : Option ℕ)
        → option_and_then (λ e. open_in e ts) o ≡ option_and_then (λ e. open_behind e (pieces bytes ts)) o
    by_cases same None = refl
    by_cases same (Some e) = same e

assignments : (d : ℕ) (xs : List FirstAssignment) (qs : List Piece) → open_behind d (flat_map assignment_pieces xs ++ qs) ≡ open_behind d qs
assignments d [] qs = refl
assignments d (a ∷ xs) qs = assignments d xs qs

registers : (d : ℕ) (rs : List FirstRegister) (qs : List Piece) → open_behind d (flat_map register_pieces rs ++ qs) ≡ open_behind d qs
registers d [] qs = refl
registers d (r ∷ rs) qs = registers d rs qs

abbrev behind_registers : First → List Piece
behind_registers f = tail_pieces f.program f.key f.entry_component f.entry_method

abbrev behind_assignments : First → List Piece
behind_assignments f = middle_pieces f.device ++ (flat_map register_pieces f.registers ++ behind_registers f)

first_depth : (f : First) → open_behind 0 (first_pieces f) ≡ Some 0
first_depth f = assignments 2 f.assignments (behind_assignments f) ∙ registers 1 f.registers (behind_registers f)

pub shallow : (bytes : List ℕ) (ts : List Token) (f : First) → pieces bytes ts ≡ first_pieces f → Shallow ts
shallow bytes ts f e = (0, open_pieces bytes 0 ts ∙ ap (open_behind 0) e ∙ first_depth f)
