-- The newest homes of a row whose newest is the last.
use Rattle.std.specs.Prelude.{ℕ, ◌+◌, ◌-◌, ◌≤◌, true, nat_le, List, ◌++◌, length, reverse, take, drop, Some, None, if◌then◌else◌}
use Rattle.std.proofs.Common.{◌≡◌, sym, ap, ◌∙◌, arith}
use Rattle.std.proofs.lemmas.List.{take-append-drop, reverse-append, reverse-reverse, length-reverse, length-append, length-drop}
use Rattle.std.proofs.Math.Seq.{take-append_seam, drop-append_seam, take-length}
use Rattle.vg_lin.specs.declared.instr.Operand.{Operand}
use Rattle.vg_flatten_shapes.specs.Shapes.{taken}

le_is : (a b : ℕ) → a ≤ b → nat_le a b ≡ true
le_is a b h = grind arith

taken_front : (xs ys : List Operand) → taken (length xs) (xs ++ ys) ≡ Some (record { args = reverse xs; rest = ys })
taken_front xs ys =
    ap (λ b. if b then Some (record { args = reverse (take (length xs) (xs ++ ys)); rest = drop (length xs) (xs ++ ys) }) else None) within
    ∙ ap (λ z. Some (record { args = reverse z; rest = drop (length xs) (xs ++ ys) })) (take-append_seam xs ys)
    ∙ ap (λ z. Some (record { args = reverse xs; rest = z })) (drop-append_seam xs ys)
  where
    within : nat_le (length xs) (length (xs ++ ys)) ≡ true
    within = let e = length-append xs ys in le_is (length xs) (length (xs ++ ys)) (omega (arith, e))

pub taken_is : (row : List Operand) (count kept : ℕ) → kept + count ≡ length row
    → taken count (reverse row) ≡ Some (record { args = drop kept row; rest = reverse (take kept row) })
taken_is row count kept e =
    ap (λ z. taken z (reverse row)) many ∙ ap (taken (length (reverse (drop kept row)))) split
    ∙ taken_front (reverse (drop kept row)) (reverse (take kept row))
    ∙ ap (λ z. Some (record { args = z; rest = reverse (take kept row) })) (reverse-reverse (drop kept row))
  where
    split : reverse row ≡ reverse (drop kept row) ++ reverse (take kept row)
    split = ap reverse (sym (take-append-drop kept row)) ∙ reverse-append (take kept row) (drop kept row)

    many : count ≡ length (reverse (drop kept row))
    many = let d = length-drop kept row in let l = length-reverse (drop kept row) in omega (arith, e, d, l)

-- the same, where they are cut out of the row, and the row is cut
pub taken_cut : (row all newest rest : List Operand) (count : ℕ) → all ≡ row → count ≤ length row
    → newest ≡ take (length all - (length row - count)) (drop (length row - count) all) → rest ≡ take (length row - count) row
    → taken count (reverse row) ≡ Some (record { args = newest; rest = reverse rest })
taken_cut row all newest rest count ea le en er =
    taken_is row count (length row - count) (omega (arith, le))
    ∙ ap (λ z. Some (record { args = z; rest = reverse (take (length row - count) row) })) (sym whole)
    ∙ ap (λ z. Some (record { args = newest; rest = reverse z })) (sym er)
  where
    whole : newest ≡ drop (length row - count) row
    whole =
        en ∙ ap (λ z. take (length z - (length row - count)) (drop (length row - count) z)) ea
        ∙ ap (λ z. take z (drop (length row - count) row)) (sym (length-drop (length row - count) row)) ∙ take-length (drop (length row - count) row)
