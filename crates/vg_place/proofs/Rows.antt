-- Rows of columns, one more at a time.
use Rattle.std.proofs.Common.{◌≡◌, refl, sym, ap, ◌∙◌, arith, ℕ, suc, ◌+◌, ◌<◌, ◌≤◌, Bool, true, false, nat_lt, List, [], ◌∷◌, ◌++◌, drop, length}
use Rattle.std.proofs.Common.{get_or, append_assoc}
use Rattle.std.proofs.Common.{if◌then◌else◌}
use Rattle.std.proofs.lemmas.List.{length-append, drop_more}
use Rattle.vg_core.specs.declared.program.Field.{Field}
use Rattle.vg_core.specs.declared.types.CoreType.{CoreType}
use Rattle.vg_place.specs.Counting.{piece_of, item_by, item_columns_by}
use Rattle.vg_placement.specs.declared.column.Column.{Column}
use Rattle.vg_placement.specs.Columns.{Needs, bytes_of, unless_empty, field_column, field_columns}

-- so far and the rest
pub step_rows : {A : Type 0} (rows new piece rest whole : List A) → rows ++ (piece ++ rest) ≡ whole → new ≡ rows ++ piece → new ++ rest ≡ whole
step_rows rows new piece rest whole h e = ap (λ z. z ++ rest) e ∙ (append_assoc rows piece rest ∙ h)

short : (c : Column) → length (unless_empty c) ≤ 1
short c = step (nat_lt 0 (bytes_of c))
  where
    step : (b : Bool) → length (if b then c ∷ [] else []) ≤ 1
    step true = omega arith
    step false = omega arith

pub no_longer : (rows new : List Column) (c : Column) (n : ℕ) → new ≡ rows ++ unless_empty c → length rows ≤ n → length new ≤ n + 1
no_longer rows new c n e h =
    let l = ap length e in let a = length-append rows (unless_empty c) in let s = short c in omega (arith, l, a, s, h)

module _ (n : Needs) (fields : List Field) (i : ℕ) (x : Field) (lt : i < length fields) (is : x ≡ get_or fields i x) where
  next : drop i fields ≡ x ∷ drop (i + 1) fields
  next = drop_more fields i x lt ∙ ap (λ z. z ∷ drop (i + 1) fields) (sym is)

  one : suc i ≡ i + 1
  one = omega arith

  pub more_field : (rows new whole : List Column) (b : Bool) → b ≡ n.live i → (rows ++ field_columns n i (drop i fields) ≡ whole) × (length rows ≤ i)
      → new ≡ rows ++ piece_of b (field_column n i x) → (new ++ field_columns n (i + 1) (drop (i + 1) fields) ≡ whole) × (length new ≤ i + 1)
  more_field rows new whole b l (h, s) e = (
    step_rows rows new (piece_of b (field_column n i x)) (field_columns n (i + 1) (drop (i + 1) fields)) whole
        (ap (λ z. rows ++ (z ++ field_columns n (i + 1) (drop (i + 1) fields))) (pieces b)
        ∙ (ap (λ z. rows ++ ((if z then unless_empty (field_column n i x) else []) ++ field_columns n (i + 1) (drop (i + 1) fields))) l
        ∙ (ap (λ z. rows ++ ((if n.live i then unless_empty (field_column n i x) else []) ++ field_columns n z (drop (i + 1) fields))) (sym one)
        ∙ (ap (λ z. rows ++ field_columns n i z) (sym next) ∙ h)))) e,
    few_pieces b e,
  )
    where
      pieces : (c : Bool) → piece_of c (field_column n i x) ≡ (if c then unless_empty (field_column n i x) else [])
      pieces true = refl
      pieces false = refl

      few_pieces : (c : Bool) → new ≡ rows ++ piece_of c (field_column n i x) → length new ≤ i + 1
      few_pieces true q = no_longer rows new (field_column n i x) i q s
      few_pieces false q = let z = ap length q in let a = length-append rows [] in omega (arith, z, a, s)

pub more_item : (types : List CoreType) (sizes order : List ℕ) (i : ℕ) (rows new whole : List Column) → i < length order
    → (rows ++ item_columns_by types sizes (drop i order) ≡ whole) × (length rows ≤ i) → new ≡ rows ++ unless_empty (item_by types sizes (get_or order i 0))
    → (new ++ item_columns_by types sizes (drop (i + 1) order) ≡ whole) × (length new ≤ i + 1)
more_item types sizes order i rows new whole lt (h, s) e = (
  step_rows rows new (unless_empty (item_by types sizes (get_or order i 0))) (item_columns_by types sizes (drop (i + 1) order)) whole
      (ap (λ z. rows ++ item_columns_by types sizes z) (sym (drop_more order i 0 lt)) ∙ h) e,
  no_longer rows new (item_by types sizes (get_or order i 0)) i e s,
)
