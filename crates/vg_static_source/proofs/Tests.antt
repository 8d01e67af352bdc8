-- Two tests that tell what is live give the same sums.
use Rattle.std.proofs.Common.{◌≡◌, refl, sym, ap, ◌∙◌, ℕ, suc, ◌+◌, ◌*◌, Bool, true, false, List, [], ◌∷◌}
use Rattle.vg_syntax.specs.Tree.{Node}
use Rattle.vg_source.specs.Values as heap
use Rattle.vg_source.specs.Values.{Heap}
use Rattle.vg_source.specs.Steps.{Source}
use Rattle.vg_source.specs.Resolved.{Owner, InClass, InComponent, NoOwner}
use Rattle.vg_source.specs.Program.{source_of}
use Rattle.vg_live_source.specs.Members.{Member, Field, Cell}
use Rattle.vg_static_source.specs.Fields.{DeclaredField, fields_of}
use Rattle.vg_static_source.specs.Sums.{Tells, IsStatic, AreTables, if_live, over_live, one_object, values_of, width_of, name_of, field_bytes, fields_bytes}
use Rattle.vg_static_source.specs.Sums.{array_bytes, row_bytes, static_sum, table_sum}

one_truth : (a b : Bool) → (a ≡ true → b ≡ true) → (b ≡ true → a ≡ true) → a ≡ b
one_truth true b f g = sym (f refl)
one_truth false true f g = g refl
one_truth false false f g = refl

module _ (p : Source) (h : Heap) (a b : Member → Bool) (told : Tells p h a) (other : Tells p h b) where
  same : (y : Member) → a y ≡ b y
  same y = one_truth (a y) (b y) (λ e. (other y).1 ((told y).0 e)) (λ e. (told y).1 ((other y).0 e))

  pub over_same : (counts : heap.Cell → ℕ) (k : ℕ) (xs : List heap.Cell) → over_live a counts k xs ≡ over_live b counts k xs
  over_same counts k [] = refl
  over_same counts k (x ∷ xs) =
      ap (λ z. if_live z (counts x) + over_live a counts (suc k) xs) (same (Cell k))
      ∙ ap (λ z. if_live (b (Cell k)) (counts x) + z) (over_same counts (suc k) xs)

  values_same : (o : Owner) → values_of p h a o ≡ values_of p h b o
  values_same (InClass c) = over_same (one_object p c) 0 h.cells
  values_same (InComponent c) = refl
  values_same NoOwner = refl

  pub fields_same : (fs : List DeclaredField) → fields_bytes p h a fs ≡ fields_bytes p h b fs
  fields_same [] = refl
  fields_same (f ∷ fs) =
      ap (λ z. if_live z (width_of f.type * values_of p h a f.owner) + fields_bytes p h a fs) (same (Field (name_of f.owner) f.name))
      ∙ ap (λ z. if_live (b (Field (name_of f.owner) f.name)) (width_of f.type * z) + fields_bytes p h a fs) (values_same f.owner)
      ∙ ap (λ z. field_bytes p h b f + z) (fields_same fs)

module _ (text : Node) (h : Heap) where
  static_same : (a b : Member → Bool) → Tells (source_of text) h a → Tells (source_of text) h b → static_sum text h a ≡ static_sum text h b
  static_same a b told other =
      ap (λ z. z + over_live a array_bytes 0 h.cells) (fields_same (source_of text) h a b told other (fields_of text))
      ∙ ap (λ z. fields_bytes (source_of text) h b (fields_of text) + z) (over_same (source_of text) h a b told other array_bytes 0 h.cells)

  tables_same : (a b : Member → Bool) → Tells (source_of text) h a → Tells (source_of text) h b → table_sum text h a ≡ table_sum text h b
  tables_same a b told other =
      ap (λ z. z + over_live a row_bytes 0 h.cells) (static_same a b told other)
      ∙ ap (λ z. static_sum text h b + z) (over_same (source_of text) h a b told other row_bytes 0 h.cells)

  pub one_static : (m n : ℕ) → IsStatic text h m → IsStatic text h n → m ≡ n
  one_static m n (a, told, e) (b, other, f) = e ∙ static_same a b told other ∙ sym f

  pub one_tables : (m n : ℕ) → AreTables text h m → AreTables text h n → m ≡ n
  one_tables m n (a, told, e) (b, other, f) = e ∙ tables_same a b told other ∙ sym f
