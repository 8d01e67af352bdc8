-- What the types of the tables stand for, by their parts.
use Rattle.std.proofs.Common.{◌≡◌, ◌<◌, ◌≤◌, ℕ, List, [], ◌∷◌, length, get_or, Some, sym, ap, ◌∙◌, arith}
use Rattle.std.specs.List.{slice_get}
use Rattle.std.proofs.lemmas.Option.{slice_get_within, slice_get-get_or}
use Rattle.vg_source.specs.Types as source
use Rattle.vg_source.specs.Types.{StaticType}
use Rattle.vg_core.specs.declared.types.CoreType.{CoreType}
use Rattle.vg_core.specs.declared.types.CoreType.TheVariants.{IntType, BoolType, CharType, RawType, NullType, ClassType}
use Rattle.vg_core.specs.declared.types.CoreType.TheVariants.{ArrayType, FunctionType, NoType, MoreTypes}
use Rattle.vg_core.specs.declared.program.Tables.{Tables}
use Rattle.vg_core.specs.Naming.{named_number, named_types, type_named, type_at}
use Rattle.vg_core.specs.Tables.{IsRow}
use Rattle.vg_types_tables.specs.declared.declared.Declared.{Declared}
use Rattle.vg_types_tables.specs.Views.{naming, type_view, row_view}
use Rattle.vg_types_tables.specs.Declares.{IsTypeNumber, IsKnown, IsMadeBelow, IsFormed}
use Rattle.vg_types_tables.proofs.TypeViews.{number_named}

-- ---- the types of the tables are known there

module _ (p : Tables) where
  is_number : (k : ℕ) → k ≤ length p.types → (i : ℕ) → i < k → IsTypeNumber p i
  is_number k h i l = (get_or p.types i IntType, slice_get-get_or p.types i IntType (omega (arith, h, l)))

  known_below : (k : ℕ) → k ≤ length p.types → (t : CoreType) → IsMadeBelow p k t → IsKnown p t
  known_below k h (ArrayType t) l = is_number k h t l
  known_below k h (FunctionType ps r) (l, m) = (is_number k h ps l, is_number k h r m)
  known_below k h (MoreTypes t rest) (l, m) = (is_number k h t l, is_number k h rest m)
  known_below k h (ClassType c) l = l
  known_below k h IntType l = l
  known_below k h BoolType l = l
  known_below k h CharType l = l
  known_below k h (RawType j) l = l
  known_below k h NullType l = l
  known_below k h NoType l = l

  pub known_entry : IsFormed p → (i : ℕ) (t : CoreType) → slice_get p.types i ≡ Some t → IsKnown p t
  known_entry f i t e = let w = slice_get_within p.types i t e in known_below i (omega (arith, w)) t (f.made_below i t e)

-- ---- what they stand for

module _ (texts : List (List ℕ)) (d : Declared) (f : IsFormed d.tables) where
  abbrev number : ℕ → StaticType
  number i = named_number (named_types (naming texts d) [] d.tables.types) i

  -- a number in the tables stands for what its type stands for
  pub number_view : (i : ℕ) (t : CoreType) → slice_get d.tables.types i ≡ Some t → number i ≡ type_view texts d t
  number_view i t e = number_named d.tables (naming texts d) f i t e

  -- both ways to say what a number stands for are one
  pub number_type : (i : ℕ) → IsTypeNumber d.tables i → type_at (naming texts d) d.tables i ≡ number i
  number_type i (t, e) = ap (type_named (naming texts d) d.tables) e ∙ sym (number_view i t e)

  pub array_view : (i : ℕ) (t : CoreType) → slice_get d.tables.types i ≡ Some t → type_view texts d (ArrayType i) ≡ source.ArrayType (type_view texts d t)
  array_view i t e = ap source.ArrayType (number_view i t e)

  pub function_view : (i j : ℕ) (t u : CoreType) → slice_get d.tables.types i ≡ Some t → slice_get d.tables.types j ≡ Some u
      → type_view texts d (FunctionType i j) ≡ source.FunctionType (type_view texts d t) (type_view texts d u)
  function_view i j t u e g =
      ap (λ x. source.FunctionType x (number j)) (number_view i t e) ∙ ap (source.FunctionType (type_view texts d t)) (number_view j u g)

  pub more_view : (i j : ℕ) (t u : CoreType) → slice_get d.tables.types i ≡ Some t → slice_get d.tables.types j ≡ Some u
      → type_view texts d (MoreTypes i j) ≡ source.MoreTypes (type_view texts d t) (type_view texts d u)
  more_view i j t u e g =
      ap (λ x. source.MoreTypes x (number j)) (number_view i t e) ∙ ap (source.MoreTypes (type_view texts d t)) (number_view j u g)

  -- the number of a row stands for the row
  pub row_number : (ts : List CoreType) (i : ℕ) → IsRow d.tables ts i → number i ≡ row_view texts d ts
  row_number [] i e = number_view i NoType e
  row_number (t ∷ ts) i (first, rest, e, g, h) =
      number_view i (MoreTypes first rest) e ∙ ap (λ x. source.MoreTypes x (number rest)) (number_view first t g)
      ∙ ap (source.MoreTypes (type_view texts d t)) (row_number ts rest h)

  -- the type of functions of these parameters and this result
  pub row_function_view : (i j : ℕ) (ts : List CoreType) (u : CoreType) → IsRow d.tables ts i → slice_get d.tables.types j ≡ Some u
      → type_view texts d (FunctionType i j) ≡ source.FunctionType (row_view texts d ts) (type_view texts d u)
  row_function_view i j ts u e g =
      ap (λ x. source.FunctionType x (number j)) (row_number ts i e) ∙ ap (source.FunctionType (row_view texts d ts)) (number_view j u g)
