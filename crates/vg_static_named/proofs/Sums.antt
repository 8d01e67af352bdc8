-- The bytes of the columns of a typed program are the sums over the text with its names.
use Rattle.std.proofs.Common.{◌≡◌, refl, sym, ap, ◌∙◌, subst, arith, ℕ, zero, suc, ◌+◌, ◌*◌, ◌<◌, Bool, true, false, List, [], ◌∷◌, length, map}
use Rattle.std.proofs.Common.{Option, Some, None, slice_get, if◌then◌else◌}
use Rattle.std.proofs.lemmas.List.{length-map}
use Rattle.std.proofs.lemmas.Option.{slice_get_within}
use Rattle.vg_syntax.specs.Tree.{Node}
use Rattle.vg_source.specs.Names.{Name}
use Rattle.vg_source.specs.Steps.{Source}
use Rattle.vg_source.specs.Program.{source_of}
use Rattle.vg_core.specs.declared.types.CoreType.{CoreType}
use Rattle.vg_core.specs.declared.types.CoreType.TheVariants.{IntType, BoolType, CharType, RawType, NullType, ClassType, ArrayType, FunctionType, NoType}
use Rattle.vg_core.specs.declared.types.CoreType.TheVariants.{MoreTypes}
use Rattle.vg_core.specs.declared.value.CoreValue.{CoreValue}
use Rattle.vg_core.specs.declared.heap.Cell.{Cell}
use Rattle.vg_core.specs.declared.heap.Cell.TheVariants.{Object, Array}
use Rattle.vg_core.specs.declared.heap.Heap.{Heap}
use Rattle.vg_core.specs.declared.program.Class.{Class}
use Rattle.vg_core.specs.declared.program.Field.{Field}
use Rattle.vg_core.specs.declared.program.Owner.{Owner}
use Rattle.vg_core.specs.declared.program.Owner.TheVariants.{InClass, InComponent}
use Rattle.vg_core.specs.Heap.{Kind, kind_of}
use Rattle.vg_core.specs.Tables.{is_below}
use Rattle.vg_core.specs.Naming.{Naming, naming_of, named, named_type, named_value, named_cell, named_heap, type_named, text_at, owner_name, field_key}
use Rattle.vg_core.specs.Program.{Program}
use Rattle.vg_core.specs.Typing.{WellTyped}
use Rattle.vg_sound.specs.Good.{TypedHeap}
use Rattle.vg_renamed.specs.NamesTell.{NamesTell}
use Rattle.vg_renamed.specs.IsNamed.{IsNamed}
use Rattle.vg_renamed.proofs.Named.{is_named}
use Rattle.vg_live.specs.declared.live_set.LiveSet.{LiveSet}
use Rattle.vg_live.specs.Sets.{IsLiveSet}
use Rattle.vg_live_source.specs.Members as member
use Rattle.vg_numbers.specs.Numbers.{one_if, count}
use Rattle.vg_number.specs.Numbering.{has_reason, kept_in, kinds_of}
use Rattle.vg_placement.specs.Columns.{column_width, owner_count, item_width, array_types, static_bytes, table_bytes}
use Rattle.vg_placement.specs.Needs.{needs}
use Rattle.vg_static_source.specs.Fields.{fields_of}
use Rattle.vg_static_source.specs.Sums as sums
use Rattle.vg_static_source.specs.Sums.{Tells, IsStatic, AreTables, if_live, over_live, one_object, values_of, width_of, name_of, field_bytes, fields_bytes}
use Rattle.vg_static_source.specs.Sums.{array_bytes, row_bytes, static_sum, table_sum}
use Rattle.vg_written.specs.Written.{named_owner, named_field, IsOwner, AreWritten}
use Rattle.vg_live_named.proofs.Cells.{object_at}
use Rattle.vg_static_named.proofs.Columns.{over, over_ap, field_sum, item_bytes, rows_bytes, static_is, tables_are}
use Rattle.vg_static_named.proofs.Types.{only_if, of_arrays, by_types, elements_of, arrays_of}
use Rattle.vg_static_named.proofs.Objects.{below, counted}
use Rattle.vg_static_named.proofs.Told.{live_by, tells, field_told}

-- ---- widths

width_same : (n : Naming) (p : Program) (t : CoreType) → width_of (named_type n p.tables t) ≡ column_width t
width_same n p IntType = refl
width_same n p BoolType = refl
width_same n p CharType = refl
width_same n p (RawType k) = refl
width_same n p NullType = refl
width_same n p (ClassType c) = refl
width_same n p (ArrayType t) = refl
width_same n p (FunctionType ps r) = refl
width_same n p NoType = refl
width_same n p (MoreTypes t rest) = refl

item_same : (n : Naming) (p : Program) (o : Option CoreType) → width_of (type_named n p.tables o) ≡ item_width o
item_same n p (Some t) = width_same n p t
item_same n p None = refl

-- ---- truths

where_one : (b : Bool) (n : ℕ) → if_live b n ≡ only_if b n
where_one true n = refl
where_one false n = refl

one_same : (b : Bool) → sums.one_if b ≡ one_if b
one_same true = refl
one_same false = refl

where_if : (b : Bool) (n : ℕ) → (if b then n else 0) ≡ if_live b n
where_if true n = refl
where_if false n = refl

-- what stands at a place of a list
the_same : {A : Type 0} (x y : A) → Some x ≡ Some y → x ≡ y
the_same x y e = ap (the x) e
  where
    the : {A : Type 0} → A → Option A → A
    the d (Some z) = z
    the d None = d

module _ (texts : List Name) (p : Program) (tell : NamesTell (naming_of texts p.tables) p) (good : WellTyped p) (text : Node)
    (written : AreWritten texts text p.tables) (is : source_of text ≡ named (naming_of texts p.tables) p) (h : Heap) (κ : List Kind)
    (typed : TypedHeap p.tables κ h) (s : LiveSet) (set : IsLiveSet p h s) where
  abbrev n : Naming
  n = naming_of texts p.tables

  abbrev q : Source
  q = named n p

  abbrev live : member.Member → Bool
  live = live_by n s

  found : IsNamed n p q
  found = is_named n p tell

  -- ---- arrays

  arrays_are : (at : ℕ) (cells : List Cell) → over_live live array_bytes at (map (named_cell n p.tables) cells)
      ≡ of_arrays (λ u size. item_width (slice_get p.tables.types u) * size) (kept_in s) at (map kind_of cells)
  arrays_are at [] = refl
  arrays_are at (Object d vs ∷ cells) = nothing (has_reason s.cells at) ∙ arrays_are (suc at) cells
    where
      rest : ℕ
      rest = over_live live array_bytes (suc at) (map (named_cell n p.tables) cells)

      nothing : (b : Bool) → if_live b 0 + over_live live array_bytes (suc at) (map (named_cell n p.tables) cells)
          ≡ over_live live array_bytes (suc at) (map (named_cell n p.tables) cells)
      nothing true = omega arith
      nothing false = omega arith
  arrays_are at (Array t vs ∷ cells) =
      ap (λ z. if_live (has_reason s.cells at) z + over_live live array_bytes (suc at) (map (named_cell n p.tables) cells))
      (ap (λ z. z * length (map (named_value n p.tables) vs)) (item_same n p (slice_get p.tables.types t))
      ∙ ap (λ z. item_width (slice_get p.tables.types t) * z) (length-map vs (named_value n p.tables)))
      ∙ ap (λ z. z + over_live live array_bytes (suc at) (map (named_cell n p.tables) cells))
      (where_one (has_reason s.cells at) (item_width (slice_get p.tables.types t) * length vs))
      ∙ ap (λ z. only_if (has_reason s.cells at) (item_width (slice_get p.tables.types t) * length vs) + z) (arrays_are (suc at) cells)

  rows_are : (at : ℕ) (cells : List Cell) → over_live live row_bytes at (map (named_cell n p.tables) cells)
      ≡ of_arrays (λ u size. 4) (kept_in s) at (map kind_of cells)
  rows_are at [] = refl
  rows_are at (Object d vs ∷ cells) = nothing (has_reason s.cells at) ∙ rows_are (suc at) cells
    where
      nothing : (b : Bool) → if_live b 0 + over_live live row_bytes (suc at) (map (named_cell n p.tables) cells)
          ≡ over_live live row_bytes (suc at) (map (named_cell n p.tables) cells)
      nothing true = omega arith
      nothing false = omega arith
  rows_are at (Array t vs ∷ cells) =
      ap (λ z. z + over_live live row_bytes (suc at) (map (named_cell n p.tables) cells)) (where_one (has_reason s.cells at) 4)
      ∙ ap (λ z. only_if (has_reason s.cells at) 4 + z) (rows_are (suc at) cells)

  -- ---- objects

  -- the classes of objects are there
  abbrev AreThere : List Cell → Type 0
  AreThere cells = (j d : ℕ) (vs : List CoreValue) → slice_get cells j ≡ Some (Object d vs) → (k : Class) × (slice_get p.tables.classes d ≡ Some k)

  all_there : AreThere h.cells
  all_there j d vs e = let r = object_at p.tables κ h typed j d vs e in (r.0, r.1)

  objects_are : (c : ℕ) (k : Class) → slice_get p.tables.classes c ≡ Some k → (at : ℕ) (cells : List Cell) → AreThere cells
      → over_live live (one_object q (n.class c)) at (map (named_cell n p.tables) cells)
      ≡ below p.tables good.tables written.chains (kept_in s) c at (map kind_of cells)
  objects_are c k there at [] are = refl
  objects_are c k there at (Object d vs ∷ cells) are =
      ap (λ z. if_live (has_reason s.cells at) (sums.one_if z) + over_live live (one_object q (n.class c)) (suc at) (map (named_cell n p.tables) cells))
      (let r = are 0 d vs refl in found.below d c r.0 k r.1 there)
      ∙ ap (λ z. if_live (has_reason s.cells at) z + over_live live (one_object q (n.class c)) (suc at) (map (named_cell n p.tables) cells))
      (one_same (is_below p.tables d c))
      ∙ ap (λ z. z + over_live live (one_object q (n.class c)) (suc at) (map (named_cell n p.tables) cells))
      (where_one (has_reason s.cells at) (one_if (is_below p.tables d c)))
      ∙ ap (λ z. only_if (has_reason s.cells at) (one_if (is_below p.tables d c)) + z)
      (objects_are c k there (suc at) cells (λ j e us g. are (suc j) e us g))
  objects_are c k there at (Array t vs ∷ cells) are =
      nothing (has_reason s.cells at) ∙ objects_are c k there (suc at) cells (λ j e us g. are (suc j) e us g)
    where
      nothing : (b : Bool) → if_live b 0 + over_live live (one_object q (n.class c)) (suc at) (map (named_cell n p.tables) cells)
          ≡ over_live live (one_object q (n.class c)) (suc at) (map (named_cell n p.tables) cells)
      nothing true = omega arith
      nothing false = omega arith

  -- ---- fields

  some_class : (c : ℕ) → c < length p.tables.classes → (k : Class) × (slice_get p.tables.classes c ≡ Some k)
  some_class c lt = at_place p.tables.classes c lt
    where
      at_place : {A : Type 0} (xs : List A) (i : ℕ) → i < length xs → (x : A) × (slice_get xs i ≡ Some x)
      at_place [] i l = absurd (omega (arith, l))
      at_place (x ∷ xs) zero l = (x, refl)
      at_place (x ∷ xs) (suc i) l = at_place xs i (omega (arith, l))

  values_are : (o : Owner) → IsOwner p.tables o → values_of q (named_heap n p.tables h) live (named_owner n o)
      ≡ owner_count (count p.tables (kinds_of h) (kept_in s)) o
  values_are (InClass c) there =
      let (k, e) = some_class c there in
      objects_are c k e 0 h.cells all_there ∙ sym (counted p.tables good.tables written.chains (kept_in s) c (kinds_of h))
  values_are (InComponent k) there = refl

  owner_same : (o : Owner) → name_of (named_owner n o) ≡ owner_name texts p.tables o
  owner_same (InClass c) = refl
  owner_same (InComponent k) = refl

  field_are : (f : ℕ) (y : Field) → slice_get p.tables.fields f ≡ Some y
      → field_bytes q (named_heap n p.tables h) live (named_field texts p.tables y)
      ≡ (if has_reason s.fields f then column_width y.type_ * owner_count (count p.tables (kinds_of h) (kept_in s)) y.owner else 0)
  field_are f y e =
      ap (λ z. if_live (live (member.Field z (text_at texts y.name)))
      (width_of (named_type n p.tables y.type_) * values_of q (named_heap n p.tables h) live (named_owner n y.owner)))
      (owner_same y.owner ∙ ap (λ z. (field_key texts p.tables z).owner) (sym e))
      ∙ ap (λ z. if_live (live (member.Field (n.field f).owner z))
      (width_of (named_type n p.tables y.type_) * values_of q (named_heap n p.tables h) live (named_owner n y.owner)))
      (ap (λ z. (field_key texts p.tables z).name) (sym e))
      ∙ ap (λ z. if_live z (width_of (named_type n p.tables y.type_) * values_of q (named_heap n p.tables h) live (named_owner n y.owner)))
      (field_told n p tell good h κ typed s set f (slice_get_within p.tables.fields f y e))
      ∙ ap (λ z. if_live (has_reason s.fields f) (z * values_of q (named_heap n p.tables h) live (named_owner n y.owner))) (width_same n p y.type_)
      ∙ ap (λ z. if_live (has_reason s.fields f) (column_width y.type_ * z)) (values_are y.owner (written.owners f y e))
      ∙ sym (where_if (has_reason s.fields f) (column_width y.type_ * owner_count (count p.tables (kinds_of h) (kept_in s)) y.owner))

  -- these are the fields from the field f on
  abbrev AreFrom : ℕ → List Field → Type 0
  AreFrom f ys = (i : ℕ) (y : Field) → slice_get ys i ≡ Some y → slice_get p.tables.fields (f + i) ≡ Some y

  fields_are : (f : ℕ) (ys : List Field) → AreFrom f ys
      → fields_bytes q (named_heap n p.tables h) live (map (named_field texts p.tables) ys) ≡ field_sum (needs p (kinds_of h) s) f ys
  fields_are f [] from = refl
  fields_are f (y ∷ ys) from =
      ap (λ z. z + fields_bytes q (named_heap n p.tables h) live (map (named_field texts p.tables) ys))
      (field_are f y (ap (slice_get p.tables.fields) (sym (first f)) ∙ from 0 y refl))
      ∙ ap (λ z. (if has_reason s.fields f then column_width y.type_ * owner_count (count p.tables (kinds_of h) (kept_in s)) y.owner else 0) + z)
      (fields_are (suc f) ys (λ i x e. ap (slice_get p.tables.fields) (sym (next f i)) ∙ from (suc i) x e))
    where
      first : (f : ℕ) → f + 0 ≡ f
      first f = omega arith

      next : (f i : ℕ) → f + suc i ≡ suc f + i
      next f i = omega arith

  all_from : AreFrom 0 p.tables.fields
  all_from i y e = ap (slice_get p.tables.fields) (none_plus i) ∙ e
    where
      none_plus : (i : ℕ) → 0 + i ≡ i
      none_plus i = omega arith

  -- ---- the sums

  fields_whole : fields_bytes (source_of text) (named_heap n p.tables h) live (fields_of text) ≡ field_sum (needs p (kinds_of h) s) 0 p.tables.fields
  fields_whole =
      ap (λ z. fields_bytes z (named_heap n p.tables h) live (fields_of text)) is
      ∙ ap (fields_bytes q (named_heap n p.tables h) live) (sym written.fields) ∙ fields_are 0 p.tables.fields all_from

  abbrev types : List ℕ
  types = array_types (kept_in s) [] 0 (kinds_of h)

  items_whole : over_live live array_bytes 0 (named_heap n p.tables h).cells ≡ over (item_bytes p.tables (needs p (kinds_of h) s) (kinds_of h)) types
  items_whole =
      arrays_are 0 h.cells ∙ sym (by_types (λ u size. item_width (slice_get p.tables.types u) * size) (kept_in s) (kinds_of h))
      ∙ sym (over_ap _ _ (λ t. elements_of (kept_in s) (λ u. item_width (slice_get p.tables.types u)) t 0 (kinds_of h)) types)

  rows_whole : over_live live row_bytes 0 (named_heap n p.tables h).cells ≡ over (rows_bytes (kept_in s) (kinds_of h)) types
  rows_whole =
      rows_are 0 h.cells ∙ sym (by_types (λ u size. 4) (kept_in s) (kinds_of h))
      ∙ sym (over_ap _ _ (λ t. arrays_of (kept_in s) 4 t 0 (kinds_of h)) types)

  static_same : static_bytes p.tables (needs p (kinds_of h) s) (kinds_of h) ≡ static_sum text (named_heap n p.tables h) live
  static_same =
      static_is p.tables (needs p (kinds_of h) s) (kinds_of h)
      ∙ sym (ap (λ z. z + over_live live array_bytes 0 (named_heap n p.tables h).cells) fields_whole
      ∙ ap (λ z. field_sum (needs p (kinds_of h) s) 0 p.tables.fields + z) items_whole)

  tables_same : table_bytes p.tables (needs p (kinds_of h) s) (kinds_of h) ≡ table_sum text (named_heap n p.tables h) live
  tables_same =
      tables_are p.tables (needs p (kinds_of h) s) (kinds_of h)
      ∙ sym (ap (λ z. z + over_live live row_bytes 0 (named_heap n p.tables h).cells)
      (sym static_same ∙ static_is p.tables (needs p (kinds_of h) s) (kinds_of h))
      ∙ ap (λ z. (field_sum (needs p (kinds_of h) s) 0 p.tables.fields + over (item_bytes p.tables (needs p (kinds_of h) s) (kinds_of h)) types) + z)
      rows_whole)

  told : Tells (source_of text) (named_heap n p.tables h) live
  told = subst (λ z. Tells z (named_heap n p.tables h) live) (sym is) (tells n p tell good h κ typed s set)

  pub static_named : IsStatic text (named_heap n p.tables h) (static_bytes p.tables (needs p (kinds_of h) s) (kinds_of h))
  static_named = (live, told, static_same)

  pub tables_named : AreTables text (named_heap n p.tables h) (table_bytes p.tables (needs p (kinds_of h) s) (kinds_of h))
  tables_named = (live, told, tables_same)
