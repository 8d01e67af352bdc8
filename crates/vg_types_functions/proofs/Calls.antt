-- The call of a delegate.
use Rattle.std.proofs.Common.{◌≡◌, ℕ, List, [], ◌∷◌, Some, ap, ◌∙◌}
use Rattle.std.specs.List.{slice_get}
use Rattle.vg_source.specs.Steps as source
use Rattle.vg_core.specs.declared.types.CoreType.{CoreType}
use Rattle.vg_core.specs.declared.types.CoreType.TheVariants.{FunctionType, NoType, MoreTypes}
use Rattle.vg_core.specs.declared.step.Step.TheVariants.{CallValue}
use Rattle.vg_core.specs.Naming.{type_at, type_named, params_named, result_named}
use Rattle.vg_core.specs.Tables.{IsRow}
use Rattle.vg_types_tables.specs.declared.declared.Declared.{Declared}
use Rattle.vg_types_tables.specs.Views.{naming, type_view, row_view, step_view}
use Rattle.vg_types_tables.specs.Declares.{IsFormed, IsTypeNumber}
use Rattle.vg_types_tables.proofs.Entries.{number_type, row_number}

module _ (texts : List (List ℕ)) (d : Declared) (formed : IsFormed d.tables) where
  a_type : (ts : List CoreType) (n : ℕ) → IsRow d.tables ts n → IsTypeNumber d.tables n
  a_type [] n e = (NoType, e)
  a_type (t ∷ ts) n (first, rest, e, g, h) = (MoreTypes first rest, e)

  pub call_view : (at count f ps r : ℕ) (ts : List CoreType) (t : CoreType) → slice_get d.tables.types f ≡ Some (FunctionType ps r)
      → IsRow d.tables ts ps → slice_get d.tables.types r ≡ Some t
      → step_view texts d (CallValue at count f) ≡ source.CallValue at count (row_view texts d ts) (type_view texts d t)
  call_view at count f ps r ts t e row g =
      ap (λ o. source.CallValue at count (params_named (naming texts d) d.tables o) (result_named (naming texts d) d.tables o)) e
      ∙ ap (λ x. source.CallValue at count x (type_at (naming texts d) d.tables r))
      (number_type texts d formed ps (a_type ts ps row) ∙ row_number texts d formed ts ps row)
      ∙ ap (λ o. source.CallValue at count (row_view texts d ts) (type_named (naming texts d) d.tables o)) g
