-- The rules that members break.
use Rattle.std.proofs.Common.{◌≡◌, ℕ, ◌<◌, ◌==◌, ◌&&◌, Bool, false, List, [], ◌∷◌, length, map, arith, Option, Some, None, slice_get, IfSome}
use Rattle.std.proofs.Common.{if◌then◌else◌, refl, sym, ap, ◌∙◌}
use Rattle.std.specs.Option.{option_and_then}
use Rattle.std.proofs.Math.Dec.{eqb-suc-zero}
use Rattle.vg_tree.specs.declared.type_tree.Param.{Param}
use Rattle.vg_tree.specs.Held.{param_at}
use Rattle.vg_core.specs.declared.types.CoreType.{CoreType}
use Rattle.vg_source.specs.Types.{StaticType}
use Rattle.vg_source.specs.Declared.{Member, row_of}
use Rattle.vg_rules.specs.Fits.{same_type}
use Rattle.vg_rules.specs.Inherited.{is_free, is_no_field, overrides}
use Rattle.vg_core.specs.declared.program.Field.{Field}
use Rattle.vg_types_tables.specs.declared.declared.Declared.{Declared}
use Rattle.vg_types_tables.specs.declared.declared.MemberNumber.{MemberNumber}
use Rattle.vg_types_tables.specs.declared.declared.MemberNumber.TheVariants.{Field as FieldNumber, Method as MethodNumber}
use Rattle.vg_types_tables.specs.Views.{row_view, field_view, member_view, params_view, result_view}
use Rattle.vg_types_inherited.specs.Asked.{IsInTables, field_rule, method_rule}

module _ (texts : List (List ℕ)) (d : Declared) where
  field_in : (f : ℕ) (o : Option Field) (y : Field) → o ≡ Some y → is_no_field (field_view texts d f o) ≡ false
  field_in f (Some z) y e = refl
  field_in f None y e = cc

  field_in_way : (f : ℕ) (o : Option Field) (y : Field) → o ≡ Some y → is_free (field_view texts d f o) ≡ false
  field_in_way f (Some z) y e = refl
  field_in_way f None y e = cc

  -- a field is free where nothing is found
  pub field_rule_is : (r : Option MemberNumber) (m : Option Member) → IfSome r (IsInTables d.tables) → option_and_then (member_view texts d) r ≡ m
      → field_rule r ≡ (if is_free m then None else Some 6)
  field_rule_is None m h e = ap (λ o. if is_free o then None else Some 6) e
  field_rule_is (Some (FieldNumber f)) m h e =
      sym (ap (λ b. if b then None else Some 6) (field_in_way f (slice_get d.tables.fields f) h.0 h.1)) ∙ ap (λ o. if is_free o then None else Some 6) e
  field_rule_is (Some (MethodNumber k)) m h e = ap (λ o. if is_free o then None else Some 6) e

  -- beside a field no method stands
  pub field_in_place : (f : ℕ) (y : Field) (ps r : StaticType) → slice_get d.tables.fields f ≡ Some y
      → Some 6 ≡ method_rule (member_view texts d (FieldNumber f)) ps r
  field_in_place f y ps r e =
      sym (ap (λ b. if b then (if overrides (member_view texts d (FieldNumber f)) ps r then None else Some 7) else Some 6)
      (field_in f (slice_get d.tables.fields f) y e))

  -- beside a method stands one of the same types
  pub kept_types : (k : ℕ) (ps r : StaticType) (b : Bool)
      → b ≡ (same_type ps (params_view texts d (slice_get d.tables.methods k)) && same_type r (result_view texts d (slice_get d.tables.methods k)))
      → (if b then None else Some 7) ≡ method_rule (member_view texts d (MethodNumber k)) ps r
  kept_types k ps r b e = ap (λ z. if z then None else Some 7) e

  -- no parameters are those of a row that is empty
  pub no_params : (params : List Param) (others : List CoreType) (b : Bool) → length params < 1 → b ≡ (length others == 0)
      → b ≡ same_type (row_of (map (param_at texts) params)) (row_view texts d others)
  no_params [] [] b l e = e
  no_params [] (t ∷ ts) b l e = e ∙ eqb-suc-zero (length ts)
  no_params (p ∷ ps) others b l e = absurd (omega (arith, l))
