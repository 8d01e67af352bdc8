-- The signatures of methods of one function type.
use Rattle.std.proofs.Common.{◌≡◌, ℕ, List, [], ◌∷◌, Some, slice_get, refl, sym, ap, ◌∙◌, subst}
use Rattle.vg_core.specs.declared.types.CoreType.{CoreType}
use Rattle.vg_core.specs.declared.types.CoreType.TheVariants.{FunctionType, NoType, MoreTypes}
use Rattle.vg_core.specs.declared.program.Method.{Method}
use Rattle.vg_core.specs.declared.program.Tables.{Tables}
use Rattle.vg_core.specs.Tables.{function_of, IsRow}
use Rattle.vg_core.specs.Typing.{HasFunction}
use Rattle.vg_sound.proofs.Values.{the_same}

module _ (p : Tables) where
  -- the types of a row are determined
  one_row : (ts us : List CoreType) (n : ℕ) → IsRow p ts n → IsRow p us n → ts ≡ us
  one_row [] [] n h g = refl
  one_row (t ∷ ts) (u ∷ us) n (a, b, e, f, h) (c, d, e', f', g) =
      let same : MoreTypes a b ≡ MoreTypes c d = the_same _ _ (sym e ∙ e') in
      by (first same) (rest same) (one_row ts us b h (subst (IsRow p us) (sym (rest same)) g))
    where
      first : MoreTypes a b ≡ MoreTypes c d → a ≡ c
      first q = cc

      rest : MoreTypes a b ≡ MoreTypes c d → b ≡ d
      rest q = cc

      by : a ≡ c → b ≡ d → ts ≡ us → t ∷ ts ≡ u ∷ us
      by q r s = ap (λ z. z ∷ ts) (the_same _ _ (sym f ∙ (ap (slice_get p.types) q ∙ f'))) ∙ ap (λ z. u ∷ z) s
  one_row [] (u ∷ us) n h (c, d, e, f, g) = absurd (let clash : Some NoType ≡ Some (MoreTypes c d) = sym h ∙ e in cc)
  one_row (t ∷ ts) [] n (a, b, e, f, g) h = absurd (let clash : Some NoType ≡ Some (MoreTypes a b) = sym h ∙ e in cc)

  -- a method of this function type has these parameters
  pub params_are : (y : Method) (ps r : ℕ) (params : List CoreType) → HasFunction p y → function_of p y ≡ Some (FunctionType ps r) → IsRow p params ps
      → y.params ≡ params
  params_are y ps r params (qs, q, e, row, res) ef h =
      let same : FunctionType qs q ≡ FunctionType ps r = the_same _ _ (sym e ∙ ef) in one_row y.params params ps
      (subst (IsRow p y.params) (front_of same) row) h
    where
      front_of : FunctionType qs q ≡ FunctionType ps r → qs ≡ ps
      front_of z = cc

  -- two methods of one function type have the same parameters
  pub same_params : (y z : Method) → HasFunction p y → HasFunction p z → z.function ≡ y.function → z.params ≡ y.params
  same_params y z (ps, r, e, row, res) h q = params_are z ps r y.params h (ap (slice_get p.types) q ∙ e) row
