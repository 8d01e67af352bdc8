-- The types of parameters, one by one: those so far and the row behind them are the row that was asked for, and no other row is.
use Rattle.std.proofs.Common.{◌≡◌, ◌<◌, ℕ, true, false, List, [], ◌∷◌, ◌++◌, Some, None}
use Rattle.std.proofs.Common.{refl, sym, ap, ◌∙◌, subst, append_assoc, append-nil}
use Rattle.std.specs.List.{slice_get, AllByRecursion}
use Rattle.std.proofs.lemmas.Bool.{false≢true}
use Rattle.std.proofs.lemmas.Option.{same_Some, none-some}
use Rattle.vg_core.specs.declared.types.CoreType.{CoreType}
use Rattle.vg_core.specs.declared.types.CoreType.TheVariants.{NoType, MoreTypes}
use Rattle.vg_core.specs.declared.program.Tables.{Tables}
use Rattle.vg_core.specs.Tables.{IsRow}
use Rattle.vg_types_tables.specs.Declares.{IsFormed, IsKnown}
use Rattle.vg_types_tables.proofs.Lists.{one_behind}
use Rattle.vg_types_tables.proofs.Entries.{known_entry}
use Rattle.vg_types_functions.specs.Functions.{AreParams}
use Rattle.vg_types_functions.specs.Rows.{parts_of, is_end}

pub record Walking (p : Tables) (done : List CoreType) (number params : ℕ) : Type 0 where
  pub back : (us : List CoreType) → IsRow p us number → IsRow p (done ++ us) params
  pub forth : (ts : List CoreType) → IsRow p ts params → (us : List CoreType) × IsRow p us number
  pub known : AllByRecursion (IsKnown p) done

pub starts : (p : Tables) (n : ℕ) → Walking p [] n n
starts p n = record { back = λ us h. h; forth = λ ts h. (ts, h); known = tt }

-- a type with parts is one before a row
with_parts : (t : CoreType) (first rest : ℕ) → parts_of t ≡ Some (first, rest) → t ≡ MoreTypes first rest
with_parts (MoreTypes i j) first rest e = ap (λ (q : ℕ × ℕ). MoreTypes q.0 q.1) (same_Some (i, j) (first, rest) e)
with_parts t first rest e = absurd (none-some (first, rest) e)

at_end : (t : CoreType) → is_end t ≡ true → t ≡ NoType
at_end NoType e = refl
at_end t e = absurd (false≢true e)

module _ (p : Tables) (number : ℕ) (t : CoreType) (is : slice_get p.types number ≡ Some t) where
  -- a row that has parts is one of the first of them and the row behind it
  behind_parts : (first rest : ℕ) → parts_of t ≡ Some (first, rest) → (us : List CoreType) → IsRow p us number
      → (vs : List CoreType) × (u : CoreType) × (slice_get p.types first ≡ Some u) × IsRow p vs rest
  behind_parts first rest e [] h = absurd (none-some (first, rest) (sym (ap parts_of (same_Some t NoType (sym is ∙ h))) ∙ e))
  behind_parts first rest e (u ∷ vs) (i, j, g, k, row) =
      let same : (i, j) ≡ (first, rest) = same_Some (i, j) (first, rest) (sym (ap parts_of (same_Some t (MoreTypes i j) (sym is ∙ g))) ∙ e) in
      (vs, u, subst (λ n. slice_get p.types n ≡ Some u) (ap (λ (q : ℕ × ℕ). q.0) same) k, subst (IsRow p vs) (ap (λ (q : ℕ × ℕ). q.1) same) row)

  -- what has none is a row at its end alone
  no_row : parts_of t ≡ None → is_end t ≡ false → (us : List CoreType) → IsRow p us number → ⊥
  no_row e g [] h = false≢true (sym g ∙ ap is_end (same_Some t NoType (sym is ∙ h)))
  no_row e g (u ∷ vs) (i, j, k, m, r) = none-some (i, j) (sym e ∙ ap parts_of (same_Some t (MoreTypes i j) (sym is ∙ k)))

module _ (p : Tables) (f : IsFormed p) (done : List CoreType) (number params : ℕ) (w : Walking p done number params) where
  -- no type has this number
  pub no_number : ((t : CoreType) → slice_get p.types number ≡ Some t → ⊥) → (ts : List CoreType) → IsRow p ts params → ⊥
  no_number none ts h = let left = w.forth ts h in by left.0 left.1
    where
      by : (us : List CoreType) → IsRow p us number → ⊥
      by [] row = none NoType row
      by (u ∷ us) (i, j, g, k, row) = none (MoreTypes i j) g

  module _ (t : CoreType) (is : slice_get p.types number ≡ Some t) where
    pub ends : parts_of t ≡ None → is_end t ≡ true → AreParams p done params
    ends e g = record { row = subst (λ ts. IsRow p ts params) (append-nil done) (w.back [] (is ∙ ap Some (at_end t g))); known = w.known }

    pub not_at_end : parts_of t ≡ None → is_end t ≡ false → (ts : List CoreType) → IsRow p ts params → ⊥
    not_at_end e g ts h = let left = w.forth ts h in no_row p number t is e g left.0 left.1

    module _ (first rest : ℕ) (e : parts_of t ≡ Some (first, rest)) where
      pub smaller : rest < number
      smaller = (f.made_below number (MoreTypes first rest) (is ∙ ap Some (with_parts t first rest e))).1

      pub no_first : slice_get p.types first ≡ None → (ts : List CoreType) → IsRow p ts params → ⊥
      no_first g ts h =
          let left = w.forth ts h in
          let parts = behind_parts p number t is first rest e left.0 left.1 in
          none-some parts.1 (sym g ∙ parts.2)

      pub goes_on : (u : CoreType) (more : List CoreType) → slice_get p.types first ≡ Some u → more ≡ done ++ u ∷ [] → Walking p more rest params
      goes_on u more g m = subst (λ ts. Walking p ts rest params) (sym m) (record {
        back = λ us h. subst (λ ts. IsRow p ts params) (sym (append_assoc done (u ∷ []) us))
            (w.back (u ∷ us) (first, rest, is ∙ ap Some (with_parts t first rest e), g, h));
        forth = λ ts h.
            let left = w.forth ts h in
            let parts = behind_parts p number t is first rest e left.0 left.1 in
            (parts.0, parts.3);
        known = one_behind (IsKnown p) done u w.known (known_entry p f first u g);
      })
