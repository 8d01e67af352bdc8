-- The entries of a map, seen through the strings that hold their texts.
use Rattle.std.proofs.Common.{◌≡◌, ℕ, Bool, true, false, String, string_bytes, List, [], ◌∷◌, ◌++◌, map, Option}
use Rattle.std.proofs.Common.{Some, None, is_some, Decides, refl, sym, ap, ◌∙◌, cond}
use Rattle.std.specs.Prelude.{not, if◌then◌else◌}
use Rattle.std.specs.Global.{Global}
use Rattle.std.specs.Str.{bytes_eq}
use Rattle.std.proofs.lemmas.List.{map-append}
use Rattle.std.proofs.lemmas.Slice.Eq.{bytes_eq-Decides}
use Rattle.indexmap.specs.IndexMap.{IndexMap, get_by, insert_entry, with_entries}
use Rattle.indexmap.proofs.CallerLemmas.{insert_entry-new}
use Rattle.vg_types_views.specs.ByText.{found, added}

-- equal bytes, from either side
same_bytes : (xs ys : List ℕ) → bytes_eq xs ys ≡ bytes_eq ys xs
same_bytes xs ys = by (bytes_eq xs ys) (bytes_eq ys xs) (bytes_eq-Decides xs ys) (bytes_eq-Decides ys xs)
  where
    by : (a b : Bool) → Decides a (xs ≡ ys) → Decides b (ys ≡ xs) → a ≡ b
    by true true d e = refl
    by false false d e = refl
    by true false d e = sym (e.1 (sym (d.0 refl)))
    by false true d e = d.1 (sym (e.0 refl))

abbrev texts_of : {V : Type 0} → List (String Global × V) → List (List ℕ × V)
texts_of es = map (λ e. (string_bytes e.0, e.1)) es

abbrev is_text : List ℕ → String Global → Bool
is_text text k = bytes_eq text (string_bytes k)

module _ {V S : Type 0} (m : IndexMap (String Global) V S) where
  found_in : (text : List ℕ) (es : List (String Global × V)) → get_by (is_text text) (with_entries m es) ≡ found text (texts_of es)
  found_in text [] = refl
  found_in text (e ∷ es) =
      ap (λ b. cond b (Some e.1) (get_by (is_text text) (with_entries m es))) (same_bytes text (string_bytes e.0))
      ∙ ap (cond (bytes_eq (string_bytes e.0) text) (Some e.1)) (found_in text es)

  -- a look-up finds the first entry of the text
  pub found_by : (text : List ℕ) (here : List (List ℕ × V)) → here ≡ texts_of m.entries → get_by (is_text text) m ≡ found text here
  found_by text here v = found_in text m.entries ∙ ap (found text) (sym v)

  -- a text that is there leaves the map
  pub there : (text : List ℕ) (value w : V) (here : List (List ℕ × V)) → here ≡ texts_of m.entries → Some w ≡ get_by (is_text text) m
      → here ≡ added text value here
  there text value w here v e =
      ap (λ o. if is_some o then here else here ++ (text, value) ∷ []) (e ∙ found_by text here v)

  pub there_is : (text : List ℕ) (w : V) (here : List (List ℕ × V)) → here ≡ texts_of m.entries → Some w ≡ get_by (is_text text) m
      → false ≡ not (is_some (found text here))
  there_is text w here v e = ap (λ o. not (is_some o)) (e ∙ found_by text here v)

  pub new_is : (text : List ℕ) (here : List (List ℕ × V)) → here ≡ texts_of m.entries → None ≡ get_by (is_text text) m
      → true ≡ not (is_some (found text here))
  new_is text here v e = ap (λ (o : Option V). not (is_some o)) (e ∙ found_by text here v)

  -- a new text goes last
  pub new_last : (text : List ℕ) (k : String Global) (value : V) (here : List (List ℕ × V)) (es : List (String Global × V)) → here ≡ texts_of m.entries
      → None ≡ get_by (is_text text) m → string_bytes k ≡ text
      → es ≡ insert_entry (λ i. is_text (string_bytes i)) m.entries k value → texts_of es ≡ added text value here
  new_last text k value here es v none t e =
      ap texts_of (e ∙ insert_entry-new (λ i. is_text (string_bytes i)) m k value (ap (λ x. get_by (is_text x) m) t ∙ sym none))
      ∙ map-append (λ e. (string_bytes e.0, e.1)) m.entries ((k, value) ∷ [])
      ∙ ap (λ x. texts_of m.entries ++ (x, value) ∷ []) t ∙ ap (λ x. x ++ (text, value) ∷ []) (sym v)
      ∙ ap (λ (o : Option V). if is_some o then here else here ++ (text, value) ∷ []) (none ∙ found_by text here v)
