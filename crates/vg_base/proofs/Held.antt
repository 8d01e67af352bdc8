-- Texts seen through the strings that hold them.
use Rattle.std.proofs.Common.{◌≡◌, ℕ, ◌+◌, Bool, true, false, String, string_bytes, List, [], ◌∷◌, ◌++◌, map, Some, None, refl, sym, ap, ◌∙◌, cond}
use Rattle.std.proofs.lemmas.List.{map-append}
use Rattle.std.specs.Global.{Global}
use Rattle.std.specs.Prelude.{not, ◌||◌, if◌then◌else◌}
use Rattle.std.specs.List.{list_any, position_or_len, position}
use Rattle.std.specs.Str.{bytes_eq}
use Rattle.vg_base.specs.Names.{number_of, with_text}

abbrev bytes_in : List (String Global) → List (List ℕ)
bytes_in ks = map string_bytes ks

abbrev is_text : List ℕ → String Global → Bool
is_text text k = bytes_eq text (string_bytes k)

position_or_len-map : (text : List ℕ) (ks : List (String Global)) → number_of text (bytes_in ks) ≡ position_or_len (is_text text) ks
position_or_len-map text [] = refl
position_or_len-map text (k ∷ ks) = ap (λ n. cond (not (is_text text k)) (1 + n) 0) (position_or_len-map text ks)

list_any-map : (text : List ℕ) (ks : List (String Global)) → list_any (bytes_eq text) (bytes_in ks) ≡ list_any (is_text text) ks
list_any-map text [] = refl
list_any-map text (k ∷ ks) = ap (λ b. is_text text k || b) (list_any-map text ks)

if_found : (b : Bool) (n i : ℕ) → cond b (Some n) None ≡ Some i → n ≡ i
if_found true n i e = cc
if_found false n i e = cc

-- a text that is found has its place as its number
pub number_found : (text : List ℕ) (ks : List (String Global)) (names : List (List ℕ)) (i : ℕ) → names ≡ bytes_in ks → Some i ≡ position (is_text text) ks
    → i ≡ number_of text names
number_found text ks names i v e = sym (if_found _ _ i (sym e)) ∙ sym (position_or_len-map text ks) ∙ ap (number_of text) (sym v)

held_by : (text : List ℕ) (ks : List (String Global)) (b : Bool) → b ≡ list_any (is_text text) ks
    → (if b then bytes_in ks else bytes_in ks ++ text ∷ []) ≡ with_text text (bytes_in ks)
held_by text ks b e = ap (λ b. if b then bytes_in ks else bytes_in ks ++ text ∷ []) (e ∙ sym (list_any-map text ks))

-- a text that is found is held already
pub held_found : (text : List ℕ) (ks : List (String Global)) (names : List (List ℕ)) → names ≡ bytes_in ks → true ≡ list_any (is_text text) ks
    → names ≡ with_text text names
held_found text ks names v e = v ∙ held_by text ks true e ∙ ap (with_text text) (sym v)

if_new : (b : Bool) (ks : List (String Global)) (k : String Global) → false ≡ b → bytes_in (if b then ks else ks ++ k ∷ []) ≡ bytes_in ks ++ string_bytes k ∷ []
if_new true ks k e = cc
if_new false ks k e = map-append string_bytes ks (k ∷ [])

-- a new text goes last
pub held_new : (text : List ℕ) (ks ks' : List (String Global)) (names : List (List ℕ)) (k : String Global) → names ≡ bytes_in ks
    → false ≡ list_any (is_text text) ks → string_bytes k ≡ text
    → ks' ≡ (if list_any (is_text (string_bytes k)) ks then ks else ks ++ k ∷ []) → bytes_in ks' ≡ with_text text names
held_new text ks ks' names k v e t w =
    ap bytes_in w ∙ ap (λ s. bytes_in (if list_any (is_text s) ks then ks else ks ++ k ∷ [])) t
    ∙ if_new (list_any (is_text text) ks) ks k e ∙ ap (λ l. bytes_in ks ++ l ∷ []) t ∙ held_by text ks false e ∙ ap (with_text text) (sym v)

-- a new text has the next number
pub number_new : (text : List ℕ) (ks : List (String Global)) (names : List (List ℕ)) (k : String Global) (i : ℕ) → names ≡ bytes_in ks
    → string_bytes k ≡ text → i ≡ position_or_len (is_text (string_bytes k)) ks → i ≡ number_of text names
number_new text ks names k i v t e = e ∙ ap (λ s. position_or_len (is_text s) ks) t ∙ sym (position_or_len-map text ks) ∙ ap (number_of text) (sym v)
