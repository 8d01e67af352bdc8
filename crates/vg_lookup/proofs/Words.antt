-- A word that is cut behind its first name.
use Rattle.std.proofs.Common.{◌≡◌, ℕ, ◌<◌, Bool, true, false, List, [], ◌∷◌, ◌++◌, length, take, drop, refl, sym, ap, ◌∙◌, arith, append_assoc, length-append}
use Rattle.std.specs.Prelude.{◌==◌, ◌&&◌, bytes_eq}
use Rattle.std.proofs.lemmas.List.{take-append-drop}
use Rattle.std.proofs.lemmas.Slice.Eq.{bytes_eq-Decides}
use Rattle.vg_lookup.specs.Lookup.{word_of}
use Rattle.vg_lookup.specs.Mirrors.{point_and}

both : (a b : Bool) → (a && b) ≡ true → (a ≡ true) × (b ≡ true)
both true b e = (refl, e)
both false b e = cc

and_true : (a b : Bool) → a ≡ true → b ≡ true → (a && b) ≡ true
and_true a b e f = ap (λ x. x && b) e ∙ f

same_bools : (a b : Bool) → (a ≡ true → b ≡ true) → (b ≡ true → a ≡ true) → a ≡ b
same_bools true b f g = sym (f refl)
same_bools false true f g = g refl
same_bools false false f g = refl

same_first : (x y : ℕ) (xs ys : List ℕ) → x ∷ xs ≡ y ∷ ys → x ≡ y
same_first x y xs ys e = cc

same_rest : (x y : ℕ) (xs ys : List ℕ) → x ∷ xs ≡ y ∷ ys → xs ≡ ys
same_rest x y xs ys e = cc

-- fronts of one length of one list are the same, and so is what stands behind them
one_front : (xs bs cs ds : List ℕ) → length xs ≡ length cs → xs ++ bs ≡ cs ++ ds → (xs ≡ cs) × (bs ≡ ds)
one_front [] bs [] ds l e = (refl, e)
one_front [] bs (c ∷ cs) ds l e = absurd (let clash : 0 ≡ length (c ∷ cs) = l in omega (arith, clash))
one_front (x ∷ xs) bs [] ds l e = absurd (let clash : length (x ∷ xs) ≡ 0 = l in omega (arith, clash))
one_front (x ∷ xs) bs (c ∷ cs) ds l e =
    let (f, g) = one_front xs bs cs ds (omega (arith, l)) (same_rest x c (xs ++ bs) (cs ++ ds) e) in
    (ap (λ z. z ∷ xs) (same_first x c (xs ++ bs) (cs ++ ds) e) ∙ ap (λ z. c ∷ z) f, g)

-- what is cut in two is both parts, one behind the other
pub split_word : (word : List ℕ) (n : ℕ) (front behind : List ℕ) → front ≡ take n word → behind ≡ drop n word → word ≡ front ++ behind
split_word word n front behind e f = sym (ap (λ z. z ++ behind) e ∙ (ap (λ z. take n word ++ z) f ∙ take-append-drop n word))

-- a word is its first name, and then a point and the second
word_is : (owner name : List ℕ) → word_of owner name ≡ owner ++ 46 ∷ name
word_is owner name = append_assoc owner (46 ∷ []) name

-- what is a point and a name
point_is : (bytes name : List ℕ) → point_and bytes name ≡ true → bytes ≡ 46 ∷ name
point_is [] name e = cc
point_is (b ∷ rest) name e =
    let (f, g) = both (b == 46) _ e in
    ap (λ z. z ∷ rest) (same_number b f) ∙ ap (λ z. 46 ∷ z) ((bytes_eq-Decides rest name).0 g)
  where
    same_number : (n : ℕ) → (n == 46) ≡ true → n ≡ 46
    same_number n e = grind (arith, e)

is_point : (bytes name : List ℕ) → bytes ≡ 46 ∷ name → point_and bytes name ≡ true
is_point bytes name e = ap (λ z. point_and z name) e ∙ (bytes_eq-Decides name name).1 refl

-- a word that is cut behind so many bytes as the first name has
pub cut_word : (word front behind owner name : List ℕ) → word ≡ front ++ behind → length front ≡ length owner
    → (bytes_eq front owner && point_and behind name) ≡ bytes_eq word (word_of owner name)
cut_word word front behind owner name e l = same_bools _ _ forth back
  where
    forth : (bytes_eq front owner && point_and behind name) ≡ true → bytes_eq word (word_of owner name) ≡ true
    forth h =
        let (f, g) = both (bytes_eq front owner) _ h in
        (bytes_eq-Decides word (word_of owner name)).1
        (e ∙ (ap (λ z. z ++ behind) ((bytes_eq-Decides front owner).0 f) ∙ (ap (λ z. owner ++ z) (point_is behind name g) ∙ sym (word_is owner name))))

    back : bytes_eq word (word_of owner name) ≡ true → (bytes_eq front owner && point_and behind name) ≡ true
    back h =
        let (f, g) = one_front front behind owner (46 ∷ name) l
        (sym e ∙ ((bytes_eq-Decides word (word_of owner name)).0 h ∙ word_is owner name)) in
        and_true _ _ ((bytes_eq-Decides front owner).1 f) (is_point behind name g)

-- a word that is shorter than the first name
pub short_word : (word owner name : List ℕ) → length word < length owner → false ≡ bytes_eq word (word_of owner name)
short_word word owner name l = same_bools _ _ (λ e. cc) (λ h. absurd (too_long ((bytes_eq-Decides word (word_of owner name)).0 h ∙ word_is owner name)))
  where
    too_long : word ≡ owner ++ 46 ∷ name → ⊥
    too_long e = let n = ap length e ∙ length-append owner (46 ∷ name) in omega (arith, n, l)
