-- A search finds what the definition finds: before the node is found, so many of the spots are left out; behind it nothing changes.
use Rattle.std.proofs.Common.{◌≡◌, ℕ, zero, suc, ◌+◌, ◌-◌, Bool, true, false, List, [], ◌∷◌, ◌++◌, Option, Some, None, refl, sym, ap, ◌∙◌, arith}
use Rattle.std.specs.Prelude.{◌==◌, if◌then◌else◌}
use Rattle.std.proofs.lemmas.Bool.{eq-eqb, ne_eqb}
use Rattle.vg_base.specs.declared.place.Place.{Place}
use Rattle.vg_syntax.specs.Numbering.{with_id}
use Rattle.vg_syntax.specs.Tree.{Spot}
use Rattle.vg_places.specs.declared.places.Search.{Search}
use Rattle.vg_places.specs.Places.{place_among}
use Rattle.vg_places.specs.Search.{after_one, after}
use Rattle.vg_places.proofs.Counted.{counted}

pub after_append : (s : Search) (xs ys : List Spot) → after s (xs ++ ys) ≡ after (after s xs) ys
after_append s [] ys = refl
after_append s (x ∷ xs) ys = after_append (after_one s s.found x.place) xs ys

stays : (n : ℕ) (place : Place) (xs : List Spot) → after (record { before = n; found = Some place }) xs ≡ record { before = n; found = Some place }
stays n place [] = refl
stays n place (x ∷ xs) = stays n place xs

same_number : (i : ℕ) → (i == i) ≡ true
same_number i = eq-eqb i i refl

other_number : (i j : ℕ) → (i == i + suc j) ≡ false
other_number i j = ne_eqb i (i + suc j) (λ e. omega (arith, e))

one_less : (n : ℕ) (place : Place) → after_one (record { before = suc n; found = None }) None place ≡ record { before = n; found = None }
one_less n place =
    ap (λ b. if b then record { before = 0; found = Some place } else record { before = suc n - 1; found = None }) (ne_eqb (suc n) 0 (λ e. omega (arith, e)))
    ∙ ap (λ m. record { before = m; found = None }) (let e : suc n - 1 ≡ n = omega arith in e)

pub found_counted : (i n : ℕ) (xs : List Spot) → (after (record { before = n; found = None }) xs).found ≡ place_among (i + n) (counted i xs)
found_counted i n [] = refl
found_counted i zero (x ∷ xs) =
    let e : i ≡ i + 0 = omega arith in
    ap (λ s. s.found) (stays 0 x.place xs)
    ∙ sym (ap (λ b. if b then Some x.place else place_among (i + 0) (counted (i + 1) xs)) (ap (λ j. i == j) (sym e) ∙ same_number i))
found_counted i (suc n) (x ∷ xs) =
    let e : i + 1 + n ≡ i + suc n = omega arith in
    ap (λ s. (after s xs).found) (one_less n x.place) ∙ found_counted (i + 1) n xs ∙ ap (λ j. place_among j (counted (i + 1) xs)) e
    ∙ sym (ap (λ b. if b then Some x.place else place_among (i + suc n) (counted (i + 1) xs)) (other_number i n))
