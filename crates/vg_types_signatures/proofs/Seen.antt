-- Names that were seen, in a map.
use Rattle.std.proofs.Common.{◌≡◌, ◌||◌, not, Bool, true, false, List, [], ◌∷◌, ◌++◌, Some, None, is_some, bytes_eq, if◌then◌else◌, refl, sym, ap, ◌∙◌}
use Rattle.vg_source.specs.Names.{Name, is_among}
use Rattle.vg_types_views.specs.ByText.{found, added}

-- the names that were seen are those of the map
pub record Sees {V : Type 0} (seen : List Name) (here : List (Name × V)) : Type 0 where
  pub same : (x : Name) → is_among seen x ≡ is_some (found x here)

pub sees_none : {V : Type 0} (here : List (Name × V)) → here ≡ [] → Sees [] here
sees_none here e = record { same = λ x. ap (λ z. is_some (found x z)) (sym e) }

either : (a b : Bool) → a || b ≡ (if b then true else a)
either true true = refl
either true false = refl
either false true = refl
either false false = refl

found_last : {V : Type 0} (y : Name) (here : List (Name × V)) (x : Name) (v : V)
    → is_some (found y (here ++ (x, v) ∷ [])) ≡ (if is_some (found y here) then true else bytes_eq x y)
found_last {V} y [] x v = by (bytes_eq x y)
  where
    by : (b : Bool) → is_some {T = V} (if b then Some v else None) ≡ b
    by true = refl
    by false = refl
found_last {V} y (e ∷ here) x v = by (bytes_eq e.0 y) (found_last y here x v)
  where
    by : (b : Bool) → is_some (found y (here ++ (x, v) ∷ [])) ≡ (if is_some (found y here) then true else bytes_eq x y)
        → is_some {T = V} (if b then Some e.1 else found y (here ++ (x, v) ∷ []))
        ≡ (if is_some {T = V} (if b then Some e.1 else found y here) then true else bytes_eq x y)
    by true h = refl
    by false h = h

new_added : {V : Type 0} (x : Name) (v : V) (here : List (Name × V)) → not (is_some (found x here)) ≡ true → added x v here ≡ here ++ (x, v) ∷ []
new_added x v here e = by (is_some (found x here)) e
  where
    by : (b : Bool) → not b ≡ true → (if b then here else here ++ (x, v) ∷ []) ≡ here ++ (x, v) ∷ []
    by true h = cc
    by false h = refl

-- one more name, which was not seen
pub sees_more : {V : Type 0} (seen : List Name) (here there : List (Name × V)) (x : Name) (v : V) → Sees seen here
    → not (is_some (found x here)) ≡ true → there ≡ added x v here → Sees (x ∷ seen) there
sees_more seen here there x v s n e = record {
  same = λ y. either (bytes_eq x y) (is_among seen y) ∙ ap (λ b. if b then true else bytes_eq x y) (s.same y) ∙ sym (found_last y here x v)
      ∙ ap (λ z. is_some (found y z)) (sym (e ∙ new_added x v here n));
}
