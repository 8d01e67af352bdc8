-- The own objects of a class, in order of making.
use Rattle.std.proofs.Common.{◌≡◌, refl, ap, ◌∙◌, arith, ℕ, zero, suc, ◌+◌, ◌<◌, ◌==◌, ◌&&◌, Bool, true, false, List, [], ◌∷◌, length, Some, slice_get}
use Rattle.vg_core.specs.Heap.{Kind, ObjectOf, ArrayOf}
use Rattle.vg_numbers.specs.Numbers.{one_if}
use Rattle.vg_number.specs.Counting.{is_object_of, own_before}

one_some : (a b : Kind) → Some a ≡ Some b → a ≡ b
one_some a b e = cc

none_some : {B : Type 0} (j : ℕ) (a : Kind) → slice_get [] j ≡ Some a → B
none_some j a e = absurd (grind (arith, e))

is_its_own : (c : ℕ) → is_object_of c (ObjectOf c) ≡ true
is_its_own c = let e : (c == c) ≡ true = grind arith in e

its_class : (c : ℕ) (a : Kind) → is_object_of c a ≡ true → a ≡ ObjectOf c
its_class c (ObjectOf d) e = let q : d ≡ c = grind (arith, e) in ap ObjectOf q
its_class c (ArrayOf t n) e = absurd (let clash : false ≡ true = e in cc)

-- an object is counted among those of its class
pub own_less : (c : ℕ) (kept : ℕ → Bool) (at : ℕ) (κ : List Kind) (j : ℕ) → slice_get κ j ≡ Some (ObjectOf c) → kept (at + j) ≡ true
    → own_before c kept at κ j < own_before c kept at κ (length κ)
own_less c kept at [] j e ks = none_some j (ObjectOf c) e
own_less c kept at (a ∷ κ) zero e ks =
    let z : one_if (kept at && is_object_of c a) ≡ 1 =
    ap (λ b. one_if (b && is_object_of c a)) (ap kept (omega arith) ∙ ks)
    ∙ ap one_if (ap (is_object_of c) (one_some a (ObjectOf c) e) ∙ is_its_own c) in omega (arith, z)
own_less c kept at (a ∷ κ) (suc j) e ks =
    let h = own_less c kept (suc at) κ j e (ap kept (omega arith) ∙ ks) in omega (arith, h)

-- the object of a class before which so many of it were made
pub record Own (c : ℕ) (kept : ℕ → Bool) (at : ℕ) (κ : List Kind) (n : ℕ) : Type 0 where
  pub cell : ℕ
  pub is : slice_get κ cell ≡ Some (ObjectOf c)
  pub kept_ : kept (at + cell) ≡ true
  pub before : own_before c kept at κ cell ≡ n

pub own_there : (c : ℕ) (kept : ℕ → Bool) (at : ℕ) (κ : List Kind) (n : ℕ) → n < own_before c kept at κ (length κ) → Own c kept at κ n
own_there c kept at [] n lt = absurd (omega (arith, lt))
own_there c kept at (a ∷ κ) n lt = by (own_there c kept (suc at) κ) (kept at) refl (is_object_of c a) refl n lt
  where
    later : (n1 m : ℕ) → one_if (kept at && is_object_of c a) + n1 ≡ m → Own c kept (suc at) κ n1 → Own c kept at (a ∷ κ) m
    later n1 m e o =
        record {
          cell = suc o.cell;
          is = o.is;
          kept_ = ap kept (omega arith) ∙ o.kept_;
          before = ap (λ z. one_if (kept at && is_object_of c a) + z) o.before ∙ e;
        }

    none : ((n1 : ℕ) → n1 < own_before c kept (suc at) κ (length κ) → Own c kept (suc at) κ n1)
        → one_if (kept at && is_object_of c a) ≡ 0 → (m : ℕ) → m < own_before c kept at (a ∷ κ) (length (a ∷ κ)) → Own c kept at (a ∷ κ) m
    none again z m l = later m m (omega (arith, z)) (again m (omega (arith, l, z)))

    by : ((n1 : ℕ) → n1 < own_before c kept (suc at) κ (length κ) → Own c kept (suc at) κ n1) → (b : Bool) → kept at ≡ b → (d : Bool) → is_object_of c a ≡ d
        → (m : ℕ) → m < own_before c kept at (a ∷ κ) (length (a ∷ κ)) → Own c kept at (a ∷ κ) m
    by again true ks true q zero l = record {
      cell = 0;
      is = ap Some (its_class c a q);
      kept_ = ap kept (omega arith) ∙ ks;
      before = refl;
    }
    by again true ks true q (suc m) l =
        let z : one_if (kept at && is_object_of c a) ≡ 1 = ap (λ b. one_if (b && is_object_of c a)) ks ∙ ap one_if q in
        later m (suc m) (omega (arith, z)) (again m (omega (arith, l, z)))
    by again true ks false q m l = none again (ap (λ b. one_if (b && is_object_of c a)) ks ∙ ap one_if q) m l
    by again false ks d q m l = none again (ap (λ b. one_if (b && is_object_of c a)) ks) m l
