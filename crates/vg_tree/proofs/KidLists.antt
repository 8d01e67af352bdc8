-- The kids of slices by their number.
use Rattle.std.proofs.Common.{◌≡◌, ℕ, ◌<◌, ◌≤◌, List, [], ◌∷◌, length, map, slice_index_or, arith, refl}
use Rattle.vg_syntax.specs.Reads.{Two, Three, Four, Five, kids_of}
use Rattle.vg_tree.specs.declared.made.Value.{Value as HeldValue}
use Rattle.vg_tree.specs.HeldMade.{value_at}

-- the kids of a slice of two
pub two_kids : (texts : List (List ℕ)) (ks : List HeldValue) (a b : HeldValue) → 2 ≤ length ks → length ks < 3
    → kids_of (map (value_at texts) ks) ≡ Two (value_at texts (slice_index_or ks 0 a)) (value_at texts (slice_index_or ks 1 b))
two_kids texts [] a b l m = absurd (omega (arith, l))
two_kids texts (x ∷ []) a b l m = absurd (omega (arith, l))
two_kids texts (x ∷ y ∷ []) a b l m = refl
two_kids texts (x ∷ y ∷ z ∷ ks) a b l m = absurd (omega (arith, m))

-- the kids of a slice of three
pub three_kids : (texts : List (List ℕ)) (ks : List HeldValue) (a b d : HeldValue) → 3 ≤ length ks → length ks < 4
    → kids_of (map (value_at texts) ks) ≡ Three (value_at texts (slice_index_or ks 0 a)) (value_at texts (slice_index_or ks 1 b))
    (value_at texts (slice_index_or ks 2 d))
three_kids texts [] a b d l m = absurd (omega (arith, l))
three_kids texts (x ∷ []) a b d l m = absurd (omega (arith, l))
three_kids texts (x ∷ y ∷ []) a b d l m = absurd (omega (arith, l))
three_kids texts (x ∷ y ∷ z ∷ []) a b d l m = refl
three_kids texts (x ∷ y ∷ z ∷ w ∷ ks) a b d l m = absurd (omega (arith, m))

-- the kids of a slice of four
pub four_kids : (texts : List (List ℕ)) (ks : List HeldValue) (a b d e : HeldValue) → 4 ≤ length ks → length ks < 5
    → kids_of (map (value_at texts) ks) ≡ Four (value_at texts (slice_index_or ks 0 a)) (value_at texts (slice_index_or ks 1 b))
    (value_at texts (slice_index_or ks 2 d)) (value_at texts (slice_index_or ks 3 e))
four_kids texts [] a b d e l m = absurd (omega (arith, l))
four_kids texts (x ∷ []) a b d e l m = absurd (omega (arith, l))
four_kids texts (x ∷ y ∷ []) a b d e l m = absurd (omega (arith, l))
four_kids texts (x ∷ y ∷ z ∷ []) a b d e l m = absurd (omega (arith, l))
four_kids texts (x ∷ y ∷ z ∷ w ∷ []) a b d e l m = refl
four_kids texts (x ∷ y ∷ z ∷ w ∷ v ∷ ks) a b d e l m = absurd (omega (arith, m))

-- the kids of a slice of five
pub five_kids : (texts : List (List ℕ)) (ks : List HeldValue) (a b d e f : HeldValue) → 5 ≤ length ks → length ks < 6
    → kids_of (map (value_at texts) ks) ≡ Five (value_at texts (slice_index_or ks 0 a)) (value_at texts (slice_index_or ks 1 b))
    (value_at texts (slice_index_or ks 2 d)) (value_at texts (slice_index_or ks 3 e)) (value_at texts (slice_index_or ks 4 f))
five_kids texts [] a b d e f l m = absurd (omega (arith, l))
five_kids texts (x ∷ []) a b d e f l m = absurd (omega (arith, l))
five_kids texts (x ∷ y ∷ []) a b d e f l m = absurd (omega (arith, l))
five_kids texts (x ∷ y ∷ z ∷ []) a b d e f l m = absurd (omega (arith, l))
five_kids texts (x ∷ y ∷ z ∷ w ∷ []) a b d e f l m = absurd (omega (arith, l))
five_kids texts (x ∷ y ∷ z ∷ w ∷ v ∷ []) a b d e f l m = refl
five_kids texts (x ∷ y ∷ z ∷ w ∷ v ∷ u ∷ ks) a b d e f l m = absurd (omega (arith, m))
