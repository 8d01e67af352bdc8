-- Where an element of an array stands.
use Rattle.std.specs.Prelude.{ℕ, ◌+◌, ◌-◌, ◌*◌, ◌/◌, ◌%◌, ◌<◌, ◌≤◌, true, List, length, Some, slice_get}
use Rattle.std.proofs.Common.{◌≡◌, sym, ap, ◌∙◌, subst, arith}
use Rattle.std.proofs.Math.Nat.{mul_comm, mul-add, mod-add-div}
use Rattle.std.proofs.lemmas.Option.{slice_get_within}
use Rattle.vg_firm.specs.declared.step.ArrayPlace.{ArrayPlace}
use Rattle.vg_firm.specs.declared.step.Elements.{Elements}
use Rattle.vg_lin.specs.declared.instr.Memory.{Memory}
use Rattle.vg_lin.specs.State.{first_address}
use Rattle.vg_flatten_shapes.specs.declared.layout.Place.{Place}
use Rattle.vg_flatten_places.specs.Places.{is_width}
use Rattle.vg_flatten.specs.Columns.{ColumnStands}
use Rattle.vg_flattened.proofs.ColumnRight.{width_low, entry_within}

-- The elements of an array stand in the column of its type, a whole number of them behind its first.
pub whole_behind : (address first w i : ℕ) → first ≤ address → (address - first) % w ≡ 0 → w * ((address - first) / w + i) ≡ address - first + w * i
whole_behind address first w i le e =
    mul-add w ((address - first) / w) i ∙ ap (λ z. z + w * i) (sym (from_zero ((address - first) % w) (w * ((address - first) / w)) e)
    ∙ mod-add-div (address - first) w)
  where
    from_zero : (a b : ℕ) → a ≡ 0 → a + b ≡ b
    from_zero a b e1 = omega (arith, e1)

-- over plain numbers: d is how far the array is behind the column, t how far the element is behind the array
pub sum_small : (address first t all : ℕ) → first ≤ address → first + all ≤ 65536 → address - first + t < all → address + t < 65536
sum_small address first t all h1 h2 h3 = omega (arith, h1, h2, h3)

pub times_small : (d t all first : ℕ) → first + all ≤ 65536 → d + t < all → t < 65536
times_small d t all first h1 h2 = omega (arith, h1, h2)

pub sum_behind : (low' address first t : ℕ) → low' ≤ first → first ≤ address → low' ≤ 0 + (address + t)
sum_behind low' address first t h1 h2 = omega (arith, h1, h2)

pub sum_is : (low' address first t : ℕ) → low' ≤ first → first ≤ address → 0 + (address + t) - low' ≡ first - low' + (address - first + t)
sum_is low' address first t h1 h2 = omega (arith, h1, h2)

pub none_before : (n : ℕ) → 0 + n ≡ n
none_before n = omega arith

-- An element of an array that stands in the column of its type: how far it is behind the array, and where it is among the bytes of the column.
pub record IsThere (memory : Memory) (e : Elements) (a : ArrayPlace) (place : Place) (x : ℕ) : Type 0 where
  pub few : x * e.width < 65536
  pub behind : first_address memory ≤ a.address + x * e.width
  pub index : a.address + x * e.width - first_address memory
      ≡ place.address - first_address memory + place.width * ((a.address - e.address) / e.width + x)

module _ (memory : Memory) (bytes : List ℕ) (e : Elements) (a : ArrayPlace) (place : Place) (us : List ℕ) (x v : ℕ) (stands : ColumnStands memory bytes place us)
    (same_address : e.address ≡ place.address) (same_width : e.width ≡ place.width) (is : is_width e.width ≡ true) (low' : e.address ≤ a.address)
    (whole : (a.address - e.address) % e.width ≡ 0) (held : slice_get us ((a.address - e.address) / e.width + x) ≡ Some v) where
  abbrev place_index : ℕ
  place_index = (a.address - e.address) / e.width + x

  c_behind : first_address memory ≤ e.address
  c_behind = subst (λ z. first_address memory ≤ z) (sym same_address) stands.behind

  within : e.width * place_index < e.width * length us
  within = entry_within e.width place_index (length us) (width_low e.width is) (slice_get_within us place_index v held)

  all_short : e.address + e.width * length us ≤ 65536
  all_short =
      subst (λ z. z + e.width * length us ≤ 65536) (sym same_address) (subst (λ z. place.address + z * length us ≤ 65536) (sym same_width) stands.short)

  behind_array : e.width * place_index ≡ a.address - e.address + x * e.width
  behind_array = whole_behind a.address e.address e.width x low' whole ∙ ap (λ z. a.address - e.address + z) (sym (mul_comm x e.width))

  at_most : a.address - e.address + x * e.width < e.width * length us
  at_most = subst (λ z. z < e.width * length us) behind_array within

  pub element_there : IsThere memory e a place x
  element_there = record {
    few = times_small (a.address - e.address) (x * e.width) (e.width * length us) e.address all_short at_most;
    behind = subst (λ z. first_address memory ≤ z) (none_before (a.address + x * e.width))
        (sum_behind (first_address memory) a.address e.address (x * e.width) c_behind low');
    index = ap (λ z. z - first_address memory) (sym (none_before (a.address + x * e.width)))
        ∙ (sum_is (first_address memory) a.address e.address (x * e.width) c_behind low'
        ∙ (ap (λ z. e.address - first_address memory + z) (sym behind_array)
        ∙ (ap (λ z. z - first_address memory + e.width * place_index) same_address
        ∙ ap (λ z. place.address - first_address memory + z * place_index) same_width)));
  }
