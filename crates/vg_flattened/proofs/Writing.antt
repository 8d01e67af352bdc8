-- Bytes in RAM: what a write of a number leaves, and where the columns stand behind a store.
use Rattle.std.specs.Prelude.{ℕ, zero, suc, ◌+◌, ◌-◌, ◌*◌, ◌/◌, ◌%◌, ◌^◌, ◌<◌, ◌≤◌, Bool, true, false, ◌==◌, List, [], ◌∷◌, length, Option, Some, None}
use Rattle.std.specs.Prelude.{slice_get, slice_set}
use Rattle.std.proofs.Common.{◌≡◌, ◌≢◌, ◌⊎◌, inl, inr, refl, sym, ap, ◌∙◌, subst, arith}
use Rattle.std.proofs.Math.Nat.{mod-add-div, mul-le-mul_left}
use Rattle.std.proofs.lemmas.Nat.{div_below}
use Rattle.std.proofs.lemmas.Option.{slice_get_within}
use Rattle.vg_firm.specs.Meaning.{column_of, set_entry}
use Rattle.vg_lin.specs.declared.instr.Memory.TheVariants.{Ram}
use Rattle.vg_lin.specs.State.{joined, number_at, with_number, first_address}
use Rattle.vg_flatten_shapes.specs.declared.layout.Place.{Place}
use Rattle.vg_flatten_shapes.proofs.Temps.{some_is, none_is_not}
use Rattle.vg_flatten.specs.Columns.{ColumnStands, RamStands}

-- ---- lists

found_here : {A : Type 0} (xs : List A) (i : ℕ) (x y : A) → slice_get xs i ≡ Some y → slice_get (slice_set xs i x) i ≡ Some x
found_here [] i x y e = none_is_not y e
found_here (z ∷ xs) zero x y e = refl
found_here (z ∷ xs) (suc i) x y e = found_here xs i x y e

found_elsewhere : {A : Type 0} (xs : List A) (i j : ℕ) (x : A) → j ≢ i → slice_get (slice_set xs i x) j ≡ slice_get xs j
found_elsewhere [] i j x ne = refl
found_elsewhere (y ∷ xs) zero zero x ne = absurd (ne refl)
found_elsewhere (y ∷ xs) zero (suc j) x ne = refl
found_elsewhere (y ∷ xs) (suc i) zero x ne = refl
found_elsewhere (y ∷ xs) (suc i) (suc j) x ne = found_elsewhere xs i j x (λ e. ne (ap suc e))

none_still : {A : Type 0} (xs : List A) (i j : ℕ) (x : A) → slice_get xs j ≡ None → slice_get (slice_set xs i x) j ≡ None
none_still [] i j x e = refl
none_still (y ∷ xs) zero zero x e = none_is_not y (sym e)
none_still (y ∷ xs) zero (suc j) x e = e
none_still (y ∷ xs) (suc i) zero x e = none_is_not y (sym e)
none_still (y ∷ xs) (suc i) (suc j) x e = none_still xs i j x e

same_length : {A : Type 0} (xs : List A) (i : ℕ) (x : A) → length (slice_set xs i x) ≡ length xs
same_length [] i x = refl
same_length (y ∷ xs) zero x = refl
same_length (y ∷ xs) (suc i) x = ap suc (same_length xs i x)

-- ---- numbers of bytes

byte_elsewhere : (bytes : List ℕ) (w j x i : ℕ) → (i < j) ⊎ (j + w ≤ i) → slice_get (with_number bytes w j x) i ≡ slice_get bytes i
byte_elsewhere bytes zero j x i h = refl
byte_elsewhere bytes (suc w) j x i h =
    byte_elsewhere (slice_set bytes j (x % 256)) w (suc j) (x / 256) i (onward h) ∙ found_elsewhere bytes j i (x % 256) (beside h)
  where
    onward : (i < j) ⊎ (j + suc w ≤ i) → (i < suc j) ⊎ (suc j + w ≤ i)
    onward (inl lt) = inl (omega (arith, lt))
    onward (inr le) = inr (omega (arith, le))

    beside : (i < j) ⊎ (j + suc w ≤ i) → i ≢ j
    beside (inl lt) = let ne : i ≢ j = omega (arith, lt) in ne
    beside (inr le) = let ne : i ≢ j = omega (arith, le) in ne

-- a number beside the one that was written
pub number_elsewhere : (bytes : List ℕ) (w j x v i : ℕ) → (i + v ≤ j) ⊎ (j + w ≤ i) → number_at (with_number bytes w j x) v i ≡ number_at bytes v i
number_elsewhere bytes w j x zero i h = refl
number_elsewhere bytes w j x (suc v) i h =
    ap (λ z. joined z (number_at (with_number bytes w j x) v (suc i))) (byte_elsewhere bytes w j x i (first h))
    ∙ ap (joined (slice_get bytes i)) (number_elsewhere bytes w j x v (suc i) (rest h))
  where
    first : (i + suc v ≤ j) ⊎ (j + w ≤ i) → (i < j) ⊎ (j + w ≤ i)
    first (inl le) = inl (omega (arith, le))
    first (inr le) = inr le

    rest : (i + suc v ≤ j) ⊎ (j + w ≤ i) → (suc i + v ≤ j) ⊎ (j + w ≤ suc i)
    rest (inl le) = inl (omega (arith, le))
    rest (inr le) = inr (omega (arith, le))

-- the number that was written
pub number_here : (bytes : List ℕ) (w j x old : ℕ) → number_at bytes w j ≡ Some old → x < 256 ^ w → number_at (with_number bytes w j x) w j ≡ Some x
number_here bytes zero j x old e h = ap Some (nothing x h)
  where
    nothing : (n : ℕ) → n < 256 ^ 0 → 0 ≡ n
    nothing n lt = omega (arith, lt)
number_here bytes (suc w) j x old e h =
    by_parts (λ above i. number_here (slice_set bytes j (x % 256)) w (suc j) (x / 256) above i) (slice_get bytes j) refl (number_at bytes w (suc j)) refl e
  where
    first : List ℕ
    first = slice_set bytes j (x % 256)

    above_small : x / 256 < 256 ^ w
    above_small = div_below x 256 (256 ^ w) (omega arith) (subst (λ z. x < z) (power w) h)
      where
        power : (n : ℕ) → 256 ^ suc n ≡ 256 ^ n * 256
        power n = grind arith

    by_parts : ((above : ℕ) → number_at first w (suc j) ≡ Some above → x / 256 < 256 ^ w
        → number_at (with_number first w (suc j) (x / 256)) w (suc j) ≡ Some (x / 256)) → (a : Option ℕ) → slice_get bytes j ≡ a →
        (b : Option ℕ) → number_at bytes w (suc j) ≡ b → joined a b ≡ Some old
        → number_at (with_number bytes (suc w) j x) (suc w) j ≡ Some x
    by_parts more (Some byte) ea (Some above) eb e1 =
        ap (λ z. joined z (number_at (with_number first w (suc j) (x / 256)) w (suc j)))
        (byte_elsewhere first w (suc j) (x / 256) j (inl (omega arith)) ∙ found_here bytes j (x % 256) byte ea)
        ∙ ap (joined (Some (x % 256))) (more above
        (number_elsewhere bytes 1 j x w (suc j) (inr (omega arith)) ∙ eb) above_small)
        ∙ ap Some (mod-add-div x 256)
    by_parts more (Some byte) ea None eb e1 = none_is_not old e1
    by_parts more None ea b eb e1 = none_is_not old e1

-- ---- columns

-- entries of one column lie side by side
entry_end : (w i n : ℕ) → i < n → w * i + w ≤ w * n
entry_end w i n lt = subst (λ z. z ≤ w * n) (one_more w i) (mul-le-mul_left w (omega (arith, lt)))
  where
    one_more : (a b : ℕ) → a * suc b ≡ a * b + a
    one_more a b = grind arith

beside_in : (base w e i : ℕ) → e ≢ i → (base + w * e + w ≤ base + w * i) ⊎ (base + w * i + w ≤ base + w * e)
beside_in base w e i ne = by_order (side e i ne)
  where
    side : (a b : ℕ) → a ≢ b → (a < b) ⊎ (b < a)
    side zero zero ne1 = absurd (ne1 refl)
    side zero (suc b) ne1 = inl (omega arith)
    side (suc a) zero ne1 = inr (omega arith)
    side (suc a) (suc b) ne1 = onward (side a b (λ h. ne1 (ap suc h)))
      where
        onward : (a < b) ⊎ (b < a) → (suc a < suc b) ⊎ (suc b < suc a)
        onward (inl lt) = inl (omega (arith, lt))
        onward (inr lt) = inr (omega (arith, lt))

    by_order : (e < i) ⊎ (i < e) → (base + w * e + w ≤ base + w * i) ⊎ (base + w * i + w ≤ base + w * e)
    by_order (inl lt) = let le = entry_end w e i lt in inl (omega (arith, le))
    by_order (inr lt) = let le = entry_end w i e lt in inr (omega (arith, le))

-- entries of two columns that share no byte, over plain numbers
beside_other : (low' a b p q ends endq wp wq : ℕ) → low' ≤ a → low' ≤ b → p + wp ≤ ends → q + wq ≤ endq → (a + ends ≤ b) ⊎ (b + endq ≤ a)
    → (b - low' + q + wq ≤ a - low' + p) ⊎ (a - low' + p + wp ≤ b - low' + q)
beside_other low' a b p q ends endq wp wq ha hb hp hq (inl le) = inr (omega (arith, ha, hb, hp, hq, le))
beside_other low' a b p q ends endq wp wq ha hb hp hq (inr le) = inl (omega (arith, ha, hb, hp, hq, le))

module _ (places : List Place) (columns : List (List ℕ)) (bytes : List ℕ) (all : RamStands places columns bytes) (c i v old : ℕ) (place : Place)
    (vs : List ℕ) (at : slice_get places c ≡ Some place) (has : slice_get columns c ≡ Some vs) (there : slice_get vs i ≡ Some old)
    (fits : v < 256 ^ place.width) where
  abbrev new_columns : List (List ℕ)
  new_columns = slice_set columns c (slice_set vs i v)

  abbrev index : ℕ
  index = place.address - first_address Ram + place.width * i

  abbrev new_bytes : List ℕ
  new_bytes = with_number bytes place.width index v

  stood : ColumnStands Ram bytes place vs
  stood = all.stands c place vs at has

  -- each column was there before, and as long
  before_it : (d : ℕ) (us : List ℕ) → slice_get new_columns d ≡ Some us → (xs : List ℕ) × (slice_get columns d ≡ Some xs) × (length us ≡ length xs)
  before_it d us e = by_place (d == c) refl
    where
      by_place : (b : Bool) → (d == c) ≡ b → (xs : List ℕ) × (slice_get columns d ≡ Some xs) × (length us ≡ length xs)
      by_place true same =
          let is : d ≡ c = grind arith in
          let here = subst (λ z. slice_get new_columns z ≡ Some us) is e in (
            vs,
            subst (λ z. slice_get columns z ≡ Some vs) (sym is) has,
            ap length (sym (some_is (slice_set vs i v) us (sym (found_here columns c (slice_set vs i v) vs has) ∙ here))) ∙ same_length vs i v,
          )
      by_place false other =
          let ne : d ≢ c = grind arith in (us, sym (found_elsewhere columns c d (slice_set vs i v) ne) ∙ e, refl)

  -- the column that was written
  written : ColumnStands Ram new_bytes place (slice_set vs i v)
  written =
      record {
        counted = same_length vs i v ∙ stood.counted;
        behind = stood.behind;
        short = subst (λ z. place.address + place.width * z ≤ 65536) (sym (same_length vs i v)) stood.short;
        held = λ e u h. by_entry e u h (e == i) refl;
      }
    where
      by_entry : (e u : ℕ) → slice_get (slice_set vs i v) e ≡ Some u → (b : Bool) → (e == i) ≡ b
          → (number_at new_bytes place.width (place.address - first_address Ram + place.width * e) ≡ Some u) × (u < 256 ^ place.width)
      by_entry e u h true same =
          let is : e ≡ i = grind arith in
          let u_is = some_is v u (sym (found_here vs i v old there) ∙ subst (λ z. slice_get (slice_set vs i v) z ≡ Some u) is h) in (
            subst (λ z. number_at new_bytes place.width (place.address - first_address Ram + place.width * z) ≡ Some u) (sym is)
                (number_here bytes place.width index v old (stood.held i old there).0 fits ∙ ap Some u_is),
            subst (λ z. z < 256 ^ place.width) u_is fits,
          )
      by_entry e u h false other =
          let ne : e ≢ i = grind arith in
          let kept = stood.held e u (sym (found_elsewhere vs i e v ne) ∙ h) in (
            number_elsewhere bytes place.width index v place.width (place.address - first_address Ram + place.width * e)
                (beside_in (place.address - first_address Ram) place.width e i ne) ∙ kept.0,
            kept.1,
          )

  -- another column
  untouched : (d : ℕ) (second : Place) (us : List ℕ) → d ≢ c → slice_get places d ≡ Some second → slice_get columns d ≡ Some us
      → ColumnStands Ram new_bytes second us
  untouched d second us ne e h =
      record {
        counted = other.counted;
        behind = other.behind;
        short = other.short;
        held = λ n u hu. (
          number_elsewhere bytes place.width index v second.width (second.address - first_address Ram + second.width * n)
              (beside_other (first_address Ram) place.address second.address (place.width * i) (second.width * n) (place.width * length vs)
              (second.width * length us) place.width second.width stood.behind other.behind
              (entry_end place.width i (length vs) (slice_get_within vs i old there)) (entry_end second.width n (length us) (slice_get_within us n u hu))
              (all.apart c d place second vs us (λ z. ne (sym z)) at has e h)) ∙ (other.held n u hu).0,
          (other.held n u hu).1,
        );
      }
    where
      other : ColumnStands Ram bytes second us
      other = all.stands d second us e h

  stands_on : (d : ℕ) (second : Place) (us : List ℕ) → slice_get places d ≡ Some second → slice_get new_columns d ≡ Some us
      → ColumnStands Ram new_bytes second us
  stands_on d second us e h = by_place (d == c) refl
    where
      by_place : (b : Bool) → (d == c) ≡ b → ColumnStands Ram new_bytes second us
      by_place true same =
          let is : d ≡ c = grind arith in
          let place_is = some_is place second (sym at ∙ subst (λ z. slice_get places z ≡ Some second) is e) in
          let column_is = some_is (slice_set vs i v) us (sym (found_here columns c (slice_set vs i v) vs has)
          ∙ subst (λ z. slice_get new_columns z ≡ Some us) is h) in
          subst (λ z. ColumnStands Ram new_bytes z us) place_is (subst (λ z. ColumnStands Ram new_bytes place z) column_is written)
      by_place false other =
          let ne : d ≢ c = grind arith in untouched d second us ne e (sym (found_elsewhere columns c d (slice_set vs i v) ne) ∙ h)

  -- behind a store all columns stand, with the new value
  stored : RamStands places new_columns new_bytes
  stored =
      record {
        stands = stands_on;
        apart = λ d e first second us xs ne hd cd he ce. still d e first second us xs ne hd he (before_it d us cd) (before_it e xs ce);
        known = λ d e. none_still columns c d (slice_set vs i v) (all.known d e);
      }
    where
      still : (d e : ℕ) (first second : Place) (us xs : List ℕ) → d ≢ e → slice_get places d ≡ Some first → slice_get places e ≡ Some second
          → (ys : List ℕ) × (slice_get columns d ≡ Some ys) × (length us ≡ length ys)
          → (zs : List ℕ) × (slice_get columns e ≡ Some zs) × (length xs ≡ length zs)
          → (first.address + first.width * length us ≤ second.address) ⊎ (second.address + second.width * length xs ≤ first.address)
      still d e first second us xs ne hd he (ys, cd, ld) (zs, ce, le) =
          subst (λ z. (first.address + first.width * z ≤ second.address) ⊎ (second.address + second.width * length xs ≤ first.address)) (sym ld)
          (subst (λ z. (first.address + first.width * length ys ≤ second.address) ⊎ (second.address + second.width * z ≤ first.address)) (sym le)
          (all.apart d e first second ys zs ne hd cd he ce))

  pub ram_behind_store : RamStands places (set_entry columns c i v) new_bytes
  ram_behind_store = subst (λ z. RamStands places (slice_set columns c (slice_set z i v)) new_bytes) (sym (ap column_of has)) stored
