-- What the numbers of an entry under all code numbers tell of it.
use Rattle.std.proofs.Common.{◌≡◌, refl, sym, ap, subst, ◌∙◌, arith, ℕ, zero, suc, ◌+◌, ◌*◌, ◌^◌, ◌<◌, ◌==◌, nat_lt, Bool, true, false, List, Option, Some, None}
use Rattle.vg_codes.specs.Codes.{Codes, delegate}
use Rattle.vg_core.specs.declared.types.CoreType.{CoreType}
use Rattle.vg_core.specs.declared.types.CoreType.TheVariants.{FunctionType}
use Rattle.vg_core.specs.declared.value.CoreValue.{CoreValue}
use Rattle.vg_core.specs.declared.value.CoreValue.TheVariants.{Int, Bool as Truth, Char, Raw, Null, Obj, Arr, Bound}
use Rattle.vg_core.specs.declared.heap.Cell.{Cell}
use Rattle.vg_core.specs.declared.program.Tables.{Tables}
use Rattle.vg_core.specs.Heap.{Kind}
use Rattle.vg_core.specs.Types.{HasType, AreKinds}
use Rattle.vg_sound.proofs.Cells.{is_typed}
use Rattle.vg_firm.specs.Meaning.{fits}
use Rattle.vg_coded.specs.Numbers.{Numbering, known, receiver_number, coded}
use Rattle.vg_coded.specs.Widths.{width_of}
use Rattle.vg_coded.specs.Kept.{HasSmallNumbers, IsKept}
use Rattle.vg_coded.proofs.Fitting.{value_fits}
use Rattle.vg_numbers.specs.Numbers.{one_if}
use Rattle.vg_tables.specs.declared.entry.Entry.{Entry}
use Rattle.vg_tables.specs.declared.entry.Entry.TheVariants.{Number, Delegate}
use Rattle.vg_tables.specs.Entries.{number_in}
use Rattle.vg_table_bytes.specs.Rows.{EntryFits}

-- the same code number for all procedures
abbrev same_codes : ℕ → Codes
same_codes c = record { code = λ q. c; at_code = λ a. None }

-- 1 for one procedure, 0 for all others
abbrev code_of_one : ℕ → Codes
code_of_one q = record { code = λ z. one_if (z == q); at_code = λ a. None }

some_bytes : (w : ℕ) → 0 < 256 ^ w
some_bytes zero = omega arith
some_bytes (suc w) = let h = some_bytes w in omega (arith, h)

-- a delegate has more than one number
no_one_number : (q r x : ℕ) → ((k : Codes) → delegate k q r ≡ x) → ⊥
no_one_number q r x f =
    let a : 0 + 65536 * r ≡ x = f (same_codes 0) in let b : 1 + 65536 * r ≡ x = f (same_codes 1) in omega (arith, a, b)

pub nought_fits : (k : Codes) (w : ℕ) (e : Entry) → ((c : Codes) → number_in c e ≡ 0) → EntryFits k w e
nought_fits k w (Number m) f = let a = some_bytes w in let b = f k in omega (arith, a, b)
nought_fits k w (Delegate q r) f = absurd (no_one_number q r 0 f)

-- two delegates that have the same numbers are one
one_procedure : (q r m s : ℕ) → ((k : Codes) → delegate k q r ≡ delegate k m s) → q ≡ m
one_procedure q r m s f = by (m == q) refl (f (code_of_one q))
  where
    own : (q == q) ≡ true
    own = grind arith

    by : (b : Bool) → (m == q) ≡ b → delegate (code_of_one q) q r ≡ delegate (code_of_one q) m s → q ≡ m
    by true e g = grind (arith, e)
    by false e g =
        let a : one_if (q == q) ≡ 1 = ap one_if own in
        let b : one_if (m == q) ≡ 0 = ap one_if e in
        let c : one_if (q == q) + 65536 * r ≡ one_if (m == q) + 65536 * s = g in absurd (omega (arith, a, b, c))

one_receiver : (q r m s : ℕ) → ((k : Codes) → delegate k q r ≡ delegate k m s) → r ≡ s
one_receiver q r m s f = let a : 0 + 65536 * r ≡ 0 + 65536 * s = f (same_codes 0) in omega (arith, a)

module _ (n : Numbering) (k : Codes) (small : HasSmallNumbers n k) (p : Tables) (κ : List Kind) (cells : List Cell) (typed : AreKinds p κ cells κ) where
  receiver_small : (r : Option ℕ) → receiver_number n r < 65536
  receiver_small None = omega arith
  receiver_small (Some j) = small.cells j

  function_wide : (r : Option ℕ) (m : ℕ) (t : CoreType) → HasType p κ (Bound r m) t → width_of t ≡ 4
  function_wide r m (FunctionType ps u) a = refl
  function_wide r m _ a = absurd a

  delegate_told : (v : CoreValue) (t : CoreType) (q r : ℕ) → HasType p κ v t → IsKept n v → ((c : Codes) → delegate c q r ≡ coded n c v)
      → (width_of t ≡ 4) × (k.code q < 65536) × (r < 65536)
  delegate_told (Bound s m) t q r a ((w, ew, bindable), kept) f =
      let o = one_procedure q r (known (n.procedure m)) (receiver_number n s) f in
      let e : q ≡ w = o ∙ ap known ew in
      let x = one_receiver q r (known (n.procedure m)) (receiver_number n s) f in
      let b = receiver_small s in
      (function_wide s m t a, subst (λ z. k.code z < 65536) (sym e) (small.codes m w ew).2, omega (arith, x, b))
  delegate_told (Int z) t q r a kept f = absurd (no_one_number q r _ f)
  delegate_told (Truth z) t q r a kept f = absurd (no_one_number q r _ f)
  delegate_told (Char z) t q r a kept f = absurd (no_one_number q r _ f)
  delegate_told (Raw j z) t q r a kept f = absurd (no_one_number q r _ f)
  delegate_told Null t q r a kept f = absurd (no_one_number q r _ f)
  delegate_told (Obj j) t q r a kept f = absurd (no_one_number q r _ f)
  delegate_told (Arr j) t q r a kept f = absurd (no_one_number q r _ f)

  -- the entry of a value fits where there are as many bytes as its type has
  pub value_entry_fits : (v : CoreValue) (t : CoreType) (w : ℕ) (e : Entry) → HasType p κ v t → IsKept n v → width_of t ≡ w
      → ((c : Codes) → number_in c e ≡ coded n c v) → EntryFits k w e
  value_entry_fits v t w (Number m) a kept ew f =
      let h : fits w m ≡ true =
      subst (λ z. fits z m ≡ true) ew (subst (λ z. fits (width_of t) z ≡ true) (sym (f k)) (value_fits n k small p cells t v (is_typed p κ cells v t typed a) kept)) in
      below m (256 ^ w) h
    where
      below : (x y : ℕ) → nat_lt x y ≡ true → x < y
      below x y e = grind (arith, e)
  value_entry_fits v t w (Delegate q r) a kept ew f =
      let d = delegate_told v t q r a kept f in (sym ew ∙ d.0, d.1, d.2)
