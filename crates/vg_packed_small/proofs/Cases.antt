-- The numbers of the cases of dispatches have two bytes.
use Rattle.std.proofs.Common.{◌≡◌, refl, ap, ◌∙◌, arith, ℕ, suc, ◌+◌, ◌-◌, ◌<◌, ◌≤◌, ◌==◌, ◌||◌, not, Bool, true, false}
use Rattle.std.proofs.Common.{List, [], ◌∷◌, ◌++◌, length, map, get_or, Option, Some, None, slice_get, if◌then◌else◌}
use Rattle.std.proofs.lemmas.Option.{slice_get_within}
use Rattle.vg_codes.specs.declared.case.Case.{Case}
use Rattle.vg_core.specs.declared.program.Class.{Class}
use Rattle.vg_core.specs.declared.program.Tables.{Tables}
use Rattle.vg_core.specs.Heap.{Kind}
use Rattle.vg_core.specs.Tables.{is_below}
use Rattle.vg_numbers.specs.Numbers.{AreChains, first}
use Rattle.vg_numbers.proofs.Numbers.{few}
use Rattle.vg_number.specs.declared.numbers.Numbers.{Numbers}
use Rattle.vg_number.specs.Counting.{AreOwn}
use Rattle.vg_number.specs.Numbering.{IsNumbering}
use Rattle.vg_number.proofs.Own.{number_own}
use Rattle.vg_pack_code.specs.declared.plan.Asked.{Asked}
use Rattle.vg_pack_code.specs.declared.plan.Plan.{Plan}
use Rattle.vg_pack_code.specs.Plans.{first_in, first_by}
use Rattle.vg_pack_calls.specs.Cases.{procedure_in, case_with, case_of, cases_from, cases_of}
use Rattle.vg_packed.proofs.Own.{own_there}
use Rattle.vg_packed_small.specs.Small.{AreSmall, AreAllSmall}

small_both : (xs ys : List Case) → AreSmall xs → AreSmall ys → AreSmall (xs ++ ys)
small_both [] ys h g = g
small_both (x ∷ xs) ys (a, h) g = (a, small_both xs ys h g)

module _ (p : Tables) (chains : AreChains p) (κ : List Kind) (kept : ℕ → Bool) (n : Numbers) (numbers : IsNumbering p κ kept n)
    (few_cells : length κ ≤ 60000) (own : List ℕ) (counts : AreOwn κ kept (length p.classes) own) (x : Plan) where
  -- the last object of a class has the last of its numbers
  last : (d : ℕ) (k : Class) → slice_get p.classes d ≡ Some k → 0 < get_or own d 0 → first_by n.spans d + get_or own d 0 ≤ 60001
  last d k e some =
      let lt = slice_get_within p.classes d k e in
      let f : first_by n.spans d ≡ first p κ kept d = ap first_in (numbers.spans d lt) in
      let c = counts.counts d lt in
      let o = own_there d kept 0 κ (get_or own d 0 - 1) (omega (arith, some, c)) in
      let b = o.before in
      let ks : kept o.cell ≡ true = ap kept (omega arith) ∙ o.kept_ in
      let s = number_own p chains κ kept o.cell d k e o.is ks in
      let w = few p κ kept o.cell in omega (arith, f, c, b, s, w, some, few_cells)

  case_small : (a : Asked) (d : ℕ) (k : Class) → slice_get p.classes d ≡ Some k → AreSmall (case_of p n x own a d)
  case_small a d k e = by (get_or own d 0 == 0) refl (is_below p d a.class) (procedure_in p x d a.selector)
    where
      by : (b : Bool) → (get_or own d 0 == 0) ≡ b → (c : Bool) (o : Option ℕ)
          → AreSmall (if b || not c then [] else case_with (first_by n.spans d) (get_or own d 0) o)
      by true q c o = tt
      by false q false o = tt
      by false q true None = tt
      by false q true (Some r) =
          let some : 0 < get_or own d 0 = grind (arith, q) in
          let l = last d k e some in
          (record { first = omega (arith, l); count = omega (arith, l); last = omega (arith, l) }, tt)

  cases_small : (a : Asked) (c : ℕ) (ks : List Class) → ((j : ℕ) (k : Class) → slice_get ks j ≡ Some k → slice_get p.classes (c + j) ≡ Some k)
      → AreSmall (cases_from p n x own a c ks)
  cases_small a c [] there = tt
  cases_small a c (k ∷ ks) there =
      small_both (case_of p n x own a c) (cases_from p n x own a (suc c) ks)
      (case_small a c k (ap (slice_get p.classes) (same c) ∙ there 0 k refl))
      (cases_small a (suc c) ks (λ j y e. ap (slice_get p.classes) (next c j) ∙ there (suc j) y e))
    where
      same : (i : ℕ) → i ≡ i + 0
      same i = omega arith

      next : (i j : ℕ) → suc i + j ≡ i + suc j
      next i j = omega arith

  pub all_small : (asked : List Asked) → AreAllSmall (map (cases_of p n x own) asked)
  all_small [] = tt
  all_small (a ∷ asked) = (cases_small a 0 p.classes (λ j k e. ap (slice_get p.classes) (begins j) ∙ e), all_small asked)
    where
      begins : (j : ℕ) → 0 + j ≡ j
      begins j = omega arith
