-- Which cells have a number.
use Rattle.std.proofs.Common.{◌≡◌, refl, sym, ap, subst, ◌∙◌, arith, ℕ, ◌<◌, Bool, true, false, List, length, get_or, is_some}
use Rattle.std.proofs.Common.{Option, Some, None, slice_get}
use Rattle.std.proofs.lemmas.List.{length-map}
use Rattle.std.proofs.lemmas.Option.{slice_get_within}
use Rattle.vg_core.specs.declared.heap.Heap.{Heap}
use Rattle.vg_core.specs.declared.member.Member.TheVariants.{Cell}
use Rattle.vg_core.specs.declared.program.Tables.{Tables}
use Rattle.vg_core.specs.Heap.{Kind, ObjectOf, ArrayOf, kind_of}
use Rattle.vg_core.specs.Program.{Program}
use Rattle.vg_live.specs.declared.live_set.LiveSet.{LiveSet}
use Rattle.vg_live.specs.declared.live_set.Reason.{Reason}
use Rattle.vg_live.specs.Rules.{Live}
use Rattle.vg_live.specs.Sets.{flat, reason_of, IsLiveSet}
use Rattle.vg_numbers.specs.Numbers.{numbered, number}
use Rattle.vg_number.specs.declared.numbers.Numbers.{Numbers}
use Rattle.vg_number.specs.Numbering.{kept_in, kinds_of, IsNumbering}
use Rattle.vg_packed.proofs.Receivers.{slot_there}
use Rattle.vg_packed.proofs.CountedLayouts.{number_is}

-- a member with a reason is in the set
pub there_is : (o : Option Reason) → is_some o ≡ true → (r : Reason) × (o ≡ Some r)
there_is None e = absurd (let clash : false ≡ true = e in cc)
there_is (Some r) e = (r, refl)

-- a reason stands at a place of its row
pub reason_there : (rs : List (Option Reason)) (m : ℕ) (r : Reason) → flat (slice_get rs m) ≡ Some r → m < length rs
reason_there rs m r e = by (slice_get rs m) refl e
  where
    by : (o : Option (Option Reason)) → slice_get rs m ≡ o → flat o ≡ Some r → m < length rs
    by None q h = absurd (let clash : None ≡ Some r = h in cc)
    by (Some a) q h = slice_get_within rs m a q

-- what has a number is kept
kept_of : (p : Tables) (κ : List Kind) (kept : ℕ → Bool) (j : ℕ) → 0 < number p κ kept j → kept j ≡ true
kept_of p κ kept j h = by (kept j) refl h
  where
    by : (b : Bool) → kept j ≡ b → 0 < numbered p κ kept j b (slice_get κ j) → kept j ≡ true
    by true e g = e
    by false e g = absurd (omega (arith, g))

-- and what is kept has one
number_of : (p : Tables) (κ : List Kind) (kept : ℕ → Bool) (j : ℕ) (a : Kind) → slice_get κ j ≡ Some a → kept j ≡ true → 0 < number p κ kept j
number_of p κ kept j a e ks =
    subst (λ n. 0 < n) (sym (ap (λ b. numbered p κ kept j b (slice_get κ j)) ks ∙ ap (numbered p κ kept j true) e)) (by a)
  where
    by : (k : Kind) → 0 < numbered p κ kept j true (Some k)
    by (ObjectOf c) = omega arith
    by (ArrayOf t n) = omega arith

module _ (p : Program) (h : Heap) (s : LiveSet) (set : IsLiveSet p h s) where
  pub kept_live : (j : ℕ) → kept_in s j ≡ true → Live p h (Some (Cell j))
  kept_live j e = set.live (Cell j) (there_is (reason_of s (Cell j)) e)

  pub live_kept : (j : ℕ) → Live p h (Some (Cell j)) → kept_in s j ≡ true
  live_kept j l = ap is_some (set.all (Cell j) l).1

  module _ (n : Numbers) (is : IsNumbering p.tables (kinds_of h) (kept_in s) n) where
    pub have : (j : ℕ) → Live p h (Some (Cell j)) → 0 < get_or n.of_cell j 0
    have j l =
        let r = set.all (Cell j) l in
        let lt = reason_there s.cells j r.0 r.1 in let a = set.cells in let b = length-map h.cells kind_of in
        let k = slot_there (kinds_of h) j (omega (arith, lt, a, b)) in
        let g = number_of p.tables (kinds_of h) (kept_in s) j k.0 k.1 (live_kept j l) in
        let e = number_is p.tables (kinds_of h) (kept_in s) n is j in omega (arith, g, e)

    pub alone : (j : ℕ) → 0 < get_or n.of_cell j 0 → Live p h (Some (Cell j))
    alone j g =
        kept_live j
        (kept_of p.tables (kinds_of h) (kept_in s) j (let e = number_is p.tables (kinds_of h) (kept_in s) n is j in omega (arith, g, e)))
