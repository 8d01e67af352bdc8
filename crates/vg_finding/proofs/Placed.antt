-- Where procedures stand that call finders: each under its number, and the finders behind all of them; and what stands at a place of their code.
use Rattle.std.specs.Prelude.{ℕ, zero, suc, ◌+◌, ◌<◌, ◌≤◌, List, [], ◌∷◌, ◌++◌, length, map, Option, Some, slice_get}
use Rattle.std.specs.Option.{option_map}
use Rattle.std.proofs.Common.{◌≡◌, refl, ap, ◌∙◌, arith}
use Rattle.std.proofs.lemmas.Option.{slice_get-map, same_Some, none-some}
use Rattle.vg_lin.specs.Program.{Procedure}
use Rattle.vg_lin.specs.Meaning.{codes_in}
use Rattle.vg_lin.specs.Steps.{fetch}
use Rattle.vg_finding.specs.Finders.{finder, with_finders}

-- there is a procedure with this number
abbrev pub Has : List Procedure → ℕ → Type 0
Has ps q = (m : Procedure) × (slice_get ps q ≡ Some m)

pub has_within : (ps : List Procedure) (q : ℕ) → q < length ps → Has ps q
has_within [] q h = absurd (omega (arith, h))
has_within (k ∷ ps) zero h = (k, refl)
has_within (k ∷ ps) (suc q) h = has_within ps q (omega (arith, h))

-- a procedure stands under its number
pub found_at : (numbers : List (Option ℕ)) (old fs : List Procedure) (q : ℕ) (m : Procedure) → slice_get old q ≡ Some m
    → slice_get (map (with_finders numbers) old ++ fs) q ≡ Some (with_finders numbers m)
found_at numbers [] fs q m e = absurd (none-some m e)
found_at numbers (k ∷ old) fs zero m e = ap (λ z. Some (with_finders numbers z)) (same_Some k m e)
found_at numbers (k ∷ old) fs (suc q) m e = found_at numbers old fs q m e

-- what stands behind all of them
behind : (numbers : List (Option ℕ)) (old fs : List Procedure) (n i : ℕ) → n ≡ length old + i
    → slice_get (map (with_finders numbers) old ++ fs) n ≡ slice_get fs i
behind numbers [] fs n i e = let z : n ≡ i = omega (arith, e) in ap (slice_get fs) z
behind numbers (k ∷ old) fs zero i e = absurd (omega (arith, e))
behind numbers (k ∷ old) fs (suc n) i e = behind numbers old fs n i (omega (arith, e))

-- a finder stands behind all of them, at its place among finders
pub finder_at : (numbers : List (Option ℕ)) (old : List Procedure) (finders : List ℕ) (i e : ℕ) → slice_get finders i ≡ Some e
    → slice_get (map (with_finders numbers) old ++ map finder finders) (length old + i) ≡ Some (finder e)
finder_at numbers old finders i e h =
    behind numbers old (map finder finders) (length old + i) i refl ∙ slice_get-map finder finders i ∙ ap (option_map finder) h

-- they are no fewer than before
pub all_long : (numbers : List (Option ℕ)) (old fs : List Procedure) → length old ≤ length (map (with_finders numbers) old ++ fs)
all_long numbers [] fs = omega arith
all_long numbers (k ∷ old) fs = let h = all_long numbers old fs in omega (arith, h)

-- the instructions of a procedure of a program
pub fetch_of : (ps : List Procedure) (q : ℕ) (m : Procedure) → slice_get ps q ≡ Some m → (at : ℕ) → fetch (codes_in ps) q at ≡ slice_get m.code at
fetch_of [] q m e at = absurd (none-some m e)
fetch_of (k ∷ ps) zero m e at = ap (λ z. slice_get z.code at) (same_Some k m e)
fetch_of (k ∷ ps) (suc q) m e at = fetch_of ps q m e at
