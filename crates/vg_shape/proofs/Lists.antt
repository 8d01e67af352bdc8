-- Lists of numbers, and values beside types.
use Rattle.std.proofs.Common.{◌≡◌, ◌≢◌, ℕ, suc, ◌-◌, Bool, true, false, List, [], ◌∷◌, length, ◌&&◌, Some, refl, ap, ◌∙◌, arith}
use Rattle.std.specs.Prelude.{slice_get}
use Rattle.vg_core.specs.declared.types.CoreType.{CoreType}
use Rattle.vg_core.specs.declared.value.CoreValue.{CoreValue}
use Rattle.vg_core.specs.declared.heap.Cell.{Cell}
use Rattle.vg_core.specs.declared.program.Tables.{Tables}
use Rattle.vg_core.specs.Tables.{last_from, last_of}
use Rattle.vg_core.specs.State.{is_of, are_of}

last_behind : (n : ℕ) (ns : List ℕ) → slice_get (n ∷ ns) (length ns) ≡ Some (last_from n ns)
last_behind n [] = refl
last_behind n (m ∷ ms) = last_behind m ms

-- the last of a list stands at the place before its length
pub last_is : (ns : List ℕ) → slice_get ns (length ns - 1) ≡ last_of ns
last_is [] = refl
last_is (n ∷ ns) = let e : length (n ∷ ns) - 1 ≡ length ns = omega arith in ap (slice_get (n ∷ ns)) e ∙ last_behind n ns

-- fewer or more values than types are not of them
pub apart : (p : Tables) (cells : List Cell) (ts : List CoreType) (vs : List CoreValue) → length ts ≢ length vs → are_of p cells ts vs ≡ false
apart p cells [] [] ne = absurd (ne refl)
apart p cells [] (v ∷ vs) ne = refl
apart p cells (t ∷ ts) [] ne = refl
apart p cells (t ∷ ts) (v ∷ vs) ne = with_first (is_of p cells t v) (apart p cells ts vs (λ e. ne (ap suc e)))
  where
    with_first : (b : Bool) → are_of p cells ts vs ≡ false → (b && are_of p cells ts vs) ≡ false
    with_first true e = e
    with_first false e = refl
