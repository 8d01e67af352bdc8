-- Locals that get a value.
use Rattle.std.specs.Prelude.{ℕ, zero, suc, ◌<◌, ◌≤◌, List, [], ◌∷◌, length, get_or, set, Some}
use Rattle.std.proofs.Common.{◌≡◌, refl, ap, arith}
use Rattle.vg_lin.specs.Values.{low}
use Rattle.vg_lin.specs.State.{LocalState, with_local}

-- It with a value.
abbrev pub given : LocalState → ℕ → LocalState
given l x = record { width = l.width; value = Some (low l.width x) }

pub there : (ls : List LocalState) (place x : ℕ) (l : LocalState) → place < length ls → l ≡ get_or ls place l → set ls place (given l x) ≡ with_local ls place x
there [] place x l h e = absurd (omega (arith, h))
there (k ∷ ks) zero x l h e = ap (λ m. given m x ∷ ks) e
there (k ∷ ks) (suc place) x l h e = ap (λ ms. k ∷ ms) (there ks place x l (omega (arith, h)) e)

pub nowhere : (ls : List LocalState) (place x : ℕ) → length ls ≤ place → ls ≡ with_local ls place x
nowhere [] place x h = refl
nowhere (k ∷ ks) zero x h = absurd (omega (arith, h))
nowhere (k ∷ ks) (suc place) x h = ap (λ ms. k ∷ ms) (nowhere ks place x (omega (arith, h)))
