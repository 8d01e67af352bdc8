-- What a plain instruction of linear code did where it went on.
use Rattle.std.proofs.Common.{◌≡◌, ℕ, Option, Some, None, refl}
use Rattle.vg_meaning.specs.Outside.{Outside}
use Rattle.vg_lin.specs.Steps.{Went, Goes, Fails}
use Rattle.vg_lin.specs.State.{State, using}

abbrev pub IsMade : Went State → State → Outside → Type 0
IsMade w s o = w ≡ Goes s o

pub same_state : (s t : State) (o p : Outside) → Goes s o ≡ Goes t p → s ≡ t
same_state s t o p e = cc

pub same_outside : (s t : State) (o p : Outside) → Goes s o ≡ Goes t p → o ≡ p
same_outside s t o p e = cc

pub used : (v : Option ℕ) (go : ℕ → Went State) (s : State) (o : Outside) → IsMade (using v go) s o → (x : ℕ) × ((v ≡ Some x) × IsMade (go x) s o)
used (Some x) go s o e = (x, (refl, e))
used None go s o e = absurd (let clash : Fails ≡ Goes s o = e in cc)

pub some_same : (a b : ℕ) → Some a ≡ Some b → a ≡ b
some_same a b e = cc
