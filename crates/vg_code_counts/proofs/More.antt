-- Room for more values does no harm.
use Rattle.std.proofs.Common.{◌≤◌, ◌+◌, ℕ, Bool, true, inl, inr, arith}
use Rattle.vg_meaning.specs.Code.{Code, Nothing, Then, Do, If, Loop, Break, Continue, Return}
use Rattle.vg_code_counts.specs.Counted.{Measures, Counts, Counted}

module _ {P : Type 0} (k : Measures P) (most more : ℕ) (l : most ≤ more) where
  step_more : (below : ℕ) (p : P) (x y : ℕ) → Counts k most below p x y → Counts k more below p x y
  step_more below p x y h =
      record { rest = h.rest; before = h.before; behind = h.behind; room = let r = h.room in omega (arith, l, r); alone = h.alone }

  room_more : (n : ℕ) → n ≤ most → n ≤ more
  room_more n h = omega (arith, l, h)

  code_more : (c : Code P) (looped : Bool) (below x y : ℕ) → Counted k most looped below c x y → Counted k more looped below c x y
  code_more Nothing looped below x y h = h
  code_more (Then a b) looped below x y (z, f, g) = (z, code_more a looped below x z f, code_more b looped below z y g)
  code_more (Do p) looped below x y h = step_more below p x y h
  code_more (If a b) looped below x y (z, e, r, inl (i, j, f, g)) =
      (z, e, room_more (below + x + 1) r, inl (i, j, code_more a looped 0 0 0 f, code_more b looped 0 0 0 g))
  code_more (If a b) looped below x y (z, e, r, inr (i, f, g)) =
      (z, e, room_more (below + x + 1) r, inr (i, code_more a looped (below + z) 0 1 f, code_more b looped (below + z) 0 1 g))
  code_more (Loop c body next) looped below x y (i, j, f, g, h) =
      (i, j, code_more c looped 0 0 1 f, code_more body true 0 0 0 g, code_more next looped 0 0 0 h)
  code_more Break looped below x y h = h
  code_more Continue looped below x y h = h
  code_more Return looped below x y h = h

pub counted_more : {P : Type 0} (k : Measures P) (c : Code P) (most more : ℕ) (looped : Bool) (below x y : ℕ) → most ≤ more
    → Counted k most looped below c x y → Counted k more looped below c x y
counted_more k c most more looped below x y l h = code_more k most more l c looped below x y h
