-- That no more values wait in typed code than it has steps.
use Rattle.std.specs.Prelude.{ℕ, ◌+◌, ◌≤◌, Bool, true}
use Rattle.std.proofs.Common.{inl, inr, arith}
use Rattle.vg_meaning.specs.Code.{Code, Nothing, Then, Do, If, Loop, Break, Continue, Return}
use Rattle.vg_firm.specs.declared.step.Step.{Step}
use Rattle.vg_firm_typed.specs.Typed.{Known as Knows, Typed}
use Rattle.vg_flat_taken.specs.Taken.{step_count}
use Rattle.vg_flat_taken.proofs.Rows.{leaves_one}

-- What is known where so many values may wait.
abbrev pub at_most : Knows → ℕ → Knows
at_most k most = record { layout = k.layout; locals = k.locals; most = most }

module _ (k : Knows) where
  -- behind code at most so many more wait than before it
  few_behind : (c : Code Step) (looped : Bool) (below x y : ℕ) → Typed k looped below c x y → y ≤ x + step_count c
  few_behind Nothing looped below x y h = omega (arith, h)
  few_behind (Then a b) looped below x y (z, ha, hb) =
      let first = few_behind a looped below x z ha in let next = few_behind b looped below z y hb in omega (arith, first, next)
  few_behind (Do p) looped below x y l =
      let before = l.before in let after' = l.behind in let one = leaves_one p in omega (arith, before, after', one)
  few_behind (If a b) looped below x y (z, ex, room, inl (e, ey, ha, hb)) = omega (arith, ey)
  few_behind (If a b) looped below x y (z, ex, room, inr (ey, ha, hb)) = omega (arith, ex, ey)
  few_behind (Loop c body next) looped below x y (e, ey, hc, hb, hn) = omega (arith, ey)
  few_behind Break looped below x y (l, e, ey) = omega (arith, ey)
  few_behind Continue looped below x y (l, e, ey) = omega (arith, ey)
  few_behind Return looped below x y (e, ex, ey) = omega (arith, ey)

  pub lowered : (c : Code Step) (looped : Bool) (below x y most : ℕ) → Typed k looped below c x y → below + x + step_count c + 2 ≤ most
      → Typed (at_most k most) looped below c x y
  lowered Nothing looped below x y most h le = h
  lowered (Then a b) looped below x y most (z, ha, hb) le = (
    z,
    lowered a looped below x z most ha (omega (arith, le)),
    lowered b looped below z y most hb (let few = few_behind a looped below x z ha in omega (arith, le, few)),
  )
  lowered (Do p) looped below x y most l le =
      record { rest = l.rest; before = l.before; behind = l.behind; room = omega (arith, le); alone = l.alone; names = l.names }
  lowered (If a b) looped below x y most (z, ex, room, inl (e, ey, ha, hb)) le =
      (z, ex, omega (arith, le), inl (e, ey, lowered a looped 0 0 0 most ha (omega (arith, le)), lowered b looped 0 0 0 most hb (omega (arith, le))))
  lowered (If a b) looped below x y most (z, ex, room, inr (ey, ha, hb)) le = (
    z,
    ex,
    omega (arith, le),
    inr (ey, lowered a looped (below + z) 0 1 most ha (omega (arith, le, ex)), lowered b looped (below + z) 0 1 most hb (omega (arith, le, ex))),
  )
  lowered (Loop c body next) looped below x y most (e, ey, hc, hb, hn) le = (
    e,
    ey,
    lowered c looped 0 0 1 most hc (omega (arith, le)),
    lowered body true 0 0 0 most hb (omega (arith, le)),
    lowered next looped 0 0 0 most hn (omega (arith, le)),
  )
  lowered Break looped below x y most h le = h
  lowered Continue looped below x y most h le = h
  lowered Return looped below x y most h le = h
