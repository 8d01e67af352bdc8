-- What frames come to is paid by costs.
use Rattle.std.specs.Prelude.{ℕ, zero, suc, ◌+◌, ◌≤◌, max, List, [], ◌∷◌}
use Rattle.std.proofs.Common.{◌≡◌, ◌⊎◌, inl, inr, refl, ap, arith}
use Rattle.vg_meaning.specs.History.{Active, Calling, Making}
use Rattle.vg_source.specs.Peak.{cost_of, call_cost, total_cost, most}
use Rattle.vg_open_calls.specs.Noted.{IsAmong, IsNoted}
use Rattle.vg_frame_costs.specs.Fitting.{ArePaid}

pub among_most : (cs : List ℕ) (calls : List Active) (rows : List (List Active)) → IsAmong calls rows → total_cost cs calls ≤ most cs rows
among_most cs calls [] h = absurd h
among_most cs calls (row ∷ rows) (inl e) = let same = ap (total_cost cs) e in omega (arith, same)
among_most cs calls (row ∷ rows) (inr h) = let rest = among_most cs calls rows h in omega (arith, rest)

pub noted_most : (cs : List ℕ) (calls : List Active) (rows : List (List Active)) → IsNoted calls rows → total_cost cs calls ≤ most cs rows
noted_most cs calls rows (inl e) = let same = ap (total_cost cs) e in omega (arith, same)
noted_most cs calls rows (inr h) = among_most cs calls rows h

-- A sum of frames is nothing, or it is paid with what lies beside it.
abbrev Paid : (beside extra frames costs : ℕ) → Type 0
Paid b x f c = (f ≤ c) × ((f ≡ 0) ⊎ (f + b ≤ x + c))

nothing : (b x c : ℕ) → Paid b x 0 c
nothing b x c = (omega arith, inl refl)

both_paid : (b x f c g d : ℕ) → Paid b x f c → Paid b x g d → Paid b x (f + g) (c + d)
both_paid b x f c g d (le, inl e) (more, inl h) = (omega (arith, le, more), inl (omega (arith, e, h)))
both_paid b x f c g d (le, inl e) (more, inr h) = (omega (arith, le, more), inr (omega (arith, e, h)))
both_paid b x f c g d (le, inr e) (more, h) = (omega (arith, le, more), inr (omega (arith, e, more)))

larger_paid : (b x f c g d : ℕ) → Paid b x f c → Paid b x g d → Paid b x (max f g) (max c d)
larger_paid b x f c g d (le, inl e) (more, inl h) = (omega (arith, le, more), inl (omega (arith, e, h)))
larger_paid b x f c g d (le, inl e) (more, inr h) = (omega (arith, le, more), inr (omega (arith, e, h)))
larger_paid b x f c g d (le, inr e) (more, inl h) = (omega (arith, le, more), inr (omega (arith, e, h)))
larger_paid b x f c g d (le, inr e) (more, inr h) = (omega (arith, le, more), inr (omega (arith, e, h)))

module _ (b x : ℕ) where
  paid_at : (fs cs : List ℕ) → ArePaid b x fs cs → (n : ℕ) → Paid b x (cost_of fs n) (cost_of cs n)
  paid_at [] cs h n = nothing b x (cost_of cs n)
  paid_at (f ∷ fs) [] h n = absurd h
  paid_at (f ∷ fs) (c ∷ cs) (le, paid, rest) zero = (le, inr paid)
  paid_at (f ∷ fs) (c ∷ cs) (le, paid, rest) (suc n) = paid_at fs cs rest n

  module _ (fs cs : List ℕ) (paid : ArePaid b x fs cs) where
    call_paid : (call : Active) → Paid b x (call_cost fs call) (call_cost cs call)
    call_paid (Calling method) = paid_at fs cs paid method
    call_paid Making = nothing b x 0

    row_paid : (calls : List Active) → Paid b x (total_cost fs calls) (total_cost cs calls)
    row_paid [] = nothing b x 0
    row_paid (call ∷ calls) = both_paid b x _ _ _ _ (call_paid call) (row_paid calls)

    most_paid : (rows : List (List Active)) → Paid b x (most fs rows) (most cs rows)
    most_paid [] = nothing b x 0
    most_paid (row ∷ rows) = larger_paid b x _ _ _ _ (row_paid row) (most_paid rows)

    -- where a call of a method was noted that has a frame, what lies beside frames is paid
    pub all_paid : (method : ℕ) (rows : List (List Active)) → 1 ≤ cost_of fs method → IsAmong (Calling method ∷ []) rows
        → most fs rows + b ≤ x + most cs rows
    all_paid method rows some noted = by (most_paid rows) (among_most fs (Calling method ∷ []) rows noted)
      where
        by : Paid b x (most fs rows) (most cs rows) → total_cost fs (Calling method ∷ []) ≤ most fs rows → most fs rows + b ≤ x + most cs rows
        by (le, inl e) least = absurd (omega (arith, e, least, some))
        by (le, inr h) least = h
