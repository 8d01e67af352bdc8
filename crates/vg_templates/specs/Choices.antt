-- Which cases of a dispatch are tried: one procedure stands where no test holds, so that its cases need none.
use Rattle.std.specs.Prelude.{ℕ, zero, suc, ◌+◌, ◌==◌, Bool, true, ◌&&◌, ◌||◌, nat_lt, nat_le, if◌then◌else◌, List, [], ◌∷◌}
use Rattle.vg_codes.specs.declared.case.Case.{Case}
use Rattle.vg_codes.specs.Dispatch.{is_within}

-- how many cases have a procedure
abbrev pub count_of : (procedure : ℕ) → List Case → ℕ
count_of p [] = zero
count_of p (c ∷ cs) = if c.procedure == p then suc (count_of p cs) else count_of p cs

-- of a procedure and those of some cases the first one that most of all cases have
abbrev pub most_in : (all : List Case) → (procedure : ℕ) → List Case → ℕ
most_in all p [] = p
most_in all p (c ∷ cs) = most_in all (if nat_lt (count_of p all) (count_of c.procedure all) then c.procedure else p) cs

-- the procedure that stands where no test holds; 0 where there are no cases
abbrev pub usual : List Case → ℕ
usual [] = zero
usual (c ∷ cs) = most_in (c ∷ cs) c.procedure cs

-- two cases that share no number
abbrev pub are_apart : Case → Case → Bool
are_apart c d = nat_le (c.first + c.count) d.first || nat_le (d.first + d.count) c.first

-- a case that shares no number with those behind it that have another procedure than this one
abbrev pub is_alone : (procedure : ℕ) → Case → List Case → Bool
is_alone p c [] = true
is_alone p c (d ∷ ds) = ((d.procedure == p) || are_apart c d) && is_alone p c ds

-- the cases that are tried
abbrev pub unusual : (procedure : ℕ) → List Case → List Case
unusual p [] = []
unusual p (c ∷ cs) = if (c.procedure == p) && is_alone p c cs then unusual p cs else c ∷ unusual p cs

-- the procedure that some cases choose for a number, where this one stands for all others
abbrev pub chosen : (procedure : ℕ) → List Case → (n : ℕ) → ℕ
chosen p [] n = p
chosen p (c ∷ cs) n = if is_within c.first c.count n then c.procedure else chosen p cs n
