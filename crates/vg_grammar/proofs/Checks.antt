-- What the tables are tested for, part by part: each test computes to true or the check fails at that part.
use Rattle.std.proofs.Common.{ℕ, suc, Bool, true, false, not, ◌&&◌, ◌||◌, ◌==◌, List, [], ◌∷◌, length, Option, Some, None}
use Rattle.std.specs.Prelude.{nat_lt, nat_le}
use Rattle.vg_syntax.specs.declared.kind.Kind.{Kind}
use Rattle.vg_syntax.specs.declared.grammar.Symbol.{Symbol}
use Rattle.vg_syntax.specs.declared.grammar.Symbol.TheVariants.{Sign, Use}
use Rattle.vg_syntax.specs.declared.grammar.Part.{Part}
use Rattle.vg_syntax.specs.Grammar.{rules}
use Rattle.vg_grammar.specs.Numbers.{number}
use Rattle.vg_grammar.specs.Tables.{mem, firsts, nullable, follows, nullable_seq, firsts_seq, pick, chosen}

abbrev pub subset : List Kind → List Kind → Bool
subset [] ks = true
subset (u ∷ us) ks = mem (number u) ks && subset us ks

-- each of these kinds chooses the alternative a
abbrev pub picks : Part → ℕ → List Kind → Bool
picks n a [] = true
picks n a (u ∷ us) = (pick (rules n) (number u) == a) && picks n a us

-- each part of an alternative is followed by what its table says
abbrev pub follow_ok : Part → List Symbol → Bool
follow_ok n [] = true
follow_ok n (Sign k ∷ s) = follow_ok n s
follow_ok n (Use m ∷ s) =
    subset (firsts_seq s) (follows m) && ((not (nullable_seq s) || subset (follows n) (follows m)) && follow_ok n s)

abbrev pub check_alt : Part → ℕ → List Symbol → Bool
check_alt n a rhs =
    picks n a (firsts_seq rhs)
    && ((not (nullable_seq rhs) || picks n a (follows n))
    && (subset (firsts_seq rhs) (firsts n) && ((not (nullable_seq rhs) || nullable n) && follow_ok n rhs)))

abbrev pub check_from : Part → ℕ → List (List Symbol) → Bool
check_from n i [] = true
check_from n i (r ∷ rs) = check_alt n i r && check_from n (suc i) rs

abbrev pub checked : Part → Bool
checked n = check_from n 0 (rules n)

-- an alternative that is not empty is chosen
abbrev pub full : Option (List Symbol) → Bool
full None = false
full (Some []) = false
full (Some (x ∷ s)) = true

abbrev pub all_full : Part → List Kind → Bool
all_full m [] = true
all_full m (u ∷ us) = full (chosen m (number u)) && all_full m us

-- an alternative has at most five symbols, and the part that begins it has a lower rank and is not empty
abbrev pub head_ok : (Part → ℕ) → Part → List Symbol → Bool
head_ok rank n [] = true
head_ok rank n (Sign k ∷ s) = nat_le (length s) 4
head_ok rank n (Use m ∷ s) = nat_le (length s) 4 && (nat_lt (rank m) (rank n) && all_full m (firsts m))

abbrev pub heads_ok : (Part → ℕ) → Part → List (List Symbol) → Bool
heads_ok rank n [] = true
heads_ok rank n (r ∷ rs) = head_ok rank n r && heads_ok rank n rs

abbrev pub ranked_by : (Part → ℕ) → Part → Bool
ranked_by rank n = nat_le 1 (rank n) && (nat_le (rank n) 18 && (not (full (chosen n 0)) && (nat_le (length (rules n)) 9 && heads_ok rank n (rules n))))
