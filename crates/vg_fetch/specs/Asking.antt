-- What a shelf is asked for, in turn.
use Rattle.std.specs.Prelude.{ℕ, ◌≡◌, ◌<◌, ◌≤◌, List, [], ◌∷◌, ◌++◌, length, map, take, drop, Option, Some, None, Result, Ok, Err}
use Rattle.vg_io.specs.declared.asked.Asked.{Asked}
use Rattle.vg_fetch.specs.declared.fetch.NoFile.{NoFile}
use Rattle.vg_fetch.specs.declared.fetch.NoFile.TheVariants.{Failed, Long}

-- a fetch as it is asked for: a name, and a limit in bytes
pub record Request : Type 0 where
  pub name : List ℕ
  pub limit : ℕ

abbrev pub request_of : Asked → Request
request_of asked = record { name = asked.name; limit = asked.limit }

-- the fetches since there were the old ones alone
abbrev pub gained : (old new : List Asked) → List Asked
gained old new = drop (length old) new

abbrev pub last_of : List Asked → Option Asked
last_of [] = None
last_of (a ∷ []) = Some a
last_of (a ∷ b ∷ rest) = last_of (b ∷ rest)

-- there is such a fetch, and it failed
abbrev pub HasFailed : Option Asked → Type 0
HasFailed None = ⊥
HasFailed (Some asked) = asked.given ≡ None

abbrev pub IsAbove : Option ℕ → ℕ → Type 0
IsAbove None limit = ⊥
IsAbove (Some given) limit = limit < given

-- there is such a fetch, and it gave more bytes than its limit
abbrev pub HasPassedLimit : Option Asked → Type 0
HasPassedLimit None = ⊥
HasPassedLimit (Some asked) = IsAbove asked.given asked.limit

abbrev pub IsUpTo : Option ℕ → ℕ → Type 0
IsUpTo None limit = ⊥
IsUpTo (Some given) limit = given ≤ limit

-- every fetch but the last gave a file within its limit
abbrev pub AreGivenButLast : List Asked → Type 0
AreGivenButLast [] = Unit {0}
AreGivenButLast (a ∷ []) = Unit {0}
AreGivenButLast (a ∷ b ∷ rest) = IsUpTo a.given a.limit × AreGivenButLast (b ∷ rest)

-- some fetches came behind the old ones: the first of the requests, in their order, each behind one that was given within its limit
pub record AsksFront (old new : List Asked) (requests : List Request) : Type 0 where
  pub keeps : new ≡ old ++ gained old new
  pub count : ℕ
  pub front : map request_of (gained old new) ≡ take count requests
  pub in_turn : AreGivenButLast (gained old new)

-- fetches came behind the old ones: all the requests, in their order
pub record AsksAll (old new : List Asked) (requests : List Request) : Type 0 where
  pub keeps : new ≡ old ++ gained old new
  pub all : map request_of (gained old new) ≡ requests

-- why a file is missing, if one is
abbrev pub reason_of : {V : Type 0} → Result V NoFile → Option NoFile
reason_of (Ok v) = None
reason_of (Err reason) = Some reason

-- How a row of requests went: all were asked for, unless a file is missing. The last fetch failed exactly as the reason says,
-- and passed its limit exactly where that is the reason.
pub record Fetched (reason : Option NoFile) (old new : List Asked) (requests : List Request) : Type 0 where
  pub asks : AsksFront old new requests
  pub all : reason ≡ None → AsksAll old new requests
  pub failed : reason ≡ Some Failed → HasFailed (last_of (gained old new))
  pub passed : reason ≡ Some Long → HasPassedLimit (last_of (gained old new))
  pub only : HasPassedLimit (last_of (gained old new)) → reason ≡ Some Long
