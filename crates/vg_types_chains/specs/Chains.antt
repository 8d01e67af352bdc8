-- Classes and those above them.
use Rattle.std.specs.Prelude.{◌≡◌, ◌<◌, ◌≤◌, ℕ, suc, true, false, List, [], ◌∷◌, length, slice_get, Option, Some, None}
use Rattle.vg_core.specs.Tables.{is_in, last_of}

-- The class above a class, where both are there.
abbrev pub above_at : Option (Option ℕ) → Option ℕ
above_at (Some o) = o
above_at None = None

-- A class and those above it, the nearest first: at most n of them.
abbrev pub chain_up : ℕ → (above : List (Option ℕ)) → Option ℕ → List ℕ
chain_up (suc n) above (Some c) = c ∷ chain_up n above (above_at (slice_get above c))
chain_up _ above _ = []

-- The chain of a class.
abbrev pub chain_at : (most : ℕ) → (above : List (Option ℕ)) → ℕ → List ℕ
chain_at most above c = chain_up most above (Some c)

-- What stands above each class is a class, and the class itself is not above it, as far as that many steps go.
pub record AreAbove (most : ℕ) (above : List (Option ℕ)) : Type 0 where
  pub enough : length above ≤ most
  pub within : (c d : ℕ) → slice_get above c ≡ Some (Some d) → d < length above
  pub apart : (c : ℕ) → c < length above → is_in (chain_up most above (above_at (slice_get above c))) c ≡ false

-- Chains end by themselves.
pub record Close (most : ℕ) (above : List (Option ℕ)) : Type 0 where
  pub steps : (c : ℕ) → c < length above → chain_at most above c ≡ c ∷ chain_up most above (above_at (slice_get above c))
  pub itself : (c : ℕ) → c < length above → is_in (chain_at most above c) c ≡ true
  pub within : (c d : ℕ) → c < length above → is_in (chain_at most above c) d ≡ true → d < length above
  pub trans : (c d e : ℕ) → c < length above → is_in (chain_at most above c) d ≡ true → is_in (chain_at most above d) e ≡ true
      → is_in (chain_at most above c) e ≡ true
  pub one_top : (c d : ℕ) → c < length above → is_in (chain_at most above c) d ≡ true
      → last_of (chain_at most above c) ≡ last_of (chain_at most above d)
