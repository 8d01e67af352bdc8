-- No way costs more than the path, so the path is one number.
use Rattle.std.proofs.Common.{◌≡◌, arith, ℕ, ◌≤◌}
use Rattle.vg_calls_source.specs.Graphs.{sum_of, IsSpent, IsPath}

between : (a b c : ℕ) → a ≤ b → b ≤ c → a ≤ c
between a b c h k = omega (arith, h, k)

same : (a b : ℕ) → a ≤ b → b ≤ a → a ≡ b
same a b h k = omega (arith, h, k)

module _ {A : Type 0} (Entry : A → Type 0) (Edge : A → A → Type 0) (cost : A → ℕ) where
  pub spent_most : (m n : ℕ) → IsPath Entry Edge cost m → IsSpent Entry Edge cost n → n ≤ m
  spent_most m n path (way, end, is, least) = between n (sum_of cost way) m least (path.enough way end is)

  pub one_path : (m n : ℕ) → IsPath Entry Edge cost m → IsPath Entry Edge cost n → m ≡ n
  one_path m n a b = same m n (spent_most n m b a.spent) (spent_most m n a b.spent)
