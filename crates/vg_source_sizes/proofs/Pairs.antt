-- Sizes of code without pairs of operators.
use Rattle.std.proofs.Common.{◌≡◌, ◌≤◌, ℕ, ◌+◌, Bool, true, false, List, [], ◌∷◌, refl, arith}
use Rattle.vg_syntax.specs.declared.kind.Kind.{Kind}
use Rattle.vg_meaning.specs.Code.{Code, Then, Do}
use Rattle.vg_code_sizes.specs.Sizes.{is_one, and_rest, unpaired_size}
use Rattle.vg_source.specs.Steps.{Step, Put, Literal, This, Forget, Apply}
use Rattle.vg_source.specs.Resolved.{apply_all, prefix_of}
use Rattle.vg_source_sizes.specs.Sizes.{weight, is_prefix}

-- the size behind an operator that may wait
abbrev pub behind : Bool → Code Step → ℕ
behind o c = unpaired_size weight is_prefix o c

-- an operator that waits makes no more difference than its own weight
abbrev Near : (m n : ℕ) → Type 0
Near m n = (m ≤ 1 + n) × (n ≤ 1 + m)

near_then : (this : Bool) (n : ℕ) (f : Bool → ℕ) → Near (f true) (f false) → Near (and_rest true this n f) (and_rest false this n f)
near_then true n f (g, h) = (h, g)
near_then false n f (g, h) = (omega arith, omega arith)

near : (c : Code Step) → Near (behind true c) (behind false c)
near (Then a b) = near_then (is_one is_prefix a) (behind false a) (λ this. behind this b) (near b)
near _ = (omega arith, omega arith)

prefix_step : (s : Step) → is_prefix s ≡ true → weight s ≡ 1
prefix_step (Apply op) e = refl
prefix_step _ e = cc

prefix_size : (c : Code Step) → is_one is_prefix c ≡ true → 1 ≤ behind false c
prefix_size (Do s) e = let w = prefix_step s e in omega (arith, w)
prefix_size _ e = cc

join : (this : Bool) (n : ℕ) (f : Bool → ℕ) → (this ≡ true → 1 ≤ n) → Near (f true) (f false) → and_rest false this n f ≤ n + f false
join true n f k (g, h) = let one = k refl in omega (arith, one, g)
join false n f k (g, h) = omega arith

-- code behind other code is at most as large as both
pub joined : (a b : Code Step) → behind false (Then a b) ≤ behind false a + behind false b
joined a b = join (is_one is_prefix a) (behind false a) (λ this. behind this b) (prefix_size a) (near b)

-- of a row of operators at most one is left
pub one_left : (ks : List Kind) (more : Code Step) (n : ℕ) → behind false more ≤ n → behind true more ≤ n → behind false (apply_all ks more) ≤ n
one_left [] more n e f = e
one_left (k ∷ ks) more n e f = one_left ks (Then (Do (Apply (prefix_of k))) more) n f e

-- a step weighs at most one
pub light : (s : Step) → weight s ≤ 1
light (Put v) = omega arith
light (Literal k) = omega arith
light This = omega arith
light Forget = omega arith
light _ = omega arith
