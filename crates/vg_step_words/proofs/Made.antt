-- How many words what is made takes, with those of a test that is left.
use Rattle.std.specs.Prelude.{ℕ, ◌+◌, ◌≤◌, Bool, true, false, if◌then◌else◌, List, Option, Some, None}
use Rattle.std.proofs.Common.{◌≡◌, refl, arith}
use Rattle.vg_lin.specs.declared.instr.Operand.{Operand}
use Rattle.vg_flatten_shapes.specs.declared.open.Truth.{Truth}
use Rattle.vg_flatten_shapes.specs.declared.room.Room.{Room}
use Rattle.vg_flatten_shapes.specs.Shapes.{Shape, temp}
use Rattle.vg_flatten_shapes.specs.Blocks.{Block, Skip}
use Rattle.vg_flatten_shapes.specs.Made.{Made, Gives, Refused, behind, after, by_temp, settled_as}
use Rattle.vg_step_words.specs.Words.{way_words, block_words, waiting_words}

-- a second way counts with at most two words more than it has
pub way_few : (b : Block) (n : ℕ) → way_words b n ≤ 2 + n
way_few Skip n = omega arith
way_few b n = omega arith

module _ (cases : ℕ → ℕ) where
  abbrev pub Within : (n : ℕ) → Made → Type 0
  Within n (Gives b s) = block_words cases b + waiting_words s.truth ≤ n
  Within n (Refused why) = Unit {0}

  pub within_more : (n m : ℕ) (made : Made) → n ≤ m → Within n made → Within m made
  within_more n m (Gives b s) le h = omega (arith, le, h)
  within_more n m (Refused why) le h = tt

  pub within_behind : (n m : ℕ) (a : Block) (made : Made) → block_words cases a ≤ n → Within m made → Within (n + m) (behind a made)
  within_behind n m a (Gives b s) ha hm = omega (arith, ha, hm)
  within_behind n m a (Refused why) ha hm = tt

  -- a test that is left pays for what comes behind
  pub within_after : (n m : ℕ) (made : Made) (more : Shape → Made) → Within n made → ((s : Shape) → Within (waiting_words s.truth + m) (more s))
      → Within (n + m) (after made more)
  within_after n m (Gives a s) more hm h = by (more s) (h s)
    where
      by : (made : Made) → Within (waiting_words s.truth + m) made → Within (n + m) (behind a made)
      by (Gives b t) g = omega (arith, hm, g)
      by (Refused why) g = tt
  within_after n m (Refused why) more hm h = tt

  pub within_temp : (n : ℕ) (o : Option ℕ) (go : ℕ → Made) → ((to : ℕ) → Within n (go to)) → Within n (by_temp o go)
  within_temp n (Some to) go h = h to
  within_temp n None go h = tt

  pub within_if : (n : ℕ) (b : Bool) (x y : Made) → (b ≡ true → Within n x) → Within n y → Within n (if b then x else y)
  within_if n true x y h g = h refl
  within_if n false x y h g = g

  -- a test that waits becomes a number
  pub within_settled : (r : Room) (o : Option Truth) (hs : List Operand) → Within (waiting_words o) (settled_as r o hs)
  within_settled r None hs = omega arith
  within_settled r (Some t) hs = within_temp (waiting_words (Some t)) (temp r hs) _ (λ to. omega arith)
