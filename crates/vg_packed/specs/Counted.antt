-- A layout numbers its cells by counting.
use Rattle.std.specs.Prelude.{◌≡◌, ℕ, Bool}
use Rattle.vg_core.specs.declared.program.Tables.{Tables}
use Rattle.vg_numbers.specs.Numbers.{number, first, count}
use Rattle.vg_packing.specs.Layout.{Layout}

pub record IsCounted (p : Tables) (l : Layout) (kept : ℕ → Bool) : Type 0 where
  pub numbers : (j : ℕ) → l.numbering.number j ≡ number p l.kinds kept j
  pub firsts : (c : ℕ) → l.first c ≡ first p l.kinds kept c
  pub counts : (c : ℕ) → l.count c ≡ count p l.kinds kept c
