-- How one state of the machine comes to another.
use Rattle.std.specs.Prelude.{ℕ, ◌≡◌, ◌≤◌, List}
use Rattle.avr_isa.specs.Machine.{State, run_from}

-- from s the machine comes to t, in no step or in some: it is later where t is later
pub record Leads (flash : List ℕ) (s t : State) : Type 0 where
  pub by : (k : ℕ) → (j : ℕ) × (k ≤ j) × (run_from flash j s ≡ run_from flash k t)
