-- Mirrors: predicates by cases that follow the code's own functions. No clause of an exported function cites one.
use Rattle.std.specs.Prelude.{ℕ, ◌≡◌, List, Some, None, Result, Ok, Err}
use Rattle.vg_base.specs.declared.refusal.Refusal.{Refusal}
use Rattle.vg_base.specs.declared.refusal.Refusal.TheVariants as refusal
use Rattle.vg_core.specs.declared.member.Member.{Member}
use Rattle.vg_core.specs.HeldProgram.{program_at}
use Rattle.vg_report.specs.Chains.{IsWhy}
use Rattle.vg_lookup.specs.Lookup.{Finds}
use Rattle.vg_faults.specs.declared.fault.Fault.{Fault}
use Rattle.vg_faults.specs.declared.fault.Fault.TheVariants.{NoMember}
use Rattle.vg_alive.specs.declared.finding.Alive.{Alive}

-- what is told of what starts
abbrev pub Tells : Alive → List ℕ → Result (List ℕ) (Refusal Fault) → Type 0
Tells a w (Ok lines) =
    (y : Member) × Finds a.start.names (program_at a.start.program) w (Some y) × IsWhy a.start.names a.start.program.tables a.live y lines
Tells a w (Err (refusal.Fault why)) = (why ≡ NoMember) × Finds a.start.names (program_at a.start.program) w None
Tells a w (Err refusal.NoMemory) = Unit {0}
