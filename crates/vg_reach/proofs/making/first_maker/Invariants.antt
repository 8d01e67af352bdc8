use Rattle.std.proofs.Common.{◌≡◌, ◌<◌, ℕ, None}
use Rattle.vg_core.specs.declared.member.Member.TheVariants.{Method}
use Rattle.vg_core.specs.HeldProgram.{program_at}
use Rattle.vg_live.specs.Sets.{IsIn}
use Rattle.vg_reach.specs.Reaches.{made_in}
use Rattle.vg_reach.proofs.making.first_maker.Given as goal

abbrev pub invariant-loop-method : goal.invariant-loop-method
invariant-loop-method l = (m : ℕ) → m < l.method → IsIn l.live (Method m) → made_in (program_at l.program) m ≡ None
