use Rattle.std.proofs.Common.{subst}
use Rattle.vg_core.specs.declared.member.Member.TheVariants.{Method}
use Rattle.vg_core.specs.HeldProgram.{program_at}
use Rattle.vg_reach.specs.Reaches.{FirstMade}
use Rattle.vg_reach.proofs.Made.{first_is}
use Rattle.vg_reach.proofs.reach.live.Goals as goal

pub returns-in-Some : goal.returns-in-Some
returns-in-Some c =
    let p = program_at c.args.program.now in
    first_is p c.args.heap.now c.in_ok-set.set c.in-Some.fault c.in_ok-set.ensures (subst (FirstMade p c.in_ok-set.set) c.in-Some.is c.in_ok-found.ensures)

pub returns-in-None : goal.returns-in-None
returns-in-None c =
    let p = program_at c.args.program.now in
    (c.in_ok-set.ensures, λ m l. subst (FirstMade p c.in_ok-set.set) c.in-None.is c.in_ok-found.ensures m (c.in_ok-set.ensures.all (Method m) l))
