use Rattle.std.proofs.Common.{drop}
use Rattle.vg_apt.specs.Apt.{AreApt}
use Rattle.vg_apt.proofs.apt.is_apt_code.Given as goal

abbrev pub invariant-loop-instr : goal.invariant-loop-instr
invariant-loop-instr l = AreApt (drop l.instr-index l.code) → AreApt l.code
