use Rattle.std.proofs.Common.{◌≡◌, take}
use Rattle.std.specs.List.{AllZip}
use Rattle.vg_trimming.specs.Trimmed.{AreAllTrimmed}
use Rattle.vg_apt.specs.Apt.{AllKeepApt}
use Rattle.vg_trim.specs.Looked.{AreNoLonger}
use Rattle.vg_trim.proofs.trimmed.keep_all.Given as goal

abbrev pub invariant-loop-procedure : goal.invariant-loop-procedure
invariant-loop-procedure l =
    AreAllTrimmed (take l.procedure-index l.procedures) l.row × AreNoLonger (take l.procedure-index l.procedures) l.row
    × AllKeepApt (take l.procedure-index l.procedures) l.row × AllZip (λ old new. new ≡ old) (take l.procedure-index l.procedures) l.row
