use Rattle.std.proofs.Common.{◌≡◌, ◌++◌, drop}
use Rattle.vg_laid.specs.Laid.{stubs_code}
use Rattle.vg_link.proofs.stubs.put_stubs.Given as goal

abbrev pub invariant-loop-procedure : goal.invariant-loop-procedure
invariant-loop-procedure l =
    l.code ++ stubs_code l.codes (drop l.procedure-index l.stubs) ≡ l.fn.code ++ stubs_code l.codes l.stubs
