use Rattle.std.proofs.Common.{Err, ap}
use Rattle.vg_build.proofs.Faults.{by_compiled, by_writes}
use Rattle.vg_build.proofs.flash.flash_of.Goals as goal

pub returns-in-Ok : goal.returns-in-Ok
returns-in-Ok c = by_writes _ _ _ _ _ c.as_slice.ensures c.in-Ok.ensures.ok _ c.written.ensures

pub returns-in-Err-Fault : goal.returns-in-Err-Fault
returns-in-Err-Fault c =
    by_compiled _ _ _ (c.in-Err-Fault.ensures.not c.in-Err-Fault.field-0-0 (ap Err c.in-Err-Fault.field-0-is)) _ c.compiled.ensures
