-- Entries of packed programs.
use Rattle.std.specs.Prelude.{slice_get}
use Rattle.vg_core.specs.declared.program.Handler.{Handler}
use Rattle.vg_coded.specs.Numbers.{known}
use Rattle.vg_live.specs.Sets.{flat}
use Rattle.vg_pack_code.specs.declared.plan.Plan.{Plan}
use Rattle.vg_packed.specs.declared.program.Entrance.{Entrance}

-- The handler of an interrupt, with the procedure of its method.
abbrev pub entrance : Plan → Handler → Entrance
entrance x e = record { vector = e.vector; procedure = known (flat (slice_get x.procedures e.method)) }
