use Rattle.std.proofs.Common.{◌≡◌, ◌++◌, ◌+◌, ◌≤◌, drop}
use Rattle.vg_firm.specs.declared.step.Home.TheVariants.{Ram, Flash}
use Rattle.vg_placement.specs.Columns.{placed, home_bytes}
use Rattle.vg_place.proofs.placing.placed.Given as goal

abbrev pub invariant-loop-index : goal.invariant-loop-index
invariant-loop-index l =
    (l.list ++ placed l.ram l.flash (drop l.index l.rows) ≡ placed 0x0100 0x008C l.rows)
    × (l.ram + home_bytes Ram (drop l.index l.rows) ≤ 4352)
    × (l.flash + home_bytes Flash (drop l.index l.rows) ≤ 60140)
