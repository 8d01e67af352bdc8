-- The answers that come before the first put.
use Rattle.vg_sim.specs.declared.simulate.Simulated.{Simulated}
use Rattle.vg_sim.specs.declared.simulate.Simulated.TheVariants.{HexRefused, ScriptRefused, NoMemory}

-- nothing was to be put
abbrev pub IsRefusal : Simulated → Type 0
IsRefusal (HexRefused fault) = Unit {0}
IsRefusal (ScriptRefused line) = Unit {0}
IsRefusal NoMemory = Unit {0}
IsRefusal _ = ⊥
