-- Which fault the bytes of a source text have.
use Rattle.std.specs.Prelude.{ℕ, List}
use Rattle.vg_syntax.specs.Faults.{NoTreeIn, TooDeepIn}
use Rattle.vg_faults.specs.declared.fault.Fault.{Fault}
use Rattle.vg_faults.specs.declared.fault.Fault.TheVariants.{NoTree, TooDeep, TooMany, Broken, InitTrap, InitSteps, InitDepth, InitTouches, InitTooBig, Allocates, StaticFull, TableFull}
use Rattle.vg_faults.specs.declared.fault.Fault.TheVariants.{StackFull, CodeFull, NoMember, NotBuilt}
use Rattle.vg_faults.specs.Judged.{RefusedIn}
use Rattle.vg_faults.specs.Starting.{FailsIn}

-- the faults of initialisation
abbrev pub IsOfInit : Fault → Type 0
IsOfInit (InitTrap code place) = Unit {0}
IsOfInit InitSteps = Unit {0}
IsOfInit InitDepth = Unit {0}
IsOfInit (InitTouches address) = Unit {0}
IsOfInit InitTooBig = Unit {0}
IsOfInit _ = ⊥

-- the bytes have this fault, where initialisation has this clock; what comes behind initialisation is none of these
abbrev pub HasFault : Fault → List ℕ → (clock : ℕ) → Type 0
HasFault (NoTree place) bytes clock = NoTreeIn bytes place
HasFault (TooDeep place) bytes clock = TooDeepIn bytes place
HasFault (TooMany what limit place) bytes clock = RefusedIn bytes (TooMany what limit place)
HasFault (Broken rule place) bytes clock = RefusedIn bytes (Broken rule place)
HasFault (Allocates place line) bytes clock = ⊥
HasFault (StaticFull need) bytes clock = ⊥
HasFault (TableFull need) bytes clock = ⊥
HasFault (StackFull need left) bytes clock = ⊥
HasFault (CodeFull words) bytes clock = ⊥
HasFault NoMember bytes clock = ⊥
HasFault (NotBuilt place) bytes clock = ⊥
HasFault why bytes clock = FailsIn bytes clock why
