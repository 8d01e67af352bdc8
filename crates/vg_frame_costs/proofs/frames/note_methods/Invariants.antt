use Rattle.std.proofs.Common.{ℕ, List, drop}
use Rattle.std.specs.List.{AllByRecursion}
use Rattle.vg_frame_costs.specs.Fitting.{IsMethodWithin}
use Rattle.vg_frame_costs.specs.Noted.{AreAtLeast, Pays}
use Rattle.vg_frame_costs.specs.Payable.{IsMethodPaid}
use Rattle.vg_frame_costs.proofs.frames.note_methods.Given as goal

abbrev pub invariant-loop-method : goal.invariant-loop-method
invariant-loop-method l =
    ((frames : List ℕ) → AreAtLeast l.frames.items frames → AllByRecursion (IsMethodWithin l.start frames) (drop l.method-index l.methods)
    → AllByRecursion (IsMethodWithin l.start frames) l.methods)
    × ((above : ℕ) (costs : List ℕ) → Pays above costs l.fn.frames.items → AllByRecursion (IsMethodPaid l.start above costs) l.methods
    → Pays above costs l.frames.items)
