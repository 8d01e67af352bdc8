use Rattle.std.proofs.Common.{◌≡◌}
use Rattle.vg_link.specs.Linking.{slots_upto}
use Rattle.vg_link.proofs.stubs.slots.Given as goal

abbrev pub invariant-loop-vector : goal.invariant-loop-vector
invariant-loop-vector l = l.slots ≡ slots_upto l.handlers l.stubs l.at l.vector
