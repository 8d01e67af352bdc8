use Rattle.std.proofs.Common.{map, take}
use Rattle.indexmap.specs.IndexMap.{get}
use Rattle.vg_first_text.specs.FirstText.{AreRegisters}
use Rattle.vg_first_text.specs.FirstViews.{register_view, same_name, TellsAddresses}
use Rattle.vg_first_text.proofs.first_text.fits.register_addresses.Given as goal

abbrev pub invariant-loop-register : goal.invariant-loop-register
invariant-loop-register l = record {
  fit : AreRegisters (map register_view (take l.register-index l.registers));
  told : TellsAddresses (get same_name l.addresses) (map register_view (take l.register-index l.registers));
}
