use Rattle.std.proofs.Common.{◌≡◌, drop}
use Rattle.vg_pack_calls.specs.Asked.{is_there}
use Rattle.vg_pack_calls.proofs.asked.is_there.Given as goal

abbrev pub invariant-loop-one : goal.invariant-loop-one
invariant-loop-one l = is_there (drop l.one-index l.asked) l.class l.selector ≡ is_there l.asked l.class l.selector
