use Rattle.std.proofs.Common.{◌≡◌, ◌+◌, ◌≤◌, drop}
use Rattle.vg_pack_code.specs.Plans.{place_of}
use Rattle.vg_pack_code.proofs.plan.place.Given as goal

abbrev pub invariant-loop-one : goal.invariant-loop-one
invariant-loop-one l = (l.place + place_of (drop l.one-index l.asked) l.class l.selector ≡ place_of l.asked l.class l.selector) × (l.place ≤ l.one-index)
