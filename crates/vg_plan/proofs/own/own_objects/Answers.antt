use Rattle.std.proofs.Common.{rules, ◌≡◌, sym, length, map, replicate}
use Rattle.std.proofs.lemmas.List.{length-map}
use Rattle.vg_core.specs.Heap.{kind_of}
use Rattle.vg_number.specs.Numbering.{has_reason}
use Rattle.vg_number.proofs.Sums.{room_to_count, are_own}
use Rattle.vg_plan.proofs.own.own_objects.Goals as goal

pub walk-requires : goal.walk-requires
walk-requires c =
    let objects : c.in_ok-objects.objects.items ≡ replicate (length c.args.tables.now.classes) 0 = search rules in
    let arrays : c.in_ok-arrays.arrays.items ≡ replicate (length c.args.tables.now.types) 0 = search rules in
    room_to_count c.args.tables.now c.requires.chains (map kind_of c.args.cells.now) (has_reason c.args.live.now) c.requires.listed c.requires.few
    c.in_ok-objects.objects.items c.in_ok-arrays.arrays.items c.new-counters.result c.new-counters.ensures objects arrays

pub returns : goal.returns
returns c =
    let objects : c.in_ok-objects.objects.items ≡ replicate (length c.args.tables.now.classes) 0 = search rules in
    are_own c.args.tables.now c.requires.chains (map kind_of c.args.cells.now) (has_reason c.args.live.now) c.requires.listed c.requires.few
    c.in_ok-objects.objects.items c.in_ok-arrays.arrays.items _ c.into_objects.result.items c.new-counters.result _ (length c.args.cells.now)
    (sym (length-map c.args.cells.now kind_of)) c.new-counters.ensures objects c.in_ok-walk.ensures c.into_objects.ensures
