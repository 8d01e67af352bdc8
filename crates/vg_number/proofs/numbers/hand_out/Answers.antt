use Rattle.std.proofs.Common.{rules, ◌≡◌, sym, length, map, replicate}
use Rattle.std.proofs.lemmas.List.{length-map}
use Rattle.vg_core.specs.Heap.{kind_of}
use Rattle.vg_number.specs.Numbering.{has_reason}
use Rattle.vg_number.proofs.Sums.{room_to_hand_out, are_numbers}
use Rattle.vg_number.proofs.numbers.hand_out.Goals as goal

pub walk-requires : goal.walk-requires
walk-requires c =
    let arrays : c.in_ok-arrays.arrays.items ≡ replicate (length c.args.tables.now.types) 1 = search rules in
    room_to_hand_out c.args.tables.now c.requires.chains (map kind_of c.args.cells.now) (has_reason c.args.live.now) c.requires.listed c.requires.few
    c.args.spans.now c.requires.spans c.in_ok-objects.objects.items c.in_ok-arrays.arrays.items c.in_ok-objects.ensures arrays
    c.new-counters.result c.new-counters.ensures

pub returns : goal.returns
returns c =
    let arrays : c.in_ok-arrays.arrays.items ≡ replicate (length c.args.tables.now.types) 1 = search rules in
    are_numbers c.args.tables.now c.requires.chains (map kind_of c.args.cells.now) (has_reason c.args.live.now) c.requires.listed c.requires.few
    c.args.spans.now c.requires.spans c.in_ok-objects.objects.items c.in_ok-arrays.arrays.items c.in_ok-objects.ensures arrays
    _ c.new-counters.result _ (length c.args.cells.now) (sym (length-map c.args.cells.now kind_of)) c.new-counters.ensures c.in_ok-of_cell.ensures
