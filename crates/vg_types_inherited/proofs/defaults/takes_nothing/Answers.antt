use Rattle.std.proofs.Common.{Some, None, slice_get}
use Rattle.vg_types_inherited.proofs.Tests.{entry_at, some_at, none_at, not_none}
use Rattle.vg_types_inherited.proofs.Finds.{params_taken, class_there}
use Rattle.vg_types_inherited.proofs.defaults.takes_nothing.Goals as goal

pub returns-in-Some-get : goal.returns-in-Some-get
returns-in-Some-get c =
    params_taken c.args.names.now c.args.root.now c.args.declared.now c.requires c.args.class.now c.in-Some.number c.in-Some-get.found.now c.is_empty.result
    c.in-Some.ensures
    (entry_at c.as_slice.result.now c.args.declared.now.tables.classes c.from.result c.in-Some.number (Some c.in-Some-get.found.now)
    (some_at c.as_slice.result.now c.from.result c.in-Some-get.found.now c.in-Some-get.ensures.lookup.3.0 c.in-Some-get.ensures.lookup.1)
    c.as_slice.ensures c.from.ensures)
    c.is_empty.ensures

pub returns-in-None-get : goal.returns-in-None-get
returns-in-None-get c =
    let k = class_there c.args.names.now c.args.root.now c.args.declared.now c.requires c.args.class.now c.in-Some.number c.in-Some.ensures in
    not_none (slice_get c.args.declared.now.tables.classes c.in-Some.number) k.0
    (entry_at c.as_slice.result.now c.args.declared.now.tables.classes c.from.result c.in-Some.number None
    (none_at c.as_slice.result.now c.from.result c.in-None-get.ensures.lookup.3)
    c.as_slice.ensures c.from.ensures) k.1
