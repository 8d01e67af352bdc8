use Rattle.std.proofs.Common.{slice_get, ap, ◌∙◌}
use Rattle.std.proofs.lemmas.Option.{slice_get_within}
use Rattle.std.proofs.lemmas.Bool.{lt-ltb}
use Rattle.vg_types_interned.proofs.Views.{placed, numbered_view}
use Rattle.vg_types_interned.proofs.table.Types.number.Goals as goal

pub returns-in-Ok-clause-number : goal.returns-in-Ok-clause-number
returns-in-Ok-clause-number c =
    ap (slice_get c.args.self.now.numbers.keys) c.in-Ok.ensures.1
    ∙ placed c.args.self.now.numbers.keys c.args.type_ c.in_ok-index.index c.in_ok-index.ensures.index

pub returns-in-Ok-clause-within : goal.returns-in-Ok-clause-within
returns-in-Ok-clause-within c = lt-ltb _ _ (slice_get_within _ _ _ (returns-in-Ok-clause-number c))

pub returns-in-Ok-clause-view : goal.returns-in-Ok-clause-view
returns-in-Ok-clause-view c =
    numbered_view c.args.self.now.classes c.args.self.now.numbers.keys c.in-Ok.number c.args.type_ c.args.self.now.sound (returns-in-Ok-clause-number c)
