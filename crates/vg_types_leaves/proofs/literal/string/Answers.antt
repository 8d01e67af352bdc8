use Rattle.std.proofs.Common.{[], get_or, refl}
use Rattle.std.proofs.lemmas.Option.{slice_get-get_or}
use Rattle.vg_syntax.specs.Reads.{spot}
use Rattle.vg_tree.specs.Held.{text_at}
use Rattle.vg_core.specs.Typing.{t_literal}
use Rattle.vg_types_leaves.proofs.Strings.{string_leaves}
use Rattle.vg_types_leaves.proofs.literal.string.Goals as goal

pub leaf-requires-clause-typed : goal.leaf-requires-clause-typed
leaf-requires-clause-typed c = λ o x s.
    t_literal (get_or c.args.declared.now.tables.literals c.in-Some.number [])
    (slice_get-get_or c.args.declared.now.tables.literals c.in-Some.number [] c.in-Some.ensures.1)

pub returns-in-Some-clause-judged : goal.returns-in-Some-clause-judged
returns-in-Some-clause-judged c = (
  refl,
  string_leaves c.args.names.now c.args.root.now c.args.declared.now c.args.body c.args.locals.now c.args.id c.in-Some.number (spot c.args.place)
      (text_at c.args.names.now c.args.spelled) c.leaf.result c.requires.declares c.in-Some.ensures.0 c.leaf.ensures.head c.leaf.ensures.code,
)
