use Rattle.std.proofs.Common.{◌∙◌}
use Rattle.vg_types_interned.proofs.Views.{class_within}
use Rattle.vg_types_interned.proofs.making.intern_class.Goals as goal

pub intern-requires : goal.intern-requires
intern-requires c = class_within c.args.types.now.classes c.args.text.now c.in-Some.class c.args.types.now.numbered (c.in-Some.ensures ∙ c.get.ensures)
