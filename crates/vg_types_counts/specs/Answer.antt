-- What a text has too many of, as the code answers it.
use Rattle.std.specs.Prelude.{Option}
use Rattle.vg_source.specs.Declared.{or_else}
use Rattle.vg_rules.specs.declared.what.What.TheVariants.{Classes, Methods, Locals, Height}
use Rattle.vg_rules.specs.Refusal as rules
use Rattle.vg_rules.specs.Refusal.{Refused, too_many_at}
use Rattle.vg_types_counts.specs.declared.refused.TooMany.{TooMany}
use Rattle.vg_types_counts.specs.declared.tally.Tally.{Tally}

-- The refusal that an answer stands for.
abbrev pub refused_view : TooMany → Refused
refused_view a = rules.TooMany a.what a.limit a.node.0

-- Mirror: the answer behind all declarations.
abbrev pub answer : Tally → Option Refused
answer t =
    or_else (too_many_at Classes t.past_classes) (or_else (too_many_at Methods t.past_methods)
    (or_else (too_many_at Locals t.past_locals) (too_many_at Height t.past_height)))
