-- The members of a typed program under their names.
use Rattle.std.specs.Prelude.{Option, Some, None}
use Rattle.vg_core.specs.declared.member.Member.{Member}
use Rattle.vg_core.specs.declared.member.Member.TheVariants.{Method, Field, Cell}
use Rattle.vg_core.specs.Naming.{Naming}
use Rattle.vg_live_source.specs.Members as source

-- A member: a method or a field under its names, a cell as it is.
abbrev pub named_member : Naming → Member → source.Member
named_member n (Method m) = source.Method (n.method m).owner (n.method m).name
named_member n (Field f) = source.Field (n.field f).owner (n.field f).name
named_member n (Cell k) = source.Cell k

-- A member, where one is named.
abbrev pub named_one : Naming → Option Member → Option source.Member
named_one n (Some y) = Some (named_member n y)
named_one n None = None
