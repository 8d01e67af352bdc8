-- Members and reasons as texts.
use Rattle.std.specs.Prelude.{ℕ, List, [], ◌++◌, Option, Some, None, codes, decimal, slice_get}
use Rattle.vg_core.specs.declared.member.Member.{Member}
use Rattle.vg_core.specs.declared.member.Member.TheVariants.{Method, Field, Cell}
use Rattle.vg_core.specs.declared.program.Owner.{Owner}
use Rattle.vg_core.specs.declared.program.Owner.TheVariants.{InClass, InComponent}
use Rattle.vg_core.specs.declared.program.Class.{Class}
use Rattle.vg_core.specs.declared.program.Method.{Method as AMethod}
use Rattle.vg_core.specs.declared.program.Field.{Field as AField}
use Rattle.vg_core.specs.declared.program.Tables.{Tables}
use Rattle.vg_live.specs.declared.live_set.Reason.{Reason}

abbrev pub text_in : Option (List ℕ) → List ℕ
text_in (Some text) = text
text_in None = []

-- The text of a name.
abbrev pub name_text : List (List ℕ) → (name : ℕ) → List ℕ
name_text texts n = text_in (slice_get texts n)

abbrev pub class_text : List (List ℕ) → Option Class → List ℕ
class_text texts (Some k) = name_text texts k.name
class_text texts None = []

abbrev pub component_text : List (List ℕ) → Option ℕ → List ℕ
component_text texts (Some n) = name_text texts n
component_text texts None = []

-- The name of a class or component.
abbrev pub owner_text : List (List ℕ) → Tables → Owner → List ℕ
owner_text texts t (InClass c) = class_text texts (slice_get t.classes c)
owner_text texts t (InComponent k) = component_text texts (slice_get t.components k)

-- What it declares: both names, with a point between them.
abbrev pub named_text : List (List ℕ) → Tables → Owner → (name : ℕ) → List ℕ
named_text texts t o n = owner_text texts t o ++ codes "." ++ name_text texts n

abbrev pub method_text : List (List ℕ) → Tables → Option AMethod → List ℕ
method_text texts t (Some m) = named_text texts t m.owner m.name
method_text texts t None = []

abbrev pub field_text : List (List ℕ) → Tables → Option AField → List ℕ
field_text texts t (Some f) = named_text texts t f.owner f.name
field_text texts t None = []

-- A member: `method C.m`, `field C.f`, or `cell k`.
abbrev pub member_text : List (List ℕ) → Tables → Member → List ℕ
member_text texts t (Method m) = codes "method " ++ method_text texts t (slice_get t.methods m)
member_text texts t (Field f) = codes "field " ++ field_text texts t (slice_get t.fields f)
member_text texts t (Cell k) = codes "cell " ++ decimal k

abbrev pub from_text : List (List ℕ) → Tables → Option Member → List ℕ
from_text texts t (Some y) = codes " from " ++ member_text texts t y
from_text texts t None = []

-- The line of a reason: `member by rule from member`, or `member by rule`.
abbrev pub reason_line : List (List ℕ) → Tables → Member → Reason → List ℕ
reason_line texts t y r = member_text texts t y ++ codes " by " ++ decimal r.rule ++ from_text texts t r.from ++ codes "\n"

-- The line of a member that is not live.
abbrev pub dead_line : List (List ℕ) → Tables → Member → List ℕ
dead_line texts t y = codes "dead " ++ member_text texts t y ++ codes "\n"
