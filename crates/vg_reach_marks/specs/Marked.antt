-- Marks as contracts see them, and what a mark changes. (Mirrors of `Marks`.)
use Rattle.std.specs.Prelude.{◌≡◌, ℕ, suc, ◌+◌, ◌<◌, Bool, true, false, List, [], ◌∷◌, ◌++◌, length, replicate, Option, Some, None, slice_get, slice_set}
use Rattle.vg_core.specs.declared.member.Member.{Member}
use Rattle.vg_core.specs.declared.member.Member.TheVariants.{Method, Field, Cell}
use Rattle.vg_live.specs.declared.live_set.Reason.{Reason}
use Rattle.vg_live.specs.declared.live_set.LiveSet.{LiveSet}

-- The members that are marked, with their reasons and in the order of marking.
pub record Marked : Type 0 where
  pub set : LiveSet
  pub order : List Member

abbrev pub marked : (methods fields cells : List (Option Reason)) → List Member → Marked
marked ms fs cs order = record { set = record { methods = ms; fields = fs; cells = cs }; order = order }

-- No mark.
abbrev pub nothing : (methods fields cells : ℕ) → Marked
nothing a b c = marked (replicate a None) (replicate b None) (replicate c None) []

-- What is noted of a member, where it is there.
abbrev pub entry_of : LiveSet → Member → Option (Option Reason)
entry_of s (Method m) = slice_get s.methods m
entry_of s (Field f) = slice_get s.fields f
entry_of s (Cell k) = slice_get s.cells k

-- One more member in the order.
abbrev pub with_member : Member → Marked → Marked
with_member x a = record { set = a.set; order = a.order ++ x ∷ [] }

-- A reason in the set.
abbrev pub set_with : Member → Reason → LiveSet → LiveSet
set_with (Method m) r s = record { methods = slice_set s.methods m (Some r); fields = s.fields; cells = s.cells }
set_with (Field f) r s = record { methods = s.methods; fields = slice_set s.fields f (Some r); cells = s.cells }
set_with (Cell k) r s = record { methods = s.methods; fields = s.fields; cells = slice_set s.cells k (Some r) }

abbrev pub with_reason : Member → Reason → Marked → Marked
with_reason x r a = record { set = set_with x r a.set; order = a.order }

-- How many of these have no mark.
abbrev pub none_in : List (Option Reason) → ℕ
none_in [] = 0
none_in (None ∷ rs) = suc (none_in rs)
none_in (Some r ∷ rs) = none_in rs

-- How many members have no mark.
abbrev pub unmarked : LiveSet → ℕ
unmarked s = none_in s.methods + none_in s.fields + none_in s.cells
