-- What is marked once a step was looked at, or a place.
use Rattle.std.specs.Prelude.{◌≡◌, ℕ, Option, Some, None, slice_get}
use Rattle.vg_core.specs.declared.member.Member.{Member}
use Rattle.vg_core.specs.declared.member.Member.TheVariants.{Method, Field, Cell}
use Rattle.vg_core.specs.declared.value.CoreValue.{CoreValue}
use Rattle.vg_core.specs.declared.value.CoreValue.TheVariants.{Bound}
use Rattle.vg_core.specs.declared.step.Step.{Step}
use Rattle.vg_core.specs.declared.step.Step.TheVariants.{Literal, ComponentField, ComponentMethod, CallComponent, Field as FieldOf}
use Rattle.vg_core.specs.declared.heap.Heap.{Heap}
use Rattle.vg_core.specs.Program.{Program}
use Rattle.vg_core.specs.Heap.{Place, OfComponent, OfObject, OfArray, value_at}
use Rattle.vg_live.specs.Uses.{steps_of}
use Rattle.vg_live.specs.Rules.{cell_in, Keeps, holder, owner}
use Rattle.vg_live.specs.Sets.{IsIn}
use Rattle.vg_reach_marks.specs.Marked.{Marked}
use Rattle.vg_reach_marks.specs.Growing.{Sound, Goes, AreIn, Drawn}
use Rattle.vg_reach_holding.specs.declared.naming.Named.{Named}

-- ---- steps

-- What a step makes live by itself.
abbrev pub named_by : Step → Option Named
named_by (CallComponent m count) = Some (record { member = Method m; rule = 3 })
named_by (ComponentMethod m) = Some (record { member = Method m; rule = 3 })
named_by (ComponentField f) = Some (record { member = Field f; rule = 5 })
named_by (FieldOf at f) = Some (record { member = Field f; rule = 6 })
named_by (Literal k) = Some (record { member = Cell k; rule = 11 })
named_by _ = None

abbrev pub StepDone : Program → Heap → Marked → Step → Type 0
StepDone p h a s = (y : Named) → named_by s ≡ Some y → Drawn p h a y.member

-- A step of the live method m was looked at.
abbrev pub NamesAll : (a b : Marked) → (m : ℕ) → Step → Type 0
NamesAll a b m s =
    (p : Program) (h : Heap) (i : ℕ) → Sound p h a → IsIn a.set (Method m) → slice_get (steps_of p m) i ≡ Some s → Goes p h a b × StepDone p h b s

-- ---- places

-- What a value refers to.
pub data Refers : CoreValue → Member → Type 0 where
  to_cell : (v : CoreValue) {k : ℕ} → cell_in v ≡ Some k → Refers v (Cell k)
  to_kept : {v : CoreValue} {y : Member} → Keeps v y → Refers v y

abbrev pub PlaceDone : Program → Heap → Marked → Place → Type 0
PlaceDone p h a x = (v : CoreValue) (y : Member) → value_at p.tables h x ≡ Some v → Refers v y → Drawn p h a y

-- The rule for an object or array at a place.
abbrev pub rule_at : Place → ℕ
rule_at (OfComponent f) = 7
rule_at (OfObject k f) = 9
rule_at (OfArray k i) = 10

-- A value stands at a place that is live by these members.
pub record StandsBy (p : Program) (h : Heap) (v : CoreValue) (rule : ℕ) (from also : Option Member) : Type 0 where
  pub place : Place
  pub value : value_at p.tables h place ≡ Some v
  pub rule_is : rule_at place ≡ rule
  pub from_is : holder place ≡ from
  pub also_is : owner place ≡ also

-- A value at a live place was looked at.
abbrev pub HoldsAll : (a b : Marked) → CoreValue → (rule : ℕ) → (from also : Option Member) → Type 0
HoldsAll a b v rule from also =
    (p : Program) (h : Heap) → Sound p h a → StandsBy p h v rule from also → AreIn a from → AreIn a also
    → Goes p h a b × ((y : Member) → Refers v y → Drawn p h b y)

-- A delegate at a live place was looked at.
abbrev pub KeepsAll : (a b : Marked) → (receiver : Option ℕ) → (m : ℕ) → (from also : Option Member) → Type 0
KeepsAll a b receiver m from also =
    (p : Program) (h : Heap) (rule : ℕ) → Sound p h a → StandsBy p h (Bound receiver m) rule from also → AreIn a from → AreIn a also
    → Goes p h a b × ((y : Member) → Keeps (Bound receiver m) y → Drawn p h b y)
