-- How the states of the two programs are related.
use Rattle.std.specs.Prelude.{◌≡◌, ℕ, ◌<◌, List, [], ◌∷◌, map, Option, Some}
use Rattle.vg_codes.specs.Codes.{Codes}
use Rattle.vg_core.specs.declared.heap.Heap.{Heap}
use Rattle.vg_core.specs.declared.program.Owner.{Owner}
use Rattle.vg_core.specs.declared.program.Owner.TheVariants.{InClass, InComponent}
use Rattle.vg_core.specs.declared.program.Tables.{Tables}
use Rattle.vg_core.specs.declared.value.CoreValue.{CoreValue}
use Rattle.vg_core.specs.Heap.{kind_of, Place, OfComponent, OfObject, OfArray, value_at}
use Rattle.vg_core.specs.State.{State}
use Rattle.vg_firm.specs.declared.step.Home.{Home}
use Rattle.vg_firm.specs.declared.step.Home.TheVariants.{Ram, Flash}
use Rattle.vg_firm.specs.Program.{Program as FirmProgram}
use Rattle.vg_firm.specs.Meaning.{State as FirmState, entry}
use Rattle.vg_coded.specs.Numbers.{coded}
use Rattle.vg_coded.specs.Kept.{IsKept}
use Rattle.vg_packing.specs.Layout.{Layout, Spot, spot}

abbrev pub AreKept : Layout → List CoreValue → Type 0
AreKept l [] = Unit {0}
AreKept l (v ∷ vs) = IsKept l.numbering v × AreKept l vs

-- A field of a component, or a place of a cell that is kept.
abbrev pub IsKeptPlace : Layout → Place → Type 0
IsKeptPlace l (OfComponent f) = Unit {0}
IsKeptPlace l (OfObject j f) = 0 < l.numbering.number j
IsKeptPlace l (OfArray j i) = 0 < l.numbering.number j

-- The columns of a home.
abbrev pub columns_at : FirmProgram → Home → (ram : List (List ℕ)) → List (List ℕ)
columns_at f Ram cols = cols
columns_at f Flash cols = f.flash

abbrev pub entry_at : FirmProgram → (ram : List (List ℕ)) → Spot → Option ℕ
entry_at f cols o = entry (columns_at f o.home cols) o.column o.index

-- The columns hold what the heap holds: the kinds of its cells are those of the layout, and each kept place that has a spot holds a kept
-- value, whose number stands there.
pub record Holds (p : Tables) (l : Layout) (k : Codes) (f : FirmProgram) (h : Heap) (cols : List (List ℕ)) : Type 0 where
  pub shaped : map kind_of h.cells ≡ l.kinds
  pub held : (x : Place) (o : Spot) (v : CoreValue) → IsKeptPlace l x → spot p l x ≡ Some o → value_at p h x ≡ Some v
      → IsKept l.numbering v × (entry_at f cols o ≡ Some (coded l.numbering k v))

-- In a body of a class the receiver is there.
abbrev pub Receiver : Layout → Codes → Owner → CoreValue → Option ℕ → Type 0
Receiver l k (InClass c) self number = number ≡ Some (coded l.numbering k self)
Receiver l k (InComponent c) self number = Unit {0}

-- In a body of this owner: all values that wait or stand in locals are kept, and their numbers wait and stand in locals.
pub data Packs (p : Tables) (l : Layout) (k : Codes) (f : FirmProgram) (o : Owner) : State → FirmState → Type 0 where
  packs : {vs ls : List CoreValue} {self : CoreValue} {h : Heap} {number : Option ℕ} {cols : List (List ℕ)}
      → AreKept l vs → AreKept l ls → IsKept l.numbering self → Receiver l k o self number → Holds p l k f h cols
      → Packs p l k f o (record { values = vs; locals = ls; self = self; heap = h })
      (record { values = map (coded l.numbering k) vs; locals = map (coded l.numbering k) ls; self = number; columns = cols })
