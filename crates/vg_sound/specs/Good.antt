-- What is known of each state of a run of a well typed program.
use Rattle.std.specs.Prelude.{◌≡◌, List, [], ◌∷◌, ◌++◌, length, Some}
use Rattle.vg_meaning.specs.World.{World}
use Rattle.vg_meaning.specs.Answer.{Piece}
use Rattle.vg_meaning.specs.Safe.{Safe, SafePiece, NoWay, IsRight}
use Rattle.vg_core.specs.declared.types.CoreType.{CoreType}
use Rattle.vg_core.specs.declared.value.CoreValue.{CoreValue}
use Rattle.vg_core.specs.declared.heap.Heap.{Heap}
use Rattle.vg_core.specs.declared.program.Owner.{Owner}
use Rattle.vg_core.specs.declared.program.Tables.{Tables}
use Rattle.vg_core.specs.declared.program.Target.{Target}
use Rattle.vg_core.specs.Program.{Signature, signature_of}
use Rattle.vg_core.specs.Heap.{Kind}
use Rattle.vg_core.specs.State.{State, onto}
use Rattle.vg_core.specs.Meaning.{Caller}
use Rattle.vg_core.specs.Types.{Extends, HasTypes, HasFields, AreKinds, HoldsLiterals, SelfOf}
use Rattle.vg_core.specs.Typing.{Subs}

-- A heap whose cells are of these kinds: each value in it is of its place's type, and the first cells hold the literals.
pub record TypedHeap (p : Tables) (κ : List Kind) (h : Heap) : Type 0 where
  pub cells : AreKinds p κ h.cells κ
  pub globals : HasFields p κ p.globals h.globals
  pub literals : HoldsLiterals p κ

-- A state in a body of this owner, whose parameters and locals have the types ts and where values of the types x wait; when the body
-- began the cells were of the kinds κ0.
pub record Good (p : Tables) (κ0 : List Kind) (ts : List CoreType) (o : Owner) (x : List CoreType) (s : State) : Type 0 where
  pub kinds : List Kind
  pub grown : Extends κ0 kinds
  pub heap : TypedHeap p kinds s.heap
  pub values : HasTypes p kinds s.values x
  pub locals : HasTypes p kinds s.locals ts
  pub self : SelfOf p kinds s.self o

-- The same, whatever the history.
abbrev pub GoodAt : {H : Type 0} → Tables → (κ0 : List Kind) → (ts : List CoreType) → Owner → (x : List CoreType) → State → H → Type 0
GoodAt p κ0 ts o x s h = Good p κ0 ts o x s

-- A piece leads from waiting values of the types x to those of the types y, and is never Wrong.
abbrev pub Leads : {H : Type 0} → Tables → (κ0 : List Kind) → (ts : List CoreType) → Owner → (x y : List CoreType) → Piece State H → Type 0
Leads p κ0 ts o x y f = SafePiece (GoodAt p κ0 ts o x) (GoodAt p κ0 ts o y) NoWay IsRight f

-- Calls with arguments that fit leave a value of the result's type in their place, and are never Wrong.
abbrev pub CallsRight : {H : Type 0} → Tables → Caller H → Type 0
CallsRight {H} p call =
    (κ0 : List Kind) (ts : List CoreType) (o : Owner) (us x : List CoreType) (t : Target) (g : Signature)
    → signature_of p t ≡ Some g → Subs p us (onto g.params []) → (self : CoreValue) (s : State) (w : World H)
    → (good : Good p κ0 ts o (us ++ x) s) → SelfOf p good.kinds self g.owner
    → Safe (GoodAt p κ0 ts o (g.result ∷ x)) NoWay IsRight (call t (length us) self s w)

-- The heap is typed, whatever else is in hand.
abbrev pub HasTypedHeap : Tables → Heap → Type 0
HasTypedHeap p h = (κ : List Kind) × TypedHeap p κ h

-- The same of a state, whatever the history.
abbrev pub HoldsTypedHeap : {H : Type 0} → Tables → State → H → Type 0
HoldsTypedHeap p s h = HasTypedHeap p s.heap
