-- A layout is the one of a live set.
use Rattle.std.specs.Prelude.{◌≡◌, ℕ, ◌<◌, true, map, Some, None, slice_get}
use Rattle.vg_codes.specs.Codes.{Codes}
use Rattle.vg_codes.specs.Dispatch.{dispatched}
use Rattle.vg_core.specs.declared.heap.Heap.{Heap}
use Rattle.vg_core.specs.declared.member.Member.TheVariants.{Method, Field, Cell}
use Rattle.vg_core.specs.declared.program.Field.{Field as TheField}
use Rattle.vg_core.specs.declared.program.Method.{Method as TheMethod}
use Rattle.vg_core.specs.declared.program.Owner.TheVariants.{InClass, InComponent}
use Rattle.vg_core.specs.declared.step.Step.{Step}
use Rattle.vg_core.specs.declared.value.CoreValue.{CoreValue}
use Rattle.vg_core.specs.Heap.{kind_of, Place, value_at}
use Rattle.vg_core.specs.Program.{Program}
use Rattle.vg_core.specs.Tables.{is_below, dispatch}
use Rattle.vg_firm.specs.declared.step.Home.TheVariants.{Ram}
use Rattle.vg_firm.specs.Program.{Program as FirmProgram}
use Rattle.vg_firm.specs.Session.{is_among}
use Rattle.vg_coded.specs.Numbers.{coded}
use Rattle.vg_packing.specs.Layout.{Column, Layout, Spot, spot}
use Rattle.vg_packing.specs.Allowed.{IsObject, IsRead, IsWritten}
use Rattle.vg_packing.specs.Packs.{IsKeptPlace, entry_at}
use Rattle.vg_live.specs.Uses.{Asked, asked, made_at}
use Rattle.vg_live.specs.Rules.{Live}
use Rattle.vg_packed.specs.Uses.{Has, HasDelegates, Calls, assigned_field, assigned_items}

pub record IsOf (p : Program) (h : Heap) (l : Layout) (k : Codes) (f : FirmProgram) : Type 0 where
  -- the kinds of cells are those of the heap
  pub kinds : map kind_of h.cells ≡ l.kinds
  -- a cell has a number exactly where it is live
  pub cells : (j : ℕ) → Live p h (Some (Cell j)) → 0 < l.numbering.number j
  pub only_cells : (j : ℕ) → 0 < l.numbering.number j → Live p h (Some (Cell j))
  -- a live field of a component has a column, and so has a live field of a class, where a kept object has the field
  pub component_fields : (f k : ℕ) (y : TheField) → slice_get p.tables.fields f ≡ Some y → y.owner ≡ InComponent k → Live p h (Some (Field f))
      → (c : Column) × (l.column f ≡ Some c)
  pub class_fields : (f : ℕ) → Live p h (Some (Field f)) → IsRead p.tables l f
  -- no other field has one
  pub only_fields : (f : ℕ) (c : Column) → l.column f ≡ Some c → Live p h (Some (Field f))
  -- a method has a procedure exactly where it is live
  pub methods : (m : ℕ) → Live p h (Some (Method m)) → (q : ℕ) × (l.numbering.procedure m ≡ Some q)
  pub only_methods : (m q : ℕ) → l.numbering.procedure m ≡ Some q → Live p h (Some (Method m))
  -- a method may be the value of a delegate exactly where a live method or a live place makes it one
  pub bindable : (m : ℕ) → HasDelegates p h m → l.numbering.bindable m ≡ true
  pub only_bindable : (m : ℕ) → l.numbering.bindable m ≡ true → HasDelegates p h m
  -- methods of classes get a receiver, and so does each that may be the value of a delegate
  pub class_receives : (m c : ℕ) (y : TheMethod) → slice_get p.tables.methods m ≡ Some y → y.owner ≡ InClass c → l.receives m ≡ true
  pub bindable_receives : (m : ℕ) → l.numbering.bindable m ≡ true → l.receives m ≡ true
  -- a procedure names those that its method may call
  pub edges : (m n q : ℕ) → Calls p h m n → l.numbering.procedure n ≡ Some q → is_among (l.edges m) q ≡ true
  -- no live method makes an object or an array
  pub nothing_made : (m : ℕ) (s : Step) → Has p h m s → made_at s ≡ None
  -- what live methods assign stands in RAM
  pub fields_in_ram : (m x : ℕ) (s : Step) → Has p h m s → assigned_field s ≡ Some x → IsWritten (l.column x)
  pub items_in_ram : (m t : ℕ) (s : Step) → Has p h m s → assigned_items s ≡ Some t → (l.items t).home ≡ Ram
  -- the dispatch of a static class and a selector that a live method asks for has the procedure of what each kept object finds
  pub dispatches : (m j d n q : ℕ) (s : Step) (x : Asked) → Has p h m s → asked s ≡ Some x → IsObject l j d → is_below p.tables d x.class ≡ true
      → dispatch p.tables d x.selector ≡ Some n → l.numbering.procedure n ≡ Some q
      → dispatched f.dispatches (l.dispatch x.class x.selector) (l.numbering.number j) ≡ Some q
  -- the columns hold the numbers of the values that the heap has in the places with these spots
  pub values : (x : Place) (o : Spot) (v : CoreValue) → IsKeptPlace l x → spot p.tables l x ≡ Some o → value_at p.tables h x ≡ Some v
      → entry_at f f.ram o ≡ Some (coded l.numbering k v)
