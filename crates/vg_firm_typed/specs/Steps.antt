-- What a step of a packed procedure takes of the values that wait, what it leaves in their place, and what it names.
use Rattle.std.specs.Prelude.{◌≡◌, ◌⊎◌, ℕ, suc, ◌+◌, ◌^◌, ◌<◌, ◌≤◌, List, Some, None, slice_get}
use Rattle.vg_firm.specs.declared.step.Home.{Home}
use Rattle.vg_firm.specs.declared.step.Home.TheVariants.{Ram, Flash}
use Rattle.vg_firm.specs.declared.step.Elements.{Elements}
use Rattle.vg_firm.specs.declared.step.Step.{Step}
use Rattle.vg_firm.specs.declared.step.Step.TheVariants.{Number, Local, SetLocal, Forget, Operate, Apply, WriteDevice, Load, Store}
use Rattle.vg_firm.specs.declared.step.Step.TheVariants.{LoadAt, StoreAt, LoadNothing, StoreNothing, LoadItem, StoreItem, Length, IsWithin}
use Rattle.vg_firm.specs.declared.step.Step.TheVariants.{StopUnlessWithin, BindFor, Call, CallFor, CallValue, Idle}
use Rattle.vg_flatten_shapes.specs.declared.layout.Place.{Place}
use Rattle.vg_flatten_shapes.specs.declared.layout.Layout.{Layout}

-- ---- values

-- So many of the newest values are taken: the operands and the arguments, and an object or a delegate below them.
abbrev pub takes : Step → ℕ
takes (SetLocal i) = 1
takes Forget = 1
takes (Operate op) = 2
takes (Apply op) = 1
takes (WriteDevice address) = 1
takes (Store c width) = 1
takes (LoadAt home c first) = 1
takes (StoreAt c first width) = 2
takes LoadNothing = 1
takes StoreNothing = 2
takes (LoadItem e) = 2
takes (StoreItem e) = 3
takes (Length table) = 1
takes (IsWithin first count) = 1
takes (StopUnlessWithin first count) = 1
takes (BindFor d) = 1
takes (Call q count) = count
takes (CallFor d count) = suc count
takes (CallValue count) = suc count
takes p = 0

-- So many wait in their place.
abbrev pub leaves : Step → ℕ
leaves (SetLocal i) = 0
leaves Forget = 0
leaves (WriteDevice address) = 0
leaves (Store c width) = 0
leaves (StoreAt c first width) = 0
leaves StoreNothing = 0
leaves (StoreItem e) = 0
leaves Idle = 0
leaves p = 1

-- ---- columns and tables

-- One to four bytes.
abbrev pub IsWidth : ℕ → Type 0
IsWidth w = (1 ≤ w) × (w ≤ 4)

abbrev pub columns_of : Layout → Home → List Place
columns_of lay Ram = lay.ram
columns_of lay Flash = lay.flash

-- There is a column with this number, whose entries have one to four bytes.
abbrev pub HasColumn : List Place → (column : ℕ) → Type 0
HasColumn places c = (place : Place) × (slice_get places c ≡ Some place) × IsWidth place.width

-- Its entries have so many bytes.
abbrev pub HasWidth : List Place → (column width : ℕ) → Type 0
HasWidth places c width = (place : Place) × (slice_get places c ≡ Some place) × IsWidth width × (width ≡ place.width)

-- There is a table with this number. No table begins in the first four bytes of flash, where the program begins.
abbrev pub HasTable : Layout → (table : ℕ) → Type 0
HasTable lay t = (address : ℕ) × (slice_get lay.tables t ≡ Some address) × (4 ≤ address)

-- The elements of the arrays of a type stand where their column does, in as many bytes.
abbrev pub HasElements : Layout → List Place → Elements → Type 0
HasElements lay places e =
    (place : Place) × (slice_get places e.column ≡ Some place) × (e.address ≡ place.address) × (e.width ≡ place.width) × IsWidth e.width × HasTable lay e.table

-- There is no table with this number: no array of its type is kept, and all that such an array can be is null.
abbrev pub LacksTable : Layout → (table : ℕ) → Type 0
LacksTable lay t = slice_get lay.tables t ≡ None

-- There is a table with this number, and no column of elements: each array of its type that is kept has none.
abbrev pub LacksColumn : Layout → List Place → Elements → Type 0
LacksColumn lay places e = (slice_get places e.column ≡ None) × HasTable lay e.table

-- What a step names is there: locals, of which there are so many, columns, and tables where there are arrays. Numbers have at most 32 bits.
abbrev pub Names : Layout → (locals : ℕ) → Step → Type 0
Names lay locals (Number v) = v < 2 ^ 32
Names lay locals (Local i) = i < locals
Names lay locals (SetLocal i) = i < locals
Names lay locals (Load home c) = HasColumn (columns_of lay home) c
Names lay locals (Store c width) = HasWidth lay.ram c width
Names lay locals (LoadAt home c first) = HasColumn (columns_of lay home) c
Names lay locals (StoreAt c first width) = HasWidth lay.ram c width
Names lay locals (LoadItem e) = HasElements lay (columns_of lay e.home) e ⊎ (LacksTable lay e.table ⊎ LacksColumn lay (columns_of lay e.home) e)
Names lay locals (StoreItem e) = HasElements lay lay.ram e ⊎ (LacksTable lay e.table ⊎ LacksColumn lay lay.ram e)
Names lay locals (Length table) = HasTable lay table ⊎ LacksTable lay table
Names lay locals (IsWithin first count) = first + count < 2 ^ 32
Names lay locals (StopUnlessWithin first count) = first + count < 2 ^ 32
Names lay locals p = Unit {0}
