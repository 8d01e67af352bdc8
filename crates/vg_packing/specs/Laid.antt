-- What a layout must satisfy.
use Rattle.std.specs.Prelude.{◌≡◌, ℕ, ◌+◌, ◌*◌, ◌<◌, ◌^◌, true, false, List, [], map, length, Option, Some, None, slice_get}
use Rattle.vg_meaning.specs.Shapes.{Fits}
use Rattle.vg_codes.specs.Codes.{Codes}
use Rattle.vg_codes.specs.Dispatch.{is_within}
use Rattle.vg_core.specs.declared.heap.Cell.{Cell}
use Rattle.vg_core.specs.declared.heap.Heap.{Heap}
use Rattle.vg_core.specs.declared.program.Method.{Method}
use Rattle.vg_core.specs.declared.program.Tables.{Tables}
use Rattle.vg_core.specs.declared.program.Target.TheVariants.{Run}
use Rattle.vg_core.specs.declared.types.CoreType.{CoreType}
use Rattle.vg_core.specs.declared.value.CoreValue.{CoreValue}
use Rattle.vg_core.specs.Heap.{kind_of, Place, value_at}
use Rattle.vg_core.specs.Program.{Body, Program, Signature, signature_of, body_of}
use Rattle.vg_core.specs.Session.{handler_of}
use Rattle.vg_core.specs.State.{is_of}
use Rattle.vg_core.specs.Tables.{is_below, one_hierarchy}
use Rattle.vg_core.specs.Typing.{locals_of}
use Rattle.vg_firm.specs.declared.step.ArrayPlace.{ArrayPlace}
use Rattle.vg_firm.specs.Program.{Program as FirmProgram}
use Rattle.vg_firm.specs.Meaning.{fits, array_at}
use Rattle.vg_coded.specs.Numbers.{coded}
use Rattle.vg_coded.specs.Kept.{HasSmallNumbers, IsKept}
use Rattle.vg_packing.specs.Layout.{Layout, Spot, spot}
use Rattle.vg_packing.specs.Pass.{packed}
use Rattle.vg_packing.specs.Allowed.{IsObject, IsArray, IsSmall, AreSmall, allowing}
use Rattle.vg_packing.specs.Packs.{IsKeptPlace}

-- An entry has the procedure of its method, and no method has none.
abbrev pub SameEntry : Layout → Option ℕ → Option ℕ → Type 0
SameEntry l None None = Unit {0}
SameEntry l (Some m) (Some q) = l.numbering.procedure m ≡ Some q
SameEntry l _ _ = ⊥

-- Where the table of its type says that a kept array stands: its length, and where its elements begin in their column. A length has less
-- than 32 bits, so no negative index is below it.
pub record IsTabled (l : Layout) (f : FirmProgram) (j t n : ℕ) : Type 0 where
  pub place : ArrayPlace
  pub there : array_at f (l.items t).table (l.numbering.number j) ≡ Some place
  pub length_is : place.length ≡ n
  pub short : n < 2 ^ 31
  pub wide : 0 < n → 0 < (l.items t).width
  pub stands : 0 < n → place.address ≡ (l.items t).address + (l.items t).width * l.start j

-- What the procedure of a method is.
pub record IsPacked (p : Tables) (l : Layout) (k : Codes) (f : FirmProgram) (m q : ℕ) (g : Signature) (b : Body) : Type 0 where
  pub procedure : slice_get f.procedures q ≡ Some (packed p l k m g b)
  pub code : Fits (allowing p l f (l.edges m) (locals_of g b) g.owner g.result) false b.code [] []
  pub others : AreSmall b.others
  pub result : IsSmall g.result

pub record Laid (p : Program) (l : Layout) (k : Codes) (f : FirmProgram) : Type 0 where
  -- numbers: those of a class with all below it lie side by side; in one hierarchy, and among the arrays of one type, no two cells have one
  pub small : HasSmallNumbers l.numbering k
  pub spans : (j d c : ℕ) → IsObject l j d → one_hierarchy p.tables d c ≡ true
      → is_below p.tables d c ≡ is_within (l.first c) (l.count c) (l.numbering.number j)
  pub no_null : (c : ℕ) → is_within (l.first c) (l.count c) 0 ≡ false
  pub one_object : (i j d e : ℕ) → IsObject l i d → IsObject l j e → one_hierarchy p.tables d e ≡ true → l.numbering.number i ≡ l.numbering.number j
      → i ≡ j
  pub one_array : (i j t n m : ℕ) → IsArray l i t n → IsArray l j t m → l.numbering.number i ≡ l.numbering.number j → i ≡ j
  -- columns: a value fits into the bytes of its type, two kept places with one spot are one place, and kept arrays stand in their tables
  pub widths : (cells : List Cell) (t : CoreType) (v : CoreValue) → is_of p.tables cells t v ≡ true → IsKept l.numbering v
      → fits (l.width t) (coded l.numbering k v) ≡ true
  pub items : (t : ℕ) (e : CoreType) → slice_get p.tables.types t ≡ Some e → (l.items t).width ≡ l.width e
  pub apart : (h : Heap) → map kind_of h.cells ≡ l.kinds → (x y : Place) (v u : CoreValue) (o : Spot) → IsKeptPlace l x → IsKeptPlace l y
      → value_at p.tables h x ≡ Some v → value_at p.tables h y ≡ Some u → spot p.tables l x ≡ Some o → spot p.tables l y ≡ Some o → y ≡ x
  pub tables : (j t n : ℕ) → IsArray l j t n → IsTabled l f j t n
  -- procedures
  pub bodies : (m q : ℕ) (g : Signature) (b : Body) → l.numbering.procedure m ≡ Some q → signature_of p.tables (Run m) ≡ Some g
      → body_of p (Run m) ≡ Some b → IsPacked p.tables l k f m q g b
  pub procedures : (m q : ℕ) → l.numbering.procedure m ≡ Some q → q < length f.procedures
  pub receivers : (m : ℕ) → l.numbering.bindable m ≡ true → l.receives m ≡ true
  pub few_parameters : (m q : ℕ) (y : Method) → l.numbering.procedure m ≡ Some q → slice_get p.tables.methods m ≡ Some y → length y.params < 61
  pub main : l.numbering.procedure p.main ≡ Some f.main
  pub handlers : (v : ℕ) → SameEntry l (handler_of p.handlers v) (f.handler v)
