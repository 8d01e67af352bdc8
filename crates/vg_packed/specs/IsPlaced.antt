-- What a layout and a packed program owe beside what is live: numbers by counting, columns, tables of arrays, codes and procedures.
use Rattle.std.specs.Prelude.{◌≡◌, ℕ, ◌<◌, Bool, List, length, Some, slice_get}
use Rattle.vg_codes.specs.Codes.{Codes}
use Rattle.vg_core.specs.declared.program.Method.{Method}
use Rattle.vg_core.specs.declared.program.Target.TheVariants.{Run}
use Rattle.vg_core.specs.declared.types.CoreType.{CoreType}
use Rattle.vg_core.specs.Program.{Body, Program, Signature, signature_of}
use Rattle.vg_core.specs.Session.{handler_of}
use Rattle.vg_firm.specs.Program.{Program as FirmProgram}
use Rattle.vg_packing.specs.Layout.{Layout}
use Rattle.vg_packing.specs.Pass.{packed}
use Rattle.vg_packing.specs.Allowed.{IsArray}
use Rattle.vg_packing.specs.Laid.{SameEntry, IsTabled}
use Rattle.vg_numbers.specs.Numbers.{AreChains}
use Rattle.vg_placement.specs.declared.column.Column.{Column}
use Rattle.vg_placement.specs.Columns.{column_width}
use Rattle.vg_packed.specs.Apart.{HasColumns}
use Rattle.vg_packed.specs.Counted.{IsCounted}

pub record IsPlaced (p : Program) (l : Layout) (k : Codes) (f : FirmProgram) : Type 0 where
  -- the cells that are kept, and the columns
  pub kept : ℕ → Bool
  pub columns : List Column
  -- numbers are by counting, and have two bytes
  pub chains : AreChains p.tables
  pub counted : IsCounted p.tables l kept
  pub few : length l.kinds < 65536
  -- fields and elements stand in these columns, in the bytes of their types
  pub has_columns : HasColumns l kept columns
  pub widths : (t : CoreType) → l.width t ≡ column_width t
  pub items : (t : ℕ) (e : CoreType) → slice_get p.tables.types t ≡ Some e → (l.items t).width ≡ l.width e
  -- each kept array stands in the table of its type
  pub tables : (j t n : ℕ) → IsArray l j t n → IsTabled l f j t n
  -- a code number stands for its procedure, has two bytes and is not 0
  pub codes : (m q : ℕ) → l.numbering.procedure m ≡ Some q → (k.at_code (k.code q) ≡ Some q) × (0 < k.code q) × (k.code q < 65536)
  -- a method with a procedure has at most 60 parameters
  pub few_parameters : (m q : ℕ) (y : Method) → l.numbering.procedure m ≡ Some q → slice_get p.tables.methods m ≡ Some y → length y.params < 61
  -- each procedure is what its method is packed to, and entries have those of their methods
  pub procedures : (m q : ℕ) (g : Signature) (b : Body) → l.numbering.procedure m ≡ Some q → signature_of p.tables (Run m) ≡ Some g
      → slice_get p.methods m ≡ Some b → slice_get f.procedures q ≡ Some (packed p.tables l k m g b)
  pub main : l.numbering.procedure p.main ≡ Some f.main
  pub handlers : (v : ℕ) → SameEntry l (handler_of p.handlers v) (f.handler v)
