-- What a program says of ranges: of its constants, casts, types and literals.
use Rattle.std.specs.Prelude.{◌≡◌, ℕ, ◌<◌, ◌^◌, List, [], ◌∷◌, length, Some, slice_get}
use Rattle.vg_core.specs.declared.types.CoreType.{CoreType}
use Rattle.vg_core.specs.declared.program.Field.{Field}
use Rattle.vg_core.specs.declared.program.Tables.{Tables}
use Rattle.vg_core.specs.declared.program.Target.{Target}
use Rattle.vg_core.specs.declared.step.Step.{Step}
use Rattle.vg_core.specs.declared.step.Step.TheVariants.{Put, CastTo, NewArray, Super}
use Rattle.vg_core.specs.Program.{Body, Program, Signature, signature_of, body_of}
use Rattle.vg_live.specs.Uses.{uses, steps_of}
use Rattle.vg_packing.specs.Allowed.{IsSmall, AreSmall}
use Rattle.vg_placement.specs.Columns.{column_width}
use Rattle.vg_packed.specs.Plain.{IsConstant}
use Rattle.vg_packed.specs.Few.{HaveFewArguments}
use Rattle.vg_packed.specs.Ready.{HaveWideFields}

abbrev pub AreBytes : List ℕ → Type 0
AreBytes [] = Unit {0}
AreBytes (b ∷ bs) = (b < 256) × AreBytes bs

-- Bit strings among values of the type of this number have at most 32 bits, and a value takes at least one byte.
abbrev pub AreItems : Tables → (t : ℕ) → Type 0
AreItems p t = (e : CoreType) → slice_get p.types t ≡ Some e → IsSmall e × (0 < column_width e)

-- A constant is in its range, a cast to a bit string is to one of at most 32 bits, and an array that is made has such elements.
abbrev pub IsRangedStep : Tables → Step → Type 0
IsRangedStep p (Put v) = IsConstant v
IsRangedStep p (CastTo at t u) = IsSmall u
IsRangedStep p (NewArray at t) = AreItems p t
IsRangedStep p _ = Unit {0}

-- All of this holds of methods, constructions and initialisations. Locals, results and fields have bit strings of at most 32 bits, and fields have
-- bytes. Methods run no construction of a class above, and calls of methods have at most 255 arguments.
pub record HaveRanges (p : Program) : Type 0 where
  pub steps : (t : Target) (b : Body) (i : ℕ) (s : Step) → body_of p t ≡ Some b → slice_get (uses b.code) i ≡ Some s → IsRangedStep p.tables s
  pub others : (t : Target) (b : Body) → body_of p t ≡ Some b → AreSmall b.others
  pub results : (t : Target) (g : Signature) → signature_of p.tables t ≡ Some g → IsSmall g.result
  pub fields : (f : ℕ) (y : Field) → slice_get p.tables.fields f ≡ Some y → IsSmall y.type_
  pub literals : (k : ℕ) (bytes : List ℕ) → slice_get p.tables.literals k ≡ Some bytes → AreBytes bytes × (length bytes < 2 ^ 31)
  pub wide : HaveWideFields p.tables
  pub constructors : (m i c count : ℕ) → slice_get (steps_of p m) i ≡ Some (Super c count) → ⊥
  pub few_arguments : HaveFewArguments p
