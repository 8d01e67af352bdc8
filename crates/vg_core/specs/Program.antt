-- Programs as definitions see them: the tables, and structured code in place of boxes and rows.
use Rattle.std.specs.Prelude.{ℕ, List, [], Option, Some, None, slice_get}
use Rattle.vg_meaning.specs.Code.{Code}
use Rattle.vg_core.specs.declared.types.CoreType.{CoreType}
use Rattle.vg_core.specs.declared.types.CoreType.TheVariants.{NoType}
use Rattle.vg_core.specs.declared.step.Step.{Step}
use Rattle.vg_core.specs.declared.program.Owner.{Owner}
use Rattle.vg_core.specs.declared.program.Owner.TheVariants.{InClass, InComponent}
use Rattle.vg_core.specs.declared.program.Method.{Method}
use Rattle.vg_core.specs.declared.program.Class.{Class}
use Rattle.vg_core.specs.declared.program.Handler.{Handler}
use Rattle.vg_core.specs.declared.program.Target.{Target}
use Rattle.vg_core.specs.declared.program.Target.TheVariants.{Run, Construct, Start}
use Rattle.vg_core.specs.declared.program.Tables.{Tables}

-- A body: the types of its locals behind the parameters, and its code.
pub record Body : Type 0 where
  pub others : List CoreType
  pub code : Code Step

-- A program: its tables, the bodies of its methods, the constructions of its classes and the initialisations of its components.
pub record Program : Type 0 where
  pub tables : Tables
  pub methods : List Body
  pub makings : List Body
  pub starts : List Body
  pub main : ℕ
  pub handlers : List Handler

-- Whose it is that is called, the types of its parameters, and that of its result.
pub record Signature : Type 0 where
  pub owner : Owner
  pub params : List CoreType
  pub result : CoreType

abbrev pub method_signature : Option Method → Option Signature
method_signature None = None
method_signature (Some m) = Some (record { owner = m.owner; params = m.params; result = m.result })

-- A construction has no result.
abbrev pub making_signature : (c : ℕ) → Option Class → Option Signature
making_signature c None = None
making_signature c (Some k) = Some (record { owner = InClass c; params = k.params; result = NoType })

-- An initialisation has no parameters and no result.
abbrev pub start_signature : (k : ℕ) → Option ℕ → Option Signature
start_signature k None = None
start_signature k (Some name) = Some (record { owner = InComponent k; params = []; result = NoType })

-- The signature of a target.
abbrev pub signature_of : Tables → Target → Option Signature
signature_of p (Run m) = method_signature (slice_get p.methods m)
signature_of p (Construct c) = making_signature c (slice_get p.classes c)
signature_of p (Start k) = start_signature k (slice_get p.components k)

-- The body of a target.
abbrev pub body_of : Program → Target → Option Body
body_of p (Run m) = slice_get p.methods m
body_of p (Construct c) = slice_get p.makings c
body_of p (Start k) = slice_get p.starts k
