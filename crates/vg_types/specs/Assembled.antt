-- A program that is put together of tables and bodies.
use Rattle.std.specs.Prelude.{◌≡◌, List, map, Some}
use Rattle.vg_core.specs.declared.program.Body.{Body as HeldBody}
use Rattle.vg_core.specs.declared.program.Target.{Target}
use Rattle.vg_core.specs.HeldProgram.{body_at}
use Rattle.vg_core.specs.Program.{Body, Program, Signature, signature_of, body_of}
use Rattle.vg_core.specs.Typing.{TypedBody}
use Rattle.vg_types_tables.specs.declared.declared.Declared.{Declared}

-- The tables are these, and so are the bodies of methods, constructions and initialisations.
pub record IsOf (d : Declared) (ms ks ss : List HeldBody) (p : Program) : Type 0 where
  pub tables : p.tables ≡ d.tables
  pub methods : p.methods ≡ map body_at ms
  pub makings : p.makings ≡ map body_at ks
  pub starts : p.starts ≡ map body_at ss

-- What has a signature has a body, which is typed.
abbrev pub AreTyped : Program → Type 0
AreTyped p = (t : Target) (g : Signature) → signature_of p.tables t ≡ Some g → (b : Body) × (body_of p t ≡ Some b) × TypedBody p.tables g b
