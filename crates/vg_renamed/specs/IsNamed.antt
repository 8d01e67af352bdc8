-- When a source program is a typed program with names in place of its numbers: what the numbers find, the names find.
use Rattle.std.specs.Prelude.{◌≡◌, ℕ, ◌==◌, ◌&&◌, bytes_eq, map, Some, slice_get}
use Rattle.vg_source.specs.Steps.{Source}
use Rattle.vg_source.specs.State as source
use Rattle.vg_core.specs.declared.program.Field.{Field}
use Rattle.vg_core.specs.declared.program.Class.{Class}
use Rattle.vg_core.specs.declared.program.Target.{Target}
use Rattle.vg_core.specs.declared.program.Target.TheVariants.{Run}
use Rattle.vg_core.specs.declared.program.Tables.{Tables}
use Rattle.vg_core.specs.Tables.{is_below, dispatch}
use Rattle.vg_core.specs.Program.{Body, Program, Signature, signature_of, body_of}
use Rattle.vg_core.specs.Meaning.{defaults}
use Rattle.vg_core.specs.Naming.{Naming, keyed, named_target, named_routine, named_class, named_components, named_handler}

-- Two fields have the same key where they are the same field.
abbrev pub KeysTell : Naming → Tables → Type 0
KeysTell n p =
    (f g : ℕ) (x y : Field) → slice_get p.fields f ≡ Some x → slice_get p.fields g ≡ Some y
    → (bytes_eq (n.field g).owner (n.field f).owner && bytes_eq (n.field g).name (n.field f).name) ≡ (g == f)

pub record IsNamed (n : Naming) (p : Program) (q : Source) : Type 0 where
  pub routines : (t : Target) (g : Signature) (b : Body) → signature_of p.tables t ≡ Some g → body_of p t ≡ Some b
      → source.find_routine q.routines (named_target n p.tables t) ≡ Some (named_routine n p.tables t g b)
  pub classes : (c : ℕ) (k : Class) → slice_get p.tables.classes c ≡ Some k
      → source.find_class q.classes (n.class c) ≡ Some (named_class n p.tables c k)
  pub below : (c d : ℕ) (k l : Class) → slice_get p.tables.classes c ≡ Some k → slice_get p.tables.classes d ≡ Some l
      → source.is_below q (n.class c) (n.class d) ≡ is_below p.tables c d
  pub dispatches : (c s m : ℕ) → dispatch p.tables c s ≡ Some m → source.owner_of q (n.class c) (n.selector s) ≡ Some (n.method m).owner
  pub selectors : (c s m : ℕ) → dispatch p.tables c s ≡ Some m → n.selector s ≡ (n.method m).name
  pub fields : KeysTell n p.tables
  pub literals : q.literals ≡ p.tables.literals
  pub components : q.components ≡ named_components n p.tables 0 p.tables.components
  pub globals : q.globals ≡ keyed n p.tables p.tables.globals (defaults p.tables p.tables.globals)
  pub main : q.main ≡ named_target n p.tables (Run p.main)
  pub handlers : q.handlers ≡ map (named_handler n p.tables) p.handlers
