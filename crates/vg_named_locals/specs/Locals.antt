-- The parameters and locals of the methods of a typed program.
use Rattle.std.specs.Prelude.{◌≡◌, ℕ, List, map, Some, slice_get}
use Rattle.vg_syntax.specs.Tree.{Node}
use Rattle.vg_source.specs.Names.{Name}
use Rattle.vg_source_widths.specs.Sized as source
use Rattle.vg_core.specs.declared.program.Target.TheVariants.{Run}
use Rattle.vg_core.specs.Naming.{naming_of, named_type}
use Rattle.vg_core.specs.Program.{Body, Program, Signature, signature_of, body_of}
use Rattle.vg_core.specs.Typing.{locals_of}

-- With names in place of numbers, their types are those of the text, method by method.
abbrev pub HaveLocals : List Name → Node → Program → Type 0
HaveLocals texts text p =
    (m : ℕ) (g : Signature) (b : Body) → signature_of p.tables (Run m) ≡ Some g → body_of p (Run m) ≡ Some b
    → slice_get (source.locals_of text) m ≡ Some (map (named_type (naming_of texts p.tables) p.tables) (locals_of g b))
