-- Tables, entries and bodies of a text, put together, are its typed program.
use Rattle.std.proofs.Common.{◌≡◌, ℕ, true, List, map, Option, Some, None, slice_get, sym, ap, ◌∙◌, subst}
use Rattle.vg_syntax.specs.Tree.{Node}
use Rattle.vg_tree.specs.declared.node.Node as held_node
use Rattle.vg_source.specs.Program.{declarations_of, program_of, entries_in, main_of, handlers_in}
use Rattle.vg_rules.specs.Breach.{Breach, ◌or◌}
use Rattle.vg_rules.specs.Signatures.{signatures_breach}
use Rattle.vg_rules.specs.Inherited.{inherited_breach}
use Rattle.vg_source_widths.specs.Sized.{locals_in}
use Rattle.vg_method_sizes.specs.Sizes.{Size, sizes, sizes_in}
use Rattle.vg_core.specs.declared.program.Program.{Program as HeldProgram}
use Rattle.vg_core.specs.declared.program.Method.{Method}
use Rattle.vg_core.specs.declared.program.Target.TheVariants.{Run}
use Rattle.vg_core.specs.HeldProgram.{body_at, program_at}
use Rattle.vg_core.specs.Naming.{naming_of, named, named_type, named_target, named_handler}
use Rattle.vg_core.specs.declared.program.Target.{Target}
use Rattle.vg_core.specs.Program.{Body, Program, Signature, signature_of, body_of}
use Rattle.vg_core.specs.Typing.{IsEntry, AreEntries, WellFormed, WellTyped, locals_of}
use Rattle.vg_renamed.specs.NamesTell.{NamesTell}
use Rattle.vg_named_locals.specs.Locals.{HaveLocals}
use Rattle.vg_written.specs.Written.{AreWritten, IsWritten, is_written}
use Rattle.vg_types_tables.specs.declared.declared.Declared.{Declared}
use Rattle.vg_types_tables.specs.Views.{declarations_at}
use Rattle.vg_types_tables.specs.Declares.{Declares}
use Rattle.vg_types_inherited.specs.Dispatches.{Dispatches}
use Rattle.vg_types_inherited.proofs.Dispatching.{well_formed, all_override}
use Rattle.vg_types_declared.specs.Named.{Keeps}
use Rattle.vg_types_declared.specs.Apart.{have_members}
use Rattle.vg_types_named.specs.Left.{Left}
use Rattle.vg_types_named.proofs.Sizes.{nodes_sized}
use Rattle.vg_types_written.proofs.Written.{written}
use Rattle.vg_types_entries.specs.declared.program.ProgramEntries.{ProgramEntries}
use Rattle.vg_types_entries.specs.Entries.{AreEntriesOf}
use Rattle.vg_types_routines.specs.declared.pass.Bodies.{Bodies}
use Rattle.vg_types_routines.specs.Bodies.{AllBodies}
use Rattle.vg_types.specs.Assembled.{IsOf}
use Rattle.vg_types.proofs.Assembling.{all_typed, program_named, names_told}
use Rattle.vg_types.specs.Passes.{IsMovedFrom, IsProgramFor}
use Rattle.vg_types.proofs.Counted.{all_called}
use Rattle.vg_types.proofs.Locals.{all_locals}

module _ (texts : List (List ℕ)) (root : held_node.Node) (d : Declared) (e : ProgramEntries) (b : Bodies) (q : HeldProgram)
    (kept : Keeps (declarations_at texts root)) (signed : signatures_breach (declarations_at texts root) (declarations_at texts root) ≡ None)
    (h : Declares texts root d) (left : Left texts (declarations_at texts root) d) (dispatches : Dispatches texts root d)
    (members : have_members (declarations_at texts root) ≡ true)
    (inherited : inherited_breach (declarations_at texts root) (declarations_at texts root) ≡ None) (entered : AreEntriesOf texts root d e)
    (bodies : AllBodies texts root d (declarations_at texts root) b.methods.items b.makings.items b.starts.items) (moved : IsMovedFrom d e b q) where
  abbrev ds : Node
  ds = declarations_at texts root

  abbrev p : Program
  p = program_at q

  is_of : IsOf d b.methods.items b.makings.items b.starts.items p
  is_of = record {
    tables = moved.tables;
    methods = ap (map body_at) moved.methods;
    makings = ap (map body_at) moved.makings;
    starts = ap (map body_at) moved.starts;
  }

  main_named : named_target (naming_of texts d.tables) p.tables (Run p.main) ≡ main_of (entries_in ds)
  main_named =
      ap (λ z. named_target (naming_of texts d.tables) z (Run p.main)) moved.tables
      ∙ ap (λ z. named_target (naming_of texts d.tables) d.tables (Run z)) moved.main ∙ entered.main

  handlers_named : map (named_handler (naming_of texts d.tables) p.tables) p.handlers ≡ handlers_in (entries_in ds)
  handlers_named =
      ap (λ z. map (named_handler (naming_of texts d.tables) z) p.handlers) moved.tables
      ∙ ap (map (named_handler (naming_of texts d.tables) d.tables)) moved.handlers ∙ entered.handlers

  typed : WellTyped p
  typed = record {
    tables = subst WellFormed (sym moved.tables) (well_formed d.tables h.formed (all_override texts root d h dispatches inherited));
    bodies = all_typed texts root d b.methods.items b.makings.items b.starts.items p kept h left bodies is_of;
    main = subst (IsEntry p) (sym moved.main) (entered.main_is p moved.tables);
    handlers = subst (AreEntries p) (sym moved.handlers) (entered.handlers_are p moved.tables);
  }

  source_named : program_of ds ≡ named (naming_of texts p.tables) p
  source_named =
      program_named texts root d b.methods.items b.makings.items b.starts.items p kept h left bodies is_of main_named handlers_named
      ∙ ap (λ z. named (naming_of texts z) p) (sym moved.tables)

  names_tell : NamesTell (naming_of texts p.tables) p
  names_tell =
      subst (λ z. NamesTell (naming_of texts z) p) (sym moved.tables)
      (names_told texts root d b.methods.items b.makings.items b.starts.items p kept h left bodies is_of signed members)

  nodes_kept : (tree : Node) → declarations_of tree ≡ ds
      → map (λ (m : Method). m.nodes) p.tables.methods ≡ map (λ (s : Size). s.nodes) (sizes tree)
  nodes_kept tree same =
      ap (λ t. map (λ (m : Method). m.nodes) t.methods) moved.tables ∙ nodes_sized texts ds d left
      ∙ ap (λ z. map (λ (s : Size). s.nodes) (sizes_in z)) (sym same)

  fields_kept : (tree : Node) → declarations_of tree ≡ ds → IsWritten texts tree p.tables
  fields_kept tree same = is_written (subst (AreWritten texts tree) (sym moved.tables) (written texts ds d kept left tree same))

  bodies_called : (t : Target) (b : Body) → body_of p t ≡ Some b → (g : Signature) × (signature_of p.tables t ≡ Some g)
  bodies_called =
      all_called texts root d ds b.methods.items b.makings.items b.starts.items (naming_of texts p.tables) p bodies is_of.methods is_of.makings is_of.starts
      source_named (ap (λ t. map (λ (m : Method). m.nodes) t.methods) moved.tables ∙ nodes_sized texts ds d left)

  locals_kept : (tree : Node) → declarations_of tree ≡ ds → HaveLocals texts tree p
  locals_kept tree same m g body e q =
      ap (λ z. slice_get (locals_in z z) m) same
      ∙ all_locals texts root d b.methods.items b.makings.items b.starts.items kept left bodies m g body
      (ap (λ z. signature_of z (Run m)) (sym moved.tables) ∙ e) (ap (λ z. slice_get z m) (sym is_of.methods) ∙ q)
      ∙ ap (λ z. Some (map (named_type (naming_of texts z) z) (locals_of g body))) (sym moved.tables)

  pub is_program : IsProgramFor texts ds p
  is_program tree same =
      record {
        program = record {
          named = ap program_of same ∙ source_named;
          typed = typed;
          told = names_tell;
          nodes = nodes_kept tree same;
          written = fields_kept tree same;
          called = bodies_called;
          members = ap have_members same ∙ members;
        };
        locals = locals_kept tree same;
      }

-- where three parts have no breach there is none
pub none_of_three : (a b c : Option Breach) → a ≡ None → b ≡ None → c ≡ None → a or b or c ≡ None
none_of_three a b c e f g = ap (λ z. z or b or c) e ∙ ap (λ z. z or c) f ∙ g
