-- What makes a class and what starts a component, of what is built of its members.
use Rattle.std.proofs.Common.{◌≡◌, ℕ, List, [], ◌∷◌, length, Option, None, refl, ap, ◌∙◌, subst}
use Rattle.vg_syntax.specs.Tree.{Node}
use Rattle.vg_tree.specs.declared.node.Node as held_node
use Rattle.vg_source.specs.Program.{constructor_in}
use Rattle.vg_core.specs.declared.types.CoreType.{CoreType}
use Rattle.vg_core.specs.declared.program.Body.{Body}
use Rattle.vg_core.specs.declared.program.Owner.TheVariants.{InClass, InComponent}
use Rattle.vg_types_tables.specs.declared.declared.Declared.{Declared}
use Rattle.vg_types_bodies.specs.declared.making.Constructed.{Constructed}
use Rattle.vg_types_bodies.specs.Makings.{ConstructedRuns}
use Rattle.vg_types_bodies.specs.Routines.{IsBelow, IsMade, IsStarted}
pub use Rattle.vg_types_bodies.proofs.Makings.{row_length}
pub use Rattle.vg_types_bodies.proofs.Routines.{method_is}
use Rattle.vg_types_bodies.proofs.Routines.{making_is, start_is, making_typed, start_typed}
pub use Rattle.vg_types_bodies.proofs.Signatures.{same_row}
use Rattle.vg_types_routines.specs.declared.walked.Walked.{Walked}
use Rattle.vg_types_routines.specs.declared.homes.Home.{Home}
use Rattle.vg_types_routines.specs.Walked.{IsMadeOf, IsWalked}
use Rattle.vg_types_routines.specs.Homes.{IsClassHome, IsComponentHome}

no_types : (ts : List CoreType) → length ts ≡ 0 → ts ≡ []
no_types [] h = refl
no_types (t ∷ ts) h = absurd (cc)

module _ (texts : List (List ℕ)) (root : held_node.Node) (d : Declared) where
  pub class_done : (class : ℕ) (above : Option ℕ) (members : Node) (before : List Body) (w : Walked) (c : Constructed) (h : Home)
      → IsBelow d.tables class above → IsWalked texts root d (InClass class) above members before w
      → IsMadeOf texts root d (InClass class) above (constructor_in members) c → IsMade c w.inits.items h.body → h.methods.items ≡ w.methods.items
      → IsClassHome texts root d class above members before h
  class_done class above members before w c h b i m k e = record {
    own = i.added;
    methods = e ∙ i.methods;
    are = i.are;
    making = record {
      params = m.params;
      known = m.known;
      written = m.written;
      is = making_is texts root d class above members (constructor_in members) m.params c w.inits.items h.body m.is
          (row_length texts d m.params (constructor_in members).params m.written) i.inits k;
      typed = making_typed d.tables class above m.params c w.inits.items h.body b m.runs i.runs k;
    };
  }

  pub component_done : (component : ℕ) (members : Node) (before : List Body) (w : Walked) (c : Constructed) (h : Home)
      → IsWalked texts root d (InComponent component) None members before w
      → IsMadeOf texts root d (InComponent component) None (constructor_in members) c → IsStarted c w.inits.items h.body → h.methods.items ≡ w.methods.items
      → IsComponentHome texts root d component members before h
  component_done component members before w c h i m k e =
      let none : m.params ≡ []
      = no_types m.params (row_length texts d m.params (constructor_in members).params m.written ∙ ap length m.takes) in
      record {
        own = i.added;
        methods = e ∙ i.methods;
        are = i.are;
        start = record {
          is = start_is texts root d component None members (constructor_in members) c w.inits.items h.body m.takes m.is i.inits k;
          typed = start_typed d.tables component None c w.inits.items h.body
              (subst (λ z. ConstructedRuns d.tables (InComponent component) None z c) none m.runs) i.runs k;
        };
      }
