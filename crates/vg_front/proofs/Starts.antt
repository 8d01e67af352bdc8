-- From what the parts answer for a tree to what is answered to the bytes.
use Rattle.std.proofs.Common.{◌≡◌, ℕ, ◌⊎◌, List, Option, Some, None, Result, Ok, Err, refl, sym, ap, ◌∙◌, subst, inl, inr}
use Rattle.std.specs.Option.{option_map}
use Rattle.vg_base.specs.declared.refusal.Refusal.{Refusal}
use Rattle.vg_base.specs.declared.refusal.Refusal.TheVariants as refusal
use Rattle.vg_meaning.specs.Answer.{End, Stops, Touches, OutOfClock, OutOfDepth, OutOfRoom}
use Rattle.vg_syntax.specs.Faults.{IsText}
use Rattle.vg_syntax.specs.Reads.{Reads}
use Rattle.vg_syntax.specs.Tree.{Node}
use Rattle.vg_source.specs.Program.{source_of}
use Rattle.vg_source.specs.Session as source
use Rattle.vg_source.specs.Values.{Heap}
use Rattle.vg_rules.specs.Refusal.{Refused, refusal_of}
use Rattle.vg_rules.specs.Refusal as refused
use Rattle.vg_tree_walks.specs.Whole.{tree_at}
use Rattle.vg_tree_walks.specs.declared.tree.Tree.{Tree}
use Rattle.vg_core.specs.Naming.{naming_of, named_heap}
use Rattle.vg_core.specs.HeldProgram.{program_at}
use Rattle.vg_core.specs.Program.{Program}
use Rattle.vg_core.specs.Session as core
use Rattle.vg_renamed.specs.Stands.{named_start}
use Rattle.vg_named_locals.specs.Locals.{HaveLocals}
use Rattle.vg_types.specs.Checks.{IsProgramOf}
use Rattle.vg_types.proofs.Alike.{initialised, sessions}
use Rattle.vg_session.specs.declared.initialisation.InitFault.{InitFault}
use Rattle.vg_session.specs.Initialises.{Initialises, why_of}
use Rattle.vg_faults.specs.declared.fault.Fault.{Fault}
use Rattle.vg_faults.specs.declared.fault.Fault.TheVariants.{NoTree, TooDeep, TooMany, Broken, InitTrap, InitSteps, InitDepth}
use Rattle.vg_faults.specs.declared.fault.Fault.TheVariants.{InitTouches, InitTooBig, Allocates, StaticFull, TableFull}
use Rattle.vg_faults.specs.declared.fault.Fault.TheVariants.{StackFull, CodeFull, NoMember, NotBuilt}
use Rattle.vg_front.specs.declared.starting.Start.{Start}
use Rattle.vg_faults.specs.Judged.{IsLegal, RefusedIn, fault_of, tree_fault}
use Rattle.vg_faults.specs.Starting.{FailsIn, StartsIn, failure_of, start_fault}
use Rattle.vg_front.specs.Answer.{IsStartOf, Starts}
use Rattle.vg_faults.specs.Faults.{HasFault}
use Rattle.vg_front.specs.Mirrors.{FailsSo, GoesOn, IsMadeOf}

-- a typed program of a tree whose initialisation fails so: the tree's fails so
fails_so : (texts : List (List ℕ)) (tree : Node) (p : Program) (clock : ℕ) (why : End) (f : Fault) → IsProgramOf texts tree p → refusal_of tree ≡ None
    → core.started p clock ≡ core.Failed why → failure_of tree why ≡ Some f → FailsSo tree clock f
fails_so texts tree p clock why f is legal e g =
    let same : source.started (source_of tree) clock ≡ source.Failed why =
    sym (initialised texts tree p is clock) ∙ ap (named_start (naming_of texts p.tables) p.tables) e in
    (legal, ap (start_fault tree) same ∙ g)

-- the same, of what initialisation answers
pub fails_by : (texts : List (List ℕ)) (tree : Node) (p : Program) (clock : ℕ) (r : Refusal InitFault) (why : InitFault) (f : Fault)
    → r ≡ refusal.Fault why → IsProgramOf texts tree p → refusal_of tree ≡ None → Initialises (Err r) (core.started p clock)
    → failure_of tree (why_of why) ≡ Some f → FailsSo tree clock f
fails_by texts tree p clock r why f e is legal gives g =
    fails_so texts tree p clock (why_of why) f is legal (subst (λ x. Initialises (Err x) (core.started p clock)) e gives) g

some_same : (a b : Fault) → Some a ≡ Some b → a ≡ b
some_same a b e = cc

none_some : (a : Fault) → None ≡ Some a → ⊥
none_some a e = cc

-- the faults that come of what is asked of a tree
abbrev IsAsked : Fault → Type 0
IsAsked (TooMany what limit place) = Unit {0}
IsAsked (Broken rule place) = Unit {0}
IsAsked _ = ⊥

asked_of : (tree : Node) (o : Option Refused) (why : Fault) → option_map (fault_of tree) o ≡ Some why → IsAsked why
asked_of tree None why e = absurd (none_some why e)
asked_of tree (Some (refused.TooMany what limit node)) why e = subst IsAsked (some_same _ why e) tt
asked_of tree (Some (refused.Broken rule node)) why e = subst IsAsked (some_same _ why e) tt

of_tree : (bytes : List ℕ) (clock : ℕ) (why : Fault) → IsAsked why → RefusedIn bytes why → HasFault why bytes clock
of_tree bytes clock (TooMany what limit p) asked h = h
of_tree bytes clock (Broken rule p) asked h = h
of_tree bytes clock (NoTree p) asked h = absurd asked
of_tree bytes clock (TooDeep p) asked h = absurd asked
of_tree bytes clock (InitTrap code p) asked h = absurd asked
of_tree bytes clock InitSteps asked h = absurd asked
of_tree bytes clock InitDepth asked h = absurd asked
of_tree bytes clock (InitTouches address) asked h = absurd asked
of_tree bytes clock InitTooBig asked h = absurd asked
of_tree bytes clock (Allocates p line) asked h = absurd asked
of_tree bytes clock (StaticFull need) asked h = absurd asked
of_tree bytes clock (TableFull need) asked h = absurd asked
of_tree bytes clock (StackFull need left) asked h = absurd asked
of_tree bytes clock (CodeFull words) asked h = absurd asked
of_tree bytes clock NoMember asked h = absurd asked
of_tree bytes clock (NotBuilt p) asked h = absurd asked

-- the faults of initialisation, and no others, are answers of it
abbrev IsFailure : Fault → Type 0
IsFailure (InitTrap code p) = Unit {0}
IsFailure InitSteps = Unit {0}
IsFailure InitDepth = Unit {0}
IsFailure (InitTouches address) = Unit {0}
IsFailure InitTooBig = Unit {0}
IsFailure _ = ⊥

failure_is : (tree : Node) (why : End) (f : Fault) → failure_of tree why ≡ Some f → IsFailure f
failure_is tree (Stops code (Some node)) f e = subst IsFailure (some_same _ f e) tt
failure_is tree (Stops code None) f e = absurd (none_some f e)
failure_is tree OutOfClock f e = subst IsFailure (some_same _ f e) tt
failure_is tree OutOfDepth f e = subst IsFailure (some_same _ f e) tt
failure_is tree (Touches address) f e = subst IsFailure (some_same _ f e) tt
failure_is tree OutOfRoom f e = subst IsFailure (some_same _ f e) tt
failure_is tree _ f e = absurd (none_some f e)

start_is : (tree : Node) (i : source.Initialised) (f : Fault) → start_fault tree i ≡ Some f → IsFailure f
start_is tree (source.Started heap) f e = absurd (none_some f e)
start_is tree (source.Failed why) f e = failure_is tree why f e

of_start : (bytes : List ℕ) (clock : ℕ) (why : Fault) → IsFailure why → FailsIn bytes clock why → HasFault why bytes clock
of_start bytes clock (NoTree p) failure h = absurd failure
of_start bytes clock (TooDeep p) failure h = absurd failure
of_start bytes clock (TooMany what limit p) failure h = absurd failure
of_start bytes clock (Broken rule p) failure h = absurd failure
of_start bytes clock (InitTrap code p) failure h = h
of_start bytes clock InitSteps failure h = h
of_start bytes clock InitDepth failure h = h
of_start bytes clock (InitTouches address) failure h = h
of_start bytes clock InitTooBig failure h = h
of_start bytes clock (Allocates p line) failure h = absurd failure
of_start bytes clock (StaticFull need) failure h = absurd failure
of_start bytes clock (TableFull need) failure h = absurd failure
of_start bytes clock (StackFull need left) failure h = absurd failure
of_start bytes clock (CodeFull words) failure h = absurd failure
of_start bytes clock NoMember failure h = absurd failure
of_start bytes clock (NotBuilt p) failure h = absurd failure

fault_by : (bytes : List ℕ) (tree : Node) (clock : ℕ) (why : Fault) → IsText bytes → Reads bytes tree → (tree_fault tree ≡ Some why) ⊎ FailsSo tree clock why
    → HasFault why bytes clock
fault_by bytes tree clock why text reads (inl e) = of_tree bytes clock why (asked_of tree (refusal_of tree) why e) (text, tree, reads, e)
fault_by bytes tree clock why text reads (inr (legal, e)) =
    of_start bytes clock why (start_is tree (source.started (source_of tree) clock) why e)
    (tree, record { text = text; reads = reads; legal = legal }, e)

made_is : (bytes : List ℕ) (names : List (List ℕ)) (tree : Tree) (clock : ℕ) (s : Start) → IsText bytes → Reads bytes (tree_at names tree)
    → IsMadeOf names tree clock s → IsStartOf bytes clock s
made_is bytes names tree clock s text reads m =
    let same : tree_at s.names s.tree ≡ tree_at names tree = ap (λ x. tree_at x s.tree) m.names_is ∙ ap (tree_at names) m.tree_is in
    let program : IsProgramOf s.names (tree_at names tree) (program_at s.program) =
    subst (λ x. IsProgramOf x (tree_at names tree) (program_at s.program)) (sym m.names_is) m.program in
    let locals : HaveLocals s.names (tree_at names tree) (program_at s.program) =
    subst (λ x. HaveLocals x (tree_at names tree) (program_at s.program)) (sym m.names_is) m.locals in
    record {
      legal = subst (IsLegal bytes) (sym same) (record { text = text; reads = reads; legal = m.legal });
      program = subst (λ t. IsProgramOf s.names t (program_at s.program)) (sym same) program;
      locals = subst (λ t. HaveLocals s.names t (program_at s.program)) (sym same) locals;
      typed = m.typed;
      starts = m.starts;
    }

-- what follows for the tree of a text is answered to its bytes
pub answered : (bytes : List ℕ) (names : List (List ℕ)) (tree : Tree) (clock : ℕ) (r : Result Start (Refusal Fault)) → IsText bytes
    → Reads bytes (tree_at names tree) → GoesOn names tree clock r → Starts bytes clock r
answered bytes names tree clock (Ok s) text reads h = made_is bytes names tree clock s text reads h
answered bytes names tree clock (Err (refusal.Fault why)) text reads h = fault_by bytes (tree_at names tree) clock why text reads h
answered bytes names tree clock (Err refusal.NoMemory) text reads h = tt

module _ (bytes : List ℕ) (clock : ℕ) (s : Start) (is : IsStartOf bytes clock s) where
  -- the tree of what starts
  abbrev pub start_tree : Node
  start_tree = tree_at s.names s.tree

  -- the heap that the constructors of the tree leave
  abbrev pub start_heap : Heap
  start_heap = named_heap (naming_of s.names s.program.tables) s.program.tables s.heap

  -- the tree of what starts is initialised to this heap
  pub tree_starts : source.started (source_of start_tree) clock ≡ source.Started start_heap
  tree_starts =
      sym (initialised s.names start_tree (program_at s.program) is.program clock)
      ∙ ap (named_start (naming_of s.names s.program.tables) s.program.tables) is.starts

  -- the sessions of what starts are those of the tree
  pub start_sessions : (deepest : Option ℕ) (reads interrupts : List ℕ) (steps : ℕ)
      → core.session (program_at s.program) s.heap deepest reads interrupts steps
      ≡ source.session (source_of start_tree) start_heap deepest reads interrupts steps
  start_sessions = sessions s.names start_tree (program_at s.program) is.program s.heap is.typed

  -- the bytes of what starts are a text that starts
  pub start_is_start : StartsIn bytes clock
  start_is_start = (start_tree, is.legal, start_heap, tree_starts)
