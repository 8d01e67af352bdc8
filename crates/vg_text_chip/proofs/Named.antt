-- The typed program of a legal text names the chip alone.
use Rattle.std.proofs.Common.{◌≡◌, refl, subst, arith, ℕ, zero, suc, ◌==◌, List, [], ◌∷◌, ◌++◌, map, Option, Some, None, slice_get}
use Rattle.std.specs.List.{AllByRecursion}
use Rattle.vg_meaning.specs.Code as code
use Rattle.vg_syntax.specs.Reads.{Reads}
use Rattle.vg_syntax.specs.Tree.{Node, Nothing, Then, Text, ClassDecl, ComponentDecl, FieldDecl, MethodDecl}
use Rattle.vg_source.specs.Names.{Name}
use Rattle.vg_source.specs.Steps as source
use Rattle.vg_source.specs.Resolved.{Owner, InClass, InComponent, NoOwner, Fresh, no_names, resolved}
use Rattle.vg_source.specs.Program.{scope_of, declared_method, methods_in, Constructor, constructor_in, initial, unless_missing, own_initialiser}
use Rattle.vg_source.specs.Program.{its_initialiser, initialisers, super_of, declared_routines, routines_in, next_number}
use Rattle.vg_source.specs.Program.{with_numbers, source_of}
use Rattle.vg_rules.specs.Breach.{asks}
use Rattle.vg_rules.specs.Entries.{entries_breach}
use Rattle.vg_rules.specs.Inherited.{inherited_breach}
use Rattle.vg_rules.specs.Legal.{Legal}
use Rattle.vg_rules.specs.Names.{names_breach, programs, classes_breach}
use Rattle.vg_rules.specs.Signatures.{signatures_breach}
use Rattle.vg_core.specs.declared.program.Handler.{Handler}
use Rattle.vg_core.specs.declared.program.Target.{Target}
use Rattle.vg_core.specs.declared.program.Target.TheVariants.{Run}
use Rattle.vg_core.specs.declared.step.Step.{Step}
use Rattle.vg_core.specs.declared.step.Step.TheVariants.{Register, SetRegister}
use Rattle.vg_core.specs.Naming.{Naming, named_code, named_step, named_handler}
use Rattle.vg_core.specs.Naming as naming
use Rattle.vg_core.specs.Program.{Body, Program, Signature, signature_of, body_of}
use Rattle.vg_live.specs.Uses.{uses, steps_in}
use Rattle.vg_renamed.specs.NamesTell.{NamesTell}
use Rattle.vg_text_chip.specs.Chip.{IsOfChip, AreOfChip, NamesChip}
use Rattle.vg_text_chip.specs.Chip as chip
use Rattle.vg_text_chip.proofs.Shapes.{text_shaped}
use Rattle.vg_text_chip.proofs.Walks.{IsNamed, AreNamed, KeepsRegisters, good_settled, good_body}
use Rattle.vg_text_chip.proofs.Registers.{AreOfInterrupts, kept, keeps, entries_keep}

-- ---- routines

abbrev IsNamedRoutine : source.Routine → Type 0
IsNamedRoutine r = AreNamed r.body

abbrev Each : List source.Routine → Type 0
Each = AllByRecursion IsNamedRoutine

each_both : (xs ys : List source.Routine) → Each xs → Each ys → Each (xs ++ ys)
each_both [] ys h g = g
each_both (x ∷ xs) ys (a, h) g = (a, each_both xs ys h g)

each_numbered : (n : ℕ) (rs : List source.Routine) → Each rs → Each (with_numbers n rs)
each_numbered n [] h = tt
each_numbered n (r ∷ rs) (a, h) = (a, each_numbered (next_number n r.target) rs h)

module _ (ds : Node) (known : KeepsRegisters ds) where
  body_named : (o : Owner) (a : Node) (ls : _) → AreNamed (resolved ds o a Fresh ls).does
  body_named o a ls = (good_body ds known a o ls).does

  initial_named : (e : Node) → AreNamed (initial ds e)
  initial_named e = (good_settled _ (good_body ds known e NoOwner no_names)).does

  written : (e : Node) (c : code.Code source.Step) → AreNamed c → AreNamed (unless_missing e c)
  written Nothing c h = tt
  written _ c h = h

  own_named : (c : Name) (m : Node) → AreNamed (own_initialiser ds c m)
  own_named c (FieldDecl at x t e) = written e _ (tt, (initial_named e, tt))
  own_named c _ = tt

  its_named : (c : Name) (m : Node) → AreNamed (its_initialiser ds c m)
  its_named c (FieldDecl at x t e) = written e _ (initial_named e, tt)
  its_named c _ = tt

  initialisers_named : (one : Node → code.Code source.Step) → ((m : Node) → AreNamed (one m)) → (members : Node) → AreNamed (initialisers one members)
  initialisers_named one h (Then m rest) = (h m, initialisers_named one h rest)
  initialisers_named one h _ = tt

  super_named : (above : Option Name) (k : Constructor) → AreNamed (super_of ds above k)
  super_named None k = tt
  super_named (Some above) k = (body_named NoOwner k.arguments (scope_of k.params), tt)

  method_named : (o : Owner) (c : Name) (m : Node) → Each (declared_method ds o c m)
  method_named o c (MethodDecl at x ps t body) = (body_named o body (scope_of ps), tt)
  method_named o c _ = tt

  methods_named : (o : Owner) (c : Name) (members : Node) → Each (methods_in ds o c members)
  methods_named o c (Then m rest) = each_both (declared_method ds o c m) (methods_in ds o c rest) (method_named o c m) (methods_named o c rest)
  methods_named o c _ = tt

  declared_named : (d : Node) → Each (declared_routines ds d)
  declared_named (ClassDecl at c above members) =
      let k = constructor_in members in (
        (super_named above k, (initialisers_named (own_initialiser ds c) (own_named c) members, body_named (InClass c) k.body (scope_of k.params))),
        methods_named (InClass c) c members,
      )
  declared_named (ComponentDecl at c members) =
      let k = constructor_in members in (
        (initialisers_named (its_initialiser ds c) (its_named c) members, body_named (InComponent c) k.body no_names),
        methods_named (InComponent c) c members,
      )
  declared_named _ = tt

  routines_named : (rows : Node) → Each (routines_in ds rows)
  routines_named (Then d rest) = each_both (declared_routines ds d) (routines_in ds rest) (declared_named d) (routines_named rest)
  routines_named _ = tt

-- ---- texts

record IsChipped (text : Node) : Type 0 where
  routines : Each (source.Source.routines (source_of text))
  handlers : AreOfInterrupts (source.Source.handlers (source_of text))

chipped : (bytes : List ℕ) (text : Node) → Reads bytes text → Legal text → IsChipped text
chipped bytes (Text at ds) reads legal =
    let shape = text_shaped bytes (Text at ds) reads in
    let a = kept (names_breach [] ds) _ legal in
    let b = kept (asks (programs ds == 1) 2 at) _ a.1 in
    let c = kept (classes_breach ds ds) _ b.1 in
    let d = kept (signatures_breach ds ds) _ c.1 in
    let e = kept (inherited_breach ds ds) _ d.1 in
    let f = kept (entries_breach ds ds) _ e.1 in
    record {
      routines = each_numbered 0 (routines_in ds ds) (routines_named ds (keeps ds shape d.0) ds);
      handlers = entries_keep ds ds shape f.0;
    }
chipped bytes _ reads legal = record { routines = tt; handlers = tt }

-- ---- typed programs

module _ (n : Naming) (p : Program) where
  step_named : (s : Step) → IsNamed (named_step n p.tables s) → IsOfChip s
  step_named (Register address) h = h
  step_named (SetRegister address) h = h
  step_named _ h = tt

  steps_both : (xs ys : List Step) → AreOfChip xs → AreOfChip ys → AreOfChip (xs ++ ys)
  steps_both [] ys h g = g
  steps_both (x ∷ xs) ys (a, h) g = (a, steps_both xs ys h g)

  steps_named : (c : code.Code Step) → AreNamed (named_code n p.tables c) → AreOfChip (uses c)
  steps_named code.Nothing h = tt
  steps_named (code.Then a b) (h, g) = steps_both (uses a) (uses b) (steps_named a h) (steps_named b g)
  steps_named (code.Do s) h = (step_named s h, tt)
  steps_named (code.If a b) (h, g) = steps_both (uses a) (uses b) (steps_named a h) (steps_named b g)
  steps_named (code.Loop a b c) (h, g, i) =
      steps_both (uses a ++ uses b) (uses c) (steps_both (uses a) (uses b) (steps_named a h) (steps_named b g)) (steps_named c i)
  steps_named code.Break h = tt
  steps_named code.Continue h = tt
  steps_named code.Return h = tt

  -- what is said of the routines of all targets is said of each
  behind : (t : Target) (o : Option Signature) (q : Option Body) (rest : List source.Routine) → Each (naming.routine_at n p t o q ++ rest) → Each rest
  behind t (Some g) (Some b) rest h = h.1
  behind t (Some g) None rest h = h
  behind t None q rest h = h

  of_target : (t : Target) (g : Signature) (b : Body) → signature_of p.tables t ≡ Some g → body_of p t ≡ Some b → (ts : List Target) (j : ℕ)
      → slice_get ts j ≡ Some t → Each (naming.routines_at n p ts) → AreNamed (named_code n p.tables b.code)
  of_target t g b eg eb [] j e h = absurd (grind (arith, e))
  of_target t g b eg eb (u ∷ ts) zero e h =
      (subst (λ o. Each (naming.routine_at n p t (Some g) o ++ naming.routines_at n p ts)) eb
      (subst (λ o. Each (naming.routine_at n p t o (body_of p t) ++ naming.routines_at n p ts)) eg
      (subst (λ z. Each (naming.routine_at n p z (signature_of p.tables z) (body_of p z) ++ naming.routines_at n p ts)) (same u t e) h))).0
    where
      same : (a c : Target) → Some a ≡ Some c → a ≡ c
      same a c q = cc
  of_target t g b eg eb (u ∷ ts) (suc j) e h =
      of_target t g b eg eb ts j e (behind u (signature_of p.tables u) (body_of p u) (naming.routines_at n p ts) h)

  handlers_named : (hs : List Handler) → AreOfInterrupts (map (named_handler n p.tables) hs) → chip.AreOfInterrupts hs
  handlers_named [] h = tt
  handlers_named (x ∷ hs) (a, h) = (a, handlers_named hs h)

  module _ (bytes : List ℕ) (text : Node) (reads : Reads bytes text) (legal : Legal text) (is : source_of text ≡ naming.named n p) (told : NamesTell n p)
      (called : (t : Target) (b : Body) → body_of p t ≡ Some b → (g : Signature) × (signature_of p.tables t ≡ Some g)) where
    its_steps : (m : ℕ) (o : Option Body) → body_of p (Run m) ≡ o → AreOfChip (steps_in o)
    its_steps m None e = tt
    its_steps m (Some b) e =
        let g = called (Run m) b e in
        let k = told.targets (Run m) g.0 b g.1 e in
        steps_named b.code
        (of_target (Run m) g.0 b g.1 e p.tables.targets k.0 k.1 (subst (λ s. Each (source.Source.routines s)) is (chipped bytes text reads legal).routines))

    pub names_chip : NamesChip p
    names_chip =
        record {
          registers = λ m. its_steps m (body_of p (Run m)) refl;
          handlers = handlers_named p.handlers (subst (λ s. AreOfInterrupts (source.Source.handlers s)) is (chipped bytes text reads legal).handlers);
        }
