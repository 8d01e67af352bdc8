-- A text has at most one fault, and none where it starts.
use Rattle.std.proofs.Common.{◌≡◌, ℕ, ◌⊎◌, List, Option, Some, None, refl, sym, ap, ◌∙◌, inl, inr}
use Rattle.std.specs.Option.{option_map}
use Rattle.vg_base.specs.declared.place.Place.{Place}
use Rattle.vg_syntax.specs.Faults.{IsText, NoTreeIn, TooDeepIn}
use Rattle.vg_syntax.specs.Tree.{Node}
use Rattle.vg_source.specs.Program.{source_of}
use Rattle.vg_source.specs.Session.{started}
use Rattle.vg_rules.specs.Refusal.{refusal_of}
use Rattle.vg_texts.proofs.Once.{no_fault, not_deep, one_cause, one_end, one_bracket}
use Rattle.vg_texts.proofs.Values.{one_tree}
use Rattle.vg_faults.specs.declared.fault.Fault.{Fault}
use Rattle.vg_faults.specs.declared.fault.Fault.TheVariants.{NoTree, TooDeep, TooMany, Broken, InitTrap, InitSteps, InitDepth, InitTouches, InitTooBig, Allocates, StaticFull, TableFull}
use Rattle.vg_faults.specs.declared.fault.Fault.TheVariants.{StackFull, CodeFull, NoMember, NotBuilt}
use Rattle.vg_faults.specs.Judged.{IsLegal, RefusedIn, fault_of, tree_fault}
use Rattle.vg_faults.specs.Starting.{FailsIn, StartsIn, start_fault}
use Rattle.vg_faults.specs.Faults.{HasFault}

-- a fault by what has it: the text behind a token, a bracket, the tree, or its initialisation
abbrev Sorted : Fault → List ℕ → ℕ → Type 0
Sorted why bytes clock =
    ((p : Place) × (why ≡ NoTree p) × NoTreeIn bytes p) ⊎ (((p : Place) × (why ≡ TooDeep p) × TooDeepIn bytes p)
    ⊎ (RefusedIn bytes why ⊎ FailsIn bytes clock why))

sorted : (why : Fault) (bytes : List ℕ) (clock : ℕ) → HasFault why bytes clock → Sorted why bytes clock
sorted (NoTree p) bytes clock h = inl (p, refl, h)
sorted (TooDeep p) bytes clock h = inr (inl (p, refl, h))
sorted (TooMany what limit p) bytes clock h = inr (inr (inl h))
sorted (Broken rule p) bytes clock h = inr (inr (inl h))
sorted (InitTrap code p) bytes clock h = inr (inr (inr h))
sorted InitSteps bytes clock h = inr (inr (inr h))
sorted InitDepth bytes clock h = inr (inr (inr h))
sorted (InitTouches address) bytes clock h = inr (inr (inr h))
sorted InitTooBig bytes clock h = inr (inr (inr h))
sorted (Allocates p line) bytes clock h = absurd h
sorted (StaticFull need) bytes clock h = absurd h
sorted (TableFull need) bytes clock h = absurd h
sorted (StackFull need left) bytes clock h = absurd h
sorted (CodeFull words) bytes clock h = absurd h
sorted NoMember bytes clock h = absurd h
sorted (NotBuilt p) bytes clock h = absurd h

some_same : (a b : Fault) → Some a ≡ Some b → a ≡ b
some_same a b e = cc

none_some : (a : Fault) → None ≡ Some a → ⊥
none_some a e = cc

-- a legal tree is refused for nothing
pub legal_is_kept : (tree : Node) → refusal_of tree ≡ None → tree_fault tree ≡ None
legal_is_kept tree legal = ap (option_map (fault_of tree)) legal

-- a text has one tree
pub one_legal : (bytes : List ℕ) (a b : Node) → IsLegal bytes a → IsLegal bytes b → a ≡ b
one_legal bytes a b h k = one_tree bytes a b h.reads k.reads

-- a legal text is refused for nothing
pub legal_or_refused : (bytes : List ℕ) (tree : Node) (why : Fault) → IsLegal bytes tree → RefusedIn bytes why → ⊥
legal_or_refused bytes tree why h (text, other, reads, refused) =
    none_some why (sym (legal_is_kept tree h.legal) ∙ ap tree_fault (one_tree bytes tree other h.reads reads) ∙ refused)

one_refusal : (bytes : List ℕ) (a b : Fault) → RefusedIn bytes a → RefusedIn bytes b → a ≡ b
one_refusal bytes a b (text, tree, reads, e) (text', tree', reads', e') =
    some_same a b (sym e ∙ ap tree_fault (one_tree bytes tree tree' reads reads') ∙ e')

-- what initialisation answers for the one tree of a text
abbrev failure : ℕ → Node → Option Fault
failure clock tree = start_fault tree (started (source_of tree) clock)

one_failure : (bytes : List ℕ) (clock : ℕ) (a b : Fault) → FailsIn bytes clock a → FailsIn bytes clock b → a ≡ b
one_failure bytes clock a b (tree, h, e) (tree', k, f) = some_same a b (sym e ∙ ap (failure clock) (one_legal bytes tree tree' h k) ∙ f)

starts_or_fails : (bytes : List ℕ) (clock : ℕ) (why : Fault) → StartsIn bytes clock → FailsIn bytes clock why → ⊥
starts_or_fails bytes clock why (tree, h, heap, e) (tree', k, f) =
    none_some why (sym (ap (start_fault tree) e) ∙ ap (failure clock) (one_legal bytes tree tree' h k) ∙ f)

-- a fault of the tree of a text, or of its initialisation, leaves it a text
is_text : (why : Fault) (bytes : List ℕ) (clock : ℕ) → RefusedIn bytes why ⊎ FailsIn bytes clock why → IsText bytes
is_text why bytes clock (inl h) = h.0
is_text why bytes clock (inr (tree, h, e)) = h.text

in_tree : (a b : Fault) (bytes : List ℕ) (clock : ℕ) → RefusedIn bytes a ⊎ FailsIn bytes clock a → RefusedIn bytes b ⊎ FailsIn bytes clock b → a ≡ b
in_tree a b bytes clock (inl h) (inl k) = one_refusal bytes a b h k
in_tree a b bytes clock (inl h) (inr (tree, k, e)) = absurd (legal_or_refused bytes tree a k h)
in_tree a b bytes clock (inr (tree, h, e)) (inl k) = absurd (legal_or_refused bytes tree b h k)
in_tree a b bytes clock (inr h) (inr k) = one_failure bytes clock a b h k

one_sorted : (a b : Fault) (bytes : List ℕ) (clock : ℕ) → Sorted a bytes clock → Sorted b bytes clock → a ≡ b
one_sorted a b bytes clock (inl (p, e, h)) (inl (q, f, k)) = e ∙ ap NoTree (one_end bytes p q h k) ∙ sym f
one_sorted a b bytes clock (inl (p, e, h)) (inr (inl (q, f, k))) = absurd (one_cause bytes p q h k)
one_sorted a b bytes clock (inl (p, e, h)) (inr (inr k)) = absurd (no_fault bytes p (is_text b bytes clock k) h)
one_sorted a b bytes clock (inr (inl (p, e, h))) (inl (q, f, k)) = absurd (one_cause bytes q p k h)
one_sorted a b bytes clock (inr (inl (p, e, h))) (inr (inl (q, f, k))) = e ∙ ap TooDeep (one_bracket bytes p q h k) ∙ sym f
one_sorted a b bytes clock (inr (inl (p, e, h))) (inr (inr k)) = absurd (not_deep bytes p (is_text b bytes clock k) h)
one_sorted a b bytes clock (inr (inr h)) (inl (q, f, k)) = absurd (no_fault bytes q (is_text a bytes clock h) k)
one_sorted a b bytes clock (inr (inr h)) (inr (inl (q, f, k))) = absurd (not_deep bytes q (is_text a bytes clock h) k)
one_sorted a b bytes clock (inr (inr h)) (inr (inr k)) = in_tree a b bytes clock h k

pub one_fault : (bytes : List ℕ) (clock : ℕ) (a b : Fault) → HasFault a bytes clock → HasFault b bytes clock → a ≡ b
one_fault bytes clock a b h k = one_sorted a b bytes clock (sorted a bytes clock h) (sorted b bytes clock k)

none_sorted : (bytes : List ℕ) (clock : ℕ) (why : Fault) → StartsIn bytes clock → Sorted why bytes clock → ⊥
none_sorted bytes clock why (tree, h, heap, e) (inl (p, f, k)) = no_fault bytes p h.text k
none_sorted bytes clock why (tree, h, heap, e) (inr (inl (p, f, k))) = not_deep bytes p h.text k
none_sorted bytes clock why (tree, h, heap, e) (inr (inr (inl k))) = legal_or_refused bytes tree why h k
none_sorted bytes clock why s (inr (inr (inr k))) = starts_or_fails bytes clock why s k

-- a text that starts has no fault
pub no_start_fault : (bytes : List ℕ) (clock : ℕ) (why : Fault) → StartsIn bytes clock → HasFault why bytes clock → ⊥
no_start_fault bytes clock why s h = none_sorted bytes clock why s (sorted why bytes clock h)
