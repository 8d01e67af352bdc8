-- What an answer says of the bytes and of the word: which texts and which words are refused.
use Rattle.std.proofs.Common.{◌≡◌, ℕ, ◌⊎◌, ◌↔◌, List, Some, None, Ok, Err, refl, sym, ap, ◌∙◌, subst, inl, inr}
use Rattle.std.specs.Prelude.{IsOk}
use Rattle.vg_base.specs.declared.refusal.Refusal.{Refusal}
use Rattle.vg_base.specs.declared.refusal.Refusal.TheVariants as refusal
use Rattle.vg_source.specs.Program.{source_of}
use Rattle.vg_live_source.specs.Members.{Member}
use Rattle.vg_live_source.specs.Asking.{member_of}
use Rattle.vg_faults.specs.declared.fault.Fault.{Fault}
use Rattle.vg_faults.specs.declared.fault.Fault.TheVariants.{NoTree, TooDeep, TooMany, Broken, InitTrap, InitSteps, InitDepth, InitTouches, InitTooBig, Allocates, StaticFull, TableFull}
use Rattle.vg_faults.specs.declared.fault.Fault.TheVariants.{StackFull, CodeFull, NoMember, NotBuilt}
use Rattle.vg_faults.specs.Faults.{IsOfInit}
use Rattle.vg_faults.specs.Starting.{FailsIn, init_steps}
use Rattle.vg_faults.specs.Living.{HasLiveFault, IsFirmIn}
use Rattle.vg_faults.proofs.Once.{one_legal}
use Rattle.vg_faults.proofs.Makers.{no_live_fault, one_live_fault}
use Rattle.vg_alive.specs.Answer.{Lives}
use Rattle.vg_why.specs.Asked.{IsDeclaredIn, Names, NoMemberIn}
use Rattle.vg_why.specs.Answer.{Answer, Answers, HasFault, IsSettled, fault_in}

same_fault : (a b : Fault) → Some a ≡ Some b → a ≡ b
same_fault a b e = cc

none_some : (a : Fault) → None ≡ Some a → ⊥
none_some a e = cc

no_member : (y : Member) → None ≡ Some y → ⊥
no_member y e = cc

-- ---- the faults of a text, and that of the word

abbrev Sorted : Fault → (bytes word : List ℕ) → Type 0
Sorted why bytes word = ((why ≡ NoMember) × NoMemberIn bytes word) ⊎ HasLiveFault why bytes init_steps

sorted : (why : Fault) (bytes word : List ℕ) → HasFault why bytes word → Sorted why bytes word
sorted (NoTree p) bytes word h = inr h
sorted (TooDeep p) bytes word h = inr h
sorted (TooMany what limit p) bytes word h = inr h
sorted (Broken rule p) bytes word h = inr h
sorted (InitTrap code p) bytes word h = inr h
sorted InitSteps bytes word h = inr h
sorted InitDepth bytes word h = inr h
sorted (InitTouches address) bytes word h = inr h
sorted InitTooBig bytes word h = inr h
sorted (Allocates p line) bytes word h = inr h
sorted (StaticFull need) bytes word h = inr h
sorted (TableFull need) bytes word h = inr h
sorted (StackFull need left) bytes word h = inr h
sorted (CodeFull words) bytes word h = inr h
sorted NoMember bytes word h = inl (refl, h)
sorted (NotBuilt p) bytes word h = inr h

-- a fault of the text is one of the command
has_fault : (why : Fault) (bytes word : List ℕ) → HasLiveFault why bytes init_steps → HasFault why bytes word
has_fault (NoTree p) bytes word h = h
has_fault (TooDeep p) bytes word h = h
has_fault (TooMany what limit p) bytes word h = h
has_fault (Broken rule p) bytes word h = h
has_fault (InitTrap code p) bytes word h = h
has_fault InitSteps bytes word h = h
has_fault InitDepth bytes word h = h
has_fault (InitTouches address) bytes word h = h
has_fault InitTooBig bytes word h = h
has_fault (Allocates p line) bytes word h = h
has_fault (StaticFull need) bytes word h = h
has_fault (TableFull need) bytes word h = h
has_fault (StackFull need left) bytes word h = h
has_fault (CodeFull words) bytes word h = h
has_fault NoMember bytes word h = absurd h
has_fault (NotBuilt p) bytes word h = h

missing_firm : (bytes word : List ℕ) → NoMemberIn bytes word → IsFirmIn bytes init_steps
missing_firm bytes word (tree, heap, firm, none) = (tree, heap, firm)

one_sorted : (a b : Fault) (bytes word : List ℕ) → Sorted a bytes word → Sorted b bytes word → a ≡ b
one_sorted a b bytes word (inl h) (inl k) = h.0 ∙ sym k.0
one_sorted a b bytes word (inl h) (inr k) = absurd (no_live_fault bytes init_steps b (missing_firm bytes word h.1) k)
one_sorted a b bytes word (inr h) (inl k) = absurd (no_live_fault bytes init_steps a (missing_firm bytes word k.1) h)
one_sorted a b bytes word (inr h) (inr k) = one_live_fault bytes init_steps a b h k

-- there is at most one
one_fault : (a b : Fault) (bytes word : List ℕ) → HasFault a bytes word → HasFault b bytes word → a ≡ b
one_fault a b bytes word h k = one_sorted a b bytes word (sorted a bytes word h) (sorted b bytes word k)

-- a word that names a member has no fault
named_or_missing : (bytes word : List ℕ) (n : Names bytes word) → NoMemberIn bytes word → ⊥
named_or_missing bytes word n (tree, heap, firm, none) =
    let same = one_legal bytes n.tree tree n.firm.legal firm.legal in
    no_member n.member (sym (none n.owner n.name n.written) ∙ ap (λ t. member_of (source_of t) n.owner n.name) (sym same) ∙ n.declared)

named_sorted : (why : Fault) (bytes word : List ℕ) (n : Names bytes word) → Sorted why bytes word → ⊥
named_sorted why bytes word n (inl h) = named_or_missing bytes word n h.1
named_sorted why bytes word n (inr h) = no_live_fault bytes init_steps why (n.tree, n.heap, n.firm) h

named_has_none : (why : Fault) (bytes word : List ℕ) → Names bytes word → HasFault why bytes word → ⊥
named_has_none why bytes word n h = named_sorted why bytes word n (sorted why bytes word h)

-- ---- exactly which texts and words are refused, and for what

pub exactly : (bytes word : List ℕ) (r : Answer) → Answers bytes word r → IsSettled r → (why : Fault) → (fault_in r ≡ Some why) ↔ HasFault why bytes word
exactly bytes word (Ok lines) h settled why = (λ e. absurd (none_some why e), λ k. absurd (named_has_none why bytes word h.0 k))
exactly bytes word (Err (refusal.Fault w)) h settled why =
    (λ e. subst (λ x. HasFault x bytes word) (same_fault w why e) h, λ k. ap Some (one_fault w why bytes word h k))
exactly bytes word (Err refusal.NoMemory) h settled why = absurd settled

pub init_of : (bytes word : List ℕ) (r : Answer) → Answers bytes word r → IsSettled r → (why : Fault) → IsOfInit why
    → (fault_in r ≡ Some why) ↔ FailsIn bytes init_steps why
init_of bytes word r h settled (NoTree p) of_init = absurd of_init
init_of bytes word r h settled (TooDeep p) of_init = absurd of_init
init_of bytes word r h settled (TooMany what limit p) of_init = absurd of_init
init_of bytes word r h settled (Broken rule p) of_init = absurd of_init
init_of bytes word r h settled (InitTrap code p) of_init = exactly bytes word r h settled (InitTrap code p)
init_of bytes word r h settled InitSteps of_init = exactly bytes word r h settled InitSteps
init_of bytes word r h settled InitDepth of_init = exactly bytes word r h settled InitDepth
init_of bytes word r h settled (InitTouches address) of_init = exactly bytes word r h settled (InitTouches address)
init_of bytes word r h settled InitTooBig of_init = exactly bytes word r h settled InitTooBig
init_of bytes word r h settled (Allocates p line) of_init = absurd of_init
init_of bytes word r h settled (StaticFull need) of_init = absurd of_init
init_of bytes word r h settled (TableFull need) of_init = absurd of_init
init_of bytes word r h settled (StackFull need left) of_init = absurd of_init
init_of bytes word r h settled (CodeFull words) of_init = absurd of_init
init_of bytes word r h settled NoMember of_init = absurd of_init
init_of bytes word r h settled (NotBuilt p) of_init = absurd of_init

-- a word that names a member is answered, or memory is wanting
pub complete_of : (bytes word : List ℕ) (r : Answer) → Answers bytes word r → IsDeclaredIn bytes word → IsOk r ⊎ (r ≡ Err refusal.NoMemory)
complete_of bytes word (Ok lines) h named = inl refl
complete_of bytes word (Err (refusal.Fault why)) h named = absurd (named_has_none why bytes word named h)
complete_of bytes word (Err refusal.NoMemory) h named = inr refl

-- what is answered to a text is answered by the command
pub lives_by : (bytes word : List ℕ) (why : Refusal Fault) → Lives bytes init_steps (Err why) → Answers bytes word (Err why)
lives_by bytes word (refusal.Fault why) h = has_fault why bytes word h
lives_by bytes word refusal.NoMemory h = tt
