-- The first method that makes something is one, and so is what a text allocates.
use Rattle.std.proofs.Common.{◌≡◌, ℕ, zero, suc, ◌<◌, ◌⊎◌, List, Option, Some, None, refl, sym, ap, ◌∙◌, subst, inl, inr, arith}
use Rattle.vg_base.specs.declared.place.Place.{Place}
use Rattle.vg_syntax.specs.Tree.{Node}
use Rattle.vg_source.specs.Names.{Name}
use Rattle.vg_source.specs.Values.{Heap}
use Rattle.vg_source.specs.Steps.{Routine}
use Rattle.vg_source.specs.Steps.{Method as TheMethod}
use Rattle.vg_source.specs.State.{find_routine}
use Rattle.vg_source.specs.Program.{declarations_of, routines_in, source_of}
use Rattle.vg_source.specs.Session.{Started, started}
use Rattle.vg_live_source.specs.Uses.{steps_in}
use Rattle.vg_live_source.specs.Making.{IsFirstMaker, MakesNothing, least_made, made_in, number_in}
use Rattle.vg_faults.specs.declared.fault.Fault.{Fault}
use Rattle.vg_faults.specs.declared.fault.Fault.TheVariants.{NoTree, TooDeep, TooMany, Broken, InitTrap, InitSteps, InitDepth, InitTouches, InitTooBig, Allocates, StaticFull, TableFull}
use Rattle.vg_faults.specs.declared.fault.Fault.TheVariants.{StackFull, CodeFull, NoMember, NotBuilt}
use Rattle.vg_faults.specs.Judged.{IsLegal, place_in}
use Rattle.vg_faults.specs.Starting.{StartsIn}
use Rattle.vg_faults.specs.Faults.{HasFault}
use Rattle.vg_faults.specs.Living.{AllocatesIn, IsFirm, IsFirmIn, HasLiveFault, allocates_line, key_text}
use Rattle.vg_faults.proofs.Once.{no_start_fault, one_fault, one_legal}
use Rattle.vg_faults.proofs.Numbers.{one_method}

order : (i j : ℕ) → (i < j) ⊎ ((j < i) ⊎ (i ≡ j))
order zero zero = inr (inr refl)
order zero (suc j) = inl (omega arith)
order (suc i) zero = inr (inl (omega arith))
order (suc i) (suc j) = up (order i j)
  where
    up : (i < j) ⊎ ((j < i) ⊎ (i ≡ j)) → (suc i < suc j) ⊎ ((suc j < suc i) ⊎ (suc i ≡ suc j))
    up (inl h) = inl (omega (arith, h))
    up (inr (inl h)) = inr (inl (omega (arith, h)))
    up (inr (inr h)) = inr (inr (ap suc h))

none_some : (n : ℕ) → None ≡ Some n → ⊥
none_some n e = cc

one_some : (m n : ℕ) → Some m ≡ Some n → m ≡ n
one_some m n e = cc

-- what makes something is there
maker_there : (o : Option Routine) (n : ℕ) → least_made (steps_in o) ≡ Some n → (r : Routine) × (o ≡ Some r)
maker_there None n e = absurd (none_some n e)
maker_there (Some r) n e = (r, refl)

owner_same : (c m d y : Name) → TheMethod c m ≡ TheMethod d y → c ≡ d
owner_same c m d y e = cc

method_same : (c m d y : Name) → TheMethod c m ≡ TheMethod d y → m ≡ y
method_same c m d y e = cc

-- the first that makes something is one
one_maker : (t : Node) (h : Heap) (c m d y : Name) (k l : ℕ) → IsFirstMaker (source_of t) h c m k → IsFirstMaker (source_of t) h d y l
    → (c ≡ d) × (m ≡ y) × (k ≡ l)
one_maker t h c m d y k l a b =
    let (r, e) = maker_there (find_routine (source_of t).routines (TheMethod c m)) k a.makes in
    let (s, f) = maker_there (find_routine (source_of t).routines (TheMethod d y)) l b.makes in
    by r s e f (order r.number s.number)
  where
    by : (r s : Routine) → find_routine (source_of t).routines (TheMethod c m) ≡ Some r → find_routine (source_of t).routines (TheMethod d y) ≡ Some s
        → (r.number < s.number) ⊎ ((s.number < r.number) ⊎ (r.number ≡ s.number)) → (c ≡ d) × (m ≡ y) × (k ≡ l)
    by r s e f (inl lt) =
        absurd (none_some k (sym (b.first c m (r.number, s.number, ap number_in e, ap number_in f, lt) a.live) ∙ a.makes))
    by r s e f (inr (inl lt)) =
        absurd (none_some l (sym (a.first d y (s.number, r.number, ap number_in f, ap number_in e, lt) b.live) ∙ b.makes))
    by r s e f (inr (inr same)) =
        let target : TheMethod c m ≡ TheMethod d y =
        one_method 0 (routines_in (declarations_of t) (declarations_of t)) c m d y r s e f same in
        let owner = owner_same c m d y target in
        let method = method_same c m d y target in
        (owner, method, one_some k l (sym a.makes ∙ ap (λ x. made_in (source_of t) x m) owner ∙ ap (λ x. made_in (source_of t) d x) method ∙ b.makes))

same_heap : (h k : Heap) → Started h ≡ Started k → h ≡ k
same_heap h k e = cc

-- a text is initialised to one heap
pub one_start : (bytes : List ℕ) (clock : ℕ) (t u : Node) (h k : Heap) → IsLegal bytes t → IsLegal bytes u → started (source_of t) clock ≡ Started h
    → started (source_of u) clock ≡ Started k → (t ≡ u) × (h ≡ k)
one_start bytes clock t u h k legal legal' starts starts' =
    let same = one_legal bytes t u legal legal' in
    (same, same_heap h k (sym starts ∙ ap (λ x. started (source_of x) clock) same ∙ starts'))

-- a text allocates at one place
pub one_allocation : (bytes : List ℕ) (clock : ℕ) (p q : Place) (i j : List ℕ) → AllocatesIn bytes clock p i → AllocatesIn bytes clock q j
    → Allocates p i ≡ Allocates q j
one_allocation bytes clock p q i j a b =
    let (tree, heap) = one_start bytes clock a.tree b.tree a.heap b.heap a.legal b.legal a.starts b.starts in
    let other = subst (λ h. IsFirstMaker (source_of a.tree) h b.owner b.method b.node) (sym heap)
    (subst (λ t. IsFirstMaker (source_of t) b.heap b.owner b.method b.node) (sym tree) b.maker) in
    let (owner, method, node) = one_maker a.tree a.heap a.owner a.method b.owner b.method a.node b.node a.maker other in
    let place : p ≡ q = a.place_is ∙ ap (λ n. place_in n a.tree) node ∙ ap (place_in b.node) tree ∙ sym b.place_is in
    let line : i ≡ j =
    a.line_is ∙ ap (λ x. allocates_line (key_text x a.method) p) owner ∙ ap (λ x. allocates_line (key_text b.owner x) p) method
    ∙ ap (allocates_line (key_text b.owner b.method)) place ∙ sym b.line_is in
    ap (λ x. Allocates x i) place ∙ ap (Allocates q) line

pub allocates_starts : (bytes : List ℕ) (clock : ℕ) (p : Place) (i : List ℕ) → AllocatesIn bytes clock p i → StartsIn bytes clock
allocates_starts bytes clock p i a = (a.tree, a.legal, a.heap, a.starts)

pub firm_starts : (bytes : List ℕ) (clock : ℕ) (t : Node) (h : Heap) → IsFirm bytes clock t h → StartsIn bytes clock
firm_starts bytes clock t h firm = (t, firm.legal, h, firm.starts)

-- a text that allocates nothing does not allocate
firm_or_allocates : (bytes : List ℕ) (clock : ℕ) (p : Place) (i : List ℕ) (t : Node) (h : Heap) → IsFirm bytes clock t h → AllocatesIn bytes clock p i → ⊥
firm_or_allocates bytes clock p i t h firm a =
    let (tree, heap) = one_start bytes clock t a.tree h a.heap firm.legal a.legal firm.starts a.starts in
    let nothing : MakesNothing (source_of a.tree) a.heap =
    subst (λ k. MakesNothing (source_of a.tree) k) heap (subst (λ u. MakesNothing (source_of u) h) tree firm.nothing) in
    none_some a.node (sym (nothing a.owner a.method a.maker.live) ∙ a.maker.makes)

-- ---- faults

-- a fault by what has it: a live method, or what stands before
abbrev Sorted : Fault → List ℕ → ℕ → Type 0
Sorted why bytes clock = ((p : Place) × (i : List ℕ) × (why ≡ Allocates p i) × AllocatesIn bytes clock p i) ⊎ HasFault why bytes clock

sorted : (why : Fault) (bytes : List ℕ) (clock : ℕ) → HasLiveFault why bytes clock → Sorted why bytes clock
sorted (Allocates p i) bytes clock h = inl (p, i, refl, h)
sorted (NoTree p) bytes clock h = inr h
sorted (TooDeep p) bytes clock h = inr h
sorted (TooMany what limit p) bytes clock h = inr h
sorted (Broken rule p) bytes clock h = inr h
sorted (InitTrap code p) bytes clock h = inr h
sorted InitSteps bytes clock h = inr h
sorted InitDepth bytes clock h = inr h
sorted (InitTouches address) bytes clock h = inr h
sorted InitTooBig bytes clock h = inr h
sorted (StaticFull need) bytes clock h = inr h
sorted (TableFull need) bytes clock h = inr h
sorted (StackFull need left) bytes clock h = inr h
sorted (CodeFull words) bytes clock h = inr h
sorted NoMember bytes clock h = inr h
sorted (NotBuilt p) bytes clock h = inr h

-- what stands before is a fault
pub is_live_fault : (why : Fault) (bytes : List ℕ) (clock : ℕ) → HasFault why bytes clock → HasLiveFault why bytes clock
is_live_fault (Allocates p i) bytes clock h = absurd h
is_live_fault (NoTree p) bytes clock h = h
is_live_fault (TooDeep p) bytes clock h = h
is_live_fault (TooMany what limit p) bytes clock h = h
is_live_fault (Broken rule p) bytes clock h = h
is_live_fault (InitTrap code p) bytes clock h = h
is_live_fault InitSteps bytes clock h = h
is_live_fault InitDepth bytes clock h = h
is_live_fault (InitTouches address) bytes clock h = h
is_live_fault InitTooBig bytes clock h = h
is_live_fault (StaticFull need) bytes clock h = h
is_live_fault (TableFull need) bytes clock h = h
is_live_fault (StackFull need left) bytes clock h = h
is_live_fault (CodeFull words) bytes clock h = h
is_live_fault NoMember bytes clock h = h
is_live_fault (NotBuilt p) bytes clock h = h

one_sorted : (a b : Fault) (bytes : List ℕ) (clock : ℕ) → Sorted a bytes clock → Sorted b bytes clock → a ≡ b
one_sorted a b bytes clock (inl (p, i, e, h)) (inl (q, j, f, k)) = e ∙ one_allocation bytes clock p q i j h k ∙ sym f
one_sorted a b bytes clock (inl (p, i, e, h)) (inr k) = absurd (no_start_fault bytes clock b (allocates_starts bytes clock p i h) k)
one_sorted a b bytes clock (inr h) (inl (q, j, f, k)) = absurd (no_start_fault bytes clock a (allocates_starts bytes clock q j k) h)
one_sorted a b bytes clock (inr h) (inr k) = one_fault bytes clock a b h k

pub one_live_fault : (bytes : List ℕ) (clock : ℕ) (a b : Fault) → HasLiveFault a bytes clock → HasLiveFault b bytes clock → a ≡ b
one_live_fault bytes clock a b h k = one_sorted a b bytes clock (sorted a bytes clock h) (sorted b bytes clock k)

none_sorted : (bytes : List ℕ) (clock : ℕ) (why : Fault) (t : Node) (h : Heap) → IsFirm bytes clock t h → Sorted why bytes clock → ⊥
none_sorted bytes clock why t h firm (inl (p, i, e, a)) = firm_or_allocates bytes clock p i t h firm a
none_sorted bytes clock why t h firm (inr k) = no_start_fault bytes clock why (firm_starts bytes clock t h firm) k

-- a text that starts and allocates nothing has no fault
pub no_live_fault : (bytes : List ℕ) (clock : ℕ) (why : Fault) → IsFirmIn bytes clock → HasLiveFault why bytes clock → ⊥
no_live_fault bytes clock why (t, h, firm) k = none_sorted bytes clock why t h firm (sorted why bytes clock k)
