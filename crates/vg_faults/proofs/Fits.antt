-- A text whose live methods make nothing has one sum of bytes of RAM and one of tables: so it has at most one fault.
use Rattle.std.proofs.Common.{◌≡◌, ℕ, ◌<◌, ◌≤◌, ◌⊎◌, List, refl, sym, ap, ◌∙◌, subst, inl, inr, arith}
use Rattle.vg_syntax.specs.Tree.{Node}
use Rattle.vg_source.specs.Values.{Heap}
use Rattle.vg_static_source.specs.Sums.{IsStatic, AreTables}
use Rattle.vg_static_source.proofs.Tests.{one_static, one_tables}
use Rattle.vg_faults.specs.declared.fault.Fault.{Fault}
use Rattle.vg_faults.specs.declared.fault.Fault.TheVariants.{NoTree, TooDeep, TooMany, Broken, InitTrap, InitSteps, InitDepth, InitTouches, InitTooBig}
use Rattle.vg_faults.specs.declared.fault.Fault.TheVariants.{Allocates, StaticFull, TableFull, StackFull, CodeFull, NoMember, NotBuilt}
use Rattle.vg_faults.specs.Living.{IsFirm, HasLiveFault}
use Rattle.vg_faults.specs.Fitting.{StaticFullIn, TableFullIn, IsFitting, IsFittingIn, HasFitFault}
use Rattle.vg_faults.proofs.Makers.{no_live_fault, one_live_fault, one_start}

module _ (bytes : List ℕ) (clock : ℕ) (t u : Node) (h k : Heap) (firm : IsFirm bytes clock t h) (other : IsFirm bytes clock u k) where
  -- the two are one text and one heap
  same_text : (t ≡ u) × (h ≡ k)
  same_text = one_start bytes clock t u h k firm.legal other.legal firm.starts other.starts

  pub same_static : (m n : ℕ) → IsStatic t h m → IsStatic u k n → m ≡ n
  same_static m n a b =
      one_static u k m n (subst (λ z. IsStatic z k m) same_text.0 (subst (λ z. IsStatic t z m) same_text.1 a)) b

  same_tables : (m n : ℕ) → AreTables t h m → AreTables u k n → m ≡ n
  same_tables m n a b =
      one_tables u k m n (subst (λ z. AreTables z k m) same_text.0 (subst (λ z. AreTables t z m) same_text.1 a)) b

past : (m n limit : ℕ) → m ≡ n → limit < m → n ≤ limit → ⊥
past m n limit e a b = omega (arith, e, a, b)

-- ---- faults

-- a fault by what has it: RAM, the tables, or what stands before
abbrev Sorted : Fault → List ℕ → ℕ → Type 0
Sorted why bytes clock =
    ((need : ℕ) × (why ≡ StaticFull need) × StaticFullIn bytes clock need)
    ⊎ (((need : ℕ) × (why ≡ TableFull need) × TableFullIn bytes clock need) ⊎ HasLiveFault why bytes clock)

sorted : (why : Fault) (bytes : List ℕ) (clock : ℕ) → HasFitFault why bytes clock → Sorted why bytes clock
sorted (StaticFull need) bytes clock h = inl (need, refl, h)
sorted (TableFull need) bytes clock h = inr (inl (need, refl, h))
sorted (StackFull need left) bytes clock h = inr (inr h)
sorted (CodeFull words) bytes clock h = inr (inr h)
sorted (NoTree p) bytes clock h = inr (inr h)
sorted (TooDeep p) bytes clock h = inr (inr h)
sorted (TooMany what limit p) bytes clock h = inr (inr h)
sorted (Broken rule p) bytes clock h = inr (inr h)
sorted (InitTrap code p) bytes clock h = inr (inr h)
sorted InitSteps bytes clock h = inr (inr h)
sorted InitDepth bytes clock h = inr (inr h)
sorted (InitTouches address) bytes clock h = inr (inr h)
sorted InitTooBig bytes clock h = inr (inr h)
sorted (Allocates p line) bytes clock h = inr (inr h)
sorted NoMember bytes clock h = inr (inr h)
sorted (NotBuilt p) bytes clock h = inr (inr h)

-- what stands before is a fault
pub is_fit_fault : (why : Fault) (bytes : List ℕ) (clock : ℕ) → HasLiveFault why bytes clock → HasFitFault why bytes clock
is_fit_fault (StaticFull need) bytes clock h = absurd h
is_fit_fault (TableFull need) bytes clock h = absurd h
is_fit_fault (StackFull need left) bytes clock h = h
is_fit_fault (CodeFull words) bytes clock h = h
is_fit_fault (NoTree p) bytes clock h = h
is_fit_fault (TooDeep p) bytes clock h = h
is_fit_fault (TooMany what limit p) bytes clock h = h
is_fit_fault (Broken rule p) bytes clock h = h
is_fit_fault (InitTrap code p) bytes clock h = h
is_fit_fault InitSteps bytes clock h = h
is_fit_fault InitDepth bytes clock h = h
is_fit_fault (InitTouches address) bytes clock h = h
is_fit_fault InitTooBig bytes clock h = h
is_fit_fault (Allocates p line) bytes clock h = h
is_fit_fault NoMember bytes clock h = h
is_fit_fault (NotBuilt p) bytes clock h = h

module _ (bytes : List ℕ) (clock : ℕ) where
  two_statics : (m n : ℕ) → StaticFullIn bytes clock m → StaticFullIn bytes clock n → m ≡ n
  two_statics m n a b = same_static bytes clock a.tree b.tree a.heap b.heap a.firm b.firm m n a.needs b.needs

  two_tables : (m n : ℕ) → TableFullIn bytes clock m → TableFullIn bytes clock n → m ≡ n
  two_tables m n a b = same_tables bytes clock a.tree b.tree a.heap b.heap a.firm b.firm m n a.needs b.needs

  not_both : (m n : ℕ) → StaticFullIn bytes clock m → TableFullIn bytes clock n → ⊥
  not_both m n a b =
      past m b.static_bytes 4096 (same_static bytes clock a.tree b.tree a.heap b.heap a.firm b.firm m b.static_bytes a.needs b.has_static) a.full b.fits

  one_sorted : (a b : Fault) → Sorted a bytes clock → Sorted b bytes clock → a ≡ b
  one_sorted a b (inl (m, e, h)) (inl (n, f, k)) = e ∙ ap StaticFull (two_statics m n h k) ∙ sym f
  one_sorted a b (inl (m, e, h)) (inr (inl (n, f, k))) = absurd (not_both m n h k)
  one_sorted a b (inl (m, e, h)) (inr (inr k)) = absurd (no_live_fault bytes clock b (h.tree, h.heap, h.firm) k)
  one_sorted a b (inr (inl (m, e, h))) (inl (n, f, k)) = absurd (not_both n m k h)
  one_sorted a b (inr (inl (m, e, h))) (inr (inl (n, f, k))) = e ∙ ap TableFull (two_tables m n h k) ∙ sym f
  one_sorted a b (inr (inl (m, e, h))) (inr (inr k)) = absurd (no_live_fault bytes clock b (h.tree, h.heap, h.firm) k)
  one_sorted a b (inr (inr h)) (inl (n, f, k)) = absurd (no_live_fault bytes clock a (k.tree, k.heap, k.firm) h)
  one_sorted a b (inr (inr h)) (inr (inl (n, f, k))) = absurd (no_live_fault bytes clock a (k.tree, k.heap, k.firm) h)
  one_sorted a b (inr (inr h)) (inr (inr k)) = one_live_fault bytes clock a b h k

  pub one_fit_fault : (a b : Fault) → HasFitFault a bytes clock → HasFitFault b bytes clock → a ≡ b
  one_fit_fault a b h k = one_sorted a b (sorted a bytes clock h) (sorted b bytes clock k)

  none_sorted : (why : Fault) (t : Node) (h : Heap) → IsFitting bytes clock t h → Sorted why bytes clock → ⊥
  none_sorted why t h is (inl (m, e, a)) =
      past m is.static_bytes 4096 (same_static bytes clock a.tree t a.heap h a.firm is.firm m is.static_bytes a.needs is.has_static) a.full is.fits
  none_sorted why t h is (inr (inl (m, e, a))) =
      past m is.table_bytes 60000 (same_tables bytes clock a.tree t a.heap h a.firm is.firm m is.table_bytes a.needs is.has_tables) a.full is.tables_fit
  none_sorted why t h is (inr (inr k)) = no_live_fault bytes clock why (t, h, is.firm) k

  -- a text that fits has no fault
  pub no_fit_fault : (why : Fault) → IsFittingIn bytes clock → HasFitFault why bytes clock → ⊥
  no_fit_fault why (t, h, is) k = none_sorted why t h is (sorted why bytes clock k)
