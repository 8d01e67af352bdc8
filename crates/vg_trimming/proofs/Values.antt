-- How many bytes hold what instructions give, and that bytes stay bytes.
use Rattle.std.specs.Prelude.{ℕ, zero, suc, ◌+◌, ◌*◌, ◌/◌, ◌%◌, ◌<◌, ◌^◌, Bool, true, false, ◌==◌, nat_lt, List, [], ◌∷◌}
use Rattle.std.specs.Prelude.{Option, Some, None, ℤ, slice_get, slice_set, if◌then◌else◌}
use Rattle.std.proofs.Common.{◌≡◌, refl, sym, subst, arith}
use Rattle.std.proofs.Math.Nat.{one-le-pow, mod-lt, pow-suc, div-le_self}
use Rattle.std.proofs.lemmas.Option.{same_Some, none-some}
use Rattle.vg_meaning.specs.Outside.{Outside, AreReads}
use Rattle.vg_codes.specs.Dispatch.{dispatched}
use Rattle.vg_lin.specs.declared.instr.Operand.{Operand}
use Rattle.vg_lin.specs.declared.instr.Operand.TheVariants.{Local}
use Rattle.vg_lin.specs.declared.instr.Operator.{Operator}
use Rattle.vg_lin.specs.declared.instr.Operator.TheVariants.{Plus, Minus, Times, Divide, Remainder, And, Or, Xor, ShiftLeft, ShiftRight}
use Rattle.vg_lin.specs.declared.instr.Memory.{Memory}
use Rattle.vg_lin.specs.declared.instr.Memory.TheVariants.{Ram, Flash}
use Rattle.vg_lin.specs.declared.instr.Plain.{Plain as PlainInstr}
use Rattle.vg_lin.specs.declared.instr.Plain.TheVariants.{Copy, Compute, Product, DivideSteps, Load, Store, ReadDevice, WriteDevice}
use Rattle.vg_lin.specs.declared.instr.Plain.TheVariants.{Push, Pop, Find, CodeOf, Stop}
use Rattle.vg_lin.specs.Values.{low, divided, computed, next_remainder, next_dividend}
use Rattle.vg_lin.specs.Steps.{Went, Goes, Raises, Lacks, Fails}
use Rattle.vg_lin.specs.Program.{Program}
use Rattle.vg_lin.specs.State.{Waiting, State, using, value, sets, joined, number_at, with_number, index_of, loaded, stores, pops_from}
use Rattle.vg_lin.specs.State.{reads_from, division_steps, divides, plain}
use Rattle.vg_trimming.specs.Runs.{AreBytes}
use Rattle.vg_trimming.proofs.Homes.{low_below}

-- ---- computations

divided_below : (w d : ℕ) (q : ℤ) (z : ℕ) → divided w d q ≡ Some z → z < 256 ^ w
divided_below w zero q z e = absurd (none-some z e)
divided_below w (suc d) q z e = subst (λ k. k < 256 ^ w) (same_Some _ z e) (low_below w _)

if_below : (w x : ℕ) (b : Bool) → x < 256 ^ w → (if b then x else 0) < 256 ^ w
if_below w x true h = h
if_below w x false h = let k = one-le-pow w 256 (omega arith) in omega (arith, k)

pub computed_below : (c : Operator) (w x y z : ℕ) → computed c w x y ≡ Some z → z < 256 ^ w
computed_below Plus w x y z e = subst (λ k. k < 256 ^ w) (same_Some _ z e) (low_below w _)
computed_below Minus w x y z e = subst (λ k. k < 256 ^ w) (same_Some _ z e) (low_below w _)
computed_below Times w x y z e = subst (λ k. k < 256 ^ w) (same_Some _ z e) (low_below w _)
computed_below Divide w x y z e = divided_below w (low 4 y) _ z e
computed_below Remainder w x y z e = divided_below w (low 4 y) _ z e
computed_below And w x y z e = subst (λ k. k < 256 ^ w) (same_Some _ z e) (low_below w _)
computed_below Or w x y z e = subst (λ k. k < 256 ^ w) (same_Some _ z e) (low_below w _)
computed_below Xor w x y z e = subst (λ k. k < 256 ^ w) (same_Some _ z e) (low_below w _)
computed_below ShiftLeft w x n z e =
    subst (λ k. k < 256 ^ w) (same_Some _ z e) (if_below w (low w (x * 2 ^ n)) (nat_lt n (8 * w)) (low_below w _))
computed_below ShiftRight w x n z e =
    subst (λ k. k < 256 ^ w) (same_Some _ z e)
    (if_below w (low w x / 2 ^ n) (nat_lt n (8 * w)) (let h = low_below w x in let k = div-le_self (low w x) (2 ^ n) in omega (arith, h, k)))

-- ---- bytes

byte_at : (xs : List ℕ) (i x : ℕ) → AreBytes xs → slice_get xs i ≡ Some x → x < 256
byte_at [] i x h e = absurd (none-some x e)
byte_at (y ∷ xs) zero x (g, h) e = subst (λ k. k < 256) (same_Some y x e) g
byte_at (y ∷ xs) (suc i) x (g, h) e = byte_at xs i x h e

pub number_below : (xs : List ℕ) (w i z : ℕ) → AreBytes xs → number_at xs w i ≡ Some z → z < 256 ^ w
number_below xs zero i z h e = subst (λ k. k < 256 ^ zero) (same_Some 0 z e) (omega arith)
number_below xs (suc w) i z h e = by_byte (slice_get xs i) refl (number_at xs w (suc i)) (λ y f. number_below xs w (suc i) y h f) e
  where
    joins : (x y m : ℕ) → x < 256 → y < m → x + 256 * y < m * 256
    joins x y m g h = omega (arith, g, h)

    by_byte : (a : Option ℕ) → slice_get xs i ≡ a → (b : Option ℕ) → ((y : ℕ) → b ≡ Some y → y < 256 ^ w) → joined a b ≡ Some z → z < 256 ^ suc w
    by_byte (Some x) f (Some y) more e =
        subst (λ k. k < 256 ^ suc w) (same_Some (x + 256 * y) z e)
        (subst (λ k. x + 256 * y < k) (sym (pow-suc 256 w)) (joins x y (256 ^ w) (byte_at xs i x h f) (more y refl)))
    by_byte (Some x) f None more e = absurd (none-some z e)
    by_byte None f b more e = absurd (none-some z e)

pub loaded_below : (p : Program) (m : Memory) (s : State) (w : ℕ) (i : Option ℕ) (z : ℕ) → AreBytes p.tables → AreBytes s.ram
    → loaded p m s w i ≡ Some z → z < 256 ^ w
loaded_below p Ram s w (Some i) z t r e = number_below s.ram w i z r e
loaded_below p Flash s w (Some i) z t r e = number_below p.tables w i z t e
loaded_below p m s w None z t r e = absurd (none-some z e)

byte_set : (xs : List ℕ) (i x : ℕ) → x < 256 → AreBytes xs → AreBytes (slice_set xs i x)
byte_set [] i x h g = g
byte_set (y ∷ xs) zero x h (g, a) = (h, a)
byte_set (y ∷ xs) (suc i) x h (g, a) = (g, byte_set xs i x h a)

number_set : (xs : List ℕ) (w i x : ℕ) → AreBytes xs → AreBytes (with_number xs w i x)
number_set xs zero i x h = h
number_set xs (suc w) i x h = number_set (slice_set xs i (x % 256)) w (suc i) (x / 256) (byte_set xs i (x % 256) (mod-lt x (omega arith)) h)

-- what a plain instruction leaves
abbrev pub KeepsBytes : Went State → Type 0
KeepsBytes (Goes s o) = AreBytes s.ram × AreReads o.reads
KeepsBytes (Raises code) = Unit {0}
KeepsBytes (Lacks address) = Unit {0}
KeepsBytes Fails = Unit {0}

using_keeps : (a : Option ℕ) (go : ℕ → Went State) → ((x : ℕ) → KeepsBytes (go x)) → KeepsBytes (using a go)
using_keeps (Some x) go h = h x
using_keeps None go h = tt {0}

divides_keep : (n r d : ℕ) (a : Operand) (s : State) (o : Outside) → AreBytes s.ram → AreReads o.reads → KeepsBytes (divides n r d a s o)
divides_keep zero r d a s o h g = (h, g)
divides_keep (suc n) r d a s o h g =
    using_keeps (value (Local r) s) _ (λ x. using_keeps (value (Local d) s) _ (λ y. using_keeps (value a s) _ (λ z.
    divides_keep n r d a (sets d (next_dividend x y z) (sets r (next_remainder x y z) s)) o h g)))

stores_keep : (s : State) (o : Outside) (w x : ℕ) (i : Option ℕ) → AreBytes s.ram → AreReads o.reads → KeepsBytes (stores s o w x i)
stores_keep s o w x None h g = tt {0}
stores_keep s o w x (Some i) h g = using_keeps (number_at s.ram w i) _ (λ old. (number_set s.ram w i x h, g))

pops_keep : (xs : List Waiting) (w to : ℕ) (s : State) (o : Outside) → AreBytes s.ram → AreReads o.reads → KeepsBytes (pops_from xs w to s o)
pops_keep [] w to s o h g = tt {0}
pops_keep (x ∷ xs) w to s o h g = by_test (x.width == w)
  where
    by_test : (b : Bool) → KeepsBytes (if b then Goes (sets to x.value (record s { waiting = xs })) o else Fails)
    by_test true = (h, g)
    by_test false = tt {0}

reads_keep : (vs : List ℕ) (to address : ℕ) (s : State) (o : Outside) → AreBytes s.ram → AreReads vs → KeepsBytes (reads_from vs to address s o)
reads_keep [] to address s o h g = tt {0}
reads_keep (v ∷ vs) to address s o h (k, g) = (h, g)

pub bytes_kept : (p : Program) (i : PlainInstr) (s : State) (o : Outside) → AreBytes s.ram → AreReads o.reads → KeepsBytes (plain p i s o)
bytes_kept p (Copy to a) s o h g = using_keeps (value a s) _ (λ x. (h, g))
bytes_kept p (Compute c) s o h g =
    using_keeps (value c.left s) _ (λ x. using_keeps (value c.right s) _ (λ y. using_keeps (computed c.operator c.width x y) _ (λ z. (h, g))))
bytes_kept p (Product to a b) s o h g = using_keeps (value a s) _ (λ x. using_keeps (value b s) _ (λ y. (h, g)))
bytes_kept p (DivideSteps r d a) s o h g = divides_keep division_steps r d a s o h g
bytes_kept p (Load m w to a) s o h g =
    using_keeps (value a.index s) _ (λ i. using_keeps (loaded p m s w (index_of m (a.base + i))) _ (λ x. (h, g)))
bytes_kept p (Store w a from) s o h g =
    using_keeps (value a.index s) _ (λ i. using_keeps (value from s) _ (λ x. stores_keep s o w x (index_of Ram (a.base + i)) h g))
bytes_kept p (ReadDevice to address) s o h g = reads_keep o.reads to address s o h g
bytes_kept p (WriteDevice address a) s o h g = using_keeps (value a s) _ (λ x. (h, g))
bytes_kept p (Push w a) s o h g = using_keeps (value a s) _ (λ x. (h, g))
bytes_kept p (Pop w to) s o h g = pops_keep s.waiting w to s o h g
bytes_kept p (Find d to a) s o h g =
    using_keeps (value a s) _ (λ n. using_keeps (dispatched p.dispatches d n) _ (λ q. (h, g)))
bytes_kept p (CodeOf q to) s o h g = (h, g)
bytes_kept p (Stop code) s o h g = tt {0}
