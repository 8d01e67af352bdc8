-- That locals keep their widths, and values that the widths hold.
use Rattle.std.specs.Prelude.{ℕ, zero, suc, ◌+◌, ◌*◌, ◌<◌, ◌^◌, Bool, true, false, ◌==◌, List, [], ◌∷◌, Option, Some, None, if◌then◌else◌}
use Rattle.std.proofs.Common.{refl, subst, arith}
use Rattle.std.proofs.Math.Nat.{one-le-pow, mod-lt}
use Rattle.vg_meaning.specs.Outside.{Outside}
use Rattle.vg_lin.specs.declared.instr.Memory.TheVariants.{Ram}
use Rattle.vg_lin.specs.declared.instr.Operand.{Operand}
use Rattle.vg_lin.specs.declared.instr.Operand.TheVariants.{Local}
use Rattle.vg_lin.specs.declared.instr.Target.{Target}
use Rattle.vg_lin.specs.declared.instr.Plain.{Plain as PlainInstr}
use Rattle.vg_lin.specs.declared.instr.Plain.TheVariants.{Copy, Compute, Product, DivideSteps, Load, Store, ReadDevice, WriteDevice, Push, Pop, Find, CodeOf, Stop}
use Rattle.vg_lin.specs.Values.{low, computed, next_remainder, next_dividend}
use Rattle.vg_lin.specs.Steps.{Awaits, Result, Interrupt, Went, Goes, Raises, Lacks, Fails}
use Rattle.vg_lin.specs.Program.{Program}
use Rattle.vg_lin.specs.State.{LocalState, Waiting, State, using, value, sets, with_local, pops_from, number_at, index_of, loaded, stores, reads_from, division_steps, divides, plain}
use Rattle.vg_codes.specs.Dispatch.{dispatched}
use Rattle.vg_lin.specs.Meaning.{with_result}
use Rattle.vg_lin.specs.Meaning.{begun, resume}
use Rattle.vg_expand.specs.Expansion.{Holds}

low_below : (w x : ℕ) → low w x < 256 ^ w
low_below w x = mod-lt x (let h = one-le-pow w 256 (omega arith) in omega (arith, h))

pub begun_holds : (ws xs : List ℕ) → Holds ws (begun ws xs)
begun_holds [] xs = tt {0}
begun_holds (w ∷ ws) [] = (refl, tt {0}, begun_holds ws [])
begun_holds (w ∷ ws) (x ∷ xs) = (refl, low_below w x, begun_holds ws xs)

pub sets_holds : (ws : List ℕ) (ls : List LocalState) (to x : ℕ) → Holds ws ls → Holds ws (with_local ls to x)
sets_holds [] [] to x h = tt {0}
sets_holds [] (l ∷ ls) to x h = absurd h
sets_holds (w ∷ ws) [] to x h = absurd h
sets_holds (w ∷ ws) (l ∷ ls) zero x (e, v, h) = (e, held, h)
  where
    held : low l.width x < 256 ^ w
    held = subst (λ k. low l.width x < 256 ^ k) e (low_below l.width x)
sets_holds (w ∷ ws) (l ∷ ls) (suc to) x (e, v, h) = (e, v, sets_holds ws ls to x h)

-- what a plain instruction leaves
abbrev pub Keeps : List ℕ → Went State → Type 0
Keeps ws (Goes s o) = Holds ws s.locals
Keeps ws (Raises code) = Unit {0}
Keeps ws (Lacks address) = Unit {0}
Keeps ws Fails = Unit {0}

using_keeps : (ws : List ℕ) (a : Option ℕ) (go : ℕ → Went State) → ((x : ℕ) → Keeps ws (go x)) → Keeps ws (using a go)
using_keeps ws (Some x) go h = h x
using_keeps ws None go h = tt {0}

reads_keep : (ws : List ℕ) (vs : List ℕ) (to address : ℕ) (s : State) (o : Outside) → Holds ws s.locals → Keeps ws (reads_from vs to address s o)
reads_keep ws [] to address s o h = tt {0}
reads_keep ws (v ∷ vs) to address s o h = sets_holds ws s.locals to v h

stores_keep : (ws : List ℕ) (s : State) (o : Outside) (width x : ℕ) (i : Option ℕ) → Holds ws s.locals → Keeps ws (stores s o width x i)
stores_keep ws s o width x None h = tt {0}
stores_keep ws s o width x (Some i) h = using_keeps ws (number_at s.ram width i) _ (λ old. h)

pops_keep : (ws : List ℕ) (xs : List Waiting) (width to : ℕ) (s : State) (o : Outside) → Holds ws s.locals → Keeps ws (pops_from xs width to s o)
pops_keep ws [] width to s o h = tt {0}
pops_keep ws (x ∷ xs) width to s o h = by_test (x.width == width)
  where
    by_test : (b : Bool) → Keeps ws (if b then Goes (sets to x.value (record s { waiting = xs })) o else Fails)
    by_test true = sets_holds ws s.locals to x.value h
    by_test false = tt {0}

divides_keep : (ws : List ℕ) (n r d : ℕ) (a : Operand) (s : State) (o : Outside) → Holds ws s.locals → Keeps ws (divides n r d a s o)
divides_keep ws zero r d a s o h = h
divides_keep ws (suc n) r d a s o h =
    using_keeps ws (value (Local r) s) _ (λ x. using_keeps ws (value (Local d) s) _ (λ y. using_keeps ws (value a s) _ (λ z.
    divides_keep ws n r d a (sets d (next_dividend x y z) (sets r (next_remainder x y z) s)) o
    (sets_holds ws (with_local s.locals r _) d _ (sets_holds ws s.locals r _ h)))))

pub plain_keeps : (p : Program) (i : PlainInstr) (ws : List ℕ) (s : State) (o : Outside) → Holds ws s.locals → Keeps ws (plain p i s o)
plain_keeps p (Copy to a) ws s o h = using_keeps ws (value a s) _ (λ x. sets_holds ws s.locals to x h)
plain_keeps p (Compute c) ws s o h =
    using_keeps ws (value c.left s) _ (λ x. using_keeps ws (value c.right s) _ (λ y.
    using_keeps ws (computed c.operator c.width x y) _ (λ z. sets_holds ws s.locals c.to z h)))
plain_keeps p (Product to a b) ws s o h =
    using_keeps ws (value a s) _ (λ x. using_keeps ws (value b s) _ (λ y. sets_holds ws s.locals to (low 1 x * low 1 y) h))
plain_keeps p (DivideSteps r d a) ws s o h = divides_keep ws division_steps r d a s o h
plain_keeps p (Load m w to a) ws s o h =
    using_keeps ws (value a.index s) _ (λ i. using_keeps ws (loaded p m s w (index_of m (a.base + i))) _ (λ x. sets_holds ws s.locals to x h))
plain_keeps p (Store w a from) ws s o h =
    using_keeps ws (value a.index s) _ (λ i. using_keeps ws (value from s) _ (λ x. stores_keep ws s o w x (index_of Ram (a.base + i)) h))
plain_keeps p (ReadDevice to address) ws s o h = reads_keep ws o.reads to address s o h
plain_keeps p (WriteDevice address a) ws s o h = using_keeps ws (value a s) _ (λ x. h)
plain_keeps p (Push w a) ws s o h = using_keeps ws (value a s) _ (λ x. h)
plain_keeps p (Pop w to) ws s o h = pops_keep ws s.waiting w to s o h
plain_keeps p (Find d to a) ws s o h =
    using_keeps ws (value a s) _ (λ n. using_keeps ws (dispatched p.dispatches d n) _ (λ q. sets_holds ws s.locals to (p.codes.code q) h))
plain_keeps p (CodeOf q to) ws s o h = sets_holds ws s.locals to (p.codes.code q) h
plain_keeps p (Stop code) ws s o h = tt {0}

-- behind a call
pub resume_holds : (ws : List ℕ) (a : Awaits) (kept returned : State) (v : ℕ) → Holds ws kept.locals → Holds ws (resume a kept returned v).locals
resume_holds ws (Result c) kept returned v h = to_some c.to
  where
    to_some : (to : Option Target) → Holds ws (with_result to v (record kept { ram = returned.ram })).locals
    to_some (Some to) = sets_holds ws kept.locals to.local v h
    to_some None = h
resume_holds ws Interrupt kept returned v h = h
