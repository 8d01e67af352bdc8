-- What a plain instruction of linear code does to what waits, and when it ends a run.
use Rattle.std.proofs.Common.{◌≡◌, ℕ, zero, suc, ◌+◌, Bool, true, false, ◌==◌, if◌then◌else◌, List, [], ◌∷◌, Option, Some, None, refl, ap, ◌∙◌, arith}
use Rattle.vg_meaning.specs.Outside.{Outside}
use Rattle.vg_lin.specs.declared.instr.Memory.TheVariants.{Ram}
use Rattle.vg_lin.specs.declared.instr.Plain.{Plain}
use Rattle.vg_lin.specs.declared.instr.Plain.TheVariants.{Copy, Compute, Product, DivideSteps, Load, Store, ReadDevice, WriteDevice, Push, Pop, Find, CodeOf, Stop}
use Rattle.vg_lin.specs.Program.{Program}
use Rattle.vg_lin.specs.Steps.{Went, Goes, Raises, Lacks, Fails}
use Rattle.vg_lin.specs.State.{State, Waiting, value, using, sets, number_at, index_of, loaded, stores, pops_from, reads_from, division_steps, divides, plain}
use Rattle.vg_lin.specs.Values.{computed, next_remainder, next_dividend}
use Rattle.vg_codes.specs.Dispatch.{dispatched}
use Rattle.vg_lin.specs.declared.instr.Operand.TheVariants.{Local}
use Rattle.vg_followed.specs.Stands.{PlainWaits}
use Rattle.vg_followed.specs.Related.{wait_widths}

abbrev pub Did : Plain → State → Outside → Went State → Type 0
Did q s o (Goes s' o') = PlainWaits (wait_widths s.waiting) (wait_widths s'.waiting) q × (o'.interrupts ≡ o.interrupts)
Did q s o (Raises code) = q ≡ Stop code
Did q s o (Lacks address) = (to : ℕ) × ((q ≡ ReadDevice to address) × (o.reads ≡ []))
Did q s o Fails = Unit {0}

did_using : (q : Plain) (s : State) (o : Outside) (v : Option ℕ) (go : ℕ → Went State) → ((x : ℕ) → Did q s o (go x)) → Did q s o (using v go)
did_using q s o (Some x) go h = h x
did_using q s o None go h = tt

pub did : (p : Program) (q : Plain) (s : State) (o : Outside) → Did q s o (plain p q s o)
did p (Copy to a) s o = did_using (Copy to a) s o (value a s) _ (λ x. (refl, refl))
did p (Compute c) s o =
    did_using (Compute c) s o (value c.left s) _
    (λ x. did_using (Compute c) s o (value c.right s) _ (λ y. did_using (Compute c) s o (computed c.operator c.width x y) _ (λ z. (refl, refl))))
did p (Product to a b) s o = did_using (Product to a b) s o (value a s) _ (λ x. did_using (Product to a b) s o (value b s) _ (λ y. (refl, refl)))
did p (DivideSteps r d a) s o = divided division_steps s refl
  where
    divided : (n : ℕ) (t : State) → wait_widths t.waiting ≡ wait_widths s.waiting → Did (DivideSteps r d a) s o (divides n r d a t o)
    divided zero t same = (same, refl)
    divided (suc n) t same =
        did_using (DivideSteps r d a) s o (value (Local r) t) _
        (λ x. did_using (DivideSteps r d a) s o (value (Local d) t) _
        (λ y. did_using (DivideSteps r d a) s o (value a t) _
        (λ z. divided n (sets d (next_dividend x y z) (sets r (next_remainder x y z) t)) same)))
did p (Load m w to a) s o =
    did_using (Load m w to a) s o (value a.index s) _ (λ x. did_using (Load m w to a) s o (loaded p m s w (index_of m (a.base + x))) _ (λ z. (refl, refl)))
did p (Store w a from) s o =
    did_using (Store w a from) s o (value a.index s) _ (λ x. did_using (Store w a from) s o (value from s) _ (λ y. stored x y (index_of Ram (a.base + x))))
  where
    stored : (x y : ℕ) (at : Option ℕ) → Did (Store w a from) s o (stores s o w y at)
    stored x y None = tt
    stored x y (Some i) = did_using (Store w a from) s o (number_at s.ram w i) _ (λ old. (refl, refl))
did p (ReadDevice to address) s o = by_reads o.reads refl
  where
    by_reads : (rs : List ℕ) → o.reads ≡ rs → Did (ReadDevice to address) s o (reads_from rs to address s o)
    by_reads [] h = (to, (refl, h))
    by_reads (r ∷ rs) h = (refl, refl)
did p (WriteDevice address a) s o = did_using (WriteDevice address a) s o (value a s) _ (λ x. (refl, refl))
did p (Push w a) s o = did_using (Push w a) s o (value a s) _ (λ x. (refl, refl))
did p (Pop w to) s o = by_waiting s.waiting refl
  where
    by_waiting : (ws : List Waiting) → s.waiting ≡ ws → Did (Pop w to) s o (pops_from ws w to s o)
    by_waiting [] h = tt
    by_waiting (x ∷ xs) h = by_test (x.width == w) refl
      where
        by_test : (b : Bool) → (x.width == w) ≡ b → Did (Pop w to) s o (if b then Goes (sets to x.value (record s { waiting = xs })) o else Fails)
        by_test true t = (ap wait_widths h ∙ ap (λ n. n ∷ wait_widths xs) (let same : x.width ≡ w = grind (arith, t) in same), refl)
        by_test false t = tt
did p (Find place to a) s o = did_using (Find place to a) s o (value a s) _ (λ n. did_using (Find place to a) s o (dispatched p.dispatches place n) _ (λ q. (refl, refl)))
did p (CodeOf q to) s o = (refl, refl)
did p (Stop code) s o = refl
