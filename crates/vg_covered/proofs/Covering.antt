-- That what the templates ask of a layout is granted by that of the procedure, instruction by instruction.
use Rattle.std.specs.Prelude.{ℕ, zero, suc, ◌<◌, ◌≢◌, Bool, true, false, not, ◌&&◌, ◌==◌, ◌||◌, nat_lt, List, [], ◌∷◌, length, slice_index, Option, Some, None, slice_get}
use Rattle.std.specs.List.{AllByRecursion}
use Rattle.std.proofs.Common.{◌≡◌, refl, sym, subst, arith}
use Rattle.vg_lin.specs.declared.instr.Memory.TheVariants.{Ram, Flash}
use Rattle.vg_lin.specs.declared.instr.Memory.{Memory}
use Rattle.vg_lin.specs.declared.instr.Address.{Address}
use Rattle.vg_lin.specs.declared.instr.Call.{Call as Calling}
use Rattle.vg_lin.specs.declared.instr.Test.{Test}
use Rattle.vg_lin.specs.declared.instr.Operand.{Operand}
use Rattle.vg_lin.specs.declared.instr.Operand.TheVariants.{Local, Known}
use Rattle.vg_lin.specs.declared.instr.Operator.{Operator}
use Rattle.vg_lin.specs.declared.instr.Operator.TheVariants.{Plus, Minus, Times, Divide, Remainder, And, Or, Xor, ShiftLeft, ShiftRight}
use Rattle.vg_lin.specs.declared.instr.Computation.{Computation}
use Rattle.vg_lin.specs.declared.instr.Passed.{Passed}
use Rattle.vg_lin.specs.declared.instr.Target.{Target}
use Rattle.vg_lin.specs.declared.instr.Callee.{Callee}
use Rattle.vg_lin.specs.declared.instr.Callee.TheVariants.{Procedure as ByNumber, Code as ByCode}
use Rattle.vg_lin.specs.declared.instr.Plain.{Plain as PlainInstr}
use Rattle.vg_lin.specs.declared.instr.Plain.TheVariants.{Copy, Compute, Product, DivideSteps, Load, Store, ReadDevice, WriteDevice, Push, Pop, Find, CodeOf, Stop}
use Rattle.vg_lin.specs.declared.instr.Instr.{Instr}
use Rattle.vg_lin.specs.declared.instr.Instr.TheVariants.{Plain, When, Unless, Jump, Call, Return, Idle}
use Rattle.vg_lin.specs.Steps.{Result, Interrupt}
use Rattle.vg_lin.specs.Meaning.{operands}
use Rattle.vg_lin.specs.Program.{Procedure, Program}
use Rattle.vg_lin.specs.Sound.{IsWidth, IsLocal, IsOperand, IsPassed, IsTo, IsCallee, IsTest, IsPlain, AreOperands, IsSound}
use Rattle.vg_templates.specs.Layouts.{Layout, width_of}
use Rattle.vg_templates.specs.Held.{IsReady, IsSet}
use Rattle.vg_templates.specs.Plain.{IsBytewise}
use Rattle.vg_templates.specs.Straight.{IsCovered}
use Rattle.vg_templates.specs.Frames.{wanted, gets, AllOutlive}
use Rattle.vg_templates.specs.Outcomes.{IsKept}
use Rattle.vg_templates.specs.Living.{reads, passes_on, aims_by, tests_it, past, needs, leads_to, is_live, wants_back, lasts}
use Rattle.vg_templates.specs.Flow.{IsDivided}
use Rattle.vg_templates.specs.Framed.{framed, live_in}
use Rattle.vg_templates.proofs.Living.{live_where_needed, lasts_where_wanted}
use Rattle.vg_templates.proofs.Framing.{framed-layout, framed-outlives}
use Rattle.vg_alloc.proofs.Spotting.{can_be_framed}
use Rattle.vg_followed.specs.Covered.{CanCompute, CanDivide, CanBeCoded, CanTest, CanAim, CanPass, CanTake, CanCall, Covers}
use Rattle.vg_covered.specs.Fitting.{IsExpanded, IsPlainFit, IsFit}

-- ---- tests

both_first : (a b : Bool) → (a && b) ≡ true → a ≡ true
both_first true b e = refl
both_first false b e = e

both_second : (a b : Bool) → (a && b) ≡ true → b ≡ true
both_second true b e = e
both_second false b e = absurd (let clash : false ≡ true = e in cc)

both_hold : (a b : Bool) → a ≡ true → b ≡ true → (a && b) ≡ true
both_hold true b e f = f
both_hold false b e f = e

one_holds : (a b : Bool) → a ≡ true → (a || b) ≡ true
one_holds true b e = refl
one_holds false b e = absurd (let clash : false ≡ true = e in cc)

other_holds : (a b : Bool) → b ≡ true → (a || b) ≡ true
other_holds true b e = refl
other_holds false b e = e

same : (k : ℕ) → (k == k) ≡ true
same k = grind arith

unlike : (k to : ℕ) → k ≢ to → not (k == to) ≡ true
unlike k to n = by_test (k == to) refl
  where
    by_test : (b : Bool) → (k == to) ≡ b → not b ≡ true
    by_test true e = absurd (n (let equal : k ≡ to = grind (arith, e) in equal))
    by_test false e = refl

below : (k n : ℕ) → nat_lt k n ≡ true → k < n
below k n h = grind (arith, h)

is_below : (k n : ℕ) → k < n → nat_lt k n ≡ true
is_below k n h = grind (arith, h)

-- ---- the instruction at a place

module _ (m : Procedure) (s : IsSound m) (pc : ℕ) (i : Instr) (at : slice_get m.code pc ≡ Some i) where
  abbrev pub l : Layout
  l = framed m

  abbrev pub live : ℕ → Bool
  live = live_in m pc

  abbrev pub behind : ℕ → Bool
  behind = live_in m (suc pc)

  abbrev is_needed : ℕ → Bool
  is_needed k = needs (is_live m.code k (suc pc)) (is_live m.code k (leads_to pc i)) k i

  -- a local that the instruction needs is live
  lives : (k : ℕ) → k < length m.widths → is_needed k ≡ true → live k ≡ true
  lives k low need = both_hold (nat_lt k (length m.widths)) (is_live m.code k pc) (is_below k (length m.widths) low) (live_where_needed m.code k pc i at need)

  numbered : (place k : ℕ) → live_in m place k ≡ true → k < length m.widths
  numbered place k h = below k (length m.widths) (both_first (nat_lt k (length m.widths)) _ h)

  lives_at : (place k : ℕ) → live_in m place k ≡ true → is_live m.code k place ≡ true
  lives_at place k h = both_second (nat_lt k (length m.widths)) _ h

  -- an operand is ready that the instruction reads
  ready : (a : Operand) → IsOperand m a → ((k : ℕ) → reads a k ≡ true → is_needed k ≡ true) → IsReady l live a
  ready (Local k) h need = (h, lives k h (need k (same k)))
  ready (Known x) h need = tt

  -- it keeps what is live at a place to which it leads, where it needs it then
  keeps : (place : ℕ) → ((k : ℕ) → is_live m.code k place ≡ true → is_needed k ≡ true) → IsKept live (live_in m place)
  keeps place need k h = lives k (numbered place k h) (need k (lives_at place k h))

  -- and a local can be set, if it needs all others that are live behind it
  sets_among : (some other : ℕ → Bool) (to : ℕ) → IsLocal m to → ((k : ℕ) → other k ≡ true → k < length m.widths)
      → ((k : ℕ) → other k ≡ true → k ≢ to → some k ≡ true) → IsSet l some other to
  sets_among some other to h low need =
      record {
        there = h;
        others = λ k alive ne. (need k alive ne, (framed-layout m (can_be_framed m s)).apart to k h (low k alive) (λ e. ne (sym e)));
      }

  set : (to : ℕ) → IsLocal m to → ((k : ℕ) → past to k (is_live m.code k (suc pc)) ≡ true → is_needed k ≡ true) → IsSet l live behind to
  set to h need =
      sets_among live behind to h (numbered (suc pc))
      (λ k alive ne. lives k (numbered (suc pc) k alive) (need k (both_hold (not (k == to)) _ (unlike k to ne) (lives_at (suc pc) k alive))))

  -- a width at an index
  some_width : (ws : List ℕ) (k : ℕ) → AllByRecursion IsWidth ws → k < length ws → 0 < slice_index ws k
  some_width [] k h lt = absurd (omega (arith, lt))
  some_width (w ∷ ws) zero (h, g) lt = omega (arith, h.0)
  some_width (w ∷ ws) (suc k) (h, g) lt = some_width ws k g (omega (arith, lt))

  wide : (to : ℕ) → IsLocal m to → 0 < width_of l to
  wide to h = some_width m.widths to s.widths h

  outlives : (k : ℕ) → k < length m.widths → wants_back (is_live m.code k (suc pc)) k i ≡ true → lasts m.code k ≡ true
  outlives k low want = lasts_where_wanted m.code k pc i at want

-- ---- plain instructions

module _ (m : Procedure) (s : IsSound m) (pc : ℕ) where
  abbrev now : ℕ → Bool
  now = live_in m pc

  abbrev next : ℕ → Bool
  next = live_in m (suc pc)

  abbrev Stands : Instr → Type 0
  Stands i = slice_get m.code pc ≡ Some i

  -- what a computation reads, and what it sets
  left : (c : Computation) → Stands (Plain (Compute c)) → IsOperand m c.left → IsReady (framed m) now c.left
  left c at h = ready m s pc (Plain (Compute c)) at c.left h (λ k r. one_holds (reads c.left k || reads c.right k) _ (one_holds (reads c.left k) (reads c.right k) r))

  right : (c : Computation) → Stands (Plain (Compute c)) → IsOperand m c.right → IsReady (framed m) now c.right
  right c at h =
      ready m s pc (Plain (Compute c)) at c.right h
      (λ k r. one_holds (reads c.left k || reads c.right k) _ (other_holds (reads c.left k) (reads c.right k) r))

  result : (c : Computation) → Stands (Plain (Compute c)) → IsLocal m c.to → IsSet (framed m) now next c.to
  result c at h = set m s pc (Plain (Compute c)) at c.to h (λ k r. other_holds (reads c.left k || reads c.right k) _ r)

  bytewise : (c : Computation) (op : Operator) → c.operator ≡ op → IsBytewise op → Stands (Plain (Compute c)) → IsPlain m (Compute c)
      → IsCovered (framed m) now next (Compute c)
  bytewise c op eo bytes at (hw, ht, hl, hr) =
      ((subst IsBytewise (sym eo) bytes, (omega (arith, hw.0), wide m s pc (Plain (Compute c)) at c.to ht)), ((left c at hl, right c at hr), result c at ht))

  computes : (c : Computation) (op : Operator) (a : Operand) → c.operator ≡ op → c.right ≡ a → Stands (Plain (Compute c)) → IsPlain m (Compute c)
      → IsExpanded op
      → CanCompute (framed m) now next c op a
  computes c Plus a eo ao at h f = bytewise c Plus eo tt at h
  computes c Minus a eo ao at h f = bytewise c Minus eo tt at h
  computes c Times a eo ao at h f = absurd f
  computes c Divide a eo ao at h f = absurd f
  computes c Remainder a eo ao at h f = absurd f
  computes c And a eo ao at h f = bytewise c And eo tt at h
  computes c Or a eo ao at h f = bytewise c Or eo tt at h
  computes c Xor a eo ao at h f = bytewise c Xor eo tt at h
  computes c ShiftLeft (Known n) eo ao at (hw, ht, hl, hr) f = (hw, (left c at hl, result c at ht))
  computes c ShiftLeft (Local i) eo ao at (hw, ht, hl, hr) f = (hw, ((left c at hl, subst (IsReady (framed m) now) ao (right c at hr)), result c at ht))
  computes c ShiftRight (Known n) eo ao at (hw, ht, hl, hr) f = (hw, (left c at hl, result c at ht))
  computes c ShiftRight (Local i) eo ao at (hw, ht, hl, hr) f = (hw, ((left c at hl, subst (IsReady (framed m) now) ao (right c at hr)), result c at ht))

  divides : (r d : ℕ) (a : Operand) (p : Program) → Stands (Plain (DivideSteps r d a)) → IsPlain m (DivideSteps r d a) → IsPlainFit p (DivideSteps r d a)
      → CanDivide (framed m) now next r d a
  divides r d a p at (hr, hd, ne, ha) f =
      let i = Plain (DivideSteps r d a) in
      record {
        apart = ne;
        ready_remainder = ready m s pc i at (Local r) hr (λ k e. one_holds ((k == r) || (k == d)) _ (one_holds (k == r) (k == d) e));
        ready_dividend = ready m s pc i at (Local d) hd (λ k e. one_holds ((k == r) || (k == d)) _ (other_holds (k == r) (k == d) e));
        ready_divisor = ready m s pc i at a ha (λ k e. other_holds ((k == r) || (k == d)) _ (one_holds (reads a k) _ e));
        narrow = f;
        first = sets_among m s pc i at now now r hr (numbered m s pc i at pc) (λ k alive other. alive);
        second = sets_among m s pc i at now now d hd (numbered m s pc i at pc) (λ k alive other. alive);
        kept = keeps m s pc i at (suc pc) (λ k e. other_holds ((k == r) || (k == d)) _ (other_holds (reads a k) _ e));
      }

  loads : (w to : ℕ) (mem : Memory) (a : Address) → Stands (Plain (Load mem w to a)) → IsPlain m (Load mem w to a)
      → IsReady (framed m) now a.index × IsSet (framed m) now next to
  loads w to mem a at (hw, ht, ha) =
      let i = Plain (Load mem w to a) in (
        ready m s pc i at a.index ha (λ k e. one_holds (reads a.index k) _ e),
        set m s pc i at to ht (λ k e. other_holds (reads a.index k) _ e),
      )

  plains : (p : Program) (q : PlainInstr) → Stands (Plain q) → IsPlain m q → IsPlainFit p q → CanBeCoded (framed m) p now next q
  plains p (Copy to a) at (ht, ha) f =
      let i = Plain (Copy to a) in (ready m s pc i at a ha (λ k e. one_holds (reads a k) _ e), set m s pc i at to ht (λ k e. other_holds (reads a k) _ e))
  plains p (Compute c) at h f = computes c c.operator c.right refl refl at h f
  plains p (Product to a b) at (ht, ha, hb) f =
      let i = Plain (Product to a b) in (
        (
          ready m s pc i at a ha (λ k e. one_holds (reads a k || reads b k) _ (one_holds (reads a k) (reads b k) e)),
          ready m s pc i at b hb (λ k e. one_holds (reads a k || reads b k) _ (other_holds (reads a k) (reads b k) e)),
        ),
        set m s pc i at to ht (λ k e. other_holds (reads a k || reads b k) _ e),
      )
  plains p (DivideSteps r d a) at h f = divides r d a p at h f
  plains p (Load Ram w to a) at h f = (h.0, loads w to Ram a at h)
  plains p (Load Flash w to a) at h f = (h.0, loads w to Flash a at h)
  plains p (Store w a from) at (hw, ha, hf) f =
      let i = Plain (Store w a from) in (
        hw,
        (
          (
            ready m s pc i at a.index ha (λ k e. one_holds (reads a.index k || reads from k) _ (one_holds (reads a.index k) (reads from k) e)),
            ready m s pc i at from hf (λ k e. one_holds (reads a.index k || reads from k) _ (other_holds (reads a.index k) (reads from k) e)),
          ),
          keeps m s pc i at (suc pc) (λ k e. other_holds (reads a.index k || reads from k) _ e),
        ),
      )
  plains p (ReadDevice to address) at ht f = (f, set m s pc (Plain (ReadDevice to address)) at to ht (λ k e. e))
  plains p (WriteDevice address a) at ha f =
      let i = Plain (WriteDevice address a) in
      (f, (ready m s pc i at a ha (λ k e. one_holds (reads a k) _ e), keeps m s pc i at (suc pc) (λ k e. other_holds (reads a k) _ e)))
  plains p (Push w a) at (hw, ha) f =
      let i = Plain (Push w a) in
      (hw.1, (ready m s pc i at a ha (λ k e. one_holds (reads a k) _ e), keeps m s pc i at (suc pc) (λ k e. other_holds (reads a k) _ e)))
  plains p (Pop w to) at (hw, ht) f = (hw, set m s pc (Plain (Pop w to)) at to ht (λ k e. e))
  plains p (Find place to a) at (ht, ha) f =
      let i = Plain (Find place to a) in
      (f, (ready m s pc i at a ha (λ k e. one_holds (reads a k) _ e), set m s pc i at to ht (λ k e. other_holds (reads a k) _ e)))
  plains p (CodeOf q to) at ht f = set m s pc (Plain (CodeOf q to)) at to ht (λ k e. e)
  plains p (Stop code) at h f = tt

-- ---- calls

module _ (m : Procedure) (s : IsSound m) (pc : ℕ) (c : Calling) (at : slice_get m.code pc ≡ Some (Call c)) where
  abbrev its_needs : ℕ → Bool
  its_needs k = needs (is_live m.code k (suc pc)) (is_live m.code k (suc pc)) k (Call c)

  passed : (xs : List Passed) → AllByRecursion (IsPassed m) xs → ((k : ℕ) → passes_on xs k ≡ true → its_needs k ≡ true)
      → AllByRecursion (CanPass (framed m) (live_in m pc)) xs
  passed [] h need = tt
  passed (x ∷ xs) (h, g) need = (
    (h.0.1, ready m s pc (Call c) at x.value h.1 (λ k e. need k (one_holds (reads x.value k) _ e))),
    passed xs g (λ k e. need k (other_holds (reads x.value k) _ e)),
  )

  aimed : (callee : Callee) → IsCallee m callee → ((k : ℕ) → aims_by callee k ≡ true → its_needs k ≡ true) → CanAim (framed m) (live_in m pc) callee
  aimed (ByNumber q) h need = tt
  aimed (ByCode a) h need = ready m s pc (Call c) at a h need

  taken : (to : Option Target) → IsTo m to → CanTake (framed m) (live_in m (suc pc)) to
  taken None h = tt
  taken (Some to) h =
      record {
        width = refl;
        there = h.1;
        apart = λ k e n. (framed-layout m (can_be_framed m s)).apart to.local k h.1 (numbered m s pc (Call c) at (suc pc) k e) (λ z. n (sym z));
      }

  -- what it wants back
  wanted_live : (k : ℕ) → wanted (live_in m) (Result c) pc k ≡ true → live_in m (suc pc) k ≡ true
  wanted_live k h = both_first (live_in m (suc pc) k) _ h

  wanted_other : (k : ℕ) → wanted (live_in m) (Result c) pc k ≡ true → not (gets c.to k) ≡ true
  wanted_other k h = both_second (live_in m (suc pc) k) _ h

  calls : IsCallee m c.callee → AllByRecursion (IsPassed m) (operands c.registers) → IsTo m c.to → IsDivided c → CanCall (framed m) (live_in m) pc c
  calls hc ha ht f =
      record {
        arguments = passed (operands c.registers) ha (λ k e. one_holds (passes_on (operands c.registers) k || aims_by c.callee k) _
            (one_holds (passes_on (operands c.registers) k) _ e));
        callee = aimed c.callee hc (λ k e. one_holds (passes_on (operands c.registers) k || aims_by c.callee k) _
            (other_holds (passes_on (operands c.registers) k) _ e));
        kept = λ k h.
            lives m s pc (Call c) at k (numbered m s pc (Call c) at (suc pc) k (wanted_live k h))
            (other_holds (passes_on (operands c.registers) k || aims_by c.callee k) _
            (both_hold (not (gets c.to k)) _ (wanted_other k h) (lives_at m s pc (Call c) at (suc pc) k (wanted_live k h))));
        outlive = λ k h.
            let low = numbered m s pc (Call c) at (suc pc) k (wanted_live k h) in
            framed-outlives m (can_be_framed m s) k low
            (outlives m s pc (Call c) at k low (both_hold (is_live m.code k (suc pc)) _ (lives_at m s pc (Call c) at (suc pc) k (wanted_live k h)) (wanted_other k h)));
        takes = taken c.to ht;
        divided = f;
      }

module _ (m : Procedure) (s : IsSound m) (pc : ℕ) where
  tested : (i : Instr) (t : Test) → slice_get m.code pc ≡ Some i → IsTest m t
      → ((k : ℕ) → tests_it t k ≡ true → needs (is_live m.code k (suc pc)) (is_live m.code k (leads_to pc i)) k i ≡ true)
      → CanTest (framed m) (live_in m pc) t
  tested i t at (hw, hl, hr) need = (
    hw,
    (
      ready m s pc i at t.left hl (λ k e. need k (one_holds (reads t.left k) (reads t.right k) e)),
      ready m s pc i at t.right hr (λ k e. need k (other_holds (reads t.left k) (reads t.right k) e)),
    ),
  )

  idles : slice_get m.code pc ≡ Some Idle → AllOutlive (framed m) (live_in m) Interrupt pc
  idles at k h =
      let alive = both_first (live_in m (suc pc) k) _ h in
      let low = numbered m s pc Idle at (suc pc) k alive in
      framed-outlives m (can_be_framed m s) k low (outlives m s pc Idle at k low (lives_at m s pc Idle at (suc pc) k alive))

  pub covered : (p : Program) (i : Instr) → slice_get m.code pc ≡ Some i → AreOperands m i → IsFit p i → Covers (framed m) (live_in m) p m.result pc i
  covered p (Plain q) at h f = plains m s pc p q at h f
  covered p (When t to) at h f = (
    tested (When t to) t at h (λ k e. one_holds (tests_it t k) _ e),
    (
      keeps m s pc (When t to) at to (λ k e. other_holds (tests_it t k) _ (other_holds (is_live m.code k (suc pc)) _ e)),
      keeps m s pc (When t to) at (suc pc) (λ k e. other_holds (tests_it t k) _ (one_holds (is_live m.code k (suc pc)) _ e)),
    ),
  )
  covered p (Unless t to) at h f = (
    tested (Unless t to) t at h (λ k e. one_holds (tests_it t k) _ e),
    (
      keeps m s pc (Unless t to) at to (λ k e. other_holds (tests_it t k) _ (other_holds (is_live m.code k (suc pc)) _ e)),
      keeps m s pc (Unless t to) at (suc pc) (λ k e. other_holds (tests_it t k) _ (one_holds (is_live m.code k (suc pc)) _ e)),
    ),
  )
  covered p (Jump to) at h f = keeps m s pc (Jump to) at to (λ k e. e)
  covered p (Call c) at (hc, ha, ht) f = calls m s pc c at hc ha ht f
  covered p (Return w a) at (e, h) f = (e, ready m s pc (Return w a) at a h (λ k r. r))
  covered p Idle at h f = (keeps m s pc Idle at (suc pc) (λ k e. e), idles at)
