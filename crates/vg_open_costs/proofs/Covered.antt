-- What open procedures take is within the frames of the methods that are called, and what lies beside them.
use Rattle.std.specs.Prelude.{ℕ, zero, suc, ◌+◌, ◌<◌, ◌≤◌, List, [], ◌∷◌, Some, slice_get}
use Rattle.std.proofs.Common.{◌≡◌, ◌⊎◌, inl, inr, refl, sym, ap, ◌∙◌, subst, arith}
use Rattle.vg_meaning.specs.History.{Calling}
use Rattle.vg_source.specs.Peak.{cost_of, total_cost}
use Rattle.vg_lin.specs.declared.instr.Callee.{Callee}
use Rattle.vg_lin.specs.declared.instr.Callee.TheVariants.{Procedure as ByNumber, Code as ByCode}
use Rattle.vg_lin.specs.declared.instr.Call.{Call as CallTo}
use Rattle.vg_lin.specs.declared.instr.Instr.{Instr}
use Rattle.vg_lin.specs.declared.instr.Instr.TheVariants.{Plain, When, Unless, Jump, Call, Return, Idle}
use Rattle.vg_lin.specs.Meaning.{language, codes_in, call_of, name_of}
use Rattle.vg_lin.specs.Program.{Procedure, Program}
use Rattle.vg_lin.specs.State.{State}
use Rattle.vg_lin.specs.Steps.{Awaits, Result, Interrupt, Frame, Config, with_named, open_below, open_calls, fetch}
use Rattle.vg_open_calls.specs.Open.{IsReady, HasWaits, IsAim, IsOpener, AreOpen, IsOpen}
use Rattle.vg_open_calls.specs.Noted.{CallsFirst}
use Rattle.vg_open_calls.proofs.Moving.{fetch_in}
use Rattle.vg_frame_costs.specs.Bytes.{procedure_bytes}
use Rattle.vg_frame_costs.specs.Fitting.{IsOther, IsOfMethod, IsOfRoutine, IsBefore, IsOfStart, IsByNumber, BeginsWithCall, IsMethodWithin, IsRoutineWithin}
use Rattle.vg_frame_costs.specs.Fitting.{IsStartWithin, IsStartIn, FramesWithin}
use Rattle.vg_frame_costs.proofs.Sized.{opens}
use Rattle.vg_open_costs.specs.Taken.{between, LeadBefore}
use Rattle.vg_open_costs.proofs.Fitted.{all_at, all_before, all_behind, there_before}
use Rattle.vg_open_costs.proofs.Once.{whole_in, whole_of, callers_whole, all_whole}

-- two numbers in order
abbrev Order : (m n : ℕ) → Type 0
Order m n = (m < n) ⊎ ((m ≡ n) ⊎ (n < m))

order : (m n : ℕ) → Order m n
order zero zero = inr (inl refl)
order zero (suc n) = inl (omega arith)
order (suc m) zero = inr (inr (omega arith))
order (suc m) (suc n) = elim (order m n) [
  | inl h ↦ inl (omega (arith, h))
  | inr (inl e) ↦ inr (inl (ap suc e))
  | inr (inr h) ↦ inr (inr (omega (arith, h)))
]

between_few : (a : Awaits) → between a ≤ 4
between_few (Result call) = omega arith
between_few Interrupt = omega arith

module _ (p : Program) (frames : List ℕ) (below above : ℕ) (ready : IsReady p) (within : FramesWithin p.procedures p.start frames below above)
    (before : LeadBefore p) where
  -- ---- procedures by their places

  method_is : (m : ℕ) (procedure : Procedure) → slice_get p.procedures m ≡ Some procedure → m < p.start → IsMethodWithin p.start frames procedure
  method_is m procedure e less = all_before (IsMethodWithin p.start frames) p.procedures p.start m procedure within.methods less e

  routine_is : (m : ℕ) (procedure : Procedure) → slice_get p.procedures m ≡ Some procedure → p.start < m → IsRoutineWithin above procedure
  routine_is m procedure e less = all_behind (IsRoutineWithin above) p.procedures p.start m procedure within.routines less e

  start_is : (m : ℕ) (procedure : Procedure) → slice_get p.procedures m ≡ Some procedure → m ≡ p.start → IsStartWithin p.start below procedure
  start_is m procedure e same = subst (IsStartIn p.start below) (sym (ap (slice_get p.procedures) same) ∙ e) within.first

  pub first_is : IsStartWithin p.start below ready.first
  first_is = start_is p.start ready.first ready.start refl

  instr_there : (m pc : ℕ) (procedure : Procedure) (i : Instr) → slice_get p.procedures m ≡ Some procedure
      → fetch (codes_in p.procedures) m pc ≡ Some i → slice_get procedure.code pc ≡ Some i
  instr_there m pc procedure i there e = sym (fetch_in p.procedures m procedure there pc) ∙ e

  -- ---- what idles, and what is called

  no_idling : (m pc : ℕ) (procedure : Procedure) → slice_get p.procedures m ≡ Some procedure → fetch (codes_in p.procedures) m pc ≡ Some Idle
      → m < p.start → ⊥
  no_idling m pc procedure there e less =
      all_at (IsOfMethod p.start) procedure.code pc Idle (method_is m procedure there less).code (instr_there m pc procedure Idle there e)

  pub idles_at_start : (m pc : ℕ) (procedure : Procedure) → slice_get p.procedures m ≡ Some procedure
      → fetch (codes_in p.procedures) m pc ≡ Some Idle → m ≡ p.start
  idles_at_start m pc procedure there e = by (order m p.start)
    where
      by : Order m p.start → m ≡ p.start
      by (inl less) = absurd (no_idling m pc procedure there e less)
      by (inr (inl same)) = same
      by (inr (inr more)) =
          absurd (all_at IsOfRoutine procedure.code pc Idle (routine_is m procedure there more).code (instr_there m pc procedure Idle there e))

  calls_nothing : (f : Frame State) (procedure : Procedure) → slice_get p.procedures f.proc ≡ Some procedure → (q : ℕ) (a : Awaits) → IsOpener p q f a
      → p.start < f.proc → ⊥
  calls_nothing f procedure there q Interrupt (e, h) more =
      all_at IsOfRoutine procedure.code f.pc Idle (routine_is f.proc procedure there more).code (instr_there f.proc f.pc procedure Idle there e)
  calls_nothing f procedure there q (Result call) (e, aim, passing) more =
      all_at IsOfRoutine procedure.code f.pc (Call call) (routine_is f.proc procedure there more).code
      (instr_there f.proc f.pc procedure (Call call) there e)

  -- a method is interrupted nowhere
  no_space : (f : Frame State) (procedure : Procedure) → slice_get p.procedures f.proc ≡ Some procedure → (q : ℕ) (a : Awaits) → IsOpener p q f a
      → f.proc < p.start → between a ≡ 0
  no_space f procedure there q (Result call) h less = refl
  no_space f procedure there q Interrupt (e, h) less = absurd (no_idling f.proc f.pc procedure there e less)

  -- nothing leads to the procedure with which a run begins
  other_aim : (callee : Callee) (q : ℕ) → IsAim p callee q → IsOther p.start callee → q ≡ p.start → ⊥
  other_aim (ByNumber r) q aim h same = h (aim ∙ same)
  other_aim (ByCode a) q (code, e) h same = let less = before.codes code q e in omega (arith, less, same)

  other_than : (callee : Callee) → IsBefore p.start callee → IsOther p.start callee
  other_than (ByNumber r) less = λ same. omega (arith, less, same)
  other_than (ByCode a) h = tt

  callee_is : (f : Frame State) (procedure : Procedure) → slice_get p.procedures f.proc ≡ Some procedure → (call : CallTo)
      → fetch (codes_in p.procedures) f.proc f.pc ≡ Some (Call call) → Order f.proc p.start → IsOther p.start call.callee
  callee_is f procedure there call e (inl less) =
      all_at (IsOfMethod p.start) procedure.code f.pc (Call call) (method_is f.proc procedure there less).code
      (instr_there f.proc f.pc procedure (Call call) there e)
  callee_is f procedure there call e (inr (inl same)) =
      other_than call.callee
      (all_at (IsOfStart p.start) procedure.code f.pc (Call call) (start_is f.proc procedure there same).code
      (instr_there f.proc f.pc procedure (Call call) there e))
  callee_is f procedure there call e (inr (inr more)) =
      absurd (all_at IsOfRoutine procedure.code f.pc (Call call) (routine_is f.proc procedure there more).code
      (instr_there f.proc f.pc procedure (Call call) there e))

  not_start : (f : Frame State) (procedure : Procedure) → slice_get p.procedures f.proc ≡ Some procedure → (q : ℕ) (a : Awaits) → IsOpener p q f a
      → q ≡ p.start → ⊥
  not_start f procedure there q Interrupt (e, (v, h)) same = let less = before.handlers v q h in omega (arith, less, same)
  not_start f procedure there q (Result call) (e, aim, passing) same =
      other_aim call.callee q aim (callee_is f procedure there call e (order f.proc p.start)) same

  no_callers : (m : ℕ) (fs : List (Frame State)) → AreOpen p m fs → m ≡ p.start → callers_whole p fs ≡ 0
  no_callers m [] h same = refl
  no_callers m (f ∷ fs) (opener, (w, rest)) same = absurd (not_start f w.procedure w.there m f.awaits opener same)

  -- ---- what they take

  whole_is : (m : ℕ) (procedure : Procedure) → slice_get p.procedures m ≡ Some procedure → whole_of p m ≡ procedure_bytes procedure
  whole_is m procedure e = ap whole_in e

  method_total : (m : ℕ) (procedure : Procedure) (there : slice_get p.procedures m ≡ Some procedure) (less : m < p.start) (fs : List (Frame State))
      → total_cost frames (open_calls (language p) m fs)
      ≡ cost_of frames (method_is m procedure there less).method + total_cost frames (open_below (language p) fs)
  method_total m procedure there less fs =
      ap (λ z. total_cost frames (with_named z (open_below (language p) fs)))
      (ap name_of there ∙ ap call_of (method_is m procedure there less).named)

  routine_total : (m : ℕ) (procedure : Procedure) → slice_get p.procedures m ≡ Some procedure → p.start < m → (fs : List (Frame State))
      → total_cost frames (open_calls (language p) m fs) ≡ total_cost frames (open_below (language p) fs)
  routine_total m procedure there more fs =
      ap (λ z. total_cost frames (with_named z (open_below (language p) fs)))
      (ap name_of there ∙ ap call_of (routine_is m procedure there more).unnamed)

  pub start_opens : whole_of p p.start + 4 ≤ below
  start_opens =
      let whole = whole_is p.start ready.first ready.start in
      let bytes = first_is.bytes in omega (arith, whole, bytes)

  callers_by : (q : ℕ) (f : Frame State) (fs : List (Frame State)) → IsOpener p q f f.awaits → (w : HasWaits p f.proc (suc f.pc) f.kept)
      → AreOpen p f.proc fs → callers_whole p fs ≤ below + total_cost frames (open_below (language p) fs) → Order f.proc p.start
      → callers_whole p (f ∷ fs) ≤ below + total_cost frames (open_below (language p) (f ∷ fs))
  callers_by q f fs opener w rest others (inl less) =
      let whole = whole_is f.proc w.procedure w.there in
      let bytes = (method_is f.proc w.procedure w.there less).bytes in
      let total = method_total f.proc w.procedure w.there less fs in
      let space = no_space f w.procedure w.there q f.awaits opener less in omega (arith, whole, bytes, total, space, others)
  callers_by q f fs opener w rest others (inr (inl same)) =
      let whole = whole_is f.proc w.procedure w.there in
      let bytes = (start_is f.proc w.procedure w.there same).bytes in
      let none = no_callers f.proc fs rest same in
      let space = between_few f.awaits in omega (arith, whole, bytes, none, space)
  callers_by q f fs opener w rest others (inr (inr more)) = absurd (calls_nothing f w.procedure w.there q f.awaits opener more)

  callers : (q : ℕ) (fs : List (Frame State)) → AreOpen p q fs → callers_whole p fs ≤ below + total_cost frames (open_below (language p) fs)
  callers q [] h = omega arith
  callers q (f ∷ fs) (opener, (w, rest)) = callers_by q f fs opener w rest (callers f.proc fs rest) (order f.proc p.start)

  -- all procedures, where that one runs with which the run begins
  pub start_stands : (c : Config State) → IsOpen p c → c.proc ≡ p.start → all_whole p c + 4 ≤ below
  start_stands c h same =
      let whole = whole_is c.proc h.here.procedure h.here.there in
      let bytes = (start_is c.proc h.here.procedure h.here.there same).bytes in
      let none = no_callers c.proc c.frames h.callers same in omega (arith, whole, bytes, none)

  -- all procedures, where any one runs
  pub stands : (c : Config State) → IsOpen p c → all_whole p c ≤ below + above + total_cost frames (open_calls (language p) c.proc c.frames)
  stands c h = by (order c.proc p.start)
    where
      by : Order c.proc p.start → all_whole p c ≤ below + above + total_cost frames (open_calls (language p) c.proc c.frames)
      by (inl less) =
          let whole = whole_is c.proc h.here.procedure h.here.there in
          let bytes = (method_is c.proc h.here.procedure h.here.there less).bytes in
          let total = method_total c.proc h.here.procedure h.here.there less c.frames in
          let others = callers c.proc c.frames h.callers in omega (arith, whole, bytes, total, others)
      by (inr (inl same)) = let few = start_stands c h same in omega (arith, few)
      by (inr (inr more)) =
          let whole = whole_is c.proc h.here.procedure h.here.there in
          let bytes = (routine_is c.proc h.here.procedure h.here.there more).bytes in
          let total = routine_total c.proc h.here.procedure h.here.there more c.frames in
          let others = callers c.proc c.frames h.callers in omega (arith, whole, bytes, total, others)

  -- ---- the first call

  first_call : (is : List Instr) → BeginsWithCall is → (call : CallTo) × (slice_get is 0 ≡ Some (Call call)) × IsByNumber call.callee
  first_call (Call c ∷ is) h = (c, refl, h)
  first_call [] h = absurd h
  first_call (Plain q ∷ is) h = absurd h
  first_call (When t to ∷ is) h = absurd h
  first_call (Unless t to ∷ is) h = absurd h
  first_call (Jump to ∷ is) h = absurd h
  first_call (Return w a ∷ is) h = absurd h
  first_call (Idle ∷ is) h = absurd h

  -- a method that is called first, and that it has a frame
  pub record FirstCall : Type 0 where
    pub method : ℕ
    pub first : CallsFirst p (Calling method)
    pub some : 1 ≤ cost_of frames method

  by_callee : (call : CallTo) → fetch (codes_in p.procedures) p.start 0 ≡ Some (Call call) → (callee : Callee) → call.callee ≡ callee
      → IsByNumber callee → IsBefore p.start callee → FirstCall
  by_callee call first (ByCode a) e number less = absurd number
  by_callee call first (ByNumber q) e number less =
      let (procedure, there) = there_before p.procedures p.start q ready.first ready.start less in
      let method = method_is q procedure there less in record {
        method = method.method;
        first = record {
          unnamed = ap name_of ready.start ∙ ap call_of first_is.unnamed;
          call = call;
          first = first;
          main = q;
          callee = e;
          named = ap name_of there ∙ ap call_of method.named;
        };
        some = let bytes = method.bytes in let two = opens procedure in omega (arith, bytes, two);
      }

  pub calls_first : FirstCall
  calls_first =
      let (call, e, number) = first_call ready.first.code first_is.first in
      by_callee call (fetch_in p.procedures p.start ready.first ready.start 0 ∙ e) call.callee refl number
      (all_at (IsOfStart p.start) ready.first.code 0 (Call call) first_is.code e)
