-- An image that agrees with sessions on a stack agrees with them on a smaller one too, where each of them costs more than that.
use Rattle.std.proofs.Common.{◌≡◌, ℕ, zero, suc, ◌-◌, ◌<◌, ◌≤◌, ◌⊎◌, inl, inr, Bool, true, false, List, [], ◌∷◌, ◌++◌, Option, Some, None}
use Rattle.std.proofs.Common.{refl, sym, ap, ◌∙◌, subst, arith, if◌then◌else◌}
use Rattle.std.proofs.lemmas.List.{append-nil, append_assoc}
use Rattle.vg_meaning.specs.declared.event.Event.{Event}
use Rattle.vg_meaning.specs.declared.event.Event.TheVariants.{Read, Write, Enter}
use Rattle.vg_meaning.specs.Ending.{Ending, Idle, Stop, Wants, Beyond, Deep}
use Rattle.vg_meaning.specs.Seen.{Seen}
use Rattle.avr_instr.specs.declared.instr.Instr.{Instr}
use Rattle.avr_isa.specs.declared.effect.Effect.{Effect}
use Rattle.avr_isa.specs.declared.effect.Effect.TheVariants.{Next, ReadDevice, WriteDevice, Sleep, Halt, Outside as Forbidden}
use Rattle.avr_isa.specs.declared.ending.MachineEnd.{MachineEnd}
use Rattle.avr_isa.specs.Access.{can_push_two}
use Rattle.avr_isa.specs.Agrees.{Agrees, Follows, FollowsSeen, IsAt, ReachesFloor}
use Rattle.avr_isa.specs.Effect.{change}
use Rattle.avr_isa.specs.Machine.{State, answered, woken, done, performed, word_here, instr_here, next_by, next_state, run_from, started}
use Rattle.avr_isa.specs.Stack.{lowest_behind}
use Rattle.avr_isa.proofs.Runs.{run-longer}

-- ---- what a run has shown is a front of what it shows later

abbrev Front : (a b : List Event) → Type 0
Front a b = (more : List Event) × (b ≡ a ++ more)

itself : (a : List Event) → Front a a
itself a = ([], sym (append-nil a))

further : (a b c : List Event) → Front a b → Front b c → Front a c
further a b c (m, e) (n, f) = (m ++ n, f ∙ ap (λ x. x ++ n) e ∙ append_assoc a m n)

answered_grows : (reads : List ℕ) (address register : ℕ) (s : State) → Front s.outside.trace (answered reads address register s).outside.trace
answered_grows [] address register s = itself s.outside.trace
answered_grows (value ∷ values) address register s = (Read address value ∷ [], refl)

either_grows : (b : Bool) (t u : State) (a : List Event) → Front a t.outside.trace → Front a u.outside.trace → Front a (if b then t else u).outside.trace
either_grows true t u a h k = h
either_grows false t u a h k = k

woken_grows : (interrupts : List ℕ) (word : ℕ) (s : State) → Front s.outside.trace (woken interrupts word s).outside.trace
woken_grows [] word s = itself s.outside.trace
woken_grows (v ∷ vs) word s = either_grows (can_push_two s.cpu.sp) _ _ s.outside.trace (Enter v ∷ [], refl) (itself s.outside.trace)

done_grows : (e : Effect) (word : ℕ) (s : State) → Front s.outside.trace (done e word s).outside.trace
done_grows Next word s = itself s.outside.trace
done_grows (ReadDevice address register) word s = answered_grows s.outside.reads address register s
done_grows (WriteDevice address value) word s = (Write address value ∷ [], refl)
done_grows Sleep word s = woken_grows s.outside.interrupts word s
done_grows Halt word s = itself s.outside.trace
done_grows Forbidden word s = itself s.outside.trace

performed_grows : (flash : List ℕ) (o : Option Instr) (word : ℕ) (s : State) → Front s.outside.trace (performed flash o word s).outside.trace
performed_grows flash None word s = itself s.outside.trace
performed_grows flash (Some i) word s =
    let made = change flash i s.cpu in
    done_grows made.effect word (record s { cpu = made.cpu; lowest = lowest_behind i s.cpu made.cpu s.lowest })

next_grows : (o : Option MachineEnd) (flash : List ℕ) (s : State) → Front s.outside.trace (next_by o flash s).outside.trace
next_grows (Some e) flash s = itself s.outside.trace
next_grows None flash s = performed_grows flash (instr_here flash s.cpu) (word_here flash s.cpu) s

trace_grows : (flash : List ℕ) (n : ℕ) (s : State) → Front s.outside.trace (run_from flash n s).outside.trace
trace_grows flash zero s = itself s.outside.trace
trace_grows flash (suc n) s =
    further s.outside.trace (next_state flash s).outside.trace (run_from flash (suc n) s).outside.trace (next_grows s.ended flash s)
    (trace_grows flash n (next_state flash s))

-- ---- a run that comes below a floor has an instruction that reaches it first

below : (m n : ℕ) → (m ≤ n) ⊎ (n < m)
below zero n = inl (omega arith)
below (suc m) zero = inr (omega arith)
below (suc m) (suc n) = elim (below m n) [ inl h ↦ inl (omega (arith, h)) | inr h ↦ inr (omega (arith, h)) ]

map_left : {A B C : Type 0} → (A → B) → A ⊎ C → B ⊎ C
map_left f (inl a) = inl (f a)
map_left f (inr c) = inr c

module _ (flash : List ℕ) (s : State) (low high : ℕ) (above : high ≤ s.lowest) (order : low ≤ high) where
  abbrev at : ℕ → State
  at k = run_from flash k s

  record Crosses (k : ℕ) : Type 0 where
    j : ℕ
    before : j < k
    still : high ≤ (at j).lowest
    reached : (at (suc j)).lowest < high

  crosses : (k : ℕ) → (at k).lowest < high → Crosses k
  crosses zero h = absurd (omega (arith, above, h))
  crosses (suc k) h = by_way (crosses k) (below high (at k).lowest)
    where
      by_way : ((at k).lowest < high → Crosses k) → (high ≤ (at k).lowest) ⊎ ((at k).lowest < high) → Crosses (suc k)
      by_way before (inl still) = record { j = k; before = omega arith; still = still; reached = h }
      by_way before (inr lower) =
          let c = before lower in record { j = c.j; before = (let b = c.before in omega (arith, b)); still = c.still; reached = c.reached }

  -- what it showed before that is a front of what it shows behind it
  reaches : (k : ℕ) (trace : List Event) → (at k).lowest < high → Front (at k).outside.trace trace → ReachesFloor at trace high
  reaches k trace h front =
      let c = crosses k h in
      let b = c.before in
      let whole : at k ≡ run_from flash (k - c.j) (at c.j) = run-longer flash c.j (k - c.j) k s (omega (arith, b)) in
      let later : Front (at c.j).outside.trace (at k).outside.trace =
      subst (λ t. Front (at c.j).outside.trace t.outside.trace) (sym whole) (trace_grows flash (k - c.j) (at c.j)) in
      let (more, e) = further (at c.j).outside.trace (at k).outside.trace trace later front in
      record { k = c.j; above = c.still; reached = c.reached; more = more; front = e }

  reaches_higher : (trace : List Event) → ReachesFloor at trace low → ReachesFloor at trace high
  reaches_higher trace r = by_way (below high (at r.k).lowest)
    where
      by_way : (high ≤ (at r.k).lowest) ⊎ ((at r.k).lowest < high) → ReachesFloor at trace high
      by_way (inl still) =
          record { k = r.k; above = still; reached = (let q = r.reached in omega (arith, q, order)); more = r.more; front = r.front }
      by_way (inr lower) = reaches r.k trace lower (r.more, r.front)

  is_higher : (k : ℕ) (ended : Option MachineEnd) (trace : List Event) → IsAt (at k) ended trace low → IsAt (at k) ended trace high ⊎ ReachesFloor at trace high
  is_higher k ended trace is = by_way (below high (at k).lowest)
    where
      by_way : (high ≤ (at k).lowest) ⊎ ((at k).lowest < high) → IsAt (at k) ended trace high ⊎ ReachesFloor at trace high
      by_way (inl still) = inl (record { ends = is.ends; same_trace = is.same_trace; above = still })
      by_way (inr lower) = inr (reaches k trace lower (subst (Front (at k).outside.trace) is.same_trace (itself (at k).outside.trace)))

  follows_higher : (clock : ℕ) (e : Option Ending) (trace : List Event) → Follows at clock low e trace
      → Follows at clock high e trace ⊎ ReachesFloor at trace high
  follows_higher clock (Some Beyond) trace (k, late, is) = map_left (λ x. (k, late, x)) (is_higher k _ trace is)
  follows_higher clock (Some Idle) trace (k, is) = map_left (λ x. (k, x)) (is_higher k _ trace is)
  follows_higher clock (Some (Stop code)) trace (k, is) = map_left (λ x. (k, x)) (is_higher k _ trace is)
  follows_higher clock (Some (Wants address)) trace (k, is) = map_left (λ x. (k, x)) (is_higher k _ trace is)
  follows_higher clock (Some Deep) trace h = absurd h
  follows_higher clock None trace h = absurd h

-- ---- sessions

seen_higher : (flash : List ℕ) (s : State) (clock low high large small : ℕ) (x : Seen) → high ≤ s.lowest → low ≤ high → small < x.peak
    → FollowsSeen (λ k. run_from flash k s) clock low large x → FollowsSeen (λ k. run_from flash k s) clock high small x
seen_higher flash s clock low high large small x above order costs (inl h) =
    elim (follows_higher flash s low high above order clock x.ending x.trace h) [ inl f ↦ inl f | inr r ↦ inr (costs, r) ]
seen_higher flash s clock low high large small x above order costs (inr (deep, r)) = inr (costs, reaches_higher flash s low high above order x.trace r)

pub on_smaller : (session : (reads interrupts : List ℕ) → ℕ → Seen) (flash : List ℕ) (low high large small : ℕ) → low ≤ high → high ≤ 0x1100
    → ((reads interrupts : List ℕ) (clock : ℕ) → small < (session reads interrupts clock).peak) → Agrees session flash low large
    → Agrees session flash high small
on_smaller session flash low high large small order within costs a =
    record {
      each = λ memory reads interrupts clock p r v.
          seen_higher flash (started memory reads interrupts) clock low high large small (session reads interrupts clock) within order
          (costs reads interrupts clock) (a.each memory reads interrupts clock p r v);
    }
