-- Calls: where one stands for another one, both enter procedures at their first place with the same values, and go on behind them.
use Rattle.std.specs.Prelude.{ℕ, zero, suc, ◌<◌, ◌≤◌, Bool, true, false, ◌==◌, ◌&&◌, nat_lt, List, [], ◌∷◌, ◌++◌, length, take, drop, reverse}
use Rattle.std.specs.Prelude.{Option, Some, None, slice_get, get_or, if◌then◌else◌}
use Rattle.std.proofs.Common.{◌≡◌, refl, sym, ap, ◌∙◌, subst, arith, inl, inr, ◌⊎◌}
use Rattle.std.proofs.lemmas.Bool.{and_parts, and_from, eq-eqb, lt-ltb}
use Rattle.std.proofs.lemmas.Option.{none-some}
use Rattle.vg_lin.specs.declared.instr.Operand.{Operand}
use Rattle.vg_lin.specs.declared.instr.Operand.TheVariants.{Local, Known}
use Rattle.vg_lin.specs.declared.instr.Callee.{Callee}
use Rattle.vg_lin.specs.declared.instr.Callee.TheVariants.{Procedure as ByNumber, Code as ByCode}
use Rattle.vg_lin.specs.declared.instr.Passed.{Passed}
use Rattle.vg_lin.specs.declared.instr.Registers.{Registers}
use Rattle.vg_lin.specs.declared.instr.Registers.TheVariants.{Empty, One, Two, Three, Four}
use Rattle.vg_lin.specs.declared.instr.Target.{Target}
use Rattle.vg_lin.specs.declared.instr.Call.{Call as Calling}
use Rattle.vg_lin.specs.Values.{low}
use Rattle.vg_lin.specs.Program.{Procedure, Program}
use Rattle.vg_lin.specs.Sound.{IsTo, IsSound}
use Rattle.vg_lin.specs.State.{Waiting, State, value, sets}
use Rattle.vg_lin.specs.Steps.{Result, Entry}
use Rattle.vg_lin.specs.Meaning.{begun, called, with_code, entry_by, entry_with, entry_of, operands, with_value, values, values_of, same_widths, gives_to}
use Rattle.vg_lin.specs.Meaning.{with_result, resume}
use Rattle.vg_expand.proofs.Holding.{begun_holds, resume_holds, sets_holds}
use Rattle.vg_trimming.specs.declared.facts.Twin.{Twin}
use Rattle.vg_trimming.specs.declared.facts.Bound.{Bound}
use Rattle.vg_trimming.specs.declared.facts.Facts.{Facts}
use Rattle.vg_trimming.specs.declared.facts.Worked.{Worked}
use Rattle.vg_trimming.specs.Facts.{same_home, is_twin, stands_for, is_filled, is_it, leads_in, begins_so, is_none_filled, is_none_worked, is_none_bounded}
use Rattle.vg_trimming.specs.Facts.{begins_with, greatest}
use Rattle.vg_trimming.specs.Trimming.{gain_in, same_callee, same_passed, same_registers, same_target, local_of, call_change, same_call}
use Rattle.vg_trimming.specs.Trimmed.{Trims, IsTrimmedTo}
use Rattle.vg_trimming.specs.Runs.{AreBytes}
use Rattle.vg_trimming.proofs.Homes.{no, same_number, is_named, same_home_is, local, local_small, other_local, Twinned, AreThere, AreBounded, Steady}
use Rattle.vg_trimming.proofs.Homes.{Agree, stands, Changed, behind}
use Rattle.vg_trimming.proofs.Places.{none_changed, both_changed}

-- ---- at a place

-- the older code is at one place and the newer one at the other: of a procedure that is as it was, in the same state, or of one that is trimmed,
-- where what is known there holds
pub data AtPlace (old now : Procedure) (pc at : ℕ) (s u : State) : Type 0 where
  same : now ≡ old → at ≡ pc → u ≡ s → AreBytes s.ram → AtPlace old now pc at s u
  trimmed : (fs : List Facts) (ps : List ℕ) → Trims fs ps old now → (a : Facts) → slice_get fs pc ≡ Some a → slice_get ps pc ≡ Some at
      → Agree old.widths now.widths a s u → AtPlace old now pc at s u

-- behind a change
pub led : (fs : List Facts) (ps : List ℕ) (old now : Procedure) (trim : Trims fs ps old now) (a : Facts) (to at : ℕ) (s u s1 u1 : State) (c : _)
    → Agree old.widths now.widths a s u → Changed now.widths a c s u s1 u1 → Steady old.widths now.widths s1 u1
    → is_it (slice_get ps to) at ≡ true → leads_in now.widths a c (slice_get fs to) ≡ true → AtPlace old now to at s1 u1
led fs ps old now trim a to at s u s1 u1 c g ch st there e = by_facts (slice_get fs to) refl e
  where
    by_facts : (k : Option Facts) → slice_get fs to ≡ k → leads_in now.widths a c k ≡ true → AtPlace old now to at s1 u1
    by_facts (Some b) f e = trimmed fs ps trim b f (is_named (slice_get ps to) at there) (behind old.widths now.widths a b c s u s1 u1 e g ch st)
    by_facts None f e = no e

-- other bytes in RAM, the same in both
pub with_ram : (old now : Procedure) (pc at : ℕ) (s u : State) (r r' : List ℕ) → r' ≡ r → AreBytes r → AtPlace old now pc at s u
    → AtPlace old now pc at (record s { ram = r }) (record u { ram = r' })
with_ram old now pc at s u r r' e h (same en ep eu k) =
    same en ep (ap {A = State} (λ z. record z { ram = r' }) eu ∙ ap (λ z. record s { ram = z }) e) h
with_ram old now pc at s u r r' e h (trimmed fs ps trim a f k g) =
    trimmed fs ps trim a f k
    (record {
      reached = g.reached;
      twins = twins;
      filled = g.filled;
      worked = worked a.worked g.worked;
      bounded = bounded a.bounds g.bounded;
      waiting = g.waiting;
      ram = e;
      steady = record { held = g.steady.held; held_too = g.steady.held_too; bytes = h };
    })
  where
    same_value : (h : Operand) → value h (record u { ram = r' }) ≡ value h u
    same_value (Local i) = refl
    same_value (Known v) = refl

    twins : Twinned a.twins (record s { ram = r }) (record u { ram = r' })
    twins x h v k q = same_value h ∙ g.twins x h v k q

    bounded : (bs : List Bound) → AreBounded bs s → AreBounded bs (record s { ram = r })
    bounded [] k = tt {0}
    bounded (b ∷ bs) (f, k) = (f, bounded bs k)

    worked : (ws : List Worked) → AreThere ws s u → AreThere ws (record s { ram = r }) (record u { ram = r' })
    worked [] k = tt {0}
    worked (w ∷ ws) (f, k) =
        (record { has = λ x y v el er q. f.has x y v (sym (old_value w.left) ∙ el) (sym (old_value w.right) ∙ er) q }, worked ws k)
      where
        old_value : (h : Operand) → value h (record s { ram = r }) ≡ value h s
        old_value (Local i) = refl
        old_value (Known v) = refl

-- ---- where procedures begin

none_begun : (ws : List ℕ) (x : ℕ) → local (begun ws []) x ≡ None
none_begun [] x = refl
none_begun (w ∷ ws) zero = refl
none_begun (w ∷ ws) (suc x) = none_begun ws x

-- the same arguments in locals of which the first have the same widths
begun_same : (k : ℕ) (ws vs xs : List ℕ) (x : ℕ) → length xs ≤ k → take k vs ≡ take k ws → local (begun vs xs) x ≡ local (begun ws xs) x
begun_same k ws vs [] x h e = none_begun vs x ∙ sym (none_begun ws x)
begun_same zero ws vs (y ∷ xs) x h e = absurd (omega (arith, h))
begun_same (suc k) [] [] (y ∷ xs) x h e = refl
begun_same (suc k) [] (v ∷ vs) (y ∷ xs) x h e = absurd (let n = ap length e in omega (arith, n))
begun_same (suc k) (w ∷ ws) [] (y ∷ xs) x h e = absurd (let n = ap length e in omega (arith, n))
begun_same (suc k) (w ∷ ws) (v ∷ vs) (y ∷ xs) zero h e = ap (λ z. Some (low z y)) (ap (λ l. get_or l 0 0) e)
begun_same (suc k) (w ∷ ws) (v ∷ vs) (y ∷ xs) (suc x) h e = begun_same k ws vs xs x (omega (arith, h)) (ap (drop 1) e)

begun_few : (ws xs : List ℕ) (x v : ℕ) → local (begun ws xs) x ≡ Some v → x < length xs
begun_few ws [] x v e = absurd (none-some v (sym (none_begun ws x) ∙ e))
begun_few [] (y ∷ xs) x v e = absurd (none-some v e)
begun_few (w ∷ ws) (y ∷ xs) zero v e = omega arith
begun_few (w ∷ ws) (y ∷ xs) (suc x) v e = let h = begun_few ws xs x v e in omega (arith, h)

fit_too : (k : ℕ) (ws vs : List ℕ) (xs : List Waiting) → length xs ≤ k → take k vs ≡ take k ws → same_widths ws xs ≡ true → same_widths vs xs ≡ true
fit_too k ws vs [] h e f = refl
fit_too zero ws vs (y ∷ xs) h e f = absurd (omega (arith, h))
fit_too (suc k) [] vs (y ∷ xs) h e f = no f
fit_too (suc k) (w ∷ ws) [] (y ∷ xs) h e f = absurd (let n = ap length e in omega (arith, n))
fit_too (suc k) (w ∷ ws) (v ∷ vs) (y ∷ xs) h e f =
    let z = and_parts (w == y.width) (same_widths ws xs) f in
    and_from (v == y.width) (same_widths vs xs) (ap (λ l. l == y.width) (ap (λ l. get_or l 0 0) e) ∙ z.0)
    (fit_too k ws vs xs (omega (arith, h)) (ap (drop 1) e) z.1)

begins_twin : (params : ℕ) (ts : List Twin) (x : ℕ) (h : Operand) → begins_so params ts ≡ true → is_twin ts x h ≡ true → x < params → Local x ≡ h
begins_twin params [] x h e f lt = no f
begins_twin params (t ∷ ts) x h e f lt =
    by_first ((t.local == x) && same_home t.home h) refl f
    (λ f. begins_twin params ts x h (and_parts (if nat_lt t.local params then same_home (Local t.local) t.home else true) (begins_so params ts) e).1 f lt)
  where
    by_first : (b : Bool) → ((t.local == x) && same_home t.home h) ≡ b → (if b then true else is_twin ts x h) ≡ true
        → (is_twin ts x h ≡ true → Local x ≡ h) → Local x ≡ h
    by_first true g f more =
        let z = and_parts (t.local == x) (same_home t.home h) g in
        let ex = same_number t.local x z.0 in
        let first = (and_parts (if nat_lt t.local params then same_home (Local t.local) t.home else true) (begins_so params ts) e).0 in
        let small = lt-ltb x params lt in
        let at_home = subst (λ b. (if b then same_home (Local t.local) t.home else true) ≡ true) (ap (λ y. nat_lt y params) ex ∙ small) first in
        ap Local (sym ex) ∙ (same_home_is (Local t.local) t.home at_home ∙ same_home_is t.home h z.1)
    by_first false g f more = more f

none_filled : {A : Type 0} (xs : List ℕ) (x : ℕ) → is_none_filled xs ≡ true → is_filled xs x ≡ true → A
none_filled [] x e f = no f
none_filled (y ∷ xs) x e f = no e

pub record Alike (m n : Procedure) : Type 0 where
  pub method : n.method ≡ m.method
  pub params : n.params ≡ m.params
  pub result : n.result ≡ m.result
  pub widths : take m.params n.widths ≡ take m.params m.widths

pub alike : (m n : Procedure) → IsTrimmedTo m n → Alike m n
alike m n is = by_how is.how
  where
    by_how : (n ≡ m) ⊎ ((fs : List Facts) × (ps : List ℕ) × Trims fs ps m n) → Alike m n
    by_how (inl e) =
        record {
          method = ap (λ k. k.method) e;
          params = ap (λ k. k.params) e;
          result = ap (λ k. k.result) e;
          widths = ap (λ k. take m.params k.widths) e;
        }
    by_how (inr (fs, ps, trim)) = record { method = trim.method; params = trim.params; result = trim.result; widths = trim.widths }

none_worked : (ws : List Worked) (s u : State) → is_none_worked ws ≡ true → AreThere ws s u
none_worked [] s u e = tt {0}
none_worked (w ∷ ws) s u e = no e

none_bounded : (bs : List Bound) (s : State) → is_none_bounded bs ≡ true → AreBounded bs s
none_bounded [] s e = tt {0}
none_bounded (b ∷ bs) s e = no e

-- the state in which a procedure begins
abbrev pub fresh : Procedure → (xs ram : List ℕ) → State
fresh m xs r = record { locals = begun m.widths xs; waiting = []; ram = r }

pub begins_at : (m n : Procedure) → IsTrimmedTo m n → (xs r r' : List ℕ) → r' ≡ r → AreBytes r → length xs ≤ m.params
    → AtPlace m n 0 0 (fresh m xs r) (fresh n xs r')
begins_at m n is xs r r' e h le = by_how is.how
  where
    by_facts : (fs : List Facts) (ps : List ℕ) → Trims fs ps m n → (o : Option Facts) → slice_get fs 0 ≡ o → begins_with m.params o ≡ true
        → AtPlace m n 0 0 (fresh m xs r) (fresh n xs r')
    by_facts fs ps trim (Some a) f k =
        trimmed fs ps trim a f trim.begins_at
        (record {
          reached = z1.0;
          twins = twins;
          filled = λ x v q w. none_filled a.filled x z2.1 q;
          worked = none_worked a.worked (fresh m xs r) (fresh n xs r') z0.1;
          bounded = none_bounded a.bounds (fresh m xs r) z.1;
          waiting = refl;
          ram = e;
          steady = record { held = begun_holds m.widths xs; held_too = begun_holds n.widths xs; bytes = h };
        })
      where
        z : ((a.reached && begins_so m.params a.twins && is_none_filled a.filled && is_none_worked a.worked) ≡ true) × (is_none_bounded a.bounds ≡ true)
        z = and_parts (a.reached && begins_so m.params a.twins && is_none_filled a.filled && is_none_worked a.worked) _ k

        z0 : ((a.reached && begins_so m.params a.twins && is_none_filled a.filled) ≡ true) × (is_none_worked a.worked ≡ true)
        z0 = and_parts (a.reached && begins_so m.params a.twins && is_none_filled a.filled) _ z.0

        z2 : ((a.reached && begins_so m.params a.twins) ≡ true) × (is_none_filled a.filled ≡ true)
        z2 = and_parts (a.reached && begins_so m.params a.twins) _ z0.0

        z1 : (a.reached ≡ true) × (begins_so m.params a.twins ≡ true)
        z1 = and_parts a.reached _ z2.0

        twins : Twinned a.twins (fresh m xs r) (fresh n xs r')
        twins x g v q w =
            let few = begun_few m.widths xs x v w in
            subst (λ g. value g (fresh n xs r') ≡ Some v) (begins_twin m.params a.twins x g z1.1 q (omega (arith, few, le)))
            (begun_same m.params m.widths n.widths xs x le trim.widths ∙ w)
    by_facts fs ps trim None f k = no k

    by_how : (n ≡ m) ⊎ ((fs : List Facts) × (ps : List ℕ) × Trims fs ps m n) → AtPlace m n 0 0 (fresh m xs r) (fresh n xs r')
    by_how (inl k) = same k refl (ap (λ z. fresh z xs r') k ∙ ap (fresh m xs) e) h
    by_how (inr (fs, ps, trim)) = by_facts fs ps trim (slice_get fs 0) refl trim.begins

-- ---- entries

pub data BothEnter (m n : Procedure) (r : ℕ) (kept kept' : State) : Option (Entry State) → Option (Entry State) → Type 0 where
  entered : (t t' : State) → AtPlace m n 0 0 t t'
      → BothEnter m n r kept kept' (Some (record { proc = r; state = t; kept = kept })) (Some (record { proc = r; state = t'; kept = kept' }))
  no_entry : (z : Option (Entry State)) → BothEnter m n r kept kept' None z

if_both : (m n : Procedure) (r : ℕ) (kept kept' : State) (b b' : Bool) (x y : Option (Entry State)) → (b ≡ true → b' ≡ true)
    → (b ≡ true → BothEnter m n r kept kept' x y) → BothEnter m n r kept kept' (if b then x else None) (if b' then y else None)
if_both m n r kept kept' true b' x y f g =
    subst (λ k. BothEnter m n r kept kept' x (if k then y else None)) (sym (f refl)) (g refl)
if_both m n r kept kept' false b' x y f g = no_entry _

long_values : (xs : List Waiting) → length (values_of xs) ≡ length xs
long_values [] = refl
long_values (x ∷ xs) = ap suc (long_values xs)

pub entry_both : (m n : Procedure) (is : IsTrimmedTo m n) (r : ℕ) (to to' : Option Target) (kept kept' : State) (xs : List Waiting)
    → kept'.ram ≡ kept.ram → AreBytes kept.ram → ((w : ℕ) → gives_to w to ≡ true → gives_to w to' ≡ true)
    → BothEnter m n r kept kept' (entry_by r m to kept xs) (entry_by r n to' kept' xs)
entry_both m n is r to to' kept kept' xs er h gives =
    if_both m n r kept kept' ((length xs == m.params) && same_widths m.widths xs && gives_to m.result to)
    ((length xs == n.params) && same_widths n.widths xs && gives_to n.result to') _ _ fits
    (λ e. entered _ _ (begins_at m n is (values_of xs) kept.ram kept'.ram er h
    (let k = long e in let j = long_values xs in omega (arith, k, j))))
  where
    parts : ((length xs == m.params) && same_widths m.widths xs && gives_to m.result to) ≡ true
        → ((length xs == m.params) ≡ true) × (same_widths m.widths xs ≡ true) × (gives_to m.result to ≡ true)
    parts e =
        let z0 = and_parts ((length xs == m.params) && same_widths m.widths xs) (gives_to m.result to) e in
        let z1 = and_parts (length xs == m.params) (same_widths m.widths xs) z0.0 in
        (z1.0, z1.1, z0.1)

    long : ((length xs == m.params) && same_widths m.widths xs && gives_to m.result to) ≡ true → length xs ≡ m.params
    long e = same_number (length xs) m.params (parts e).0

    fits : ((length xs == m.params) && same_widths m.widths xs && gives_to m.result to) ≡ true
        → ((length xs == n.params) && same_widths n.widths xs && gives_to n.result to') ≡ true
    fits e =
        let k = alike m n is in
        let j = long e in
        and_from ((length xs == n.params) && same_widths n.widths xs) (gives_to n.result to')
        (and_from (length xs == n.params) (same_widths n.widths xs) (eq-eqb (length xs) n.params (j ∙ sym k.params))
        (fit_too m.params m.widths n.widths xs (omega (arith, j)) k.widths (parts e).1))
        (ap (λ w. gives_to w to') k.result ∙ gives m.result (parts e).2)

-- a call is the same, and what is known behind it holds, whatever it gives back
pub record SameCall (p : Program) (old now : Procedure) (pc at : ℕ) (c d : Calling) (s u : State) : Type 0 where
  pub callee : (r : ℕ) → called p c.callee s ≡ Some r → called p d.callee u ≡ Some r
  pub pushed : d.pushed ≡ c.pushed
  pub registers : (xs : List Waiting) → values (operands c.registers) s ≡ Some xs → values (operands d.registers) u ≡ Some xs
  pub waiting : u.waiting ≡ s.waiting
  pub ram : u.ram ≡ s.ram
  pub bytes : AreBytes s.ram
  pub gives : (w : ℕ) → gives_to w c.to ≡ true → gives_to w d.to ≡ true
  pub onward : (v : ℕ) (t t' : State) → t'.ram ≡ t.ram → AreBytes t.ram
      → AtPlace old now (suc pc) (suc at) (resume (Result c) (record s { waiting = drop c.pushed s.waiting }) t v)
      (resume (Result d) (record u { waiting = drop d.pushed u.waiting }) t' v)

pub entries : (p : Program) (old now : Procedure) (pc at : ℕ) (c d : Calling) (s u : State) → SameCall p old now pc at c d s u
    → (m n : Procedure) → IsTrimmedTo m n → (r : ℕ)
    → BothEnter m n r (record s { waiting = drop c.pushed s.waiting }) (record u { waiting = drop d.pushed u.waiting })
    (entry_of r (Some m) c s) (entry_of r (Some n) d u)
entries p old now pc at c d s u h m n is r =
    subst (λ k. BothEnter m n r kept (record u { waiting = drop k u.waiting }) (entry_of r (Some m) c s) (newer k u.waiting)) (sym h.pushed)
    (subst (λ ws. BothEnter m n r kept (record u { waiting = drop c.pushed ws }) (entry_of r (Some m) c s) (newer c.pushed ws)) (sym h.waiting)
    (if_both m n r kept (record u { waiting = drop c.pushed s.waiting }) (length (take c.pushed s.waiting) == c.pushed)
    (length (take c.pushed s.waiting) == c.pushed) _ _ (λ e. e)
    (λ e. by_values (reverse (take c.pushed s.waiting)) (values (operands c.registers) s) refl)))
  where
    kept : State
    kept = record s { waiting = drop c.pushed s.waiting }

    newer : (k : ℕ) → List Waiting → Option (Entry State)
    newer k ws =
        if length (take k ws) == k
        then entry_with r n d.to (reverse (take k ws)) (record u { waiting = drop k ws }) (values (operands d.registers) u) else None

    by_values : (ws : List Waiting) (o : Option (List Waiting)) → values (operands c.registers) s ≡ o
        → BothEnter m n r kept (record u { waiting = drop c.pushed s.waiting }) (entry_with r m c.to ws kept o)
        (entry_with r n d.to ws (record u { waiting = drop c.pushed s.waiting }) (values (operands d.registers) u))
    by_values ws (Some xs) e =
        subst (λ k. BothEnter m n r kept (record u { waiting = drop c.pushed s.waiting }) (entry_with r m c.to ws kept (Some xs))
        (entry_with r n d.to ws (record u { waiting = drop c.pushed s.waiting }) k)) (sym (h.registers xs e))
        (entry_both m n is r c.to d.to kept (record u { waiting = drop c.pushed s.waiting }) (ws ++ xs) h.ram h.bytes h.gives)
    by_values ws None e = no_entry _

-- ---- what is passed and given back

with_passed : (w w' : ℕ) (a b : Option ℕ) (l l' : Option (List Waiting)) → w ≡ w' → ((v : ℕ) → a ≡ Some v → b ≡ Some v)
    → ((xs : List Waiting) → l ≡ Some xs → l' ≡ Some xs) → (xs : List Waiting) → with_value w a l ≡ Some xs → with_value w' b l' ≡ Some xs
with_passed w w' (Some v) b (Some ys) l' e f g xs h =
    ap (λ k. with_value w' k l') (f v refl) ∙ (ap (λ k. with_value w' (Some v) k) (g ys refl)
    ∙ (ap (λ k. Some (record { width = k; value = low k v } ∷ ys)) (sym e) ∙ h))
with_passed w w' (Some v) b None l' e f g xs h = absurd (none-some xs h)
with_passed w w' None b l l' e f g xs h = absurd (none-some xs h)

module _ (p : Program) (tables : AreBytes p.tables) (old now : Procedure) (sound : IsSound old) (a : Facts) (s u : State)
    (g : Agree old.widths now.widths a s u) where
  passed : (x y : Passed) (l l' : Option (List Waiting)) → same_passed a.twins x y ≡ true → ((xs : List Waiting) → l ≡ Some xs → l' ≡ Some xs)
      → (xs : List Waiting) → with_value x.width (value x.value s) l ≡ Some xs → with_value y.width (value y.value u) l' ≡ Some xs
  passed x y l l' e f =
      let z = and_parts (x.width == y.width) (stands_for a.twins x.value y.value) e in
      with_passed x.width y.width (value x.value s) (value y.value u) l l' (same_number x.width y.width z.0)
      (λ v. stands a.twins s u g.twins x.value y.value v z.1) f

  registers_same : (k l : Registers) → same_registers a.twins k l ≡ true → (xs : List Waiting) → values (operands k) s ≡ Some xs
      → values (operands l) u ≡ Some xs
  registers_same Empty Empty e = λ xs h. h
  registers_same (One b) (One c) e = passed b c _ _ e (λ xs h. h)
  registers_same (Two b c) (Two d f) e =
      let z = and_parts (same_passed a.twins b d) (same_passed a.twins c f) e in
      passed b d _ _ z.0 (passed c f _ _ z.1 (λ xs h. h))
  registers_same (Three b c d) (Three f h i) e =
      let z0 = and_parts (same_passed a.twins b f && same_passed a.twins c h) (same_passed a.twins d i) e in
      let z1 = and_parts (same_passed a.twins b f) (same_passed a.twins c h) z0.0 in
      passed b f _ _ z1.0 (passed c h _ _ z1.1 (passed d i _ _ z0.1 (λ xs h. h)))
  registers_same (Four b c d f) (Four h i j k) e =
      let z0 = and_parts (same_passed a.twins b h && same_passed a.twins c i && same_passed a.twins d j) (same_passed a.twins f k) e in
      let z1 = and_parts (same_passed a.twins b h && same_passed a.twins c i) (same_passed a.twins d j) z0.0 in
      let z2 = and_parts (same_passed a.twins b h) (same_passed a.twins c i) z1.0 in
      passed b h _ _ z2.0 (passed c i _ _ z2.1 (passed d j _ _ z1.1 (passed f k _ _ z0.1 (λ xs h. h))))
  registers_same _ _ e = no e

  callee_same : (c d : Callee) → same_callee a.twins c d ≡ true → (r : ℕ) → called p c s ≡ Some r → called p d u ≡ Some r
  callee_same (ByNumber q) (ByNumber q') e r h = ap Some (sym (same_number q q' e)) ∙ h
  callee_same (ByCode x) (ByCode y) e r h = by_value (value x s) refl h
    where
      by_value : (o : Option ℕ) → value x s ≡ o → with_code p o ≡ Some r → with_code p (value y u) ≡ Some r
      by_value (Some v) f h = ap (with_code p) (stands a.twins s u g.twins x y v e f) ∙ h
      by_value None f h = absurd (none-some r h)
  callee_same _ _ e r h = no e

  gives_same : (x y : Option Target) → same_target x y ≡ true → (w : ℕ) → gives_to w x ≡ true → gives_to w y ≡ true
  gives_same x None e w h = refl
  gives_same (Some t) (Some t') e w h = ap (λ k. k == w) (sym (same_number t.width t'.width e)) ∙ h
  gives_same None (Some t') e w h = no e

  given_back : (x y : Option Target) (ws ws' : List Waiting) (r r' : List ℕ) (v : ℕ) → same_target x y ≡ true → IsTo now y → ws' ≡ ws → r' ≡ r
      → Changed now.widths a
      (record {
        old = local_of x;
        new = local_of y;
        gain = gain_in old.widths now.widths (local_of x) (local_of y) 5 greatest;
        filled = None;
        worked = None;
        most = greatest;
      })
      s u (with_result x v (record s { waiting = ws; ram = r })) (with_result y v (record u { waiting = ws'; ram = r' }))
  given_back None None ws ws' r r' v e h ew er = none_changed p tables old now sound a s u g _ _ refl refl ew er
  given_back None (Some t') ws ws' r r' v e h ew er = no e
  given_back (Some t) None ws ws' r r' v e h ew er =
      record {
        old_kept = λ y e. other_local s.locals t.local y v e;
        new_kept = new_kept;
        gained = λ y k w e q f. no q;
        filled = λ y w e q. no e;
        worked = λ w e. absurd (none-some w e);
        bounded = λ y w e q. local_small old.widths (sets t.local v s).locals y w sound.widths (sets_holds old.widths s.locals t.local v g.steady.held) q;
        waiting = ew;
        ram = er;
      }
    where
      new_kept : (k : Operand) → false ≡ false → value k (record u { waiting = ws'; ram = r' }) ≡ value k u
      new_kept (Local i) e = refl
      new_kept (Known w) e = refl
  given_back (Some t) (Some t') ws ws' r r' v e h ew er =
      both_changed p tables old now sound a s u g t.local t'.local 5 greatest v _ _ h.1 (λ k. absurd (omega (arith, k))) (λ k le few. few) refl refl ew er

  pub calls_same : (fs : List Facts) (ps : List ℕ) (trim : Trims fs ps old now) (pc at : ℕ) (c d : Calling) → same_call a.twins c d ≡ true → IsTo now d.to
      → is_it (slice_get ps (suc pc)) (suc at) ≡ true → leads_in now.widths a (call_change old.widths now.widths c d) (slice_get fs (suc pc)) ≡ true
      → SameCall p old now pc at c d s u
  calls_same fs ps trim pc at c d e h there l =
      record {
        callee = callee_same c.callee d.callee z2.0;
        pushed = sym pushed;
        registers = registers_same c.registers d.registers z1.1;
        waiting = g.waiting;
        ram = g.ram;
        bytes = g.steady.bytes;
        gives = gives_same c.to d.to z0.1;
        onward = onward;
      }
    where
      z0 : ((same_callee a.twins c.callee d.callee && (c.pushed == d.pushed) && same_registers a.twins c.registers d.registers) ≡ true)
          × (same_target c.to d.to ≡ true)
      z0 = and_parts (same_callee a.twins c.callee d.callee && (c.pushed == d.pushed) && same_registers a.twins c.registers d.registers) _ e

      z1 : ((same_callee a.twins c.callee d.callee && (c.pushed == d.pushed)) ≡ true) × (same_registers a.twins c.registers d.registers ≡ true)
      z1 = and_parts (same_callee a.twins c.callee d.callee && (c.pushed == d.pushed)) _ z0.0

      z2 : (same_callee a.twins c.callee d.callee ≡ true) × ((c.pushed == d.pushed) ≡ true)
      z2 = and_parts (same_callee a.twins c.callee d.callee) _ z1.0

      pushed : c.pushed ≡ d.pushed
      pushed = same_number c.pushed d.pushed z2.1

      bytes : (x : Option Target) (ws : List Waiting) (r : List ℕ) (v : ℕ) → AreBytes r → AreBytes (with_result x v (record s { waiting = ws; ram = r })).ram
      bytes (Some t) ws r v k = k
      bytes None ws r v k = k

      onward : (v : ℕ) (t t' : State) → t'.ram ≡ t.ram → AreBytes t.ram
          → AtPlace old now (suc pc) (suc at) (resume (Result c) (record s { waiting = drop c.pushed s.waiting }) t v)
          (resume (Result d) (record u { waiting = drop d.pushed u.waiting }) t' v)
      onward v t t' er k =
          led fs ps old now trim a (suc pc) (suc at) s u _ _ (call_change old.widths now.widths c d) g
          (given_back c.to d.to (drop c.pushed s.waiting) (drop d.pushed u.waiting) t.ram t'.ram v z0.1 h
          (ap (λ k. drop k u.waiting) (sym pushed) ∙ ap (drop c.pushed) g.waiting) er)
          (record {
            held = resume_holds old.widths (Result c) (record s { waiting = drop c.pushed s.waiting }) t v g.steady.held;
            held_too = resume_holds now.widths (Result d) (record u { waiting = drop d.pushed u.waiting }) t' v g.steady.held_too;
            bytes = bytes c.to (drop c.pushed s.waiting) t.ram v k;
          }) there l
