-- Bodies and calls of a well typed program are never Wrong, by induction on the clock.
use Rattle.std.proofs.Common.{◌≡◌, ℕ, zero, suc, ◌+◌, ◌==◌, true, false, List, [], ◌∷◌, ◌++◌, length, map, take, drop, Some}
use Rattle.std.proofs.Common.{refl, sym, ◌∙◌, subst, arith}
use Rattle.vg_meaning.specs.History.{Recorder}
use Rattle.vg_meaning.specs.World.{World}
use Rattle.vg_meaning.specs.Answer.{Gives, Piece}
use Rattle.vg_meaning.specs.Calls.{opened}
use Rattle.vg_meaning.specs.Code.{performed}
use Rattle.vg_meaning.specs.Safe.{Safe, gives, overs, SafePiece, SafeTest, NoWay, Leaving, Ticks, IsRight}
use Rattle.vg_meaning_laws.proofs.Safe.{safe_then, safe_opened, safe_returned, safe_performed}
use Rattle.vg_core.specs.declared.types.CoreType.{CoreType}
use Rattle.vg_core.specs.declared.types.CoreType.TheVariants.{BoolType}
use Rattle.vg_core.specs.declared.value.CoreValue.{CoreValue}
use Rattle.vg_core.specs.declared.value.CoreValue.TheVariants.{Bool as Truth}
use Rattle.vg_core.specs.declared.program.Owner.{Owner}
use Rattle.vg_core.specs.declared.program.Tables.{Tables}
use Rattle.vg_core.specs.Program.{Body, Program, Signature, signature_of, body_of}
use Rattle.vg_core.specs.Heap.{Kind, default}
use Rattle.vg_core.specs.State.{State, is_of, are_of, onto, entered, left}
use Rattle.vg_core.specs.Meaning.{put, take_from, with_found, checked, of_type, Caller, step, truth, truth_in, activity, back_in, run_body, with_arguments}
use Rattle.vg_core.specs.Meaning.{called}
use Rattle.vg_core.specs.Types.{Extends, HasType, HasTypes, SelfOf}
use Rattle.vg_core.specs.Typing.{Subs, Holds, Returned, known, locals_of, TypedBody, WellTyped}
use Rattle.vg_sound.specs.Good.{TypedHeap, Good, GoodAt, CallsRight}
use Rattle.vg_sound.proofs.Values.{eq_true, all_more, self_more, default_typed, defaults_typed, front, back, turned_round, all_fit, fits, subs_length}
use Rattle.vg_sound.proofs.Values.{onto_length}
use Rattle.vg_sound.proofs.Cells.{is_typed, are_typed}
use Rattle.vg_sound.proofs.Pieces.{found, holds, with_values}
use Rattle.vg_sound.proofs.Steps.{safe_step}

-- The state at the end of a body: a value of the result's type waits in front.
record Ended (p : Tables) (κ0 : List Kind) (r : CoreType) (s : State) : Type 0 where
  pub kinds : List Kind
  pub grown : Extends κ0 kinds
  pub heap : TypedHeap p kinds s.heap
  pub value : CoreValue
  pub rest : List CoreValue
  pub is : s.values ≡ value ∷ rest
  pub typed : HasType p kinds value r

module _ (p : Program) (good : WellTyped p) where
  -- a truth value waits
  tests : {K : Type 0} (κ0 : List Kind) (ts : List CoreType) (o : Owner) (x y : List CoreType) → Holds x y → (s : State) (h : K)
      → GoodAt p.tables κ0 ts o x s h → SafeTest (GoodAt p.tables κ0 ts o y) IsRight h (truth s)
  tests κ0 ts o x y e s h g = by s.values (subst (HasTypes p.tables g.kinds s.values) e g.values)
    where
      by : (vs : List CoreValue) → HasTypes p.tables g.kinds vs (BoolType ∷ y) → SafeTest (GoodAt p.tables κ0 ts o y) IsRight h (truth_in vs s)
      by (Truth b ∷ vs) (a, q) = with_values p.tables κ0 ts o x y s vs g q
      by [] q = absurd q
      by (_ ∷ vs) (a, q) = absurd a

  -- a value that fits the result waits
  results : {K : Type 0} (κ0 : List Kind) (ts : List CoreType) (o : Owner) (r : CoreType) (x : List CoreType) → Returned p.tables r x → (s : State) (h : K)
      → GoodAt p.tables κ0 ts o x s h → Ended p.tables κ0 r s
  results κ0 ts o r x (u, y, e, sub) s h g = by s.values refl (subst (HasTypes p.tables g.kinds s.values) e g.values)
    where
      by : (vs : List CoreValue) → s.values ≡ vs → HasTypes p.tables g.kinds vs (u ∷ y) → Ended p.tables κ0 r s
      by (v ∷ vs) q (a, b) = record {
        kinds = g.kinds;
        grown = g.grown;
        heap = g.heap;
        value = v;
        rest = vs;
        is = q;
        typed = fits p.tables good.tables g.kinds u r sub v a;
      }
      by [] q b = absurd b

  module _ {K : Type 0} (r : Recorder K) where
    abbrev Ready : List Kind → List CoreType → Owner → List CoreType → CoreValue → Owner → State → K → Type 0
    Ready κ0 ts o x self own s h = (g : Good p.tables κ0 ts o x s) × SelfOf p.tables g.kinds self own

    ticks : (κ0 : List Kind) (ts : List CoreType) (o : Owner) (x : List CoreType) → Ticks r (GoodAt p.tables κ0 ts o x) IsRight
    ticks κ0 ts o x = record { stays = λ s h q. q; spent = λ s h q. tt }

    -- back at the caller
    safe_back : (κ0 : List Kind) (ts : List CoreType) (o : Owner) (us x : List CoreType) (t : CoreType) (s1 : State) (g1 : Good p.tables κ0 ts o (us ++ x) s1)
        → SafePiece {H = K} (λ s2 h2. Ended p.tables g1.kinds t s2) (GoodAt p.tables κ0 ts o (t ∷ x)) NoWay IsRight (back_in p.tables t (length us) s1)
    safe_back κ0 ts o us x t s1 g1 s2 w2 q =
        subst (λ vs. Safe (GoodAt p.tables κ0 ts o (t ∷ x)) NoWay IsRight
        (take_from vs (λ v. of_type p.tables t v (λ body. Gives (left (length us) s1 v body))) s2 w2)) (sym q.is)
        (holds (is_of p.tables s2.heap.cells t q.value) (λ body. Gives (left (length us) s1 q.value body)) (record s2 { values = q.rest }) w2
        (is_typed p.tables q.kinds s2.heap.cells q.value t q.heap.cells q.typed)
        (gives (record {
          kinds = q.kinds;
          grown = λ k a z. q.grown k a (g1.grown k a z);
          heap = q.heap;
          values = (q.typed, all_more p.tables g1.kinds q.kinds q.grown (drop (length us) s1.values) x (back p.tables g1.kinds us x s1.values g1.values));
          locals = all_more p.tables g1.kinds q.kinds q.grown s1.locals ts g1.locals;
          self = self_more p.tables g1.kinds q.kinds q.grown s1.self o g1.self;
        })))

    -- a body from its entry to the return to its caller
    safe_body : (call : Caller K) → CallsRight p.tables call → (κ0 : List Kind) (ts : List CoreType) (o : Owner) (us x : List CoreType) (g : Signature)
        (b : Body)
        → TypedBody p.tables g b → Subs p.tables us (onto g.params []) → (self : CoreValue) (s1 : State) (w1 : World K)
        → Ready κ0 ts o (us ++ x) self g.owner s1 w1.history
        → Safe (GoodAt p.tables κ0 ts o (g.result ∷ x)) NoWay IsRight (run_body r p.tables call g b (length us) self s1 w1)
    safe_body call calls κ0 ts o us x g b typed subs self s1 w1 (g1, h1) =
        safe_then (back_in p.tables g.result (length us) s1)
        (safe_returned (GoodAt p.tables g1.kinds (locals_of g b) g.owner []) (λ s2 h2. Ended p.tables g1.kinds g.result s2)
        (Leaving (known p.tables (locals_of g b) g.owner g.result) (GoodAt p.tables g1.kinds (locals_of g b) g.owner)
        (λ s2 h2. Ended p.tables g1.kinds g.result s2) false)
        NoWay IsRight
        (performed r (step p.tables call) truth b.code (entered b (length us) self s1) w1) (put (default g.result))
        (safe_performed r (step p.tables call) truth (known p.tables (locals_of g b) g.owner g.result) (GoodAt p.tables g1.kinds (locals_of g b) g.owner)
        (λ s2 h2. Ended p.tables g1.kinds g.result s2) IsRight (ticks g1.kinds (locals_of g b) g.owner [])
        (λ st y z k. safe_step p.tables good.tables g1.kinds (locals_of g b) g.owner call calls st y z k)
        (tests g1.kinds (locals_of g b) g.owner) (results g1.kinds (locals_of g b) g.owner g.result)
        false b.code [] [] typed (entered b (length us) self s1) w1 start)
        (λ s2 w2 g2. gives (record {
          kinds = g2.kinds;
          grown = g2.grown;
          heap = g2.heap;
          value = default g.result;
          rest = s2.values;
          is = refl;
          typed = default_typed p.tables g2.kinds g.result;
        }))
        (λ s2 h2 q. q) (λ s2 h2 q. let clash : false ≡ true = q.0 in absurd cc) (λ s2 h2 q. let clash : false ≡ true = q.0 in absurd cc)
        (λ why s2 h2 q. absurd q))
        (safe_back κ0 ts o us x g.result s1 g1)
      where
        start : Good p.tables g1.kinds (locals_of g b) g.owner [] (entered b (length us) self s1)
        start = record {
          kinds = g1.kinds;
          grown = λ k a q. q;
          heap = g1.heap;
          values = tt;
          self = h1;
          locals = turned_round p.tables g1.kinds (take (length us) s1.values) (map default b.others) (onto g.params []) b.others
              (all_fit p.tables good.tables g1.kinds (take (length us) s1.values) us (onto g.params []) (front p.tables g1.kinds us x s1.values g1.values) subs)
              (defaults_typed p.tables g1.kinds b.others);
        }

    as_many : (us : List CoreType) (g : Signature) → Subs p.tables us (onto g.params []) → (length g.params == length us) ≡ true
    as_many us g subs =
        let e : length us ≡ length (onto g.params []) = subs_length p.tables us (onto g.params []) subs in
        let f : length (onto g.params []) ≡ length g.params + length {0} {A = CoreType} [] = onto_length g.params [] in
        let n : length g.params + length {0} {A = CoreType} [] ≡ length g.params = omega arith in
        eq_true (length g.params) (length us) (sym (e ∙ (f ∙ n)))

    -- calls
    -- a call, where the calls in its body are right
    safe_opening : (n : ℕ) → CallsRight p.tables (called r p n) → CallsRight p.tables (called r p (suc n))
    safe_opening n calls κ0 ts o us x t g e subs self s w g1 h1 = by (good.bodies t g e)
      where
        go : Signature → Body → Piece State K
        go g b = with_arguments p.tables g (length us) (opened r (activity t) (run_body r p.tables (called r p n) g b (length us) self))

        passed : (b : Body) → TypedBody p.tables g b
            → Safe (GoodAt p.tables κ0 ts o (g.result ∷ x)) NoWay IsRight (opened r (activity t) (run_body r p.tables (called r p n) g b (length us) self) s w)
        passed b typed = safe_opened (Ready κ0 ts o (us ++ x) self g.owner) (Ready κ0 ts o (us ++ x) self g.owner) (GoodAt p.tables κ0 ts o (g.result ∷ x))
            (GoodAt p.tables κ0 ts o (g.result ∷ x)) NoWay IsRight r (activity t) (run_body r p.tables (called r p n) g b (length us) self)
            (λ s1 h q. q) (λ s1 h q. tt) (λ s1 h q. tt) (λ s1 h q. q)
            (safe_body (called r p n) calls κ0 ts o us x g b typed subs self) s w (g1, h1)

        by : ((b : Body) × (body_of p t ≡ Some b) × TypedBody p.tables g b)
            → Safe (GoodAt p.tables κ0 ts o (g.result ∷ x)) NoWay IsRight (called r p (suc n) t (length us) self s w)
        by (b, eb, typed) =
            found (signature_of p.tables t) g (λ g. with_found (body_of p t) (go g)) s w e
            (found (body_of p t) b (go g) s w eb
            (holds (length g.params == length us)
            (λ s1. checked (are_of p.tables s1.heap.cells (onto g.params []) (take (length us) s1.values))
            (opened r (activity t) (run_body r p.tables (called r p n) g b (length us) self)) s1)
            s w (as_many us g subs)
            (holds (are_of p.tables s.heap.cells (onto g.params []) (take (length us) s.values))
            (opened r (activity t) (run_body r p.tables (called r p n) g b (length us) self)) s w
            (are_typed p.tables g1.kinds s.heap.cells (take (length us) s.values) (onto g.params []) g1.heap.cells
            (all_fit p.tables good.tables g1.kinds (take (length us) s.values) us (onto g.params []) (front p.tables g1.kinds us x s.values g1.values) subs))
            (passed b typed))))

    -- calls
    pub safe_called : (n : ℕ) → CallsRight p.tables (called r p n)
    safe_called zero = λ κ0 ts o us x t g e subs self s w g1 h1. overs tt
    safe_called (suc n) = safe_opening n (safe_called n)
