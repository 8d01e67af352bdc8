-- That the instructions of a block stand where structured code wants them.
use Rattle.std.specs.Prelude.{ℕ, suc, ◌+◌, ◌≤◌, List, [], ◌∷◌, ◌++◌, length, map, Some, true, false, nat_le, slice_get}
use Rattle.std.proofs.Common.{◌≡◌, sym, ap, ◌∙◌, subst, arith}
use Rattle.std.proofs.lemmas.List.{length-append, length-map}
use Rattle.vg_meaning.specs.Code.{Code, Do}
use Rattle.vg_lin.specs.declared.instr.Instr.{Instr}
use Rattle.vg_lin.specs.declared.instr.Instr.TheVariants.{Jump}
use Rattle.vg_flatten_shapes.proofs.Choices.{alone, with_jump, choice_cases, nothing_anywhere}
use Rattle.vg_lin.specs.Turns.{jumps_back, leaves_loop}
use Rattle.vg_lin.specs.Structured.{Step, To}
use Rattle.vg_lin.specs.declared.instr.Passed.{Passed}
use Rattle.vg_lin.specs.declared.instr.Call.{Call as Calling}
use Rattle.vg_lin.specs.Stands.{Next, Either, Pays, Stands, nothing, sequence, plain, call, idle, when, unless, flip, choice, loop, break', continue', return, before, behind}
use Rattle.vg_flatten_shapes.specs.declared.open.Truth.{Truth}
use Rattle.vg_flatten_shapes.specs.declared.open.Truth.TheVariants.{Holds, Fails}
use Rattle.vg_flatten_shapes.specs.declared.open.Open.{Open}
use Rattle.vg_flatten_shapes.specs.declared.open.Open.TheVariants.{Set, Break, Continue}
use Rattle.vg_flatten_shapes.specs.Blocks.{Block, Skip, One, CallTo, TakeInterrupt, GiveBack, BreakOut, GoOn, Both, Choice, Repeat, pushing, structured, picked, branch, closed, set_in, call_code, open_code}

-- The instructions stand from a place on.
abbrev pub Lies : (code : List Instr) → (behind' again : ℕ) → List Open → (at : ℕ) → Type 0
Lies code x y [] at = Unit {0}
Lies code x y (o ∷ os) at = (slice_get code at ≡ Some (set_in x y o)) × Lies code x y os (suc at)

module _ (code : List Instr) where
  lies_at : (x y : ℕ) (os : List Open) (a b : ℕ) → a ≡ b → Lies code x y os a → Lies code x y os b
  lies_at x y os a b e l = subst (λ z. Lies code x y os z) e l

  lies_front : (x y : ℕ) (os qs : List Open) (at : ℕ) → Lies code x y (os ++ qs) at → Lies code x y os at
  lies_front x y [] qs at l = tt
  lies_front x y (o ∷ os) qs at l = (l.0, lies_front x y os qs (suc at) l.1)

  lies_back : (x y : ℕ) (os qs : List Open) (at : ℕ) → Lies code x y (os ++ qs) at → Lies code x y qs (at + length os)
  lies_back x y [] qs at l = lies_at x y qs at (at + 0) (omega arith) l
  lies_back x y (o ∷ os) qs at l = lies_at x y qs (suc at + length os) (at + suc (length os)) (omega arith) (lies_back x y os qs (suc at) l.1)

  lies_closed : (x y u v : ℕ) (os : List Open) (at : ℕ) → Lies code x y (map (closed u v) os) at → Lies code u v os at
  lies_closed x y u v [] at l = tt
  lies_closed x y u v (Set i ∷ os) at l = (l.0, lies_closed x y u v os (suc at) l.1)
  lies_closed x y u v (Break ∷ os) at l = (l.0, lies_closed x y u v os (suc at) l.1)
  lies_closed x y u v (Continue ∷ os) at l = (l.0, lies_closed x y u v os (suc at) l.1)

  goal_at : (x y : ℕ) (c : Code _) (at to to' : ℕ) → to ≡ to' → Stands code x y c at (Next to) → Stands code x y c at (Next to')
  goal_at x y c at to to' e s = subst (λ z. Stands code x y c at (Next z)) e s

  place_at : (x y : ℕ) (c : Code _) (at at' to : ℕ) → at ≡ at' → Stands code x y c at (Next to) → Stands code x y c at' (Next to)
  place_at x y c at at' to e s = subst (λ z. Stands code x y c z (Next to)) e s

  -- a branch leaves a loop where a jump back stands in front of the place to which it leads
  leaves : (at to first last : ℕ) → first ≤ at → to ≡ suc last → slice_get code last ≡ Some (Jump first) → leaves_loop code at to ≡ true
  leaves at to first last le e jump = ap (leaves_loop code at) e ∙ ap (jumps_back at) jump ∙ holds
    where
      holds : nat_le first at ≡ true
      holds = grind arith

  -- a test and its branch: behind it where the value is true
  stands_picked : (x y : ℕ) (t : Truth) (at to : ℕ) (paid : _) → slice_get code at ≡ Some (branch t to) → Pays code at to paid
      → Stands code x y (picked t) at (Either (suc at) to paid)
  stands_picked x y (Holds t) at to paid h counts = unless h counts
  stands_picked x y (Fails t) at to paid h counts = flip (when h counts)

  place_a : (x y at n : ℕ) (c : Code Step) → Stands code x y c (at + 1) (Next (at + 1 + n)) → Stands code x y c (suc at) (Next (suc at + n))
  place_a x y at n c s =
      goal_at x y c (suc at) (at + 1 + n) (suc at + n) (omega arith) (place_at x y c (at + 1) (suc at) (at + 1 + n) (omega arith) s)

  -- a choice of which both ways have code
  both_ways : (x y at : ℕ) (t : Truth) (a b : Block) (as' bs : List Open)
      → (Lies code x y as' (at + 1) → Stands code x y (structured a) (at + 1) (Next (at + 1 + length as')))
      → (Lies code x y bs (at + 1 + length as' + 1) → Stands code x y (structured b) (at + 1 + length as' + 1) (Next (at + 1 + length as' + 1 + length bs)))
      → Lies code x y (with_jump t at as' bs) at → Stands code x y (structured (Choice t a b)) at (Next (at + length (with_jump t at as' bs)))
  both_ways x y at t a b as' bs sa sb l =
      choice {u = suc at} {v = v}
      (stands_picked x y t at v false l.0 (tt {0}))
      (goal_at x y (structured a) (suc at) end whole (omega (arith, n))
      (behind {mid = suc at + length as'}
      (place_a x y at (length as') (structured a) (sa (lies_at x y as' (suc at) (at + 1) (omega arith) (lies_front x y as' (Set (Jump end) ∷ bs) (suc at) l.1))))
      (jump.0)))
      (goal_at x y (structured b) v (v + length bs) whole (omega (arith, n))
      (sb (lies_at x y bs (suc (suc at + length as')) v (omega arith) jump.1)))
    where
      v : ℕ
      v = at + 1 + length as' + 1

      end : ℕ
      end = at + 1 + length as' + 1 + length bs

      whole : ℕ
      whole = at + length (with_jump t at as' bs)

      n : length (as' ++ (Set (Jump end) ∷ bs)) ≡ length as' + suc (length bs)
      n = length-append as' (Set (Jump end) ∷ bs)

      jump : Lies code x y (Set (Jump end) ∷ bs) (suc at + length as')
      jump = lies_back x y as' (Set (Jump end) ∷ bs) (suc at) l.1

  -- a choice of which the second way has none
  one_way : (x y at : ℕ) (t : Truth) (a b : Block) (as' : List Open)
      → (Lies code x y as' (at + 1) → Stands code x y (structured a) (at + 1) (Next (at + 1 + length as')))
      → Stands code x y (structured b) (at + 1 + length as') (Next (at + 1 + length as'))
      → Lies code x y (alone t at as') at → Stands code x y (structured (Choice t a b)) at (Next (at + length (alone t at as')))
  one_way x y at t a b as' sa sb l =
      choice {u = suc at} {v = end}
      (stands_picked x y t at end false l.0 (tt {0}))
      (goal_at x y (structured a) (suc at) (suc at + length as') whole (omega arith)
      (place_a x y at (length as') (structured a) (sa (lies_at x y as' (suc at) (at + 1) (omega arith) l.1))))
      (goal_at x y (structured b) end end whole (omega arith) sb)
    where
      end : ℕ
      end = at + 1 + length as'

      whole : ℕ
      whole = at + length (alone t at as')

  -- a block without code stands everywhere
  nowhere : (b : Block) (x y at : ℕ) → open_code b at ≡ []
      → (Lies code x y (open_code b at) at → Stands code x y (structured b) at (Next (at + length (open_code b at))))
      → Stands code x y (structured b) at (Next at)
  nowhere b x y at e h =
      let n = ap length e in
      goal_at x y (structured b) at (at + length (open_code b at)) at (omega (arith, n)) (h (subst (λ z. Lies code x y z at) (sym e) tt))

  -- the pushes of a call, and the call
  stands_call : (pushed : List Passed) (c : Calling) (x y at : ℕ) → Lies code x y (call_code pushed c) at
      → Stands code x y (pushing pushed (Do (To c))) at (Next (at + length (call_code pushed c)))
  stands_call [] c x y at l = goal_at x y _ at (suc at) (at + 1) (omega arith) (call l.0)
  stands_call (a ∷ more) c x y at l =
      sequence {mid = suc at} (plain l.0)
      (goal_at x y _ (suc at) (suc at + length (call_code more c)) (at + suc (length (call_code more c))) (omega arith) (stands_call more c x y (suc at) l.1))

  pub stands : (b : Block) (x y at : ℕ) → Lies code x y (open_code b at) at → Stands code x y (structured b) at (Next (at + length (open_code b at)))
  stands Skip x y at l = goal_at x y _ at at (at + 0) (omega arith) nothing
  stands (One p) x y at l = goal_at x y _ at (suc at) (at + 1) (omega arith) (plain l.0)
  stands (CallTo pushed c) x y at l = stands_call pushed c x y at l
  stands TakeInterrupt x y at l = goal_at x y _ at (suc at) (at + 1) (omega arith) (idle l.0)
  stands (GiveBack w a) x y at l = return l.0
  stands BreakOut x y at l = before l.0 break'
  stands GoOn x y at l = before l.0 continue'
  stands (Both a b) x y at l =
      let n = length-append (open_code a at) (open_code b (at + length (open_code a at))) in
      sequence (stands a x y at (lies_front x y (open_code a at) (open_code b (at + length (open_code a at))) at l))
      (goal_at x y (structured b) (at + length (open_code a at)) (at + length (open_code a at) + length (open_code b (at + length (open_code a at))))
      (at + length (open_code a at ++ open_code b (at + length (open_code a at)))) (omega (arith, n))
      (stands b x y (at + length (open_code a at)) (lies_back x y (open_code a at) (open_code b (at + length (open_code a at))) at l)))
  stands (Choice t a b) x y at l =
      choice_cases (λ z. Lies code x y z at → Stands code x y (structured (Choice t a b)) at (Next (at + length z))) t at (open_code a (at + 1))
      (open_code b (at + 1 + length (open_code a (at + 1)) + 1))
      (λ e. one_way x y at t a b (open_code a (at + 1)) (λ h. stands a x y (at + 1) h)
      (nowhere b x y (at + 1 + length (open_code a (at + 1))) (nothing_anywhere b (at + 1 + length (open_code a (at + 1)) + 1) (at + 1 + length (open_code a (at + 1))) e)
      (λ h. stands b x y (at + 1 + length (open_code a (at + 1))) h)))
      (both_ways x y at t a b (open_code a (at + 1)) (open_code b (at + 1 + length (open_code a (at + 1)) + 1)) (λ h. stands a x y (at + 1) h)
      (λ h. stands b x y (at + 1 + length (open_code a (at + 1)) + 1) h)) l
  stands (Repeat p t body next) x y at l =
      goal_at x y (structured (Repeat p t body next)) at e (at + length (open_code (Repeat p t body next) at)) (omega (arith, n1, n2, n3, n4))
      (loop {u = u} {v = n}
      (sequence {mid = at + length xs} (stands p x y at (lies_front x y xs behind_test at l))
      (subst (λ z. Stands code x y (picked t) (at + length xs) (Either z e true)) (omega arith) (stands_picked x y t (at + length xs) e true test.0 counts)))
      (stands body e n u (lies_closed x y e n ys u (lies_at x y (map (closed e n) ys) (suc (at + length xs)) u (omega arith)
      (lies_front x y (map (closed e n) ys) (zs ++ (Set (Jump at) ∷ [])) (suc (at + length xs)) test.1))))
      (behind {mid = n + length zs}
      (stands next x y n (lies_front x y zs (Set (Jump at) ∷ []) n rest)) again))
    where
      xs : List Open
      xs = open_code p at

      u : ℕ
      u = at + length xs + 1

      ys : List Open
      ys = open_code body u

      n : ℕ
      n = u + length ys

      zs : List Open
      zs = open_code next n

      e : ℕ
      e = n + length zs + 1

      behind_test : List Open
      behind_test = Set (branch t e) ∷ (map (closed e n) ys ++ (zs ++ (Set (Jump at) ∷ [])))

      test : Lies code x y behind_test (at + length xs)
      test = lies_back x y xs behind_test at l

      n1 : length (xs ++ behind_test) ≡ length xs + length behind_test
      n1 = length-append xs behind_test

      n2 : length (map (closed e n) ys ++ (zs ++ (Set (Jump at) ∷ []))) ≡ length (map (closed e n) ys) + length (zs ++ (Set (Jump at) ∷ []))
      n2 = length-append (map (closed e n) ys) (zs ++ (Set (Jump at) ∷ []))

      n3 : length (zs ++ (Set (Jump at) ∷ [])) ≡ length zs + 1
      n3 = length-append zs (Set (Jump at) ∷ [])

      n4 : length (map (closed e n) ys) ≡ length ys
      n4 = length-map ys (closed e n)

      rest : Lies code x y (zs ++ (Set (Jump at) ∷ [])) n
      rest =
          lies_at x y (zs ++ (Set (Jump at) ∷ [])) (suc (at + length xs) + length (map (closed e n) ys)) n (omega (arith, n4))
          (lies_back x y (map (closed e n) ys) (zs ++ (Set (Jump at) ∷ [])) (suc (at + length xs)) test.1)

      again : slice_get code (n + length zs) ≡ Some (Jump at)
      again = (lies_back x y zs (Set (Jump at) ∷ []) n rest).0

      counts : leaves_loop code (at + length xs) e ≡ true
      counts = leaves (at + length xs) e at (n + length zs) (omega arith) (omega arith) again
