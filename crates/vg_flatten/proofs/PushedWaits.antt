-- What waits at each place of such a block: so many values of four bytes, and above them, between the pushes of a call and the call, its
-- arguments. No jump of the block leads to itself, none behind the block, and none to a place where other values wait. W says what waits.
use Rattle.std.specs.Prelude.{ℕ, zero, suc, ◌+◌, ◌≤◌, List, [], ◌∷◌, ◌++◌, length, drop, map}
use Rattle.std.proofs.Common.{◌≡◌, ◌≢◌, sym, ap, ◌∙◌, subst, arith}
use Rattle.std.proofs.lemmas.List.{length-append, length-map, append_assoc}
use Rattle.vg_lin.specs.declared.instr.Plain.{Plain as PlainInstr}
use Rattle.vg_lin.specs.declared.instr.Plain.TheVariants.{Copy, Compute, Product, DivideSteps, Load, Store, ReadDevice, WriteDevice, Push, Pop, Find, CodeOf, Stop}
use Rattle.vg_lin.specs.declared.instr.Passed.{Passed}
use Rattle.vg_lin.specs.declared.instr.Call.{Call as Calling}
use Rattle.vg_lin.specs.declared.instr.Instr.TheVariants.{Plain, When, Unless, Jump, Call, Return, Idle}
use Rattle.vg_lin.specs.Sound.{behind_plain, behind}
use Rattle.vg_flatten_shapes.specs.declared.open.Truth.{Truth}
use Rattle.vg_flatten_shapes.specs.declared.open.Truth.TheVariants.{Holds, Fails}
use Rattle.vg_flatten_shapes.specs.declared.open.Open.{Open}
use Rattle.vg_flatten_shapes.specs.declared.open.Open.TheVariants.{Set, Break, Continue}
use Rattle.vg_flatten_shapes.proofs.Choices.{alone, with_jump, choice_cases}
use Rattle.vg_flatten_shapes.specs.Blocks.{Block, Skip, One, CallTo, TakeInterrupt, GiveBack, BreakOut, GoOn, Both, Choice, Repeat, branch, closed, loop_code, call_code, open_code}
use Rattle.vg_flatten.proofs.PushedBlocks.{PlainOn, BlockOn}

abbrev pub fours : ℕ → List ℕ
fours zero = []
fours (suc n) = 4 ∷ fours n

-- What an instruction leaves of what waits before it.
abbrev pub left : Open → List ℕ → List ℕ
left (Set i) xs = behind i xs
left o xs = xs

-- W is right behind each of these instructions.
abbrev pub Marks : (ℕ → List ℕ) → List Open → (at : ℕ) → Type 0
Marks w [] at = Unit {0}
Marks w (o ∷ os) at = (w (suc at) ≡ left o (w at)) × Marks w os (suc at)

-- A jump at a place leads to another one, to none above the highest, and there the same waits.
abbrev pub GoesTo : (ℕ → List ℕ) → (high at to : ℕ) → Type 0
GoesTo w high at to = (to ≢ at) × (to ≤ high) × (w to ≡ w at)

abbrev pub PlainHas : (ℕ → List ℕ) → (at : ℕ) → PlainInstr → Type 0
PlainHas w at (Pop width to) = (rest : List ℕ) × (w at ≡ width ∷ rest)
PlainHas w at p = Unit {0}

abbrev pub Has : (ℕ → List ℕ) → (high at : ℕ) → Open → Type 0
Has w high at (Set (When t to)) = GoesTo w high at to
Has w high at (Set (Unless t to)) = GoesTo w high at to
Has w high at (Set (Jump to)) = GoesTo w high at to
Has w high at (Set (Plain p)) = PlainHas w at p
Has w high at (Set (Call c)) = c.pushed ≤ length (w at)
Has w high at (Set (Return r a)) = w at ≡ []
Has w high at (Set Idle) = Unit {0}
Has w high at Break = w at ≡ []
Has w high at Continue = w at ≡ []

abbrev pub AllHave : (ℕ → List ℕ) → (high : ℕ) → List Open → (at : ℕ) → Type 0
AllHave w high [] at = Unit {0}
AllHave w high (o ∷ os) at = Has w high at o × AllHave w high os (suc at)

module _ (L : Type 0) (given size : ℕ) (W : ℕ → List ℕ) (high : ℕ) where
  -- ---- marks

  marks_at : (os : List Open) (a b : ℕ) → a ≡ b → Marks W os a → Marks W os b
  marks_at os a b e h = subst (λ z. Marks W os z) e h

  pub marks_front : (os qs : List Open) (at : ℕ) → Marks W (os ++ qs) at → Marks W os at
  marks_front [] qs at h = tt
  marks_front (o ∷ os) qs at h = (h.0, marks_front os qs (suc at) h.1)

  pub marks_back : (os qs : List Open) (at : ℕ) → Marks W (os ++ qs) at → Marks W qs (at + length os)
  marks_back [] qs at h = marks_at qs at (at + 0) (omega arith) h
  marks_back (o ∷ os) qs at h = marks_at qs (suc at + length os) (at + suc (length os)) (omega arith) (marks_back os qs (suc at) h.1)

  marks_closed : (u v : ℕ) (os : List Open) (at : ℕ) → Marks W (map (closed u v) os) at → Marks W os at
  marks_closed u v [] at h = tt
  marks_closed u v (Set i ∷ os) at h = (h.0, marks_closed u v os (suc at) h.1)
  marks_closed u v (Break ∷ os) at h = (h.0, marks_closed u v os (suc at) h.1)
  marks_closed u v (Continue ∷ os) at h = (h.0, marks_closed u v os (suc at) h.1)

  at_is : (a b : ℕ) (xs : List ℕ) → a ≡ b → W a ≡ xs → W b ≡ xs
  at_is a b xs e h = subst (λ z. W z ≡ xs) e h

  branch_left : (t : Truth) (to at : ℕ) → W (suc at) ≡ left (Set (branch t to)) (W at) → W (suc at) ≡ W at
  branch_left (Holds t) to at h = h
  branch_left (Fails t) to at h = h

  -- ---- one instruction

  plain_left : (n m : ℕ) (p : PlainInstr) (at : ℕ) → PlainOn size n m p → W at ≡ fours n → W (suc at) ≡ behind_plain p (W at) → W (suc at) ≡ fours m
  plain_left n m (Copy to a) at h e k = k ∙ e ∙ ap fours h.1
  plain_left n m (Compute c) at h e k = k ∙ e ∙ ap fours h.1
  plain_left n m (Product to a b) at h e k = k ∙ e ∙ ap fours h.1
  plain_left n m (DivideSteps a b c) at h e k = k ∙ e ∙ ap fours h.1
  plain_left n m (Load x w to a) at h e k = k ∙ e ∙ ap fours h.1
  plain_left n m (Store w a from) at h e k = k ∙ e ∙ ap fours h.1
  plain_left n m (ReadDevice to a) at h e k = k ∙ e ∙ ap fours h.1
  plain_left n m (WriteDevice a b) at h e k = k ∙ e ∙ ap fours h.1
  plain_left n m (Push w a) at h e k = k ∙ ap (λ z. z ∷ W at) h.0 ∙ ap (λ z. 4 ∷ z) e ∙ ap fours (sym h.2)
  plain_left n m (Pop w to) at h e k = k ∙ ap (drop 1) (e ∙ ap fours h.2)
  plain_left n m (Find d to a) at h e k = k ∙ e ∙ ap fours h.1
  plain_left n m (CodeOf q to) at h e k = k ∙ e ∙ ap fours h.1
  plain_left n m (Stop c) at h e k = k ∙ e ∙ ap fours h.1

  plain_has : (n m : ℕ) (p : PlainInstr) (at : ℕ) → PlainOn size n m p → W at ≡ fours n → PlainHas W at p
  plain_has n m (Copy to a) at h e = tt
  plain_has n m (Compute c) at h e = tt
  plain_has n m (Product to a b) at h e = tt
  plain_has n m (DivideSteps a b c) at h e = tt
  plain_has n m (Load x w to a) at h e = tt
  plain_has n m (Store w a from) at h e = tt
  plain_has n m (ReadDevice to a) at h e = tt
  plain_has n m (WriteDevice a b) at h e = tt
  plain_has n m (Push w a) at h e = tt
  plain_has n m (Pop w to) at h e = (fours m, e ∙ ap fours h.2 ∙ ap (λ z. z ∷ fours m) (sym h.0))
  plain_has n m (Find d to a) at h e = tt
  plain_has n m (CodeOf q to) at h e = tt
  plain_has n m (Stop c) at h e = tt

  -- the pushes of a call, above what waits below
  call_end : (pushed : List Passed) (c : Calling) (at j : ℕ) (xs : List ℕ) → j + length pushed ≡ c.pushed → drop j (W at) ≡ xs → Marks W (call_code pushed c) at
      → W (at + length (call_code pushed c)) ≡ xs
  call_end [] c at j xs n e h =
      let same : c.pushed ≡ j = omega (arith, n) in
      at_is (suc at) (at + 1) xs (omega arith) (h.0 ∙ ap (λ z. drop z (W at)) same ∙ e)
  call_end (a ∷ more) c at j xs n e h =
      at_is (suc at + length (call_code more c)) (at + suc (length (call_code more c))) xs (omega arith)
      (call_end more c (suc at) (suc j) xs (omega (arith, n)) (ap (drop (suc j)) h.0 ∙ e) h.1)

  call_has : (pushed : List Passed) (c : Calling) (at j : ℕ) → j + length pushed ≡ c.pushed → j ≤ length (W at) → Marks W (call_code pushed c) at
      → AllHave W high (call_code pushed c) at
  call_has [] c at j n le h = (omega (arith, n, le), tt)
  call_has (a ∷ more) c at j n le h =
      (tt, call_has more c (suc at) (suc j) (omega (arith, n)) (let l = ap length h.0 in omega (arith, l, le)) h.1)

  -- ---- what waits behind a block

  rest_ends : (t : Truth) (n m at : ℕ) (as' bs : List Open) → (W at ≡ fours n) → (W (at + 1) ≡ fours n → Marks W as' (at + 1) → W (at + 1 + length as') ≡ fours n)
      → (W (at + 1 + length as' + 1) ≡ fours n → Marks W bs (at + 1 + length as' + 1) → W (at + 1 + length as' + 1 + length bs) ≡ fours m)
      → Marks W (with_jump t at as' bs) at → W (at + length (with_jump t at as' bs)) ≡ fours m
  rest_ends t n m at as' bs e ea eb k =
      let l = length-append as' (Set (Jump end) ∷ bs) in
      at_is (v + length bs) (at + length (with_jump t at as' bs)) (fours m) (omega (arith, l))
      (eb (at_is (suc (suc at + length as')) v (fours n) (omega arith) (j.0 ∙ at_is (at + 1 + length as') (suc at + length as') (fours n) (omega arith) (ea e1 ka)))
      (marks_at bs (suc (suc at + length as')) v (omega arith) j.1))
    where
      v : ℕ
      v = at + 1 + length as' + 1

      end : ℕ
      end = at + 1 + length as' + 1 + length bs

      e1 : W (at + 1) ≡ fours n
      e1 = at_is (suc at) (at + 1) (fours n) (omega arith) (branch_left t v at k.0 ∙ e)

      ka : Marks W as' (at + 1)
      ka = marks_at as' (suc at) (at + 1) (omega arith) (marks_front as' (Set (Jump end) ∷ bs) (suc at) k.1)

      j : Marks W (Set (Jump end) ∷ bs) (suc at + length as')
      j = marks_back as' (Set (Jump end) ∷ bs) (suc at) k.1

  loop_ends : (t : Truth) (at : ℕ) (xs ys zs : List Open) → W at ≡ [] → (W at ≡ [] → Marks W xs at → W (at + length xs) ≡ [])
      → (W (at + length xs + 1) ≡ [] → Marks W ys (at + length xs + 1) → W (at + length xs + 1 + length ys) ≡ [])
      → (W (at + length xs + 1 + length ys) ≡ [] → Marks W zs (at + length xs + 1 + length ys) → W (at + length xs + 1 + length ys + length zs) ≡ [])
      → Marks W (loop_code t at xs ys zs) at → W (at + length (loop_code t at xs ys zs)) ≡ []
  loop_ends t at xs ys zs e ep eb en k =
      let l = length-append xs behind_test in
      let o = length-append behind_body (Set (Jump at) ∷ []) in
      at_is (suc (suc (at + length xs) + length behind_body)) (at + length (xs ++ behind_test)) [] (omega (arith, l, o, split_long))
      (k1.0 ∙ at_is (c + length zs) (suc (at + length xs) + length behind_body) [] (omega (arith, q1, q2)) none_z)
    where
      u : ℕ
      u = at + length xs + 1

      c : ℕ
      c = u + length ys

      e1 : ℕ
      e1 = c + length zs + 1

      rest : List Open
      rest = map (closed e1 c) ys ++ (zs ++ (Set (Jump at) ∷ []))

      behind_test : List Open
      behind_test = Set (branch t e1) ∷ rest

      behind_body : List Open
      behind_body = map (closed e1 c) ys ++ zs

      split : rest ≡ behind_body ++ (Set (Jump at) ∷ [])
      split = sym (append_assoc (map (closed e1 c) ys) zs (Set (Jump at) ∷ []))

      split_long : length rest ≡ length (behind_body ++ (Set (Jump at) ∷ []))
      split_long = ap length split

      q1 : length behind_body ≡ length (map (closed e1 c) ys) + length zs
      q1 = length-append (map (closed e1 c) ys) zs

      q2 : length (map (closed e1 c) ys) ≡ length ys
      q2 = length-map ys (closed e1 c)

      k_test : Marks W behind_test (at + length xs)
      k_test = marks_back xs behind_test at k

      k1 : Marks W (Set (Jump at) ∷ []) (suc (at + length xs) + length behind_body)
      k1 = marks_back behind_body (Set (Jump at) ∷ []) (suc (at + length xs)) (subst (λ z. Marks W z (suc (at + length xs))) split k_test.1)

      none_p : W (at + length xs) ≡ []
      none_p = ep e (marks_front xs behind_test at k)

      none_u : W u ≡ []
      none_u = at_is (suc (at + length xs)) u [] (omega arith) (branch_left t e1 (at + length xs) k_test.0 ∙ none_p)

      k_body : Marks W ys u
      k_body =
          marks_closed e1 c ys u (marks_at (map (closed e1 c) ys) (suc (at + length xs)) u (omega arith)
          (marks_front (map (closed e1 c) ys) (zs ++ (Set (Jump at) ∷ [])) (suc (at + length xs)) k_test.1))

      none_c : W c ≡ []
      none_c = eb none_u k_body

      k_next : Marks W (zs ++ (Set (Jump at) ∷ [])) c
      k_next =
          marks_at (zs ++ (Set (Jump at) ∷ [])) (suc (at + length xs) + length (map (closed e1 c) ys)) c (omega (arith, q2))
          (marks_back (map (closed e1 c) ys) (zs ++ (Set (Jump at) ∷ [])) (suc (at + length xs)) k_test.1)

      none_z : W (c + length zs) ≡ []
      none_z = en none_c (marks_front zs (Set (Jump at) ∷ []) c k_next)

  pub ends : (b : Block) (n m at : ℕ) → BlockOn L given size n m b → W at ≡ fours n → Marks W (open_code b at) at → W (at + length (open_code b at)) ≡ fours m
  ends Skip n m at h e k = at_is at (at + 0) (fours m) (omega arith) (e ∙ ap fours h)
  ends (One p) n m at h e k = at_is (suc at) (at + 1) (fours m) (omega arith) (plain_left n m p at h e k.0)
  ends (CallTo pushed c) n m at h e k = call_end pushed c at 0 (fours m) (let l = h.1 in omega (arith, l)) (e ∙ ap fours h.0) k
  ends TakeInterrupt n m at h e k = at_is (suc at) (at + 1) (fours m) (omega arith) (k.0 ∙ e ∙ ap fours h)
  ends (GiveBack r a) n m at h e k = at_is (suc at) (at + 1) (fours m) (omega arith) (k.0 ∙ e ∙ ap fours (h.0 ∙ sym h.1))
  ends BreakOut n m at h e k = at_is (suc at) (at + 1) (fours m) (omega arith) (k.0 ∙ e ∙ ap fours (h.0 ∙ sym h.1))
  ends GoOn n m at h e k = at_is (suc at) (at + 1) (fours m) (omega arith) (k.0 ∙ e ∙ ap fours (h.0 ∙ sym h.1))
  ends (Both a b) n m at h e k =
      let l = length-append (open_code a at) (open_code b (at + length (open_code a at))) in
      at_is (at + length (open_code a at) + length (open_code b (at + length (open_code a at))))
      (at + length (open_code a at ++ open_code b (at + length (open_code a at)))) (fours m) (omega (arith, l))
      (ends b h.0 m (at + length (open_code a at)) h.2 (ends a n h.0 at h.1 e (marks_front (open_code a at) _ at k)) (marks_back (open_code a at) _ at k))
  ends (Choice t a b) n m at h e k =
      choice_cases (λ z. Marks W z at → W (at + length z) ≡ fours m) t at (open_code a (at + 1)) (open_code b (at + 1 + length (open_code a (at + 1)) + 1))
      (λ e1 k1. at_is (at + 1 + length (open_code a (at + 1))) (at + suc (length (open_code a (at + 1)))) (fours m) (omega arith)
      (ends a n n (at + 1) h.2 (at_is (suc at) (at + 1) (fours n) (omega arith) (branch_left t _ at k1.0 ∙ e))
      (marks_at _ (suc at) (at + 1) (omega arith) k1.1) ∙ ap fours h.1))
      (rest_ends t n m at (open_code a (at + 1)) (open_code b (at + 1 + length (open_code a (at + 1)) + 1)) e (λ e1 k1. ends a n n (at + 1) h.2 e1 k1)
      (λ e1 k1. ends b n n (at + 1 + length (open_code a (at + 1)) + 1) h.3 e1 k1 ∙ ap fours h.1)) k
  ends (Repeat p t body next) n m at h e k =
      loop_ends t at (open_code p at) (open_code body (at + length (open_code p at) + 1))
      (open_code next (at + length (open_code p at) + 1 + length (open_code body (at + length (open_code p at) + 1)))) (e ∙ ap fours h.1.0)
      (λ e1 k1. ends p 0 0 at h.2 e1 k1) (λ e1 k1. ends body 0 0 (at + length (open_code p at) + 1) h.3 e1 k1)
      (λ e1 k1. ends next 0 0 (at + length (open_code p at) + 1 + length (open_code body (at + length (open_code p at) + 1))) h.4 e1 k1) k
      ∙ ap fours (sym h.1.1)

  -- ---- all instructions of a block

  have_at : (os : List Open) (a b : ℕ) → a ≡ b → AllHave W high os a → AllHave W high os b
  have_at os a b e h = subst (λ z. AllHave W high os z) e h

  pub have_both : (os qs : List Open) (at : ℕ) → AllHave W high os at → AllHave W high qs (at + length os) → AllHave W high (os ++ qs) at
  have_both [] qs at h g = have_at qs (at + 0) at (omega arith) g
  have_both (o ∷ os) qs at h g = (h.0, have_both os qs (suc at) h.1 (have_at qs (at + suc (length os)) (suc at + length os) (omega arith) g))

  have_closed : (u v : ℕ) (os : List Open) (at : ℕ) → at + length os ≤ u → at + length os ≤ v → u ≤ high → v ≤ high → W u ≡ [] → W v ≡ []
      → AllHave W high os at → AllHave W high (map (closed u v) os) at
  have_closed u v [] at hu hv lu lv eu ev h = tt
  have_closed u v (Set i ∷ os) at hu hv lu lv eu ev h = (h.0, have_closed u v os (suc at) (omega (arith, hu)) (omega (arith, hv)) lu lv eu ev h.1)
  have_closed u v (Break ∷ os) at hu hv lu lv eu ev h =
      let ne : u ≢ at = omega (arith, hu) in
      ((ne, lu, eu ∙ sym h.0), have_closed u v os (suc at) (omega (arith, hu)) (omega (arith, hv)) lu lv eu ev h.1)
  have_closed u v (Continue ∷ os) at hu hv lu lv eu ev h =
      let ne : v ≢ at = omega (arith, hv) in
      ((ne, lv, ev ∙ sym h.0), have_closed u v os (suc at) (omega (arith, hu)) (omega (arith, hv)) lu lv eu ev h.1)

  have_branch : (t : Truth) (at to : ℕ) → GoesTo W high at to → Has W high at (Set (branch t to))
  have_branch (Holds t) at to h = h
  have_branch (Fails t) at to h = h

  one_way : (t : Truth) (n at : ℕ) (as' : List Open) → W at ≡ fours n → (W (at + 1) ≡ fours n → Marks W as' (at + 1) → W (at + 1 + length as') ≡ fours n)
      → (W (at + 1) ≡ fours n → Marks W as' (at + 1) → at + 1 + length as' ≤ high → AllHave W high as' (at + 1))
      → Marks W (alone t at as') at → at + length (alone t at as') ≤ high → AllHave W high (alone t at as') at
  one_way t n at as' e ea wa k h = (
    have_branch t at end (let ne : end ≢ at = omega arith in (ne, omega (arith, h), ea e1 ka ∙ sym e)),
    have_at as' (at + 1) (suc at) (omega arith) (wa e1 ka (omega (arith, h))),
  )
    where
      end : ℕ
      end = at + 1 + length as'

      e1 : W (at + 1) ≡ fours n
      e1 = at_is (suc at) (at + 1) (fours n) (omega arith) (branch_left t end at k.0 ∙ e)

      ka : Marks W as' (at + 1)
      ka = marks_at as' (suc at) (at + 1) (omega arith) k.1

  both_ways : (t : Truth) (n at : ℕ) (as' bs : List Open) → W at ≡ fours n → (W (at + 1) ≡ fours n → Marks W as' (at + 1) → W (at + 1 + length as') ≡ fours n)
      → (W (at + 1) ≡ fours n → Marks W as' (at + 1) → at + 1 + length as' ≤ high → AllHave W high as' (at + 1))
      → (W (at + 1 + length as' + 1) ≡ fours n → Marks W bs (at + 1 + length as' + 1) → W (at + 1 + length as' + 1 + length bs) ≡ fours n)
      → (W (at + 1 + length as' + 1) ≡ fours n → Marks W bs (at + 1 + length as' + 1) → at + 1 + length as' + 1 + length bs ≤ high
      → AllHave W high bs (at + 1 + length as' + 1))
      → Marks W (with_jump t at as' bs) at → at + length (with_jump t at as' bs) ≤ high → AllHave W high (with_jump t at as' bs) at
  both_ways t n at as' bs e ea wa eb wb k h = (
    have_branch t at v (let ne : v ≢ at = omega arith in (ne, omega (arith, h, l), ev ∙ sym e)),
    have_both as' (Set (Jump end) ∷ bs) (suc at) (have_at as' (at + 1) (suc at) (omega arith) (wa e1 ka (omega (arith, h, l)))) (
      (let ne : end ≢ suc at + length as' = omega arith in (ne, omega (arith, h, l), eb ev kb ∙ sym ends_a)),
      have_at bs v (suc (suc at + length as')) (omega arith) (wb ev kb (omega (arith, h, l))),
    ),
  )
    where
      v : ℕ
      v = at + 1 + length as' + 1

      end : ℕ
      end = at + 1 + length as' + 1 + length bs

      l : length (as' ++ (Set (Jump end) ∷ bs)) ≡ length as' + suc (length bs)
      l = length-append as' (Set (Jump end) ∷ bs)

      e1 : W (at + 1) ≡ fours n
      e1 = at_is (suc at) (at + 1) (fours n) (omega arith) (branch_left t v at k.0 ∙ e)

      ka : Marks W as' (at + 1)
      ka = marks_at as' (suc at) (at + 1) (omega arith) (marks_front as' (Set (Jump end) ∷ bs) (suc at) k.1)

      j : Marks W (Set (Jump end) ∷ bs) (suc at + length as')
      j = marks_back as' (Set (Jump end) ∷ bs) (suc at) k.1

      ends_a : W (suc at + length as') ≡ fours n
      ends_a = at_is (at + 1 + length as') (suc at + length as') (fours n) (omega arith) (ea e1 ka)

      ev : W v ≡ fours n
      ev = at_is (suc (suc at + length as')) v (fours n) (omega arith) (j.0 ∙ ends_a)

      kb : Marks W bs v
      kb = marks_at bs (suc (suc at + length as')) v (omega arith) j.1

  pub have : (b : Block) (n m at : ℕ) → BlockOn L given size n m b → W at ≡ fours n → Marks W (open_code b at) at → at + length (open_code b at) ≤ high
      → AllHave W high (open_code b at) at
  have Skip n m at i e k h = tt
  have (One p) n m at i e k h = (plain_has n m p at i e, tt)
  have (CallTo pushed c) n m at i e k h = call_has pushed c at 0 (let l = i.1 in omega (arith, l)) (omega arith) k
  have TakeInterrupt n m at i e k h = (tt, tt)
  have (GiveBack r a) n m at i e k h = (e ∙ ap fours i.0, tt)
  have BreakOut n m at i e k h = (e ∙ ap fours i.0, tt)
  have GoOn n m at i e k h = (e ∙ ap fours i.0, tt)
  have (Both a b) n m at i e k h =
      let l = length-append (open_code a at) (open_code b (at + length (open_code a at))) in
      let ka = marks_front (open_code a at) _ at k in
      have_both (open_code a at) (open_code b (at + length (open_code a at))) at (have a n i.0 at i.1 e ka (omega (arith, h, l)))
      (have b i.0 m (at + length (open_code a at)) i.2 (ends a n i.0 at i.1 e ka) (marks_back (open_code a at) _ at k) (omega (arith, h, l)))
  have (Choice t a b) n m at i e k h =
      choice_cases (λ z. Marks W z at → at + length z ≤ high → AllHave W high z at) t at (open_code a (at + 1))
      (open_code b (at + 1 + length (open_code a (at + 1)) + 1))
      (λ e1. one_way t n at (open_code a (at + 1)) e (λ e2 k2. ends a n n (at + 1) i.2 e2 k2) (λ e2 k2 h2. have a n n (at + 1) i.2 e2 k2 h2))
      (both_ways t n at (open_code a (at + 1)) (open_code b (at + 1 + length (open_code a (at + 1)) + 1)) e (λ e2 k2. ends a n n (at + 1) i.2 e2 k2)
      (λ e2 k2 h2. have a n n (at + 1) i.2 e2 k2 h2) (λ e2 k2. ends b n n (at + 1 + length (open_code a (at + 1)) + 1) i.3 e2 k2)
      (λ e2 k2 h2. have b n n (at + 1 + length (open_code a (at + 1)) + 1) i.3 e2 k2 h2)) k h
  have (Repeat p t body next) n m at i e k h =
      have_both xs behind_test at (have p 0 0 at i.2 e0 (marks_front xs behind_test at k) (omega (arith, h, n1, n2, n3, n4))) (
        have_branch t (at + length xs) e1 (let ne : e1 ≢ at + length xs = omega arith in (ne, omega (arith, h, n1, n2, n3, n4), none_e ∙ sym none_p)),
        have_both (map (closed e1 c) ys) (zs ++ (Set (Jump at) ∷ [])) (suc (at + length xs))
            (have_at (map (closed e1 c) ys) u (suc (at + length xs)) (omega arith)
            (have_closed e1 c ys u (omega arith) (omega arith) (omega (arith, h, n1, n2, n3, n4)) (omega (arith, h, n1, n2, n3, n4)) none_e none_c
            (have body 0 0 u i.3 none_u k_body (omega (arith, h, n1, n2, n3, n4)))))
            (have_at (zs ++ (Set (Jump at) ∷ [])) c (suc (at + length xs) + length (map (closed e1 c) ys)) (omega (arith, n4))
            (have_both zs (Set (Jump at) ∷ []) c (have next 0 0 c i.4 none_c (marks_front zs (Set (Jump at) ∷ []) c k_next) (omega (arith, h, n1, n2, n3, n4)))
            ((let ne : at ≢ c + length zs = omega arith in (ne, omega (arith, h, n1, n2, n3, n4), e0 ∙ sym none_z)), tt))),
      )
    where
      xs : List Open
      xs = open_code p at

      u : ℕ
      u = at + length xs + 1

      ys : List Open
      ys = open_code body u

      c : ℕ
      c = u + length ys

      zs : List Open
      zs = open_code next c

      e1 : ℕ
      e1 = c + length zs + 1

      e0 : W at ≡ []
      e0 = e ∙ ap fours i.1.0

      behind_test : List Open
      behind_test = Set (branch t e1) ∷ (map (closed e1 c) ys ++ (zs ++ (Set (Jump at) ∷ [])))

      n1 : length (xs ++ behind_test) ≡ length xs + length behind_test
      n1 = length-append xs behind_test

      n2 : length (map (closed e1 c) ys ++ (zs ++ (Set (Jump at) ∷ []))) ≡ length (map (closed e1 c) ys) + length (zs ++ (Set (Jump at) ∷ []))
      n2 = length-append (map (closed e1 c) ys) (zs ++ (Set (Jump at) ∷ []))

      n3 : length (zs ++ (Set (Jump at) ∷ [])) ≡ length zs + 1
      n3 = length-append zs (Set (Jump at) ∷ [])

      n4 : length (map (closed e1 c) ys) ≡ length ys
      n4 = length-map ys (closed e1 c)

      k_test : Marks W behind_test (at + length xs)
      k_test = marks_back xs behind_test at k

      none_p : W (at + length xs) ≡ []
      none_p = ends p 0 0 at i.2 e0 (marks_front xs behind_test at k)

      none_u : W u ≡ []
      none_u = at_is (suc (at + length xs)) u [] (omega arith) (branch_left t e1 (at + length xs) k_test.0 ∙ none_p)

      k_body : Marks W ys u
      k_body =
          marks_closed e1 c ys u (marks_at (map (closed e1 c) ys) (suc (at + length xs)) u (omega arith)
          (marks_front (map (closed e1 c) ys) (zs ++ (Set (Jump at) ∷ [])) (suc (at + length xs)) k_test.1))

      none_c : W c ≡ []
      none_c = ends body 0 0 u i.3 none_u k_body

      k_next : Marks W (zs ++ (Set (Jump at) ∷ [])) c
      k_next =
          marks_at (zs ++ (Set (Jump at) ∷ [])) (suc (at + length xs) + length (map (closed e1 c) ys)) c (omega (arith, n4))
          (marks_back (map (closed e1 c) ys) (zs ++ (Set (Jump at) ∷ [])) (suc (at + length xs)) k_test.1)

      none_z : W (c + length zs) ≡ []
      none_z = ends next 0 0 c i.4 none_c (marks_front zs (Set (Jump at) ∷ []) c k_next)

      none_e : W e1 ≡ []
      none_e = at_is (suc (c + length zs)) e1 [] (omega arith) ((marks_back zs (Set (Jump at) ∷ []) c k_next).0 ∙ none_z)
