-- That the jumps of a block lead to no place behind it, none to itself, and none to a place where values wait; and that what waits for a
-- call is what the call takes. W says what waits at each place.
use Rattle.std.specs.Prelude.{ℕ, suc, ◌+◌, ◌≤◌, List, [], ◌∷◌, ◌++◌, length, map}
use Rattle.std.proofs.Common.{◌≡◌, ◌≢◌, refl, sym, ap, ◌∙◌, subst, arith}
use Rattle.std.proofs.lemmas.List.{length-append, length-map, append_assoc}
use Rattle.vg_lin.specs.declared.instr.Plain.{Plain as PlainInstr}
use Rattle.vg_lin.specs.declared.instr.Plain.TheVariants.{Copy, Compute, Product, DivideSteps, Load, Store, ReadDevice, WriteDevice, Push, Pop, Find, CodeOf, Stop}
use Rattle.vg_lin.specs.declared.instr.Passed.{Passed}
use Rattle.vg_lin.specs.declared.instr.Call.{Call as Calling}
use Rattle.vg_lin.specs.declared.instr.Instr.TheVariants.{Plain, When, Unless, Jump, Call}
use Rattle.vg_flatten_shapes.specs.declared.open.Truth.{Truth}
use Rattle.vg_flatten_shapes.specs.declared.open.Truth.TheVariants.{Holds, Fails}
use Rattle.vg_flatten_shapes.specs.declared.open.Open.{Open}
use Rattle.vg_flatten_shapes.specs.declared.open.Open.TheVariants.{Set, Break, Continue}
use Rattle.vg_flatten_shapes.proofs.Choices.{alone, with_jump, choice_cases}
use Rattle.vg_flatten_shapes.specs.Blocks.{Block, Skip, One, CallTo, TakeInterrupt, GiveBack, BreakOut, GoOn, Both, Choice, Repeat, branch, closed, call_code, open_code}
use Rattle.vg_flatten.proofs.Sound.{IsPlainIn, BlockIn}

-- ---- what waits

-- Behind an instruction of a flattened procedure: a push adds to what waits, and behind all others nothing waits.
abbrev pub behind_plain : PlainInstr → List ℕ → List ℕ
behind_plain (Push w a) xs = w ∷ xs
behind_plain p xs = []

abbrev pub behind : Open → List ℕ → List ℕ
behind (Set (Plain p)) xs = behind_plain p xs
behind o xs = []

-- W is right behind each of these instructions.
abbrev pub Marks : (ℕ → List ℕ) → List Open → (at : ℕ) → Type 0
Marks w [] at = Unit {0}
Marks w (o ∷ os) at = (w (suc at) ≡ behind o (w at)) × Marks w os (suc at)

-- ---- what each instruction keeps

-- A jump at a place leads to another one, and to none above the highest, where nothing waits.
abbrev pub GoesWithin : (ℕ → List ℕ) → (high at to : ℕ) → Type 0
GoesWithin w high at to = (to ≢ at) × (to ≤ high) × (w to ≡ [])

abbrev pub PlainWithin : (ℕ → List ℕ) → (at : ℕ) → PlainInstr → Type 0
PlainWithin w at (Push width a) = Unit {0}
PlainWithin w at p = w at ≡ []

abbrev pub JumpsWithin : (ℕ → List ℕ) → (high at : ℕ) → Open → Type 0
JumpsWithin w high at (Set (When t to)) = GoesWithin w high at to × (w at ≡ [])
JumpsWithin w high at (Set (Unless t to)) = GoesWithin w high at to × (w at ≡ [])
JumpsWithin w high at (Set (Jump to)) = GoesWithin w high at to × (w at ≡ [])
JumpsWithin w high at (Set (Plain p)) = PlainWithin w at p
JumpsWithin w high at (Set (Call c)) = length (w at) ≡ c.pushed
JumpsWithin w high at _ = w at ≡ []

abbrev pub AllWithin : (ℕ → List ℕ) → (high : ℕ) → List Open → (at : ℕ) → Type 0
AllWithin w high [] at = Unit {0}
AllWithin w high (o ∷ os) at = JumpsWithin w high at o × AllWithin w high os (suc at)

module _ (L : Type 0) (given size : ℕ) (W : ℕ → List ℕ) (high : ℕ) where
  -- ---- marks

  marks_at : (os : List Open) (a b : ℕ) → a ≡ b → Marks W os a → Marks W os b
  marks_at os a b e h = subst (λ z. Marks W os z) e h

  pub marks_front : (os qs : List Open) (at : ℕ) → Marks W (os ++ qs) at → Marks W os at
  marks_front [] qs at h = tt
  marks_front (o ∷ os) qs at h = (h.0, marks_front os qs (suc at) h.1)

  marks_back : (os qs : List Open) (at : ℕ) → Marks W (os ++ qs) at → Marks W qs (at + length os)
  marks_back [] qs at h = marks_at qs at (at + 0) (omega arith) h
  marks_back (o ∷ os) qs at h = marks_at qs (suc at + length os) (at + suc (length os)) (omega arith) (marks_back os qs (suc at) h.1)

  marks_closed : (u v : ℕ) (os : List Open) (at : ℕ) → Marks W (map (closed u v) os) at → Marks W os at
  marks_closed u v [] at h = tt
  marks_closed u v (Set i ∷ os) at h = (h.0, marks_closed u v os (suc at) h.1)
  marks_closed u v (Break ∷ os) at h = (h.0, marks_closed u v os (suc at) h.1)
  marks_closed u v (Continue ∷ os) at h = (h.0, marks_closed u v os (suc at) h.1)

  none_at : (a b : ℕ) → a ≡ b → W a ≡ [] → W b ≡ []
  none_at a b e h = subst (λ z. W z ≡ []) e h

  branch_none : (t : Truth) (to at : ℕ) → W (suc at) ≡ behind (Set (branch t to)) (W at) → W (suc at) ≡ []
  branch_none (Holds t) to at h = h
  branch_none (Fails t) to at h = h

  -- ---- one instruction

  plain_behind : (p : PlainInstr) (xs : List ℕ) → IsPlainIn size p → behind_plain p xs ≡ []
  plain_behind (Copy to a) xs h = refl
  plain_behind (Compute c) xs h = refl
  plain_behind (Product to a b) xs h = refl
  plain_behind (DivideSteps a b c) xs h = refl
  plain_behind (Load m w to a) xs h = refl
  plain_behind (Store w a from) xs h = refl
  plain_behind (ReadDevice to a) xs h = refl
  plain_behind (WriteDevice a b) xs h = refl
  plain_behind (Push w a) xs h = absurd h
  plain_behind (Pop w to) xs h = absurd h
  plain_behind (Find d to a) xs h = refl
  plain_behind (CodeOf q to) xs h = refl
  plain_behind (Stop c) xs h = refl

  plain_within : (p : PlainInstr) (at : ℕ) → IsPlainIn size p → W at ≡ [] → PlainWithin W at p
  plain_within (Copy to a) at h e = e
  plain_within (Compute c) at h e = e
  plain_within (Product to a b) at h e = e
  plain_within (DivideSteps a b c) at h e = e
  plain_within (Load m w to a) at h e = e
  plain_within (Store w a from) at h e = e
  plain_within (ReadDevice to a) at h e = e
  plain_within (WriteDevice a b) at h e = e
  plain_within (Push w a) at h e = tt
  plain_within (Pop w to) at h e = absurd h
  plain_within (Find d to a) at h e = e
  plain_within (CodeOf q to) at h e = e
  plain_within (Stop c) at h e = e

  -- the pushes of a call
  call_end : (pushed : List Passed) (c : Calling) (at : ℕ) → Marks W (call_code pushed c) at → W (at + length (call_code pushed c)) ≡ []
  call_end [] c at h = none_at (suc at) (at + 1) (omega arith) h.0
  call_end (a ∷ more) c at h =
      none_at (suc at + length (call_code more c)) (at + suc (length (call_code more c))) (omega arith) (call_end more c (suc at) h.1)

  call_within : (pushed : List Passed) (c : Calling) (at n : ℕ) → length (W at) ≡ n → n + length pushed ≡ c.pushed → Marks W (call_code pushed c) at
      → AllWithin W high (call_code pushed c) at
  call_within [] c at n l e h = (l ∙ omega (arith, e), tt)
  call_within (a ∷ more) c at n l e h =
      (tt, call_within more c (suc at) (suc n) (ap length h.0 ∙ ap suc l) (omega (arith, e)) h.1)

  -- ---- nothing waits behind a block

  rest_ends : (t : Truth) (at : ℕ) (as' bs : List Open)
      → (W (at + 1 + length as' + 1) ≡ [] → Marks W bs (at + 1 + length as' + 1) → W (at + 1 + length as' + 1 + length bs) ≡ [])
      → Marks W (with_jump t at as' bs) at → W (at + length (with_jump t at as' bs)) ≡ []
  rest_ends t at as' bs eb k =
      let n = length-append as' (Set (Jump end) ∷ bs) in
      none_at (v + length bs) (at + length (with_jump t at as' bs)) (omega (arith, n))
      (eb (none_at (suc (suc at + length as')) v (omega arith) j.0) (marks_at bs (suc (suc at + length as')) v (omega arith) j.1))
    where
      v : ℕ
      v = at + 1 + length as' + 1

      end : ℕ
      end = at + 1 + length as' + 1 + length bs

      j : Marks W (Set (Jump end) ∷ bs) (suc at + length as')
      j = marks_back as' (Set (Jump end) ∷ bs) (suc at) k.1

  pub ends : (b : Block) (at : ℕ) → BlockIn L given size b → W at ≡ [] → Marks W (open_code b at) at → W (at + length (open_code b at)) ≡ []
  ends Skip at h e k = none_at at (at + 0) (omega arith) e
  ends (One p) at h e k = none_at (suc at) (at + 1) (omega arith) (k.0 ∙ plain_behind p (W at) h)
  ends (CallTo pushed c) at h e k = call_end pushed c at k
  ends TakeInterrupt at h e k = none_at (suc at) (at + 1) (omega arith) k.0
  ends (GiveBack r a) at h e k = none_at (suc at) (at + 1) (omega arith) k.0
  ends BreakOut at h e k = none_at (suc at) (at + 1) (omega arith) k.0
  ends GoOn at h e k = none_at (suc at) (at + 1) (omega arith) k.0
  ends (Both a b) at h e k =
      let n = length-append (open_code a at) (open_code b (at + length (open_code a at))) in
      none_at (at + length (open_code a at) + length (open_code b (at + length (open_code a at))))
      (at + length (open_code a at ++ open_code b (at + length (open_code a at)))) (omega (arith, n))
      (ends b (at + length (open_code a at)) h.1 (ends a at h.0 e (marks_front (open_code a at) _ at k)) (marks_back (open_code a at) _ at k))
  ends (Choice t a b) at h e k =
      choice_cases (λ z. Marks W z at → W (at + length z) ≡ []) t at (open_code a (at + 1)) (open_code b (at + 1 + length (open_code a (at + 1)) + 1))
      (λ e1 k1. none_at (at + 1 + length (open_code a (at + 1))) (at + suc (length (open_code a (at + 1)))) (omega arith)
      (ends a (at + 1) h.1 (none_at (suc at) (at + 1) (omega arith) (branch_none t _ at k1.0)) (marks_at _ (suc at) (at + 1) (omega arith) k1.1)))
      (rest_ends t at (open_code a (at + 1)) (open_code b (at + 1 + length (open_code a (at + 1)) + 1))
      (λ e1 k1. ends b (at + 1 + length (open_code a (at + 1)) + 1) h.2 e1 k1)) k
  ends (Repeat p t body next) at h e k =
      let n = length-append (open_code p at) behind_test in
      let m = length-append behind_body (Set (Jump at) ∷ []) in
      let k1 = marks_back behind_body (Set (Jump at) ∷ []) (suc (at + length (open_code p at)))
      (subst (λ z. Marks W z (suc (at + length (open_code p at)))) split (marks_back (open_code p at) behind_test at k).1) in
      none_at (suc (suc (at + length (open_code p at)) + length behind_body)) (at + length (open_code p at ++ behind_test)) (omega (arith, n, m, split_long)) k1.0
    where
      u : ℕ
      u = at + length (open_code p at) + 1

      ys : List Open
      ys = open_code body u

      c : ℕ
      c = u + length ys

      zs : List Open
      zs = open_code next c

      e1 : ℕ
      e1 = c + length zs + 1

      rest : List Open
      rest = map (closed e1 c) ys ++ (zs ++ (Set (Jump at) ∷ []))

      behind_test : List Open
      behind_test = Set (branch t e1) ∷ rest

      behind_body : List Open
      behind_body = map (closed e1 c) ys ++ zs

      split : rest ≡ behind_body ++ (Set (Jump at) ∷ [])
      split = sym (append_assoc (map (closed e1 c) ys) zs (Set (Jump at) ∷ []))

      split_long : length rest ≡ length (behind_body ++ (Set (Jump at) ∷ []))
      split_long = ap length split

  -- ---- all instructions of a block

  within_at : (os : List Open) (a b : ℕ) → a ≡ b → AllWithin W high os a → AllWithin W high os b
  within_at os a b e h = subst (λ z. AllWithin W high os z) e h

  pub within_both : (os qs : List Open) (at : ℕ) → AllWithin W high os at → AllWithin W high qs (at + length os) → AllWithin W high (os ++ qs) at
  within_both [] qs at h g = within_at qs (at + 0) at (omega arith) g
  within_both (o ∷ os) qs at h g = (h.0, within_both os qs (suc at) h.1 (within_at qs (at + suc (length os)) (suc at + length os) (omega arith) g))

  within_closed : (u v : ℕ) (os : List Open) (at : ℕ) → at + length os ≤ u → at + length os ≤ v → u ≤ high → v ≤ high → W u ≡ [] → W v ≡ []
      → AllWithin W high os at → AllWithin W high (map (closed u v) os) at
  within_closed u v [] at hu hv lu lv eu ev h = tt
  within_closed u v (Set i ∷ os) at hu hv lu lv eu ev h = (h.0, within_closed u v os (suc at) (omega (arith, hu)) (omega (arith, hv)) lu lv eu ev h.1)
  within_closed u v (Break ∷ os) at hu hv lu lv eu ev h =
      let ne : u ≢ at = omega (arith, hu) in
      (((ne, lu, eu), h.0), within_closed u v os (suc at) (omega (arith, hu)) (omega (arith, hv)) lu lv eu ev h.1)
  within_closed u v (Continue ∷ os) at hu hv lu lv eu ev h =
      let ne : v ≢ at = omega (arith, hv) in
      (((ne, lv, ev), h.0), within_closed u v os (suc at) (omega (arith, hu)) (omega (arith, hv)) lu lv eu ev h.1)

  within_branch : (t : Truth) (at to : ℕ) → GoesWithin W high at to → W at ≡ [] → JumpsWithin W high at (Set (branch t to))
  within_branch (Holds t) at to h e = (h, e)
  within_branch (Fails t) at to h e = (h, e)

  one_way : (t : Truth) (at : ℕ) (as' : List Open) → W at ≡ [] → (W (at + 1) ≡ [] → Marks W as' (at + 1) → W (at + 1 + length as') ≡ [])
      → (W (at + 1) ≡ [] → Marks W as' (at + 1) → at + 1 + length as' ≤ high → AllWithin W high as' (at + 1))
      → Marks W (alone t at as') at → at + length (alone t at as') ≤ high → AllWithin W high (alone t at as') at
  one_way t at as' e ea wa k h = (
    within_branch t at end (let ne : end ≢ at = omega arith in (ne, omega (arith, h), ea e1 ka)) e,
    within_at as' (at + 1) (suc at) (omega arith) (wa e1 ka (omega (arith, h))),
  )
    where
      end : ℕ
      end = at + 1 + length as'

      e1 : W (at + 1) ≡ []
      e1 = none_at (suc at) (at + 1) (omega arith) (branch_none t end at k.0)

      ka : Marks W as' (at + 1)
      ka = marks_at as' (suc at) (at + 1) (omega arith) k.1

  both_ways : (t : Truth) (at : ℕ) (as' bs : List Open) → W at ≡ [] → (W (at + 1) ≡ [] → Marks W as' (at + 1) → W (at + 1 + length as') ≡ [])
      → (W (at + 1) ≡ [] → Marks W as' (at + 1) → at + 1 + length as' ≤ high → AllWithin W high as' (at + 1))
      → (W (at + 1 + length as' + 1) ≡ [] → Marks W bs (at + 1 + length as' + 1) → W (at + 1 + length as' + 1 + length bs) ≡ [])
      → (W (at + 1 + length as' + 1) ≡ [] → Marks W bs (at + 1 + length as' + 1) → at + 1 + length as' + 1 + length bs ≤ high
      → AllWithin W high bs (at + 1 + length as' + 1))
      → Marks W (with_jump t at as' bs) at → at + length (with_jump t at as' bs) ≤ high → AllWithin W high (with_jump t at as' bs) at
  both_ways t at as' bs e ea wa eb wb k h = (
    within_branch t at v (let ne : v ≢ at = omega arith in (ne, omega (arith, h, n), ev)) e,
    within_both as' (Set (Jump end) ∷ bs) (suc at) (within_at as' (at + 1) (suc at) (omega arith) (wa e1 ka (omega (arith, h, n)))) (
      (let ne : end ≢ suc at + length as' = omega arith in (ne, omega (arith, h, n), eb ev kb), ends_a),
      within_at bs v (suc (suc at + length as')) (omega arith) (wb ev kb (omega (arith, h, n))),
    ),
  )
    where
      v : ℕ
      v = at + 1 + length as' + 1

      end : ℕ
      end = at + 1 + length as' + 1 + length bs

      n : length (as' ++ (Set (Jump end) ∷ bs)) ≡ length as' + suc (length bs)
      n = length-append as' (Set (Jump end) ∷ bs)

      e1 : W (at + 1) ≡ []
      e1 = none_at (suc at) (at + 1) (omega arith) (branch_none t v at k.0)

      ka : Marks W as' (at + 1)
      ka = marks_at as' (suc at) (at + 1) (omega arith) (marks_front as' (Set (Jump end) ∷ bs) (suc at) k.1)

      j : Marks W (Set (Jump end) ∷ bs) (suc at + length as')
      j = marks_back as' (Set (Jump end) ∷ bs) (suc at) k.1

      ev : W v ≡ []
      ev = none_at (suc (suc at + length as')) v (omega arith) j.0

      kb : Marks W bs v
      kb = marks_at bs (suc (suc at + length as')) v (omega arith) j.1

      ends_a : W (suc at + length as') ≡ []
      ends_a = none_at (at + 1 + length as') (suc at + length as') (omega arith) (ea e1 ka)

  pub within : (b : Block) (at : ℕ) → BlockIn L given size b → W at ≡ [] → Marks W (open_code b at) at → at + length (open_code b at) ≤ high
      → AllWithin W high (open_code b at) at
  within Skip at i e k h = tt
  within (One p) at i e k h = (plain_within p at i e, tt)
  within (CallTo pushed c) at i e k h = call_within pushed c at 0 (ap length e) (let n = i.0 in omega (arith, n)) k
  within TakeInterrupt at i e k h = (e, tt)
  within (GiveBack r a) at i e k h = (e, tt)
  within BreakOut at i e k h = (e, tt)
  within GoOn at i e k h = (e, tt)
  within (Both a b) at i e k h =
      let n = length-append (open_code a at) (open_code b (at + length (open_code a at))) in
      let ka = marks_front (open_code a at) _ at k in
      within_both (open_code a at) (open_code b (at + length (open_code a at))) at (within a at i.0 e ka (omega (arith, h, n)))
      (within b (at + length (open_code a at)) i.1 (ends a at i.0 e ka) (marks_back (open_code a at) _ at k) (omega (arith, h, n)))
  within (Choice t a b) at i e k h =
      choice_cases (λ z. Marks W z at → at + length z ≤ high → AllWithin W high z at) t at (open_code a (at + 1))
      (open_code b (at + 1 + length (open_code a (at + 1)) + 1))
      (λ e1. one_way t at (open_code a (at + 1)) e (λ e2 k2. ends a (at + 1) i.1 e2 k2) (λ e2 k2 h2. within a (at + 1) i.1 e2 k2 h2))
      (both_ways t at (open_code a (at + 1)) (open_code b (at + 1 + length (open_code a (at + 1)) + 1)) e (λ e2 k2. ends a (at + 1) i.1 e2 k2)
      (λ e2 k2 h2. within a (at + 1) i.1 e2 k2 h2) (λ e2 k2. ends b (at + 1 + length (open_code a (at + 1)) + 1) i.2 e2 k2)
      (λ e2 k2 h2. within b (at + 1 + length (open_code a (at + 1)) + 1) i.2 e2 k2 h2)) k h
  within (Repeat p t body next) at i e k h =
      within_both xs behind_test at (within p at i.1 e (marks_front xs behind_test at k) (omega (arith, h, n1, n2, n3, n4))) (
        within_branch t (at + length xs) e1 (let ne : e1 ≢ at + length xs = omega arith in (ne, omega (arith, h, n1, n2, n3, n4), none_e))
            (ends p at i.1 e (marks_front xs behind_test at k)),
        within_both (map (closed e1 n) ys) (zs ++ (Set (Jump at) ∷ [])) (suc (at + length xs))
            (within_at (map (closed e1 n) ys) u (suc (at + length xs)) (omega arith)
            (within_closed e1 n ys u (omega arith) (omega arith) (omega (arith, h, n1, n2, n3, n4)) (omega (arith, h, n1, n2, n3, n4)) none_e none_n
            (within body u i.2 none_u k_body (omega (arith, h, n1, n2, n3, n4)))))
            (within_at (zs ++ (Set (Jump at) ∷ [])) n (suc (at + length xs) + length (map (closed e1 n) ys)) (omega (arith, n4))
            (within_both zs (Set (Jump at) ∷ []) n (within next n i.3 none_n (marks_front zs (Set (Jump at) ∷ []) n k_next) (omega (arith, h, n1, n2, n3, n4)))
            ((let ne : at ≢ n + length zs = omega arith in (ne, omega (arith, h, n1, n2, n3, n4), e), none_z), tt))),
      )
    where
      xs : List Open
      xs = open_code p at

      u : ℕ
      u = at + length xs + 1

      ys : List Open
      ys = open_code body u

      n : ℕ
      n = u + length ys

      zs : List Open
      zs = open_code next n

      e1 : ℕ
      e1 = n + length zs + 1

      behind_test : List Open
      behind_test = Set (branch t e1) ∷ (map (closed e1 n) ys ++ (zs ++ (Set (Jump at) ∷ [])))

      n1 : length (xs ++ behind_test) ≡ length xs + length behind_test
      n1 = length-append xs behind_test

      n2 : length (map (closed e1 n) ys ++ (zs ++ (Set (Jump at) ∷ []))) ≡ length (map (closed e1 n) ys) + length (zs ++ (Set (Jump at) ∷ []))
      n2 = length-append (map (closed e1 n) ys) (zs ++ (Set (Jump at) ∷ []))

      n3 : length (zs ++ (Set (Jump at) ∷ [])) ≡ length zs + 1
      n3 = length-append zs (Set (Jump at) ∷ [])

      n4 : length (map (closed e1 n) ys) ≡ length ys
      n4 = length-map ys (closed e1 n)

      k_test : Marks W behind_test (at + length xs)
      k_test = marks_back xs behind_test at k

      none_u : W u ≡ []
      none_u = none_at (suc (at + length xs)) u (omega arith) (branch_none t e1 (at + length xs) k_test.0)

      k_body : Marks W ys u
      k_body =
          marks_closed e1 n ys u (marks_at (map (closed e1 n) ys) (suc (at + length xs)) u (omega arith)
          (marks_front (map (closed e1 n) ys) (zs ++ (Set (Jump at) ∷ [])) (suc (at + length xs)) k_test.1))

      none_n : W n ≡ []
      none_n = ends body u i.2 none_u k_body

      k_next : Marks W (zs ++ (Set (Jump at) ∷ [])) n
      k_next =
          marks_at (zs ++ (Set (Jump at) ∷ [])) (suc (at + length xs) + length (map (closed e1 n) ys)) n (omega (arith, n4))
          (marks_back (map (closed e1 n) ys) (zs ++ (Set (Jump at) ∷ [])) (suc (at + length xs)) k_test.1)

      none_z : W (n + length zs) ≡ []
      none_z = ends next n i.3 none_n (marks_front zs (Set (Jump at) ∷ []) n k_next)

      none_e : W e1 ≡ []
      none_e = none_at (suc (n + length zs)) e1 (omega arith) (marks_back zs (Set (Jump at) ∷ []) n k_next).0
