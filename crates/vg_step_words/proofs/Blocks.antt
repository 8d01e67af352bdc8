-- The instructions of a block take at most as many words as the block.
use Rattle.std.specs.Prelude.{ℕ, ◌+◌, ◌≤◌, List, [], ◌∷◌, ◌++◌, length, map}
use Rattle.std.proofs.Common.{◌≡◌, ◌⊎◌, inl, inr, refl, sym, ap, subst, arith}
use Rattle.vg_lin.specs.declared.instr.Passed.{Passed}
use Rattle.vg_lin.specs.declared.instr.Call.{Call as Calling}
use Rattle.vg_lin.specs.declared.instr.Instr.TheVariants.{Jump}
use Rattle.vg_flatten_shapes.specs.declared.open.Truth.{Truth}
use Rattle.vg_flatten_shapes.specs.declared.open.Truth.TheVariants.{Holds, Fails}
use Rattle.vg_flatten_shapes.specs.declared.open.Open.{Open}
use Rattle.vg_flatten_shapes.specs.declared.open.Open.TheVariants.{Set, Break, Continue}
use Rattle.vg_flatten_shapes.specs.Blocks.{Block, Skip, One, CallTo, TakeInterrupt, GiveBack, BreakOut, GoOn, Both, Choice, Repeat}
use Rattle.vg_flatten_shapes.specs.Blocks.{branch, closed, choice_code, call_code, open_code}
use Rattle.vg_flatten_shapes.proofs.Choices.{choice_cases}
use Rattle.vg_step_words.specs.Words.{grown_words, open_word, open_words, branch_words, way_words, block_words}

-- where a second way has words, it counts with a jump
is_way : (b : Block) → (b ≡ Skip) ⊎ ((n : ℕ) → way_words b n ≡ 2 + n)
is_way Skip = inl refl
is_way b = inr (λ n. refl)

module _ (cases : ℕ → ℕ) where
  pub open_append : (xs ys : List Open) → open_words cases (xs ++ ys) ≡ open_words cases xs + open_words cases ys
  open_append [] ys = omega arith
  open_append (x ∷ xs) ys = let rest = open_append xs ys in omega (arith, rest)

  closed_word : (behind again : ℕ) (o : Open) → open_word cases (closed behind again o) ≡ open_word cases o
  closed_word behind again (Set i) = refl
  closed_word behind again Break = refl
  closed_word behind again Continue = refl

  closed_words : (behind again : ℕ) (os : List Open) → open_words cases (map (closed behind again) os) ≡ open_words cases os
  closed_words behind again [] = refl
  closed_words behind again (o ∷ os) =
      let one = closed_word behind again o in
      let rest = closed_words behind again os in omega (arith, one, rest)

  call_covered : (pushed : List Passed) (c : Calling) → open_words cases (call_code pushed c) ≤ block_words cases (CallTo pushed c)
  call_covered [] c = omega arith
  call_covered (a ∷ more) c = let rest = call_covered more c in omega (arith, rest)

  branch_covered : (t : Truth) (to : ℕ) → grown_words cases (branch t to) ≡ branch_words t
  branch_covered (Holds t) to = omega arith
  branch_covered (Fails t) to = omega arith

  -- the code of a choice, from that of its ways
  choice_covered : (t : Truth) (at : ℕ) (a b : Block) (x y : List Open) → (b ≡ Skip → y ≡ []) → open_words cases x ≤ block_words cases a
      → open_words cases y ≤ block_words cases b → open_words cases (choice_code t at x y) ≤ block_words cases (Choice t a b)
  choice_covered t at a b x y none hx hy = by_way (is_way b)
    where
      Covered : List Open → Type 0
      Covered z = open_words cases z ≤ block_words cases (Choice t a b)

      by_way : (b ≡ Skip) ⊎ ((n : ℕ) → way_words b n ≡ 2 + n) → Covered (choice_code t at x y)
      by_way (inl e) =
          subst (λ z. Covered (choice_code t at x z)) (sym (none e))
          (let one = branch_covered t (at + 1 + length x) in omega (arith, one, hx))
      by_way (inr e) =
          let more = e (block_words cases b) in
          choice_cases Covered t at x y
          (λ nil. let one = branch_covered t (at + 1 + length x) in omega (arith, one, hx))
          (let one = branch_covered t (at + 1 + length x + 1) in
          let all = open_append x (Set (Jump (at + 1 + length x + 1 + length y)) ∷ y) in omega (arith, one, all, more, hx, hy))

  pub block_covers : (b : Block) (at : ℕ) → open_words cases (open_code b at) ≤ block_words cases b
  block_covers Skip at = omega arith
  block_covers (One p) at = omega arith
  block_covers (CallTo pushed c) at = call_covered pushed c
  block_covers TakeInterrupt at = omega arith
  block_covers (GiveBack width a) at = omega arith
  block_covers BreakOut at = omega arith
  block_covers GoOn at = omega arith
  block_covers (Both a b) at =
      let v = at + length (open_code a at) in
      let all = open_append (open_code a at) (open_code b v) in
      let first = block_covers a at in
      let rest = block_covers b v in omega (arith, all, first, rest)
  block_covers (Choice t a b) at =
      let v = at + 1 + length (open_code a (at + 1)) + 1 in
      choice_covered t at a b (open_code a (at + 1)) (open_code b v) (λ e. ap (λ x. open_code x v) e) (block_covers a (at + 1)) (block_covers b v)
  block_covers (Repeat p t body next) at =
      let l1 = open_append xs (Set (branch t e) ∷ (map (closed e n) ys ++ (zs ++ (Set (Jump at) ∷ [])))) in
      let l2 = open_append (map (closed e n) ys) (zs ++ (Set (Jump at) ∷ [])) in
      let l3 = open_append zs (Set (Jump at) ∷ []) in
      let l4 = closed_words e n ys in
      let one = branch_covered t e in
      let hp = block_covers p at in
      let hb = block_covers body u in
      let hn = block_covers next n in
      omega (arith, l1, l2, l3, l4, one, hp, hb, hn)
    where
      xs : List Open
      xs = open_code p at

      u : ℕ
      u = at + length xs + 1

      ys : List Open
      ys = open_code body u

      n : ℕ
      n = u + length ys

      zs : List Open
      zs = open_code next n

      e : ℕ
      e = n + length zs + 1
