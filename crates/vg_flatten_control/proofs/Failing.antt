-- That what is too long in a part is too long in the whole: what one code behind another becomes, a choice, a loop.
use Rattle.std.specs.Result.{IsErrAnd}
use Rattle.std.specs.Prelude.{ℕ, ◌+◌, ◌<◌, ◌≤◌, Bool, true, false, List, length, reverse, Result, Ok, Err, Option, Some, None, if◌then◌else◌}
use Rattle.std.proofs.Common.{◌≡◌, ◌⊎◌, inl, inr, refl, sym, ap, ◌∙◌, subst, arith}
use Rattle.vg_base.specs.declared.refusal.Refusal.{Refusal}
use Rattle.vg_base.specs.declared.refusal.Refusal.TheVariants.{Fault as Faulty, NoMemory as Memory}
use Rattle.vg_flatten_shapes.specs.declared.fault.Fault.{Fault}
use Rattle.vg_flatten_shapes.specs.declared.fault.Fault.TheVariants.{NotTaken, TooHigh, TooLong}
use Rattle.vg_flatten_shapes.specs.declared.open.Open.{Open}
use Rattle.vg_flatten_shapes.specs.declared.open.Truth.{Truth}
use Rattle.vg_flatten_shapes.specs.declared.piece.Piece.{Piece}
use Rattle.vg_flatten_shapes.specs.declared.room.Room.{Room}
use Rattle.vg_flatten_shapes.specs.Shapes.{Shape, only, empty, is_empty, same_homes}
use Rattle.vg_flatten_shapes.specs.Blocks.{Block, Choice, Repeat, choice_code, open_code, block_size}
use Rattle.vg_flatten_shapes.specs.Made.{Made, Gives, Refused, behind, after, Tested, tested}
use Rattle.vg_flatten_shapes.specs.Laying.{IsLong, IsPiece, Fails, Lays}
use Rattle.vg_flatten_shapes.proofs.Sizes.{block_long}
use Rattle.vg_flatten_control.specs.Flat.{landed, joined, chosen, where_empty, repeated, repeated_test, repeated_body, repeated_next}
use Rattle.vg_flatten_control.specs.Joining.{Tests, Joins}

-- an error that is handed on
pub lays_err : (res : Result Piece (Refusal Fault)) (e : Refusal Fault) (at : ℕ) (m : Made) → IsErrAnd res (λ y. y ≡ e) → Fails e at m → Lays res at m
lays_err (Ok p) e at m h f = absurd h
lays_err (Err y) e at m h f = subst (λ z. Fails z at m) (sym h) f

-- ---- one code behind another

long_behind : (at : ℕ) (a : Block) (m : Made) → ((b : Block) → 65519 < at + (block_size a + block_size b)) → IsLong at (behind a m)
long_behind at a (Gives b s) h = h b
long_behind at a (Refused why) h = tt

long_first : (at : ℕ) (m : Made) (more : Shape → Made) → IsLong at m → IsLong at (after m more)
long_first at (Gives a s) more h = long_behind at a (more s) (λ b. omega (arith, h))
long_first at (Refused why) more h = tt

pub first_fails : (at : ℕ) (m : Made) (more : Shape → Made) (e : Refusal Fault) → Fails e at m → Fails e at (after m more)
first_fails at m more Memory f = tt
first_fails at m more (Faulty TooLong) f = long_first at m more f
first_fails at m more (Faulty NotTaken) f = ap (λ z. after z more) f
first_fails at m more (Faulty TooHigh) f = ap (λ z. after z more) f

pub place_fails : (at : ℕ) (m : Made) (more : Shape → Made) (p : Piece) (e : Refusal Fault) → IsPiece p at m → (e ≡ Faulty TooLong) × (65535 < at + length p.code)
    → Fails e at (after m more)
place_fails at (Gives a s) more p e h f =
    subst (λ z. Fails z at (after (Gives a s) more)) (sym f.0) (long_behind at a (more s)
    (λ b. let l = block_long a at in let is = ap length h.0 in let far = f.1 in omega (arith, l, is, far)))
place_fails at (Refused why) more p e h f = absurd h

long_rest : (at place : ℕ) (a : Block) (n : ℕ) (m : Made) → place ≡ at + n → n ≤ block_size a → IsLong place m → IsLong at (behind a m)
long_rest at place a n (Gives b s) ep le h = omega (arith, ep, le, h)
long_rest at place a n (Refused why) ep le h = tt

pub rest_fails : (at place : ℕ) (m : Made) (more : Shape → Made) (p : Piece) (e : Refusal Fault) → IsPiece p at m → place ≡ at + length p.code
    → Fails e place (more p.homes) → Fails e at (after m more)
rest_fails at place (Refused why) more p e h ep f = absurd h
rest_fails at place (Gives a s) more p e h ep f = by_cause e (subst (λ z. Fails e place (more z)) h.1 f)
  where
    by_cause : (e : Refusal Fault) → Fails e place (more s) → Fails e at (behind a (more s))
    by_cause Memory g = tt
    by_cause (Faulty TooLong) g =
        long_rest at place a (length p.code) (more s) ep (let l = block_long a at in let is = ap length h.0 in omega (arith, l, is)) g
    by_cause (Faulty NotTaken) g = ap (behind a) g
    by_cause (Faulty TooHigh) g = ap (behind a) g

pub place_lays : (at : ℕ) (m : Made) (more : Shape → Made) (p : Piece) (res : Result Piece (Refusal Fault)) (e : Refusal Fault) (n : ℕ)
    → IsErrAnd res (λ y. y ≡ e) → IsPiece p at m → n ≡ length p.code → (e ≡ Faulty TooLong) × (65535 < at + n) → Lays res at (after m more)
place_lays at m more p res e n r h en f =
    lays_err res e at (after m more) r (place_fails at m more p e h (subst (λ z. (e ≡ Faulty TooLong) × (65535 < at + z)) en f))

pub rest_lays : (at place : ℕ) (m : Made) (more : Shape → Made) (p : Piece) (res : Result Piece (Refusal Fault)) (e : Refusal Fault) (n : ℕ)
    → IsErrAnd res (λ y. y ≡ e) → IsPiece p at m → n ≡ length p.code → place ≡ at + n → Fails e place (more p.homes) → Lays res at (after m more)
rest_lays at place m more p res e n r h en ep f =
    lays_err res e at (after m more) r (rest_fails at place m more p e h (ep ∙ ap (λ z. at + z) en) f)

-- ---- choices

pub long_both : (at : ℕ) (t : Truth) (m1 m2 : Made) → ((a b : Block) (s s1 : Shape) → m1 ≡ Gives a s → m2 ≡ Gives b s1 → 65519 < at + (2 + block_size a + block_size b))
    → IsLong at (joined t m1 m2)
long_both at t (Refused why) m2 h = tt
long_both at t (Gives a s) (Refused why) h = tt
long_both at t (Gives a s) (Gives b s1) h = by_same (same_homes (reverse s.homes) (reverse s1.homes))
  where
    by_same : (c : Bool) → IsLong at (if c then Gives (Choice t a b) s else Refused NotTaken)
    by_same true = h a b s s1 refl refl
    by_same false = tt

fits : (p : Piece) (at : ℕ) (m : Made) (a : Block) (s : Shape) → IsPiece p at m → m ≡ Gives a s → length p.code ≤ block_size a
fits p at m a s h e =
    let g = subst (IsPiece p at) e h in
    let l = block_long a at in
    let is = ap length g.0 in
    omega (arith, l, is)

long_at : (at : ℕ) (m : Made) (a : Block) (s : Shape) → IsLong at m → m ≡ Gives a s → 65519 < at + block_size a
long_at at m a s h e = subst (IsLong at) e h

refused_rest : (t : Truth) (p : Piece) (at : ℕ) (m1 : Made) (why : Fault) → IsPiece p at m1 → joined t m1 (Refused why) ≡ Refused why
refused_rest t p at (Gives a s) why h = refl
refused_rest t p at (Refused why') why h = absurd h

module _ (at : ℕ) (t : Truth) (m1 m2 : Made) where
  pub first_of : (first_at : ℕ) (e : Refusal Fault) → first_at ≡ at + 1 → Fails e first_at m1 → Fails e at (joined t m1 m2)
  first_of first_at Memory ep f = tt
  first_of first_at (Faulty TooLong) ep f = long_both at t m1 m2 (λ a b s s1 ea eb. let l = long_at first_at m1 a s f ea in omega (arith, l, ep))
  first_of first_at (Faulty NotTaken) ep f = ap (λ z. joined t z m2) f
  first_of first_at (Faulty TooHigh) ep f = ap (λ z. joined t z m2) f

  pub place_of' : (first_at : ℕ) (p : Piece) (e : Refusal Fault) → first_at ≡ at + 1 → IsPiece p first_at m1
      → (e ≡ Faulty TooLong) × (65535 < at + 1 + length p.code + 1) → Fails e at (joined t m1 m2)
  place_of' first_at p e ep h f =
      subst (λ z. Fails z at (joined t m1 m2)) (sym f.0) (long_both at t m1 m2 (λ a b s s1 ea eb.
      let l = fits p first_at m1 a s h ea in let far = f.1 in omega (arith, l, far)))

  pub rest_of : (first_at rest_at : ℕ) (p : Piece) (e : Refusal Fault) → IsPiece p first_at m1 → rest_at ≡ at + 1 + length p.code + 1 → Fails e rest_at m2
      → Fails e at (joined t m1 m2)
  rest_of first_at rest_at p Memory h ep f = tt
  rest_of first_at rest_at p (Faulty TooLong) h ep f =
      long_both at t m1 m2 (λ a b s s1 ea eb. let l = fits p first_at m1 a s h ea in let far = long_at rest_at m2 b s1 f eb in omega (arith, l, far, ep))
  rest_of first_at rest_at p (Faulty NotTaken) h ep f = ap (joined t m1) f ∙ refused_rest t p first_at m1 NotTaken h
  rest_of first_at rest_at p (Faulty TooHigh) h ep f = ap (joined t m1) f ∙ refused_rest t p first_at m1 TooHigh h

  join_long : (first_at rest_at : ℕ) (p q : Piece) → IsPiece p first_at m1 → IsPiece q rest_at m2
      → 65535 < at + 2 + length p.code + length q.code → IsLong at (joined t m1 m2)
  join_long first_at rest_at p q h g far =
      long_both at t m1 m2 (λ a b s s1 ea eb.
      let l = fits p first_at m1 a s h ea in let k = fits q rest_at m2 b s1 g eb in omega (arith, l, k, far))

unlike : (t : Truth) (m1 m2 : Made) (p q : Piece) (u v : ℕ) → IsPiece p u m1 → IsPiece q v m2
    → same_homes (reverse p.homes.homes) (reverse q.homes.homes) ≡ false → joined t m1 m2 ≡ Refused NotTaken
unlike t (Refused why) m2 p q u v h g e = absurd h
unlike t (Gives a s) (Refused why) p q u v h g e = absurd g
unlike t (Gives a s) (Gives b s1) p q u v h g e =
    ap (λ z. if z then Gives (Choice t a b) s else Refused NotTaken)
    (ap (λ z. same_homes (reverse z.homes) (reverse s1.homes)) (sym h.1) ∙ ap (λ z. same_homes (reverse p.homes.homes) (reverse z.homes)) (sym g.1) ∙ e)

-- what was joined, or why nothing was
pub joined_laid : (at first_at rest_at : ℕ) (t : Truth) (m1 m2 : Made) (p q : Piece) (res : Result Piece (Refusal Fault)) → first_at ≡ at + 1
    → rest_at ≡ at + 1 + length p.code + 1 → IsPiece p first_at m1 → IsPiece q rest_at m2 → Joins res t at p q → Lays res at (joined t m1 m2)
joined_laid at first_at rest_at t (Refused why) m2 p q res e1 e2 h g j = absurd h
joined_laid at first_at rest_at t (Gives a s) (Refused why) p q res e1 e2 h g j = absurd g
joined_laid at first_at rest_at t (Gives a s) (Gives b s1) p q (Err Memory) e1 e2 h g j = tt
joined_laid at first_at rest_at t (Gives a s) (Gives b s1) p q (Err (Faulty TooLong)) e1 e2 h g j =
    join_long at t (Gives a s) (Gives b s1) first_at rest_at p q h g j
joined_laid at first_at rest_at t (Gives a s) (Gives b s1) p q (Err (Faulty NotTaken)) e1 e2 h g j =
    unlike t (Gives a s) (Gives b s1) p q first_at rest_at h g j
joined_laid at first_at rest_at t (Gives a s) (Gives b s1) p q (Err (Faulty TooHigh)) e1 e2 h g j = absurd j
joined_laid at first_at rest_at t (Gives a s) (Gives b s1) p q (Ok x) e1 e2 h g j =
    subst (λ z. IsPiece x at (if z then Gives (Choice t a b) s else Refused NotTaken)) (sym same) (code_is, j.2 ∙ h.1)
  where
    same : same_homes (reverse s.homes) (reverse s1.homes) ≡ true
    same =
        ap (λ z. same_homes (reverse z.homes) (reverse s1.homes)) (sym h.1) ∙ ap (λ z. same_homes (reverse p.homes.homes) (reverse z.homes)) (sym g.1) ∙ j.0

    first_is : p.code ≡ open_code a (at + 1)
    first_is = h.0 ∙ ap (open_code a) e1

    rest_is : q.code ≡ open_code b (at + 1 + length (open_code a (at + 1)) + 1)
    rest_is = g.0 ∙ ap (open_code b) (e2 ∙ ap (λ z. at + 1 + length z + 1) first_is)

    code_is : x.code ≡ open_code (Choice t a b) at
    code_is = j.1 ∙ ap (λ z. choice_code t at z q.code) first_is ∙ ap (choice_code t at (open_code a (at + 1))) rest_is

pub only_is : (left : Shape) → left.truth ≡ None → only left.homes ≡ left
only_is left e = ap (λ z. record { truth = z; homes = left.homes }) (sym e)

-- The two ways of a choice whose truth value was taken.
module _ (at : ℕ) (r : Room) (found : Option Tested) (t : Truth) (left : Shape) (f g : Shape → Made) (taken : Tests (Some t) found left) where
  abbrev pub m1 : Made
  m1 = landed r (f left)

  abbrev pub m2 : Made
  m2 = landed r (g left)

  is : chosen r found f g ≡ joined t m1 m2
  is =
      ap (λ z. chosen r z f g) taken.0 ∙ ap (λ z. joined t (landed r (f z)) (landed r (g z))) (only_is left taken.1)

  pub early_choice : (e : Refusal Fault) → (e ≡ Faulty TooLong) × (65535 < at + 1) → Fails e at (chosen r found f g)
  early_choice e h =
      subst (Fails e at) (sym is) (subst (λ z. Fails z at (joined t m1 m2)) (sym h.0)
      (long_both at t m1 m2 (λ a b s s1 ea eb. let far = h.1 in omega (arith, far))))

  pub first_way : (first_at : ℕ) (e : Refusal Fault) → first_at ≡ at + 1 → Fails e first_at m1 → Fails e at (chosen r found f g)
  first_way first_at e ep h = subst (Fails e at) (sym is) (first_of at t m1 m2 first_at e ep h)

  pub place_way : (first_at : ℕ) (p : Piece) (e : Refusal Fault) (n : ℕ) → first_at ≡ at + 1 → IsPiece p first_at m1 → n ≡ length p.code
      → (e ≡ Faulty TooLong) × (65535 < at + 1 + n + 1) → Fails e at (chosen r found f g)
  place_way first_at p e n ep h en far =
      subst (Fails e at) (sym is)
      (place_of' at t m1 m2 first_at p e ep h (subst (λ z. (e ≡ Faulty TooLong) × (65535 < at + 1 + z + 1)) en far))

  pub rest_way : (first_at rest_at : ℕ) (p : Piece) (e : Refusal Fault) → IsPiece p first_at m1 → rest_at ≡ at + 1 + length p.code + 1 → Fails e rest_at m2
      → Fails e at (chosen r found f g)
  rest_way first_at rest_at p e h ep far = subst (Fails e at) (sym is) (rest_of at t m1 m2 first_at rest_at p e h ep far)

  pub joined_ways : (first_at rest_at : ℕ) (p q : Piece) (res : Result Piece (Refusal Fault)) → first_at ≡ at + 1 → rest_at ≡ at + 1 + length p.code + 1
      → IsPiece p first_at m1 → IsPiece q rest_at m2 → Joins res t at p q → Lays res at (chosen r found f g)
  joined_ways first_at rest_at p q res e1 e2 h k j = subst (Lays res at) (sym is) (joined_laid at first_at rest_at t m1 m2 p q res e1 e2 h k j)

-- ---- loops

long_where : (at : ℕ) (s : Shape) (m : Made) → IsLong at m → IsLong at (where_empty s m)
long_where at s m h = by_empty (is_empty s)
  where
    by_empty : (c : Bool) → IsLong at (if c then m else Refused NotTaken)
    by_empty true = h
    by_empty false = tt

long_loop : (at : ℕ) (b : Block) (t : Truth) (x1 x2 : Made)
    → ((x y : Block) (s s1 : Shape) → x1 ≡ Gives x s → x2 ≡ Gives y s1 → 65519 < at + (2 + block_size b + block_size x + block_size y))
    → IsLong at (repeated_body b t x1 x2)
long_loop at b t (Refused why) x2 h = tt
long_loop at b t (Gives x s) (Refused why) h = long_where at s (Refused why) tt
long_loop at b t (Gives x s) (Gives y s1) h =
    long_where at s (where_empty s1 (Gives (Repeat b t x y) empty)) (long_where at s1 (Gives (Repeat b t x y) empty) (h x y s s1 refl refl))

pub condition_fails : (at : ℕ) (m x1 x2 : Made) (e : Refusal Fault) → Fails e at m → Fails e at (repeated m x1 x2)
condition_fails at m x1 x2 Memory f = tt
condition_fails at m x1 x2 (Faulty NotTaken) f = ap (λ z. repeated z x1 x2) f
condition_fails at m x1 x2 (Faulty TooHigh) f = ap (λ z. repeated z x1 x2) f
condition_fails at m x1 x2 (Faulty TooLong) f = by_made m f
  where
    by_test : (b : Block) → 65519 < at + block_size b → (o : Option Tested) → IsLong at (repeated_test b o x1 x2)
    by_test b far (Some t) = long_where at (only t.homes) (repeated_body b t.truth x1 x2) (long_loop at b t.truth x1 x2 (λ x y s s1 ex ey. omega (arith, far)))
    by_test b far None = tt

    by_made : (m : Made) → IsLong at m → IsLong at (repeated m x1 x2)
    by_made (Gives b s) far = by_test b far (tested s)
    by_made (Refused why) far = tt

module _ (at : ℕ) (b : Block) (t : Truth) (before : List Open) (laid : before ≡ open_code b at) (x1 x2 : Made) where
  before_long : length before ≤ block_size b
  before_long = let l = block_long b at in let is = ap length laid in omega (arith, l, is)

  pub early_loop : (e : Refusal Fault) (n : ℕ) → n ≡ at + length before + 1 → (e ≡ Faulty TooLong) × (65535 < n) → Fails e at (repeated_body b t x1 x2)
  early_loop e n ep h =
      subst (λ z. Fails z at (repeated_body b t x1 x2)) (sym h.0)
      (long_loop at b t x1 x2 (λ x y s s1 ex ey. let far = h.1 in let l = before_long in omega (arith, far, l, ep)))

  pub body_fails : (e : Refusal Fault) (body_at : ℕ) → body_at ≡ at + length before + 1 → Fails e body_at x1 → Fails e at (repeated_body b t x1 x2)
  body_fails Memory body_at ep f = tt
  body_fails (Faulty NotTaken) body_at ep f = ap (λ z. repeated_body b t z x2) f
  body_fails (Faulty TooHigh) body_at ep f = ap (λ z. repeated_body b t z x2) f
  body_fails (Faulty TooLong) body_at ep f =
      long_loop at b t x1 x2 (λ x y s s1 ex ey. let far = long_at body_at x1 x s f ex in let l = before_long in omega (arith, far, l, ep))

  pub late_loop : (e : Refusal Fault) (body_at n : ℕ) (p : Piece) → body_at ≡ at + length before + 1 → IsPiece p body_at x1 → n ≡ body_at + length p.code
      → (e ≡ Faulty TooLong) × (65535 < n) → Fails e at (repeated_body b t x1 x2)
  late_loop e body_at n p ep h en far' =
      subst (λ z. Fails z at (repeated_body b t x1 x2)) (sym far'.0)
      (long_loop at b t x1 x2 (λ x y s s1 ex ey.
      let far = far'.1 in let l = before_long in let k = fits p body_at x1 x s h ex in omega (arith, far, l, k, ep, en)))

  next_of : (s : Shape) (x : Block) → is_empty s ≡ true → (why : Fault) → repeated_body b t (Gives x s) (Refused why) ≡ Refused why
  next_of s x e why = ap (λ z. if z then Refused why else Refused NotTaken) e

  pub next_fails : (e : Refusal Fault) (body_at next_at : ℕ) (p : Piece) (c : Bool) → body_at ≡ at + length before + 1 → IsPiece p body_at x1
      → next_at ≡ body_at + length p.code → c ≡ is_empty p.homes → c ≡ true → Fails e next_at x2 → Fails e at (repeated_body b t x1 x2)
  next_fails Memory body_at next_at p c ep h en ec is f = tt
  next_fails (Faulty TooLong) body_at next_at p c ep h en ec is f =
      long_loop at b t x1 x2 (λ x y s s1 ex ey.
      let far = long_at next_at x2 y s1 f ey in
      let l = before_long in
      let k = fits p body_at x1 x s h ex in
      omega (arith, far, l, k, ep, en))
  next_fails (Faulty NotTaken) body_at next_at p c ep h en ec is f = ap (repeated_body b t x1) f ∙ by_made x1 h NotTaken
    where
      by_made : (m : Made) → IsPiece p body_at m → (why : Fault) → repeated_body b t m (Refused why) ≡ Refused why
      by_made (Gives x s) g why = next_of s x (sym (ap is_empty g.1) ∙ sym ec ∙ is) why
      by_made (Refused why') g why = absurd g
  next_fails (Faulty TooHigh) body_at next_at p c ep h en ec is f = ap (repeated_body b t x1) f ∙ by_made x1 h TooHigh
    where
      by_made : (m : Made) → IsPiece p body_at m → (why : Fault) → repeated_body b t m (Refused why) ≡ Refused why
      by_made (Gives x s) g why = next_of s x (sym (ap is_empty g.1) ∙ sym ec ∙ is) why
      by_made (Refused why') g why = absurd g

  pub loop_fails : (e : Refusal Fault) (body_at next_at : ℕ) (p q : Piece) → IsPiece p body_at x1 → IsPiece q next_at x2
      → ((e ≡ Faulty TooLong) × (65535 < at + 2 + length before + length p.code + length q.code)) ⊎ e ≡ Memory → Fails e at (repeated_body b t x1 x2)
  loop_fails e body_at next_at p q h g (inl far') =
      subst (λ z. Fails z at (repeated_body b t x1 x2)) (sym far'.0)
      (long_loop at b t x1 x2 (λ x y s s1 ex ey.
      let far = far'.1 in
      let l = before_long in
      let k = fits p body_at x1 x s h ex in
      let n = fits q next_at x2 y s1 g ey in
      omega (arith, far, l, k, n)))
  loop_fails e body_at next_at p q h g (inr is) = subst (λ z. Fails z at (repeated_body b t x1 x2)) (sym is) tt

  pub code_fails : (e : Refusal Fault) (body_at next_at : ℕ) (p q : Piece) (xs ys : List Open) → IsPiece p body_at x1 → IsPiece q next_at x2 → xs ≡ p.code
      → ys ≡ q.code → ((e ≡ Faulty TooLong) × (65535 < at + 2 + length before + length xs + length ys)) ⊎ e ≡ Memory
      → Fails e at (repeated_body b t x1 x2)
  code_fails e body_at next_at p q xs ys h g ex ey far =
      loop_fails e body_at next_at p q h g
      (subst (λ z. ((e ≡ Faulty TooLong) × (65535 < at + 2 + length before + length p.code + length z)) ⊎ e ≡ Memory) ey
      (subst (λ z. ((e ≡ Faulty TooLong) × (65535 < at + 2 + length before + length z + length ys)) ⊎ e ≡ Memory) ex far))

-- the same from a shape that is empty
pub from_empty : (e : Refusal Fault) (place : ℕ) (go : Shape → Made) (s : Shape) → s ≡ empty → Fails e place (go s) → Fails e place (go empty)
from_empty e place go s is h = subst (λ z. Fails e place (go z)) is h
