-- That the routine of the product computes the product. A part takes bytes of the factors and adds their product to the sum of a column;
-- the columns follow one another, each of which raises the sum before it by a byte. What comes of it is the product, but for what is cut away.
use Rattle.std.specs.Prelude.{ℕ, suc, ◌+◌, ◌*◌, ◌/◌, ◌%◌, ◌^◌, ◌<◌, ◌≤◌, List, [], ◌∷◌, Option, Some, None, slice_get}
use Rattle.std.proofs.Common.{◌≡◌, refl, sym, ap, ◌∙◌, subst, arith}
use Rattle.std.proofs.lemmas.Nat.{mul-mod_first}
use Rattle.std.proofs.Math.Nat.{add-mul-mod_self_right, mul_comm, mul-le-mul_right}
use Rattle.vg_meaning.specs.History.{History}
use Rattle.vg_meaning.specs.World.{World}
use Rattle.vg_lin.specs.declared.instr.Operand.TheVariants.{Local}
use Rattle.vg_lin.specs.declared.instr.Operator.TheVariants.{Times, ShiftRight}
use Rattle.vg_lin.specs.declared.instr.Instr.{Instr}
use Rattle.vg_lin.specs.Values.{low, computed}
use Rattle.vg_lin.specs.Program.{Program}
use Rattle.vg_lin.specs.State.{LocalState, State, value, using, sets}
use Rattle.vg_lin.specs.Meaning.{begun, resume, language, codes_in}
use Rattle.vg_lin.specs.Steps.{Frame, Config, Goes, performed, went}
use Rattle.vg_lin.specs.Follows.{Leads, conf}
use Rattle.vg_lin.proofs.Followed.{leads_then, free}
use Rattle.vg_arith.specs.Routines.{with_locals, Gives, IsRoutineOf}
use Rattle.vg_arith.specs.Product.{byte_of, product_of, added, mul}
use Rattle.vg_arith.proofs.ShiftRoutines.{some_is, fetch_of, low_low}

-- ---- bytes, and sums of their products

-- The byte of a number at a place.
abbrev pub byte : (x place : ℕ) → ℕ
byte x k = x / 256 ^ k % 256

byte_small : (x k : ℕ) → byte x k < 256
byte_small x k = omega arith

low_byte : (x k : ℕ) → low 1 (byte x k) ≡ byte x k
low_byte x k = omega arith

lowest : (x : ℕ) → low 1 x ≡ byte x 0
lowest x = omega arith

-- what the shift of a number by bytes leaves in one byte
byte_one : (x : ℕ) → low 1 (low 2 x / 2 ^ 8) ≡ byte x 1
byte_one x = omega arith

byte_two : (x : ℕ) → low 1 (low 3 x / 2 ^ 16) ≡ byte x 2
byte_two x = omega arith

byte_three : (x : ℕ) → low 1 (low 4 x / 2 ^ 24) ≡ byte x 3
byte_three x = omega arith

-- the product of two bytes has two
two_bytes : (a b : ℕ) → a < 256 → b < 256 → low 2 (a * b) ≡ a * b
two_bytes a b ha hb = let e : a * b ≤ 255 * b = mul-le-mul_right b (omega (arith, ha)) in omega (arith, e, hb)

-- sums of two bytes, and of four
sum_two : (t x : ℕ) → low 2 (low 2 (low 2 t + low 2 x)) ≡ low 2 (t + x)
sum_two t x = omega arith

raised_two : (t : ℕ) → low 2 (low 2 (low 2 t * 2 ^ 8)) ≡ low 2 (t * 256)
raised_two t = omega arith

sum_four : (t x : ℕ) → low 4 (low 4 (low 4 t + x)) ≡ low 4 (t + x)
sum_four t x = omega arith

raised_four : (t : ℕ) → low 4 (low 4 (low 4 t * 2 ^ 8)) ≡ low 4 (t * 256)
raised_four t = omega arith

raised_first : (t : ℕ) → low 4 (low 4 (t * 2 ^ 8)) ≡ low 4 (t * 256)
raised_first t = omega arith

-- ---- the run

module _ (p : Program) (q : ℕ) (has : slice_get p.procedures q ≡ Some mul) (f : Frame State) (fs : List (Frame State)) (ram : List ℕ)
    (w : World History) (u v : ℕ) where
  -- the locals: the first factor, the second one or the sum of all columns, a product, the sum of high columns, and two bytes
  abbrev pub held : (z : ℕ) → (m s a b : Option ℕ) → State
  held z m s a b =
      with_locals ram
      (record { width = 4; value = Some u } ∷ record { width = 4; value = Some z } ∷ record { width = 2; value = m }
      ∷ record { width = 2; value = s } ∷ record { width = 1; value = a } ∷ record { width = 1; value = b } ∷ [])

  abbrev pub at : (pc z : ℕ) → (m s a b : Option ℕ) → Config State
  at pc z m s a b = conf q pc (f ∷ fs) (held z m s a b) w

  abbrev pub To : Config State → Config State → Type 0
  To c d = Leads (language p) (codes_in p.procedures) 0 c d

  then : (c d e : Config State) → To c d → To d e → To c e
  then c d e g h = leads_then (language p) (codes_in p.procedures) 0 0 c d e g h

  -- one instruction
  one : (pc z : ℕ) (m s a b : Option ℕ) (i : Instr) (d : Config State) → slice_get mul.code pc ≡ Some i
      → performed (language p) (at pc z m s a b) (Some i) ≡ d → To (at pc z m s a b) d
  one pc z m s a b i d e g = free (language p) (codes_in p.procedures) q pc (f ∷ fs) (held z m s a b) w i d (fetch_of p.procedures q mul has pc ∙ e) g

  -- while both factors are there: from a configuration the run comes to a place, with this sum modulo 2^16 and these bytes
  pub record Comes (c : Config State) (pc t : ℕ) (a b : Option ℕ) : Type 0 where
    pub m : Option ℕ
    pub to : To c (at pc v m (Some (low 2 t)) a b)

  -- what a local holds then
  abbrev pub Reads : (i x : ℕ) → (a b : Option ℕ) → Type 0
  Reads i x a b = (m s : Option ℕ) → value (Local i) (held v m s a b) ≡ Some x

  -- the byte of a local at a place is taken
  by_byte : (c : Config State) (pc t i k x r d : ℕ) (a b : Option ℕ) → slice_get mul.code pc ≡ Some (byte_of 4 i k) → Reads i x a b
      → computed ShiftRight (suc k) x (8 * k) ≡ Some r → low 1 r ≡ d → Comes c pc t a b → Comes c (suc pc) t (Some d) b
  by_byte c pc t i k x r d a b e reads shifts is here =
      record {
        m = here.m;
        to = then c (at pc v here.m h a b) _ here.to (one pc v here.m h a b _ (at (suc pc) v here.m h (Some d) b) e
            (ap shifted (reads here.m h)
            ∙ ap (λ o. went (at pc v here.m h a b) (using o (λ z. Goes (sets 4 z s) w.outside))) shifts
            ∙ ap (λ z. at (suc pc) v here.m h (Some z) b) is));
      }
    where
      h : Option ℕ
      h = Some (low 2 t)

      s : State
      s = held v here.m h a b

      shifted : Option ℕ → Config State
      shifted o = went (at pc v here.m h a b) (using o (λ x. using (computed ShiftRight (suc k) x (8 * k)) (λ z. Goes (sets 4 z s) w.outside)))

  -- the same of the other byte, which is one of the second factor
  by_other : (c : Config State) (pc t k r d : ℕ) (a b : Option ℕ) → slice_get mul.code pc ≡ Some (byte_of 5 1 k)
      → computed ShiftRight (suc k) v (8 * k) ≡ Some r → low 1 r ≡ d → Comes c pc t a b → Comes c (suc pc) t a (Some d)
  by_other c pc t k r d a b e shifts is here =
      record {
        m = here.m;
        to = then c (at pc v here.m h a b) _ here.to (one pc v here.m h a b _ (at (suc pc) v here.m h a (Some d)) e
            (ap (λ o. went (at pc v here.m h a b) (using o (λ z. Goes (sets 5 z (held v here.m h a b)) w.outside))) shifts
            ∙ ap (λ z. at (suc pc) v here.m h a (Some z)) is));
      }
    where
      h : Option ℕ
      h = Some (low 2 t)

  -- a product of two bytes is added
  by_part : (c : Config State) (pc t i j x y d e : ℕ) (a b : Option ℕ) → slice_get mul.code pc ≡ Some (product_of 2 i j)
      → slice_get mul.code (suc pc) ≡ Some (added 2 3) → Reads i x a b → Reads j y a b → low 1 x ≡ d → low 1 y ≡ e
      → Comes c pc t a b → Comes c (suc (suc pc)) (t + d * e) a b
  by_part c pc t i j x y d e a b e1 e2 left right is_d is_e here =
      record {
        m = Some (low 2 (d * e));
        to = then c (at pc v here.m h a b) _ here.to (then (at pc v here.m h a b) (at (suc pc) v (Some (low 2 (d * e))) h a b) _
            (one pc v here.m h a b _ (at (suc pc) v (Some (low 2 (d * e))) h a b) e1
            (ap times (left here.m h)
            ∙ ap (λ o. went (at pc v here.m h a b) (using o (λ y. Goes (sets 2 (low 1 x * low 1 y) s) w.outside))) (right here.m h)
            ∙ ap (λ z. at (suc pc) v (Some (low 2 (z * low 1 y))) h a b) is_d ∙ ap (λ z. at (suc pc) v (Some (low 2 (d * z))) h a b) is_e))
            (one (suc pc) v (Some (low 2 (d * e))) h a b _ (at (suc (suc pc)) v (Some (low 2 (d * e))) (Some (low 2 (t + d * e))) a b) e2
            (ap (λ z. at (suc (suc pc)) v (Some (low 2 (d * e))) (Some z) a b) (sum_two t (d * e)))));
      }
    where
      h : Option ℕ
      h = Some (low 2 t)

      s : State
      s = held v here.m h a b

      times : Option ℕ → Config State
      times o = went (at pc v here.m h a b) (using o (λ x. using (value (Local j) s) (λ y. Goes (sets 2 (low 1 x * low 1 y) s) w.outside)))

  -- the configuration in which the routine begins
  abbrev pub begins : Config State
  begins = at 0 v None None None None

  opening : Comes begins 2 (byte u 3 * byte v 0) (Some (byte u 3)) None
  opening =
      record {
        m = None;
        to = then begins (at 1 v None None (Some (byte u 3)) None) _
            (one 0 v None None None None _ (at 1 v None None (Some (byte u 3)) None) refl (ap (λ z. at 1 v None None (Some z) None) (byte_three u)))
            (one 1 v None None (Some (byte u 3)) None _ (at 2 v None (Some (low 2 (byte u 3 * byte v 0))) (Some (byte u 3)) None) refl
            (ap (λ z. at 2 v None (Some (low 2 (z * low 1 v))) (Some (byte u 3)) None) (low_byte u 3)
            ∙ ap (λ z. at 2 v None (Some (low 2 (byte u 3 * z))) (Some (byte u 3)) None) (lowest v)));
      }

  -- the column of the highest byte, and that below it
  abbrev pub highest : ℕ
  highest = byte u 3 * byte v 0 + byte u 0 * byte v 3 + byte u 1 * byte v 2 + byte u 2 * byte v 1

  abbrev pub next : ℕ
  next = highest * 256 + byte u 2 * byte v 0 + byte u 0 * byte v 2 + byte u 1 * byte v 1

  by_highest : Comes begins 13 highest (Some (byte u 2)) (Some (byte v 1))
  by_highest =
      by_part begins 11 _ 4 5 _ _ (byte u 2) (byte v 1) (Some (byte u 2)) (Some (byte v 1)) refl refl (λ m s. refl) (λ m s. refl) (low_byte u 2) (low_byte v 1)
      (by_other begins 10 _ 1 _ (byte v 1) (Some (byte u 2)) (Some (byte v 2)) refl refl (byte_one v)
      (by_byte begins 9 _ 0 2 u _ (byte u 2) (Some (byte u 1)) (Some (byte v 2)) refl (λ m s. refl) refl (byte_two u)
      (by_part begins 7 _ 4 5 _ _ (byte u 1) (byte v 2) (Some (byte u 1)) (Some (byte v 2)) refl refl (λ m s. refl) (λ m s. refl) (low_byte u 1) (low_byte v 2)
      (by_other begins 6 _ 2 _ (byte v 2) (Some (byte u 1)) (Some (byte v 3)) refl refl (byte_two v)
      (by_byte begins 5 _ 0 1 u _ (byte u 1) (Some (byte u 3)) (Some (byte v 3)) refl (λ m s. refl) refl (byte_one u)
      (by_part begins 3 _ 0 5 u _ (byte u 0) (byte v 3) (Some (byte u 3)) (Some (byte v 3)) refl refl (λ m s. refl) (λ m s. refl) (lowest u) (low_byte v 3)
      (by_other begins 2 _ 3 _ (byte v 3) (Some (byte u 3)) None refl refl (byte_three v) opening)))))))

  -- the sum stands a byte higher
  by_raise : Comes begins 13 highest (Some (byte u 2)) (Some (byte v 1)) → Comes begins 14 (highest * 256) (Some (byte u 2)) (Some (byte v 1))
  by_raise here =
      record {
        m = here.m;
        to = then begins (at 13 v here.m (Some (low 2 highest)) a b) _ here.to (one 13 v here.m (Some (low 2 highest)) a b _
            (at 14 v here.m (Some (low 2 (highest * 256))) a b) refl (ap (λ z. at 14 v here.m (Some z) a b) (raised_two highest)));
      }
    where
      a : Option ℕ
      a = Some (byte u 2)

      b : Option ℕ
      b = Some (byte v 1)

  by_next : Comes begins 22 next (Some (byte u 1)) (Some (byte v 1))
  by_next =
      by_part begins 20 _ 4 5 _ _ (byte u 1) (byte v 1) (Some (byte u 1)) (Some (byte v 1)) refl refl (λ m s. refl) (λ m s. refl) (low_byte u 1) (low_byte v 1)
      (by_byte begins 19 _ 0 1 u _ (byte u 1) (Some (byte v 2)) (Some (byte v 1)) refl (λ m s. refl) refl (byte_one u)
      (by_part begins 17 _ 0 4 u _ (byte u 0) (byte v 2) (Some (byte v 2)) (Some (byte v 1)) refl refl (λ m s. refl) (λ m s. refl) (lowest u) (low_byte v 2)
      (by_byte begins 16 _ 1 2 v _ (byte v 2) (Some (byte u 2)) (Some (byte v 1)) refl (λ m s. refl) refl (byte_two v)
      (by_part begins 14 _ 4 1 _ v (byte u 2) (byte v 0) (Some (byte u 2)) (Some (byte v 1)) refl refl (λ m s. refl) (λ m s. refl) (low_byte u 2) (lowest v)
      (by_raise by_highest)))))

  -- the two lowest columns: the sum of all is this one, modulo 2^32
  abbrev pub with_second : ℕ
  with_second = low 2 next * 256 + byte u 0 * byte v 1 + byte u 1 * byte v 0

  abbrev pub sum_of_columns : ℕ
  sum_of_columns = with_second * 256 + byte u 0 * byte v 0

  -- a product of two bytes, where it is made
  made : (x y a b : ℕ) → low 1 x ≡ byte u a → low 1 y ≡ byte v b → low 2 (low 1 x * low 1 y) ≡ byte u a * byte v b
  made x y a b ha hb =
      ap (λ z. low 2 (z * low 1 y)) ha ∙ ap (λ z. low 2 (byte u a * z)) hb ∙ two_bytes (byte u a) (byte v b) (byte_small u a) (byte_small v b)

  -- the sum before a byte more is wanted, and behind all columns
  by_second : Comes begins 22 next (Some (byte u 1)) (Some (byte v 1))
      → To begins (at 28 (low 4 with_second) (Some (byte u 1 * byte v 0)) (Some (low 2 next)) (Some (byte u 1)) (Some (byte v 0)))
  by_second here =
      then begins (at 22 v here.m h a (Some (byte v 1))) _ here.to
      (then (at 22 v here.m h a (Some (byte v 1))) (at 23 v (Some m1) h a (Some (byte v 1))) _
      (one 22 v here.m h a (Some (byte v 1)) _ (at 23 v (Some m1) h a (Some (byte v 1))) refl
      (ap (λ z. at 23 v (Some z) h a (Some (byte v 1))) (made u (byte v 1) 0 1 (lowest u) (low_byte v 1))))
      (then (at 23 v (Some m1) h a (Some (byte v 1))) (at 24 v (Some m1) h a b) _
      (one 23 v (Some m1) h a (Some (byte v 1)) _ (at 24 v (Some m1) h a b) refl (ap (λ z. at 24 v (Some m1) h a (Some z)) (lowest v)))
      (then (at 24 v (Some m1) h a b) (at 25 (low 4 (low 2 next * 256)) (Some m1) h a b) _
      (one 24 v (Some m1) h a b _ (at 25 (low 4 (low 2 next * 256)) (Some m1) h a b) refl (ap (λ z. at 25 z (Some m1) h a b) (raised_first (low 2 next))))
      (then (at 25 (low 4 (low 2 next * 256)) (Some m1) h a b) (at 26 (low 4 (low 2 next * 256 + m1)) (Some m1) h a b) _
      (one 25 (low 4 (low 2 next * 256)) (Some m1) h a b _ (at 26 (low 4 (low 2 next * 256 + m1)) (Some m1) h a b) refl
      (ap (λ z. at 26 z (Some m1) h a b) (sum_four (low 2 next * 256) m1)))
      (then (at 26 (low 4 (low 2 next * 256 + m1)) (Some m1) h a b) (at 27 (low 4 (low 2 next * 256 + m1)) (Some m2) h a b) _
      (one 26 (low 4 (low 2 next * 256 + m1)) (Some m1) h a b _ (at 27 (low 4 (low 2 next * 256 + m1)) (Some m2) h a b) refl
      (ap (λ z. at 27 (low 4 (low 2 next * 256 + m1)) (Some z) h a b) (made (byte u 1) (byte v 0) 1 0 (low_byte u 1) (low_byte v 0))))
      (one 27 (low 4 (low 2 next * 256 + m1)) (Some m2) h a b _ (at 28 (low 4 with_second) (Some m2) h a b) refl
      (ap (λ z. at 28 z (Some m2) h a b) (sum_four (low 2 next * 256 + m1) m2))))))))
    where
      h : Option ℕ
      h = Some (low 2 next)

      a : Option ℕ
      a = Some (byte u 1)

      b : Option ℕ
      b = Some (byte v 0)

      m1 : ℕ
      m1 = byte u 0 * byte v 1

      m2 : ℕ
      m2 = byte u 1 * byte v 0

  by_all : (m h a : Option ℕ) → To begins (at 28 (low 4 with_second) m h a (Some (byte v 0)))
      → To begins (at 31 (low 4 sum_of_columns) (Some (byte u 0 * byte v 0)) h a (Some (byte v 0)))
  by_all m h a here =
      then begins (at 28 (low 4 with_second) m h a b) _ here
      (then (at 28 (low 4 with_second) m h a b) (at 29 (low 4 (with_second * 256)) m h a b) _
      (one 28 (low 4 with_second) m h a b _ (at 29 (low 4 (with_second * 256)) m h a b) refl (ap (λ z. at 29 z m h a b) (raised_four with_second)))
      (then (at 29 (low 4 (with_second * 256)) m h a b) (at 30 (low 4 (with_second * 256)) (Some m3) h a b) _
      (one 29 (low 4 (with_second * 256)) m h a b _ (at 30 (low 4 (with_second * 256)) (Some m3) h a b) refl
      (ap (λ z. at 30 (low 4 (with_second * 256)) (Some z) h a b) (made u (byte v 0) 0 0 (lowest u) (low_byte v 0))))
      (one 30 (low 4 (with_second * 256)) (Some m3) h a b _ (at 31 (low 4 sum_of_columns) (Some m3) h a b) refl
      (ap (λ z. at 31 z (Some m3) h a b) (sum_four (with_second * 256) m3)))))
    where
      b : Option ℕ
      b = Some (byte v 0)

      m3 : ℕ
      m3 = byte u 0 * byte v 0

  given : (left : List LocalState) × To begins (conf f.proc (suc f.pc) fs (resume f.awaits f.kept (with_locals ram left) (low 4 (low 4 sum_of_columns))) w)
  given = (
    _,
    then begins (at 31 (low 4 sum_of_columns) (Some (byte u 0 * byte v 0)) h a b) _
        (by_all (Some (byte u 1 * byte v 0)) h a (by_second by_next))
        (one 31 (low 4 sum_of_columns) (Some (byte u 0 * byte v 0)) h a b _ _ refl refl),
  )
    where
      h : Option ℕ
      h = Some (low 2 next)

      a : Option ℕ
      a = Some (byte u 1)

      b : Option ℕ
      b = Some (byte v 0)

-- ---- the law

-- the columns of the product of four bytes and four bytes, those that stay and those that are cut
multiplied : (a0 a1 a2 a3 b0 b1 b2 b3 : ℕ) → (a0 + a1 * 256 + a2 * 65536 + a3 * 16777216) * (b0 + b1 * 256 + b2 * 65536 + b3 * 16777216)
    ≡ ((((a3 * b0 + a0 * b3 + a1 * b2 + a2 * b1) * 256 + a2 * b0 + a0 * b2 + a1 * b1) * 256 + a0 * b1 + a1 * b0) * 256 + a0 * b0)
    + (a1 * b3 + a2 * b2 + a3 * b1 + (a2 * b3 + a3 * b2) * 256 + a3 * b3 * 65536) * 4294967296
multiplied a0 a1 a2 a3 b0 b1 b2 b3 = omega arith

-- two bytes of the sum of the high columns are enough
enough : (t c d e : ℕ) → low 4 ((low 2 t * 256 + c + d) * 256 + e) ≡ low 4 ((t * 256 + c + d) * 256 + e)
enough t c d e = omega arith

four_bytes : (x : ℕ) → low 4 x ≡ byte (low 4 x) 0 + byte (low 4 x) 1 * 256 + byte (low 4 x) 2 * 65536 + byte (low 4 x) 3 * 16777216
four_bytes x = omega arith

pub mul_is : IsRoutineOf Times mul
mul_is w x y v hw ha e = (low 4 (x * y), low_low w (x * y) hw ∙ some_is _ v e, gives)
  where
    of_low : (x y : ℕ) → low 4 (low 4 x * low 4 y) ≡ low 4 (x * y)
    of_low x y = mul-mod_first x (low 4 y) (256 ^ 4) ∙ ap (low 4) (mul_comm x (low 4 y)) ∙ mul-mod_first y x (256 ^ 4) ∙ ap (low 4) (mul_comm y x)

    twice : (x : ℕ) → low 4 (low 4 x) ≡ low 4 x
    twice x = omega arith

    a : ℕ → ℕ
    a k = byte (low 4 x) k

    b : ℕ → ℕ
    b k = byte (low 4 y) k

    columns : ℕ
    columns = (((a 3 * b 0 + a 0 * b 3 + a 1 * b 2 + a 2 * b 1) * 256 + a 2 * b 0 + a 0 * b 2 + a 1 * b 1) * 256 + a 0 * b 1 + a 1 * b 0) * 256 + a 0 * b 0

    rest : ℕ
    rest = a 1 * b 3 + a 2 * b 2 + a 3 * b 1 + (a 2 * b 3 + a 3 * b 2) * 256 + a 3 * b 3 * 65536

    whole : low 4 x * low 4 y ≡ columns + rest * 4294967296
    whole =
        ap (λ z. z * low 4 y) (four_bytes x) ∙ ap (λ z. (a 0 + a 1 * 256 + a 2 * 65536 + a 3 * 16777216) * z) (four_bytes y)
        ∙ multiplied (a 0) (a 1) (a 2) (a 3) (b 0) (b 1) (b 2) (b 3)

    product : low 4 columns ≡ low 4 (x * y)
    product = sym (ap (low 4) whole ∙ add-mul-mod_self_right columns rest 4294967296) ∙ of_low x y

    gives : Gives mul (x ∷ y ∷ []) (low 4 (x * y))
    gives p q has f fs ram world =
        subst (λ z. (left : List LocalState) × Leads (language p) (codes_in p.procedures) 0
        (conf q 0 (f ∷ fs) (with_locals ram (begun mul.widths (x ∷ y ∷ []))) world)
        (conf f.proc (suc f.pc) fs (resume f.awaits f.kept (with_locals ram left) z) world))
        (twice (sum_of_columns p q has f fs ram world (low 4 x) (low 4 y))
        ∙ enough ((a 3 * b 0 + a 0 * b 3 + a 1 * b 2 + a 2 * b 1) * 256 + a 2 * b 0 + a 0 * b 2 + a 1 * b 1) (a 0 * b 1) (a 1 * b 0) (a 0 * b 0) ∙ product)
        (given p q has f fs ram world (low 4 x) (low 4 y))
