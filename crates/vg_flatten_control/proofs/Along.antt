-- How far a row has come: what is left of it tells what the whole becomes.
use Rattle.std.specs.Prelude.{ℕ, zero, suc, ◌+◌, ◌<◌, List, [], ◌∷◌, ◌++◌, length, drop}
use Rattle.std.proofs.Common.{get_or}
use Rattle.vg_firm.specs.declared.code.Code as held
use Rattle.vg_flatten_control.specs.Weights.{weight, weights}
use Rattle.std.proofs.Common.{◌≡◌, refl, sym, ap, ◌∙◌, subst, arith}
use Rattle.std.proofs.lemmas.List.{append_assoc, append-nil, length-append}
use Rattle.vg_base.specs.declared.refusal.Refusal.{Refusal}
use Rattle.vg_base.specs.declared.refusal.Refusal.TheVariants.{Fault as Faulty, NoMemory as Memory}
use Rattle.vg_flatten_shapes.specs.declared.fault.Fault.{Fault}
use Rattle.vg_flatten_shapes.specs.declared.fault.Fault.TheVariants.{NotTaken, TooHigh, TooLong}
use Rattle.vg_flatten_shapes.specs.declared.open.Open.{Open}
use Rattle.vg_flatten_shapes.specs.declared.piece.Piece.{Piece}
use Rattle.vg_flatten_shapes.specs.Shapes.{Shape}
use Rattle.vg_flatten_shapes.specs.Blocks.{Block, Skip, Both, open_code}
use Rattle.vg_flatten_shapes.specs.Made.{Made, Gives, Refused, after, behind}
use Rattle.vg_flatten_shapes.specs.Laying.{IsLong, IsPiece, Fails}
use Rattle.vg_flatten_shapes.proofs.Sizes.{block_long, late}
use Rattle.vg_flatten_control.proofs.Failing.{first_fails}

-- What the rest becomes from the place behind the code so far tells what the whole becomes.
pub record Along (at : ℕ) (whole rest : Made) (code : List Open) : Type 0 where
  pub made : (b : Block) (s : Shape) → rest ≡ Gives b s
      → (all : Block) × (whole ≡ Gives all s) × (open_code all at ≡ code ++ open_code b (at + length code))
  pub refused : (why : Fault) → rest ≡ Refused why → whole ≡ Refused why
  pub long : IsLong (at + length code) rest → IsLong at whole

pub along_starts : (at : ℕ) (m : Made) (code : List Open) → code ≡ [] → Along at m m code
along_starts at m code e =
    subst (Along at m m) (sym e)
    (record { made = λ b s h. (b, h, ap (open_code b) (from_zero at)); refused = λ why h. h; long = λ h. subst (λ n. IsLong n m) (sym (from_zero at)) h })
  where
    from_zero : (n : ℕ) → n ≡ n + 0
    from_zero n = omega arith

-- one part more
pub along_on : (at place : ℕ) (whole m : Made) (more : Shape → Made) (code new : List Open) (piece : Piece) → Along at whole (after m more) code
    → place ≡ at + length code → IsPiece piece place m → new ≡ code ++ piece.code → Along at whole (more piece.homes) new
along_on at place whole (Refused why) more code new piece h ep hp en = absurd hp
along_on at place whole (Gives a s1) more code new piece h ep hp en =
    subst (λ z. Along at whole (more z) new) (sym hp.1)
    (record {
      made = λ b s e. made_of b s (more s1) refl e;
      refused = λ why e. h.refused why (ap (behind a) e);
      long = λ far. h.long (longer (more s1) far);
    })
  where
    code_is : piece.code ≡ open_code a (at + length code)
    code_is = hp.0 ∙ ap (open_code a) ep

    n : length (code ++ piece.code) ≡ length code + length piece.code
    n = length-append code piece.code

    place_is : at + length code + length (open_code a (at + length code)) ≡ at + length new
    place_is =
        ap (λ z. at + length code + length z) (sym code_is) ∙ sum_is (length code) (length piece.code) (length (code ++ piece.code)) n
        ∙ ap (λ z. at + length z) (sym en)
      where
        sum_is : (x y z : ℕ) → z ≡ x + y → at + x + y ≡ at + z
        sum_is x y z e = omega (arith, e)

    longer : (m : Made) → IsLong (at + length new) m → IsLong (at + length code) (behind a m)
    longer (Gives b s) far =
        let l = block_long a (at + length code) in
        let is = ap length code_is in
        let all = ap length en in
        omega (arith, far, l, is, all, n)
    longer (Refused why) far = tt

    joins : (b : Block)
        → code ++ open_code (Both a b) (at + length code) ≡ new ++ open_code b (at + length new)
    joins b =
        sym (append_assoc code (open_code a (at + length code)) (open_code b (at + length code + length (open_code a (at + length code)))))
        ∙ ap (λ z. (code ++ z) ++ open_code b (at + length code + length (open_code a (at + length code)))) (sym code_is)
        ∙ ap (λ z. z ++ open_code b (at + length code + length (open_code a (at + length code)))) (sym en)
        ∙ ap (λ z. new ++ open_code b z) place_is

    made_of : (b : Block) (s : Shape) (rest : Made) → rest ≡ more s1 → more s1 ≡ Gives b s
        → (all : Block) × (whole ≡ Gives all s) × (open_code all at ≡ new ++ open_code b (at + length new))
    made_of b s rest er e =
        let (all, is, c) = h.made (Both a b) s (ap (behind a) e) in (all, is, c ∙ joins b)

-- what is left of a row is its next part and what is left behind that
pub left_of : (xs : List held.Code) (i : ℕ) (x : held.Code) → i < length xs → get_or xs i x ≡ x → drop i xs ≡ x ∷ drop (i + 1) xs
left_of [] i x lt is = absurd (omega (arith, lt))
left_of (y ∷ xs) zero x lt is = ap (λ z. z ∷ xs) is
left_of (y ∷ xs) (suc i) x lt is =
    let one : suc i + 1 ≡ suc (i + 1) = omega arith in left_of xs i x (omega (arith, lt)) is ∙ ap (λ j. x ∷ drop j (y ∷ xs)) (sym one)

-- so a part weighs less than its row
pub part_weighs : (xs : List held.Code) (i : ℕ) (x : held.Code) → i < length xs → get_or xs i x ≡ x → weight x < weights xs
part_weighs [] i x lt is = absurd (omega (arith, lt))
part_weighs (y ∷ xs) zero x lt is = let e = ap weight is in omega (arith, e)
part_weighs (y ∷ xs) (suc i) x lt is = let h = part_weighs xs i x (omega (arith, lt)) is in omega (arith, h)

-- the end of the row
pub along_ends : (at : ℕ) (whole rest : Made) (code : List Open) (s : Shape) → Along at whole rest code → rest ≡ Gives Skip s
    → IsPiece (record { code = code; homes = s }) at whole
along_ends at whole rest code s h e = by_made (h.made Skip s e)
  where
    by_made : (all : Block) × (whole ≡ Gives all s) × (open_code all at ≡ code ++ []) → IsPiece (record { code = code; homes = s }) at whole
    by_made (all, is, c) =
        subst (λ z. IsPiece (record { code = code; homes = s }) at z) (sym is) (sym (append-nil code) ∙ sym c, refl)

-- a part that is refused
pub along_fails : (at place : ℕ) (whole m : Made) (more : Shape → Made) (code : List Open) (e : Refusal Fault) → Along at whole (after m more) code
    → place ≡ at + length code → Fails e place m → Fails e at whole
along_fails at place whole m more code Memory h ep f = tt
along_fails at place whole m more code (Faulty TooLong) h ep f = h.long (first_fails (at + length code) m more (Faulty TooLong) (subst (λ n. IsLong n m) ep f))
along_fails at place whole m more code (Faulty NotTaken) h ep f = h.refused NotTaken (ap (λ z. after z more) f)
along_fails at place whole m more code (Faulty TooHigh) h ep f = h.refused TooHigh (ap (λ z. after z more) f)

-- a place that is too high
pub along_late : (at : ℕ) (whole rest : Made) (code : List Open) (e : Refusal Fault) → Along at whole rest code
    → (e ≡ Faulty TooLong) × (65535 < at + length code) → Fails e at whole
along_late at whole rest code e h f =
    subst (λ z. Fails z at whole) (sym f.0) (h.long (late (at + length code) rest (let far = f.1 in omega (arith, far))))
