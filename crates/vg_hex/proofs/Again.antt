-- The written text is read as its image, and each text as one image.
use Rattle.std.proofs.Common.{◌≡◌, ℕ, zero, suc, ◌+◌, ◌-◌, ◌*◌, ◌/◌, ◌%◌, ◌<◌, ◌≤◌, Bool, true, false, List, [], ◌∷◌, ◌++◌, length, take, drop, sum}
use Rattle.std.proofs.Common.{slice_index, Some, None, refl, sym, ap, ◌∙◌, subst, arith, append_assoc, append-nil, ◌⊎◌, inl, inr, length-append}
use Rattle.std.proofs.Common.{length-take, length-drop, ◌==◌, get_or, ext_get_or}
use Rattle.std.proofs.Math.Seq.{take-append_seam}
use Rattle.std.proofs.lemmas.List.Sums.{sum_by-append}
use Rattle.std.specs.Prelude.{if◌then◌else◌, ◌&&◌, ◌||◌, nat_le}
use Rattle.std.specs.List.{AllByRecursion}
use Rattle.std.proofs.lemmas.Bool.{false≢true}
use Rattle.hex.specs.Hex.{IsBytes, decode_pairs, encode_with, encode_upper, upper_digits, hex_digit_value}
use Rattle.hex.proofs.HexLemmas.{IsDigits-upper_digits, decode_of-encode_upper, length-encode_with}
use Rattle.vg_lines.specs.Lines.{lines, with_first, begins_lf}
use Rattle.vg_hex.specs.declared.hex_record.Base.{Base}
use Rattle.vg_hex.specs.declared.hex_record.Base.TheVariants.{Unset, Linear}
use Rattle.vg_hex.specs.declared.hex_record.HexRecord.TheVariants.{Data, NoForm}
use Rattle.vg_hex.specs.declared.fault.HexFault.{HexFault}
use Rattle.vg_hex.specs.declared.fault.HexFault.TheVariants.{Beyond, Twice}
use Rattle.vg_hex.specs.HexText.{check_of, record_line, data_line, base_line, records, end_line, hex_text}
use Rattle.vg_hex.specs.HexRecords.{typed, summed, from_bytes, from_digits, read_line}
use Rattle.vg_hex.specs.HexImage.{Named, Byte, data_address, bytes_named, record_named, lines_named, behind_end, named, is_among, first_fault}
use Rattle.vg_hex.specs.HexImage.{fault_in, byte_at, reach, HexImage}

abbrev IsByte : ℕ → Type 0
IsByte b = b < 256

-- the bytes of a list of bytes, by their places
at_places : (bs : List ℕ) → AllByRecursion IsByte bs → IsBytes bs
at_places [] h k = omega arith
at_places (b ∷ bs) h zero = h.0
at_places (b ∷ bs) h (suc k) = at_places bs h.1 k

-- no digit is an end of a line
Plain : ℕ → Type 0
Plain c = 13 < c

digit_plain : (c v : ℕ) → hex_digit_value c ≡ Some v → 13 < c
digit_plain c v e = grind (arith, e)

plain_digit : (n : ℕ) → n < 16 → Plain (slice_index upper_digits n)
unfolding Plain
plain_digit n h = digit_plain (slice_index upper_digits n) n (IsDigits-upper_digits n h)

all_plain : (bs : List ℕ) → AllByRecursion IsByte bs → AllByRecursion Plain (encode_upper bs)
unfolding encode_with
all_plain [] h = tt
all_plain (b ∷ bs) h = let i = h.0 in (plain_digit (b / 16) (omega (arith, i)), (plain_digit (b % 16) (omega arith), all_plain bs h.1))

line_first : (b : ℕ) (l : List ℕ) (rest : List (List ℕ)) (bs : List ℕ) → 13 < b → lines bs ≡ l ∷ rest → lines (b ∷ bs) ≡ (b ∷ l) ∷ rest
line_first b l rest bs h e = no_end (b == 10) (b == 13) (grind (arith, h)) (grind (arith, h))
  where
    no_end : (x y : Bool) → x ≡ false → y ≡ false → (if x then [] ∷ lines bs else if y && begins_lf bs then lines bs
        else with_first b (lines bs)) ≡ (b ∷ l) ∷ rest
    no_end true y f g = absurd (false≢true (sym f))
    no_end false true f g = absurd (false≢true (sym g))
    no_end false false f g = ap (with_first b) e

line_again : (l : List ℕ) (rest : List ℕ) → AllByRecursion Plain l → lines (l ++ 10 ∷ rest) ≡ l ∷ lines rest
unfolding Plain
line_again [] rest h = refl
line_again (b ∷ l) rest h = line_first b l (lines rest) (l ++ 10 ∷ rest) h.0 (line_again l rest h.1)

all_append : (P : ℕ → Type 0) (a b : List ℕ) → AllByRecursion P a → AllByRecursion P b → AllByRecursion P (a ++ b)
all_append P [] b h k = k
all_append P (x ∷ a) b h k = (h.0, all_append P a b h.1 k)

-- the sum of a record is 0 modulo 256
sum_last : (bs : List ℕ) (c : ℕ) → sum (bs ++ c ∷ []) ≡ sum bs + c
sum_last bs c = let e = sum_by-append (λ x. x) bs (c ∷ []) in omega (arith, e)

check_zero : (s : ℕ) → (s + (256 - s % 256) % 256) % 256 ≡ 0
check_zero s = omega arith

sum_zero : (body : List ℕ) → sum (body ++ check_of body ∷ []) % 256 ≡ 0
sum_zero body = ap (λ n. n % 256) (sum_last body (check_of body)) ∙ check_zero (sum body)

mod_small : (n : ℕ) → n % 256 < 256
mod_small n = omega arith

whole_bytes : (body : List ℕ) → AllByRecursion IsByte body → AllByRecursion IsByte (body ++ check_of body ∷ [])
whole_bytes body h = all_append IsByte body (check_of body ∷ []) h (mod_small (256 - sum body % 256), tt)

plain_line : (body : List ℕ) → AllByRecursion IsByte body → AllByRecursion Plain (record_line body)
unfolding Plain
plain_line body h = (omega arith, all_plain (body ++ check_of body ∷ []) (whole_bytes body h))

line_record : (body : List ℕ) → AllByRecursion IsByte body → read_line (record_line body) ≡ from_bytes (body ++ check_of body ∷ [])
line_record body h = ap from_digits (decode_of-encode_upper (body ++ check_of body ∷ []) (at_places (body ++ check_of body ∷ []) (whole_bytes body h)))

data_bytes : (at : ℕ) (bytes : List ℕ) → at < 65536 → length bytes ≤ 16 → AllByRecursion IsByte bytes
    → AllByRecursion IsByte (length bytes ∷ at / 256 ∷ at % 256 ∷ 0 ∷ bytes)
data_bytes at bytes h k b = (omega (arith, k), (omega (arith, h), (omega arith, (omega arith, b))))

data_record : (at : ℕ) (bytes : List ℕ) → at < 65536 → length bytes ≤ 16 → AllByRecursion IsByte bytes → read_line (data_line at bytes) ≡ Data at bytes
data_record at bytes h k b =
    let body = length bytes ∷ at / 256 ∷ at % 256 ∷ 0 ∷ bytes in
    let c = check_of body in
    let e = line_record body (data_bytes at bytes h k b) in
    let len = length-append bytes (c ∷ []) in
    let place : at / 256 * 256 + at % 256 ≡ at = omega arith in
    e ∙ chosen (length (bytes ++ c ∷ []) == length bytes + 1) (sum (body ++ c ∷ []) % 256 == 0) (at / 256 * 256 + at % 256)
    (take (length bytes) (bytes ++ c ∷ [])) (eq_test _ _ len) (eq_test _ _ (sum_zero body)) place (take-append_seam bytes (c ∷ []))
  where
    eq_test : (x y : ℕ) → x ≡ y → (x == y) ≡ true
    eq_test x y e = grind (arith, e)

    chosen : (x y : Bool) (a : ℕ) (l : List ℕ) → x ≡ true → y ≡ true → a ≡ at → l ≡ bytes
        → (if x then summed y (typed (length bytes) a 0 l) else NoForm) ≡ Data at bytes
    chosen true true a l f g p q = ap (λ n. Data n l) p ∙ ap (Data at) q
    chosen true false a l f g p q = absurd (false≢true g)
    chosen false y a l f g p q = absurd (false≢true f)

-- bytes that stand one behind another
run_of : ℕ → List ℕ → List Named
run_of a [] = []
run_of a (b ∷ bs) = Byte a b ∷ run_of (a + 1) bs

run_named : (base : Base) (at index a : ℕ) (bs : List ℕ) → ((i : ℕ) → index ≤ i → data_address base at i ≡ a + i)
    → bytes_named base at index bs ≡ run_of (a + index) bs
unfolding run_of
run_named base at index a [] h = refl
run_named base at index a (b ∷ bs) h =
    let next : a + (index + 1) ≡ a + index + 1 = omega arith in
    ap (λ n. Byte n b ∷ bytes_named base at (index + 1) bs) (h index (le_refl index))
    ∙ ap (λ l. Byte (a + index) b ∷ l) (run_named base at (index + 1) a bs (λ i le. h i (omega (arith, le))) ∙ ap (λ n. run_of n bs) next)
  where
    le_refl : (n : ℕ) → n ≤ n
    le_refl n = omega arith

-- a line in front of others
line_named : (n : ℕ) (l rest : List ℕ) (base : Base) → AllByRecursion Plain l
    → lines_named n (lines (l ++ 10 ∷ rest)) base ≡ record_named n base (read_line l) (lines_named (n + 1) (lines rest)) (behind_end (n + 1) (lines rest))
line_named n l rest base h = ap (λ ls. lines_named n ls base) (line_again l rest h)

data_named : (n at a : ℕ) (base : Base) (bytes rest : List ℕ) → at < 65536 → length bytes ≤ 16 → AllByRecursion IsByte bytes
    → ((i : ℕ) → 0 ≤ i → data_address base at i ≡ a + i) → lines_named n (lines (data_line at bytes ++ 10 ∷ rest)) base ≡ run_of a bytes ++ lines_named
    (n + 1) (lines rest) base
data_named n at a base bytes rest h k b p =
    let here : a + 0 ≡ a = omega arith in
    line_named n (data_line at bytes) rest base (plain_line (length bytes ∷ at / 256 ∷ at % 256 ∷ 0 ∷ bytes) (data_bytes at bytes h k b))
    ∙ ap (λ r. record_named n base r (lines_named (n + 1) (lines rest)) (behind_end (n + 1) (lines rest))) (data_record at bytes h k b)
    ∙ ap (λ es. es ++ lines_named (n + 1) (lines rest) base) (run_named base at 0 a bytes p ∙ ap (λ m. run_of m bytes) here)

base_plain : AllByRecursion Plain base_line
unfolding Plain
base_plain = search arith

base_named : (n : ℕ) (base : Base) (rest : List ℕ) → lines_named n (lines (base_line ++ 10 ∷ rest)) base ≡ lines_named (n + 1) (lines rest) (Linear 1)
unfolding decode_pairs
base_named n base rest = line_named n base_line rest base base_plain

all_take : (n : ℕ) (bs : List ℕ) → AllByRecursion IsByte bs → AllByRecursion IsByte (take n bs)
all_take zero bs h = tt
all_take (suc n) [] h = tt
all_take (suc n) (b ∷ bs) h = (h.0, all_take n bs h.1)

all_drop : (n : ℕ) (bs : List ℕ) → AllByRecursion IsByte bs → AllByRecursion IsByte (drop n bs)
all_drop zero bs h = h
all_drop (suc n) [] h = tt
all_drop (suc n) (b ∷ bs) h = all_drop n bs h.1

-- the base that stands before the record of an address, and the one that stands at it
Before : ℕ → Base → Type 0
Before at base = ((at ≤ 65536) × (base ≡ Unset)) ⊎ ((65536 < at) × (base ≡ Linear 1))

At : ℕ → Base → Type 0
At at base = ((at < 65536) × (base ≡ Unset)) ⊎ ((65536 ≤ at) × (base ≡ Linear 1))

base_step : (n at : ℕ) (base : Base) (rest : List ℕ) → Before at base → (m : ℕ) × (new : Base)
    × (lines_named n (lines ((if at == 65536 then base_line ++ 10 ∷ [] else []) ++ rest)) base ≡ lines_named m (lines rest) new) × At at new
unfolding Before At
base_step n at base rest h = by_test (at == 65536) refl h
  where
    by_test : (x : Bool) → (at == 65536) ≡ x → ((at ≤ 65536) × (base ≡ Unset)) ⊎ ((65536 < at) × (base ≡ Linear 1))
        → (m : ℕ) × (new : Base) × (lines_named n (lines ((if x then base_line ++ 10 ∷ [] else []) ++ rest)) base ≡ lines_named m (lines rest) new)
        × (((at < 65536) × (new ≡ Unset)) ⊎ ((65536 ≤ at) × (new ≡ Linear 1)))
    by_test true e h = (n + 1, Linear 1, base_named n base rest, inr (grind (arith, e), refl))
    by_test false e (inl h) = (n, base, refl, inl (grind (arith, e, h), h.1))
    by_test false e (inr h) = (n, base, refl, inr (grind (arith, h), h.1))

place_of : (at : ℕ) (new : Base) → at < 131072 → At at new → (i : ℕ) → data_address new (at % 65536) i ≡ at + i
unfolding At
place_of at new h (inl k) i = let a = k.0 in ap (λ b. data_address b (at % 65536) i) k.1 ∙ omega (arith, a)
place_of at new h (inr k) i = let a = k.0 in ap (λ b. data_address b (at % 65536) i) k.1 ∙ omega (arith, a, h)

next_base : (at : ℕ) (new : Base) → at % 16 ≡ 0 → At at new → Before (at + 16) new
unfolding At Before
next_base at new m (inl k) = let a = k.0 in inl (omega (arith, a, m), k.1)
next_base at new m (inr k) = let a = k.0 in inr (omega (arith, a), k.1)

run_halves : (n a : ℕ) (l : List ℕ) → run_of a (take n l) ++ run_of (a + n) (drop n l) ≡ run_of a l
unfolding run_of
run_halves zero a l = ap (λ i. run_of i l) (omega arith)
run_halves (suc n) a [] = refl
run_halves (suc n) a (x ∷ l) =
    let e : a + suc n ≡ a + 1 + n = omega arith in
    ap (λ i. Byte a x ∷ (run_of (a + 1) (take n l) ++ run_of i (drop n l))) e ∙ ap (λ r. Byte a x ∷ r) (run_halves n (a + 1) l)

records_again : (n line at : ℕ) (base : Base) (bytes tail : List ℕ) → n ≡ (length bytes + 15) / 16 → at + length bytes ≤ 131072 → at % 16 ≡ 0
    → AllByRecursion IsByte bytes → Before at base → (m : ℕ) × (last : Base)
    × (lines_named line (lines (records n at bytes ++ tail)) base ≡ run_of at bytes ++ lines_named m (lines tail) last)
unfolding run_of
records_again zero line at base [] tail e h m b p = (line, base, refl)
records_again zero line at base (x ∷ bytes) tail e h m b p = absurd (omega (arith, e))
records_again (suc n) line at base bytes tail e h m b p =
    let rest = records n (at + 16) (drop 16 bytes) ++ tail in
    let s = base_step line at base (data_line (at % 65536) (take 16 bytes) ++ 10 ∷ rest) p in
    let ld = length-drop 16 bytes in
    let r = records_again n (s.0 + 1) (at + 16) s.1 (drop 16 bytes) tail (fewer n (length bytes) (length (drop 16 bytes)) e ld) (omega (arith, e, h, ld, m))
    (omega (arith, m)) (all_drop 16 bytes b) (next_base at s.1 m s.3) in
    let in_range : at < 131072 = omega (arith, e, h) in
    let d = data_named s.0 (at % 65536) at s.1 (take 16 bytes) rest (omega arith) (short 16 bytes) (all_take 16 bytes b)
    (λ i le. place_of at s.1 in_range s.3 i) in (
      r.0,
      r.1,
      ap (λ l. lines_named line (lines l) base) (append_assoc (if at == 65536 then base_line ++ 10 ∷ []
          else []) (data_line (at % 65536) (take 16 bytes) ++ 10 ∷ records n (at + 16) (drop 16 bytes)) tail)
          ∙ ap (λ l. lines_named line (lines ((if at == 65536 then base_line ++ 10 ∷ [] else []) ++ l)) base)
          (append_assoc (data_line (at % 65536) (take 16 bytes)) (10 ∷ records n (at + 16) (drop 16 bytes)) tail)
          ∙ s.2 ∙ d
          ∙ ap (λ l. run_of at (take 16 bytes) ++ l) r.2
          ∙ sym (append_assoc (run_of at (take 16 bytes)) (run_of (at + 16) (drop 16 bytes)) (lines_named r.0 (lines tail) r.1))
          ∙ ap (λ l. l ++ lines_named r.0 (lines tail) r.1) (run_halves 16 at bytes),
    )
  where
    fewer : (n l d : ℕ) → suc n ≡ (l + 15) / 16 → d ≡ l - 16 → n ≡ (d + 15) / 16
    fewer n l d e f = omega (arith, e, f)

    short : (n : ℕ) (l : List ℕ) → length (take n l) ≤ n
    short zero l = omega arith
    short (suc n) [] = omega arith
    short (suc n) (x ∷ l) = let h = short n l in omega (arith, h)

end_named : (n : ℕ) (base : Base) → lines_named n (lines (end_line ++ 10 ∷ [])) base ≡ []
unfolding decode_pairs
end_named n base = refl

named_again : (image : List ℕ) → length image ≤ 131072 → AllByRecursion IsByte image → named (hex_text image) ≡ run_of 0 image
unfolding Before
named_again image h b =
    let r = records_again ((length image + 15) / 16) 1 0 Unset image (end_line ++ 10 ∷ []) refl (omega (arith, h)) (omega arith) b (inl (omega arith, refl)) in
    r.2 ∙ ap (λ es. run_of 0 image ++ es) (end_named r.0 r.1) ∙ append-nil (run_of 0 image)

eq_false : (a b : ℕ) → (a ≡ b → ⊥) → (a == b) ≡ false
eq_false a b h = grind (arith, h)

eq_true : (a b : ℕ) → a ≡ b → (a == b) ≡ true
eq_true a b h = grind (arith, h)

-- no earlier byte has this address or a later one
Clear : ℕ → List ℕ → Type 0
Clear a seen = (x : ℕ) → a ≤ x → is_among x seen ≡ false

clear_more : (a : ℕ) (seen : List ℕ) → Clear a seen → Clear (a + 1) (a ∷ seen)
unfolding Clear
clear_more a seen h x k = ap (λ t. t || is_among x seen) (eq_false x a (λ e. absurd (omega (arith, k, e)))) ∙ h x (omega (arith, k))

le_self : (a : ℕ) → a ≤ a
le_self a = omega arith

fine : (a : ℕ) (bs : List ℕ) (seen : List ℕ) → a + length bs ≤ 131072 → Clear a seen → first_fault seen (run_of a bs) ≡ None
unfolding Clear run_of
fine a [] seen h c = refl
fine a (b ∷ bs) seen h c = pass (nat_le 131072 a) (is_among a seen) (in_range a h) (c a (le_self a))
    (fine (a + 1) bs (a ∷ seen) (omega (arith, h)) (clear_more a seen c))
  where
    in_range : (a : ℕ) → a + suc (length bs) ≤ 131072 → nat_le 131072 a ≡ false
    in_range a h = grind (arith, h)

    pass : (x y : Bool) → x ≡ false → y ≡ false → first_fault (a ∷ seen) (run_of (a + 1) bs) ≡ None
        → (if x then Some (Beyond a) else if y then Some (Twice a) else first_fault (a ∷ seen) (run_of (a + 1) bs)) ≡ None
    pass true y e f g = absurd (false≢true (sym e))
    pass false true e f g = absurd (false≢true (sym f))
    pass false false e f g = g

reach_is : (a : ℕ) (b : ℕ) (bs : List ℕ) → reach (run_of a (b ∷ bs)) ≡ a + suc (length bs)
unfolding run_of
reach_is a b [] = omega arith
reach_is a b (c ∷ bs) = let h = reach_is (a + 1) c bs in omega (arith, h)

at_is : (a i : ℕ) (bs : List ℕ) → i < length bs → get_or bs i 0 ≡ byte_at (a + i) (run_of a bs)
unfolding run_of
at_is a i [] h = absurd (omega (arith, h))
at_is a zero (b ∷ bs) h = sym (ap (λ t. if t then b else byte_at (a + 0) (run_of (a + 1) bs)) (eq_true (a + 0) a (omega arith)))
at_is a (suc i) (b ∷ bs) h =
    let e : a + 1 + i ≡ a + suc i = omega arith in
    at_is (a + 1) i bs (omega (arith, h)) ∙ ap (λ j. byte_at j (run_of (a + 1) bs)) e
    ∙ sym (ap (λ t. if t then b else byte_at (a + suc i) (run_of (a + 1) bs)) (eq_false (a + suc i) a (λ f. absurd (omega (arith, f)))))

reach_all : (bs : List ℕ) → length bs ≡ reach (run_of 0 bs)
unfolding run_of
reach_all [] = refl
reach_all (b ∷ bs) = let h = reach_is 0 b bs in omega (arith, h)

pub read_again : (image : List ℕ) → length image ≤ 131072 → AllByRecursion (λ b. b < 256) image → HexImage (hex_text image) image
unfolding Clear
read_again image h b =
    let e = named_again image h b in
    record {
      faultless = ap (first_fault []) e ∙ fine 0 image [] (omega (arith, h)) (λ x k. refl);
      whole = reach_all image ∙ ap reach (sym e);
      bytes = λ a k. at_is 0 a image k ∙ ap (λ j. byte_at j (run_of 0 image)) (omega arith) ∙ ap (byte_at a) (sym e);
    }

pub one_image : (text a b : List ℕ) → HexImage text a → HexImage text b → a ≡ b
one_image text a b h k =
    let l = h.whole ∙ sym k.whole in
    ext_get_or 0 a b l (λ i lt. h.bytes i lt ∙ sym (k.bytes i (subst (λ n. i < n) l lt)))

-- a text that is the written one of an image is read as that image
pub written_read : (text image bytes front start : List ℕ) → start ≡ [] → front ≡ start ++ records ((length bytes + 15) / 16) 0 bytes
    → text ≡ front ++ (end_line ++ 10 ∷ []) → bytes ≡ image → length image ≤ 131072 → AllByRecursion (λ b. b < 256) bytes → HexImage text image
written_read text image bytes front start s f e same h b =
    let whole : text ≡ hex_text bytes =
    e ∙ ap (λ l. l ++ (end_line ++ 10 ∷ [])) (f ∙ ap (λ l. l ++ records ((length bytes + 15) / 16) 0 bytes) s) in
    subst (λ t. HexImage t image) (sym (whole ∙ ap hex_text same)) (read_again image h (subst (AllByRecursion (λ b. b < 256)) same b))

-- a record takes at most 60 bytes of text, its base line with it
length_data : (at : ℕ) (bytes : List ℕ) → length (data_line at bytes) ≡ 11 + 2 * length bytes
length_data at bytes =
    let body = length bytes ∷ at / 256 ∷ at % 256 ∷ 0 ∷ bytes in
    let e = length-encode_with upper_digits (body ++ check_of body ∷ []) in
    let f = length-append body (check_of body ∷ []) in
    omega (arith, e, f)

length_base : (t : Bool) → length (if t then base_line ++ 10 ∷ [] else []) ≤ 16
length_base true = omega arith
length_base false = omega arith

length_records : (n at : ℕ) (bytes : List ℕ) → length (records n at bytes) ≤ 60 * n
length_records zero at bytes = omega arith
length_records (suc n) at bytes =
    let base = if at == 65536 then base_line ++ 10 ∷ [] else [] in
    let line = data_line (at % 65536) (take 16 bytes) in
    let rest = records n (at + 16) (drop 16 bytes) in
    let h = length_records n (at + 16) (drop 16 bytes) in
    let a = length-append base (line ++ 10 ∷ rest) in
    let b = length-append line (10 ∷ rest) in
    let c = length_base (at == 65536) in
    let d = length_data (at % 65536) (take 16 bytes) in
    let e = length-take 16 bytes in
    omega (arith, h, a, b, c, d, e)

pub written_short : (text bytes front start : List ℕ) → start ≡ [] → front ≡ start ++ records ((length bytes + 15) / 16) 0 bytes
    → text ≡ front ++ (end_line ++ 10 ∷ []) → length bytes ≤ 131072 → length text ≤ 1048576
written_short text bytes front start s f e h =
    let all = records ((length bytes + 15) / 16) 0 bytes in
    let whole : text ≡ all ++ (end_line ++ 10 ∷ []) = e ∙ ap (λ l. l ++ (end_line ++ 10 ∷ [])) (f ∙ ap (λ l. l ++ all) s) in
    let a = ap length whole in
    let b = length-append all (end_line ++ 10 ∷ []) in
    let c = length_records ((length bytes + 15) / 16) 0 bytes in
    omega (arith, a, b, c, h)

-- what has an image has no fault
pub no_fault : (text image : List ℕ) (f : HexFault) → HexImage text image → fault_in text ≡ Some f → ⊥
no_fault text image f h e = let g : None ≡ Some f = sym h.faultless ∙ e in cc
