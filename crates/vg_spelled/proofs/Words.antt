-- What the tokens of chars and strings stand for.
use Rattle.std.proofs.Common.{◌≡◌, refl, sym, ap, subst, ◌∙◌, arith, ℕ, zero, suc, ◌+◌, ◌-◌, ◌<◌, ◌≤◌, ◌==◌, ◌&&◌, not, Bool, true, false}
use Rattle.std.proofs.Common.{List, [], ◌∷◌, length, take, drop, Option, Some, None, bytes_eq, if◌then◌else◌}
use Rattle.std.specs.List.{AllByRecursion}
use Rattle.vg_syntax.specs.declared.kind.Kind.{Kind}
use Rattle.vg_syntax.specs.declared.kind.Kind.TheVariants as kind
use Rattle.vg_syntax.specs.declared.lexeme.Lexeme.{Lexeme}
use Rattle.vg_syntax.specs.declared.token.Token.{Token}
use Rattle.vg_syntax.specs.declared.gap.Mode.TheVariants.{Code}
use Rattle.vg_syntax.specs.Bytes.{is_letter, is_digit, is_hex_digit, is_printable}
use Rattle.vg_syntax.specs.Hexadecimal.{digit_value}
use Rattle.vg_syntax.specs.Spellings.{Spelling, kind_spelled, reserved_words, double_signs, single_signs}
use Rattle.vg_syntax.specs.Lexemes.{taking, found_or, run_length, word, number, is_number, is_escape, is_hex_escape, escape_length}
use Rattle.vg_syntax.specs.Lexemes.{element_length, begins_with, char_literal, string_end, ending, string_literal, sign, lexeme}
use Rattle.vg_syntax.specs.Tokens.{gap, token_at, next_token, AreTokens, text_of}
use Rattle.vg_source.specs.Literals.{Progress, Between, Escape, FirstDigit, SecondDigit, escaped, elements, bytes_of, char_of}
use Rattle.vg_source_ranges.proofs.Numbers.{both}

abbrev pub AllBytes : List ℕ → Type 0
AllBytes bs = AllByRecursion (λ b. b < 256) bs

-- what is known of a token
abbrev pub IsSpelledWord : (most : ℕ) → Kind → List ℕ → Type 0
IsSpelledWord most kind.CharLiteral text = char_of text < 256
IsSpelledWord most kind.StringLiteral text = AllBytes (bytes_of text) × (length (bytes_of text) ≤ most)
IsSpelledWord most _ text = Unit {0}

-- ---- choices and lengths

cases_if : {A : Type 0} (P : A → Type 0) (b : Bool) (x y : A) → (b ≡ true → P x) → (b ≡ false → P y) → P (if b then x else y)
cases_if P true x y f g = f refl
cases_if P false x y f g = g refl

false_true : {B : Type 0} → false ≡ true → B
false_true e = absurd cc

true_false : {B : Type 0} → true ≡ false → B
true_false e = absurd cc

short_take : (n : ℕ) (xs : List ℕ) → length (take n xs) ≤ n
short_take zero xs = omega arith
short_take (suc n) [] = omega arith
short_take (suc n) (x ∷ xs) = let h = short_take n xs in omega (arith, h)

part_take : (n : ℕ) (xs : List ℕ) → length (take n xs) ≤ length xs
part_take zero xs = omega arith
part_take (suc n) [] = omega arith
part_take (suc n) (x ∷ xs) = let h = part_take n xs in omega (arith, h)

part_drop : (n : ℕ) (xs : List ℕ) → length (drop n xs) ≤ length xs
part_drop zero xs = omega arith
part_drop (suc n) [] = omega arith
part_drop (suc n) (x ∷ xs) = let h = part_drop n xs in omega (arith, h)

-- a part of a part is one
part_part : (j n : ℕ) (xs : List ℕ) → (m : ℕ) × (m ≤ j) × (take j (take n xs) ≡ take m xs)
part_part zero n xs = (0, omega arith, refl)
part_part (suc j) zero xs = (0, omega arith, refl)
part_part (suc j) (suc n) [] = (0, omega arith, refl)
part_part (suc j) (suc n) (x ∷ xs) = let q = part_part j n xs in (suc q.0, (let h = q.1 in omega (arith, h)), ap (λ z. x ∷ z) q.2)

-- ---- elements

one_digit : (b : ℕ) → is_hex_digit b ≡ true → digit_value b < 16
one_digit b e = grind (arith, e)

printed : (b : ℕ) → is_printable b ≡ true → b < 256
printed b e = grind (arith, e)

escape_small : (b : ℕ) → is_escape b ≡ true → b < 256
escape_small b e = grind (arith, e)

escape_other : (b : ℕ) → is_escape b ≡ true → (b == 120) ≡ false
escape_other b e = grind (arith, e)

escaped_small : (b : ℕ) → b < 256 → escaped b < 256
escaped_small b h =
    cases_if (λ z. z < 256) (b == 110) _ _ (λ e. omega arith)
    (λ e. cases_if (λ z. z < 256) (b == 114) _ _ (λ f. omega arith)
    (λ f. cases_if (λ z. z < 256) (b == 116) _ _ (λ g. omega arith)
    (λ g. cases_if (λ z. z < 256) (b == 48) _ _ (λ k. omega arith) (λ k. h))))

-- how an element begins a text, and how many bytes it takes
data Shape : List ℕ → ℕ → Type 0 where
  plain : {b : ℕ} {bs : List ℕ} → (b == 92) ≡ false → b < 256 → Shape (b ∷ bs) 1
  letter : {b c : ℕ} {bs : List ℕ} → (b == 92) ≡ true → (c == 120) ≡ false → escaped c < 256 → Shape (b ∷ c ∷ bs) 2
  digits : {b x h l : ℕ} {bs : List ℕ} → (b == 92) ≡ true → (x == 120) ≡ true → digit_value h < 16 → digit_value l < 16 → Shape (b ∷ x ∷ h ∷ l ∷ bs) 4

abbrev Escaped : List ℕ → ℕ → Type 0
Escaped bs e = (b : ℕ) → (b == 92) ≡ true → Shape (b ∷ bs) (e + 1)

hexadecimal : (bs : List ℕ) → is_hex_escape bs ≡ true → Escaped bs 3
hexadecimal [] e = false_true e
hexadecimal (x ∷ []) e = false_true e
hexadecimal (x ∷ h ∷ []) e = false_true e
hexadecimal (x ∷ h ∷ l ∷ bs) e =
    let q = both ((x == 120) && is_hex_digit h) (is_hex_digit l) e in
    let r = both (x == 120) (is_hex_digit h) q.0 in λ b n. digits n r.0 (one_digit h r.1) (one_digit l q.1)

escape_shape : (bs : List ℕ) → (escape_length bs == 0) ≡ false → Escaped bs (escape_length bs)
escape_shape [] e = true_false e
escape_shape (c ∷ cs) d =
    cases_if (λ z. (z == 0) ≡ false → Escaped (c ∷ cs) z) (is_escape c) 1 _
    (λ q g b n. letter n (escape_other c q) (escaped_small c (escape_small c q)))
    (λ q. cases_if (λ z. (z == 0) ≡ false → Escaped (c ∷ cs) z) (is_hex_escape (c ∷ cs)) 3 0 (λ r g. hexadecimal (c ∷ cs) r) (λ r g. true_false g)) d

shape : (q : ℕ) (bs : List ℕ) → (element_length q bs == 0) ≡ false → Shape bs (element_length q bs)
shape q [] e = true_false e
shape q (b ∷ bs) d =
    cases_if (λ z. (z == 0) ≡ false → Shape (b ∷ bs) z) (b == 92) _ _
    (λ n. cases_if (λ z. (z == 0) ≡ false → Shape (b ∷ bs) z) (escape_length bs == 0) 0 _ (λ r g. true_false g) (λ r g. escape_shape bs r b n))
    (λ n. cases_if (λ z. (z == 0) ≡ false → Shape (b ∷ bs) z) (is_printable b && not (b == q)) 1 0
    (λ r g. plain n (printed b (both (is_printable b) (not (b == q)) r).0)) (λ r g. true_false g)) d

at_plain : (b : ℕ) (xs : List ℕ) → (b == 92) ≡ false → b ∷ elements Between xs ≡ elements Between (b ∷ xs)
at_plain b xs n = ap (λ z. if z then elements Escape xs else b ∷ elements Between xs) (sym n)

at_escape : (b : ℕ) (xs : List ℕ) → (b == 92) ≡ true → elements Escape xs ≡ elements Between (b ∷ xs)
at_escape b xs n = ap (λ z. if z then elements Escape xs else b ∷ elements Between xs) (sym n)

at_letter : (c : ℕ) (xs : List ℕ) → (c == 120) ≡ false → escaped c ∷ elements Between xs ≡ elements Escape (c ∷ xs)
at_letter c xs n = ap (λ z. if z then elements FirstDigit xs else escaped c ∷ elements Between xs) (sym n)

at_digits : (c : ℕ) (xs : List ℕ) → (c == 120) ≡ true → elements FirstDigit xs ≡ elements Escape (c ∷ xs)
at_digits c xs n = ap (λ z. if z then elements FirstDigit xs else escaped c ∷ elements Between xs) (sym n)

-- what an element stands for is a byte, and so are those behind it
behind : (bs : List ℕ) (e : ℕ) → Shape bs e → (k : ℕ) → ((m : ℕ) → m + e ≤ k → AllBytes (elements Between (take m (drop e bs))))
    → AllBytes (elements Between (take k bs))
behind [] e x k f = elim x [ ]
behind (b ∷ bs) _ (plain n s) zero f = tt
behind (b ∷ bs) _ (plain n s) (suc k) f = subst AllBytes (at_plain b (take k bs) n) (s, f k (omega arith))
behind (b ∷ c ∷ bs) _ (letter n o s) zero f = tt
behind (b ∷ c ∷ bs) _ (letter n o s) (suc zero) f = subst AllBytes (at_escape b [] n) tt
behind (b ∷ c ∷ bs) _ (letter n o s) (suc (suc k)) f =
    subst AllBytes (at_letter c (take k bs) o ∙ at_escape b (c ∷ take k bs) n) (s, f k (omega arith))
behind (b ∷ x ∷ h ∷ l ∷ bs) _ (digits n o s t) zero f = tt
behind (b ∷ x ∷ h ∷ l ∷ bs) _ (digits n o s t) (suc zero) f = subst AllBytes (at_escape b [] n) tt
behind (b ∷ x ∷ h ∷ l ∷ bs) _ (digits n o s t) (suc (suc zero)) f = subst AllBytes (at_digits x [] o ∙ at_escape b (x ∷ []) n) tt
behind (b ∷ x ∷ h ∷ l ∷ bs) _ (digits n o s t) (suc (suc (suc zero))) f =
    subst AllBytes (at_digits x (h ∷ []) o ∙ at_escape b (x ∷ h ∷ []) n) tt
behind (b ∷ x ∷ h ∷ l ∷ bs) _ (digits n o s t) (suc (suc (suc (suc k)))) f =
    subst AllBytes (at_digits x (h ∷ l ∷ take k bs) o ∙ at_escape b (x ∷ h ∷ l ∷ take k bs) n)
    ((let u = s in let v = t in omega (arith, u, v)), f k (omega arith))

-- ---- chars and strings

-- what stands between the quotes of the first bytes of a text
between : (q n : ℕ) (bs : List ℕ) → (m : ℕ) × (m ≤ n - 1) × (bytes_of (take (suc n) (q ∷ bs)) ≡ elements Between (take m bs))
between q n bs =
    let p = part_part (length (take (suc n) (q ∷ bs)) - 2) n bs in
    let s = short_take n bs in
    let h = p.1 in
    let c : length (take (suc n) (q ∷ bs)) ≡ suc (length (take n bs)) = refl in (p.0, omega (arith, s, h, c), ap (elements Between) p.2)

first_small : (spelled : List ℕ) → AllBytes (bytes_of spelled) → char_of spelled < 256
first_small spelled h = by (bytes_of spelled) refl h
  where
    by : (xs : List ℕ) → bytes_of spelled ≡ xs → AllBytes xs → char_of spelled < 256
    by [] e k = rw e (omega arith)
    by (x ∷ xs) e (k, l) = rw e k

char_small : (q e : ℕ) (bs : List ℕ) → Shape bs e → (len : ℕ) → len ≡ e + 2 → char_of (take len (q ∷ bs)) < 256
char_small q e bs s len same =
    let a : len ≡ suc (e + 1) = omega (arith, same) in
    let p = between q (e + 1) bs in
    subst (λ z. char_of (take z (q ∷ bs)) < 256) (sym a)
    (first_small (take (suc (e + 1)) (q ∷ bs)) (subst AllBytes (sym p.2) (behind bs e s p.0 (λ m l. nothing m (let h = p.1 in omega (arith, l, h))))))
  where
    nothing : (m : ℕ) → m ≡ 0 → AllBytes (elements Between (take m (drop e bs)))
    nothing m z = subst (λ k. AllBytes (elements Between (take k (drop e bs)))) (sym z) tt

-- the bytes of a string up to its end
drop_more : (e b : ℕ) (bs : List ℕ) → (e == 0) ≡ false → drop (e - 1) bs ≡ drop e (b ∷ bs)
drop_more zero b bs n = true_false n
drop_more (suc e) b bs n = let q : suc e - 1 ≡ e = omega arith in ap (λ z. drop z bs) q

abbrev Inner : (left passed len : ℕ) → List ℕ → Type 0
Inner left passed len bs =
    string_end left passed bs ≡ Some len → (m : ℕ) → left + m + passed + 1 ≤ len → AllBytes (elements Between (take m (drop left bs)))

next : (b passed len : ℕ) (bs : List ℕ) → ((left : ℕ) → Inner left (passed + 1) len bs) → Inner zero passed len (b ∷ bs)
next b passed len bs again =
    cases_if (λ z. z ≡ Some len → (m : ℕ) → 0 + m + passed + 1 ≤ len → AllBytes (elements Between (take m (b ∷ bs)))) (b == 34) _ _
    (λ e f m l. empty m (let g : passed + 1 ≡ len = cc in omega (arith, l, g)))
    (λ e. cases_if (λ z. z ≡ Some len → (m : ℕ) → 0 + m + passed + 1 ≤ len → AllBytes (elements Between (take m (b ∷ bs))))
    (element_length 34 (b ∷ bs) == 0) None _ (λ g f. no f)
    (λ g f m l. behind (b ∷ bs) (element_length 34 (b ∷ bs)) (shape 34 (b ∷ bs) g) m
    (λ k h. subst (λ z. AllBytes (elements Between (take k z))) (drop_more (element_length 34 (b ∷ bs)) b bs g)
    (again (element_length 34 (b ∷ bs) - 1) f k (least (element_length 34 (b ∷ bs)) g k m h l)))))
  where
    empty : (m : ℕ) → m ≡ 0 → AllBytes (elements Between (take m (b ∷ bs)))
    empty m z = subst (λ k. AllBytes (elements Between (take k (b ∷ bs)))) (sym z) tt

    no : {B : Type 0} → None ≡ Some len → B
    no f = absurd cc

    least : (e : ℕ) → (e == 0) ≡ false → (k m : ℕ) → k + e ≤ m → 0 + m + passed + 1 ≤ len → e - 1 + k + (passed + 1) + 1 ≤ len
    least zero g k m h l = true_false g
    least (suc e) g k m h l = omega (arith, h, l)

inner : (left passed len : ℕ) (bs : List ℕ) → Inner left passed len bs
inner left passed len [] e m l = absurd (none left e)
  where
    none : (n : ℕ) → string_end n passed [] ≡ Some len → ⊥
    none zero f = let clash : None ≡ Some len = f in cc
    none (suc n) f = let clash : None ≡ Some len = f in cc
inner (suc left) passed len (b ∷ bs) e m l = inner left (passed + 1) len bs e m (omega (arith, l))
inner zero passed len (b ∷ bs) e m l = next b passed len bs (λ left. inner left (passed + 1) len bs) e m l

string_bytes : (q len : ℕ) (bs : List ℕ) → string_end 0 1 bs ≡ Some len → AllBytes (bytes_of (take len (q ∷ bs)))
string_bytes q zero bs e = tt
string_bytes q (suc n) bs e = let p = between q n bs in subst AllBytes (sym p.2) (by p.0 p.1)
  where
    by : (m : ℕ) → m ≤ n - 1 → AllBytes (elements Between (take m bs))
    by zero l = tt
    by (suc m) l = inner 0 1 (suc n) bs e (suc m) (omega (arith, l))

-- elements stand for no more bytes than they take
no_more : (at : Progress) (bs : List ℕ) → length (elements at bs) ≤ length bs
no_more Between [] = omega arith
no_more Escape [] = omega arith
no_more FirstDigit [] = omega arith
no_more (SecondDigit first) [] = omega arith
no_more Between (b ∷ bs) =
    let h = no_more Escape bs in
    let k = no_more Between bs in
    cases_if (λ z. length z ≤ length (b ∷ bs)) (b == 92) _ _ (λ e. omega (arith, h)) (λ e. omega (arith, k))
no_more Escape (b ∷ bs) =
    let h = no_more FirstDigit bs in
    let k = no_more Between bs in
    cases_if (λ z. length z ≤ length (b ∷ bs)) (b == 120) _ _ (λ e. omega (arith, h)) (λ e. omega (arith, k))
no_more FirstDigit (b ∷ bs) = let h = no_more (SecondDigit (digit_value b)) bs in omega (arith, h)
no_more (SecondDigit first) (b ∷ bs) = let h = no_more Between bs in omega (arith, h)

few_bytes : (spelled : List ℕ) → length (bytes_of spelled) ≤ length spelled
few_bytes spelled =
    let a = no_more Between (take (length spelled - 2) (drop 1 spelled)) in
    let b = part_take (length spelled - 2) (drop 1 spelled) in
    let c = part_drop 1 spelled in omega (arith, a, b, c)

-- ---- what a text begins with

abbrev is_plain : Kind → Bool
is_plain kind.CharLiteral = false
is_plain kind.StringLiteral = false
is_plain _ = true

plain_spelled : (most : ℕ) (k : Kind) (text : List ℕ) → is_plain k ≡ true → IsSpelledWord most k text
plain_spelled most kind.CharLiteral text e = false_true e
plain_spelled most kind.StringLiteral text e = false_true e
plain_spelled most _ text e = tt

abbrev all_plain : List Spelling → Bool
all_plain [] = true
all_plain (s ∷ table) = is_plain s.kind && all_plain table

words_plain : all_plain reserved_words ≡ true
unfolding reserved_words
words_plain = refl

doubles_plain : all_plain double_signs ≡ true
unfolding double_signs
doubles_plain = refl

singles_plain : all_plain single_signs ≡ true
unfolding single_signs
singles_plain = refl

module _ (most : ℕ) (l : List ℕ) (h : length l ≤ most) where
  abbrev Begins : Lexeme → Type 0
  Begins x = IsSpelledWord most x.kind (take x.length l)

  by_table : (text : List ℕ) (n : ℕ) (other : Lexeme) → Begins other → (table : List Spelling) → all_plain table ≡ true
      → Begins (found_or (kind_spelled text table) n other)
  by_table text n other b [] e = b
  by_table text n other b (s ∷ table) e =
      let q = both (is_plain s.kind) (all_plain table) e in
      cases_if (λ z. Begins (found_or z n other)) (bytes_eq s.text text) _ _ (λ f. plain_spelled most s.kind _ q.0) (λ f. by_table text n other b table q.1)

  a_word : Begins (word l)
  a_word = by_table _ _ _ tt reserved_words words_plain

  a_number : Begins (number l)
  a_number = cases_if Begins (is_number (take (run_length l) l)) _ _ (λ e. tt) (λ e. tt)

  a_sign : Begins (sign l)
  a_sign = by_table _ 2 _ (by_table _ 1 _ tt single_signs singles_plain) double_signs doubles_plain

  a_char : (q : ℕ) (bs : List ℕ) → q ∷ bs ≡ l → Begins (char_literal bs)
  a_char q bs same =
      cases_if Begins (not (element_length 39 bs == 0) && begins_with 39 (drop (element_length 39 bs) bs)) _ _
      (λ e. let r = both (not (element_length 39 bs == 0)) (begins_with 39 (drop (element_length 39 bs) bs)) e in
      subst (λ z. char_of (take (element_length 39 bs + 2) z) < 256) same
      (char_small q (element_length 39 bs) bs (shape 39 bs (turned (element_length 39 bs == 0) r.0)) (element_length 39 bs + 2) refl)) (λ e. tt)
    where
      turned : (b : Bool) → not b ≡ true → b ≡ false
      turned true e = false_true e
      turned false e = refl

  a_string : (q : ℕ) (bs : List ℕ) → q ∷ bs ≡ l → Begins (string_literal bs)
  a_string q bs same = by (string_end 0 1 bs) refl
    where
      by : (o : Option ℕ) → string_end 0 1 bs ≡ o → Begins (ending o (taking kind.Unknown (length bs + 1)))
      by None e = tt
      by (Some n) e = (
        subst (λ z. AllBytes (bytes_of (take n z))) same (string_bytes q n bs e),
        (let a = few_bytes (take n l) in let b = part_take n l in let c = h in omega (arith, a, b, c)),
      )

begun : (most : ℕ) (l : List ℕ) → length l ≤ most → IsSpelledWord most (lexeme l).kind (take (lexeme l).length l)
begun most [] h = tt
begun most (b ∷ bs) h =
    cases_if (Begins most (b ∷ bs) h) (is_letter b) _ _ (λ e. a_word most (b ∷ bs) h)
    (λ e. cases_if (Begins most (b ∷ bs) h) (is_digit b) _ _ (λ f. a_number most (b ∷ bs) h)
    (λ f. cases_if (Begins most (b ∷ bs) h) (b == 39) _ _ (λ g. a_char most (b ∷ bs) h b bs refl)
    (λ g. cases_if (Begins most (b ∷ bs) h) (b == 34) _ _ (λ k. a_string most (b ∷ bs) h b bs refl) (λ k. a_sign most (b ∷ bs) h))))

-- ---- tokens

abbrev pub IsTold : List ℕ → Token → Type 0
IsTold bytes t = IsSpelledWord (length bytes) t.kind (text_of bytes t)

told_at : (bytes : List ℕ) (start : ℕ) → IsTold bytes (token_at bytes start)
told_at bytes start =
    let l = drop start bytes in
    let q : (lexeme l).length ≡ start + (lexeme l).length - start = omega arith in
    subst (λ z. IsSpelledWord (length bytes) (lexeme l).kind (take z l)) q (begun (length bytes) l (part_drop start bytes))

told_next : (bytes : List ℕ) (offset : ℕ) (t : Token) → next_token bytes offset ≡ Some t → IsTold bytes t
told_next bytes offset t = by _ (told_at bytes (offset + gap Code (drop offset bytes)))
  where
    by : (b : Bool) → IsTold bytes (token_at bytes (offset + gap Code (drop offset bytes)))
        → (if b then Some (token_at bytes (offset + gap Code (drop offset bytes))) else None) ≡ Some t → IsTold bytes t
    by true g e = let q : token_at bytes (offset + gap Code (drop offset bytes)) ≡ t = cc in subst (IsTold bytes) q g
    by false g e = absurd (let clash : None ≡ Some t = e in cc)

pub all_told : (bytes : List ℕ) (ts : List Token) (offset : ℕ) → AreTokens bytes offset ts → AllByRecursion (IsTold bytes) ts
all_told bytes [] offset h = tt
all_told bytes (t ∷ ts) offset (e, h) = (told_next bytes offset t e, all_told bytes ts t.end h)
