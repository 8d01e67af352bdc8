-- How many bytes the tokens take: at least one, and no more than there are.
-- By cases on the first byte, as the lexeme itself: a word, a number, a character, a string, a sign. A literal is walked
-- element by element; for reserved words and signs the tables are computed, since each text in them has a known length.
use Rattle.std.proofs.Common.{◌≡◌, ℕ, ◌+◌, ◌-◌, ◌<◌, ◌≤◌, Bool, true, false, not, zero, suc, List, [], ◌∷◌, length, take, drop, Option, Some, None, refl, sym}
use Rattle.std.proofs.Common.{ap, ◌∙◌, arith}
use Rattle.std.specs.Prelude.{◌&&◌, ◌==◌, if◌then◌else◌, bytes_eq, slice_get}
use Rattle.vg_syntax.specs.Bytes.{is_letter, is_digit, is_word_byte}
use Rattle.vg_syntax.specs.declared.kind.Kind.{Kind}
use Rattle.vg_syntax.specs.declared.kind.Kind.TheVariants as kind
use Rattle.vg_syntax.specs.declared.lexeme.Lexeme.{Lexeme}
use Rattle.std.proofs.lemmas.Bool.{eqb-true}
use Rattle.std.proofs.lemmas.Slice.Eq.{bytes_eq-Decides}
use Rattle.vg_syntax.specs.Spellings.{Spelling, kind_spelled, double_signs, single_signs, reserved_words}
use Rattle.vg_syntax.specs.Lexemes.{taking, no_token, found_or, begins_with, ending, is_number, run_length, is_hex_escape, escape_length, element_length}
use Rattle.vg_syntax.specs.Lexemes.{string_end, lexeme, char_literal, string_literal, word, number, sign}

pub run_length_within : (text : List ℕ) → run_length text ≤ length text
run_length_within [] = grind arith
run_length_within (b ∷ bs) = grind (arith, run_length_within bs)

pub hex_escape_within : (text : List ℕ) → is_hex_escape text ≡ true → 3 ≤ length text
hex_escape_within (x ∷ h ∷ l ∷ bs) e = grind arith
hex_escape_within _ e = absurd cc

pub escape_length_within : (text : List ℕ) → escape_length text ≤ length text
escape_length_within [] = grind arith
escape_length_within (b ∷ bs) = grind (arith, hex_escape_within (b ∷ bs))

pub element_length_within : (quote : ℕ) (text : List ℕ) → element_length quote text ≤ length text
element_length_within quote [] = grind arith
element_length_within quote (b ∷ bs) = grind (arith, escape_length_within bs)

-- the rest of an element is passed over
pub passes : (left passed : ℕ) (text : List ℕ) → left ≤ length text → string_end left passed text ≡ string_end 0 (passed + left) (drop left text)
passes zero passed text h = grind arith
passes (suc left) passed [] h = absurd (omega arith)
passes (suc left) passed (b ∷ bs) h = passes left (passed + 1) bs (omega arith) ∙ ap (λ n. string_end 0 n (drop left bs)) (omega arith)

-- neither a quote nor a byte without an element
stepped : (quote : Bool) (n passed : ℕ) (bs : List ℕ) → quote ≡ false → (n ≡ 0 → ⊥)
    → (if quote then Some (passed + 1) else if n == 0 then None else string_end (n - 1) (passed + 1) bs) ≡ string_end (n - 1) (passed + 1) bs
stepped quote n passed bs e f = grind arith

-- behind an element the string goes on
pub goes_on : (passed n b : ℕ) (text : List ℕ) → Some b ≡ slice_get text 0 → (b ≡ 34 → ⊥) → n ≡ element_length 34 text → (n ≡ 0 → ⊥)
    → string_end 0 passed text ≡ string_end 0 (passed + n) (drop n text)
goes_on passed n b [] d e f g = absurd (let clash : Some b ≡ None = d in cc)
goes_on passed zero b (a ∷ bs) d e f g = absurd (g refl)
goes_on passed (suc k) b (a ∷ bs) d e f g =
    let element = element_length 34 (a ∷ bs) in
    let same : Some b ≡ Some a = d in
    let open_quote : (a == 34) ≡ false = grind arith in
    let some : element ≡ 0 → ⊥ = λ z. g (f ∙ z) in
    let left : element - 1 ≡ k = omega (arith, f) in
    let within : k ≤ length bs = omega (arith, f, element_length_within 34 (a ∷ bs)) in
    let one : passed + 1 + k ≡ passed + suc k = omega arith in
    stepped (a == 34) element passed bs open_quote some
    ∙ ap (λ m. string_end m (passed + 1) bs) left
    ∙ passes k (passed + 1) bs within
    ∙ ap (λ m. string_end 0 m (drop k bs)) one

-- each text of the table has this length
all_long : ℕ → List Spelling → Bool
all_long n [] = true
all_long n (s ∷ table) = (length s.text == n) && all_long n table

-- a text that is in such a table has that length
spelled_length : (n : ℕ) (text : List ℕ) (table : List Spelling) → all_long n table ≡ true → (k : Kind) → kind_spelled text table ≡ Some k → length text ≡ n
unfolding all_long
spelled_length n text [] all k e = absurd (let clash : None ≡ Some k = e in cc)
spelled_length n text (s ∷ table) all k e = by_first (bytes_eq s.text text) refl all e (spelled_length n text table)
  where
    first : (p q : Bool) → (p && q) ≡ true → p ≡ true
    first true q h = refl
    first false q h = absurd (let clash : false ≡ true = h in cc)

    rest : (p q : Bool) → (p && q) ≡ true → q ≡ true
    rest true q h = h
    rest false q h = absurd (let clash : false ≡ true = h in cc)

    by_first : (r : Bool) → bytes_eq s.text text ≡ r → ((length s.text == n) && all_long n table) ≡ true
        → (if r then Some s.kind else kind_spelled text table) ≡ Some k
        → (all_long n table ≡ true → (k' : Kind) → kind_spelled text table ≡ Some k' → length text ≡ n) → length text ≡ n
    by_first true q all e again =
        ap length (sym ((bytes_eq-Decides s.text text).0 q)) ∙ eqb-true (length s.text) n (first (length s.text == n) (all_long n table) all)
    by_first false q all e again = again (rest (length s.text == n) (all_long n table) all) k e

-- a sign of two bytes has two bytes
double_length : (text : List ℕ) (k : Kind) → kind_spelled text double_signs ≡ Some k → length text ≡ 2
unfolding double_signs all_long
double_length text k e = spelled_length 2 text double_signs refl k e

-- a lexeme that takes at least one byte of the text, and no more than it has
pub record Takes (text : List ℕ) (found : Lexeme) : Type 0 where
  pub some : 0 < found.length
  pub within : found.length ≤ length text

choice : (p : Bool) (text : List ℕ) (x y : Lexeme) → (p ≡ true → Takes text x) → (p ≡ false → Takes text y) → Takes text (if p then x else y)
choice true text x y f g = f refl
choice false text x y f g = g refl

run_some : (b : ℕ) (bs : List ℕ) → is_word_byte b ≡ true → 0 < run_length (b ∷ bs)
run_some b bs e = grind arith

run_takes : (k : Kind) (b : ℕ) (bs : List ℕ) → is_word_byte b ≡ true → Takes (b ∷ bs) (taking k (run_length (b ∷ bs)))
run_takes k b bs e = record { some = run_some b bs e; within = run_length_within (b ∷ bs) }

none_takes : (b : ℕ) (bs : List ℕ) → Takes (b ∷ bs) (no_token (b ∷ bs))
none_takes b bs = record { some = omega arith; within = omega arith }

found_takes : (found : Option Kind) (n : ℕ) (text : List ℕ) (other : Lexeme) → ((k : Kind) → found ≡ Some k → Takes text (taking k n)) → Takes text other
    → Takes text (found_or found n other)
found_takes (Some k) n text other f g = f k refl
found_takes None n text other f g = g

word_takes : (b : ℕ) (bs : List ℕ) → is_letter b ≡ true → Takes (b ∷ bs) (word (b ∷ bs))
word_takes b bs e =
    let byte : is_word_byte b ≡ true = grind arith in
    let run = take (run_length (b ∷ bs)) (b ∷ bs) in
    found_takes (kind_spelled run reserved_words) (run_length (b ∷ bs)) (b ∷ bs) (taking kind.Name (run_length (b ∷ bs)))
    (λ k _. run_takes k b bs byte) (run_takes kind.Name b bs byte)

number_takes : (b : ℕ) (bs : List ℕ) → is_digit b ≡ true → Takes (b ∷ bs) (number (b ∷ bs))
number_takes b bs e =
    let byte : is_word_byte b ≡ true = grind arith in
    choice (is_number (take (run_length (b ∷ bs)) (b ∷ bs))) (b ∷ bs) (taking kind.Number (run_length (b ∷ bs))) (no_token (b ∷ bs))
    (λ _. run_takes kind.Number b bs byte) (λ _. none_takes b bs)

begins_long : (q n : ℕ) (bs : List ℕ) → begins_with q (drop n bs) ≡ true → n < length bs
begins_long q zero [] e = absurd (let clash : false ≡ true = e in cc)
begins_long q zero (b ∷ bs) e = omega arith
begins_long q (suc n) [] e = absurd (let clash : false ≡ true = e in cc)
begins_long q (suc n) (b ∷ bs) e = omega (arith, begins_long q n bs e)

second : (p q : Bool) → (p && q) ≡ true → q ≡ true
second true q h = h
second false q h = absurd (let clash : false ≡ true = h in cc)

char_takes : (b : ℕ) (bs : List ℕ) → Takes (b ∷ bs) (char_literal bs)
char_takes b bs =
    let n = element_length 39 bs in
    choice (not (n == 0) && begins_with 39 (drop n bs)) (b ∷ bs) (taking kind.CharLiteral (n + 2)) (taking kind.Unknown (length bs + 1))
    (λ e. closed n (begins_long 39 n bs (second (not (n == 0)) (begins_with 39 (drop n bs)) e)))
    (λ _. record { some = omega arith; within = omega arith })
  where
    closed : (n : ℕ) → n < length bs → Takes (b ∷ bs) (taking kind.CharLiteral (n + 2))
    closed n h = record { some = omega arith; within = omega arith }

string_end_within : (left passed : ℕ) (bs : List ℕ) (n : ℕ) → string_end left passed bs ≡ Some n → (passed < n) × (n ≤ passed + length bs)
string_end_within left passed [] n e = absurd (let clash : None ≡ Some n = e in cc)
string_end_within (suc left) passed (b ∷ bs) n e = let h = string_end_within left (passed + 1) bs n e in (omega arith, omega arith)
string_end_within zero passed (b ∷ bs) n e =
    by_byte (b == 34) (element_length 34 (b ∷ bs) == 0) (element_length 34 (b ∷ bs)) (λ l. string_end_within l (passed + 1) bs n) e
  where
    by_byte : (quote none : Bool) (m : ℕ) → ((l : ℕ) → string_end l (passed + 1) bs ≡ Some n → (passed + 1 < n) × (n ≤ passed + 1 + length bs))
        → (if quote then Some (passed + 1) else if none then None else string_end (m - 1) (passed + 1) bs) ≡ Some n
        → (passed < n) × (n ≤ passed + suc (length bs))
    by_byte true none m again e = let same : n ≡ passed + 1 = cc in (omega arith, omega arith)
    by_byte false true m again e = absurd (let clash : None ≡ Some n = e in cc)
    by_byte false false m again e = let h = again (m - 1) e in (omega (arith, h.0), omega (arith, h.1))

string_takes : (b : ℕ) (bs : List ℕ) → Takes (b ∷ bs) (string_literal bs)
string_takes b bs = by_end (string_end 0 1 bs) refl
  where
    by_end : (end : Option ℕ) → string_end 0 1 bs ≡ end → Takes (b ∷ bs) (ending end (taking kind.Unknown (length bs + 1)))
    by_end (Some n) e = let h = string_end_within 0 1 bs n e in record { some = omega arith; within = omega arith }
    by_end None e = record { some = omega arith; within = omega arith }

sign_takes : (b : ℕ) (bs : List ℕ) → Takes (b ∷ bs) (sign (b ∷ bs))
sign_takes b bs =
    let single = found_or (kind_spelled (take 1 (b ∷ bs)) single_signs) 1 (no_token (b ∷ bs)) in
    found_takes (kind_spelled (take 2 (b ∷ bs)) double_signs) 2 (b ∷ bs) single
    (λ k e. two bs k (double_length (take 2 (b ∷ bs)) k e))
    (found_takes (kind_spelled (take 1 (b ∷ bs)) single_signs) 1 (b ∷ bs) (no_token (b ∷ bs)) (λ k _. one k) (none_takes b bs))
  where
    two : (bs : List ℕ) (k : Kind) → length (take 2 (b ∷ bs)) ≡ 2 → Takes (b ∷ bs) (taking k 2)
    two [] k e = absurd (omega (arith, e))
    two (c ∷ cs) k e = record { some = omega arith; within = omega arith }

    one : (k : Kind) → Takes (b ∷ bs) (taking k 1)
    one k = record { some = omega arith; within = omega arith }

-- what a text that has a byte begins with
pub lexeme_takes : (text : List ℕ) → 0 < length text → Takes text (lexeme text)
lexeme_takes [] h = absurd (omega arith)
lexeme_takes (b ∷ bs) h =
    let text = b ∷ bs in
    let at_quote = if b == 34 then string_literal bs else sign text in
    let at_char = if b == 39 then char_literal bs else at_quote in
    let at_digit = if is_digit b then number text else at_char in
    choice (is_letter b) text (word text) at_digit (word_takes b bs) (λ _.
    choice (is_digit b) text (number text) at_char (number_takes b bs) (λ _.
    choice (b == 39) text (char_literal bs) at_quote (λ _. char_takes b bs) (λ _.
    choice (b == 34) text (string_literal bs) (sign text) (λ _. string_takes b bs) (λ _.
    sign_takes b bs))))
