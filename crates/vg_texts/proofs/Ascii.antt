-- The bytes of a token are ASCII, but for those that begin no token.
-- As the lexeme is defined: words and numbers by their bytes, literals element by element, and signs and reserved words by
-- computing that all texts of their tables are ASCII.
use Rattle.std.proofs.Common.{◌≡◌, ℕ, ◌+◌, ◌-◌, ◌<◌, Bool, true, false, not, zero, suc, List, [], ◌∷◌, length, take, drop, Option, Some, None, refl, sym}
use Rattle.std.proofs.Common.{subst, arith}
use Rattle.std.specs.Prelude.{◌&&◌, ◌==◌, if◌then◌else◌, bytes_eq, nat_lt}
use Rattle.std.specs.Str.{IsAscii}
use Rattle.std.proofs.lemmas.Str.Ascii.{IsAscii-nil, IsAscii-cons}
use Rattle.std.proofs.lemmas.Slice.Eq.{bytes_eq-Decides}
use Rattle.vg_syntax.specs.Bytes.{is_letter, is_digit, is_word_byte, is_hex_digit, is_printable}
use Rattle.vg_syntax.specs.declared.kind.Kind.{Kind}
use Rattle.vg_syntax.specs.declared.kind.Kind.TheVariants as kind
use Rattle.vg_syntax.specs.declared.lexeme.Lexeme.{Lexeme}
use Rattle.vg_syntax.specs.Spellings.{Spelling, kind_spelled, double_signs, single_signs, reserved_words}
use Rattle.vg_syntax.specs.Lexemes.{taking, no_token, found_or, begins_with, ending, is_number, run_length, is_escape, is_hex_escape, escape_length}
use Rattle.vg_syntax.specs.Lexemes.{element_length, string_end, lexeme, char_literal, string_literal, word, number, sign}

-- a front of so many bytes is ASCII
abbrev Front : ℕ → List ℕ → Type 0
Front n text = IsAscii (take n text)

-- one byte more
more : (n b : ℕ) (bs : List ℕ) → b < 128 → Front n bs → Front (suc n) (b ∷ bs)
more n b bs h f = IsAscii-cons b (take n bs) h f

more_by_one : (n b : ℕ) (bs : List ℕ) → b < 128 → Front n bs → Front (n + 1) (b ∷ bs)
more_by_one n b bs h f = let e : n + 1 ≡ suc n = omega arith in subst (λ m. Front m (b ∷ bs)) (sym e) (more n b bs h f)

first_low : (n b : ℕ) (bs : List ℕ) → Front (suc n) (b ∷ bs) → b < 128
first_low n b bs f = f 0

rest_low : (n b : ℕ) (bs : List ℕ) → Front (suc n) (b ∷ bs) → Front n bs
rest_low n b bs f = λ i. f (suc i)

word_low : (b : ℕ) → is_word_byte b ≡ true → b < 128
word_low b e = grind arith

run_front : (text : List ℕ) → Front (run_length text) text
run_front [] = IsAscii-nil
run_front (b ∷ bs) = by_byte (is_word_byte b) refl (run_front bs)
  where
    by_byte : (p : Bool) → is_word_byte b ≡ p → Front (run_length bs) bs → Front (if p then run_length bs + 1 else 0) (b ∷ bs)
    by_byte true e f = more_by_one (run_length bs) b bs (word_low b e) f
    by_byte false e f = IsAscii-nil

hex_low : (b : ℕ) → is_hex_digit b ≡ true → b < 128
hex_low b e = grind arith

escape_low : (b : ℕ) → is_escape b ≡ true → b < 128
escape_low b e = grind arith

first : (p q : Bool) → (p && q) ≡ true → p ≡ true
first true q h = refl
first false q h = absurd (let clash : false ≡ true = h in cc)

second : (p q : Bool) → (p && q) ≡ true → q ≡ true
second true q h = h
second false q h = absurd (let clash : false ≡ true = h in cc)

equal_low : (b n : ℕ) → (b == n) ≡ true → n < 128 → b < 128
equal_low b n e h = grind arith

hex_escape_front : (text : List ℕ) → is_hex_escape text ≡ true → Front 3 text
hex_escape_front (x ∷ h ∷ l ∷ bs) e =
    let front = first ((x == 120) && is_hex_digit h) (is_hex_digit l) e in
    more 2 x (h ∷ l ∷ bs) (equal_low x 120 (first (x == 120) (is_hex_digit h) front) (omega arith))
    (more 1 h (l ∷ bs) (hex_low h (second (x == 120) (is_hex_digit h) front))
    (more 0 l bs (hex_low l (second ((x == 120) && is_hex_digit h) (is_hex_digit l) e)) IsAscii-nil))
hex_escape_front _ e = absurd cc

escape_front : (text : List ℕ) → Front (escape_length text) text
escape_front [] = IsAscii-nil
escape_front (b ∷ bs) = by_byte (is_escape b) (is_hex_escape (b ∷ bs)) refl refl
  where
    by_byte : (p q : Bool) → is_escape b ≡ p → is_hex_escape (b ∷ bs) ≡ q → Front (if p then 1 else if q then 3 else 0) (b ∷ bs)
    by_byte true q e f = more 0 b bs (escape_low b e) IsAscii-nil
    by_byte false true e f = hex_escape_front (b ∷ bs) f
    by_byte false false e f = IsAscii-nil

printable_low : (b quote : ℕ) → (is_printable b && not (b == quote)) ≡ true → b < 128
printable_low b quote e = grind arith

pub element_front : (quote : ℕ) (text : List ℕ) → Front (element_length quote text) text
element_front quote [] = IsAscii-nil
element_front quote (b ∷ bs) = by_byte (b == 92) (escape_length bs == 0) (is_printable b && not (b == quote)) refl refl
  where
    by_byte : (p q r : Bool) → (b == 92) ≡ p → (is_printable b && not (b == quote)) ≡ r
        → Front (if p then (if q then 0 else escape_length bs + 1) else if r then 1 else 0) (b ∷ bs)
    by_byte true true r e f = IsAscii-nil
    by_byte true false r e f = more_by_one (escape_length bs) b bs (equal_low b 92 e (omega arith)) (escape_front bs)
    by_byte false q true e f = more 0 b bs (printable_low b quote f) IsAscii-nil
    by_byte false q false e f = IsAscii-nil

-- a byte behind a front
behind : (n q : ℕ) (bs : List ℕ) → q < 128 → begins_with q (drop n bs) ≡ true → Front n bs → Front (suc n) bs
behind zero q [] h e f = IsAscii-nil
behind zero q (b ∷ bs) h e f = more 0 b bs (equal_low b q e h) IsAscii-nil
behind (suc n) q [] h e f = IsAscii-nil
behind (suc n) q (b ∷ bs) h e f = more (suc n) b bs (first_low n b bs f) (behind n q bs h e (rest_low n b bs f))

-- where a token has begun, its bytes are ASCII
abbrev Known : List ℕ → Lexeme → Type 0
Known text found = (found.kind ≡ kind.Unknown → ⊥) → Front found.length text

choice : (p : Bool) (text : List ℕ) (x y : Lexeme) → (p ≡ true → Known text x) → (p ≡ false → Known text y) → Known text (if p then x else y)
choice true text x y f g = f refl
choice false text x y f g = g refl

unknown : (n : ℕ) (text : List ℕ) → Known text (taking kind.Unknown n)
unknown n text = λ h. absurd (h refl)

found_known : (found : Option Kind) (n : ℕ) (text : List ℕ) (other : Lexeme) → ((k : Kind) → found ≡ Some k → Front n text) → Known text other
    → Known text (found_or found n other)
found_known (Some k) n text other f g = λ h. f k refl
found_known None n text other f g = g

word_known : (text : List ℕ) → Known text (word text)
word_known text =
    found_known (kind_spelled (take (run_length text) text) reserved_words) (run_length text) text (taking kind.Name (run_length text))
    (λ k _. run_front text) (λ h. run_front text)

number_known : (text : List ℕ) → Known text (number text)
number_known text =
    choice (is_number (take (run_length text) text)) text (taking kind.Number (run_length text)) (no_token text)
    (λ _ h. run_front text) (λ _. unknown (length text) text)

char_known : (bs : List ℕ) → Known (39 ∷ bs) (char_literal bs)
char_known bs =
    let n = element_length 39 bs in
    choice (not (n == 0) && begins_with 39 (drop n bs)) (39 ∷ bs) (taking kind.CharLiteral (n + 2)) (taking kind.Unknown (length bs + 1))
    (λ e h. closed n (behind n 39 bs (omega arith) (second (not (n == 0)) (begins_with 39 (drop n bs)) e) (element_front 39 bs)))
    (λ _. unknown (length bs + 1) (39 ∷ bs))
  where
    closed : (n : ℕ) → Front (suc n) bs → Front (n + 2) (39 ∷ bs)
    closed n f = let e : n + 2 ≡ suc (suc n) = omega arith in subst (λ m. Front m (39 ∷ bs)) (sym e) (more (suc n) 39 bs (omega arith) f)

-- a string is ASCII to its end, where the element that has begun is
string_front : (left passed : ℕ) (bs : List ℕ) (n m : ℕ) → string_end left passed bs ≡ Some n → m + passed ≡ n → Front left bs → Front m bs
string_front left passed [] n m e s f = absurd (let clash : None ≡ Some n = e in cc)
string_front left passed (b ∷ bs) n zero e s f = IsAscii-nil
string_front (suc left) passed (b ∷ bs) n (suc m) e s f =
    more m b bs (first_low left b bs f) (string_front left (passed + 1) bs n m e (omega (arith, s)) (rest_low left b bs f))
string_front zero passed (b ∷ bs) n (suc m) e s f =
    by_byte (b == 34) (element_length 34 (b ∷ bs) == 0) (element_length 34 (b ∷ bs)) refl refl (element_front 34 (b ∷ bs)) e
    (λ l g h. string_front l (passed + 1) bs n m g (omega (arith, s)) h)
  where
    by_byte : (quote none : Bool) (k : ℕ) → (b == 34) ≡ quote → (k == 0) ≡ none → Front k (b ∷ bs)
        → (if quote then Some (passed + 1) else if none then None else string_end (k - 1) (passed + 1) bs) ≡ Some n
        → ((l : ℕ) → string_end l (passed + 1) bs ≡ Some n → Front l bs → Front m bs)
        → Front (suc m) (b ∷ bs)
    by_byte true none k q z g e again =
        let same : n ≡ passed + 1 = cc in
        let one : m ≡ 0 = omega (arith, s, same) in
        subst (λ j. Front (suc j) (b ∷ bs)) (sym one) (more 0 b bs (equal_low b 34 q (omega arith)) IsAscii-nil)
    by_byte false true k q z g e again = absurd (let clash : None ≡ Some n = e in cc)
    by_byte false false zero q z g e again = absurd (let clash : true ≡ false = z in cc)
    by_byte false false (suc k) q z g e again =
        let less : suc k - 1 ≡ k = omega arith in
        more m b bs (first_low k b bs g) (again k (subst (λ j. string_end j (passed + 1) bs ≡ Some n) less e) (rest_low k b bs g))

string_known : (bs : List ℕ) → Known (34 ∷ bs) (string_literal bs)
string_known bs = by_end (string_end 0 1 bs) refl
  where
    by_end : (end : Option ℕ) → string_end 0 1 bs ≡ end → Known (34 ∷ bs) (ending end (taking kind.Unknown (length bs + 1)))
    by_end (Some zero) e = λ h. IsAscii-nil
    by_end (Some (suc n)) e = λ h. more n 34 bs (omega arith) (string_front 0 1 bs (suc n) n e (omega arith) IsAscii-nil)
    by_end None e = unknown (length bs + 1) (34 ∷ bs)

-- each text of the table is ASCII
all_low : List ℕ → Bool
all_low [] = true
all_low (b ∷ bs) = nat_lt b 128 && all_low bs

table_low : List Spelling → Bool
table_low [] = true
table_low (s ∷ table) = all_low s.text && table_low table

low_ascii : (bs : List ℕ) → all_low bs ≡ true → IsAscii bs
unfolding all_low
low_ascii [] e = IsAscii-nil
low_ascii (b ∷ bs) e = IsAscii-cons b bs (below b (first (nat_lt b 128) (all_low bs) e)) (low_ascii bs (second (nat_lt b 128) (all_low bs) e))
  where
    below : (b : ℕ) → nat_lt b 128 ≡ true → b < 128
    below b e = grind arith

spelled_low : (text : List ℕ) (table : List Spelling) → table_low table ≡ true → (k : Kind) → kind_spelled text table ≡ Some k → IsAscii text
unfolding table_low
spelled_low text [] all k e = absurd (let clash : None ≡ Some k = e in cc)
spelled_low text (s ∷ table) all k e =
    by_first (bytes_eq s.text text) refl e (spelled_low text table (second (all_low s.text) (table_low table) all) k)
  where
    by_first : (r : Bool) → bytes_eq s.text text ≡ r → (if r then Some s.kind else kind_spelled text table) ≡ Some k
        → (kind_spelled text table ≡ Some k → IsAscii text) → IsAscii text
    by_first true q e again = subst IsAscii ((bytes_eq-Decides s.text text).0 q) (low_ascii s.text (first (all_low s.text) (table_low table) all))
    by_first false q e again = again e

sign_known : (text : List ℕ) → Known text (sign text)
unfolding double_signs single_signs all_low table_low
sign_known text =
    found_known (kind_spelled (take 2 text) double_signs) 2 text (found_or (kind_spelled (take 1 text) single_signs) 1 (no_token text))
    (λ k e. spelled_low (take 2 text) double_signs refl k e)
    (found_known (kind_spelled (take 1 text) single_signs) 1 text (no_token text) (λ k e. spelled_low (take 1 text) single_signs refl k e)
    (unknown (length text) text))

same_byte : (b q : ℕ) → (b == q) ≡ true → q ≡ b
same_byte b q e = grind arith

-- what a text begins with, where it is a token
pub lexeme_front : (text : List ℕ) → ((lexeme text).kind ≡ kind.Unknown → ⊥) → IsAscii (take (lexeme text).length text)
lexeme_front [] = unknown 0 []
lexeme_front (b ∷ bs) =
    let text = b ∷ bs in
    let at_quote = if b == 34 then string_literal bs else sign text in
    let at_char = if b == 39 then char_literal bs else at_quote in
    let at_digit = if is_digit b then number text else at_char in
    choice (is_letter b) text (word text) at_digit (λ _. word_known text) (λ _.
    choice (is_digit b) text (number text) at_char (λ _. number_known text) (λ _.
    choice (b == 39) text (char_literal bs) at_quote (λ e. subst (λ c. Known (c ∷ bs) (char_literal bs)) (same_byte b 39 e) (char_known bs)) (λ _.
    choice (b == 34) text (string_literal bs) (sign text) (λ e. subst (λ c. Known (c ∷ bs) (string_literal bs)) (same_byte b 34 e) (string_known bs)) (λ _.
    sign_known text))))
