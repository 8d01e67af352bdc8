-- The tokens of a text of the language lie in the text, and are ASCII.
use Rattle.std.proofs.Common.{◌≡◌, ℕ, zero, suc, ◌+◌, ◌-◌, ◌<◌, ◌≤◌, Bool, true, false, List, [], ◌∷◌, length, take, drop, Some, None, refl, sym, subst}
use Rattle.std.proofs.Common.{arith, length-drop, slice_get}
use Rattle.std.specs.Prelude.{if◌then◌else◌, nat_lt}
use Rattle.std.specs.List.{AllByRecursion}
use Rattle.std.specs.Str.{IsAscii}
use Rattle.vg_syntax.specs.declared.token.Token.{Token}
use Rattle.vg_syntax.specs.declared.gap.Mode.TheVariants.{Code}
use Rattle.vg_syntax.specs.Lexemes.{lexeme}
use Rattle.vg_syntax.specs.Tokens.{gap, token_at, next_token, AreTokens, IsTokens}
use Rattle.vg_syntax.specs.Parses.{Sentence}
use Rattle.vg_scan.proofs.Lengths.{lexeme_takes}
use Rattle.vg_scan.proofs.Reading.{next_ends}
use Rattle.vg_texts.specs.Spelled.{IsSpelled}
use Rattle.vg_texts.proofs.Ascii.{lexeme_front}
use Rattle.vg_texts.proofs.Known.{IsKnown, tokens_known}

token_spelled : (bytes : List ℕ) (start : ℕ) → start < length bytes → IsKnown (token_at bytes start) → IsSpelled bytes (token_at bytes start)
token_spelled bytes start h k =
    let n = (lexeme (drop start bytes)).length in
    let takes = lexeme_takes (drop start bytes) (omega (arith, length-drop start bytes)) in
    let e : start + n - start ≡ n = omega arith in
    record {
      order = omega arith;
      within = omega (arith, takes, length-drop start bytes);
      ascii = subst (λ m. IsAscii (take m (drop start bytes))) (sym e) (lexeme_front (drop start bytes) k);
    }

below : (a b : ℕ) → nat_lt a b ≡ true → a < b
below a b e = grind arith

next_spelled : (bytes : List ℕ) (offset : ℕ) (t : Token) → next_token bytes offset ≡ Some t → IsKnown t → IsSpelled bytes t
next_spelled bytes offset t e k = by_start (offset + gap Code (drop offset bytes)) e
  where
    by_start : (start : ℕ) → (if nat_lt start (length bytes) then Some (token_at bytes start) else None) ≡ Some t → IsSpelled bytes t
    by_start start e = by_test (nat_lt start (length bytes)) refl e
      where
        by_test : (p : Bool) → nat_lt start (length bytes) ≡ p → (if p then Some (token_at bytes start) else None) ≡ Some t → IsSpelled bytes t
        by_test true q e =
            let before = below start (length bytes) q in
            let same : token_at bytes start ≡ t = cc in
            subst (λ (u : Token). IsSpelled bytes u) same (token_spelled bytes start before (subst (λ (u : Token). IsKnown u) (sym same) k))
        by_test false q e = absurd (let clash : None ≡ Some t = e in cc)

from_offset : (bytes : List ℕ) (offset : ℕ) (ts : List Token) → AreTokens bytes offset ts → AllByRecursion IsKnown ts → AllByRecursion (IsSpelled bytes) ts
from_offset bytes offset [] h k = tt
from_offset bytes offset (t ∷ ts) h k = (next_spelled bytes offset t h.0 k.0, from_offset bytes t.end ts h.1 k.1)

pub all_spelled : (bytes : List ℕ) (ts : List Token) → IsTokens bytes ts × Sentence ts → AllByRecursion (IsSpelled bytes) ts
all_spelled bytes ts h = from_offset bytes 0 ts h.0 (tokens_known ts h.1)

few_from : (bytes : List ℕ) (offset : ℕ) (ts : List Token) → offset ≤ length bytes → AreTokens bytes offset ts → length ts + offset ≤ length bytes
few_from bytes offset [] h g = omega arith
few_from bytes offset (t ∷ ts) h g =
    let ends = next_ends bytes offset t g.0 in
    let rest = few_from bytes t.end ts (omega (arith, ends)) g.1 in
    omega (arith, ends, rest)

-- there are no more tokens than bytes
pub few_tokens : (bytes : List ℕ) (ts : List Token) → IsTokens bytes ts → length ts ≤ length bytes
few_tokens bytes ts h = let f = few_from bytes 0 ts (omega arith) h in omega (arith, f)

pub spelled_at : (bytes : List ℕ) (ts : List Token) (i : ℕ) (t : Token) → AllByRecursion (IsSpelled bytes) ts → slice_get ts i ≡ Some t → IsSpelled bytes t
spelled_at bytes [] i t h e = absurd (let clash : None ≡ Some t = e in cc)
spelled_at bytes (u ∷ ts) zero t h e = let same : u ≡ t = cc in subst (λ (v : Token). IsSpelled bytes v) same h.0
spelled_at bytes (u ∷ ts) (suc i) t h e = spelled_at bytes ts i t h.1 e
