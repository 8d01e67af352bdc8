-- The tokens so far and those of the rest are those of the text.
use Rattle.std.proofs.Common.{◌≡◌, ℕ, ◌+◌, ◌<◌, ◌≤◌, List, [], ◌∷◌, ◌++◌, length, drop, Option, Some, None, refl, sym, ◌∙◌, subst, arith, append_assoc}
use Rattle.std.proofs.Common.{append-nil, Bool, true, false, zero, suc, length-drop}
use Rattle.std.specs.Prelude.{if◌then◌else◌, nat_lt}
use Rattle.vg_scan.proofs.Lengths.{lexeme_takes}
use Rattle.vg_syntax.specs.declared.token.Token.{Token}
use Rattle.vg_syntax.specs.declared.gap.Mode.TheVariants.{Code}
use Rattle.vg_syntax.specs.Tokens.{gap, token_at, next_token, AreTokens, IsTokens}

pub record Reading (bytes : List ℕ) (tokens : List Token) (end : ℕ) : Type 0 where
  pub forth : (ts : List Token) → AreTokens bytes end ts → IsTokens bytes (tokens ++ ts)

pub begins : (bytes : List ℕ) → Reading bytes [] 0
begins bytes = record { forth = λ ts h. h }

pub goes_on : (bytes : List ℕ) (tokens : List Token) (end : ℕ) (t : Token) → Reading bytes tokens end → next_token bytes end ≡ Some t
    → Reading bytes (tokens ++ t ∷ []) t.end
goes_on bytes tokens end t r e = record {
  forth = λ ts h. subst (λ l. IsTokens bytes l) (sym (append_assoc tokens (t ∷ []) ts)) (r.forth (t ∷ ts) (e, h));
}

-- behind the last token only white space and comments are left
pub nothing_left : (bytes : List ℕ) (end : ℕ) → end + gap Code (drop end bytes) ≡ length bytes → next_token bytes end ≡ None
nothing_left bytes end e = grind arith

pub ends : (bytes : List ℕ) (tokens : List Token) (end : ℕ) → Reading bytes tokens end → next_token bytes end ≡ None → IsTokens bytes tokens
ends bytes tokens end r e = subst (λ l. IsTokens bytes l) (append-nil tokens) (r.forth [] e)

-- the next token is one
same_next : (a b : Option Token) (t u : Token) → a ≡ Some t → b ≡ Some u → a ≡ b → t ≡ u
same_next a b t u e f g = cc

-- a text has at most one list of tokens
only_from : (bytes : List ℕ) (offset : ℕ) (ts us : List Token) → AreTokens bytes offset ts → AreTokens bytes offset us → ts ≡ us
only_from bytes offset [] [] h g = refl
only_from bytes offset [] (u ∷ us) h g = absurd (let clash : None ≡ Some u = sym h ∙ g.0 in cc)
only_from bytes offset (t ∷ ts) [] h g = absurd (let clash : None ≡ Some t = sym g ∙ h.0 in cc)
only_from bytes offset (t ∷ ts) (u ∷ us) h g =
    let same : t ≡ u = same_next (next_token bytes offset) (next_token bytes offset) t u h.0 g.0 refl in
    let rest : ts ≡ us = only_from bytes t.end ts us h.1 (subst (λ (v : Token). AreTokens bytes v.end us) (sym same) g.1) in
    cc

pub only_tokens : (bytes : List ℕ) (ts us : List Token) → IsTokens bytes ts → IsTokens bytes us → ts ≡ us
only_tokens bytes ts us h g = only_from bytes 0 ts us h g

-- a token ends behind the offset from which it was looked for, and within the text
pub record Ends (bytes : List ℕ) (offset : ℕ) (t : Token) : Type 0 where
  pub later : offset < t.end
  pub within : t.end ≤ length bytes

pub next_ends : (bytes : List ℕ) (offset : ℕ) (t : Token) → next_token bytes offset ≡ Some t → Ends bytes offset t
next_ends bytes offset t e = by_start (offset + gap Code (drop offset bytes)) (omega arith) e
  where
    by_start : (start : ℕ) → offset ≤ start → (if nat_lt start (length bytes) then Some (token_at bytes start) else None) ≡ Some t → Ends bytes offset t
    by_start start h e = by_test (nat_lt start (length bytes)) refl e
      where
        by_test : (p : Bool) → nat_lt start (length bytes) ≡ p → (if p then Some (token_at bytes start) else None) ≡ Some t → Ends bytes offset t
        by_test true q e =
            let before : start < length bytes = grind arith in
            let takes = lexeme_takes (drop start bytes) (omega (arith, length-drop start bytes)) in
            let same : token_at bytes start ≡ t = cc in
            subst (λ (u : Token). Ends bytes offset u) same
            (record { later = omega (arith, takes); within = omega (arith, takes, length-drop start bytes) })
        by_test false q e = absurd (let clash : None ≡ Some t = e in cc)

-- every text has a list of tokens
some_from : (n : ℕ) (bytes : List ℕ) (offset : ℕ) → length bytes ≤ offset + n → (ts : List Token) × AreTokens bytes offset ts
some_from zero bytes offset h = by_next (next_token bytes offset) refl
  where
    by_next : (next : Option Token) → next_token bytes offset ≡ next → (ts : List Token) × AreTokens bytes offset ts
    by_next None e = ([], e)
    by_next (Some t) e = absurd (omega (arith, next_ends bytes offset t e))
some_from (suc n) bytes offset h = by_next (next_token bytes offset) refl (λ end. some_from n bytes end)
  where
    by_next : (next : Option Token) → next_token bytes offset ≡ next → ((end : ℕ) → length bytes ≤ end + n → (ts : List Token) × AreTokens bytes end ts)
        → (ts : List Token) × AreTokens bytes offset ts
    by_next None e again = ([], e)
    by_next (Some t) e again =
        let rest = again t.end (omega (arith, next_ends bytes offset t e)) in
        (t ∷ rest.0, (e, rest.1))

pub some_tokens : (bytes : List ℕ) → (ts : List Token) × IsTokens bytes ts
some_tokens bytes = some_from (length bytes) bytes 0 (omega arith)
