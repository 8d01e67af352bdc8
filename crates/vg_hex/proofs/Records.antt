-- One more record of the written text.
use Rattle.std.proofs.Common.{◌≡◌, ℕ, zero, suc, ◌+◌, ◌-◌, ◌*◌, ◌%◌, ◌<◌, List, [], ◌∷◌, ◌++◌, take, drop, sym, ap, ◌∙◌, arith, append_assoc, ◌==◌}
use Rattle.std.specs.Prelude.{if◌then◌else◌}
use Rattle.std.proofs.lemmas.List.{drop-drop}
use Rattle.vg_hex.specs.HexText.{data_line, base_line, records}

-- the base line that is due at an address
abbrev base_due : ℕ → List ℕ
base_due at = if at == 65536 then base_line ++ 10 ∷ [] else []

records_next : (n m at : ℕ) (bytes : List ℕ) → n ≡ m + 1 → records n at bytes ≡ base_due at ++
    (data_line (at % 65536) (take 16 bytes) ++ 10 ∷ records m (at + 16) (drop 16 bytes))
records_next zero m at bytes e = absurd (omega arith)
records_next (suc n) m at bytes e =
    let same : n ≡ m = omega arith in
    ap (λ i. base_due at ++ (data_line (at % 65536) (take 16 bytes) ++ 10 ∷ records i (at + 16) (drop 16 bytes))) same

pub next_record : (bytes text text1 text2 piece all : List ℕ) (count k : ℕ) → k < count
    → text1 ≡ text ++ base_due (k * 16) → text2 ≡ text1 ++ (data_line (k * 16 % 65536) piece ++ 10 ∷ []) → piece ≡ take 16 (drop (k * 16) bytes)
    → text ++ records (count - k) (k * 16) (drop (k * 16) bytes) ≡ all
    → text2 ++ records (count - (k + 1)) ((k + 1) * 16) (drop ((k + 1) * 16) bytes) ≡ all
next_record bytes text text1 text2 piece all count k lt e1 e2 p whole =
    let rest = drop (k * 16) bytes in
    let left : count - k ≡ count - (k + 1) + 1 = omega arith in
    let at : (k + 1) * 16 ≡ k * 16 + 16 = omega arith in
    let tail = records (count - (k + 1)) (k * 16 + 16) (drop 16 rest) in
    let more = ap (λ a. records (count - (k + 1)) a (drop a bytes)) at ∙ ap (λ l. records (count - (k + 1)) (k * 16 + 16) l)
    (sym (drop-drop 16 (k * 16) bytes)) in
    let line = data_line (k * 16 % 65536) (take 16 rest) in
    let text_now : text2 ≡ text ++ base_due (k * 16) ++ (line ++ 10 ∷ []) =
    e2 ∙ ap (λ t. t ++ (data_line (k * 16 % 65536) piece ++ 10 ∷ [])) e1 ∙ ap (λ l. text ++ base_due (k * 16) ++ (data_line (k * 16 % 65536) l ++ 10 ∷ [])) p in
    ap (λ l. text2 ++ l) more
    ∙ ap (λ t. t ++ tail) text_now
    ∙ regroup text (base_due (k * 16)) line tail
    ∙ ap (λ l. text ++ l) (sym (records_next (count - k) (count - (k + 1)) (k * 16) rest left))
    ∙ whole
  where
    regroup : (a b c d : List ℕ) → (a ++ b ++ (c ++ 10 ∷ [])) ++ d ≡ a ++ (b ++ (c ++ 10 ∷ d))
    regroup a b c d = simp append_assoc
