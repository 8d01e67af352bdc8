-- The first line of a text, by how far its LF is.
use Rattle.std.proofs.Common.{◌≡◌, ℕ, suc, ◌+◌, ◌-◌, ◌<◌, ◌≤◌, Bool, true, false, List, [], ◌∷◌, length, take, drop, length-drop, refl, sym, ap}
use Rattle.std.proofs.Common.{get_or, ◌∙◌, arith, ◌==◌}
use Rattle.std.proofs.lemmas.List.{drop_all, take_all}
use Rattle.std.specs.Prelude.{if◌then◌else◌, ◌&&◌}
use Rattle.std.proofs.lemmas.Bool.{false≢true}
use Rattle.vg_lines.specs.Lines.{lines, with_first, begins_lf}
use Rattle.vg_lines.specs.Walk.{before_lf, without_cr}

-- what one byte more makes of the lines, by whether it is LF (x) or CR (y), and whether LF stands behind it (z)
one_more : (b c : ℕ) (bs : List ℕ) (x y z : Bool) (rows : List (List ℕ)) (n : ℕ)
    → (b == 13) ≡ y → (z ≡ true → (rows ≡ [] ∷ lines bs) × (n ≡ 0)) → (z ≡ false → (m : ℕ) × (n ≡ suc m))
    → rows ≡ without_cr (take n (c ∷ bs)) ∷ lines (drop (n + 1) (c ∷ bs))
    → (if y && z then rows else with_first b rows) ≡ without_cr (take (suc n) (b ∷ c ∷ bs)) ∷ lines (drop (suc n + 1) (b ∷ c ∷ bs))
one_more b c bs x y true rows n e lf other rest = at_lf y e
  where
    here : (y : Bool) → (b == 13) ≡ y → (if y && true then [] ∷ lines bs else (b ∷ []) ∷ lines bs) ≡ (if y then [] else b ∷ []) ∷ lines bs
    here true e = refl
    here false e = refl

    at_lf : (y : Bool) → (b == 13) ≡ y → (if y && true then rows else with_first b rows) ≡ without_cr (take (suc n) (b ∷ c ∷ bs)) ∷ lines
        (drop (suc n + 1) (b ∷ c ∷ bs))
    at_lf y e =
        let f = lf refl in
        ap (λ r. if y && true then r else with_first b r) f.0
        ∙ here y e
        ∙ ap (λ t. (if t then [] else b ∷ []) ∷ lines bs) (sym e)
        ∙ ap (λ k. without_cr (take (suc k) (b ∷ c ∷ bs)) ∷ lines (drop (suc k + 1) (b ∷ c ∷ bs))) (sym f.1)
one_more b c bs x y false rows n e lf other rest = not_lf y
  where
    plain : with_first b rows ≡ without_cr (take (suc n) (b ∷ c ∷ bs)) ∷ lines (drop (suc n + 1) (b ∷ c ∷ bs))
    plain =
        let m = (other refl).0 in
        let s : n ≡ suc m = (other refl).1 in
        let next : suc (suc m) + 1 ≡ suc (suc m + 1) = omega arith in
        ap (with_first b) (rest ∙ ap (λ k. without_cr (take k (c ∷ bs)) ∷ lines (drop (k + 1) (c ∷ bs))) s)
        ∙ ap (λ k. without_cr (b ∷ c ∷ take m bs) ∷ lines (drop k (b ∷ c ∷ bs))) (sym next)
        ∙ ap (λ k. without_cr (take (suc k) (b ∷ c ∷ bs)) ∷ lines (drop (suc k + 1) (b ∷ c ∷ bs))) (sym s)

    not_lf : (y : Bool) → (if y && false then rows else with_first b rows) ≡ without_cr (take (suc n) (b ∷ c ∷ bs)) ∷ lines (drop (suc n + 1) (b ∷ c ∷ bs))
    not_lf true = plain
    not_lf false = plain

pub lf_line : (text : List ℕ) → before_lf text < length text → lines text ≡ without_cr (take (before_lf text) text) ∷ lines (drop (before_lf text + 1) text)
lf_line [] h = absurd (omega (arith, h))
lf_line (b ∷ []) h = alone (b == 10) h
  where
    alone : (x : Bool) → (if x then 0 else 1) < 1 → (if x then [] ∷ [] else if (b == 13) && false then []
        else with_first b []) ≡ without_cr (take (if x then 0 else 1) (b ∷ [])) ∷ lines (drop ((if x then 0 else 1) + 1) (b ∷ []))
    alone true h = refl
    alone false h = absurd (omega (arith, h))
lf_line (b ∷ c ∷ bs) h = by_test (b == 10) h (λ k. lf_line (c ∷ bs) k)
  where
    at_lf : (z : Bool) → z ≡ true → ((if z then [] ∷ lines bs else if (c == 13) && begins_lf bs then lines bs else with_first c (lines bs)) ≡ [] ∷ lines bs)
        × ((if z then 0 else suc (before_lf bs)) ≡ 0)
    at_lf true e = (refl, refl)
    at_lf false e = absurd (false≢true e)

    behind : (z : Bool) → z ≡ false → (m : ℕ) × ((if z then 0 else suc (before_lf bs)) ≡ suc m)
    behind true e = absurd (false≢true (sym e))
    behind false e = (before_lf bs, refl)

    by_test : (x : Bool) → (if x then 0 else suc (before_lf (c ∷ bs))) < suc (suc (length bs))
        → (before_lf (c ∷ bs) < suc (length bs) → lines (c ∷ bs) ≡ without_cr (take (before_lf (c ∷ bs)) (c ∷ bs)) ∷ lines
        (drop (before_lf (c ∷ bs) + 1) (c ∷ bs)))
        → (if x then [] ∷ lines (c ∷ bs) else if (b == 13) && (c == 10) then lines (c ∷ bs)
        else with_first b (lines (c ∷ bs))) ≡ without_cr (take (if x then 0 else suc (before_lf (c ∷ bs))) (b ∷ c ∷ bs)) ∷ lines
        (drop ((if x then 0 else suc (before_lf (c ∷ bs))) + 1) (b ∷ c ∷ bs))
    by_test true h go = refl
    by_test false h go = one_more b c bs false (b == 13) (c == 10) (lines (c ∷ bs)) (before_lf (c ∷ bs)) refl (at_lf (c == 10)) (behind (c == 10))
        (go (omega (arith, h)))

no_lf : (text : List ℕ) → 0 < length text → length text ≤ before_lf text → lines text ≡ text ∷ []
no_lf [] h k = absurd (omega (arith, h))
no_lf (b ∷ []) h k = alone (b == 10) (b == 13) k
  where
    alone : (x y : Bool) → 1 ≤ (if x then 0 else 1) → (if x then [] ∷ [] else if y && false then [] else with_first b []) ≡ (b ∷ []) ∷ []
    alone true y k = absurd (omega (arith, k))
    alone false true k = refl
    alone false false k = refl
no_lf (b ∷ c ∷ bs) h k = by_test (b == 10) k (λ l. no_lf (c ∷ bs) (omega arith) l)
  where
    other : (z : Bool) → suc (length bs) ≤ (if z then 0 else suc (before_lf bs)) → z ≡ false
    other true k = absurd (omega (arith, k))
    other false k = refl

    with_it : (y z : Bool) (rows : List (List ℕ)) → z ≡ false → rows ≡ (c ∷ bs) ∷ [] → (if y && z then rows else with_first b rows) ≡ (b ∷ c ∷ bs) ∷ []
    with_it y true rows f e = absurd (false≢true (sym f))
    with_it true false rows f e = ap (with_first b) e
    with_it false false rows f e = ap (with_first b) e

    by_test : (x : Bool) → suc (suc (length bs)) ≤ (if x then 0 else suc (before_lf (c ∷ bs)))
        → (suc (length bs) ≤ before_lf (c ∷ bs) → lines (c ∷ bs) ≡ (c ∷ bs) ∷ [])
        → (if x then [] ∷ lines (c ∷ bs) else if (b == 13) && (c == 10) then lines (c ∷ bs) else with_first b (lines (c ∷ bs))) ≡ (b ∷ c ∷ bs) ∷ []
    by_test true k go = absurd (omega (arith, k))
    by_test false k go =
        let l : suc (length bs) ≤ before_lf (c ∷ bs) = omega (arith, k) in
        with_it (b == 13) (c == 10) (lines (c ∷ bs)) (other (c == 10) l) (go l)

drop_taken : (text : List ℕ) (n : ℕ) → drop n text ≡ take (length text - n) (drop n text)
drop_taken text n = sym (take_all (length text - n) (drop n text) (omega (arith, length-drop n text)))

-- what the code makes of a text with an LF, and of one without
pub ended_line : (text line : List ℕ) (n : ℕ) → n ≡ before_lf text → n < length text → line ≡ without_cr (take n text)
    → lines text ≡ line ∷ lines (take (length text - (n + 1)) (drop (n + 1) text))
ended_line text line n e h l =
    let k : before_lf text < length text = omega (arith, e, h) in
    lf_line text k ∙ ap (λ m. without_cr (take m text) ∷ lines (drop (m + 1) text)) (sym e)
    ∙ ap (λ x. x ∷ lines (drop (n + 1) text)) (sym l)
    ∙ ap (λ x. line ∷ lines x) (drop_taken text (n + 1))

pub last_line : (text : List ℕ) (n : ℕ) → 0 < length text → n ≡ before_lf text → length text ≤ n
    → lines text ≡ text ∷ lines (take (length text - n) (drop n text))
last_line text n h e k =
    no_lf text h (omega (arith, e, k)) ∙ ap (λ l. text ∷ lines l) (sym (drop_all n text k)) ∙ ap (λ x. text ∷ lines x) (drop_taken text n)

-- the code's way to drop a CR
pub cr_dropped : (line : List ℕ) → without_cr line ≡ (if get_or line (length line - 1) 0 == 13 then take (length line - 1) line else line)
cr_dropped [] = refl
cr_dropped (b ∷ []) = refl
cr_dropped (b ∷ c ∷ l) = step (suc (suc (length l)) - 1) (suc (length l) - 1) (omega arith) (cr_dropped (c ∷ l))
  where
    under : (t : Bool) (x y : List ℕ) → b ∷ (if t then x else y) ≡ (if t then b ∷ x else b ∷ y)
    under true x y = refl
    under false x y = refl

    step : (n m : ℕ) → n ≡ suc m → without_cr (c ∷ l) ≡ (if get_or (c ∷ l) m 0 == 13 then take m (c ∷ l) else c ∷ l)
        → b ∷ without_cr (c ∷ l) ≡ (if get_or (b ∷ c ∷ l) n 0 == 13 then take n (b ∷ c ∷ l) else b ∷ c ∷ l)
    step n m e h =
        ap (λ r. b ∷ r) h ∙ under (get_or (c ∷ l) m 0 == 13) (take m (c ∷ l)) (c ∷ l)
        ∙ ap (λ k. if get_or (b ∷ c ∷ l) k 0 == 13 then take k (b ∷ c ∷ l) else b ∷ c ∷ l) (sym e)

pub ends_cr : (line : List ℕ) (n : ℕ) → n ≡ length line - 1 → get_or line n 0 ≡ 13 → take n line ≡ without_cr line
ends_cr line n e h = sym (cr_dropped line ∙ ap (λ k. if get_or line k 0 == 13 then take k line else line) (sym e)
    ∙ ap (λ b. if b == 13 then take n line else line) h)

differs : (a b : ℕ) → (a ≡ b → ⊥) → (a == b) ≡ false
differs a b h = grind (arith, h)

pub ends_not_cr : (line : List ℕ) (n : ℕ) → n ≡ length line - 1 → (get_or line n 0 ≡ 13 → ⊥) → line ≡ without_cr line
ends_not_cr line n e h =
    sym (cr_dropped line ∙ ap (λ k. if get_or line k 0 == 13 then take k line else line) (sym e)
    ∙ ap (λ t. if t then take n line else line) (differs (get_or line n 0) 13 h))
