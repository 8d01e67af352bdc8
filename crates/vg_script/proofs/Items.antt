-- Items one behind another, and the lines that hold them.
use Rattle.std.proofs.Common.{◌≡◌, ℕ, suc, ◌-◌, ◌<◌, Bool, true, false, List, [], ◌∷◌, ◌++◌, length, length-drop, take, drop, Option, Some, None}
use Rattle.std.proofs.Common.{refl, sym, ap, ◌∙◌, subst, arith, append_assoc, append-nil, ◌==◌}
use Rattle.std.specs.Prelude.{if◌then◌else◌}
use Rattle.std.proofs.lemmas.List.{take_all}
use Rattle.vg_script.specs.declared.reader.Taken.{Taken}
use Rattle.vg_script.specs.declared.reader.Taken.TheVariants.{Good, Bad as Refused}
use Rattle.vg_script.specs.declared.reader.Item.{Item}
use Rattle.vg_script.specs.Script.{in_front, Line, spaced_pair, one_digit, two_digits, reads_in, interrupts_in, some, interrupts_line}
use Rattle.vg_script.specs.Walk.{behind, Takes, of_width, first_read, first_interrupt, TakesLine}

-- what an item says of the items that it begins
ByItem : Option Item → Option (List ℕ) → (ℕ → Option (List ℕ)) → Type 0
ByItem o all rest = ((o ≡ None) → all ≡ None) × ((item : Item) → o ≡ Some item → all ≡ in_front (Some item.value) (rest item.width))

by_width : (n : ℕ) (o : Option ℕ) (rest : ℕ → Option (List ℕ)) → ByItem (of_width n o) (in_front o (rest n)) rest
unfolding ByItem
by_width n None rest = ((λ e. refl), (λ item e. cc))
by_width n (Some v) rest = (
  (λ e. cc),
  (λ item e. let i : record { value = v; width = n } ≡ item = cc
      in ap (λ (x : Item). in_front (Some x.value) (rest x.width)) i),
)

by_read : (items : List ℕ) → 0 < length items → ByItem (first_read items) (reads_in items) (λ n. reads_in (drop n items))
unfolding ByItem
by_read [] h = absurd (omega (arith, h))
by_read (a ∷ []) h = ((λ e. refl), (λ item e. cc))
by_read (a ∷ b ∷ []) h = ((λ e. refl), (λ item e. cc))
by_read (a ∷ b ∷ c ∷ items) h = by_width 3 (spaced_pair a b c) (λ n. reads_in (drop n (a ∷ b ∷ c ∷ items)))

by_interrupt : (items : List ℕ) → 0 < length items → ByItem (first_interrupt items) (interrupts_in items) (λ n. interrupts_in (drop n items))
unfolding ByItem
by_interrupt [] h = absurd (omega (arith, h))
by_interrupt (a ∷ []) h = ((λ e. refl), (λ item e. cc))
by_interrupt (a ∷ b ∷ []) h = by_width 2 (one_digit a b) (λ n. interrupts_in (drop n (a ∷ b ∷ [])))
by_interrupt (a ∷ b ∷ c ∷ items) h = by_test (c == 32)
  where
    by_test : (t : Bool) → ByItem (if t then of_width 2 (one_digit a b)
        else of_width 3 (two_digits a b c)) (if t then in_front (one_digit a b) (interrupts_in (c ∷ items))
        else in_front (two_digits a b c) (interrupts_in items)) (λ n. interrupts_in (drop n (a ∷ b ∷ c ∷ items)))
    by_test true = by_width 2 (one_digit a b) (λ n. interrupts_in (drop n (a ∷ b ∷ c ∷ items)))
    by_test false = by_width 3 (two_digits a b c) (λ n. interrupts_in (drop n (a ∷ b ∷ c ∷ items)))

-- where there is no item, nothing can be taken
none_some : (old : List ℕ) (all : Option (List ℕ)) → None ≡ behind old all → some all ≡ None
none_some old None e = refl
none_some old (Some vs) e = cc

nothing : (old new : List ℕ) (o all : Option (List ℕ)) → o ≡ None → behind new o ≡ behind old all → Takes old new (some all) Refused
nothing old new o all e whole =
    let k : None ≡ behind old all = sym (ap (behind new) e) ∙ whole in
    subst (λ x. Takes old new x Refused) (sym (none_some old all k)) tt

pub no_read : (items rest old new : List ℕ) → 0 < length rest → first_read rest ≡ None → behind new (reads_in rest) ≡ behind old (reads_in items)
    → Takes old new (some (reads_in items)) Refused
unfolding ByItem
no_read items rest old new h e whole = nothing old new (reads_in rest) (reads_in items) ((by_read rest h).0 e) whole

pub no_interrupt : (items rest old new : List ℕ) → 0 < length rest → first_interrupt rest ≡ None
    → behind new (interrupts_in rest) ≡ behind old (interrupts_in items) → Takes old new (some (interrupts_in items)) Refused
unfolding ByItem
no_interrupt items rest old new h e whole = nothing old new (interrupts_in rest) (interrupts_in items) ((by_interrupt rest h).0 e) whole

-- one item more
moved : (new : List ℕ) (v : ℕ) (o : Option (List ℕ)) → behind (new ++ v ∷ []) o ≡ behind new (in_front (Some v) o)
moved new v None = refl
moved new v (Some vs) = ap Some (append_assoc new (v ∷ []) vs)

cut : (items : List ℕ) (n : ℕ) → take (length items - n) (drop n items) ≡ drop n items
cut items n = take_all (length items - n) (drop n items) (omega (arith, length-drop n items))

pub next_read : (rest new more : List ℕ) (item : Item) (all : Option (List ℕ)) → 0 < length rest → first_read rest ≡ Some item → more ≡ new ++ item.value ∷ []
    → behind new (reads_in rest) ≡ all → behind more (reads_in (take (length rest - item.width) (drop item.width rest))) ≡ all
unfolding ByItem
next_read rest new more item all h e m whole =
    ap (λ l. behind more (reads_in l)) (cut rest item.width)
    ∙ ap (λ l. behind l (reads_in (drop item.width rest))) m
    ∙ moved new item.value (reads_in (drop item.width rest))
    ∙ ap (behind new) (sym ((by_read rest h).1 item e))
    ∙ whole

pub next_interrupt : (rest new more : List ℕ) (item : Item) (all : Option (List ℕ)) → 0 < length rest → first_interrupt rest ≡ Some item
    → more ≡ new ++ item.value ∷ []
    → behind new (interrupts_in rest) ≡ all → behind more (interrupts_in (take (length rest - item.width) (drop item.width rest))) ≡ all
unfolding ByItem
next_interrupt rest new more item all h e m whole =
    ap (λ l. behind more (interrupts_in l)) (cut rest item.width)
    ∙ ap (λ l. behind l (interrupts_in (drop item.width rest))) m
    ∙ moved new item.value (interrupts_in (drop item.width rest))
    ∙ ap (behind new) (sym ((by_interrupt rest h).1 item e))
    ∙ whole

-- all is taken, and it is not nothing
never_empty : (o : Option ℕ) (p : Option (List ℕ)) → in_front o p ≡ Some [] → ⊥
never_empty None p e = cc
never_empty (Some c) None e = cc
never_empty (Some c) (Some cs) e = cc

pub some_reads : (items : List ℕ) → 0 < length items → reads_in items ≡ Some [] → ⊥
some_reads [] h e = omega (arith, h)
some_reads (a ∷ []) h e = cc
some_reads (a ∷ b ∷ []) h e = cc
some_reads (a ∷ b ∷ c ∷ items) h e = never_empty (spaced_pair a b c) (reads_in items) e

pub some_interrupts : (items : List ℕ) → 0 < length items → interrupts_in items ≡ Some [] → ⊥
some_interrupts [] h e = omega (arith, h)
some_interrupts (a ∷ []) h e = cc
some_interrupts (a ∷ b ∷ []) h e = never_empty (one_digit a b) (Some []) e
some_interrupts (a ∷ b ∷ c ∷ items) h e = by_test (c == 32) e
  where
    by_test : (t : Bool) → (if t then in_front (one_digit a b) (interrupts_in (c ∷ items)) else in_front (two_digits a b c) (interrupts_in items)) ≡ Some [] → ⊥
    by_test true e = never_empty (one_digit a b) (interrupts_in (c ∷ items)) e
    by_test false e = never_empty (two_digits a b c) (interrupts_in items) e

pub all_taken : (old new : List ℕ) (all : Option (List ℕ)) → (all ≡ Some [] → ⊥) → behind new (Some []) ≡ behind old all → Takes old new (some all) Good
all_taken old new None h e = cc
all_taken old new (Some []) h e = absurd (h refl)
all_taken old new (Some (v ∷ vs)) h e = let k : new ++ [] ≡ old ++ v ∷ vs = cc in sym (append-nil new) ∙ k

-- a line of items
pub takes_interrupts : (line : Line) (o : Option (List ℕ)) (old new reads : List ℕ) (taken : Taken) → line ≡ interrupts_line o → Takes old new o taken
    → TakesLine line reads reads old new taken
takes_interrupts line o old new reads taken e h = subst (λ l. TakesLine l reads reads old new taken) (sym e) (by_cases o taken h)
  where
    by_cases : (o : Option (List ℕ)) (taken : Taken) → Takes old new o taken → TakesLine (interrupts_line o) reads reads old new taken
    by_cases None Good h = absurd h
    by_cases None Refused h = tt
    by_cases (Some vs) Good h = (refl, h)
    by_cases (Some vs) Refused h = absurd h

-- what the test of emptiness says
pub filled : (l : List ℕ) (t : Bool) → t ≡ (length l == 0) → t ≡ false → 0 < length l
filled l t e f = let g : (length l == 0) ≡ false = sym e ∙ f in grind (arith, g)

pub emptied : (l : List ℕ) (t : Bool) → t ≡ (length l == 0) → t ≡ true → l ≡ []
emptied [] t e f = refl
emptied (b ∷ l) t e f = let g : (suc (length l) == 0) ≡ true = sym e ∙ f in absurd (grind (arith, g))

pub all_reads : (items rest old new : List ℕ) → 0 < length items → rest ≡ [] → behind new (reads_in rest) ≡ behind old (reads_in items)
    → Takes old new (some (reads_in items)) Good
all_reads items rest old new h e whole =
    all_taken old new (reads_in items) (some_reads items h) (ap (λ r. behind new (reads_in r)) (sym e) ∙ whole)

pub all_interrupts : (items rest old new : List ℕ) → 0 < length items → rest ≡ [] → behind new (interrupts_in rest) ≡ behind old (interrupts_in items)
    → Takes old new (some (interrupts_in items)) Good
all_interrupts items rest old new h e whole =
    all_taken old new (interrupts_in items) (some_interrupts items h) (ap (λ r. behind new (interrupts_in r)) (sym e) ∙ whole)
