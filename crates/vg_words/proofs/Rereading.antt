-- Words that are written are read as what was written.
use Rattle.std.proofs.Common.{◌≡◌, ℕ, ◌+◌, ◌<◌, true, false, cond, List, [], ◌∷◌, ◌++◌, length, length-append, drop, map, Some, None, refl, ap, ◌∙◌, arith}
use Rattle.std.proofs.Math.Seq.{take-append_seam, drop-append-add}
use Rattle.std.specs.Prelude.{◌==◌, not, nat_lt, codes}
use Rattle.std.specs.List.{prefix_len}
use Rattle.vg_words.specs.Items.{Item, Plain, Set, ends_options, equals_at, is_option, items, option_items}
use Rattle.vg_words.specs.Walk.{with_next}
use Rattle.vg_words.specs.Writing.{Written, Word, Apart, Joined, words_of, items_of, HasNoEquals, AreWritten}
use Rattle.vg_words.proofs.Firsts.{option_first}

-- where the first `=` stands
no_equals : (name : List ℕ) → HasNoEquals name → prefix_len (λ b. not (b == 61)) name ≡ length name
no_equals [] h = refl
no_equals (b ∷ bs) h = rw h.0 (omega (arith, no_equals bs h.1))

equals_behind : (name value : List ℕ) → HasNoEquals name → prefix_len (λ b. not (b == 61)) (name ++ 61 ∷ value) ≡ length name
equals_behind [] value h = refl
equals_behind (b ∷ bs) value h = rw h.0 (omega (arith, equals_behind bs value h.1))

not_below : (n m : ℕ) → n ≡ m → cond (nat_lt n m) (Some n) None ≡ None
not_below n m e = grind (arith, e)

below : (n m k : ℕ) → n ≡ k → k < m → cond (nat_lt n m) (Some n) None ≡ Some k
below n m k e l = grind (arith, e, l)

apart : (name : List ℕ) → HasNoEquals name → equals_at name ≡ None
apart name h = not_below (prefix_len (λ b. not (b == 61)) name) (length name) (no_equals name h)

joined : (name value : List ℕ) → HasNoEquals name → equals_at (name ++ 61 ∷ value) ≡ Some (length name)
joined name value h =
    below (prefix_len (λ b. not (b == 61)) (name ++ 61 ∷ value)) (length (name ++ 61 ∷ value)) (length name) (equals_behind name value h)
    (omega (arith, length-append name (61 ∷ value)))

-- a name and its value in one word are an option, and not `--`
joined_option : (name value : List ℕ) → is_option name ≡ true → is_option (name ++ 61 ∷ value) ≡ true
joined_option [] value h = absurd (cc)
joined_option (a ∷ []) value h = absurd (cc)
joined_option (a ∷ b ∷ name) value h = h

joined_goes_on : (name value : List ℕ) → is_option name ≡ true → ends_options (name ++ 61 ∷ value) ≡ false
joined_goes_on [] value h = absurd (cc)
joined_goes_on (a ∷ []) value h = absurd (cc)
joined_goes_on (a ∷ b ∷ []) value h = grind arith
joined_goes_on (a ∷ b ∷ c ∷ name) value h = grind arith

-- `--` is an option by its look, so a plain word is not `--`
plain_goes_on : (word : List ℕ) → is_option word ≡ false → ends_options word ≡ false
plain_goes_on [] h = refl
plain_goes_on (a ∷ []) h = grind arith
plain_goes_on (a ∷ b ∷ word) h = grind (arith, h)

word_first : (word : List ℕ) (behind : List (List ℕ)) → is_option word ≡ false → items (word ∷ behind) ≡ Plain word ∷ items behind
word_first word [] h = rw (plain_goes_on word h, h) refl
word_first word (next ∷ rest) h = rw (plain_goes_on word h, h) refl

joined_item : (name value : List ℕ) (behind with_next : List Item) → HasNoEquals name
    → option_items (name ++ 61 ∷ value) (equals_at (name ++ 61 ∷ value)) behind with_next ≡ Set name value ∷ behind
joined_item name value behind with_next h =
    ap (λ at. option_items (name ++ 61 ∷ value) at behind with_next) (joined name value h)
    ∙ ap (λ n. Set n (drop (length name + 1) (name ++ 61 ∷ value)) ∷ behind) (take-append_seam name (61 ∷ value))
    ∙ ap (λ v. Set name v ∷ behind) (drop-append-add name (61 ∷ value) 1)

pub rereads : (ps : List Written) (more : List (List ℕ)) → AreWritten ps → items (words_of ps more) ≡ items_of ps (items more)
rereads [] more h = refl
rereads (Word word ∷ ps) more h = word_first word (words_of ps more) h.0 ∙ ap (λ is. Plain word ∷ is) (rereads ps more h.1)
rereads (Apart name value ∷ ps) more h =
    option_first name (value ∷ words_of ps more) h.2 h.0
    ∙ ap (λ at. option_items name at (items (value ∷ words_of ps more)) (Set name value ∷ items (words_of ps more))) (apart name h.1)
    ∙ ap (λ is. Set name value ∷ is) (rereads ps more h.3)
rereads (Joined name value ∷ ps) more h =
    option_first (name ++ 61 ∷ value) (words_of ps more) (joined_goes_on name value h.0) (joined_option name value h.0)
    ∙ joined_item name value (items (words_of ps more)) (with_next (name ++ 61 ∷ value) (words_of ps more)) h.1
    ∙ ap (λ is. Set name value ∷ is) (rereads ps more h.2)

pub plain_behind : (ws : List (List ℕ)) → items (codes "--" ∷ ws) ≡ map Plain ws
plain_behind [] = refl
plain_behind (w ∷ ws) = refl
