-- The items of an option and the words behind it.
use Rattle.std.proofs.Common.{◌≡◌, ℕ, suc, ◌-◌, ◌≤◌, true, false, List, [], ◌∷◌, length, take, drop, get_or, refl, sym, ap, ◌∙◌, subst, arith}
use Rattle.std.proofs.lemmas.List.{take_all}
use Rattle.std.specs.Prelude.{String, string_bytes}
use Rattle.std.specs.Global.{Global}
use Rattle.vg_words.specs.declared.items.First.{First}
use Rattle.vg_words.specs.Items.{ends_options, equals_at, is_option, items, option_items}
use Rattle.vg_words.specs.Commands.{words_in}
use Rattle.vg_words.specs.Walk.{Begins, with_next}

pub option_first : (word : List ℕ) (behind : List (List ℕ)) → ends_options word ≡ false → is_option word ≡ true
    → items (word ∷ behind) ≡ option_items word (equals_at word) (items behind) (with_next word behind)
option_first word [] e f = rw (e, f) refl
option_first word (next ∷ rest) e f = rw (e, f) refl

-- the same of the first of words
pub begins_option : (words : List (String Global)) (word : String Global) (text : List ℕ) (first : First)
    → 1 ≤ length words → word ≡ get_or words 0 word → text ≡ string_bytes word → ends_options text ≡ false → is_option text ≡ true
    → Begins first (option_items text (equals_at text) (items (words_in (take (length words - 1) (drop 1 words))))
    (with_next text (words_in (take (length words - 1) (drop 1 words)))))
    → Begins first (items (words_in words))
begins_option [] word text first l w t e f h = absurd (omega (arith, l))
begins_option (v ∷ words) word text first l w t e f h =
    let cut : take (suc (length words) - 1) words ≡ words = take_all (suc (length words) - 1) words (omega arith) in
    let k : Begins first (option_items text (equals_at text) (items (words_in words)) (with_next text (words_in words))) =
    subst (λ ws. Begins first (option_items text (equals_at text) (items (words_in ws)) (with_next text (words_in ws)))) cut h in
    let m : Begins first (items (text ∷ words_in words)) = subst (Begins first) (sym (option_first text (words_in words) e f)) k in
    subst (λ x. Begins first (items (x ∷ words_in words))) (t ∙ ap string_bytes w) m
