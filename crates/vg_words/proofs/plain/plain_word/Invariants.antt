use Rattle.std.proofs.Common.{◌≡◌, slice_get}
use Rattle.vg_words.specs.Items.{items, plain_words}
use Rattle.vg_words.specs.Commands.{words_in}
use Rattle.vg_words.specs.Walk.{items_in, size}
use Rattle.vg_words.proofs.plain.plain_word.Given as goal

-- the plain word wanted of the rest is that wanted of all
abbrev pub invariant-items : goal.invariant-items
invariant-items l =
    slice_get (plain_words (items_in l.rest)) l.left
    ≡ slice_get (plain_words (items (words_in l.words))) l.index

abbrev pub decreases-items : goal.decreases-items
decreases-items l = size l.rest
