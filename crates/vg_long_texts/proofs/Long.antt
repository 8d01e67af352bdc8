-- From what fits of a text to the law of its typed program.
use Rattle.std.specs.Prelude.{ℕ, ◌<◌, ◌≤◌, List, length}
use Rattle.std.proofs.Common.{arith}
use Rattle.vg_base.specs.Limits.{text_limit}
use Rattle.vg_tree_walks.specs.Whole.{tree_at}
use Rattle.vg_core.specs.HeldProgram.{program_at}
use Rattle.vg_code_bound.specs.Nodes.{IsCodeBound}
use Rattle.vg_fits_given.specs.Fitted.{Fitted, IsFittedOf, named_start_heap}
use Rattle.vg_fits_given.proofs.Given.{given, ready}
use Rattle.vg_text_linear.specs.Long.{LongTexts}
use Rattle.vg_text_image.specs.Made.{LacksLinear}

pub long_of : LongTexts → (bytes : List ℕ) (clock : ℕ) (f : Fitted) → IsFittedOf bytes clock f → length bytes ≤ text_limit → LacksLinear f → (words : ℕ)
    → IsCodeBound (tree_at f.alive.start.names f.alive.start.tree) (named_start_heap f.alive.start) words → 65536 < words
long_of long bytes clock f is short (why, lacks) words bound =
    let s = f.alive.start in
    let start = is.alive.start in
    long bytes s.names (tree_at s.names s.tree) (program_at s.program) start.program start.legal.reads start.legal.legal
    (let a = short in omega (arith, a)) start.locals s.heap f.alive.live f.placed.numbers f.placed.columns (given bytes clock f is short)
    (ready bytes clock f is short) lacks.firm lacks.packed lacks.typed why lacks.cause words bound
