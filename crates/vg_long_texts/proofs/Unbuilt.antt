-- From what fits of a text, and is not built, to the laws of its typed program.
use Rattle.std.specs.Prelude.{ℕ, ◌≡◌, ◌<◌, ◌≤◌, Bool, true, false, nat_le, List, [], ◌∷◌, length, map, Some}
use Rattle.std.proofs.Common.{refl, sym, ◌∙◌, arith}
use Rattle.vg_base.specs.Limits.{text_limit}
use Rattle.vg_tree_walks.specs.Whole.{tree_at}
use Rattle.vg_core.specs.HeldProgram.{program_at}
use Rattle.vg_code_bound.specs.Nodes.{IsCodeBound}
use Rattle.vg_compile.specs.Compile.{HasNoFrames, handler_of}
use Rattle.vg_compile.specs.Handlers.{AllCanAnswer}
use Rattle.vg_compile.proofs.Unlinked.{same_handler}
use Rattle.vg_costs.proofs.Bounded.{small_named}
use Rattle.vg_costs.proofs.Limited.{not_too_many}
use Rattle.vg_fits_given.specs.Fitted.{Fitted, IsFittedOf, named_start_heap}
use Rattle.vg_fits_given.proofs.Given.{given, ready}
use Rattle.vg_frame_costs.specs.Payable.{CanBePaid}
use Rattle.vg_lin.specs.Program.{Procedure}
use Rattle.vg_link.specs.Linking.{CanHandle}
use Rattle.vg_packed.specs.declared.program.Entrance.{Entrance}
use Rattle.vg_packed.specs.Programs.{handler_in}
use Rattle.vg_plain_handlers.proofs.Handling.{can_handle}
use Rattle.vg_source.specs.Peak.{costs}
use Rattle.vg_text_image.specs.Made.{LacksFrames, LacksHandlers}
use Rattle.vg_text_paid.specs.Paid.{PaidTexts}

-- ---- handlers

all_answer : (ms : List Procedure) (all : List Entrance) → ((v q : ℕ) → handler_in all v ≡ Some q → CanHandle ms q) → (es : List Entrance)
    → AllCanAnswer ms (map handler_of all) (map handler_of es)
all_answer ms all can [] = tt
all_answer ms all can (e ∷ es) = (λ q there. can e.vector q (sym (same_handler all e.vector) ∙ there), all_answer ms all can es)

pub handled : (bytes : List ℕ) (clock : ℕ) (f : Fitted) → IsFittedOf bytes clock f → length bytes ≤ text_limit → LacksHandlers f → ⊥
handled bytes clock f is short lacks =
    lacks.unhandled
    (all_answer lacks.linear.procedures lacks.firm.handlers
    (can_handle (program_at f.alive.start.program) f.alive.start.heap f.alive.live f.placed.numbers f.placed.columns lacks.firm lacks.packed
    (given bytes clock f is short) (ready bytes clock f is short) lacks.linear lacks.plain)
    lacks.firm.handlers)

-- ---- frames

module _ (paid : PaidTexts) (bytes : List ℕ) (clock : ℕ) (f : Fitted) (is : IsFittedOf bytes clock f) (short : length bytes ≤ text_limit)
    (lacks_for : LacksFrames f) (words : ℕ)
    (bound : IsCodeBound (tree_at f.alive.start.names f.alive.start.tree) (named_start_heap f.alive.start) words) where
  abbrev lacks : HasNoFrames (program_at f.alive.start.program) f.alive.start.heap f.alive.live f.placed.numbers f.placed.columns
      (costs (tree_at f.alive.start.names f.alive.start.tree))
  lacks = lacks_for f.alive.start.names

  paid_by : words ≤ 65536 → CanBePaid lacks.linear.procedures lacks.linear.start (costs (tree_at f.alive.start.names f.alive.start.tree))
  paid_by few =
      let s = f.alive.start in
      let start = is.alive.start in
      paid bytes s.names (tree_at s.names s.tree) (program_at s.program) start.program start.legal.reads start.legal.legal
      (let a = short in omega (arith, a)) start.locals
      (small_named bytes s.names s.tree short start.legal.reads (not_too_many (tree_at s.names s.tree) start.legal.legal)) s.heap f.alive.live
      f.placed.numbers f.placed.columns (given bytes clock f is short) (ready bytes clock f is short) lacks.firm lacks.packed lacks.typed lacks.linear
      lacks.plain words bound few

  by_words : (b : Bool) → nat_le words 65536 ≡ b → 65536 < words
  by_words false e = grind (arith, e)
  by_words true e = absurd (lacks.unpaid (paid_by (grind (arith, e))))

  pub framed : 65536 < words
  framed = by_words (nat_le words 65536) refl
