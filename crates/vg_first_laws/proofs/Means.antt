-- The bytes of a program of constants, by the rules and by the meaning of the language.
use Rattle.std.specs.Prelude.{ℕ, suc, List, None}
use Rattle.std.proofs.Common.{◌≡◌, sym, ap, ◌∙◌}
use Rattle.vg_meaning.specs.Seen.{Seen}
use Rattle.vg_syntax.specs.Tree.{Node}
use Rattle.vg_syntax.specs.Reads.{Reads}
use Rattle.vg_source.specs.Program.{source_of}
use Rattle.vg_source.specs.Session.{Started, started}
use Rattle.vg_source.specs.Peak.{sessions}
use Rattle.vg_rules.specs.Refusal.{refusal_of}
use Rattle.vg_first_text.specs.declared.device_write.DeviceWrite.{DeviceWrite}
use Rattle.vg_first_text.specs.FirstSession.{first_session}
use Rattle.vg_first_text.specs.FirstText.{IsFirst}
use Rattle.vg_first_laws.specs.Trees.{empty_heap}
use Rattle.vg_first_laws.proofs.Legal.{first_is_legal}
use Rattle.vg_first_laws.proofs.Names.{is_constants, sessions_are}
use Rattle.vg_first_laws.proofs.Placed.{tree_is_placed}
use Rattle.vg_first_laws.proofs.Runs.{started_does}

module _ (bytes : List ℕ) (writes : List DeviceWrite) (tree : Node) (h : IsFirst bytes writes) (reads : Reads bytes tree) where
  pub text_is_legal : refusal_of tree ≡ None
  text_is_legal =
      let (at, device, program, is) = tree_is_placed bytes writes tree h reads in
      ap refusal_of is ∙ first_is_legal at device program h.first h.fits

  pub text_starts : (clock : ℕ) → started (source_of tree) (suc clock) ≡ Started empty_heap
  text_starts clock =
      let (at, device, program, is) = tree_is_placed bytes writes tree h reads in
      ap (λ t. started (source_of t) (suc clock)) is ∙ started_does _ _ (is_constants at device program h.first h.fits) clock

  pub text_session : (values interrupts : List ℕ) (clock : ℕ) → sessions tree empty_heap values interrupts clock ≡ first_session writes values interrupts clock
  text_session values interrupts clock =
      let (at, device, program, is) = tree_is_placed bytes writes tree h reads in
      ap (λ t. sessions t empty_heap values interrupts clock) is ∙ sessions_are at device program h.first h.fits values interrupts clock
      ∙ ap (λ ws. first_session ws values interrupts clock) (sym h.written)

  pub text_sessions : sessions tree empty_heap ≡ first_session writes
  text_sessions = λ i values interrupts clock. text_session values interrupts clock i
