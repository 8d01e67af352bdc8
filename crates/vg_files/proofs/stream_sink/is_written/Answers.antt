use Rattle.std.proofs.Common.{◌≡◌, ℕ, ◌-◌, List, ◌++◌, length, take, drop, sym, ap, ◌∙◌, append_assoc, take-append-drop}
use Rattle.std.proofs.lemmas.List.{take_rest}
use Rattle.std.proofs.KnownBytes.{Appends-trans}
use Rattle.vg_files.proofs.stream_sink.is_written.Goals as goal

-- of what was to go on, so many bytes are gone now
goes_on : (piece done rest : List ℕ) (count : ℕ) → piece ≡ done ++ rest → piece ≡ done ++ take count rest ++ take (length rest - count) (drop count rest)
goes_on piece done rest count split =
    let parts : take count rest ++ take (length rest - count) (drop count rest) ≡ rest =
    ap (λ l. take count rest ++ l) (take_rest rest count) ∙ take-append-drop count rest
    in
    split ∙ ap (λ l. done ++ l) (sym parts) ∙ sym (append_assoc done (take count rest) _)

pub turns-preserved : goal.turns-preserved
turns-preserved g c =
    let (done, split, appended) = c.turns.invariant in
    let rest = c.turns.rest.now in
    let count = c.in-Ok.count in
    (done ++ take count rest, goes_on _ done rest count split, Appends-trans _ _ _ _ _ appended c.in-Ok.ensures.bytes)
