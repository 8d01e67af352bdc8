use Rattle.std.proofs.Common.{subst, sym, length, ◌≤◌}
use Rattle.vg_hex.proofs.Again.{written_read, written_short}
use Rattle.vg_hex.proofs.writer.write.Goals as goal

pub returns-clause-read : goal.returns-clause-read
returns-clause-read c =
    written_read _ _ _ _ _ c.new-text.ensures c.in_ok-put_records.ensures.text c.in_ok-append.ensures.ok c.as_slice-bytes.ensures.bytes
    c.as_slice-bytes.ensures.within c.put_records.ensures.small

pub returns-clause-short : goal.returns-clause-short
returns-clause-short c =
    written_short _ _ _ _ c.new-text.ensures c.in_ok-put_records.ensures.text c.in_ok-append.ensures.ok
    (subst (λ l. length l ≤ 131072) (sym c.as_slice-bytes.ensures.bytes) c.as_slice-bytes.ensures.within)
