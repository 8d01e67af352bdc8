use Rattle.vg_read_expressions.proofs.suffixes.fresh.Goals as goal

pub returns-in_ok-arguments-in-Object : goal.returns-in_ok-arguments-in-Object
returns-in_ok-arguments-in-Object c texts =
    rw (c.in-Object.is, ← c.replace-arguments.ensures.value, ← c.replace.ensures.value, ← c.row_of.ensures texts, ← c.in_ok-arguments-in-Object.ensures.ok)
    (c.suffixed.ensures texts)
