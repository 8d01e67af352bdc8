use Rattle.std.proofs.Common.{ℕ, List, ◌≡◌, ◌<◌, length, arith, sym, subst}
use Rattle.vg_syntax.specs.declared.lexeme.Lexeme.{Lexeme}
use Rattle.vg_syntax.specs.Lexemes.{lexeme}
use Rattle.vg_scan.proofs.Lengths.{lexeme_takes, Takes}
use Rattle.vg_scan.proofs.scanner.token_at.Goals as goal

takes : (text : List ℕ) (found : Lexeme) → found ≡ lexeme text → 0 < length text → Takes text found
takes text found e h = subst (λ l. Takes text l) (sym e) (lexeme_takes text h)

pub overflow_add-result : goal.overflow_add-result
overflow_add-result c =
    let t = takes c.split_at.result.1.now c.lexeme_of-lexeme.result c.lexeme_of-lexeme.ensures (omega (arith, c.split_at.ensures.back_len)) in
    omega (arith, t, c.split_at.ensures.back_len)

pub returns-clause-some : goal.returns-clause-some
returns-clause-some c =
    let t = takes c.split_at.result.1.now c.lexeme_of-lexeme.result c.lexeme_of-lexeme.ensures (omega (arith, c.split_at.ensures.back_len)) in
    omega (arith, t)

pub returns-clause-within : goal.returns-clause-within
returns-clause-within c =
    let t = takes c.split_at.result.1.now c.lexeme_of-lexeme.result c.lexeme_of-lexeme.ensures (omega (arith, c.split_at.ensures.back_len)) in
    omega (arith, t, c.split_at.ensures.back_len)
