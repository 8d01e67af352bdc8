-- Structured code, the same for every meaning. What a single step is and does, each language says itself.
use Rattle.vg_meaning.specs.History.{Recorder}
use Rattle.vg_meaning.specs.Answer.{Breaks, Continues, Returns, Gives, Ends, Piece, and_then}
use Rattle.vg_meaning.specs.Loops.{Test, choose, where_holds, loop}

-- Code over steps of P.
pub data Code (P : Type 0) : Type 0 where
  Nothing : Code P
  Then : (first rest : Code P) → Code P
  Do : (p : P) → Code P
  If : (then' else' : Code P) → Code P  -- takes a truth value that waits
  Loop : (condition body next : Code P) → Code P  -- the condition leaves a truth value; `next` is done behind the body
  Break : Code P
  Continue : Code P
  Return : Code P  -- the value waits

-- What code does, from what its steps do and how a truth value is taken.
abbrev pub performed : {P S H : Type 0} → Recorder H → (P → Piece S H) → (S → Test S) → Code P → Piece S H
performed r step test Nothing s w = Gives s w
performed r step test (Then a b) s w = and_then (performed r step test a s w) (performed r step test b)
performed r step test (Do p) s w = step p s w
performed r step test (If a b) s w = choose (test s) (performed r step test a) (performed r step test b) s w
performed r step test (Loop c body next) s w =
    loop r (where_holds (performed r step test c) test) (performed r step test body) (performed r step test next) s w
performed r step test Break s w = Ends Breaks s w
performed r step test Continue s w = Ends Continues s w
performed r step test Return s w = Ends Returns s w

-- A pass: each step is replaced by code over other steps.
abbrev pub replaced : {P Q : Type 0} → (P → Code Q) → Code P → Code Q
replaced move Nothing = Nothing
replaced move (Then a b) = Then (replaced move a) (replaced move b)
replaced move (Do p) = move p
replaced move (If a b) = If (replaced move a) (replaced move b)
replaced move (Loop c body next) = Loop (replaced move c) (replaced move body) (replaced move next)
replaced move Break = Break
replaced move Continue = Continue
replaced move Return = Return
