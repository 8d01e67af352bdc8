-- What is known of code before it runs, as its steps lead from shape to shape.
use Rattle.std.specs.Prelude.{◌≡◌, Bool, true}
use Rattle.vg_meaning.specs.Code.{Code, Nothing, Then, Do, If, Loop, Break, Continue, Return}

-- A shape is what is known of a state, as the types of the values that wait.
pub record Shapes (P Shape : Type 0) : Type 1 where
  pub Takes : P → Shape → Shape → Type 0  -- the step leads from the one shape to the other
  pub Truth : Shape → Shape → Type 0  -- a truth value waits in the one; the other is left behind the test
  pub Result : Shape → Type 0  -- a returned value waits
  pub between : Shape  -- the one shape that all states between statements have

-- From a state of the first shape the code goes on, if it does, in one of the second. `looped` says that a loop stands around
-- it: where it is false, no break and no continue leaves the code.
abbrev pub Fits : {P Shape : Type 0} → Shapes P Shape → (looped : Bool) → Code P → Shape → Shape → Type 0
Fits {P} {Shape} k looped Nothing x y = x ≡ y
Fits {P} {Shape} k looped (Then a b) x y = (z : Shape) × Fits k looped a x z × Fits k looped b z y
Fits {P} {Shape} k looped (Do p) x y = k.Takes p x y
Fits {P} {Shape} k looped (If a b) x y = (z : Shape) × k.Truth x z × Fits k looped a z y × Fits k looped b z y
Fits {P} {Shape} k looped (Loop c body next) x y =
    (x ≡ k.between) × (y ≡ k.between) × (z : Shape) × Fits k looped c k.between z × k.Truth z k.between
    × Fits k true body k.between k.between × Fits k looped next k.between k.between
Fits {P} {Shape} k looped Break x y = (looped ≡ true) × (x ≡ k.between)
Fits {P} {Shape} k looped Continue x y = (looped ≡ true) × (x ≡ k.between)
Fits {P} {Shape} k looped Return x y = k.Result x

-- Where nothing need be known of the states, there is one shape.
abbrev pub shapeless : {P : Type 0} → Shapes P (Unit {0})
shapeless = record { Takes = λ p x y. Unit {0}; Truth = λ x y. Unit {0}; Result = λ x. Unit {0}; between = tt {0} }
