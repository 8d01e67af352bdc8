-- How many words of flash packed code takes at most, where each value has a home.
use Rattle.std.specs.Prelude.{ℕ, ◌+◌, ◌-◌, Bool, true, false, not, ◌==◌, ◌&&◌, if◌then◌else◌}
use Rattle.vg_meaning.specs.Code.{Code, Nothing, Then, Do, If, Loop, Break, Continue, Return}
use Rattle.vg_firm.specs.declared.step.Step.{Step}
use Rattle.vg_firm.specs.declared.step.Step.TheVariants.{This, LoadAt, LoadNothing, BindFor}
use Rattle.vg_flatten_shapes.specs.declared.layout.Layout.{Layout}
use Rattle.vg_flatten_shapes.specs.declared.room.Room.{Room}
use Rattle.vg_step_words.specs.Steps.{step_words}

-- ---- the receiver

-- In a procedure that is called on objects alone the receiver is not null.
abbrev pub is_on_object : Room → Bool
is_on_object r = r.on_objects && not (r.receiver == 0)

abbrev pub is_receiver : Step → Bool
is_receiver This = true
is_receiver _ = false

-- code that leaves the receiver, and no more
abbrev pub leaves_receiver : Code Step → Bool
leaves_receiver (Do p) = is_receiver p
leaves_receiver (Then (Do p) Nothing) = is_receiver p
leaves_receiver _ = false

-- A field of an object is read, or a delegate made of its method.
abbrev pub reads_object : Step → Bool
reads_object (LoadAt home c first) = true
reads_object LoadNothing = true
reads_object (BindFor d) = true
reads_object _ = false

abbrev pub reads_first : Code Step → Bool
reads_first (Do p) = reads_object p
reads_first _ = false

-- Where that object is the receiver, its null check is not made, which takes 16 words.
abbrev pub saved_words : (on_object : Bool) → (first rest : Code Step) → ℕ
saved_words on a b = if on && leaves_receiver a && reads_first b then 16 else 0

-- ---- code

-- A choice has a branch at a value that is not 0, a jump between its two ways, and a copy behind each of them; a loop has the branch and the jump.
abbrev pub code_words : Layout → (cases : ℕ → ℕ) → (on_object : Bool) → Code Step → ℕ
code_words lay cases on Nothing = 0
code_words lay cases on (Then a b) = code_words lay cases on a + code_words lay cases on b - saved_words on a b
code_words lay cases on (Do p) = step_words lay cases p
code_words lay cases on (If a b) = 44 + code_words lay cases on a + code_words lay cases on b
code_words lay cases on (Loop c body next) = 16 + code_words lay cases on c + code_words lay cases on body + code_words lay cases on next
code_words lay cases on Break = 2
code_words lay cases on Continue = 2
code_words lay cases on Return = 20
