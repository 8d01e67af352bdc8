-- The linear code of Linear stands where structured code wants it.
use Rattle.std.specs.Prelude.{◌≡◌, refl, ℕ, zero, suc, List, [], ◌∷◌, Some, None, slice_get}
use Rattle.vg_meaning.specs.declared.event.Event.TheVariants.{Read, Write, Enter}
use Rattle.vg_meaning.specs.History.{Calling as OpenCall}
use Rattle.vg_meaning.specs.Answer.{Done}
use Rattle.vg_meaning.specs.Code.{Code, Nothing, Then, Do, If, Loop, Return}
use Rattle.vg_lin.specs.declared.instr.Operand.TheVariants.{Local, Known}
use Rattle.vg_lin.specs.declared.instr.Operator.TheVariants.{Plus, Minus}
use Rattle.vg_lin.specs.declared.instr.Comparison.TheVariants.{Below}
use Rattle.vg_lin.specs.declared.instr.Memory.TheVariants.{Ram, Flash}
use Rattle.vg_lin.specs.declared.instr.Plain.TheVariants.{Compute, Load, Store, ReadDevice, WriteDevice, Push, Find, Stop}
use Rattle.vg_lin.specs.Steps.{code_of}
use Rattle.vg_lin.specs.Meaning.{codes_in}
use Rattle.vg_lin.specs.Structured.{Step, Here, Pick, Flip, Give, To}
use Rattle.vg_lin.specs.Stands.{Next, Stands, nothing, sequence, plain, call, when, unless, flip, choice, loop, return, behind, AllStand, StandsFirst}
use Rattle.vg_lin.specs.Sessions.{session}
use Rattle.vg_lin_rows.specs.Shown.{shown}
use Rattle.vg_lin_rows.specs.Linear.{start_call, count_call, is_zero, linear}

-- The result 0.
abbrev pub gives_zero : Code Step
gives_zero = Then (Do (Give 0 (Known 0))) Return

-- The loop's test asks whether x is not 0.
abbrev pub main_body : Code Step
main_body =
    Then (Do (Here (ReadDevice 0 0x36)))
    (Then (Loop (Then (Do (Pick is_zero)) (Do Flip))
    (Then (Do (Here (Find 0 1 (Known 2))))
    (Then (Do (Here (Push 4 (Local 0))))
    (Then (Do (To count_call)) (Do (Here (Compute (record { operator = Minus; width = 4; to = 0; left = Local 0; right = Known 1 })))))))
    Nothing) gives_zero)

abbrev pub count_body : Code Step
count_body =
    Then (Do (Here (Load Ram 4 2 (record { base = 0x100; index = Known 0 }))))
    (Then (Do (Here (Compute (record { operator = Plus; width = 4; to = 2; left = Local 2; right = Local 0 }))))
    (Then (Do (Here (Store 4 (record { base = 0x100; index = Known 0 }) (Local 2))))
    (Then (Do (Here (WriteDevice 0x38 (Local 2)))) gives_zero)))

abbrev pub handler_body : Code Step
handler_body =
    Then (Do (Here (Load Flash 2 0 (record { base = 0x91; index = Known 0 }))))
    (Then (Do (Pick (record { comparison = Below; width = 2; left = Known 1; right = Local 0 })))
    (If (Then (Do (Here (Load Flash 2 0 (record { base = 0x8F; index = Known 0 }))))
    (Then (Do (Here (Load Flash 1 1 (record { base = 1; index = Local 0 }))))
    (Then (Do (Here (WriteDevice 0x37 (Local 1)))) gives_zero)))
    (Do (Here (Stop 2)))))

abbrev pub body_in : List (Code Step) → ℕ → Code Step
body_in [] m = Nothing
body_in (b ∷ bs) zero = b
body_in (b ∷ bs) (suc m) = body_in bs m

abbrev pub bodies : ℕ → Code Step
bodies m = body_in (main_body ∷ gives_zero ∷ count_body ∷ handler_body ∷ []) m

-- The structured run shows what the linear one does.
structured_run : shown (session (linear 1) bodies start_call 6 None (2 ∷ []) (3 ∷ 5 ∷ []))
    ≡ record {
      trace = Read 0x36 2 ∷ Write 0x38 2 ∷ Write 0x38 3 ∷ Enter 3 ∷ Write 0x37 66 ∷ Enter 5 ∷ [];
      openings = (OpenCall 9 ∷ []) ∷ (OpenCall 7 ∷ OpenCall 0 ∷ []) ∷ (OpenCall 7 ∷ OpenCall 0 ∷ []) ∷ (OpenCall 0 ∷ []) ∷ [];
      ending = Some Done;
    }
structured_run = refl

main_stands : Stands (code_of (slice_get (codes_in (linear 1).procedures) 0)) 0 0 main_body 0 (Next 8)
main_stands =
    sequence (plain refl) (sequence
    (loop (flip (when refl refl)) (sequence (plain refl) (sequence (plain refl) (sequence (call refl) (plain refl)))) (behind nothing refl))
    (return refl))

count_stands : Stands (code_of (slice_get (codes_in (linear 1).procedures) 2)) 0 0 count_body 0 (Next 5)
count_stands = sequence (plain refl) (sequence (plain refl) (sequence (plain refl) (sequence (plain refl) (return refl))))

-- Behind the bounds check: the element is read, or the run stops.
handler_stands : Stands (code_of (slice_get (codes_in (linear 1).procedures) 3)) 0 0 handler_body 0 (Next 7)
handler_stands =
    sequence (plain refl)
    (choice (unless refl tt) (sequence (plain refl) (sequence (plain refl) (sequence (plain refl) (return refl)))) (plain refl))

-- All bodies stand, and so does the procedure with which a run begins.
pub all_stand : AllStand (codes_in (linear 1).procedures) bodies
all_stand zero = (8, main_stands)
all_stand (suc zero) = (1, return refl)
all_stand (suc (suc zero)) = (5, count_stands)
all_stand (suc (suc (suc zero))) = (7, handler_stands)
all_stand (suc (suc (suc (suc m)))) = (0, nothing)

pub first_stands : StandsFirst (code_of (slice_get (codes_in (linear 1).procedures) 4)) start_call
first_stands = record { first = refl; idle = refl; again = refl }
