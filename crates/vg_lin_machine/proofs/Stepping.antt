-- Steps of runs.
use Rattle.std.specs.Prelude.{ℕ, zero, suc, ◌+◌, ◌-◌, ◌<◌, List, Option, Some, None, is_some, true}
use Rattle.std.proofs.Common.{◌≡◌, refl, sym, ap, ◌∙◌, arith}
use Rattle.vg_meaning.specs.Answer.{End}
use Rattle.vg_lin.specs.declared.instr.Instr.{Instr}
use Rattle.vg_lin.specs.Steps.{Language, Config, stepped, step, steps}
use Rattle.vg_lin.specs.State.{State}
use Rattle.std.specs.Option.{option_map}
use Rattle.vg_lin_machine.specs.declared.ending.End.{End as Why}
use Rattle.vg_lin_machine.specs.Machines.{end_of}

-- one step less is left
pub one_less : (l : Language State) (procs : List (List Instr)) (n i : ℕ) (c d : Config State) → i < n → d ≡ step l procs c
    → steps l procs (n - (i + 1)) d ≡ steps l procs (n - i) c
one_less l procs n i c d below e =
    let left : n - i ≡ suc (n - (i + 1)) = omega (arith, below) in
    ap (steps l procs (n - (i + 1))) e ∙ sym (ap (λ m. steps l procs m c) left)

-- A run that is over stays as it is.
pub stays : (l : Language State) (procs : List (List Instr)) (n : ℕ) (c : Config State) (why : End) → c.ending ≡ Some why → steps l procs n c ≡ c
stays l procs zero c why over = refl
stays l procs (suc n) c why over =
    let one : step l procs c ≡ c = ap (λ o. stepped l procs c o c.woken) over in
    ap (steps l procs n) one ∙ stays l procs n c why over

pub stays_ended : (l : Language State) (procs : List (List Instr)) (n : ℕ) (c : Config State) (e : Option Why) → option_map end_of e ≡ c.ending
    → is_some e ≡ true → steps l procs n c ≡ c
stays_ended l procs n c None same over = cc
stays_ended l procs n c (Some why) same over = stays l procs n c (end_of why) (sym same)
