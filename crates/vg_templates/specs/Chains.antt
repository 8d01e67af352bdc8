-- Chains of instructions that compute with numbers of several bytes: one instruction a byte, with the carry between them. The left number is in registers
-- from d on and becomes the result; the right one is in a list of registers.
use Rattle.std.specs.Prelude.{ℕ, zero, suc, ◌/◌, ◌%◌, List, [], ◌∷◌}
use Rattle.avr_instr.specs.declared.instr.Instr.{Instr}
use Rattle.avr_instr.specs.declared.instr.Instr.TheVariants.{Adc, Add, And, Cp, Cpc, Eor, Or, Sbc, Sbci, Sub, Subi}

-- sums
abbrev pub adds_on : (d : ℕ) → List ℕ → List Instr
adds_on d [] = []
adds_on d (r ∷ rs) = Adc d r ∷ adds_on (suc d) rs

abbrev pub adds : (d : ℕ) → List ℕ → List Instr
adds d [] = []
adds d (r ∷ rs) = Add d r ∷ adds_on (suc d) rs

-- differences; and with a known number, from r16 on
abbrev pub subtracts_on : (d : ℕ) → List ℕ → List Instr
subtracts_on d [] = []
subtracts_on d (r ∷ rs) = Sbc d r ∷ subtracts_on (suc d) rs

abbrev pub subtracts : (d : ℕ) → List ℕ → List Instr
subtracts d [] = []
subtracts d (r ∷ rs) = Sub d r ∷ subtracts_on (suc d) rs

abbrev pub takes_known_on : (d count value : ℕ) → List Instr
takes_known_on d zero v = []
takes_known_on d (suc n) v = Sbci d (v % 256) ∷ takes_known_on (suc d) n (v / 256)

abbrev pub takes_known : (d count value : ℕ) → List Instr
takes_known d zero v = []
takes_known d (suc n) v = Subi d (v % 256) ∷ takes_known_on (suc d) n (v / 256)

-- logic, byte by byte
abbrev pub ands : (d : ℕ) → List ℕ → List Instr
ands d [] = []
ands d (r ∷ rs) = And d r ∷ ands (suc d) rs

abbrev pub ors : (d : ℕ) → List ℕ → List Instr
ors d [] = []
ors d (r ∷ rs) = Or d r ∷ ors (suc d) rs

abbrev pub eors : (d : ℕ) → List ℕ → List Instr
eors d [] = []
eors d (r ∷ rs) = Eor d r ∷ eors (suc d) rs

-- comparisons of two numbers, both in lists of registers
abbrev pub compares_on : (left right : List ℕ) → List Instr
compares_on [] rs = []
compares_on (a ∷ as') [] = []
compares_on (a ∷ as') (r ∷ rs) = Cpc a r ∷ compares_on as' rs

abbrev pub compares : (left right : List ℕ) → List Instr
compares [] rs = []
compares (a ∷ as') [] = []
compares (a ∷ as') (r ∷ rs) = Cp a r ∷ compares_on as' rs
