-- What is spelled is decoded, and what is decoded is spelled.
use Rattle.std.proofs.Common.{◌≡◌, ℕ, ◌+◌, ◌*◌, ◌/◌, ◌%◌, ◌<◌, ◌≤◌, Option, Some, false, ap, sym, ◌∙◌, zero, suc, subst, arith}
use Rattle.std.specs.Prelude.{IfSome, ◌==◌, nat_lt, if◌then◌else◌}
use Rattle.avr_instr.specs.declared.operand.Base.TheVariants.{Y, Z}
use Rattle.avr_instr.specs.declared.instr.Instr.{Instr}
use Rattle.avr_instr.specs.declared.instr.Instr.TheVariants.{Adc, Add, Adiw, And, Andi, Asr, Brbc, Brbs, Call, Cli, Com, Cp, Cpc, Cpi, Dec, Eor}
use Rattle.avr_instr.specs.declared.instr.Instr.TheVariants.{Icall, Ijmp, In, Inc, Jmp, LdX, LdXPlus, LdMinusX, Ldd, Ldi, Lds, LpmZ, LpmZPlus, Lsr}
use Rattle.avr_instr.specs.declared.instr.Instr.TheVariants.{Mov, Movw, Mul, Neg, Nop, Or, Ori, Out, Pop, Push, Rcall, Ret, Reti, Rjmp, Ror, Sbc}
use Rattle.avr_instr.specs.declared.instr.Instr.TheVariants.{Sbci, Sbiw, Sei, Sleep, StX, StXPlus, StMinusX, Std, Sts, Sub, Subi}
use Rattle.avr_instr.specs.Spelled.{InRange, first_word, second_word, IsNext, Spelled}
use Rattle.avr_instr.specs.Decoded.{decoded, d_of, in_nibble_0, in_nibbles_1_2, in_nibbles_3_7, in_nibbles_8_10, in_loads, in_stores, in_fixed}
use Rattle.avr_instr.specs.Decoded.{in_one_register, in_pairs, in_nibble_9, in_nibbles_11_15}

-- the ranges of the first word, with the groups as variables
abbrev by_range : ℕ → (a b c d e f : Option Instr) → Option Instr
by_range w a b c d e f = if nat_lt w 0x1000 then a else if nat_lt w 0x3000 then b else if nat_lt w 0x8000 then c else if nat_lt w 0x9000 then d
    else if nat_lt w 0xA000 then e else if nat_lt w 0xB000 then d else f

abbrev by_block : ℕ → (a b c d : Option Instr) → Option Instr
by_block w a b c d = if w / 512 == 72 then a else if w / 512 == 73 then b else if w / 512 == 74 then c else d

ranged_0 : (w : ℕ) (a b c d e f : Option Instr) → w < 0x1000 → by_range w a b c d e f ≡ a
ranged_0 w a b c d e f h = grind arith

at_0 : (w n : ℕ) → w < 0x1000 → decoded w n ≡ in_nibble_0 w
at_0 w n h = ranged_0 w (in_nibble_0 w) (in_nibbles_1_2 w) (in_nibbles_3_7 w) (in_nibbles_8_10 w) (in_nibble_9 w n) (in_nibbles_11_15 w) h

ranged_1_2 : (w : ℕ) (a b c d e f : Option Instr) → 0x1000 ≤ w → w < 0x3000 → by_range w a b c d e f ≡ b
ranged_1_2 w a b c d e f h k = grind arith

at_1_2 : (w n : ℕ) → 0x1000 ≤ w → w < 0x3000 → decoded w n ≡ in_nibbles_1_2 w
at_1_2 w n h k = ranged_1_2 w (in_nibble_0 w) (in_nibbles_1_2 w) (in_nibbles_3_7 w) (in_nibbles_8_10 w) (in_nibble_9 w n) (in_nibbles_11_15 w) h k

ranged_3_7 : (w : ℕ) (a b c d e f : Option Instr) → 0x3000 ≤ w → w < 0x8000 → by_range w a b c d e f ≡ c
ranged_3_7 w a b c d e f h k = grind arith

at_3_7 : (w n : ℕ) → 0x3000 ≤ w → w < 0x8000 → decoded w n ≡ in_nibbles_3_7 w
at_3_7 w n h k = ranged_3_7 w (in_nibble_0 w) (in_nibbles_1_2 w) (in_nibbles_3_7 w) (in_nibbles_8_10 w) (in_nibble_9 w n) (in_nibbles_11_15 w) h k

ranged_8 : (w : ℕ) (a b c d e f : Option Instr) → 0x8000 ≤ w → w < 0x9000 → by_range w a b c d e f ≡ d
ranged_8 w a b c d e f h k = grind arith

at_8 : (w n : ℕ) → 0x8000 ≤ w → w < 0x9000 → decoded w n ≡ in_nibbles_8_10 w
at_8 w n h k = ranged_8 w (in_nibble_0 w) (in_nibbles_1_2 w) (in_nibbles_3_7 w) (in_nibbles_8_10 w) (in_nibble_9 w n) (in_nibbles_11_15 w) h k

ranged_9 : (w : ℕ) (a b c d e f : Option Instr) → 0x9000 ≤ w → w < 0xA000 → by_range w a b c d e f ≡ e
ranged_9 w a b c d e f h k = grind arith

pub at_9 : (w n : ℕ) → 0x9000 ≤ w → w < 0xA000 → decoded w n ≡ in_nibble_9 w n
at_9 w n h k = ranged_9 w (in_nibble_0 w) (in_nibbles_1_2 w) (in_nibbles_3_7 w) (in_nibbles_8_10 w) (in_nibble_9 w n) (in_nibbles_11_15 w) h k

ranged_10 : (w : ℕ) (a b c d e f : Option Instr) → 0xA000 ≤ w → w < 0xB000 → by_range w a b c d e f ≡ d
ranged_10 w a b c d e f h k = grind arith

at_10 : (w n : ℕ) → 0xA000 ≤ w → w < 0xB000 → decoded w n ≡ in_nibbles_8_10 w
at_10 w n h k = ranged_10 w (in_nibble_0 w) (in_nibbles_1_2 w) (in_nibbles_3_7 w) (in_nibbles_8_10 w) (in_nibble_9 w n) (in_nibbles_11_15 w) h k

ranged_11_15 : (w : ℕ) (a b c d e f : Option Instr) → 0xB000 ≤ w → by_range w a b c d e f ≡ f
ranged_11_15 w a b c d e f h = grind arith

at_11_15 : (w n : ℕ) → 0xB000 ≤ w → decoded w n ≡ in_nibbles_11_15 w
at_11_15 w n h = ranged_11_15 w (in_nibble_0 w) (in_nibbles_1_2 w) (in_nibbles_3_7 w) (in_nibbles_8_10 w) (in_nibble_9 w n) (in_nibbles_11_15 w) h

blocked_loads : (w : ℕ) (a b c d : Option Instr) → w / 512 ≡ 72 → by_block w a b c d ≡ a
blocked_loads w a b c d h = grind arith

blocked_stores : (w : ℕ) (a b c d : Option Instr) → w / 512 ≡ 73 → by_block w a b c d ≡ b
blocked_stores w a b c d h = grind arith

blocked_one : (w : ℕ) (a b c d : Option Instr) → w / 512 ≡ 74 → by_block w a b c d ≡ c
blocked_one w a b c d h = grind arith

blocked_pairs : (w : ℕ) (a b c d : Option Instr) → 0x9600 ≤ w → by_block w a b c d ≡ d
blocked_pairs w a b c d h = grind arith

at_loads : (w n : ℕ) → w / 512 ≡ 72 → decoded w n ≡ in_loads w n
at_loads w n h = at_9 w n (omega arith) (omega arith) ∙ blocked_loads w (in_loads w n) (in_stores w n) (in_one_register w n) (in_pairs w) h

at_stores : (w n : ℕ) → w / 512 ≡ 73 → decoded w n ≡ in_stores w n
at_stores w n h = at_9 w n (omega arith) (omega arith) ∙ blocked_stores w (in_loads w n) (in_stores w n) (in_one_register w n) (in_pairs w) h

at_one : (w n : ℕ) → w / 512 ≡ 74 → decoded w n ≡ in_one_register w n
at_one w n h = at_9 w n (omega arith) (omega arith) ∙ blocked_one w (in_loads w n) (in_stores w n) (in_one_register w n) (in_pairs w) h

at_pairs : (w n : ℕ) → 0x9600 ≤ w → w < 0xA000 → decoded w n ≡ in_pairs w
at_pairs w n h k = at_9 w n (omega arith) k ∙ blocked_pairs w (in_loads w n) (in_stores w n) (in_one_register w n) (in_pairs w) h

-- no register stands in the word where its low four bits are of none of the rows with one
no_register : (w : ℕ) (a b c d e f g o : Option Instr) → 8 ≤ w % 16 → (w % 16 == 10) ≡ false
    → (if w % 16 == 0 then a else if w % 16 == 1 then b else if w % 16 == 3 then c else if w % 16 == 5 then d else if w % 16 == 6 then e
    else if w % 16 == 7 then f else if w % 16 == 10 then g else o) ≡ o
no_register w a b c d e f g o h k = grind arith

at_fixed : (w n : ℕ) → w / 512 ≡ 74 → 8 ≤ w % 16 → (w % 16 == 10) ≡ false → decoded w n ≡ in_fixed w n
at_fixed w n b h k = at_one w n b ∙ no_register w (Some (Com (d_of w))) (Some (Neg (d_of w))) (Some (Inc (d_of w))) (Some (Asr (d_of w)))
    (Some (Lsr (d_of w))) (Some (Ror (d_of w))) (Some (Dec (d_of w))) (in_fixed w n) h k

seventh : (w : ℕ) (a b c d e f g o : Option Instr) → w % 16 ≡ 10 → (if w % 16 == 0 then a else if w % 16 == 1 then b else if w % 16 == 3 then c
    else if w % 16 == 5 then d else if w % 16 == 6 then e else if w % 16 == 7 then f else if w % 16 == 10 then g else o) ≡ g
seventh w a b c d e f g o h = grind arith

-- what is spelled is decoded, group by group
adc_in : (w n d r : ℕ) → InRange (Adc d r) → w ≡ first_word (Adc d r) → IsNext (second_word (Adc d r)) n → in_nibbles_1_2 w ≡ Some (Adc d r)
adc_in w n d r h e x = grind arith

add_in : (w n d r : ℕ) → InRange (Add d r) → w ≡ first_word (Add d r) → IsNext (second_word (Add d r)) n → in_nibble_0 w ≡ Some (Add d r)
add_in w n d r h e x = grind arith

adiw_in : (w n d k : ℕ) → InRange (Adiw d k) → w ≡ first_word (Adiw d k) → IsNext (second_word (Adiw d k)) n → in_pairs w ≡ Some (Adiw d k)
adiw_in w n d k h e x = grind arith

and_in : (w n d r : ℕ) → InRange (And d r) → w ≡ first_word (And d r) → IsNext (second_word (And d r)) n → in_nibbles_1_2 w ≡ Some (And d r)
and_in w n d r h e x = grind arith

andi_in : (w n d k : ℕ) → InRange (Andi d k) → w ≡ first_word (Andi d k) → IsNext (second_word (Andi d k)) n → in_nibbles_3_7 w ≡ Some (Andi d k)
andi_in w n d k h e x = grind arith

asr_in : (w n d : ℕ) → InRange (Asr d) → w ≡ first_word (Asr d) → IsNext (second_word (Asr d)) n → in_one_register w n ≡ Some (Asr d)
asr_in w n d h e x = grind arith

brbc_in : (w n s k : ℕ) → InRange (Brbc s k) → w ≡ first_word (Brbc s k) → IsNext (second_word (Brbc s k)) n → in_nibbles_11_15 w ≡ Some (Brbc s k)
brbc_in w n s k h e x = grind arith

brbs_in : (w n s k : ℕ) → InRange (Brbs s k) → w ≡ first_word (Brbs s k) → IsNext (second_word (Brbs s k)) n → in_nibbles_11_15 w ≡ Some (Brbs s k)
brbs_in w n s k h e x = grind arith

call_in : (w n k : ℕ) → InRange (Call k) → w ≡ first_word (Call k) → IsNext (second_word (Call k)) n → in_fixed w n ≡ Some (Call k)
call_in w n k h e x = grind arith

cli_in : (w n : ℕ) → InRange Cli → w ≡ first_word Cli → IsNext (second_word Cli) n → in_fixed w n ≡ Some Cli
cli_in w n h e x = grind arith

com_in : (w n d : ℕ) → InRange (Com d) → w ≡ first_word (Com d) → IsNext (second_word (Com d)) n → in_one_register w n ≡ Some (Com d)
com_in w n d h e x = grind arith

cp_in : (w n d r : ℕ) → InRange (Cp d r) → w ≡ first_word (Cp d r) → IsNext (second_word (Cp d r)) n → in_nibbles_1_2 w ≡ Some (Cp d r)
cp_in w n d r h e x = grind arith

cpc_in : (w n d r : ℕ) → InRange (Cpc d r) → w ≡ first_word (Cpc d r) → IsNext (second_word (Cpc d r)) n → in_nibble_0 w ≡ Some (Cpc d r)
cpc_in w n d r h e x = grind arith

cpi_in : (w n d k : ℕ) → InRange (Cpi d k) → w ≡ first_word (Cpi d k) → IsNext (second_word (Cpi d k)) n → in_nibbles_3_7 w ≡ Some (Cpi d k)
cpi_in w n d k h e x = grind arith

dec_in : (w n d : ℕ) → InRange (Dec d) → w ≡ first_word (Dec d) → IsNext (second_word (Dec d)) n → in_one_register w n ≡ Some (Dec d)
dec_in w n d h e x = let same : d_of w ≡ d = omega arith in seventh w (Some (Com (d_of w))) (Some (Neg (d_of w))) (Some (Inc (d_of w)))
    (Some (Asr (d_of w))) (Some (Lsr (d_of w))) (Some (Ror (d_of w))) (Some (Dec (d_of w))) (in_fixed w n) (omega arith) ∙ ap (λ m. Some (Dec m)) same

eor_in : (w n d r : ℕ) → InRange (Eor d r) → w ≡ first_word (Eor d r) → IsNext (second_word (Eor d r)) n → in_nibbles_1_2 w ≡ Some (Eor d r)
eor_in w n d r h e x = grind arith

icall_in : (w n : ℕ) → InRange Icall → w ≡ first_word Icall → IsNext (second_word Icall) n → in_fixed w n ≡ Some Icall
icall_in w n h e x = grind arith

ijmp_in : (w n : ℕ) → InRange Ijmp → w ≡ first_word Ijmp → IsNext (second_word Ijmp) n → in_fixed w n ≡ Some Ijmp
ijmp_in w n h e x = grind arith

in_in : (w n d a : ℕ) → InRange (In d a) → w ≡ first_word (In d a) → IsNext (second_word (In d a)) n → in_nibbles_11_15 w ≡ Some (In d a)
in_in w n d a h e x = grind arith

inc_in : (w n d : ℕ) → InRange (Inc d) → w ≡ first_word (Inc d) → IsNext (second_word (Inc d)) n → in_one_register w n ≡ Some (Inc d)
inc_in w n d h e x = grind arith

jmp_in : (w n k : ℕ) → InRange (Jmp k) → w ≡ first_word (Jmp k) → IsNext (second_word (Jmp k)) n → in_fixed w n ≡ Some (Jmp k)
jmp_in w n k h e x = grind arith

ldx_in : (w n d : ℕ) → InRange (LdX d) → w ≡ first_word (LdX d) → IsNext (second_word (LdX d)) n → in_loads w n ≡ Some (LdX d)
ldx_in w n d h e x = grind arith

ldxplus_in : (w n d : ℕ) → InRange (LdXPlus d) → w ≡ first_word (LdXPlus d) → IsNext (second_word (LdXPlus d)) n → in_loads w n ≡ Some (LdXPlus d)
ldxplus_in w n d h e x = grind arith

ldminusx_in : (w n d : ℕ) → InRange (LdMinusX d) → w ≡ first_word (LdMinusX d) → IsNext (second_word (LdMinusX d)) n → in_loads w n ≡ Some (LdMinusX d)
ldminusx_in w n d h e x = grind arith

ldd_y_in : (w n d q : ℕ) → InRange (Ldd d Y q) → w ≡ first_word (Ldd d Y q) → IsNext (second_word (Ldd d Y q)) n → in_nibbles_8_10 w ≡ Some (Ldd d Y q)
ldd_y_in w n d q h e x = grind arith

ldd_z_in : (w n d q : ℕ) → InRange (Ldd d Z q) → w ≡ first_word (Ldd d Z q) → IsNext (second_word (Ldd d Z q)) n → in_nibbles_8_10 w ≡ Some (Ldd d Z q)
ldd_z_in w n d q h e x = grind arith

ldi_in : (w n d k : ℕ) → InRange (Ldi d k) → w ≡ first_word (Ldi d k) → IsNext (second_word (Ldi d k)) n → in_nibbles_11_15 w ≡ Some (Ldi d k)
ldi_in w n d k h e x = grind arith

lds_in : (w n d k : ℕ) → InRange (Lds d k) → w ≡ first_word (Lds d k) → IsNext (second_word (Lds d k)) n → in_loads w n ≡ Some (Lds d k)
lds_in w n d k h e x = grind arith

lpmz_in : (w n d : ℕ) → InRange (LpmZ d) → w ≡ first_word (LpmZ d) → IsNext (second_word (LpmZ d)) n → in_loads w n ≡ Some (LpmZ d)
lpmz_in w n d h e x = grind arith

lpmzplus_in : (w n d : ℕ) → InRange (LpmZPlus d) → w ≡ first_word (LpmZPlus d) → IsNext (second_word (LpmZPlus d)) n → in_loads w n ≡ Some (LpmZPlus d)
lpmzplus_in w n d h e x = grind arith

lsr_in : (w n d : ℕ) → InRange (Lsr d) → w ≡ first_word (Lsr d) → IsNext (second_word (Lsr d)) n → in_one_register w n ≡ Some (Lsr d)
lsr_in w n d h e x = grind arith

mov_in : (w n d r : ℕ) → InRange (Mov d r) → w ≡ first_word (Mov d r) → IsNext (second_word (Mov d r)) n → in_nibbles_1_2 w ≡ Some (Mov d r)
mov_in w n d r h e x = grind arith

movw_in : (w n d r : ℕ) → InRange (Movw d r) → w ≡ first_word (Movw d r) → IsNext (second_word (Movw d r)) n → in_nibble_0 w ≡ Some (Movw d r)
movw_in w n d r h e x = grind arith

mul_in : (w n d r : ℕ) → InRange (Mul d r) → w ≡ first_word (Mul d r) → IsNext (second_word (Mul d r)) n → in_pairs w ≡ Some (Mul d r)
mul_in w n d r h e x = grind arith

neg_in : (w n d : ℕ) → InRange (Neg d) → w ≡ first_word (Neg d) → IsNext (second_word (Neg d)) n → in_one_register w n ≡ Some (Neg d)
neg_in w n d h e x = grind arith

nop_in : (w n : ℕ) → InRange Nop → w ≡ first_word Nop → IsNext (second_word Nop) n → in_nibble_0 w ≡ Some Nop
nop_in w n h e x = grind arith

or_in : (w n d r : ℕ) → InRange (Or d r) → w ≡ first_word (Or d r) → IsNext (second_word (Or d r)) n → in_nibbles_1_2 w ≡ Some (Or d r)
or_in w n d r h e x = grind arith

ori_in : (w n d k : ℕ) → InRange (Ori d k) → w ≡ first_word (Ori d k) → IsNext (second_word (Ori d k)) n → in_nibbles_3_7 w ≡ Some (Ori d k)
ori_in w n d k h e x = grind arith

out_in : (w n a r : ℕ) → InRange (Out a r) → w ≡ first_word (Out a r) → IsNext (second_word (Out a r)) n → in_nibbles_11_15 w ≡ Some (Out a r)
out_in w n a r h e x = grind arith

pop_in : (w n d : ℕ) → InRange (Pop d) → w ≡ first_word (Pop d) → IsNext (second_word (Pop d)) n → in_loads w n ≡ Some (Pop d)
pop_in w n d h e x = grind arith

push_in : (w n r : ℕ) → InRange (Push r) → w ≡ first_word (Push r) → IsNext (second_word (Push r)) n → in_stores w n ≡ Some (Push r)
push_in w n r h e x = grind arith

rcall_in : (w n k : ℕ) → InRange (Rcall k) → w ≡ first_word (Rcall k) → IsNext (second_word (Rcall k)) n → in_nibbles_11_15 w ≡ Some (Rcall k)
rcall_in w n k h e x = grind arith

ret_in : (w n : ℕ) → InRange Ret → w ≡ first_word Ret → IsNext (second_word Ret) n → in_fixed w n ≡ Some Ret
ret_in w n h e x = grind arith

reti_in : (w n : ℕ) → InRange Reti → w ≡ first_word Reti → IsNext (second_word Reti) n → in_fixed w n ≡ Some Reti
reti_in w n h e x = grind arith

rjmp_in : (w n k : ℕ) → InRange (Rjmp k) → w ≡ first_word (Rjmp k) → IsNext (second_word (Rjmp k)) n → in_nibbles_11_15 w ≡ Some (Rjmp k)
rjmp_in w n k h e x = grind arith

ror_in : (w n d : ℕ) → InRange (Ror d) → w ≡ first_word (Ror d) → IsNext (second_word (Ror d)) n → in_one_register w n ≡ Some (Ror d)
ror_in w n d h e x = grind arith

sbc_in : (w n d r : ℕ) → InRange (Sbc d r) → w ≡ first_word (Sbc d r) → IsNext (second_word (Sbc d r)) n → in_nibble_0 w ≡ Some (Sbc d r)
sbc_in w n d r h e x = grind arith

sbci_in : (w n d k : ℕ) → InRange (Sbci d k) → w ≡ first_word (Sbci d k) → IsNext (second_word (Sbci d k)) n → in_nibbles_3_7 w ≡ Some (Sbci d k)
sbci_in w n d k h e x = grind arith

sbiw_in : (w n d k : ℕ) → InRange (Sbiw d k) → w ≡ first_word (Sbiw d k) → IsNext (second_word (Sbiw d k)) n → in_pairs w ≡ Some (Sbiw d k)
sbiw_in w n d k h e x = grind arith

sei_in : (w n : ℕ) → InRange Sei → w ≡ first_word Sei → IsNext (second_word Sei) n → in_fixed w n ≡ Some Sei
sei_in w n h e x = grind arith

sleep_in : (w n : ℕ) → InRange Sleep → w ≡ first_word Sleep → IsNext (second_word Sleep) n → in_fixed w n ≡ Some Sleep
sleep_in w n h e x = grind arith

stx_in : (w n r : ℕ) → InRange (StX r) → w ≡ first_word (StX r) → IsNext (second_word (StX r)) n → in_stores w n ≡ Some (StX r)
stx_in w n r h e x = grind arith

stxplus_in : (w n r : ℕ) → InRange (StXPlus r) → w ≡ first_word (StXPlus r) → IsNext (second_word (StXPlus r)) n → in_stores w n ≡ Some (StXPlus r)
stxplus_in w n r h e x = grind arith

stminusx_in : (w n r : ℕ) → InRange (StMinusX r) → w ≡ first_word (StMinusX r) → IsNext (second_word (StMinusX r)) n → in_stores w n ≡ Some (StMinusX r)
stminusx_in w n r h e x = grind arith

std_y_in : (w n q r : ℕ) → InRange (Std Y q r) → w ≡ first_word (Std Y q r) → IsNext (second_word (Std Y q r)) n → in_nibbles_8_10 w ≡ Some (Std Y q r)
std_y_in w n q r h e x = grind arith

std_z_in : (w n q r : ℕ) → InRange (Std Z q r) → w ≡ first_word (Std Z q r) → IsNext (second_word (Std Z q r)) n → in_nibbles_8_10 w ≡ Some (Std Z q r)
std_z_in w n q r h e x = grind arith

sts_in : (w n k r : ℕ) → InRange (Sts k r) → w ≡ first_word (Sts k r) → IsNext (second_word (Sts k r)) n → in_stores w n ≡ Some (Sts k r)
sts_in w n k r h e x = grind arith

sub_in : (w n d r : ℕ) → InRange (Sub d r) → w ≡ first_word (Sub d r) → IsNext (second_word (Sub d r)) n → in_nibbles_1_2 w ≡ Some (Sub d r)
sub_in w n d r h e x = grind arith

subi_in : (w n d k : ℕ) → InRange (Subi d k) → w ≡ first_word (Subi d k) → IsNext (second_word (Subi d k)) n → in_nibbles_3_7 w ≡ Some (Subi d k)
subi_in w n d k h e x = grind arith

-- the rows with a displacement have two ranges
displaced : (w n t : ℕ) (i : Instr) → t < 2 → w / 4096 ≡ 8 + t * 2 → in_nibbles_8_10 w ≡ Some i → decoded w n ≡ Some i
displaced w n zero i h q e = at_8 w n (omega arith) (omega arith) ∙ e
displaced w n (suc zero) i h q e = at_10 w n (omega arith) (omega arith) ∙ e
displaced w n (suc (suc t)) i h q e = absurd (omega arith)

-- what is spelled is decoded
pub decodes : (i : Instr) (w n : ℕ) → InRange i → w ≡ first_word i → IsNext (second_word i) n → decoded w n ≡ Some i
decodes (Adc d r) w n h e x = at_1_2 w n (omega arith) (omega arith) ∙ adc_in w n d r h e x
decodes (Add d r) w n h e x = at_0 w n (omega arith) ∙ add_in w n d r h e x
decodes (Adiw d k) w n h e x = at_pairs w n (omega arith) (omega arith) ∙ adiw_in w n d k h e x
decodes (And d r) w n h e x = at_1_2 w n (omega arith) (omega arith) ∙ and_in w n d r h e x
decodes (Andi d k) w n h e x = at_3_7 w n (omega arith) (omega arith) ∙ andi_in w n d k h e x
decodes (Asr d) w n h e x = at_one w n (omega arith) ∙ asr_in w n d h e x
decodes (Brbc s k) w n h e x = at_11_15 w n (omega arith) ∙ brbc_in w n s k h e x
decodes (Brbs s k) w n h e x = at_11_15 w n (omega arith) ∙ brbs_in w n s k h e x
decodes (Call k) w n h e x = at_fixed w n (omega arith) (omega arith) (grind arith) ∙ call_in w n k h e x
decodes Cli w n h e x = at_fixed w n (omega arith) (omega arith) (grind arith) ∙ cli_in w n h e x
decodes (Com d) w n h e x = at_one w n (omega arith) ∙ com_in w n d h e x
decodes (Cp d r) w n h e x = at_1_2 w n (omega arith) (omega arith) ∙ cp_in w n d r h e x
decodes (Cpc d r) w n h e x = at_0 w n (omega arith) ∙ cpc_in w n d r h e x
decodes (Cpi d k) w n h e x = at_3_7 w n (omega arith) (omega arith) ∙ cpi_in w n d k h e x
decodes (Dec d) w n h e x = at_one w n (omega arith) ∙ dec_in w n d h e x
decodes (Eor d r) w n h e x = at_1_2 w n (omega arith) (omega arith) ∙ eor_in w n d r h e x
decodes Icall w n h e x = at_fixed w n (omega arith) (omega arith) (grind arith) ∙ icall_in w n h e x
decodes Ijmp w n h e x = at_fixed w n (omega arith) (omega arith) (grind arith) ∙ ijmp_in w n h e x
decodes (In d a) w n h e x = at_11_15 w n (omega arith) ∙ in_in w n d a h e x
decodes (Inc d) w n h e x = at_one w n (omega arith) ∙ inc_in w n d h e x
decodes (Jmp k) w n h e x = at_fixed w n (omega arith) (omega arith) (grind arith) ∙ jmp_in w n k h e x
decodes (LdX d) w n h e x = at_loads w n (omega arith) ∙ ldx_in w n d h e x
decodes (LdXPlus d) w n h e x = at_loads w n (omega arith) ∙ ldxplus_in w n d h e x
decodes (LdMinusX d) w n h e x = at_loads w n (omega arith) ∙ ldminusx_in w n d h e x
decodes (Ldd d Y q) w n h e x = displaced w n (q / 32) _ (omega arith) (omega arith) (ldd_y_in w n d q h e x)
decodes (Ldd d Z q) w n h e x = displaced w n (q / 32) _ (omega arith) (omega arith) (ldd_z_in w n d q h e x)
decodes (Ldi d k) w n h e x = at_11_15 w n (omega arith) ∙ ldi_in w n d k h e x
decodes (Lds d k) w n h e x = at_loads w n (omega arith) ∙ lds_in w n d k h e x
decodes (LpmZ d) w n h e x = at_loads w n (omega arith) ∙ lpmz_in w n d h e x
decodes (LpmZPlus d) w n h e x = at_loads w n (omega arith) ∙ lpmzplus_in w n d h e x
decodes (Lsr d) w n h e x = at_one w n (omega arith) ∙ lsr_in w n d h e x
decodes (Mov d r) w n h e x = at_1_2 w n (omega arith) (omega arith) ∙ mov_in w n d r h e x
decodes (Movw d r) w n h e x = at_0 w n (omega arith) ∙ movw_in w n d r h e x
decodes (Mul d r) w n h e x = at_pairs w n (omega arith) (omega arith) ∙ mul_in w n d r h e x
decodes (Neg d) w n h e x = at_one w n (omega arith) ∙ neg_in w n d h e x
decodes Nop w n h e x = at_0 w n (omega arith) ∙ nop_in w n h e x
decodes (Or d r) w n h e x = at_1_2 w n (omega arith) (omega arith) ∙ or_in w n d r h e x
decodes (Ori d k) w n h e x = at_3_7 w n (omega arith) (omega arith) ∙ ori_in w n d k h e x
decodes (Out a r) w n h e x = at_11_15 w n (omega arith) ∙ out_in w n a r h e x
decodes (Pop d) w n h e x = at_loads w n (omega arith) ∙ pop_in w n d h e x
decodes (Push r) w n h e x = at_stores w n (omega arith) ∙ push_in w n r h e x
decodes (Rcall k) w n h e x = at_11_15 w n (omega arith) ∙ rcall_in w n k h e x
decodes Ret w n h e x = at_fixed w n (omega arith) (omega arith) (grind arith) ∙ ret_in w n h e x
decodes Reti w n h e x = at_fixed w n (omega arith) (omega arith) (grind arith) ∙ reti_in w n h e x
decodes (Rjmp k) w n h e x = at_11_15 w n (omega arith) ∙ rjmp_in w n k h e x
decodes (Ror d) w n h e x = at_one w n (omega arith) ∙ ror_in w n d h e x
decodes (Sbc d r) w n h e x = at_0 w n (omega arith) ∙ sbc_in w n d r h e x
decodes (Sbci d k) w n h e x = at_3_7 w n (omega arith) (omega arith) ∙ sbci_in w n d k h e x
decodes (Sbiw d k) w n h e x = at_pairs w n (omega arith) (omega arith) ∙ sbiw_in w n d k h e x
decodes Sei w n h e x = at_fixed w n (omega arith) (omega arith) (grind arith) ∙ sei_in w n h e x
decodes Sleep w n h e x = at_fixed w n (omega arith) (omega arith) (grind arith) ∙ sleep_in w n h e x
decodes (StX r) w n h e x = at_stores w n (omega arith) ∙ stx_in w n r h e x
decodes (StXPlus r) w n h e x = at_stores w n (omega arith) ∙ stxplus_in w n r h e x
decodes (StMinusX r) w n h e x = at_stores w n (omega arith) ∙ stminusx_in w n r h e x
decodes (Std Y q r) w n h e x = displaced w n (q / 32) _ (omega arith) (omega arith) (std_y_in w n q r h e x)
decodes (Std Z q r) w n h e x = displaced w n (q / 32) _ (omega arith) (omega arith) (std_z_in w n q r h e x)
decodes (Sts k r) w n h e x = at_stores w n (omega arith) ∙ sts_in w n k r h e x
decodes (Sub d r) w n h e x = at_1_2 w n (omega arith) (omega arith) ∙ sub_in w n d r h e x
decodes (Subi d k) w n h e x = at_3_7 w n (omega arith) (omega arith) ∙ subi_in w n d k h e x

-- what is decoded is spelled, group by group
only_0 : (w n : ℕ) → w < 0x1000 → IfSome (in_nibble_0 w) (Spelled w n)
only_0 w n h = grind arith

only_1_2 : (w n : ℕ) → 0x1000 ≤ w → w < 0x3000 → IfSome (in_nibbles_1_2 w) (Spelled w n)
only_1_2 w n h k = grind arith

only_3_7 : (w n : ℕ) → 0x3000 ≤ w → w < 0x8000 → IfSome (in_nibbles_3_7 w) (Spelled w n)
only_3_7 w n h k = grind arith

only_8 : (w n : ℕ) → 0x8000 ≤ w → w < 0x9000 → IfSome (in_nibbles_8_10 w) (Spelled w n)
only_8 w n h k = grind arith

only_10 : (w n : ℕ) → 0xA000 ≤ w → w < 0xB000 → IfSome (in_nibbles_8_10 w) (Spelled w n)
only_10 w n h k = grind arith

only_loads : (w n : ℕ) → w / 512 ≡ 72 → n < 65536 → IfSome (in_loads w n) (Spelled w n)
only_loads w n h k = grind arith

only_stores : (w n : ℕ) → w / 512 ≡ 73 → n < 65536 → IfSome (in_stores w n) (Spelled w n)
only_stores w n h k = grind arith

only_fixed : (w n : ℕ) → n < 65536 → IfSome (in_fixed w n) (Spelled w n)
only_fixed w n h = grind arith

with_register_or : (w n : ℕ) (o : Option Instr) → w / 512 ≡ 74 → IfSome o (Spelled w n)
    → IfSome (if w % 16 == 0 then Some (Com (d_of w)) else if w % 16 == 1 then Some (Neg (d_of w)) else if w % 16 == 3 then Some (Inc (d_of w))
    else if w % 16 == 5 then Some (Asr (d_of w)) else if w % 16 == 6 then Some (Lsr (d_of w)) else if w % 16 == 7 then Some (Ror (d_of w))
    else if w % 16 == 10 then Some (Dec (d_of w)) else o) (Spelled w n)
with_register_or w n o h k = grind arith

only_one : (w n : ℕ) → w / 512 ≡ 74 → n < 65536 → IfSome (in_one_register w n) (Spelled w n)
only_one w n h k = with_register_or w n (in_fixed w n) h (only_fixed w n k)

only_pairs : (w n : ℕ) → w < 0xA000 → IfSome (in_pairs w) (Spelled w n)
only_pairs w n h = grind arith

only_11_15 : (w n : ℕ) → w < 65536 → IfSome (in_nibbles_11_15 w) (Spelled w n)
only_11_15 w n h = grind arith

each_block : (P : Instr → Type 0) (w : ℕ) (a b c d : Option Instr) → (w / 512 ≡ 72 → IfSome a P) → (w / 512 ≡ 73 → IfSome b P) → (w / 512 ≡ 74 → IfSome c P)
    → IfSome d P → IfSome (by_block w a b c d) P
each_block P w a b c d p q r s = grind arith

pub only_9 : (w n : ℕ) → w < 0xA000 → n < 65536 → IfSome (in_nibble_9 w n) (Spelled w n)
only_9 w n h k = each_block (Spelled w n) w (in_loads w n) (in_stores w n) (in_one_register w n) (in_pairs w) (λ e. only_loads w n e k)
    (λ e. only_stores w n e k) (λ e. only_one w n e k) (only_pairs w n h)

each_range : (P : Instr → Type 0) (w : ℕ) (a b c d e f : Option Instr) → (w < 0x1000 → IfSome a P) → (0x1000 ≤ w → w < 0x3000 → IfSome b P)
    → (0x3000 ≤ w → w < 0x8000 → IfSome c P) → (0x8000 ≤ w → w < 0x9000 → IfSome d P) → (w < 0xA000 → IfSome e P) → (0xA000 ≤ w → w < 0xB000 → IfSome d P)
    → IfSome f P → IfSome (by_range w a b c d e f) P
each_range P w a b c d e f p q r s t u v = grind arith

-- what is decoded is spelled
pub only_spelled : (w n : ℕ) → w < 65536 → n < 65536 → IfSome (decoded w n) (Spelled w n)
only_spelled w n h k = each_range (Spelled w n) w (in_nibble_0 w) (in_nibbles_1_2 w) (in_nibbles_3_7 w) (in_nibbles_8_10 w) (in_nibble_9 w n)
    (in_nibbles_11_15 w) (only_0 w n) (only_1_2 w n) (only_3_7 w n) (only_8 w n) (λ b. only_9 w n b k) (only_10 w n) (only_11_15 w n h)

pub decoded_only : (w n : ℕ) (i : Instr) → w < 65536 → n < 65536 → decoded w n ≡ Some i → Spelled w n i
decoded_only w n i h k e = subst (λ o. IfSome o (Spelled w n)) e (only_spelled w n h k)

pub decoded_each : (w n : ℕ) (i : Instr) → Spelled w n i → decoded w n ≡ Some i
decoded_each w n i s = decodes i w n s.operands s.first s.second

some_same : (i j : Instr) → Some i ≡ Some j → i ≡ j
some_same i j e = cc

-- two words spell at most one instruction
pub spelled_once : (w n : ℕ) (i j : Instr) → Spelled w n i → Spelled w n j → i ≡ j
spelled_once w n i j s t = some_same i j (sym (decoded_each w n i s) ∙ decoded_each w n j t)
