-- What an answer of `why` says: each clause of vg_why, lifted from the bytes, the member and their answer to the file and the status.
-- A file is missing, or the answer to its bytes was put: what the status says of either is in Statuses and in the first lemmas here.
use Rattle.std.proofs.Common.{◌≡◌, ℕ, ◌≤◌, ◌<◌, ◌⊎◌, ◌↔◌, List, length, Option, Some, None, Ok, Err, refl, sym, ap, ◌∙◌, subst, arith, inl, inr}
use Rattle.std.specs.Prelude.{IsOk}
use Rattle.vg_base.specs.Limits.{text_limit}
use Rattle.vg_base.specs.declared.refusal.Refusal.TheVariants as refusal
use Rattle.vg_io.specs.declared.file.File.{File}
use Rattle.vg_fetch.specs.Told.{ForFile}
use Rattle.vg_fetch.specs.declared.fetch.NoFile.{NoFile}
use Rattle.vg_fetch.specs.declared.fetch.NoFile.TheVariants as missing
use Rattle.vg_faults.specs.declared.fault.Fault.{Fault}
use Rattle.vg_faults.specs.declared.fault.Fault.TheVariants.{NoTree, TooDeep, TooMany, Broken, InitTrap, InitSteps, InitDepth, InitTouches, InitTooBig, Allocates, StaticFull, TableFull}
use Rattle.vg_faults.specs.declared.fault.Fault.TheVariants.{StackFull, CodeFull, NoMember, NotBuilt}
use Rattle.vg_why.specs.Answer as of_bytes
use Rattle.vg_why.specs.Answer.{Answer, Answers, HasFault, fault_in}
use Rattle.vg_why.specs.Asked.{IsDeclaredIn, NoMemberIn, WhyIn}
use Rattle.vg_why.proofs.Faults.{complete_of, exactly}
use Rattle.vg_status.specs.declared.status.Status.{Status}
use Rattle.vg_status.specs.declared.status.Status.TheVariants.{Done, Refused, ReadFault, WriteFault, NoMemory}
use Rattle.vg_commands.specs.Texts.{ForLines, ForText}
use Rattle.vg_commands.specs.Commands.{IsAnswerOfWhy}
use Rattle.vg_commands.specs.Endings.{status_without_file}
use Rattle.vg_commands.specs.Leaves.{Change, Fails, GainsAll, GainsFront, IsSame, PutLines, WhyBy}
use Rattle.vg_status.specs.Statuses.{IsBeforePuts, IsDoneOrNoMemory, IsSettled, IsShown}
use Rattle.vg_commands.proofs.Files.{of_file, of_text, with_file}
use Rattle.vg_commands.proofs.Statuses.{missing_no_write, missing_not_shown, missing_of_why, missing_unsettled, refusal_no_write, refusal_not_shown}

-- A FILE IS MISSING

pub missing_completes : (reason : NoFile) (s : Status) (long shelf rest : Type 0) → s ≡ status_without_file reason → (reason ≡ missing.Long → long)
    → (s ≡ ReadFault → shelf) → (IsDoneOrNoMemory s ⊎ (shelf ⊎ rest)) ⊎ long
missing_completes missing.Failed s long shelf rest tells too_long read = inl (inr (inl (read tells)))
missing_completes missing.Wanting s long shelf rest tells too_long read = inl (inl (subst IsDoneOrNoMemory (sym tells) tt))
missing_completes missing.Long s long shelf rest tells too_long read = inr (too_long refl)

pub not_both : (n : ℕ) → text_limit < n → n ≤ text_limit → ⊥
not_both n long short = omega (arith, long, short)

-- THE ANSWER TO THE BYTES, BY THE STATUS

settled_answer : (r : Answer) (s : Status) (out : Change) → PutLines r s out → IsSettled s → of_bytes.IsSettled r
settled_answer (Ok lines) s out h settled = tt
settled_answer (Err (refusal.Fault why)) s out h settled = tt
settled_answer (Err refusal.NoMemory) s out h settled = absurd (subst IsSettled h.0 settled)

same_fault : (p q : Fault) → Refused p ≡ Refused q → p ≡ q
same_fault p q e = cc

same_some : (p q : Fault) → Some p ≡ Some q → p ≡ q
same_some p q e = cc

-- the status names exactly the fault of the answer
refused_iff : (r : Answer) (s : Status) (out : Change) → PutLines r s out → (why : Fault) → (s ≡ Refused why) ↔ (fault_in r ≡ Some why)
refused_iff (Ok lines) s out (inl h) why = (λ e. let d = h.0 in cc, λ k. cc)
refused_iff (Ok lines) s out (inr h) why = (λ e. let d = h.0 in cc, λ k. cc)
refused_iff (Err (refusal.Fault w)) s out h why =
    (λ e. ap Some (same_fault w why (sym h.0 ∙ e)), λ k. h.0 ∙ ap Refused (same_some w why k))
refused_iff (Err refusal.NoMemory) s out h why = (λ e. let d : s ≡ NoMemory = h.0 in cc, λ k. cc)

-- Done: all was put
done_is : (r : Answer) (s : Status) (out : Change) → PutLines r s out → IsShown s → (lines : List ℕ) × (r ≡ Ok lines) × GainsAll out lines
done_is (Ok lines) s out (inl h) shown = (lines, refl, h.1)
done_is (Ok lines) s out (inr h) shown = absurd (subst IsShown h.0 shown)
done_is (Err why) s out h shown = absurd (refusal_not_shown why (subst IsShown h.0 shown))

-- WriteFault: the put failed
failed_is : (r : Answer) (s : Status) (out : Change) → PutLines r s out → s ≡ WriteFault → (lines : List ℕ) × (r ≡ Ok lines) × GainsFront out lines × Fails out
failed_is (Ok lines) s out (inl h) e = let d = h.0 in cc
failed_is (Ok lines) s out (inr h) e = (lines, refl, h.1, h.2)
failed_is (Err why) s out h e = absurd (refusal_no_write why (sym h.0 ∙ e))

before_same : (r : Answer) (s : Status) (out : Change) → PutLines r s out → IsBeforePuts s → IsSame out
before_same (Ok lines) s out (inl h) before = absurd (subst IsBeforePuts h.0 before)
before_same (Ok lines) s out (inr h) before = absurd (subst IsBeforePuts h.0 before)
before_same (Err why) s out h before = h.1

-- each fault of the bytes is an answer: that a form is not built is none of them
fault_answer : (why : Fault) (bytes member : List ℕ) → HasFault why bytes member → IsAnswerOfWhy (Refused why)
fault_answer (NoTree p) bytes member h = tt
fault_answer (TooDeep p) bytes member h = tt
fault_answer (TooMany what limit p) bytes member h = tt
fault_answer (Broken rule p) bytes member h = tt
fault_answer (InitTrap code p) bytes member h = tt
fault_answer InitSteps bytes member h = tt
fault_answer InitDepth bytes member h = tt
fault_answer (InitTouches address) bytes member h = tt
fault_answer InitTooBig bytes member h = tt
fault_answer (Allocates p line) bytes member h = tt
fault_answer (StaticFull need) bytes member h = h
fault_answer (TableFull need) bytes member h = h
fault_answer (StackFull need left) bytes member h = h
fault_answer (CodeFull words) bytes member h = h
fault_answer NoMember bytes member h = tt
fault_answer (NotBuilt p) bytes member h = h

put_answer : (r : Answer) (s : Status) (bytes member : List ℕ) (out : Change) → Answers bytes member r → PutLines r s out → IsAnswerOfWhy s
put_answer (Ok lines) s bytes member out says (inl h) = subst IsAnswerOfWhy (sym h.0) tt
put_answer (Ok lines) s bytes member out says (inr h) = subst IsAnswerOfWhy (sym h.0) tt
put_answer (Err (refusal.Fault why)) s bytes member out says h = subst IsAnswerOfWhy (sym h.0) (fault_answer why bytes member says)
put_answer (Err refusal.NoMemory) s bytes member out says h = subst IsAnswerOfWhy (sym h.0) tt

-- REFUSALS

-- two equivalences in a row
chain : (A B C : Type 0) → A ↔ B → B ↔ C → A ↔ C
chain A B C f g = (λ a. g.0 (f.0 a), λ c. f.1 (g.1 c))

-- exactly the faults of the bytes and of the member are named
pub exactly_by : (s : Status) (told : Option (List File)) (file member : List ℕ) (out : Change) → WhyBy s told file member out → IsSettled s
    → ForFile told file (λ bytes. (why : Fault) → (s ≡ Refused why) ↔ HasFault why bytes member)
exactly_by s told file member out (inl h) settled = absurd (missing_unsettled h.reason (subst IsSettled h.tells settled))
exactly_by s told file member out (inr h) settled =
    of_file told file h.bytes (λ bytes. (why : Fault) → (s ≡ Refused why) ↔ HasFault why bytes member) h.whole
    (λ why. chain _ _ _ (refused_iff h.answer s out h.puts why)
    (exactly h.bytes member h.answer h.says (settled_answer h.answer s out h.puts settled) why))

-- exactly the members that are not declared are refused so
pub no_member_by : (s : Status) (told : Option (List File)) (file member : List ℕ) (out : Change) → WhyBy s told file member out → IsSettled s
    → ForFile told file (λ bytes. (s ≡ Refused NoMember) ↔ NoMemberIn bytes member)
no_member_by s told file member out h settled =
    with_file told file _ (λ bytes. (s ≡ Refused NoMember) ↔ NoMemberIn bytes member) (λ bytes f. f NoMember) (exactly_by s told file member out h settled)

-- WHAT IS PUT

lines_of : (told : Option (List File)) (file member bytes lines : List ℕ) (P : List ℕ → Type 0) → ForFile told file (λ b. b ≡ bytes) → WhyIn bytes member lines
    → P lines → ForText told file (λ b. ForLines b member P)
lines_of told file member bytes lines P whole is h = of_text told file bytes (λ b. ForLines b member P) whole (lines, is, h)

pub lines_by : (s : Status) (told : Option (List File)) (file member : List ℕ) (out : Change) → WhyBy s told file member out → s ≡ Done
    → ForText told file (λ bytes. ForLines bytes member (λ lines. GainsAll out lines))
lines_by s told file member out (inl h) e = absurd (missing_not_shown h.reason (subst IsShown (sym e ∙ h.tells) tt))
lines_by s told file member out (inr h) e =
    let (lines, same, all) = done_is h.answer s out h.puts (subst IsShown (sym e) tt) in
    lines_of told file member h.bytes lines (λ l. GainsAll out l) h.whole (subst (λ r. Answers h.bytes member r) same h.says) all

pub front_by : (s : Status) (told : Option (List File)) (file member : List ℕ) (out : Change) → WhyBy s told file member out → s ≡ WriteFault
    → ForText told file (λ bytes. ForLines bytes member (λ lines. GainsFront out lines))
front_by s told file member out (inl h) e = absurd (missing_no_write h.reason (sym h.tells ∙ e))
front_by s told file member out (inr h) e =
    let (lines, same, front, fails) = failed_is h.answer s out h.puts e in
    lines_of told file member h.bytes lines (λ l. GainsFront out l) h.whole (subst (λ r. Answers h.bytes member r) same h.says) front

pub write_fault_by : (s : Status) (told : Option (List File)) (file member : List ℕ) (out : Change) → WhyBy s told file member out → s ≡ WriteFault → Fails out
write_fault_by s told file member out (inl h) e = absurd (missing_no_write h.reason (sym h.tells ∙ e))
write_fault_by s told file member out (inr h) e =
    let (lines, same, front, fails) = failed_is h.answer s out h.puts e in fails

pub before_by : (s : Status) (told : Option (List File)) (file member : List ℕ) (out : Change) → WhyBy s told file member out → IsBeforePuts s → IsSame out
before_by s told file member out (inl h) before = h.out_same
before_by s told file member out (inr h) before = before_same h.answer s out h.puts before

pub answers_by : (s : Status) (told : Option (List File)) (file member : List ℕ) (out : Change) → WhyBy s told file member out → IsAnswerOfWhy s
answers_by s told file member out (inl h) = subst IsAnswerOfWhy (sym h.tells) (missing_of_why h.reason)
answers_by s told file member out (inr h) = put_answer h.answer s h.bytes member out h.says h.puts

-- COMPLETENESS

-- what holds of every file that is not too long
unless_long : (told : Option (List File)) (file member : List ℕ) (X : Type 0) → X ⊎ ForFile told file (λ bytes. text_limit < length bytes)
    → ForFile told file (λ bytes. IsDeclaredIn bytes member → length bytes ≤ text_limit → X)
unless_long None file member X h = tt
unless_long (Some files) file member X (inl x) = λ declared short. x
unless_long (Some files) file member X (inr long) = λ declared short. absurd (not_both _ long short)

put_completes : (r : Answer) (s : Status) (out : Change) (shelf : Type 0) → PutLines r s out → IsOk r ⊎ (r ≡ Err refusal.NoMemory)
    → IsDoneOrNoMemory s ⊎ (shelf ⊎ Fails out)
put_completes (Ok lines) s out shelf (inl h) k = inl (subst IsDoneOrNoMemory (sym h.0) tt)
put_completes (Ok lines) s out shelf (inr h) k = inr (inr h.2)
put_completes (Err (refusal.Fault why)) s out shelf h (inl ok) = cc
put_completes (Err (refusal.Fault why)) s out shelf h (inr e) = cc
put_completes (Err refusal.NoMemory) s out shelf h k = inl (subst IsDoneOrNoMemory (sym h.0) tt)

pub complete_by : (s : Status) (told : Option (List File)) (file member : List ℕ) (out : Change) (shelf : Type 0) → WhyBy s told file member out
    → (s ≡ ReadFault → shelf)
    → ForFile told file (λ bytes. IsDeclaredIn bytes member → length bytes ≤ text_limit → IsDoneOrNoMemory s ⊎ (shelf ⊎ Fails out))
complete_by s told file member out shelf (inl h) read =
    unless_long told file member _ (missing_completes h.reason s _ shelf (Fails out) h.tells h.too_long read)
complete_by s told file member out shelf (inr h) read =
    of_file told file h.bytes (λ bytes. IsDeclaredIn bytes member → length bytes ≤ text_limit → IsDoneOrNoMemory s ⊎ (shelf ⊎ Fails out)) h.whole
    (λ declared short. put_completes h.answer s out shelf h.puts (complete_of h.bytes member h.answer h.says declared))
