-- How the requests went, by the answer.
use Rattle.std.proofs.Common.{◌≡◌, ◌↔◌, List, [], ◌++◌, map, Option, Some, None, refl, sym, ◌∙◌, ap, subst, append-nil}
use Rattle.std.proofs.Math.Seq.{drop-length}
use Rattle.vg_io.specs.declared.asked.Asked.{Asked}
use Rattle.vg_fetch.specs.Asking.{AreGivenButLast, AsksAll, AsksFront, HasFailed, HasPassedLimit, Request, gained, last_of, request_of}
use Rattle.vg_fetch.specs.declared.fetch.NoFile.{NoFile}
use Rattle.vg_fetch.specs.declared.fetch.NoFile.TheVariants as missing
use Rattle.vg_status.specs.declared.status.Status.{Status}
use Rattle.vg_status.specs.declared.status.Status.TheVariants.{ReadFault, TooLong}
use Rattle.vg_commands.specs.Leaves.{FetchedBy, IsBehindFiles, TellsFiles}
use Rattle.vg_status.specs.Statuses.{IsSettled}
use Rattle.vg_commands.proofs.Statuses.{long_is_long, missing_unsettled, read_is_failed}

pub asks_front_by : (s : Status) (old new : List Asked) (requests : List Request) → FetchedBy s old new requests → AsksFront old new requests
asks_front_by s old new requests h = h.went.asks

all_given : (reason : Option NoFile) (s : Status) → TellsFiles reason s → IsSettled s → reason ≡ None
all_given None s tells settled = refl
all_given (Some reason) s tells settled = absurd (missing_unsettled reason (subst IsSettled tells settled))

pub asks_all_by : (s : Status) (old new : List Asked) (requests : List Request) → FetchedBy s old new requests → IsSettled s → AsksAll old new requests
asks_all_by s old new requests h settled = h.went.all (all_given h.reason s h.tells settled)

one_failed : (reason : Option NoFile) (s : Status) → TellsFiles reason s → s ≡ ReadFault → reason ≡ Some missing.Failed
one_failed None s tells e = absurd (subst IsBehindFiles e tells)
one_failed (Some reason) s tells e = ap Some (read_is_failed reason (sym tells ∙ e))

pub failed_by : (s : Status) (old new : List Asked) (requests : List Request) → FetchedBy s old new requests → s ≡ ReadFault
    → HasFailed (last_of (gained old new))
failed_by s old new requests h e = h.went.failed (one_failed h.reason s h.tells e)

one_long : (reason : Option NoFile) (s : Status) → TellsFiles reason s → s ≡ TooLong → reason ≡ Some missing.Long
one_long None s tells e = absurd (subst IsBehindFiles e tells)
one_long (Some reason) s tells e = ap Some (long_is_long reason (sym tells ∙ e))

is_long : (reason : Option NoFile) (s : Status) → TellsFiles reason s → reason ≡ Some missing.Long → s ≡ TooLong
is_long None s tells e = cc
is_long (Some missing.Failed) s tells e = cc
is_long (Some missing.Wanting) s tells e = cc
is_long (Some missing.Long) s tells e = tells

pub too_long_by : (s : Status) (old new : List Asked) (requests : List Request) → FetchedBy s old new requests
    → (s ≡ TooLong) ↔ HasPassedLimit (last_of (gained old new))
too_long_by s old new requests h =
    (λ e. h.went.passed (one_long h.reason s h.tells e), λ p. is_long h.reason s h.tells (h.went.only p))

-- a command without a file asks for nothing
none_gained : (asked : List Asked) → gained asked asked ≡ []
none_gained asked = drop-length asked

pub nothing_fetched : (s : Status) → IsBehindFiles s → (asked : List Asked) → FetchedBy s asked asked []
nothing_fetched s behind asked =
    let g = none_gained asked in
    let keeps : asked ≡ asked ++ gained asked asked = sym (ap (λ l. asked ++ l) g ∙ append-nil asked) in
    record {
      reason = None;
      went = record {
        asks = record { keeps = keeps; count = 0; front = ap (λ l. map request_of l) g; in_turn = subst AreGivenButLast (sym g) tt };
        all = λ e. record { keeps = keeps; all = ap (λ l. map request_of l) g };
        failed = λ e. cc;
        passed = λ e. cc;
        only = λ p. absurd (subst (λ l. HasPassedLimit (last_of l)) g p);
      };
      tells = behind;
    }
