-- The calls that stand in packed code, and those that the calls of typed code become, in the order of the code.
use Rattle.std.specs.Prelude.{ℕ, nat_lt, if◌then◌else◌, List, [], ◌∷◌, ◌++◌}
use Rattle.vg_meaning.specs.Code.{Code, Then, Do, If, Loop}
use Rattle.vg_core.specs.declared.step.Step.{Step}
use Rattle.vg_core.specs.declared.step.Step.TheVariants.{CallMethod, CallValue, CallComponent}
use Rattle.vg_firm.specs.declared.step.Step.{Step as FirmStep}
use Rattle.vg_firm.specs.declared.step.Step.TheVariants as firm
use Rattle.vg_coded.specs.Numbers.{known}
use Rattle.vg_packing.specs.Layout.{Layout}

-- What is called: a procedure by its number, the procedure that a dispatch has for the object in hand, or that of the delegate in hand.
pub data Called : Type 0 where
  Numbered : (q : ℕ) → Called
  Dispatched : (d : ℕ) → Called
  Delegated : Called

-- The calls in code, from those of a step.
abbrev pub calls_of : {P : Type 0} → (P → List Called) → Code P → List Called
calls_of calls (Then a b) = calls_of calls a ++ calls_of calls b
calls_of calls (Do p) = calls p
calls_of calls (If a b) = calls_of calls a ++ calls_of calls b
calls_of calls (Loop c body next) = calls_of calls c ++ (calls_of calls body ++ calls_of calls next)
calls_of calls _ = []

-- The call of a packed step.
abbrev pub packed_calls : FirmStep → List Called
packed_calls (firm.Call q count) = Numbered q ∷ []
packed_calls (firm.CallFor d count) = Dispatched d ∷ []
packed_calls (firm.CallValue count) = Delegated ∷ []
packed_calls _ = []

-- What the call of a typed step becomes: a component's method is called by its procedure's number, an object's by the dispatch of the
-- static class and the selector. A delegate with more than 60 arguments is null, so there is no call.
abbrev pub typed_calls : Layout → Step → List Called
typed_calls l (CallMethod at c s count) = Dispatched (l.dispatch c s) ∷ []
typed_calls l (CallValue at count t) = if nat_lt count 61 then Delegated ∷ [] else []
typed_calls l (CallComponent m count) = Numbered (known (l.numbering.procedure m)) ∷ []
typed_calls l _ = []
