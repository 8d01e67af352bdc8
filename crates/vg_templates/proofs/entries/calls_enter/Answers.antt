use Rattle.vg_templates.proofs.Entering.{goes_enters}
use Rattle.vg_templates.proofs.Arriving.{goes_enters_on}
use Rattle.vg_templates.proofs.entries.calls_enter.Goals as goal

pub returns-clause-pushed : goal.returns-clause-pushed
returns-clause-pushed c = λ e i ok way q m pc place n entry call live behind s frames v t stand room back leads code low same lie fewer k a.
    goes_enters i ok e _ way q m pc place n entry call live behind s frames v t stand room back leads code low same lie fewer k (λ full. full) a

pub returns-clause-carried : goal.returns-clause-carried
returns-clause-carried c = λ e i ok way q m pc place entry call live behind s ps frames v t stand room back leads code low same lie few carried fewer k a.
    goes_enters_on i ok e _ way q m pc place entry call live behind s ps frames v t stand room back leads code low same lie few carried fewer k (λ full. full) a
