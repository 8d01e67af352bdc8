use Rattle.vg_packed.proofs.Fields.{of_component, of_class, only_live}
use Rattle.vg_packed.proofs.live_laws.live_fields_have_columns.Goals as goal

pub returns-clause-component : goal.returns-clause-component
returns-clause-component c = λ p h s set f k y e o w l. of_component p h s set f k y e o w l

pub returns-clause-class : goal.returns-clause-class
returns-clause-class c = λ p h s set formed chains f j k d y e o w ek ks below l. of_class p h s set formed chains f j k d y e o w ek ks below l

pub returns-clause-alone : goal.returns-clause-alone
returns-clause-alone c = λ p h s set f a. only_live p h s set f a
