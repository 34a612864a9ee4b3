use Rattle.kerning_machine.specs.Machine.{walked_from}
use Rattle.kerning_machine.proofs.follow.Goals as goal

pub returns-in-At : goal.returns-in-At
unfolding walked_from
returns-in-At g c =
    record { left = λ reading by. rw (c.in-At.is, by.0, by.1) c.walk.ensures.left; along = λ reading by. rw (c.in-At.is, by.0, by.1) c.walk.ensures.along }
