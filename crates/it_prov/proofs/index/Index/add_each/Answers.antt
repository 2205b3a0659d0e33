use Rattle.it_prov.proofs.Indexing.{none_added, one_added}
use Rattle.it_prov.proofs.index.Index.add_each.Goals as goal

pub loop-subject-init : goal.loop-subject-init
loop-subject-init c = none_added c.args.place c.args.self.now

pub loop-subject-preserved : goal.loop-subject-preserved
loop-subject-preserved c = one_added c.args.subjects.now c.args.place c.loop-subject.subject-index
    c.loop-subject-test.true c.args.self.now c.loop-subject.self c.add.new.self
    c.loop-subject.invariant c.in_ok-add.ensures
