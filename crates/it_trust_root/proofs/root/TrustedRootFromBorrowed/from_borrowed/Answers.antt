use Rattle.it_borrowed.specs.Tree.{as_data}
use Rattle.it_trust_root.proofs.RootParts.{all_read}
use Rattle.it_trust_root.proofs.root.TrustedRootFromBorrowed.from_borrowed.Goals as goal

pub returns-in-Err-BadRoot : goal.returns-in-Err-BadRoot
returns-in-Err-BadRoot c = λ root is.
    let first = rw c.in-Err-BadRoot.field-0-is at c.in-Err-BadRoot.ensures in
    first.fails (all_read (as_data c.args.value.now) root is c.in-Err-BadRoot.field-0-0)
