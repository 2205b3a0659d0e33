use Rattle.std.proofs.Common.{◌∙◌, arith, ap, length}
use Rattle.std.proofs.lemmas.List.{nil_from_length}
use Rattle.it_borrowed.specs.Tree.{as_data}
use Rattle.it_bundle.proofs.Same.{lists_same}
use Rattle.it_bundle.proofs.entries.entries_of.Goals as goal

pub returns-then-count-eq0 : goal.returns-then-count-eq0
returns-then-count-eq0 c = λ entries is.
    lists_same (as_data c.args.material.now) entries c.in-Some.entries is
    (rw c.in-Some.is at c.in_ok-entries.ensures)
    ∙ nil_from_length c.in-Some.entries
    (omega (arith, ap length c.as_slice-count.ensures, c.if-count-eq0.true))
