use Rattle.it_check.proofs.documents.layout_given.Goals as goal

pub returns-in_ok-layout_reading-in-Some : goal.returns-in_ok-layout_reading-in-Some
returns-in_ok-layout_reading-in-Some c =
    rw c.in-Some.is (rw c.as_slice.ensures at c.in_ok-layout_reading-in-Some.ensures)
