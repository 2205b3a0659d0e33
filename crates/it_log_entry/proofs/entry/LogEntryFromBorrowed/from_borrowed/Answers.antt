use Rattle.it_log_entry.proofs.entry.LogEntryFromBorrowed.from_borrowed.Goals as goal

pub returns-in_default-5 : goal.returns-in_default-5
returns-in_default-5 c = λ entry is.
    let none = rw c.in_default-5.is at c.in_ok-promise.ensures in
    none entry.promise is.promise

pub returns-in_default-7 : goal.returns-in_default-7
returns-in_default-7 c = λ entry is.
    let none = rw c.in_default-7.is at c.in_ok-body.ensures in
    none entry.body is.body
