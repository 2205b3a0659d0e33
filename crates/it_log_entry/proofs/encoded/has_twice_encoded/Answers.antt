use Rattle.it_borrowed.specs.Tree.{as_data}
use Rattle.it_log_entry.proofs.Bodies.{mapped, refused, twice_is, twice_none}
use Rattle.it_log_entry.proofs.encoded.has_twice_encoded.Goals as goal

pub returns-in-Some : goal.returns-in-Some
returns-in-Some c =
    let part = rw c.in-Some.is at c.in_ok-text.ensures in
    mapped c.encodes.result _ _ (λ b test. twice_is c.args.name.now (as_data c.args.value.now)
    c.in-Some.text c.args.bytes.now b part (rw c.as_slice.ensures at test)) c.encodes.ensures

pub returns-in-None : goal.returns-in-None
returns-in-None c =
    let none = rw c.in-None.is at c.in_ok-text.ensures in
    refused _ (twice_none c.args.name.now (as_data c.args.value.now) c.args.bytes.now none)
