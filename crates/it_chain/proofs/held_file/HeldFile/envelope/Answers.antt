use Rattle.std.proofs.Common.{ap, subst, sym}
use Rattle.it_dsse.specs.Envelope.{EnvelopeOf}
use Rattle.it_chain.proofs.held_file.HeldFile.envelope.Goals as goal

pub returns-in-Unread : goal.returns-in-Unread
returns-in-Unread c = λ envelope is.
    let none = rw c.in-Unread.is at c.self.invariant in
    none.1 envelope (subst (λ bytes. EnvelopeOf bytes envelope)
    (sym (ap (λ file. file.bytes) c.self.view_is)) is)
