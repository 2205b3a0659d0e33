use Rattle.std.proofs.lemmas.Result.{IfOk-weaker}
use Rattle.it_notes.proofs.refusal_notes.begun_notes.Goals as goal

pub returns-in-WrongPayloadType : goal.returns-in-WrongPayloadType
returns-in-WrongPayloadType g c = λ inputs begun.
    IfOk-weaker c.type_told.result _ _ (λ told each. rw c.in-WrongPayloadType.is (each _))
    (c.type_told.ensures inputs begun.envelope)

pub returns-in-OwnerMissing : goal.returns-in-OwnerMissing
returns-in-OwnerMissing g c = λ inputs begun.
    IfOk-weaker c.owners_told.result _ _
    (λ told each. rw c.in-OwnerMissing.is (each c.in-OwnerMissing.field-0))
    (c.owners_told.ensures inputs begun)

pub returns-in-BadLayout : goal.returns-in-BadLayout
returns-in-BadLayout g c = λ inputs begun.
    IfOk-weaker c.layout_told.result _ _ (λ told each. rw c.in-BadLayout.is (each _))
    (c.layout_told.ensures inputs begun.envelope)
