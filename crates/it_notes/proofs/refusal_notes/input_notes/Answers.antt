use Rattle.std.proofs.lemmas.Result.{IfOk-weaker}
use Rattle.it_notes.proofs.refusal_notes.input_notes.Goals as goal

pub returns-in-BadPolicy : goal.returns-in-BadPolicy
returns-in-BadPolicy c =
    IfOk-weaker c.policy_told.result _ _ (λ told each panel. rw c.in-BadPolicy.is (each panel))
    c.policy_told.ensures

pub returns-in-BadSums : goal.returns-in-BadSums
returns-in-BadSums c =
    IfOk-weaker c.line_told.result _ _ (λ told each panel. rw c.in-BadSums.is (each panel))
    c.line_told.ensures

pub returns-in-BadSums512 : goal.returns-in-BadSums512
returns-in-BadSums512 c =
    IfOk-weaker c.line_told-in-BadSums512.result _ _
    (λ told each panel. rw c.in-BadSums512.is (each panel))
    c.line_told-in-BadSums512.ensures

pub returns-in-BadMoment : goal.returns-in-BadMoment
returns-in-BadMoment c =
    IfOk-weaker c.moment_told.result _ _ (λ told each panel. rw c.in-BadMoment.is (each panel))
    c.moment_told.ensures

pub returns-in-NoFiles : goal.returns-in-NoFiles
returns-in-NoFiles c = λ panel. rw c.in-NoFiles.is (c.no_line_told.ensures panel)

pub returns-in-BadEnvelope : goal.returns-in-BadEnvelope
returns-in-BadEnvelope c =
    IfOk-weaker c.envelope_told.result _ _ (λ told each panel. rw c.in-BadEnvelope.is (each panel))
    c.envelope_told.ensures
