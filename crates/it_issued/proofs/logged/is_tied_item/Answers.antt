use Rattle.std.proofs.Common.{◌∙◌}
use Rattle.std.proofs.lemmas.Result.{IfOk-weaker}
use Rattle.it_certificate_log.specs.Timestamp.{stamp_of}
use Rattle.it_issued.proofs.Logging.{no_stamp, tied_is}
use Rattle.it_issued.proofs.logged.is_tied_item.Goals as goal

pub returns-in_default-clause-answer : goal.returns-in_default-clause-answer
returns-in_default-clause-answer c =
    no_stamp c.args.shown.now.logs.now c.args.shown.now.issuer_key.now c.args.shown.now.bare.now c.args.item.now c.args.tie c.in_default.ensures

pub signed_text-requires : goal.signed_text-requires
signed_text-requires c = record { bare_short = c.requires; extensions_short = c.in-Some.ensures.extensions_short }

pub is_tied_to_one-requires : goal.is_tied_to_one-requires
is_tied_to_one-requires c = c.in-Some.ensures.moment_size

pub returns-clause-answer : goal.returns-clause-answer
returns-clause-answer c =
    IfOk-weaker c.is_tied_to_one.result _ _ (λ is test.
    tied_is c.args.shown.now.logs.now c.args.shown.now.issuer_key.now c.args.shown.now.bare.now c.args.item.now c.as_slice.result.now
    c.args.tie (stamp_of c.in-Some.timestamp) is c.in-Some.ensures
    (c.as_slice.ensures.value ∙ c.in_ok-text.ensures) test) c.is_tied_to_one.ensures.answer
