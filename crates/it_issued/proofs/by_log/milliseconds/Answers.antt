use Rattle.std.proofs.Common.{◌∙◌, ap, arith}
use Rattle.std.proofs.lemmas.List.{take_all}
use Rattle.std.specs.Int.{w64, from_be_bytes}
use Rattle.it_issued.proofs.Logging.{number_is}
use Rattle.it_issued.proofs.by_log.milliseconds.Goals as goal

pub returns-in-Some : goal.returns-in-Some
returns-in-Some c =
    let whole = c.in-Some.ensures.cases.same ∙ take_all 8 c.args.bytes.now (omega arith) in
    c.from_be_bytes.ensures ∙ ap (from_be_bytes w64) whole ∙ number_is c.args.bytes.now c.requires

pub returns-in-None : goal.returns-in-None
returns-in-None c = let few = c.in-None.ensures.cases in absurd (omega arith)
