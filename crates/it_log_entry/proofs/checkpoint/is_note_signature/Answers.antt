use Rattle.std.proofs.Common.{◌≡◌, ◌-◌, length, take, drop, append-nil, arith}
use Rattle.std.proofs.lemmas.List.{length-drop, take_all}
use Rattle.it_log_entry.proofs.Checkpoints.{note_signature}
use Rattle.it_log_entry.proofs.checkpoint.is_note_signature.Goals as goal

pub returns-clause-answer : goal.returns-clause-answer
returns-clause-answer c =
    let signature = c.args.signature.now in
    let all : take (length signature - 4) (drop 4 signature) ≡ drop 4 signature =
    take_all (length signature - 4) (drop 4 signature) (omega (arith, length-drop 4 signature)) in
    note_signature c.args.log.now.key c.args.text.now signature
    (take (length signature - 4) (drop 4 signature)) c.is_signature.result
    (c.has_hint.ensures.hint.0 c.if-not-has_hint.false) all
    (rw (append-nil, c.key.ensures) at c.is_signature.ensures)
