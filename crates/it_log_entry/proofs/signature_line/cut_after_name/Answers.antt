use Rattle.std.proofs.Common.{◌≡◌, ◌∙◌, ◌+◌, ◌-◌, length, take, drop, sym, arith}
use Rattle.std.proofs.lemmas.List.{length-drop, take_all}
use Rattle.it_log_entry.proofs.SignatureLines.{named_found, not_named}
use Rattle.it_log_entry.proofs.signature_line.cut_after_name.Goals as goal

pub returns-in_err-end : goal.returns-in_err-end
returns-in_err-end c = rw c.from_residual.ensures
    (λ parts is. not_named c.args.text.now parts.0 parts.1
    (sym c.first_space.ensures ∙ c.in_err-end.was) is)

pub returns : goal.returns
returns c =
    let text = c.args.text.now in
    let end = c.in_ok-end.end in
    let all : take (length text - (end + 1)) (drop (end + 1) text) ≡ drop (end + 1) text =
    take_all (length text - (end + 1)) (drop (end + 1) text)
    (omega (arith, length-drop (end + 1) text)) in
    rw all (named_found text end (sym c.first_space.ensures ∙ c.in_ok-end.was) (omega arith))
