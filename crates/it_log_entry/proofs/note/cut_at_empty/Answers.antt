use Rattle.std.proofs.Common.{◌≡◌, ◌∙◌, ◌+◌, ◌-◌, length, take, drop, sym, arith}
use Rattle.std.proofs.lemmas.List.{length-drop, take_all}
use Rattle.it_log_entry.proofs.Notes.{cut_shown, no_cut}
use Rattle.it_log_entry.proofs.note.cut_at_empty.Goals as goal

pub returns-in-Some : goal.returns-in-Some
returns-in-Some c =
    let lines = c.args.lines.now in
    let end = c.in-Some.end in
    let all : take (length lines - (end + 1)) (drop (end + 1) lines) ≡ drop (end + 1) lines =
    take_all (length lines - (end + 1)) (drop (end + 1) lines)
    (omega (arith, length-drop (end + 1) lines)) in
    rw all (cut_shown lines end (sym c.first_empty.ensures ∙ c.in-Some.is))

pub returns-in-None : goal.returns-in-None
returns-in-None c = no_cut c.args.lines.now (sym c.first_empty.ensures ∙ c.in-None.is)
