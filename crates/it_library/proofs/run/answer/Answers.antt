use Rattle.std.proofs.Common.{◌∙◌, ◌≤◌, ℕ, ap, subst, sym}
use Rattle.it_library.proofs.Answered.{gives, most_status}
use Rattle.it_library.proofs.run.answer.Goals as goal

pub returns-clause-gives : goal.returns-clause-gives
returns-clause-gives c =
    let handed = c.args.handed.now in
    let ran = c.run-ran.ensures in
    let written = c.written_in_memory-outcome.ensures in
    gives handed.words.now handed.paths.now handed.sizes.now handed.contents.now _
    c.new-output.result.inner.items c.run-ran.new.output.inner.items
    c.written_in_memory-outcome.new.output.inner.items c.run-ran.result
    c.written_in_memory-outcome.result c.run-ran.new.output.error c.exit_status-status.result
    (ap (λ bytes. bytes.items) c.new-output.ensures.inner ∙ c.new-bytes.ensures.items)
    (ap (λ bytes. bytes.items)) ran.ok ran.stopped
    (λ taken. ((written.kept taken).0, ap (λ bytes. bytes.items) (written.kept taken).1))
    written.refused c.exit_status-status.ensures

pub returns-clause-most : goal.returns-clause-most
returns-clause-most c =
    subst (λ (n : ℕ). n ≤ 3) (sym c.exit_status-status.ensures)
    (most_status c.written_in_memory-outcome.result)
