use Rattle.std.proofs.Common.{◌≡◌, ◌≤◌, take}
use Rattle.std.specs.List.{All}
use Rattle.it_log_entry.specs.Checkpoint.{IsNoteSignature}
use Rattle.it_log_entry.specs.Note.{ended}
use Rattle.it_log_entry.specs.inside.Lines.{texts_of}
use Rattle.it_log_entry.proofs.checkpoint.is_signed_by.Given as goal

-- none of the signatures so far is the key's, and the budget is the one that was given
abbrev pub invariant-loop-signature : goal.invariant-loop-signature
invariant-loop-signature l = record {
  none : All (λ signature. ¬ IsNoteSignature l.fn.log.key (ended (texts_of l.fn.lines)) signature)
      (take l.signature-index l.signatures);
  most : l.budget.most ≡ l.fn.budget.most;
  grows : l.fn.budget.checked ≤ l.budget.checked;
}
