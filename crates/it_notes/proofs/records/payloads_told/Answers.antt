use Rattle.std.proofs.Common.{refl, rules}
use Rattle.it_notes.proofs.records.payloads_told.Goals as goal

pub returns-in-Some : goal.returns-in-Some
returns-in-Some g c = let told = rw c.in-Some.is at c.in_ok-note.ensures in λ inputs. record {
  fault_is = rw (told.0, told.1) refl;
  is_true = search rules;
}
