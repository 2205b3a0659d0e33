use Rattle.std.proofs.Common.{refl, rules, w64}
use Rattle.std.proofs.lemmas.Int.{to_z-of_z}
use Rattle.it_notes.proofs.records.disagreement_told.Goals as goal

pub returns-in-Some : goal.returns-in-Some
returns-in-Some g c = let told = rw c.in-Some.is at c.in_ok-note.ensures in λ inputs. record {
  id = c.args.id.now;
  fault_is = rw told.0 refl;
  is_true = rw (to_z-of_z w64 c.args.level.now.moment (search rules)) at told.1;
}
