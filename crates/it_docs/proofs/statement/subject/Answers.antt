use Rattle.std.proofs.Common.{◌≡◌, ◌∙◌, sym, Option, Some, None, codes, IsTrue, is_some}
use Rattle.serde_json.specs.Data.{Data}
use Rattle.serde_json.specs.Find.{as_object}
use Rattle.it_base.specs.Document.{member_at}
use Rattle.it_base.specs.Finds.{Finds}
use Rattle.it_digest.specs.declared.compare.DigestSet.{DigestSet}
use Rattle.it_digest.specs.Digest.{IsDigestSet}
use Rattle.it_docs.specs.Statement.{IsSubject}
use Rattle.it_docs.proofs.statement.subject.Goals as goal

found_subject : (d v : Data) → IsTrue (is_some (as_object d)) → member_at (codes "digest") d
    ≡ Some v → (found : Option DigestSet) → Finds (IsDigestSet v) found → Finds (IsSubject d) found
found_subject d v is at None none = λ set subject. none set (rw at at subject.digest)
found_subject d v is at (Some set) is_set = record { is_object = is; digest = rw at is_set }

pub returns-in-Some : goal.returns-in-Some
returns-in-Some c = found_subject _ _ (sym c.is_object.ensures ∙ c.if-not-is_object.false)
    (sym c.in-Some.ensures) _ c.digest_set.ensures
