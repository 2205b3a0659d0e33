-- What is noted of identities that signed the provenance and are keys of no builder. Nothing here
-- is trusted.
use Rattle.std.specs.Prelude.{ℕ, List, [], ◌==◌, if◌then◌else◌}
use Rattle.it_notes.specs.declared.known.Basis.{Basis}
use Rattle.it_notes.specs.declared.known.Basis.TheVariants as bases
use Rattle.it_notes.specs.declared.known.Told.{Told}
use Rattle.it_report.specs.Fault.{number_of}
use Rattle.it_report.specs.declared.verdict.Verdict.{Verdict}
use Rattle.it_report.specs.declared.verdict.Verdict.TheVariants.{Accepted, Refused}
use Rattle.it_signer_notes.specs.SignerText.{signer_notes}
use Rattle.it_vouched.specs.declared.vouched.Vouched.{Vouched}

-- by the policy, where it is known
abbrev pub signers_known : List Vouched → Basis → List ℕ
signers_known vouched bases.Nothing = []
signers_known vouched (bases.Begun begun) = []
signers_known vouched (bases.Known known) = signer_notes known.policy vouched

-- where the verdict refuses for want of provenance
abbrev pub signers_by : List Vouched → Basis → Verdict → List ℕ
signers_by vouched basis (Accepted steps files) = []
signers_by vouched basis (Refused refusal) =
    if number_of refusal.fault == 61 then signers_known vouched basis else []

-- by what was told
abbrev pub signers_told : List Vouched → Told → List ℕ
signers_told vouched told = signers_by vouched told.basis told.verdict
