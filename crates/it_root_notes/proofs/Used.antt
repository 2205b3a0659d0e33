-- Logs by which a bundle vouches.
use Rattle.std.proofs.Common.{◌≡◌, ◌<◌, ℕ, zero, suc, List, [], ◌∷◌, Any, IsTrue, arith, get_or}
use Rattle.std.proofs.Common.{length, refl, subst, sym}
use Rattle.std.specs.List.{list_any}
use Rattle.it_trust_root.specs.declared.root_log.RootLog.{RootLog}
use Rattle.it_trust_root.specs.declared.root_log.RootLog.TheVariants.{Usable, PassedOver}
use Rattle.it_trust_root.specs.declared.root_log.Unusable.{Unusable}
use Rattle.it_vouches.specs.Claim.{needs_proof}
use Rattle.it_vouches.specs.Logged.{VouchesBy}
use Rattle.it_root_notes.specs.Laws.{VouchesByUsedLogs}
use Rattle.it_root_notes.specs.LogText.{is_used}

-- where one of the logs is so, and none that is passed over is, one of them is used
module _ (Is : RootLog → Type 0) (only : (reason : Unusable) → ¬ Is (PassedOver reason)) where
  used_at : (logs : List RootLog) (k : ℕ) (log : RootLog) → k < length logs
      → get_or logs k log ≡ log → Is log → IsTrue (list_any is_used logs)
  used_at [] k log below at is = absurd (omega arith)
  used_at (Usable first ∷ logs) k log below at is = refl
  used_at (PassedOver reason ∷ logs) zero log below at is = absurd (only reason (subst Is (sym at) is))
  used_at (PassedOver reason ∷ logs) (suc k) log below at is =
      used_at logs k log (omega arith) at is

  one_used : (logs : List RootLog) → Any Is logs → IsTrue (list_any is_used logs)
  one_used logs any = used_at logs any.0 any.1 any.2 any.3 any.4

pub vouches_by_used_logs : VouchesByUsedLogs
vouches_by_used_logs root bundle identity vouches =
    let promise = vouches.attested.promised.promised.4 in (
      one_used (VouchesBy (needs_proof bundle.version) vouches.entry vouches.logged)
          (λ reason by. by) root.logs vouches.by_log,
      one_used _ (λ reason by. by) root.certificate_logs promise.by_log,
    )
