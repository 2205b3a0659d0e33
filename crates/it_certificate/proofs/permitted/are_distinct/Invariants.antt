use Rattle.std.proofs.Common.{◌≡◌, List, ℕ, Bor, take}
use Rattle.std.specs.BTreeSet.{contains}
use Rattle.std.specs.List.{IsDistinct, list_any}
use Rattle.std.specs.Str.{bytes_eq}
use Rattle.it_certificate.proofs.Distinct.{id_cmp, ids}
use Rattle.it_certificate.proofs.permitted.are_distinct.Given as goal

abbrev pub invariant-loop-extension : goal.invariant-loop-extension
invariant-loop-extension l = record {
  seen : (q : Bor (List ℕ)) → contains id_cmp l.seen q ≡ list_any (bytes_eq q.now) (ids (take l.extension-index l.extensions));
  distinct : IsDistinct bytes_eq (ids (take l.extension-index l.extensions));
}
