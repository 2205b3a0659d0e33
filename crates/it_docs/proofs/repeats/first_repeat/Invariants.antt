use Rattle.std.proofs.Common.{◌≡◌, List, ℕ, Bor, take}
use Rattle.std.specs.BTreeSet.{contains}
use Rattle.std.specs.List.{IsDistinct, list_any}
use Rattle.std.specs.Str.{bytes_eq}
use Rattle.it_docs.proofs.RepeatsSeen.{str_cmp, shown}
use Rattle.it_docs.proofs.repeats.first_repeat.Given as goal

abbrev pub invariant-loop-name : goal.invariant-loop-name
invariant-loop-name l = record {
  seen : (q : Bor (List ℕ)) → contains str_cmp l.seen q ≡ list_any (bytes_eq q.now)
      (shown (take l.name-index l.names));
  distinct : IsDistinct bytes_eq (shown (take l.name-index l.names));
}
