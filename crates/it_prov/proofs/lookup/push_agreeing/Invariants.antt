use Rattle.std.proofs.Common.{◌≡◌, ◌==◌, ◌||◌, ℕ, Bool, take}
use Rattle.std.specs.List.{list_any}
use Rattle.it_digest.specs.declared.compare.DigestSet.{DigestSet}
use Rattle.it_prov.specs.Index.{is_of}
use Rattle.it_prov.specs.inside.Indexed.{TellsAgreement}
use Rattle.it_prov.proofs.lookup.push_agreeing.Given as goal

-- the places of the entries so far were added
abbrev pub invariant-loop-entry : goal.invariant-loop-entry
invariant-loop-entry l = (test : DigestSet → Bool) → TellsAgreement l.digests test
    → (place : ℕ) → list_any (λ p. p == place) l.places.items
    ≡ (list_any (λ p. p == place) l.fn.places.items
    || list_any (is_of test place) (take l.entry-index l.entries))
