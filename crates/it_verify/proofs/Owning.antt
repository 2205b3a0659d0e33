-- Whether owners signed an envelope, one after another.
use Rattle.std.proofs.Common.{◌≡◌, ℕ, ◌+◌, ◌*◌, ◌≤◌, ◌++◌, List, [], ◌∷◌, All, Contains, length}
use Rattle.std.proofs.Common.{length-append, append-nil, append_assoc, sym, ap, subst, ◌∙◌, arith}
use Rattle.std.specs.FinMap.{entries, len, len-entries}
use Rattle.std.specs.List.{sum_by}
use Rattle.std.proofs.lemmas.List.Elements.{All-contains, All-contains_itself, All-head, All-nil}
use Rattle.std.proofs.lemmas.List.Elements.{All-push, All-tail, All-weaker}
use Rattle.std.proofs.lemmas.List.Sums.{sum_by-cons, sum_by_push}
use Rattle.it_base.specs.Places.{IsFirst}
use Rattle.it_base.proofs.Firsts.{none_at_good}
use Rattle.it_dsse.specs.Panel.{Panel}
use Rattle.it_dsse.specs.Meter.{RaisedBy, raised}
use Rattle.it_dsse.specs.Signed.{IsSigner, tries}
use Rattle.it_dsse.specs.declared.envelope.Envelope.{Envelope}
use Rattle.it_dsse.specs.declared.key_object.KeyObject.{KeyObject}
use Rattle.it_dsse.specs.declared.meter.Meter.{Meter}
use Rattle.it_dsse.proofs.Tries.{signed_tries, tries_at_most}
use Rattle.it_dsse.proofs.Trying.{raised-zero, raised_more}
use Rattle.it_base.specs.Table.{Named}
use Rattle.it_chain.proofs.Entries.{entry_known, known_entry}
use Rattle.it_verify.specs.VerificationTakes.{owner_tries}
use Rattle.it_verify.specs.Owners.{OwnerLacks, OwnersSign}
use Rattle.it_verify.specs.inside.Failures.{RefusedAs}
use Rattle.it_verify.specs.declared.failure.Failure.{Failure}
use Rattle.it_report.specs.declared.refusal.Refusal.{Refusal}
use Rattle.it_verify.proofs.Failures.{fails_at}

module _ (panel : Panel) (envelope : Envelope) where
  abbrev pub Signs : List ℕ × KeyObject → Type 0
  Signs owner = IsSigner panel envelope owner.1 owner.0

  pub signs_apart : (owner : List ℕ × KeyObject) → Signs owner → (refusal : Refusal)
      → ¬ OwnerLacks panel envelope owner refusal
  signs_apart owner signs refusal x = x.0 signs

  -- ---- how many signatures are tried
  abbrev tries_of : List ℕ × KeyObject → ℕ
  tries_of owner = tries panel envelope owner.0 owner.1

  tried_at_most : (owners : List (List ℕ × KeyObject))
      → sum_by tries_of owners ≤ length owners * length envelope.signatures
  tried_at_most [] = omega arith
  tried_at_most (owner ∷ owners) =
      let all = sum_by-cons tries_of owner owners in
      let first = tries_at_most panel envelope owner.0 owner.1 in
      let others = tried_at_most owners in
      omega arith

  tried_at_least : (owners : List (List ℕ × KeyObject)) → All Signs owners
      → length owners ≤ sum_by tries_of owners
  tried_at_least [] signed = omega arith
  tried_at_least (owner ∷ owners) signed =
      let all = sum_by-cons tries_of owner owners in
      let signs = All-head Signs owner owners signed in
      let first = signed_tries panel envelope owner.0 owner.1 signs.0 signs.1 in
      let others = tried_at_least owners (All-tail Signs owner owners signed) in
      omega arith

  module _ (owners : Named KeyObject) where
    -- the key of each owner in the map signed
    pub owners_sign : All Signs (entries owners) → OwnersSign panel envelope owners
    owners_sign signed id object known = All-contains Signs (entries owners) (id, object) signed
        (known_entry owners id object known)

    -- where they signed, a signature was tried for each
    pub owners_tried : OwnersSign panel envelope owners
        → len owners ≤ owner_tries panel envelope owners
    owners_tried sign =
        let signed = All-weaker (λ owner. Contains (entries owners) owner) Signs
        (λ owner c. sign owner.0 owner.1 (entry_known owners owner c)) (entries owners)
        (All-contains_itself (entries owners)) in
        rw (len-entries owners) (tried_at_least (entries owners) signed)

    -- the owners before the rest signed, and the meter rose by the signatures that were tried for
    -- them
    pub record Asked (start now : Meter) (rest : List (List ℕ × KeyObject)) : Type 0 where
      pub done : List (List ℕ × KeyObject)
      pub split : entries owners ≡ done ++ rest
      pub signed : All Signs done
      pub counted : now ≡ raised start (sum_by tries_of done)

    pub none_asked : (meter : Meter) (rest : List (List ℕ × KeyObject)) → rest ≡ entries owners
        → Asked meter meter rest
    none_asked meter rest all = record {
      done = [];
      split = sym all;
      signed = All-nil Signs;
      counted = sym (raised-zero meter);
    }

    most_of : (start now : Meter) → now ≡ raised start (owner_tries panel envelope owners)
        → RaisedBy (λ n. n ≤ len owners * length envelope.signatures) start now
    most_of start now counted = (
      owner_tries panel envelope owners,
      rw (len-entries owners)
          (tried_at_most (entries owners)),
      counted,
    )

    -- all were asked
    module _ (start now : Meter) (asked : Asked start now []) where
      all_done : entries owners ≡ asked.done
      all_done = asked.split ∙ append-nil asked.done

      pub all_sign : OwnersSign panel envelope owners
      all_sign = owners_sign (subst (All Signs) (sym all_done) asked.signed)

      pub all_counted : now ≡ raised start (owner_tries panel envelope owners)
      all_counted = asked.counted ∙ ap (λ done. raised start (sum_by tries_of done)) (sym all_done)

      pub all_at_most : RaisedBy (λ n. n ≤ len owners * length envelope.signatures) start now
      all_at_most = most_of start now all_counted

    module _ (owner : List ℕ × KeyObject) (rest : List (List ℕ × KeyObject)) (start now new : Meter)
        (asked : Asked start now (owner ∷ rest)) where
      -- the first of the owners that did not sign
      pub owner_missing : (e : Failure) → RefusedAs (OwnerLacks panel envelope owner) e
          → RefusedAs (IsFirst (OwnerLacks panel envelope) (entries owners)) e
      owner_missing e lacks =
          subst (λ os. RefusedAs (IsFirst (OwnerLacks panel envelope) os) e) (sym asked.split)
          (fails_at (OwnerLacks panel envelope) asked.done owner rest e
          (none_at_good (OwnerLacks panel envelope) Signs signs_apart asked.done asked.signed)
          lacks)

      abbrev next : List (List ℕ × KeyObject)
      next = asked.done ++ owner ∷ []

      all_next : entries owners ≡ next ++ rest
      all_next = asked.split ∙ sym (append_assoc asked.done (owner ∷ []) rest)

      -- no more checks than all of the owners may ask for, where the last is not asked about to the
      -- end
      pub stopped_at_most : RaisedBy (λ n. n ≤ tries_of owner) now new
          → RaisedBy (λ n. n ≤ len owners * length envelope.signatures) start new
      stopped_at_most stopped =
          let before = sum_by tries_of asked.done in
          let many : len owners ≡ length next + length rest = len-entries owners
          ∙ ap length all_next ∙ length-append next rest in
          let few = tried_at_most next in
          let all = sum_by_push tries_of asked.done owner in (
            before + stopped.0,
            rw many (omega (arith, few, all, stopped.1)),
            stopped.2 ∙ ap (λ m. raised m stopped.0) asked.counted
                ∙ raised_more start before stopped.0,
          )

      module _ (once : new ≡ raised now (tries_of owner)) where
        counted_next : new ≡ raised start (sum_by tries_of next)
        counted_next =
            once ∙ ap (λ m. raised m (tries_of owner)) asked.counted
            ∙ raised_more start (sum_by tries_of asked.done) (tries_of owner)
            ∙ ap (raised start) (sym (sum_by_push tries_of asked.done owner))

        -- one more signed
        pub asked_more : Signs owner → Asked start new rest
        asked_more signs = record {
          done = next;
          split = all_next;
          signed =
              All-push Signs asked.done owner asked.signed signs;
          counted = counted_next;
        }
