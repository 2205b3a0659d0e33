-- The ids of the keys that signed a message, one after another.
use Rattle.std.proofs.Common.{◌≡◌, ◌∙◌, ◌++◌, ℕ, List, [], ◌∷◌, map, refl, sym}
use Rattle.std.proofs.Common.{ap, subst, append-nil, append_assoc}
use Rattle.std.specs.FinMap.{entries}
use Rattle.std.proofs.lemmas.List.{map-append}
use Rattle.it_base.specs.Table.{Named}
use Rattle.it_dsse.specs.Signed.{AreThose, message_of}
use Rattle.it_dsse.specs.declared.envelope.Envelope.{Envelope}
use Rattle.it_dsse.specs.declared.envelope.Signature.{Signature}
use Rattle.it_dsse.specs.declared.key_object.KeyObject.{KeyObject}
use Rattle.it_dsse.proofs.Keeping.{keep_last, pass_last}
use Rattle.it_outcome.specs.declared.outcome.Status.{Status}
use Rattle.it_commands.specs.SignedOutput.{ListsNames, names_text}
use Rattle.it_commands.proofs.Those.{any_kept, kept_any}
use Rattle.it_key_commands.specs.SignedByKeysOutput.{IsKeySigner, NamesKeySigners}
use Rattle.it_key_commands.specs.Signers.{SignedUnder}
use Rattle.it_key_commands.specs.inside.SignerNames.{AreSignerNames}

abbrev pub Entry : Type 0
Entry = List ℕ × KeyObject

abbrev pub ids_of : List Entry → List (List ℕ)
ids_of = map (λ entry. entry.0)

-- some objects were seen, others are left, and the names are those of the signers that were seen
pub record AreNamesSoFar (objects : Named KeyObject) (message : List ℕ)
    (signatures : List Signature) (left : List Entry) (names : List (List ℕ)) : Type 0 where
  pub seen : List Entry
  pub whole : seen ++ left ≡ entries objects
  pub signers : List Entry
  pub are_those : AreThose (SignedUnder message signatures) seen signers
  pub names_are : names ≡ ids_of signers

module _ (objects : Named KeyObject) (message : List ℕ) (signatures : List Signature) where
  pub names_start : (left : List Entry) → left ≡ entries objects
      → AreNamesSoFar objects message signatures left []
  names_start left whole = record {
    seen = [];
    whole = whole;
    signers = [];
    are_those = refl;
    names_are = refl;
  }

  moved : (entry : Entry) (left : List Entry) (names : List (List ℕ))
      → (so_far : AreNamesSoFar objects message signatures (entry ∷ left) names)
      → (so_far.seen ++ entry ∷ []) ++ left ≡ entries objects
  moved entry left names so_far =
      append_assoc so_far.seen (entry ∷ []) left ∙ so_far.whole

  pub name_more : (entry : Entry) (left : List Entry) (names : List (List ℕ))
      → AreNamesSoFar objects message signatures (entry ∷ left) names
      → SignedUnder message signatures entry
      → AreNamesSoFar objects message signatures left (names ++ entry.0 ∷ [])
  name_more entry left names so_far signed = record {
    seen = so_far.seen ++ entry ∷ [];
    whole = moved entry left names so_far;
    signers = so_far.signers ++ entry ∷ [];
    are_those = keep_last (SignedUnder message signatures) so_far.seen so_far.signers entry
        so_far.are_those signed;
    names_are = ap (λ all. all ++ entry.0 ∷ []) so_far.names_are
        ∙ sym (map-append (λ (e : Entry). e.0) so_far.signers (entry ∷ []));
  }

  pub pass_more : (entry : Entry) (left : List Entry) (names : List (List ℕ))
      → AreNamesSoFar objects message signatures (entry ∷ left) names
      → ¬ SignedUnder message signatures entry
      → AreNamesSoFar objects message signatures left names
  pass_more entry left names so_far refuses = record {
    seen = so_far.seen ++ entry ∷ [];
    whole = moved entry left names so_far;
    signers = so_far.signers;
    are_those = pass_last (SignedUnder message signatures) so_far.seen so_far.signers entry
        so_far.are_those refuses;
    names_are = so_far.names_are;
  }

  pub names_done : (names : List (List ℕ)) → AreNamesSoFar objects message signatures [] names
      → AreSignerNames objects message signatures names
  names_done names so_far = record {
    signers = so_far.signers;
    are_those = subst (λ all. AreThose (SignedUnder message signatures) all so_far.signers)
        (sym (append-nil so_far.seen) ∙ so_far.whole) so_far.are_those;
    names_are = so_far.names_are;
  }

no_ids : (signers : List Entry) → ids_of signers ≡ [] → signers ≡ []
no_ids [] none = refl
no_ids (entry ∷ signers) none = cc

-- a text of the names, with a status that says whether there are some
pub names_signers : (objects : Named KeyObject) (envelope : Envelope) (names : List (List ℕ))
    (text : List ℕ) (status : Status)
    → AreSignerNames objects (message_of envelope) envelope.signatures names
    → ListsNames names text status → NamesKeySigners objects envelope text status
names_signers objects envelope names text status are lists = record {
  signers = are.signers;
  are_those = are.are_those;
  text_is = lists.text_is ∙ ap names_text are.names_are;
  good = (
    λ is. any_kept (IsKeySigner envelope) (entries objects) are.signers are.are_those
        (λ none. lists.good.0 is (are.names_are ∙ ap ids_of none)),
    λ some. lists.good.1 (λ none. kept_any (IsKeySigner envelope) (entries objects) are.signers
        are.are_those some (no_ids are.signers (sym are.names_are ∙ none))),
  );
}
