-- A key of a builder that signed under another key id.
use Rattle.std.proofs.Common.{◌≡◌, ◌∙◌, ℕ, List, Option, Some, None, Contains, IfSome, ap}
use Rattle.std.specs.FinMap.{get}
use Rattle.it_docs.specs.declared.policy.Builder.{Builder}
use Rattle.it_dsse.specs.Panel.{Panel}
use Rattle.it_dsse.specs.declared.envelope.Envelope.{Envelope}
use Rattle.it_dsse.specs.declared.key_object.KeyObject.{KeyObject}
use Rattle.it_hints.specs.SignedAs.{IsSignedAs}
use Rattle.it_prov_notes.specs.ProvenanceNotes.{IsHinted}
use Rattle.it_prov_notes.specs.declared.note.HintedKey.{HintedKey}

pub hinted_found : (panel : Panel) (builders : List Builder) (builder : Builder)
    (envelope : Envelope) (id : List ℕ) (object : KeyObject) (found : Option HintedKey)
    → Contains builders builder → get builder.keys id ≡ Some object
    → IfSome found (λ hinted. (hinted.id ≡ id)
    × IsSignedAs panel envelope hinted.id object hinted.keyid)
    → IfSome found (IsHinted panel builders envelope)
hinted_found panel builders builder envelope id object None is_one known told = tt
hinted_found panel builders builder envelope id object (Some hinted) is_one known told = record {
  builder = builder;
  object = object;
  is_builder = is_one;
  is_key = ap (get builder.keys) told.0 ∙ known;
  signed_as = told.1;
}
