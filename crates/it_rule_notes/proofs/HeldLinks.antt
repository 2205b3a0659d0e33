-- A link that a signer of a step signed counts for the step.
use Rattle.std.proofs.Common.{◌≡◌, ℕ, ℤ, List, [], Contains, map, refl, subst}
use Rattle.it_dsse.specs.Panel.{Panel}
use Rattle.it_dsse.specs.declared.key_object.KeyObject.{KeyObject}
use Rattle.it_docs.specs.declared.layout.Layout.{Layout}
use Rattle.it_docs.specs.declared.step.Step.{Step}
use Rattle.it_rules.proofs.Listed.{Contains-map, place_of}
use Rattle.it_chain.specs.Answer.{signers as signers_of}
use Rattle.it_chain.specs.Contents.{Contents, files_of}
use Rattle.it_chain.specs.CountedBodies.{of_link}
use Rattle.it_chain.specs.Signers.{entry_of}
use Rattle.it_chain.specs.declared.bundle.File.{File}
use Rattle.it_chain.specs.declared.signers.Signer.{Signer}
use Rattle.it_chain.proofs.Members.{in_head}
use Rattle.it_chain.proofs.SignerLists.{is_signer}
use Rattle.it_rule_notes.specs.CountingFile.{setting_of}
use Rattle.it_rule_notes.specs.LinkFile.{HoldsLink}
use Rattle.it_rule_notes.specs.declared.link_file.LinkFile.{LinkFile}
use Rattle.it_rule_notes.specs.inside.CountingLink.{IsHeldLink}

module _ (panel : Panel) (moment : ℤ) (layout : Layout) (bundle : Contents) (step : Step)
    (signers : List Signer) (are : map entry_of signers ≡ signers_of layout step) where
  pub holds_link : (file : File) (held : LinkFile) → Contains (files_of bundle) file
      → IsHeldLink panel step.name signers file held
      → HoldsLink (setting_of panel moment) layout bundle step held
  holds_link file held stands is =
      let at = place_of signers is.signer is.is_one in
      let one : Contains (signers_of layout step) (entry_of is.signer) =
      subst (λ (all : List (List ℕ × KeyObject)). Contains all (entry_of is.signer)) are
      (Contains-map entry_of signers at.0 is.signer at.1) in
      let known = (is_signer layout step is.signer.id.now is.signer.object.now).0 one in
      record {
        found = record { name = held.name; payload = is.envelope.payload };
        counts = record {
          file = file;
          stands = stands;
          name_is = is.name_is;
          counts = record {
            file = file;
            envelope = is.envelope;
            object = is.signer.object.now;
            key = is.is_signer.0;
            body = of_link held.link;
            stands = in_head file [];
            claimed = is.claimed;
            is_envelope = is.is_envelope.is_envelope;
            type_is = is.is_envelope.type_is;
            payload_is = refl;
            listed = rw is.id_is known.0;
            known = rw is.id_is known.1;
            signed = rw is.id_is is.is_signer.1;
            reads = (is.is_link, is.of_step);
          };
        };
        name_is = refl;
        is_link = is.is_link;
      }
