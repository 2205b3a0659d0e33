-- What is found in a file counts for the step.
use Rattle.std.proofs.Common.{◌≡◌, ℕ, ℤ, List, [], ◌++◌, All}
use Rattle.std.proofs.Common.{Contains, IfSome, Option, Some, None, is_some, sym, subst, append-nil}
use Rattle.std.specs.Bool.{OnTrue}
use Rattle.std.specs.List.{cons_option}
use Rattle.std.proofs.lemmas.List.Elements.{All-push}
use Rattle.it_base.specs.Finds.{Finds, FindsAs}
use Rattle.it_dsse.specs.Panel.{Panel}
use Rattle.it_docs.specs.Layout.{LayoutOf}
use Rattle.it_docs.specs.declared.layout.Layout.{Layout}
use Rattle.it_docs.specs.declared.step.Step.{Step}
use Rattle.it_chain.specs.Contents.{Contents, files_of}
use Rattle.it_chain.specs.Body.{as_body}
use Rattle.it_chain.specs.CountedBodies.{BodyOf}
use Rattle.it_chain.specs.declared.body.Body.{Body as Held}
use Rattle.it_chain.specs.declared.bundle.File.{File}
use Rattle.it_chain.specs.declared.signers.Signer.{Signer}
use Rattle.it_chain.proofs.Members.{in_head}
use Rattle.it_rule_notes.specs.CountingFile.{FileCounts, IsLayoutBody, setting_of}
use Rattle.it_rule_notes.specs.declared.counting_file.CountingFile.{CountingFile}
use Rattle.it_rule_notes.specs.inside.CountingFile.{HasBody, IsListed, IsSigned}

-- what is found as a body for a step is one
pub some_body : (step bytes : List ℕ) (found : Option Held)
    → FindsAs as_body (BodyOf step bytes) found → OnTrue (is_some found) (HasBody step bytes)
some_body step bytes None none = tt
some_body step bytes (Some held) reads = record { body = as_body held; reads = reads }

-- and as a layout
pub some_layout : (bytes : List ℕ) (found : Option Layout) → Finds (LayoutOf bytes) found
    → OnTrue (is_some found) (IsLayoutBody bytes)
some_layout bytes None none = tt
some_layout bytes (Some layout) reads = record { layout = layout; reads = reads }

module _ (panel : Panel) (moment : ℤ) (layout : Layout) (bundle : Contents) (step : Step)
    (id : List ℕ) where
  abbrev pub Counts : CountingFile → Type 0
  Counts = FileCounts (setting_of panel moment) layout bundle step id

  module _ (signer : Signer) (same : signer.id.now ≡ id) (listed : IsListed layout step signer)
      (file : File) (stands : Contains (files_of bundle) file) where
    signed_counts : (found : CountingFile) → IsSigned panel step.name signer file found
        → FileCounts (setting_of panel moment) layout bundle step signer.id.now found
    signed_counts found signed = record {
      file = file;
      stands = stands;
      name_is = signed.name_is;
      counts = record {
        file = file;
        envelope = signed.envelope;
        object = signer.object.now;
        key = signed.is_signer.0;
        body = signed.has_body.body;
        stands = in_head file [];
        claimed = signed.claimed;
        is_envelope = signed.is_envelope.is_envelope;
        type_is = signed.is_envelope.type_is;
        payload_is = signed.payload_is;
        listed = listed.listed;
        known = listed.known;
        signed = signed.is_signer.1;
        reads = signed.has_body.reads;
      };
    }

    -- one more file, or none
    pub more_counting : (found : List CountingFile) (more : Option CountingFile) → All Counts found
        → IfSome more (IsSigned panel step.name signer file)
        → All Counts (found ++ cons_option more [])
    more_counting found None all signed = subst (All Counts) (sym (append-nil found)) all
    more_counting found (Some one) all signed =
        All-push Counts found one all
        (subst
        (λ name. FileCounts (setting_of panel moment) layout bundle step name one) same
        (signed_counts one signed))
