-- The sublayout for a step under a key id, among the files that are layouts.
use Rattle.std.proofs.Common.{◌≡◌, ◌<◌, ◌∙◌, ℕ, List, [], ◌∷◌, Some, All, Bor, Contains, get_or}
use Rattle.std.proofs.Common.{length, map, subst, sym, ⊎_elim}
use Rattle.std.specs.FinMap.{get}
use Rattle.std.proofs.lemmas.List.Elements.{All-contains, All-map}
use Rattle.std.proofs.lemmas.Option.{same_Some}
use Rattle.it_dsse.specs.Panel.{Panel}
use Rattle.it_dsse.specs.Signed.{AreThose, IsSigner}
use Rattle.it_dsse.specs.declared.envelope.Envelope.{Envelope}
use Rattle.it_dsse.specs.declared.key_object.KeyObject.{KeyObject}
use Rattle.it_docs.specs.Layout.{LayoutOf}
use Rattle.it_docs.specs.declared.layout.Layout.{Layout}
use Rattle.it_docs.specs.declared.step.Step.{Step}
use Rattle.it_chain.specs.Contents.{Contents, files_of}
use Rattle.it_chain.specs.declared.bundle.File.{File}
use Rattle.it_chain.proofs.ClaimedFiles.{in_those, of_those}
use Rattle.it_base.proofs.Elements.{contains_at}
use Rattle.it_base.proofs.Members.{in_cases, in_head, in_none, in_tail}
use Rattle.it_sublayouts.specs.Counted.{PayloadCounts}
use Rattle.it_sublayouts.specs.inside.Signed.{IsLayoutFile, IsSignedIn}
use Rattle.it_sublayouts.proofs.Files.{same_envelope_of, shown}

-- an image stands among the images
in_image : {X Y : Type 0} (f : X → Y) (xs : List X) (x : X) → Contains xs x
    → Contains (map f xs) (f x)
in_image f [] x c = absurd (in_none x c)
in_image f (y ∷ ys) x c =
    ⊎_elim (λ same. subst (λ z. Contains (f y ∷ map f ys) (f z)) same (in_head (f y) (map f ys)))
    (λ later. in_tail (f y) (map f ys) (f x) (in_image f ys x later)) (in_cases y ys x c)

-- a file that is looked at stands in the bundle, and is a layout
pub stands_in : (bundle : Contents) (kept : List (Bor File))
    → AreThose IsLayoutFile (files_of bundle) (map shown kept) → (i : ℕ) (file : Bor File)
    → i < length kept → file ≡ get_or kept i file
    → Contains (files_of bundle) file.now × IsLayoutFile file.now
stands_in bundle kept those i file below is =
    of_those IsLayoutFile (files_of bundle) (map shown kept) those file.now
    (in_image shown kept file (contains_at kept i file below is))

module _ (panel : Panel) (layout : Layout) (bundle : Contents) (step : Step) (id : List ℕ)
    (object : KeyObject) (is_step : Contains layout.steps step) (listed : Contains step.pubkeys id)
    (known : get layout.keys id ≡ Some object) where
  -- what is in a file of the bundle that is a layout is for the step
  pub counts_for : (file : File) → Contains (files_of bundle) file × IsLayoutFile file
      → (payload : List ℕ) → IsSignedIn panel step id object file payload
      → PayloadCounts panel layout bundle step id payload
  counts_for file found payload is =
      let envelope = is.holds.envelope in
      let sublayout = found.1.layout in
      let reads : LayoutOf envelope.payload sublayout =
      subst (λ (e : Envelope). LayoutOf e.payload sublayout)
      (same_envelope_of file.bytes found.1.envelope envelope found.1.is_candidate
      is.holds.is_candidate) found.1.reads in
      record {
        sublayout = sublayout;
        counts = record {
          file = file;
          envelope = envelope;
          object = object;
          is_step = is_step;
          stands = found.0;
          claimed = is.claimed;
          is_envelope = is.holds.is_candidate.is_envelope;
          type_is = is.holds.is_candidate.type_is;
          listed = listed;
          known = known;
          signed = is.holds.signs;
          is_layout = reads;
        };
        payload_is = is.holds.payload_is;
      }

  -- what is for the step is in its file
  signed_in : (payload : List ℕ) → (is : PayloadCounts panel layout bundle step id payload)
      → IsSignedIn panel step id object is.counts.file payload
  signed_in payload is =
      let counts = is.counts in
      let same : counts.object ≡ object = same_Some counts.object object (sym counts.known ∙ known) in
      record {
        claimed = counts.claimed;
        holds = record {
          envelope = counts.envelope;
          is_candidate = record { is_envelope = counts.is_envelope; type_is = counts.type_is };
          signs = subst (λ (o : KeyObject). IsSigner panel counts.envelope o id) same counts.signed;
          payload_is = is.payload_is;
        };
      }

  -- nothing is for the step where nothing is in the files that are layouts
  pub none_counts : (kept : List (Bor File))
      → AreThose IsLayoutFile (files_of bundle) (map shown kept)
      → All (λ (file : Bor File). (payload : List ℕ)
      → ¬ IsSignedIn panel step id object file.now payload) kept
      → (payload : List ℕ) → ¬ PayloadCounts panel layout bundle step id payload
  none_counts kept those none payload is =
      let counts = is.counts in
      let is_file : IsLayoutFile counts.file = record {
        envelope = counts.envelope;
        layout = is.sublayout;
        is_candidate = record { is_envelope = counts.is_envelope; type_is = counts.type_is };
        reads = counts.is_layout;
      } in
      let among = in_those IsLayoutFile (files_of bundle) (map shown kept) those counts.file
      counts.stands is_file in
      let Passed = λ (file : File). (other : List ℕ)
      → ¬ IsSignedIn panel step id object file other in
      All-contains Passed (map shown kept) counts.file (All-map Passed shown kept none) among
      payload (signed_in payload is)
