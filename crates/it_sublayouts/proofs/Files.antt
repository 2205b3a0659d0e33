-- Files that are layouts, one more, and those in which a sublayout is looked for.
use Rattle.std.proofs.Common.{◌≡◌, ◌<◌, ◌+◌, ◌↔◌, ◌∙◌, ℕ, List, [], ◌∷◌, ◌++◌, length, map, take, get_or}
use Rattle.std.proofs.Common.{Bool, Bor, IsTrue, ap, subst, sym}
use Rattle.std.proofs.lemmas.List.{map-append, take_more}
use Rattle.it_dsse.specs.Signed.{AreThose}
use Rattle.it_dsse.specs.declared.envelope.Envelope.{Envelope}
use Rattle.it_dsse.proofs.Keeping.{keep_last, pass_last}
use Rattle.it_docs.specs.Layout.{LayoutOf}
use Rattle.it_docs.specs.declared.layout.Layout.{Layout}
use Rattle.it_chain.specs.Candidate.{IsCandidate}
use Rattle.it_chain.specs.declared.bundle.File.{File}
use Rattle.it_chain.proofs.Documents.{envelope_same}
use Rattle.it_sublayouts.specs.inside.Signed.{IsLayoutFile}

-- ---- one file
pub same_envelope_of : (bytes : List ℕ) (x y : Envelope) → IsCandidate bytes x → IsCandidate bytes y
    → x ≡ y
same_envelope_of bytes x y h k = envelope_same bytes x y h.is_envelope k.is_envelope

module _ (file : File) (envelope : Envelope) (is : IsCandidate file.bytes envelope) where
  -- it is a layout where its payload reads as one
  pub layout_or_not : (b : Bool)
      → (IsTrue b ↔ ((layout : Layout) × LayoutOf envelope.payload layout))
      → IsTrue b ↔ IsLayoutFile file
  layout_or_not b some = (
    λ yes. let read = some.0 yes in record {
      envelope = envelope;
      layout = read.0;
      is_candidate = is;
      reads = read.1;
    },
    λ it. some.1 (
      it.layout,
      subst (λ (e : Envelope). LayoutOf e.payload it.layout)
          (same_envelope_of file.bytes it.envelope envelope it.is_candidate is) it.reads,
    ),
  )

-- ---- files so far
abbrev pub shown : Bor File → File
shown file = file.now

module _ (files : List File) (i : ℕ) (file : File) (below : i < length files)
    (here : file ≡ get_or files i file) (kept : List (Bor File))
    (before : AreThose IsLayoutFile (take i files) (map shown kept)) where
  one_more : take (i + 1) files ≡ take i files ++ file ∷ []
  one_more = take_more files i file below ∙ ap (λ f. take i files ++ f ∷ []) (sym here)

  -- one more, which is kept
  pub kept_more : (lent : Bor File) → lent.now ≡ file → IsLayoutFile file
      → AreThose IsLayoutFile (take (i + 1) files) (map shown (kept ++ lent ∷ []))
  kept_more lent same is =
      subst (AreThose IsLayoutFile (take (i + 1) files))
      (sym (map-append shown kept (lent ∷ []) ∙ ap (λ f. map shown kept ++ f ∷ []) same))
      (subst (λ fs. AreThose IsLayoutFile fs (map shown kept ++ file ∷ [])) (sym one_more)
      (keep_last IsLayoutFile (take i files) (map shown kept) file before is))

  -- one more, which is passed over
  pub passed_more : ¬ IsLayoutFile file
      → AreThose IsLayoutFile (take (i + 1) files) (map shown kept)
  passed_more refuses =
      subst (λ fs. AreThose IsLayoutFile fs (map shown kept)) (sym one_more)
      (pass_last IsLayoutFile (take i files) (map shown kept) file before refuses)
