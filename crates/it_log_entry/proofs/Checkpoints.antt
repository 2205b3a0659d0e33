-- Checkpoints, from the parts of their notes.
use Rattle.std.proofs.Common.{◌≡◌, ◌∙◌, ◌↔◌, ℕ, ◌^◌, ◌<◌, ◌≤◌, List, [], ◌∷◌, ◌++◌, IsTrue, refl, sym, ap, subst}
use Rattle.std.proofs.Common.{Bool, length, take, drop, get_or, decimal, arith}
use Rattle.std.specs.Borrow.{Bor}
use Rattle.it_base.specs.Base64Text.{base64_encoded}
use Rattle.it_p256.specs.Key.{Key, info_of}
use Rattle.it_p256.specs.Signature.{IsSignature}
use Rattle.sha2.specs.Sha256.{sha256}
use Rattle.it_log_entry.specs.Checkpoint.{IsCheckpoint, IsNoteSignature}
use Rattle.it_log_entry.specs.CheckpointMisses.{AreTreeLines, IsSize}
use Rattle.it_log_entry.specs.Note.{AreLines, NoteOf}
use Rattle.it_log_entry.specs.declared.note_shortfall.NoteShortfall.TheVariants as missed
use Rattle.it_log_entry.specs.inside.Lines.{AreSignatures, IsCutAtEmpty, IsSignedBy, texts_of}
use Rattle.it_log_entry.specs.inside.NoCheckpoint.{IsNoCheckpoint}
use Rattle.it_log_entry.proofs.Notes.{same_lines, same_parts}
use Rattle.it_log_entry.proofs.SignatureLines.{same_signatures}

-- a note's parts are those that were found
pub parts_of : (note : List ℕ) (all lines signatures : List (List ℕ)) → AreLines note all
    → (is : NoteOf note lines signatures) → IsCutAtEmpty all (lines, is.below)
parts_of note all lines signatures written is = record {
  written = same_lines note all (lines ++ [] ∷ is.below) written is.written;
  full = is.full;
}

pub known_parts : (note : List ℕ) (all lines below others signatures : List (List ℕ))
    → AreLines note all → IsCutAtEmpty all (lines, below) → (is : NoteOf note others signatures)
    → (lines ≡ others) × (below ≡ is.below)
known_parts note all lines below others signatures written cut is =
    same_parts all (lines, below) (others, is.below) cut (parts_of note all others signatures written is)

pub note_from : (note : List ℕ) (all lines below signatures : List (List ℕ)) → AreLines note all
    → IsCutAtEmpty all (lines, below) → AreSignatures below signatures → NoteOf note lines signatures
note_from note all lines below signatures written cut signed = record {
  below = below;
  written = written ∙ ap (λ xs. xs ++ [] ∷ []) cut.written;
  full = cut.full;
  signed = signed.signed;
  some = signed.some;
  few = signed.few;
}

-- the signatures that were found are the note's
pub known_signatures : (note : List ℕ) (all lines below signatures others names : List (List ℕ))
    → AreLines note all → IsCutAtEmpty all (lines, below) → AreSignatures below signatures
    → NoteOf note others names → signatures ≡ names
known_signatures note all lines below signatures others names written cut signed is =
    let same = known_parts note all lines below others names written cut is in
    same_signatures below signatures names signed
    (rw same.1 (record { signed = is.signed; some = is.some; few = is.few }))

-- a text that is no note
pub no_lines : (note : List ℕ) → ((all : List (List ℕ)) → ¬ AreLines note all)
    → (lines signatures : List (List ℕ)) → ¬ NoteOf note lines signatures
no_lines note none lines signatures is = none _ is.written

pub no_cut : (note : List ℕ) (all : List (List ℕ)) → AreLines note all
    → ((parts : List (List ℕ) × List (List ℕ)) → ¬ IsCutAtEmpty all parts)
    → (lines signatures : List (List ℕ)) → ¬ NoteOf note lines signatures
no_cut note all written none lines signatures is =
    none (lines, is.below) (parts_of note all lines signatures written is)

pub no_signatures : (note : List ℕ) (all lines below : List (List ℕ)) → AreLines note all
    → IsCutAtEmpty all (lines, below)
    → ((signatures : List (List ℕ)) → ¬ AreSignatures below signatures)
    → (others names : List (List ℕ)) → ¬ NoteOf note others names
no_signatures note all lines below written cut none others names is =
    let same = known_parts note all lines below others names written cut is in
    none names (rw same.1 (record { signed = is.signed; some = is.some; few = is.few }))

-- a text that is no note
pub not_signed : (key : Key) (note : List ℕ) (size : ℕ) (root : List ℕ)
    → ((lines signatures : List (List ℕ)) → ¬ NoteOf note lines signatures)
    → IsNoCheckpoint key note size root missed.Form
not_signed key note size root none = record {
  not_signed = λ whole. none whole.lines whole.signatures whole.note_is;
  misses = λ says. none says.lines says.signatures says.note_is;
}

-- the lines of a checkpoint of a tree are those of one of any tree
of_any_tree : (lines : List (List ℕ)) (size : ℕ) (root : List ℕ) → size < 2 ^ 64 → IsCheckpoint lines size root
    → AreTreeLines lines
of_any_tree lines size root small is = record {
  origin = is.origin;
  size_text = decimal size;
  root_text = base64_encoded root;
  others = is.others;
  lines_are = is.lines_are;
  size = size;
  size_is = record { digits_are = refl; small = small };
}

pub no_tree : (key : Key) (note : List ℕ) (all lines below : List (List ℕ)) (size : ℕ) (root : List ℕ)
    → size < 2 ^ 64 → AreLines note all → IsCutAtEmpty all (lines, below) → ¬ AreTreeLines lines
    → IsNoCheckpoint key note size root missed.Form
no_tree key note all lines below size root small written cut none = record {
  not_signed = λ whole.
      let same = known_parts note all lines below whole.lines whole.signatures written cut whole.note_is in
      none (subst AreTreeLines (sym same.0) (of_any_tree whole.lines size root small whole.checkpoint_is));
  misses = λ says.
      let same = known_parts note all lines below says.lines says.signatures written cut says.note_is in
      none (subst AreTreeLines (sym same.0) says.tree);
}

pub other_tree : (key : Key) (note : List ℕ) (all lines below signatures : List (List ℕ)) (size : ℕ)
    (root : List ℕ) → AreLines note all → IsCutAtEmpty all (lines, below) → AreSignatures below signatures
    → AreTreeLines lines → ¬ IsCheckpoint lines size root → IsNoCheckpoint key note size root missed.Root
other_tree key note all lines below signatures size root written cut signed tree none = record {
  not_signed = λ whole.
      let same = known_parts note all lines below whole.lines whole.signatures written cut whole.note_is in
      none (rw same.0 whole.checkpoint_is);
  misses = (
    record {
      lines = lines;
      signatures = signatures;
      note_is = note_from note all lines below signatures written cut signed;
      tree = tree;
      says = tt;
    },
    λ other.
        let same = known_parts note all lines below other.lines other.signatures written cut other.note_is in
        none (rw same.0 other.says),
  );
}

pub no_signer : (key : Key) (note : List ℕ) (all lines below signatures : List (List ℕ)) (size : ℕ)
    (root : List ℕ) → AreLines note all → IsCutAtEmpty all (lines, below) → AreSignatures below signatures
    → AreTreeLines lines → IsCheckpoint lines size root → ¬ IsSignedBy key lines signatures
    → IsNoCheckpoint key note size root missed.Signature
no_signer key note all lines below signatures size root written cut signed tree is none = record {
  not_signed = λ whole.
      let same = known_parts note all lines below whole.lines whole.signatures written cut whole.note_is in
      let names = known_signatures note all lines below signatures whole.lines whole.signatures
      written cut signed whole.note_is in
      none (rw (same.0, names) whole.signed);
  misses = record {
    lines = lines;
    signatures = signatures;
    note_is = note_from note all lines below signatures written cut signed;
    tree = tree;
    says = is;
  };
}

-- the lines of a checkpoint, by place
pub checkpoint_lines : (lines : List (Bor (List ℕ))) (d e : Bor (List ℕ)) (size : ℕ)
    (root : List ℕ) (b : Bool) → 3 ≤ length lines → (get_or lines 1 d).now ≡ decimal size
    → IsTrue b ↔ ((get_or lines 2 e).now ≡ base64_encoded root)
    → IsTrue b ↔ IsCheckpoint (texts_of lines) size root
checkpoint_lines [] d e size root b long second test = absurd (omega arith)
checkpoint_lines (x ∷ []) d e size root b long second test = absurd (omega arith)
checkpoint_lines (x ∷ y ∷ []) d e size root b long second test = absurd (omega arith)
checkpoint_lines (x ∷ y ∷ z ∷ rest) d e size root b long second test = (
  λ passes. record {
    origin = x.now;
    others = texts_of rest;
    lines_are = let one : y.now ≡ decimal size = second in
        let two : z.now ≡ base64_encoded root = test.0 passes in cc;
  },
  λ is. test.1 (third x.now y.now z.now is.origin (decimal size) (base64_encoded root)
      (texts_of rest) is.others is.lines_are),
)
  where
    third : (x y z o p q : List ℕ) (r s : List (List ℕ)) → x ∷ y ∷ z ∷ r ≡ o ∷ p ∷ q ∷ s → z ≡ q
    third x y z o p q r s e = cc

-- a signature of a note, from its parts
pub note_signature : (key : Key) (text signature rest : List ℕ) (b : Bool)
    → take 4 signature ≡ take 4 (sha256 (info_of key)) → rest ≡ drop 4 signature
    → IsTrue b ↔ IsSignature key text rest → IsTrue b ↔ IsNoteSignature key text signature
note_signature key text signature rest b hint same test = (
  λ passes. record { hint_is = hint; signed = subst (IsSignature key text) same (test.0 passes) },
  λ is. test.1 (subst (IsSignature key text) (sym same) is.signed),
)

-- the lines of a checkpoint of any tree, by place
pub tree_lines : (lines : List (Bor (List ℕ))) (d : Bor (List ℕ)) (b : Bool) → 3 ≤ length lines
    → IsTrue b ↔ ((n : ℕ) × IsSize (get_or lines 1 d).now n)
    → IsTrue b ↔ AreTreeLines (texts_of lines)
tree_lines [] d b long test = absurd (omega arith)
tree_lines (x ∷ []) d b long test = absurd (omega arith)
tree_lines (x ∷ y ∷ []) d b long test = absurd (omega arith)
tree_lines (x ∷ y ∷ z ∷ rest) d b long test = (
  λ passes. let number = test.0 passes in record {
    origin = x.now;
    size_text = y.now;
    root_text = z.now;
    others = texts_of rest;
    lines_are = refl;
    size = number.0;
    size_is = number.1;
  },
  λ are.
      let same = second x.now y.now are.origin are.size_text (z.now ∷ texts_of rest) (are.root_text ∷ are.others)
      are.lines_are in
      test.1 (are.size, subst (λ text. IsSize text are.size) (sym same) are.size_is),
)
  where
    second : (x y o p : List ℕ) (r s : List (List ℕ)) → x ∷ y ∷ r ≡ o ∷ p ∷ s → y ≡ p
    second x y o p r s e = cc
