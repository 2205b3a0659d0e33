-- What the commands other than verify write and find, by their words and by what is at the paths in
-- them.
use Rattle.std.specs.Prelude.{◌≡◌, ℕ, List, [], ◌∷◌, ◌++◌, if◌then◌else◌, MatchBool, Option}
use Rattle.std.specs.Prelude.{MatchOption}
use Rattle.std.specs.Cmp.Lexicographic.{slice_cmp}
use Rattle.std.specs.List.{AllZip}
use Rattle.std.specs.List.Sorted.{IsPermutation, IsSorted}
use Rattle.std.specs.Ordering.{nat_cmp}
use Rattle.it_base.specs.Table.{Named}
use Rattle.it_digest.specs.DigestSet.{Algorithm, in_sha256, in_sha512}
use Rattle.it_dsse.specs.Pae.{pae_of}
use Rattle.it_dsse.specs.Panel.{panel_of}
use Rattle.it_dsse.specs.Ring.{ids_of, ring_check}
use Rattle.it_dsse.specs.declared.key_object.KeyObject.{KeyObject}
use Rattle.it_dsse.specs.declared.ring_entry.RingEntry.{RingEntry}
use Rattle.it_check.specs.CheckOutput.{IsCheckOutput}
use Rattle.it_commands.specs.DigestOutput.{IsDigestLine}
use Rattle.it_commands.specs.PayloadOutput.{IsPayloadOutput}
use Rattle.it_commands.specs.SignedOutput.{IsSignedOutput}
use Rattle.it_commands.specs.SignOntoOutput.{IsSignOntoOutput}
use Rattle.it_commands.specs.SignOutput.{IsSignOutput}
use Rattle.it_key_commands.specs.IdentityOutput.{IsIdentityOutput}
use Rattle.it_key_commands.specs.KeyOutput.{IsKeyOutput}
use Rattle.it_key_commands.specs.SignMadeOntoOutput.{IsSignMadeOntoOutput}
use Rattle.it_key_commands.specs.SignMadeOutput.{IsSignMadeOutput}
use Rattle.it_key_commands.specs.SignedByKeysOutput.{IsSignedByKeysOutput}
use Rattle.it_making.specs.LinkOutput.{IsLinkOutput}
use Rattle.it_making.specs.StatementOutput.{IsStatementOutput}
use Rattle.it_outcome.specs.declared.outcome.Status.{Status}
use Rattle.it_outcome.specs.declared.outcome.Status.TheVariants.{Good}
use Rattle.it_words.specs.declared.words.check_words.CheckWords.{CheckWords}
use Rattle.it_words.specs.declared.words.digest_words.DigestWords.{DigestWords}
use Rattle.it_words.specs.declared.words.key_words.IdentityWords.{IdentityWords}
use Rattle.it_words.specs.declared.words.key_words.KeySource.{KeySource}
use Rattle.it_words.specs.declared.words.key_words.KeySource.TheVariants.{Files, Identity}
use Rattle.it_words.specs.declared.words.key_words.KeyWords.{KeyWords}
use Rattle.it_words.specs.declared.words.link_words.LinkWords.{LinkWords}
use Rattle.it_words.specs.declared.words.pae_words.PaeWords.{PaeWords}
use Rattle.it_words.specs.declared.words.payload_words.PayloadWords.{PayloadWords}
use Rattle.it_words.specs.declared.words.statement_words.StatementWords.{StatementWords}
use Rattle.it_words.specs.declared.words.signed_words.SignedBy.{SignedBy}
use Rattle.it_words.specs.declared.words.signed_words.SignedBy.TheVariants.{Ring as of_ring}
use Rattle.it_words.specs.declared.words.signed_words.SignedBy.TheVariants.{Keys as of_keys}
use Rattle.it_words.specs.declared.words.signed_words.SignedBy.TheVariants.{Trusted as of_trusted}
use Rattle.it_words.specs.declared.words.signed_words.SignedWords.{SignedWords}
use Rattle.it_words.specs.declared.words.sign_words.MadePaths.{MadePaths}
use Rattle.it_words.specs.declared.words.sign_words.SignBy.{SignBy}
use Rattle.it_words.specs.declared.words.sign_words.SignBy.TheVariants.{Ring as under_ring, Made}
use Rattle.it_words.specs.declared.words.sign_words.SignWords.{SignWords}
use Rattle.it_disk.specs.Reading.{Holdings, HoldsIfGiven, HoldsKeys, HoldsRing, IsGiven}
use Rattle.it_files_below.specs.FilesBelow.{AreFilesAtEach}
use Rattle.it_file_commands.specs.TrustedSigners.{ShowsTrustedSigners}

-- signed: which ids of the ring, in the order of their bytes, signed the envelope
pub record ShowsRingSigners (disk : Holdings) (path envelope text : List ℕ)
    (status : Status) : Type 0 where
  pub ring : List RingEntry
  pub holds_ring : HoldsRing disk path ring
  pub ids : List (List ℕ)
  pub same_ids : IsPermutation (ids_of ring) ids
  pub in_order : IsSorted (slice_cmp nat_cmp) ids
  pub is_output : IsSignedOutput (panel_of (ring_check ring ∷ [])) ids envelope text status

-- signed: which public keys signed the envelope, by their ids
pub record ShowsKeySigners (disk : Holdings) (path envelope text : List ℕ)
    (status : Status) : Type 0 where
  pub objects : Named KeyObject
  pub holds_keys : HoldsKeys disk path objects
  pub is_output : IsSignedByKeysOutput objects envelope text status

-- signed: by a ring, by public keys, or by these and identities
abbrev pub ShowsSignersBy : Holdings → SignedBy → (envelope text : List ℕ) → Status → Type 0
ShowsSignersBy disk (of_ring path) envelope text status =
    ShowsRingSigners disk path envelope text status
ShowsSignersBy disk (of_keys path) envelope text status =
    ShowsKeySigners disk path envelope text status
ShowsSignersBy disk (of_trusted paths) envelope text status =
    ShowsTrustedSigners disk paths envelope text status

-- signed: who signed the envelope
pub record ShowsSigners (disk : Holdings) (words : SignedWords) (text : List ℕ)
    (status : Status) : Type 0 where
  pub envelope : List ℕ
  pub holds_envelope : disk.file words.envelope envelope
  pub shows : ShowsSignersBy disk words.by envelope text status

-- sign: the body's envelope under the key of the ring
pub record SignsByRing (disk : Holdings) (words : SignWords) (path body text : List ℕ)
    : Type 0 where
  pub ring : List RingEntry
  pub holds_ring : HoldsRing disk path ring
  pub is_output : IsSignOutput ring words.key words.kind body text

-- sign --onto: the envelope with one more signature of the body, under the key of the ring
pub record SignsOntoByRing (disk : Holdings) (words : SignWords) (path body envelope text : List ℕ)
    : Type 0 where
  pub ring : List RingEntry
  pub holds_ring : HoldsRing disk path ring
  pub is_output : IsSignOntoOutput ring words.key words.kind body envelope text

-- sign: the body's envelope with a signature that was made elsewhere
pub record SignsAsMade (disk : Holdings) (words : SignWords) (paths : MadePaths)
    (body text : List ℕ) : Type 0 where
  pub objects : Named KeyObject
  pub holds_keys : HoldsKeys disk paths.keys objects
  pub made : List ℕ
  pub holds_made : disk.file paths.signature made
  pub is_output : IsSignMadeOutput objects words.key words.kind body made text

-- sign --onto: the envelope with one more signature of the body, which was made elsewhere
pub record SignsOntoAsMade (disk : Holdings) (words : SignWords) (paths : MadePaths)
    (body envelope text : List ℕ) : Type 0 where
  pub objects : Named KeyObject
  pub holds_keys : HoldsKeys disk paths.keys objects
  pub made : List ℕ
  pub holds_made : disk.file paths.signature made
  pub is_output : IsSignMadeOntoOutput objects words.key words.kind body made envelope text

-- sign: by a ring, or with a signature that was made elsewhere
abbrev pub SignsBy : Holdings → SignWords → SignBy → (body text : List ℕ) → Type 0
SignsBy disk words (under_ring path) body text = SignsByRing disk words path body text
SignsBy disk words (Made paths) body text = SignsAsMade disk words paths body text

-- sign --onto: the same
abbrev pub SignsOntoBy : Holdings → SignWords → SignBy → (body envelope text : List ℕ) → Type 0
SignsOntoBy disk words (under_ring path) body envelope text =
    SignsOntoByRing disk words path body envelope text
SignsOntoBy disk words (Made paths) body envelope text =
    SignsOntoAsMade disk words paths body envelope text

-- sign --onto: the signature is added to the envelope at a path
pub record SignsOnto (disk : Holdings) (words : SignWords) (body onto text : List ℕ)
    : Type 0 where
  pub envelope : List ℕ
  pub holds_envelope : disk.file onto envelope
  pub signs : SignsOntoBy disk words words.by body envelope text

-- sign: a new envelope, or one more signature where an envelope is given
pub record SignsAsAsked (disk : Holdings) (words : SignWords) (text : List ℕ)
    (status : Status) : Type 0 where
  pub body : List ℕ
  pub holds_body : disk.file words.body body
  pub signs : MatchOption words.onto (SignsBy disk words words.by body text)
      (λ onto. SignsOnto disk words body onto text)
  pub status_is : status ≡ Good

-- payload: what the envelope holds
pub record ShowsPayload (disk : Holdings) (words : PayloadWords) (text : List ℕ)
    (status : Status) : Type 0 where
  pub envelope : List ℕ
  pub holds_envelope : disk.file words.envelope envelope
  pub is_output : IsPayloadOutput envelope text status

-- link: the body of the link of these digest lists; a list that is not given is empty
pub record MakesLink (disk : Holdings) (words : LinkWords) (text : List ℕ)
    (status : Status) : Type 0 where
  pub materials : List ℕ
  pub holds_materials : HoldsIfGiven disk.file words.materials materials
  pub products : List ℕ
  pub holds_products : HoldsIfGiven disk.file words.products products
  pub is_output : IsLinkOutput words.name materials products text
  pub status_is : status ≡ Good

-- statement: the Statement of this digest list, with parameters only where they are given
pub record MakesStatement (disk : Holdings) (words : StatementWords) (text : List ℕ)
    (status : Status) : Type 0 where
  pub sums : List ℕ
  pub holds_sums : disk.file words.sums sums
  pub parameters : Option (List ℕ)
  pub are_given : IsGiven disk.file words.parameters parameters
  pub is_output : IsStatementOutput sums words.build_type words.builder parameters text
  pub status_is : status ≡ Good

-- check: what is found in the policy and in the layout, each where it is given
pub record Checks (disk : Holdings) (words : CheckWords) (text : List ℕ) (status : Status)
    : Type 0 where
  pub policy : Option (List ℕ)
  pub holds_policy : IsGiven disk.file words.policy policy
  pub layout : Option (List ℕ)
  pub holds_layout : IsGiven disk.file words.layout layout
  pub is_output : IsCheckOutput policy layout text status

-- key: the key objects of the files of public keys, under their ids, or one under the given name
pub record MakesFileKeys (disk : Holdings) (paths : List (List ℕ)) (name : Option (List ℕ))
    (text : List ℕ) (status : Status) : Type 0 where
  pub files : List (List ℕ)
  pub holds_files : AllZip disk.file paths files
  pub is_output : IsKeyOutput files name text
  pub status_is : status ≡ Good

-- key: the key object of an identity, under its id or the given name
pub record MakesIdentityKey (identity : IdentityWords) (name : Option (List ℕ)) (text : List ℕ)
    (status : Status) : Type 0 where
  pub is_output : IsIdentityOutput identity.name identity.issuer name text
  pub status_is : status ≡ Good

-- key: of files, or of an identity
abbrev pub MakesKeysOf : Holdings → KeySource → Option (List ℕ) → List ℕ → Status → Type 0
MakesKeysOf disk (Files paths) name text status = MakesFileKeys disk paths name text status
MakesKeysOf disk (Identity identity) name text status = MakesIdentityKey identity name text status

-- key: the key objects of what the words name
abbrev pub MakesKeys : Holdings → KeyWords → List ℕ → Status → Type 0
MakesKeys disk words text status = MakesKeysOf disk words.source words.name text status

-- pae: what is signed for the body
pub record Encodes (disk : Holdings) (words : PaeWords) (text : List ℕ)
    (status : Status) : Type 0 where
  pub body : List ℕ
  pub holds_body : disk.file words.body body
  pub text_is : text ≡ pae_of words.kind body
  pub status_is : status ≡ Good

-- digest: the algorithm that the words ask for
abbrev pub asked_algorithm : DigestWords → Algorithm
asked_algorithm words = if words.sha512 then in_sha512 else in_sha256

-- digest: the line of the file at a path, of at most 1,099,511,627,776 bytes
pub record IsLineOf (disk : Holdings) (algorithm : Algorithm) (path line : List ℕ) : Type 0 where
  pub before : Option (List ℕ)
  pub opened : disk.left path before
  pub after : Option (List ℕ)
  pub is_line : IsDigestLine algorithm before after 1099511627776 path line

-- digest: the lines of these files, in their order
pub data AreLinesOf (disk : Holdings) (algorithm : Algorithm)
    : List (List ℕ) → List ℕ → Type 0 where
  no_line : AreLinesOf disk algorithm [] []
  one_more : {files : List (List ℕ)} {text file line : List ℕ}
      → AreLinesOf disk algorithm files text → IsLineOf disk algorithm file line
      → AreLinesOf disk algorithm (files ++ file ∷ []) (text ++ line)

-- digest: the files that the words name: those at the paths, or with --recursive all files at or
-- below each path
abbrev pub AreNamed : Holdings → DigestWords → List (List ℕ) → Type 0
AreNamed disk words files = MatchBool words.recursive (AreFilesAtEach disk words.paths files)
    (files ≡ words.paths)

-- digest: the lines of the files that the words name, in their order: by SHA-256, or with --sha512
-- by SHA-512
pub record ListsDigests (disk : Holdings) (words : DigestWords) (text : List ℕ)
    (status : Status) : Type 0 where
  pub files : List (List ℕ)
  pub are_named : AreNamed disk words files
  pub are_lines : AreLinesOf disk (asked_algorithm words) files text
  pub status_is : status ≡ Good
