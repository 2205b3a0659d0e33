-- What a verification reads, by the words of the command (a word of this project).
use Rattle.std.specs.Prelude.{◌≡◌, ℕ, List, Option, Some, None, Bool, true, false, IsTrue}
use Rattle.it_digest.specs.Sums.{lines_of}
use Rattle.it_disk.specs.Reading.{AreLimited, Holdings, HoldsIfGiven, HoldsRoot}
use Rattle.it_limits.specs.Limit.{IsWithinLimit}
use Rattle.it_limits.specs.Lines.{AreWithin}
use Rattle.it_limits.specs.declared.lines.LineOver.{LineOver}
use Rattle.it_trust_root.specs.declared.root.TrustedRoot.{TrustedRoot}
use Rattle.it_unwrapped.specs.Lines.{AreUnwrapped}
use Rattle.it_verify.specs.declared.inputs.Inputs.{Inputs}
use Rattle.it_vouched.specs.Line.{AreVouched}
use Rattle.it_vouched.specs.declared.vouched.Vouched.{Vouched}
use Rattle.it_words.specs.declared.words.verify_words.VerifyWords.{VerifyWords}

-- the provenance as envelopes: what was read, but where a trusted root is given, each line that is
-- a bundle is replaced by its envelope
abbrev pub AreEnvelopes : Option (List ℕ) → (read envelopes : List ℕ) → Type 0
AreEnvelopes None read envelopes = envelopes ≡ read
AreEnvelopes (Some path) read envelopes = AreUnwrapped (lines_of read) (lines_of envelopes)

-- the provenance that is looked at: all of it, but where signatures are limited, without the lines
-- that have too many
abbrev pub AreLookedAt : Bool → (envelopes lines : List ℕ) → Type 0
AreLookedAt false envelopes lines = lines ≡ envelopes
AreLookedAt true envelopes lines =
    (left_out : List LineOver) × AreWithin (lines_of envelopes) (lines_of lines) left_out

-- what the provenance vouches for by the trusted root at the path, where one is given
abbrev pub AreVouchedBy : Holdings → Option (List ℕ) → (read : List ℕ) → Option (List Vouched)
    → Type 0
AreVouchedBy disk None read vouched = vouched ≡ None
AreVouchedBy disk (Some path) read vouched =
    (root : TrustedRoot) × HoldsRoot disk path root
    × (all : List Vouched) × AreVouched root (lines_of read) all × (vouched ≡ Some all)

-- the provenance that was read, as it is looked at, and what it vouches for
pub record IsProvenance (disk : Holdings) (words : VerifyWords) (lines : List ℕ)
    (vouched : Option (List Vouched)) : Type 0 where
  pub read : List ℕ
  pub holds : HoldsIfGiven disk.file words.provenance read
  pub envelopes : List ℕ
  pub are_envelopes : AreEnvelopes words.trusted_root read envelopes
  pub are_looked_at : AreLookedAt words.public_keys envelopes lines
  pub are_vouched : AreVouchedBy disk words.trusted_root read vouched

-- each input is what is at the path of its own option, and the moment and the depth are those of
-- the words. With public keys signatures are limited: links and lines that have too many are not
-- among the inputs, and the layout does not have too many. Beside them, what the provenance vouches
-- for
pub record AreInputs (disk : Holdings) (words : VerifyWords) (inputs : Inputs)
    (vouched : Option (List Vouched)) : Type 0 where
  pub policy : disk.file words.policy inputs.policy
  pub layout : disk.file words.layout inputs.layout
  pub layout_limited : IsTrue words.public_keys → IsWithinLimit inputs.layout
  pub links : disk.links words.links words.depth words.public_keys inputs.links
  pub links_limited : AreLimited words.public_keys inputs.links
  pub records : HoldsIfGiven disk.records words.records inputs.records
  pub provenance : IsProvenance disk words inputs.provenance vouched
  pub sums : HoldsIfGiven disk.file words.sums inputs.sums
  pub sums512 : HoldsIfGiven disk.file words.sums512 inputs.sums512
  pub moment : inputs.moment ≡ words.at
  pub depth : inputs.depth ≡ words.depth
