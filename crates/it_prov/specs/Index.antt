-- Which envelopes hold a Statement with a subject of a given digest, as an index made for a search
-- (specific to this project; no standard covers it).
use Rattle.std.specs.Prelude.{◌≡◌, ◌==◌, ◌&&◌, ℕ, List, Bool, false, Option, slice_get}
use Rattle.std.specs.BTreeMap.{BTreeMap, get}
use Rattle.std.specs.Cmp.Lexicographic.{slice_cmp}
use Rattle.std.specs.List.{list_any}
use Rattle.std.specs.Option.{option_map_or}
use Rattle.std.specs.Ordering.{nat_cmp}
use Rattle.std.specs.Str.{bytes_eq}
use Rattle.std.specs.declared.alloc.Global.{Global}
use Rattle.std.specs.declared.vec.Vec.{Vec}
use Rattle.it_digest.specs.DigestSet.{Algorithm, in_sha256, in_sha384, in_sha512, value_in}
use Rattle.it_digest.specs.declared.compare.DigestSet.{DigestSet}
use Rattle.it_prov.specs.declared.attestations.Attestation.{Attestation}
use Rattle.it_prov.specs.declared.index.Entry.{Entry}
use Rattle.it_prov.specs.declared.index.Index.{Index}

-- whether an envelope holds a Statement with a subject that passes a test
abbrev pub names : (DigestSet → Bool) → Option Attestation → Bool
names test held = option_map_or (λ a. list_any test a.statement.subjects) held false

-- whether the envelope at a place does
abbrev pub names_at : (DigestSet → Bool) → List (Option Attestation) → ℕ → Bool
names_at test held place = option_map_or (names test) (slice_get held place) false

-- entries under digests of one algorithm
abbrev pub Entries : Type 0
Entries = BTreeMap (List ℕ) (Vec Entry Global)

-- the entries under the digests of an algorithm
abbrev pub entries_by : Algorithm → Index → Entries
entries_by in_sha256 index = index.by_sha256
entries_by in_sha384 index = index.by_sha384
entries_by in_sha512 index = index.by_sha512

-- whether a subject has a digest under an algorithm
abbrev pub has_digest : Algorithm → List ℕ → DigestSet → Bool
has_digest algorithm digest subject =
    option_map_or (bytes_eq digest) (value_in algorithm subject) false

-- whether an entry is of the envelope at a place, and its subject passes a test
abbrev pub is_of : (DigestSet → Bool) → ℕ → Entry → Bool
is_of test place entry = (entry.place == place) && test entry.subject

-- whether one of the entries under a digest is
abbrev pub lists : Entries → List ℕ → (DigestSet → Bool) → ℕ → Bool
lists entries digest test place = option_map_or
    (λ found. list_any (is_of test place) found.items) (get (slice_cmp nat_cmp) entries digest)
    false

-- under each digest are the subjects that have it
abbrev pub IsIndex : List (Option Attestation) → Index → Type 0
IsIndex held index =
    (algorithm : Algorithm) (digest : List ℕ) (test : DigestSet → Bool) (place : ℕ)
    → lists (entries_by algorithm index) digest test place
    ≡ names_at (λ subject. has_digest algorithm digest subject && test subject) held place
