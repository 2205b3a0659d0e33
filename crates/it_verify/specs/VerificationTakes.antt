-- The fewest validity checks that an accepting verification takes (specific to this project; no
-- standard covers it).
use Rattle.std.specs.FinMap.{entries, len}
use Rattle.std.specs.List.{sum_by}
use Rattle.std.specs.Prelude.{◌≡◌, ℕ, List, ◌≤◌, ⊤, ◌+◌, length, ◌-◌, ◌^◌, min}
use Rattle.it_base.specs.Sum.{IsSum}
use Rattle.it_digest.specs.declared.compare.DigestSet.{DigestSet}
use Rattle.it_dsse.specs.Panel.{Panel}
use Rattle.it_dsse.specs.Signed.{tries}
use Rattle.it_dsse.specs.declared.envelope.Envelope.{Envelope}
use Rattle.it_dsse.specs.declared.key_object.KeyObject.{KeyObject}
use Rattle.it_docs.specs.Policy.{PolicyOf}
use Rattle.it_base.specs.Table.{Named}
use Rattle.it_docs.specs.declared.policy.Expectation.{Expectation}
use Rattle.it_docs.specs.declared.policy.Policy.{Policy}
use Rattle.it_chain.specs.Fewest.{ChainFewest}
use Rattle.it_prov.specs.Asked.{IsAskedFor}
use Rattle.it_prov.specs.Fits.{Fits}
use Rattle.it_report.specs.declared.verdict.Verdict.{Verdict}
use Rattle.it_report.specs.declared.verdict.Verdict.TheVariants.{Refused, Accepted}
use Rattle.it_verify.specs.Documents.{Documents, ReadAs, setting_of}
use Rattle.it_verify.specs.Provenance.{IsProvenanceLine}
use Rattle.it_verify.specs.declared.inputs.Inputs.{Inputs}

-- how many signatures of an envelope are tried for the keys of owners
abbrev pub owner_tries : Panel → Envelope → Named KeyObject → ℕ
owner_tries panel envelope owners =
    sum_by (λ owner. tries panel envelope owner.0 owner.1) (entries owners)

-- what the layout takes over the links
abbrev pub LinksTake : Panel → Inputs → Documents → ℕ → Type 0
LinksTake panel inputs documents =
    ChainFewest (setting_of panel documents) inputs.depth documents.layout inputs.links

-- a delivered file takes the signatures that are tried with a builder's key by which some line of
-- the provenance meets the expectation that speaks of the file
pub record FileTakes (panel : Panel) (inputs : Inputs) (expectations : List Expectation)
    (file : List ℕ × DigestSet) (n : ℕ) : Type 0 where
  pub expectation : Expectation
  pub envelope : Envelope
  pub fits : Fits expectations file.0 expectation
  pub is_line : IsProvenanceLine inputs envelope
  pub asked : IsAskedFor panel expectation file.1 envelope n

-- what the delivered files take
abbrev pub FilesTake : Panel → Inputs → Documents → ℕ → Type 0
FilesTake panel inputs documents =
    IsSum (FileTakes panel inputs documents.policy.expectations) (entries documents.delivered)

-- what an accepting verification takes: the signatures that are tried for its owners, what the
-- layout takes over the links, and what the delivered files take
pub record Takes (panel : Panel) (inputs : Inputs) (n : ℕ) : Type 0 where
  pub documents : Documents
  pub links : ℕ
  pub files : ℕ
  pub read : ReadAs inputs documents
  pub of_links : LinksTake panel inputs documents links
  pub of_files : FilesTake panel inputs documents files
  pub sum : n ≡ owner_tries panel documents.envelope documents.policy.owners + links + files

-- one check for each owner, each key that signed for a step, and each delivered file
abbrev pub fewest : Policy → List (List ℕ × ℕ) → List (List ℕ) → ℕ
fewest policy steps files = len policy.owners + sum_by (λ step. step.1) steps + length files

-- at least this many checks were asked for, as far as the count has room
abbrev pub IsAskedFully : ℕ → ℕ → Type 0
IsAskedFully asked n = min n (2 ^ 64 - 1) ≤ asked

-- an accepting verdict took what such a verification takes, and so at least one check for each
-- owner, each key of a step and each file, as far as the count had room
abbrev pub AsksEnough : Panel → Inputs → ℕ → Verdict → Type 0
AsksEnough panel inputs asked (Accepted steps files) =
    ((least : ℕ) × Takes panel inputs least × IsAskedFully asked least)
    × ((policy : Policy) → PolicyOf inputs.policy policy
    → IsAskedFully asked (fewest policy steps files))
AsksEnough panel inputs asked (Refused refusal) = ⊤
