-- Deciding functions to match the definitions: what the crates below answer, as functions. Nothing
-- here is trusted.
use Rattle.std.specs.Prelude.{◌≡◌, ◌↔◌, ℕ, List, Bool, Option, IsTrue, MatchOption}
use Rattle.it_base.specs.Finds.{Finds}
use Rattle.it_dsse.specs.Envelope.{EnvelopeOf}
use Rattle.it_dsse.specs.declared.envelope.Envelope.{Envelope}
use Rattle.it_docs.specs.Layout.{LayoutOf}
use Rattle.it_docs.specs.Link.{LinkOf}
use Rattle.it_docs.specs.declared.layout.Layout.{Layout}
use Rattle.it_docs.specs.declared.link.Link.{Link}
use Rattle.it_docs.specs.declared.rule.Rule.{Rule}
use Rattle.it_docs.specs.declared.rule.Side.{Side}
use Rattle.it_rules.specs.Item.{Recorded, Links}
use Rattle.it_rules.specs.Rules.{IsFirstFault, NamesDiffer, RulesHold}
use Rattle.it_chain.specs.ClaimedFiles.{IsClaimed}

-- which names are claimed, what bytes read as, which artifacts are the same, and which rule is the
-- first to fail
pub record Lower : Type 0 where
  pub is_claimed : List ℕ → List ℕ → Bool
  pub envelope_of : List ℕ → Option Envelope
  pub link_of : List ℕ → Option Link
  pub layout_of : List ℕ → Option Layout
  pub is_same : Recorded → Recorded → Bool
  pub fault_of : List Rule → Side → Recorded → Links → Option (ℕ × List ℕ)

-- a list of rules has this first fault, or none
abbrev pub IsFaultOf : List Rule → Side → Recorded → Links → Option (ℕ × List ℕ) → Type 0
IsFaultOf rules side item links fault =
    MatchOption fault (RulesHold rules side item links)
    (λ f. IsFirstFault rules side item links f.0 f.1)

-- the functions answer what the definitions say
pub record AnswersRight (lower : Lower) : Type 0 where
  pub claimed : (step name : List ℕ) → IsTrue (lower.is_claimed step name) ↔ IsClaimed step name
  pub envelope : (bytes : List ℕ) → Finds (EnvelopeOf bytes) (lower.envelope_of bytes)
  pub link : (bytes : List ℕ) → Finds (LinkOf bytes) (lower.link_of bytes)
  pub layout : (bytes : List ℕ) → Finds (LayoutOf bytes) (lower.layout_of bytes)
  pub same : (a b : Recorded) → IsTrue (lower.is_same a b) ↔ (a ≡ b)
  pub fault : (rules : List Rule) (side : Side) (item : Recorded) (links : Links)
      → NamesDiffer links → IsFaultOf rules side item links (lower.fault_of rules side item links)
