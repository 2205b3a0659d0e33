-- What is found in the keys of a step (in-toto 1.0 section 4.3.1; that something is found, and
-- what, is a word of this project).
use Rattle.std.specs.Prelude.{◌≡◌, ℕ, ◌<◌, List, ◌++◌, None, Contains, take}
use Rattle.std.specs.FinMap.{get}
use Rattle.std.specs.Set.{distinct_count}
use Rattle.std.specs.Str.{bytes_eq}
use Rattle.it_docs.specs.declared.layout.Layout.{Layout}
use Rattle.it_docs.specs.declared.step.Step.{Step}
use Rattle.it_findings.specs.Joined.{Joined, Said}
use Rattle.it_findings.specs.declared.finding.Finding.{Finding}
use Rattle.it_findings.specs.declared.finding.Finding.TheVariants.{HighThreshold, RepeatedKey}
use Rattle.it_findings.specs.declared.finding.Finding.TheVariants.{UnknownKey}
use Rattle.it_findings.specs.declared.finding.StepPlace.{StepPlace}

-- how many different key ids a step lists
abbrev pub id_count : Step → ℕ
id_count step = distinct_count bytes_eq step.pubkeys

-- what is found in the threshold of a step: it needs more different keys than it lists
abbrev pub ThresholdFindings : StepPlace → Step → List Finding → Type 0
ThresholdFindings at step found =
    Said (id_count step < step.threshold) (HighThreshold at step.threshold (id_count step)) found

-- what is found in the key id at a place of a step: the layout has no key object for it
abbrev pub UnknownKeyFindings : Layout → StepPlace → ℕ → List ℕ → List Finding → Type 0
UnknownKeyFindings layout at place id found =
    Said (get layout.keys id ≡ None) (UnknownKey at place id) found

-- what is found in it among the ids of the step: it stands at an earlier place as well
abbrev pub RepeatedKeyFindings : List (List ℕ) → StepPlace → ℕ → List ℕ → List Finding → Type 0
RepeatedKeyFindings ids at place id found =
    Said (Contains (take place ids) id) (RepeatedKey at place id) found

-- what is found in the keys of a step: in its threshold, then the ids without a key object, and
-- then the repeated ids, each in its order
pub record StepKeyFindings (layout : Layout) (at : StepPlace) (step : Step) (found : List Finding)
    : Type 0 where
  pub of_threshold : List Finding
  pub of_unknown : List Finding
  pub of_repeated : List Finding
  pub found_are : found ≡ of_threshold ++ (of_unknown ++ of_repeated)
  pub threshold : ThresholdFindings at step of_threshold
  pub unknown : Joined (UnknownKeyFindings layout at) step.pubkeys of_unknown
  pub repeated : Joined (RepeatedKeyFindings step.pubkeys at) step.pubkeys of_repeated
