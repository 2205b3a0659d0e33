-- What is said of findings (this project's words).
use Rattle.std.specs.Prelude.{ℕ, List}
use Rattle.it_findings.specs.declared.finding.Finding.{Finding}
use Rattle.it_findings.specs.declared.finding.Finding.TheVariants as findings
use Rattle.it_check.specs.ExpectationSentence.{no_builders_sentence, no_level_sentence}
use Rattle.it_check.specs.ExpectationSentence.{unequal_number_sentence, unreachable_level_sentence}
use Rattle.it_check.specs.ExpectationSentence.{unused_expectation_sentence}
use Rattle.it_check.specs.IdentitySentence.{identity_sentence, incomplete_sentence}
use Rattle.it_check.specs.MemberSentence.{member_sentence}
use Rattle.it_check.specs.NullKeySentence.{null_key_sentence}
use Rattle.it_check.specs.RuleSentence.{no_rules_sentence, open_rules_sentence, parameter_sentence}
use Rattle.it_check.specs.RuleSentence.{unknown_item_sentence}
use Rattle.it_check.specs.SharedKeySentence.{shared_key_sentence}
use Rattle.it_check.specs.StepKeySentence.{high_threshold_sentence, no_threshold_sentence}
use Rattle.it_check.specs.StepKeySentence.{repeated_key_sentence, unknown_key_sentence}

-- what is said of a finding
abbrev pub sentence_of : Finding → List ℕ
sentence_of (findings.NoRules list) = no_rules_sentence list
sentence_of (findings.OpenRules list) = open_rules_sentence list
sentence_of (findings.UnknownItem list place name) = unknown_item_sentence list place name
sentence_of (findings.Parameter list place) = parameter_sentence list place
sentence_of (findings.HighThreshold step threshold ids) =
    high_threshold_sentence step threshold ids
sentence_of (findings.UnknownKey step place id) = unknown_key_sentence step id
sentence_of (findings.RepeatedKey step place id) = repeated_key_sentence step id
sentence_of (findings.NoBuilders place) = no_builders_sentence place
sentence_of (findings.NoLevel place) = no_level_sentence place
sentence_of (findings.UnreachableLevel place level) = unreachable_level_sentence place level
sentence_of (findings.UnequalNumber place name) = unequal_number_sentence place name
sentence_of (findings.UnusedExpectation place) = unused_expectation_sentence place
sentence_of (findings.NoThreshold place) = no_threshold_sentence place
sentence_of (findings.NullKey key) = null_key_sentence key
sentence_of (findings.IdentityKey key) = identity_sentence key
sentence_of (findings.IncompleteIdentity key) = incomplete_sentence key
sentence_of (findings.SharedKey shared) = shared_key_sentence shared
sentence_of (findings.Member finding) = member_sentence finding
