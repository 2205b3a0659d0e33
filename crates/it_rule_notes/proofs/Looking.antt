-- Where MATCH rules look for paths.
use Rattle.std.proofs.Common.{◌≡◌, ◌∙◌, ℕ, List, ◌++◌, false, Option, Some, None, ap, subst}
use Rattle.std.proofs.Common.{is_some, refl, sym}
use Rattle.it_base.specs.Finds.{Finds}
use Rattle.it_docs.specs.declared.rule.Rule.TheVariants.{Match}
use Rattle.it_docs.specs.declared.rule.Side.{Side}
use Rattle.it_rules.specs.FolderPrefix.{folder_prefix}
use Rattle.it_rules.specs.Rules.{IsMatch}
use Rattle.it_rule_notes.specs.Missed.{LooksFor}
use Rattle.it_rule_notes.specs.declared.target.Target.{Target}

-- a MATCH does not look for a path that is not under its source prefix, or is, with a rest that
-- its pattern does not match
pub looks_nowhere : (pattern source : List ℕ) (side : Side) (prefix from path : List ℕ)
    → ((rest : List ℕ) → path ≡ folder_prefix source ++ rest → ¬ IsMatch pattern rest)
    → (target : Target) → ¬ LooksFor (Match pattern source side prefix from) path target
looks_nowhere pattern source side prefix from path none target h =
    let same_source : source ≡ h.source = cc h.is_rule in
    let same_pattern : pattern ≡ h.pattern = cc h.is_rule in
    none h.rest (h.under_source ∙ ap (λ s. folder_prefix s ++ h.rest) (sym same_source))
    (subst (λ p. IsMatch p h.rest) (sym same_pattern) h.is_match)

-- where nothing is found, it holds for nothing
pub none_found : {X : Type 0} (P : X → Type 0) (found : Option X) → Finds P found
    → is_some found ≡ false → (x : X) → ¬ P x
none_found P None none empty = none
none_found P (Some y) is empty = absurd (cc empty)

-- where there is no value, there is none
pub none_there : {X : Type 0} (found : Option X) → is_some found ≡ false → found ≡ None
none_there None empty = refl
none_there (Some x) empty = absurd (cc empty)
