use Rattle.std.proofs.Common.{◌≡◌, ◌≢◌, ◌∙◌, ◌++◌, ℕ, List, subst, sym}
use Rattle.std.proofs.lemmas.List.{append_cancel_left}
use Rattle.it_docs.specs.declared.rule.Rule.{Rule}
use Rattle.it_rules.specs.FolderPrefix.{folder_prefix}
use Rattle.it_rules.specs.Rules.{IsMatch}
use Rattle.it_rule_notes.specs.Missed.{LooksFor}
use Rattle.it_rule_notes.proofs.Looking.{looks_nowhere}
use Rattle.it_rule_notes.proofs.target.target_of.Goals as goal

pub returns-in_default-strip_folder : goal.returns-in_default-strip_folder
returns-in_default-strip_folder c = λ target.
    let here = c.in-Match in
    let none : (rest : List ℕ) → c.args.path.now ≢ folder_prefix here.source_prefix ++ rest =
    rw c.as_str.ensures at c.in_default-strip_folder.ensures in
    subst (λ (rule : Rule). ¬ LooksFor rule c.args.path.now target) (sym here.is)
    (looks_nowhere here.pattern here.source_prefix here.side here.target_prefix here.from
    c.args.path.now (λ rest is _. none rest is) target)

pub returns-then-not-matches : goal.returns-then-not-matches
returns-then-not-matches c = λ target.
    let here = c.in-Match in
    let under : c.args.path.now ≡ folder_prefix here.source_prefix ++ c.in-Some.rest.now =
    rw c.as_str.ensures at c.in-Some.ensures in
    subst (λ (rule : Rule). ¬ LooksFor rule c.args.path.now target) (sym here.is)
    (looks_nowhere here.pattern here.source_prefix here.side here.target_prefix here.from
    c.args.path.now (λ rest is m.
    let same : rest ≡ c.in-Some.rest.now =
    append_cancel_left (folder_prefix here.source_prefix) _ _ (sym is ∙ under) in
    let t = c.matches.ensures.1 (subst (λ r. IsMatch here.pattern r) same m) in
    cc (t, c.if-not-matches.true)) target)
