use Rattle.std.proofs.Common.{◌≡◌, ◌∙◌, ◌++◌, ap, option_map}
use Rattle.std.specs.FinMap.{get}
use Rattle.it_rules.specs.FolderPrefix.{folder_prefix}
use Rattle.it_rules.specs.Item.{recorded_of, artifacts_on}
use Rattle.it_rules.specs.Rules.{IsMatch}
use Rattle.it_rules.proofs.Claimed.{answer_on_path, claims_from_digests, no_match, now_of}
use Rattle.it_rules.proofs.claims.match_claims.Goals as goal

pub returns-then-not-matches : goal.returns-then-not-matches
returns-then-not-matches c =
    let none : ¬ IsMatch c.args.source.now.pattern.now c.in-Some.rest.now =
    λ m. (let t = c.matches.ensures.1 m in cc (t, c.if-not-matches.true)) in (
      λ h. absurd (cc h),
      λ m. absurd (no_match _ _ _ _ _ _ _ _ c.in-Some.rest.now c.in-Some.ensures none m),
    )

pub returns-in_default-find_link : goal.returns-in_default-find_link
returns-in_default-find_link c =
    (λ h. absurd (cc h), λ m. absurd (c.in_default-find_link.ensures m.linked m.is_named))

pub returns : goal.returns
returns c =
    let linked = recorded_of c.in-Some-find_link.link.now.item in
    let there : option_map now_of c.in_ok-there.there
    ≡ get (artifacts_on c.args.target.now.side linked)
    (folder_prefix c.args.target.now.prefix.now ++ c.in-Some.rest.now) =
    c.in_ok-there.ensures ∙ ap (λ m. get m (folder_prefix c.args.target.now.prefix.now
    ++ c.in-Some.rest.now)) c.artifacts_on-recorded.ensures in
    answer_on_path c.agree.result c.args.judged.now.digests c.in_ok-there.there _ _ c.agree.ensures
    c.requires.digests there
    (claims_from_digests _ _ _ _ _ _ _ _ c.in-Some.rest.now linked c.requires.names c.in-Some.ensures
    (c.matches.ensures.0 c.if-not-matches.false) c.in-Some-find_link.ensures.1)
