use Rattle.std.proofs.Common.{◌∙◌, ◌++◌, ap, codes, length}
use Rattle.it_findings.proofs.KeyNames.{joined}
use Rattle.it_findings.proofs.listed_key.identity_name.Goals as goal

pub returns : goal.returns
returns c =
    let identity = c.args.identity.now in
    let issuer = c.args.issuer.now in
    c.in_ok-push_str-3.ensures.bytes
    ∙ ap (λ name. name ++ issuer) (c.in_ok-push_str-2.ensures.bytes
    ∙ ap (λ name. name ++ identity) (c.in_ok-push_str.ensures.bytes
    ∙ ap (λ name. name ++ codes ":") c.in_ok-name.ensures.bytes))
    ∙ joined 0x2e 0x3a (length identity) identity issuer
