use Rattle.it_findings.proofs.MemberLists.{named}
use Rattle.it_findings.proofs.meaning.is_among.Goals as goal

pub returns : goal.returns
returns c =
    let same = named c.args.names.now c.args.name.now in
    (λ t. same.0 (c.is_one_of.ensures.0 t), λ h. c.is_one_of.ensures.1 (same.1 h))
