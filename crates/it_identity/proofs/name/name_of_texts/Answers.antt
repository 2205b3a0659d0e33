use Rattle.std.proofs.Common.{◌∙◌}
use Rattle.it_identity.proofs.Names.{name_is, name_laid}
use Rattle.it_identity.proofs.name.name_of_texts.Goals as goal

pub returns : goal.returns
returns c =
    let name = c.args.name.now in
    let issuer = c.args.issuer.now in
    name_laid name issuer c.lay.new.bytes c.lay-2.new.bytes c.lay.ensures c.lay-2.ensures
    ∙ name_is (record { name = name; issuer = issuer })
