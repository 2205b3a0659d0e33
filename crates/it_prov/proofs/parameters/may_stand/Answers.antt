use Rattle.std.proofs.Common.{◌≡◌, ◌∙◌, None, sym}
use Rattle.it_base.specs.TreeOf.{field_at}
use Rattle.it_prov.specs.Ignored.{is_one_of}
use Rattle.it_prov.proofs.NameSets.{is_one_of-Decides}
use Rattle.it_prov.proofs.Trees.{none_behind}
use Rattle.it_prov.proofs.parameters.may_stand.Goals as goal

pub returns-else-is_some : goal.returns-else-is_some
returns-else-is_some c =
    let none : field_at c.args.name.now c.args.expectation.now.parameters ≡ None =
    none_behind _ c.get.result c.get.ensures (sym c.is_some.ensures ∙ c.if-is_some.false) in
    let ignore = c.args.expectation.now.ignore in
    let is : c.contains.result ≡ is_one_of ignore c.args.name.now =
    c.contains.ensures ∙ c.requires c.args.name.now in
    let tells = is_one_of-Decides ignore c.args.name.now in
    (λ h e. tells.0 (sym is ∙ h), λ m. is ∙ tells.1 (m none))
