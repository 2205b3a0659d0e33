use Rattle.it_strict.proofs.Taken.{delivered_are_products}
use Rattle.it_strict.proofs.laws.delivered_are_products.Goals as goal

pub returns : goal.returns
returns c = delivered_are_products
