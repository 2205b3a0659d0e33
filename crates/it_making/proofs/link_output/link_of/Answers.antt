use Rattle.std.proofs.lemmas.Result.{err_from_is_err_and}
use Rattle.it_making.proofs.LinkFaults.{products_fault}
use Rattle.it_making.proofs.link_output.link_of.Goals as goal

pub returns-in_err-products-clause-err : goal.returns-in_err-products-clause-err
returns-in_err-products-clause-err c =
    let fault = products_fault c.args.materials.now c.args.products.now c.in_err-products.field-0.0
    c.in_ok-materials.materials c.in_ok-materials.ensures.ok c.in_err-products.ensures.err in
    let made = err_from_is_err_and c.from_residual-in_err-products.result
    c.from_residual-in_err-products.ensures.1 in
    rw (made.1, made.2) fault
