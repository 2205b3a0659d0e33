use Rattle.std.proofs.lemmas.Result.{err_from_is_err_and}
use Rattle.it_digest.proofs.ListedLemmas.{second_fault}
use Rattle.it_digest.proofs.listed.read_lists.Goals as goal

pub returns-in_err-by_sha512 : goal.returns-in_err-by_sha512
returns-in_err-by_sha512 c =
    let p = err_from_is_err_and c.from_residual-in_err-by_sha512.result
    c.from_residual-in_err-by_sha512.ensures.1 in
    rw (p.1, p.2) (second_fault _ _ _ _ c.in_ok-by_sha256.ensures c.in_err-by_sha512.ensures)
