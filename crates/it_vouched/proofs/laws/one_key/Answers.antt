use Rattle.std.proofs.Common.{◌<◌, ℕ, List, get_or, subst}
use Rattle.it_vouched.proofs.Keys.{one_identity}
use Rattle.it_vouched.proofs.laws.one_key.Goals as goal

pub returns : goal.returns
returns c =
    let are_bytes : List ℕ → Type 0 = λ bytes. (k : ℕ) → get_or bytes k 0 < 256 in
    λ vouched id another n e f. one_identity c.args.object.now c.args.other.now n
    (record {
      name = subst are_bytes c.as_str.ensures c.are_bytes.ensures;
      issuer = subst are_bytes c.as_str-2.ensures c.are_bytes-2.ensures;
    })
    (record {
      name = subst are_bytes c.as_str-3.ensures c.are_bytes-3.ensures;
      issuer = subst are_bytes c.as_str-4.ensures c.are_bytes-4.ensures;
    })
    e f
