use Rattle.std.proofs.Common.{◌<◌, ℕ, get_or, subst}
use Rattle.it_identity.proofs.identity.Identity.is_of_bytes.Goals as goal

pub returns : goal.returns
returns c = record {
  name = subst (λ bytes. (k : ℕ) → get_or bytes k 0 < 256) c.as_slice.ensures c.are_bytes.ensures;
  issuer = subst (λ bytes. (k : ℕ) → get_or bytes k 0 < 256) c.as_slice-2.ensures
      c.are_bytes-2.ensures;
}
