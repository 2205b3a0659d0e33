use Rattle.std.proofs.Common.{ℕ, ◌++◌, rules, sym, ap, ◌∙◌}
use Rattle.sha2.specs.Sha256.{sha256}
use Rattle.it_rsa.proofs.Masks.{counter_bytes}
use Rattle.std.proofs.Common.{List}
use Rattle.it_rsa.proofs.mask.mask_block.Goals as goal

pub returns : goal.returns
returns c =
    c.digest_of_parts.ensures ∙ ap (λ (b : List ℕ). sha256 (c.args.seed.now ++ b)) (sym (counter_bytes c.args.counter (search rules)))
