use Rattle.std.proofs.Common.{◌∙◌, ◌<◌, ℕ, get_or, rules}
use Rattle.it_public_keys.proofs.named_key.NamedKey.new.Goals as goal

pub invariant_of-result : goal.invariant_of-result
invariant_of-result c =
    let small : (k : ℕ) → get_or c.name_of-name.result k 0 < 256 = λ k. search rules in
    record {
      is_key = c.requires.key;
      name_is = c.name_of-name.ensures ∙ c.requires.name;
      of_bytes = rw (← c.requires.name, ← c.name_of-name.ensures) small;
    }
