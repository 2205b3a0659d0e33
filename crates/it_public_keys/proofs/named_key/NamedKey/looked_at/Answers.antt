use Rattle.std.proofs.Common.{◌∙◌, sym}
use Rattle.it_message.specs.Message.{joined}
use Rattle.it_public_keys.proofs.NamedKeys.{valid_by_number}
use Rattle.it_public_keys.proofs.named_key.NamedKey.looked_at.Goals as goal

pub returns : goal.returns
returns c = λ sig. rw (← c.self.view_is) (c.in_ok-part.ensures c.digest-digest.result sig
    ∙ c.digest-digest.ensures sig
    ∙ sym (valid_by_number c.self.inside.key c.self.invariant.is_key c.self.invariant.of_bytes
    (joined c.args.message.now) sig))
