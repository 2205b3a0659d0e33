use Rattle.std.proofs.Common.{refl}
use Rattle.it_check.specs.SharedKeySentence.{holder_form, other_form, shared_key_sentence}
use Rattle.it_check.proofs.Appended.{appended}
use Rattle.it_check.proofs.shared_key_sentence.push_shared_key.Goals as goal

pub returns : goal.returns
unfolding shared_key_sentence
returns c =
    let shared = c.args.shared.now in
    appended c.push_other.result c.args.text.now.items c.push_holder.new.text.items
    c.push_other.new.text.items (holder_form shared.first) (other_form shared.holder)
    (shared_key_sentence shared) c.in_ok-push_holder.ensures refl c.push_other.ensures
