use Rattle.it_public_keys.proofs.Forms.{formless_is_none}
use Rattle.it_public_keys.proofs.memory.Memory.is_valid.Goals as goal

pub returns-then-not-has_form : goal.returns-then-not-has_form
returns-then-not-has_form c = formless_is_none c.args.question.now.key.value
    c.args.question.now.digest c.args.question.now.message.value.items c.args.sig.now
    c.has_form.result c.has_form.ensures c.if-not-has_form.true
