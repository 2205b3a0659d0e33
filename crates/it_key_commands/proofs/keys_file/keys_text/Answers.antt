use Rattle.std.proofs.Common.{◌∙◌}
use Rattle.serde_json.specs.View.{view}
use Rattle.it_key_commands.proofs.KeysWritten.{is_keys_form, keys_read_back}
use Rattle.it_key_commands.proofs.keys_file.keys_text.Goals as goal

pub returns-clause-form : goal.returns-clause-form
returns-clause-form c =
    c.in_ok-push.ensures.items
    ∙ is_keys_form c.args.keys.now (view c.in_ok-value.value) c.in_ok-text.text.items
    c.in_ok-value.ensures c.in_ok-text.ensures.text

pub returns-clause-reads_back : goal.returns-clause-reads_back
returns-clause-reads_back c =
    rw c.in_ok-push.ensures.items (keys_read_back c.args.keys.now (view c.in_ok-value.value)
    c.in_ok-text.text.items c.in_ok-value.ensures c.in_ok-text.ensures.utf8
    c.in_ok-text.ensures.reads_back)
