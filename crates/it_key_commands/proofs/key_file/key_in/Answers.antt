use Rattle.std.proofs.Common.{rules}
use Rattle.it_key_commands.proofs.KeysRead.{text_fails}
use Rattle.it_key_commands.proofs.key_file.key_in.Goals as goal

pub returns-in_default-public_key_info : goal.returns-in_default-public_key_info
returns-in_default-public_key_info c =
    text_fails c.args.lines.now c.trim_end-text.result.now c.text_fault.result
    (search rules) c.text_fault.ensures
