use Rattle.it_key_commands.proofs.KeysRead.{described}
use Rattle.it_key_commands.proofs.key_file.ed25519_object.Goals as goal

pub returns-clause-describes : goal.returns-clause-describes
returns-clause-describes c =
    described c.args.key.now c.as_bytes.ensures.key
    (rw (c.as_slice.ensures, c.as_bytes.ensures.bytes) at c.in_ok-digits_of.ensures.reads_back)
