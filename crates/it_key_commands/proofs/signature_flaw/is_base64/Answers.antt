use Rattle.std.proofs.Common.{rules}
use Rattle.it_key_commands.proofs.signature_flaw.is_base64.Goals as goal

pub returns-in-Some : goal.returns-in-Some
returns-in-Some c = λ is. record {
  bytes = c.in-Some.bytes;
  decodes = search rules;
  valid = search rules;
}
