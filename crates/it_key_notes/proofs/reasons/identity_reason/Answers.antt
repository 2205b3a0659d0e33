use Rattle.std.proofs.Common.{rules}
use Rattle.it_key_notes.proofs.reasons.identity_reason.Goals as goal

pub returns-in_default : goal.returns-in_default
returns-in_default c = record {
  scheme_is = c.requires;
  none = λ name issuer. (rw c.in_default.is at c.in_ok-of.ensures)
      (record { name = c.args.object.now.identity; issuer = c.args.object.now.issuer })
      (search rules, search rules, record { name = name; issuer = issuer });
}
