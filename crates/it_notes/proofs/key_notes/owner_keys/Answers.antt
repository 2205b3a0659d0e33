use Rattle.std.proofs.lemmas.List.Elements.{All-weaker}
use Rattle.it_key_notes.specs.UnknownKeys.{IsUnknownIn}
use Rattle.it_notes.specs.KeyNotes.{IsOfOwner}
use Rattle.it_notes.proofs.key_notes.owner_keys.Goals as goal

pub returns : goal.returns
returns g c = λ inputs reads.
    let panel = g.C.Checks.panel c.args.checks.now in
    let policy = c.args.policy.now in
    All-weaker (IsUnknownIn panel policy.owners) (IsOfOwner panel inputs)
    (λ note is. record { policy = policy; is_policy = reads; is_unknown = is }) _
    c.in_ok-notes.ensures
