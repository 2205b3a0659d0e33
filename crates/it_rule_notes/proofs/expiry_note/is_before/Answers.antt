use Rattle.std.proofs.Common.{◌<ℤ◌, rules, sym}
use Rattle.it_docs.proofs.Moments.{same_moment}
use Rattle.it_rule_notes.proofs.expiry_note.is_before.Goals as goal

pub returns-in-Ok-Ok : goal.returns-in-Ok-Ok
returns-in-Ok-Ok c = (
  λ is. record {
    earlier = c.in-Ok-Ok.expires;
    later = c.in-Ok-Ok.moment;
    is_earlier = c.in-Ok-Ok.ensures;
    is_later = c.in-Ok-Ok.ensures';
    is_before = search rules;
  },
  λ h.
      let earlier = same_moment c.args.expires.now h.earlier c.in-Ok-Ok.expires h.is_earlier
      c.in-Ok-Ok.ensures in
      let later = same_moment c.args.moment.now h.later c.in-Ok-Ok.moment h.is_later
      c.in-Ok-Ok.ensures' in
      let before : c.in-Ok-Ok.expires <ℤ c.in-Ok-Ok.moment =
      rw (sym earlier, sym later) h.is_before in
      search rules,
)

pub returns-in_default : goal.returns-in_default
returns-in_default c = (λ no. absurd (cc no), λ h. absurd (c.in_default.ensures' h.later h.is_later))

pub returns-in_default-2 : goal.returns-in_default-2
returns-in_default-2 c = (
  λ no. absurd (cc no),
  λ h. absurd ((rw c.in_default.is-0 at c.read_moment.ensures) h.earlier h.is_earlier),
)
