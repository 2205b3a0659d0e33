use Rattle.std.proofs.Common.{◌≡◌, refl, true}
use Rattle.it_step_notes.proofs.near_names.near_name.Goals as goal

pub returns-then-branch : goal.returns-then-branch
returns-then-branch c = λ panel. rw (c.in_ok-copy.ensures, c.name-name.ensures) (record {
  file = c.args.file.now;
  stands = c.requires;
  name_is = refl;
  near = rw (c.as_str-step.ensures, c.name-name.ensures) at
      (c.in_ok-is_near.ensures.0 c.if-branch.true);
  unclaimed = λ claimed. (let is : c.is_claimed.result ≡ true = c.is_claimed.ensures.1
      (rw (c.as_str-step.ensures, c.name-name.ensures) claimed) in cc (is, c.if-is_claimed.false));
})
