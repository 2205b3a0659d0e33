use Rattle.std.proofs.Common.{refl}
use Rattle.it_log_entry.specs.Stamp.{stamp_text}
use Rattle.it_log_entry.proofs.stamp.stamp.Goals as goal

pub returns : goal.returns
unfolding stamp_text
returns c =
    rw (
      c.in_ok-push-9.ensures,
      c.in_ok-push-8.ensures,
      c.as_str-4.ensures.value,
      c.in_ok-index.ensures,
      c.in_ok-push-7.ensures,
      c.in_ok-push-6.ensures,
      c.as_str-3.ensures.value,
      c.in_ok-log_id.ensures,
      c.as_slice-2.ensures,
      c.in_ok-push-5.ensures,
      c.in_ok-push-4.ensures,
      c.as_str-2.ensures.value,
      c.in_ok-time.ensures,
      c.in_ok-push-3.ensures,
      c.in_ok-push-2.ensures,
      c.as_str.ensures.value,
      c.in_ok-body.ensures.text,
      c.as_slice.ensures,
      c.in_ok-push.ensures,
      c.new-text.ensures.items,
    ) refl
