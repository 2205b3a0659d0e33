use Rattle.std.proofs.Common.{arith, ◌≡◌, ◌∙◌, ap, to_z, of_z, w64}
use Rattle.std.proofs.lemmas.Int.{ints}
use Rattle.jiff.specs.Words.{epoch_day}
use Rattle.it_calendar.proofs.day.day_number.Goals as goal

pub returns-in-Ok : goal.returns-in-Ok
returns-in-Ok c =
    let ymd = c.in-Ok.ensures.value in
    let bound = c.to_unix_epoch_day.ensures.bound in
    let value = c.to_unix_epoch_day.ensures.value ∙ ap epoch_day c.to_plain.ensures in
    let widened = c.from.ensures in (
      c.in-Ok.date,
      (omega (arith, ints, ymd.0), omega (arith, ints, ymd.1), omega (arith, ints, ymd.2)),
      (omega (arith, ints, bound, widened), omega (arith, ints, bound, widened)),
      let same : c.from.result ≡ c.to_unix_epoch_day.result = omega (arith, ints, bound, widened) in
          let again : to_z w64 (of_z w64 c.from.result) ≡ c.from.result =
          omega (arith, ints, bound, widened) in
          again ∙ same ∙ value,
    )
