use Rattle.std.proofs.Common.{arith, ◌≡◌}
use Rattle.std.proofs.lemmas.Int.{ints}
use Rattle.it_certificate.proofs.Times.{text_from_numbers, date_from_numbers}
use Rattle.it_certificate.proofs.time.after_year.Goals as goal

pub returns-in_err-days : goal.returns-in_err-days
returns-in_err-days c = rw c.from_residual-in_err-days.ensures
    (λ moment is. (rw c.in_err-days.was at c.day_number.ensures)
    is.date (date_from_numbers c.args.year c.args.text.now moment is c.in_ok-month.month c.in_ok-day.day
    c.in_ok-month.ensures c.in_ok-day.ensures))

pub returns : goal.returns
returns c =
    let text = text_from_numbers c.args.text.now c.in_ok-month.month c.in_ok-day.day c.in_ok-hour.hour c.in_ok-minute.minute
    c.in_ok-second.second (omega arith) (omega arith)
    c.in_ok-month.ensures c.in_ok-day.ensures c.in_ok-hour.ensures c.in_ok-minute.ensures c.in_ok-second.ensures in
    let days = c.in_ok-days.ensures in
    let seconds = c.in_ok-seconds.ensures in
    let month : days.0.month ≡ c.in_ok-month.month = omega (arith, ints, days.1.1) in
    let day : days.0.day ≡ c.in_ok-day.day = omega (arith, ints, days.1.2) in
    record {
      date = days.0;
      hour = c.in_ok-hour.hour;
      minute = c.in_ok-minute.minute;
      second = c.in_ok-second.second;
      year_is = days.1.0;
      text_is = rw (month, day) text;
      hour_in = seconds.0;
      minute_in = seconds.1;
      second_in = seconds.2;
      number_is = let bound = days.2 in let value = days.3 in let widened = c.from.ensures in
          let number = seconds.3 in omega (arith, ints, bound, value, widened, number);
    }
