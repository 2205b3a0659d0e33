use Rattle.it_certificate.proofs.Times.{short_found}
use Rattle.it_certificate.proofs.time.short_time.Goals as goal

pub returns : goal.returns
returns c =
    short_found c.args.content.now c.in_ok-digits.digits c.after_year.result c.if-content-lt2.false c.in_ok-digits.ensures
    (rw c.year_of.ensures at c.after_year.ensures)
