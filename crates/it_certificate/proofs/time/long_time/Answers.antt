use Rattle.it_certificate.proofs.Times.{long_found}
use Rattle.it_certificate.proofs.time.long_time.Goals as goal

pub returns : goal.returns
returns c =
    long_found c.args.content.now c.in_ok-century.century c.in_ok-digits.digits c.after_year.result c.if-content-lt4.false
    c.in_ok-century.ensures c.in_ok-digits.ensures (rw (c.from.ensures, c.from-2.ensures) at c.if-year-lt2050.false)
    (rw (c.from.ensures, c.from-2.ensures) at c.after_year.ensures)
