use Rattle.it_prov.proofs.Fitting.{fits_by_pattern}
use Rattle.it_prov.proofs.attestations.Attestations.fitting.Goals as goal

pub returns : goal.returns
returns g c = fits_by_pattern c.args.path.now c.args.self.now.expectations.now c.first_match.result
    (rw c.args.self.now.patterns_are at c.first_match.ensures)
