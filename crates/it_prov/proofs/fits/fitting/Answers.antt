use Rattle.std.proofs.Common.{rules}
use Rattle.std.proofs.lemmas.Iterator.{IsFirst-from_position, YieldsList-from_slice}
use Rattle.it_prov.specs.Fits.{SpeaksOf}
use Rattle.it_prov.proofs.Fitting.{fits_found}
use Rattle.it_prov.proofs.fits.fitting.Goals as goal

pub returns : goal.returns
returns c =
    let path = c.args.path.now in
    fits_found path c.args.expectations.now c.position.result
    (IsFirst-from_position _ _ c.position.result (SpeaksOf path) (λ e. ¬ SpeaksOf path e)
    c.position.ensures.ran (YieldsList-from_slice c.args.expectations.now cc)
    (λ x q k. search rules) (λ x q k. search rules))
