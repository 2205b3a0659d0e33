-- What a bundle brings, as it is read. Nothing here is trusted.
use Rattle.it_vouches.specs.Claim.{Brought}
use Rattle.it_vouches.specs.declared.claim.Claim.{Claim}

abbrev pub brought_of : Claim → Brought
brought_of claim = record {
  signature = claim.signature.now;
  certificate = claim.certificate.now;
  entries = claim.entries.now;
}
