use Rattle.std.proofs.Common.{ap, ◌∙◌, length, length-take-le, lit<, refl}
use Rattle.it_base.specs.HexadecimalText.{hexadecimal_decoded}
use Rattle.it_digest.specs.DigestSet.{in_sha256, in_sha512}
use Rattle.it_digest.proofs.SumsLemmas.{cut_read, no_digest}
use Rattle.it_digest.proofs.sums.split_digest.Goals as goal

pub read_digits-requires : goal.read_digits-requires
read_digits-requires c =
    let cut = c.in_ok-digits-in-Sha256.ensures in (
      lit< tt,
      ap length c.as_slice.ensures ∙ ap length cut.cases.0
          ∙ length-take-le 64 c.args.line.now (cut.variant.0 refl),
    )

pub read_digits-requires-in-Sha512 : goal.read_digits-requires-in-Sha512
read_digits-requires-in-Sha512 c =
    let cut = c.in_ok-digits-in-Sha512.ensures in (
      lit< tt,
      ap length c.as_slice-in-Sha512.ensures ∙ ap length cut.cases.0
          ∙ length-take-le 128 c.args.line.now (cut.variant.0 refl),
    )

pub returns-in_err-digest-in-Sha256 : goal.returns-in_err-digest-in-Sha256
returns-in_err-digest-in-Sha256 c =
    rw (c.in-Sha256.is, c.from_residual-in_err-digest-in-Sha256.ensures)
    (no_digest in_sha256 _ _ c.in_ok-digits-in-Sha256.ensures.cases.0
    (c.in_err-digest-in-Sha256.ensures ∙ ap hexadecimal_decoded c.as_slice.ensures))

pub returns-in_err-digest-in-Sha512 : goal.returns-in_err-digest-in-Sha512
returns-in_err-digest-in-Sha512 c =
    rw (c.in-Sha512.is, c.from_residual-in_err-digest-in-Sha512.ensures)
    (no_digest in_sha512 _ _ c.in_ok-digits-in-Sha512.ensures.cases.0
    (c.in_err-digest-in-Sha512.ensures ∙ ap hexadecimal_decoded c.as_slice-in-Sha512.ensures))

pub returns-in_ok-digest-in-Sha256 : goal.returns-in_ok-digest-in-Sha256
returns-in_ok-digest-in-Sha256 c =
    let cut = c.in_ok-digits-in-Sha256.ensures in
    rw (c.in-Sha256.is, c.of_sha256.ensures) (cut_read in_sha256 _ _ _ _ cut.cases.0 cut.cases.1
    (cut.variant.0 refl)
    (c.in_ok-digest-in-Sha256.ensures ∙ ap hexadecimal_decoded c.as_slice.ensures))

pub returns-in_ok-digest-in-Sha512 : goal.returns-in_ok-digest-in-Sha512
returns-in_ok-digest-in-Sha512 c =
    let cut = c.in_ok-digits-in-Sha512.ensures in
    rw (c.in-Sha512.is, c.of_sha512.ensures) (cut_read in_sha512 _ _ _ _ cut.cases.0 cut.cases.1
    (cut.variant.0 refl)
    (c.in_ok-digest-in-Sha512.ensures ∙ ap hexadecimal_decoded c.as_slice-in-Sha512.ensures))
