use Rattle.std.proofs.Common.{ap, ◌∙◌}
use Rattle.std.specs.Result.{result_ok}
use Rattle.hex.proofs.HexLemmas.{decode_sized-twice}
use Rattle.it_base.specs.HexadecimalText.{hexadecimal_decoded}
use Rattle.it_digest.proofs.sums.read_digits.Goals as goal

pub returns : goal.returns
unfolding hexadecimal_decoded
returns g c = c.ok.ensures.value
    ∙ ap result_ok (c.from_hex.ensures ∙ decode_sized-twice _ _ c.requires)
