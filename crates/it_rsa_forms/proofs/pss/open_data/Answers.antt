use Rattle.std.proofs.Common.{◌∙◌, ap, arith}
use Rattle.it_rsa.proofs.Masks.{low_bits_set}
use Rattle.it_rsa.specs.Encoding.{with_low_bits}
use Rattle.it_rsa_forms.proofs.pss.open_data.Goals as goal

pub returns : goal.returns
returns c = low_bits_set c.unmask.new.bytes 7 (omega arith) ∙ ap (with_low_bits 7) c.unmask.ensures
