use Rattle.std.proofs.Common.{◌+◌, ◌-◌, length, arith, refl, rules}
use Rattle.it_public_keys.specs.KeyNames.{zeros}
use Rattle.it_public_keys.proofs.Names.{name_laid}
use Rattle.it_public_keys.proofs.name.name_of.Goals as goal

pub returns : goal.returns
unfolding zeros
returns c =
    name_laid c.args.kind c.args.bytes.now c.copy_from_slice.new.self _
    (3 + length c.args.bytes.now - 3) (search rules) refl (omega arith)
