use Rattle.it_root_notes.proofs.UsedAuthority.{vouches_by_used_authority}
use Rattle.it_root_notes.proofs.laws.vouches_by_used_authority.Goals as goal

pub returns : goal.returns
returns c = vouches_by_used_authority
