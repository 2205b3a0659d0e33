use Rattle.std.proofs.Common.{◌≡◌, [], drop}
use Rattle.it_dsse.specs.Meter.{raised}
use Rattle.it_dsse.specs.Vouched.{is_vouched_by, tries_by}
use Rattle.it_public_keys.specs.inside.Questions.{check_of}
use Rattle.it_public_keys.proofs.memory.Memory.any_answered.Given as goal

-- the answer and the count are those of the signatures that are left
abbrev pub invariant-loop-signature : goal.invariant-loop-signature
invariant-loop-signature l =
    let check = check_of l.question in
    let left = drop l.signature-index l.signatures in
    record {
      found : is_vouched_by check l.id 0 [] left ≡ is_vouched_by check l.id 0 [] l.signatures;
      counted : raised l.meter (tries_by check l.id 0 [] left)
          ≡ raised l.fn.meter (tries_by check l.id 0 [] l.signatures);
    }
