use Rattle.std.proofs.Common.{◌≡◌, ◌++◌, ◌%◌, ℕ, List, take, ap, ◌∙◌, append_assoc}
use Rattle.std.proofs.lemmas.List.{take_all}
use Rattle.sha2.specs.Sha512.{sha512}
use Rattle.it_numbers.specs.Bytes.{little}
use Rattle.it_ed_scalar.specs.Order.{order}
use Rattle.it_message.specs.Message.{joined}
use Rattle.it_message.proofs.Parts.{one_part_more}
use Rattle.it_ed25519.specs.Signature.{challenge_of}
use Rattle.it_ed25519.proofs.challenge.challenge.Goals as goal

pub loop-part-preserved : goal.loop-part-preserved
loop-part-preserved c =
    rw (
      one_part_more c.args.message.now c.loop-part.part-index c.loop-part-test.true,
      ← append_assoc,
    )
    (c.update-in-loop-part.ensures _ c.loop-part.invariant)

pub returns : goal.returns
unfolding challenge_of
returns c =
    let whole : joined (take c.loop-part.part-index c.args.message.now) ≡ joined c.args.message.now =
    ap joined (take_all c.loop-part.part-index c.args.message.now c.loop-part-test.false) in
    c.reduce.ensures ∙ ap (λ (bytes : List ℕ). little bytes % order) (c.finalize.ensures _ c.loop-part.invariant)
    ∙ ap (λ (m : List ℕ). little (sha512 (c.args.r.now ++ c.args.key.now ++ m)) % order) whole
