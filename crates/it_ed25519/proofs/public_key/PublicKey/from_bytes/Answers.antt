use Rattle.it_ed25519.proofs.Keys.{key_held}
use Rattle.it_ed25519.proofs.public_key.PublicKey.from_bytes.Goals as goal

pub invariant_of-result : goal.invariant_of-result
invariant_of-result c = (
  key_held c.args.bytes.now c.in-Some.point _ _ _ c.told-bytes c.decode.ensures c.in-Some.is c.is_small_order.ensures
      c.if-is_small_order.false c.negate.ensures,
  tt,
)
