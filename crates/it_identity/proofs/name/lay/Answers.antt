use Rattle.std.proofs.Common.{◌∙◌, ◌+◌, ◌-◌, ◌++◌, length, take, drop, arith, ap, refl, rules}
use Rattle.std.proofs.lemmas.List.{take_all}
use Rattle.std.proofs.lemmas.Slice.{put_mid-paste}
use Rattle.it_identity.proofs.name.lay.Goals as goal

pub returns : goal.returns
returns c =
    let place = c.args.place in
    let text = c.args.text.now in
    let bytes = c.args.bytes.now in
    put_mid-paste place (place + length text - place) bytes c.copy_from_slice.new.self text
    (length text) (search rules) (omega arith) refl
    ∙ ap (λ t. take place bytes ++ t ++ drop (place + length text) bytes)
    (take_all (length text) text (omega arith))
