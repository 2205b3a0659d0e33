use Rattle.std.proofs.Common.{length, length-append, ap, ◌∙◌, arith}
use Rattle.it_glob.specs.Pattern.{front_of, items_of}
use Rattle.it_glob.proofs.Fronts.{split_at_front}
use Rattle.it_glob.proofs.front.front_len.Goals as goal

pub len_of_front-requires : goal.len_of_front-requires
len_of_front-requires c =
    let parts = split_at_front c.args.text.now c.utf8.text in
    rw c.requires (omega (
      arith,
      ap length parts.2,
      length-append (front_of (items_of c.args.text.now)) parts.0,
    ))

pub returns : goal.returns
returns c = c.len_of_front.ensures ∙ ap (λ l. length (front_of l)) c.requires
