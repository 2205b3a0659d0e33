use Rattle.std.proofs.Common.{◌∙◌, List, ℕ, Bor, get_or, ap, sym, refl, arith}
use Rattle.std.proofs.lemmas.List.{nil_from_length}
use Rattle.it_der.proofs.Lengths.{no_bytes, some_bytes}
use Rattle.it_certificate.specs.Parts.{signed_elements}
use Rattle.it_certificate.proofs.Tags.{differs, agrees, as_eight, eight_is, signed_read}
use Rattle.it_certificate.proofs.Tags.{other_version, no_serial, not_none}
use Rattle.it_certificate.proofs.signed.signed_in.Goals as goal

pub returns-in_default : goal.returns-in_default
returns-in_default c = λ p is.
    let none = rw c.in_default.is at c.in_ok-contents.ensures in
    none (signed_elements p) is.elements refl

pub returns-then-ne : goal.returns-then-ne
returns-then-ne c =
    let read = rw c.in-Some.is at c.in_ok-contents.ensures in
    let xs = c.in-Some.contents.items in
    let d = c.index.result.now in
    other_version c.args.content.now (get_or xs 0 d).now (get_or xs 1 d).now (get_or xs 2 d).now (get_or xs 3 d).now
    (get_or xs 4 d).now (get_or xs 5 d).now (get_or xs 6 d).now (get_or xs 7 d).now
    (as_eight xs d c.args.content.now read.0 read.1)
    (λ same. differs d.now c.as_slice.result.now c.ne.result c.ne.ensures c.if-ne.true
    (ap (λ (b : Bor (List ℕ)). b.now) c.index.ensures ∙ same ∙ sym c.as_slice.ensures))

pub returns-then-is_empty : goal.returns-then-is_empty
returns-then-is_empty c =
    let read = rw c.in-Some.is at c.in_ok-contents.ensures in
    let xs = c.in-Some.contents.items in
    let d = c.index-2.result.now in
    no_serial c.args.content.now (get_or xs 0 d).now (get_or xs 1 d).now (get_or xs 2 d).now (get_or xs 3 d).now
    (get_or xs 4 d).now (get_or xs 5 d).now (get_or xs 6 d).now (get_or xs 7 d).now
    (as_eight xs d c.args.content.now read.0 read.1)
    (ap (λ (b : Bor (List ℕ)). b.now) (sym c.index-2.ensures)
    ∙ nil_from_length d.now (no_bytes d.now c.is_empty.result c.is_empty.ensures c.if-is_empty.true))

pub returns : goal.returns
returns c =
    let read = rw c.in-Some.is at c.in_ok-contents.ensures in
    let xs = c.in-Some.contents.items in
    let long = read.0 in
    record {
      serial_some = not_none xs c.index-2.result.now c.index-3.result.now (omega arith) c.index-2.ensures c.index-3.ensures
          (some_bytes c.index-2.result.now.now c.is_empty.result c.is_empty.ensures c.if-is_empty.false);
      elements = signed_read c.args.content.now xs c.index.result.now c.index-3.result.now c.index-4.result.now c.index-5.result.now
          c.index-6.result.now c.index-7.result.now c.index-8.result.now c.index-9.result.now
          (eight_is xs c.index.result.now c.index-3.result.now c.index-4.result.now c.index-5.result.now
          c.index-6.result.now c.index-7.result.now c.index-8.result.now c.index-9.result.now read.0
          c.index.ensures c.index-3.ensures c.index-4.ensures c.index-5.ensures c.index-6.ensures c.index-7.ensures
          c.index-8.ensures c.index-9.ensures) read.1
          (agrees c.index.result.now.now c.as_slice.result.now c.ne.result c.ne.ensures c.if-ne.false ∙ c.as_slice.ensures);
    }
