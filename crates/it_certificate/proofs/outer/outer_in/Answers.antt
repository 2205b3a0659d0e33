use Rattle.std.proofs.Common.{◌∙◌, List, ℕ, Bor, length, get_or, ap, sym, refl}
use Rattle.it_der.proofs.Lengths.{no_bytes}
use Rattle.it_certificate.specs.Parts.{outer_elements}
use Rattle.it_certificate.proofs.Tags.{as_three, no_signature, bits_left}
use Rattle.it_certificate.proofs.outer.outer_in.Goals as goal

pub returns-in_default : goal.returns-in_default
returns-in_default c = λ signed algorithm signature is.
    let none = rw c.in_default.is at c.in_ok-contents.ensures in
    none (outer_elements signed algorithm signature) is refl

pub returns-then-is_empty : goal.returns-then-is_empty
returns-then-is_empty c =
    let read = rw c.in-Some.is at c.in_ok-contents.ensures in
    let xs = c.in-Some.contents.items in
    let d = c.index-bits.result.now in
    no_signature c.args.content.now (get_or xs 0 d).now (get_or xs 1 d).now (get_or xs 2 d).now
    (as_three xs d c.args.content.now read.0 read.1)
    (ap (λ (b : Bor (List ℕ)). length b.now) (sym c.index-bits.ensures)
    ∙ no_bytes d.now c.is_empty.result c.is_empty.ensures c.if-is_empty.true)

pub returns-then-bits-ne0 : goal.returns-then-bits-ne0
returns-then-bits-ne0 c =
    let read = rw c.in-Some.is at c.in_ok-contents.ensures in
    let xs = c.in-Some.contents.items in
    let d = c.index-bits.result.now in
    bits_left c.args.content.now (get_or xs 0 d).now (get_or xs 1 d).now (get_or xs 2 d).now
    (as_three xs d c.args.content.now read.0 read.1)
    (λ zero. c.if-bits-ne0.true (ap (λ (b : Bor (List ℕ)). get_or b.now 0 0) c.index-bits.ensures ∙ zero))
