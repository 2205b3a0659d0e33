use Rattle.std.proofs.Common.{◌∙◌, List, ℕ, Bor, true, get_or, ap, sym, refl}
use Rattle.it_certificate.specs.Extension.{extension_elements}
use Rattle.it_certificate.proofs.Tags.{differs, agrees, three_is}
use Rattle.it_certificate.proofs.Stating.{as_critical, other_boolean, critical_is}
use Rattle.it_certificate.proofs.extension.critical_in.Goals as goal

pub returns-in_default : goal.returns-in_default
returns-in_default c = λ id value is.
    let none = rw c.in_default.is at c.in_ok-contents.ensures in
    none (extension_elements true id value) is refl

pub returns-then-ne : goal.returns-then-ne
returns-then-ne c =
    let read = rw c.in-Some.is at c.in_ok-contents.ensures in
    let xs = c.in-Some.contents.items in
    let d = c.index.result.now in
    other_boolean c.args.content.now (get_or xs 0 d).now (get_or xs 1 d).now (get_or xs 2 d).now
    (as_critical xs d c.args.content.now read.0 read.1)
    (λ same. differs d.now c.as_slice.result.now c.ne.result c.ne.ensures c.if-ne.true
    (ap (λ (b : Bor (List ℕ)). b.now) c.index.ensures ∙ same ∙ sym c.as_slice.ensures))

pub returns : goal.returns
returns c =
    let read = rw c.in-Some.is at c.in_ok-contents.ensures in
    let xs = c.in-Some.contents.items in
    critical_is c.args.content.now xs c.index-2.result.now c.index.result.now c.index-3.result.now
    (three_is xs c.index-2.result.now c.index.result.now c.index-3.result.now read.0 c.index-2.ensures c.index.ensures c.index-3.ensures)
    read.1
    (agrees c.index.result.now.now c.as_slice.result.now c.ne.result c.ne.ensures c.if-ne.false ∙ c.as_slice.ensures)
