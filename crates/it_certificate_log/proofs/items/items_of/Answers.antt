use Rattle.std.proofs.Common.{map, Bor, List, ℕ}
use Rattle.std.specs.declared.alloc.Global.{Global}
use Rattle.std.specs.declared.vec.Vec.{Vec}
use Rattle.it_certificate.proofs.Within.{in_element_if_ok}
use Rattle.it_certificate_log.specs.Items.{IsCountedList}
use Rattle.it_certificate_log.proofs.items.items_of.Goals as goal

pub returns-in-Some : goal.returns-in-Some
returns-in-Some c =
    in_element_if_ok (λ (v : Vec (Bor (List ℕ)) Global). map (λ (i : Bor (List ℕ)). i.now) v.items) IsCountedList
    c.args.value.now 4 c.in-Some.content.now c.counted_items.result c.in-Some.ensures c.counted_items.ensures
