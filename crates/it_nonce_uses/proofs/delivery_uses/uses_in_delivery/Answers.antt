use Rattle.std.proofs.Common.{◌∙◌, ◌++◌, ap}
use Rattle.it_nonce_uses.proofs.delivery_uses.uses_in_delivery.Goals as goal

pub returns : goal.returns
returns g c =
    let owners = c.in_ok-uses.uses.items in
    let of_layout = c.in_ok-of_layout.of_layout.items in
    let below = c.in_ok-of_sublayouts.of_sublayouts.items in
    record {
      of_owners = owners;
      of_layout = of_layout;
      of_sublayouts = below;
      owners = c.in_ok-uses.ensures;
      layout = c.in_ok-of_layout.ensures;
      below = c.in_ok-of_sublayouts.ensures;
      uses_are = c.in_ok-append-2.ensures.items
          ∙ ap (λ front. front ++ below) c.in_ok-append.ensures.items;
    }
