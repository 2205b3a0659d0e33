-- What is found of one relation, where it is found of another.
use Rattle.std.proofs.Common.{Option, Some, None}
use Rattle.it_base.specs.Finds.{FindsAs}

pub found_as : {X Y : Type 0} (shown : X → Y) (P Q : Y → Type 0) → ((y : Y) → P y → Q y) → ((y : Y) → Q y → P y)
    → (found : Option X) → FindsAs shown P found → FindsAs shown Q found
found_as shown P Q to from None none = λ y q. none y (from y q)
found_as shown P Q to from (Some x) p = to (shown x) p
