-- What is said where a test holds.
use Rattle.std.proofs.Common.{◌↔◌, List, Bool, IsTrue, Result, Ok, Err, inl, inr, ⊎_elim}
use Rattle.std.specs.Result.{IfOk}
use Rattle.std.specs.declared.alloc.Global.{Global}
use Rattle.std.specs.declared.vec.Vec.{Vec}
use Rattle.it_findings.specs.Joined.{Said}

-- what is said where one thing holds is said where another holds that is the same
pub said_of : {A B F : Type 0} (finding : F) (found : List F) → A ↔ B → Said A finding found
    → Said B finding found
said_of finding found same said =
    ⊎_elim (λ s. inl (same.0 s.0, s.1)) (λ n. inr (λ b. n.0 (same.1 b), n.1)) said

-- the same of a result, where a test decides what holds
pub said_where : {B F E : Type 0} (test : Bool) (finding : F) (result : Result (Vec F Global) E)
    → IsTrue test ↔ B → IfOk result (λ found. Said (IsTrue test) finding found.items)
    → IfOk result (λ found. Said B finding found.items)
said_where test finding (Ok found) same said = said_of finding found.items same said
said_where test finding (Err e) same said = tt
