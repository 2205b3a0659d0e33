-- Answers about the places of a layout: a value where none has a refusal, or the first refusal.
-- Nothing here is trusted.
use Rattle.std.specs.Prelude.{List, Result, Ok, Err, ⊤}
use Rattle.it_base.specs.Places.{IsFirst, NoneAt}
use Rattle.it_chain.specs.declared.refusal.ChainError.{ChainError}
use Rattle.it_chain.specs.declared.refusal.ChainError.TheVariants.{Refused, OutOfMemory}
use Rattle.it_chain.specs.declared.refusal.ChainRefusal.{ChainRefusal}

-- an error: the first refusal at the places, or that memory was refused
abbrev pub FailsAt : {P : Type 0} → (P → ChainRefusal → Type 0) → List P → ChainError → Type 0
FailsAt At ps (Refused refusal) = IsFirst At ps refusal
FailsAt At ps OutOfMemory = ⊤

-- a value for which G holds, with no refusal at the places, or an error at them
abbrev pub Walks : {A P : Type 0} → (P → ChainRefusal → Type 0) → List P → (A → Type 0)
    → Result A ChainError → Type 0
Walks At ps G (Ok x) = NoneAt At ps × G x
Walks At ps G (Err e) = FailsAt At ps e
