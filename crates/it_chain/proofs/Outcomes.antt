-- Answers that speak of places: a value where nothing stands at them, or what stands first.
use Rattle.std.proofs.Common.{List, ◌++◌, Result, Ok, Err}
use Rattle.it_base.specs.Places.{IsFirst, NoneAt}
use Rattle.it_base.proofs.Firsts.{first_before, first_behind, none_append}
use Rattle.it_chain.specs.Answer.{◌>>=◌}
use Rattle.it_chain.specs.declared.refusal.ChainRefusal.{ChainRefusal}

module _ {P : Type 0} (At : P → ChainRefusal → Type 0) where
  -- the answer is a value of which G holds, and nothing stands at the places, or it is what stands
  -- first
  abbrev pub Tells : {A : Type 0} → List P → (A → Type 0) → Result A ChainRefusal → Type 0
  Tells ps G (Ok x) = NoneAt At ps × G x
  Tells ps G (Err refusal) = IsFirst At ps refusal

  pub tells_behind : {A : Type 0} (ps qs : List P) (G : A → Type 0) (a : Result A ChainRefusal)
      → NoneAt At ps → Tells qs G a → Tells (ps ++ qs) G a
  tells_behind ps qs G (Ok x) none h = (none_append At ps qs none h.0, h.1)
  tells_behind ps qs G (Err refusal) none h = first_behind At ps qs refusal none h

  -- an answer and then another of the places that follow
  pub tells_then : {A B : Type 0} (ps qs : List P) (G : A → Type 0) (H : B → Type 0)
      (a : Result A ChainRefusal) (f : A → Result B ChainRefusal)
      → Tells ps G a → ((x : A) → NoneAt At ps → G x → Tells qs H (f x))
      → Tells (ps ++ qs) H (a >>= f)
  tells_then ps qs G H (Ok x) f h next = tells_behind ps qs H (f x) h.0 (next x h.0 h.1)
  tells_then ps qs G H (Err refusal) f h next = first_before At ps qs refusal h

  -- the same answer with something else made of its value
  pub tells_made : {A B : Type 0} (ps : List P) (G : A → Type 0) (H : B → Type 0)
      (a : Result A ChainRefusal) (f : A → B)
      → Tells ps G a → ((x : A) → NoneAt At ps → G x → H (f x)) → Tells ps H (a >>= (λ x. Ok (f x)))
  tells_made ps G H (Ok x) f h made = (h.0, made x h.0 h.1)
  tells_made ps G H (Err refusal) f h made = h

  pub tells_weaker : {A : Type 0} (ps : List P) (G H : A → Type 0) (a : Result A ChainRefusal)
      → ((x : A) → G x → H x) → Tells ps G a → Tells ps H a
  tells_weaker ps G H (Ok x) f h = (h.0, f x h.1)
  tells_weaker ps G H (Err refusal) f h = h
