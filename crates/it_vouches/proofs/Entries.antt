-- How far a leaf comes by entries, one after another.
use Rattle.std.proofs.Common.{◌≡◌, ℕ, ◌+◌, ◌<◌, ◌≤◌, List, [], length, get_or, take, inl, inr, refl, sym, subst, arith}
use Rattle.std.proofs.lemmas.List.{take_all}
use Rattle.std.proofs.lemmas.List.Elements.{All-more}
use Rattle.it_vouches.specs.Furthest.{IsMissedByOne}
use Rattle.it_vouches.specs.declared.attestation.Attestation.{Attestation}
use Rattle.it_vouches.specs.declared.attestation.Attestation.TheVariants.{Attested, NoEntry, NoIssuer, NoLog}
use Rattle.it_vouches.specs.inside.Further.{IsFurther}
use Rattle.it_vouches.specs.inside.Shows.{AllShow, ComesFurthest, ComesUpTo, attestation_place}
use Rattle.it_vouches.proofs.Furthest.{front, missed_last}

pub comes_first : {X : Type 0} (Shows : X → Attestation → Type 0) → ComesFurthest Shows [] NoEntry
comes_first Shows = record { shown = inl refl; each = λ k d low. absurd (omega (arith, low)) }

-- one entry more
raised : {X : Type 0} (Shows : X → Attestation → Type 0) (old new : Attestation) (x : X) → attestation_place old ≤ attestation_place new
    → ComesUpTo Shows old x → ComesUpTo Shows new x
raised Shows old new x more up =
    record { shown = up.shown; is = up.is; up_to = (let low = up.up_to in omega (arith, low, more)) }

pub comes_next : {X : Type 0} (Shows : X → Attestation → Type 0) (xs : List X) (i : ℕ) (x : X) (old found new : Attestation) → i < length xs
    → x ≡ get_or xs i x → ComesFurthest Shows (take i xs) old → Shows x found → IsFurther attestation_place old found new
    → ComesFurthest Shows (take (i + 1) xs) new
comes_next {X = X} Shows xs i x old found new below here before is further = record {
  shown =
      subst (λ (l : List X). IsMissedByOne NoEntry Shows l new) (sym (front xs i x below here))
      (missed_last NoEntry Shows (take i xs) x old new found before.shown is further.is_either);
  each =
      All-more (ComesUpTo Shows new) xs i x below
      (λ k d low. raised Shows old new (get_or (take i xs) k d) further.up_to_one (before.each k d low))
      (subst (ComesUpTo Shows new) here (record { shown = found; is = is; up_to = further.up_to_other }));
}

-- all of them
all_show : {X : Type 0} (Shows : X → Attestation → Type 0) (xs : List X) (found : Attestation) → ComesFurthest Shows xs found
    → AllShow Shows xs found
all_show Shows xs NoEntry comes = comes
all_show Shows xs (NoLog s) comes = comes
all_show Shows xs (NoIssuer s) comes = comes
all_show Shows xs (Attested time) comes =
    elim comes.shown [
      | inl e ↦ absurd (cc)
      | inr any ↦ any
    ]

pub comes_all : {X : Type 0} (Shows : X → Attestation → Type 0) (xs : List X) (i : ℕ) (found : Attestation) → length xs ≤ i
    → ComesFurthest Shows (take i xs) found → AllShow Shows xs found
comes_all {X = X} Shows xs i found end comes =
    all_show Shows xs found (subst (λ (l : List X). ComesFurthest Shows l found) (take_all i xs end) comes)
