use Rattle.std.proofs.Common.{ap, arith, ◌∙◌, ◌+◌, Contains, None, inl, inr, sym, subst, take, length}
use Rattle.std.proofs.lemmas.List.{take_all}
use Rattle.std.proofs.lemmas.Option.{same_Some}
use Rattle.it_glob.specs.Pattern.{Matches, front_of, items_of}
use Rattle.it_glob.proofs.Fronts.{matching_begins}
use Rattle.it_pattern_index.specs.inside.Listed.{IsMeasured, texts_of}
use Rattle.it_pattern_index.proofs.Narrowing.{IsAskedBy, narrowed_all, narrowed_by}
use Rattle.it_pattern_index.proofs.Narrowing.{narrowed_then, next_or_before}
use Rattle.it_pattern_index.proofs.index.PatternIndex.first_match.Goals as goal

pub loop-len-init : goal.loop-len-init
loop-len-init c =
    let texts = texts_of c.self.inside.patterns.items in
    let path = c.args.path.now in
    narrowed_by texts path (Contains c.under-itself.result.now) _ None c.earlier_among-first.result
    (rw (← c.as_slice-patterns.ensures.value) c.earlier_among-first.ensures)
    (λ place asked matches.
    let front = front_of (items_of asked.0) in
    let matched : Matches (items_of asked.0) path = subst (λ t. Matches (items_of t) path)
    (same_Some matches.pattern asked.0 (sym matches.stands ∙ asked.1)) matches.matches in
    elim asked.2 [
      | inl plain ↦
          let whole = plain.whole ∙ sym (plain.alone path c.utf8.path matched) in
          c.under-itself.ensures front
          (rw c.as_bytes.ensures.value (matching_begins (items_of asked.0) path c.utf8.path matched))
          (ap length whole) place (c.self.invariant place asked.0 asked.1).under
      | inr known ↦ let below = known.1 in absurd (omega (arith, below))
    ])

pub loop-len-preserved : goal.loop-len-preserved
loop-len-preserved c =
    let texts = texts_of c.self.inside.patterns.items in
    let path = c.args.path.now in
    let lengths = c.as_slice-len-items.result.now in
    let i = c.loop-len.len-index in
    narrowed_then texts path (IsAskedBy texts (take i lengths))
    (Contains c.under-places.result.now) (IsAskedBy texts (take (i + 1) lengths)) None
    c.loop-len.first c.earlier_among-first-in-loop-len.result c.loop-len.invariant
    (rw (← c.as_slice-patterns.ensures.value) c.earlier_among-first-in-loop-len.ensures)
    (λ place asked matches.
    let front = front_of (items_of asked.0) in
    let matched : Matches (items_of asked.0) path = subst (λ t. Matches (items_of t) path)
    (same_Some matches.pattern asked.0 (sym matches.stands ∙ asked.1)) matches.matches in
    elim asked.2 [
      | inl plain ↦ inl (asked.0, asked.1, inl plain)
      | inr known ↦ elim (next_or_before lengths i 0 (length front) c.loop-len-test.true known) [
        | inl before ↦ inl (asked.0, asked.1, inr before)
        | inr here ↦ inr (c.under-places.ensures front
            (rw c.as_bytes-in-loop-len.ensures.value
            (matching_begins (items_of asked.0) path c.utf8.path matched))
            (sym here) place (c.self.invariant place asked.0 asked.1).under)
      ]
    ])

pub returns : goal.returns
returns c =
    let texts = texts_of c.self.inside.patterns.items in
    let lengths = c.as_slice-len-items.result.now in
    let i = c.loop-len.len-index in
    rw (← c.self.view_is) (narrowed_all texts c.args.path.now (IsAskedBy texts (take i lengths))
    c.loop-len.first c.loop-len.invariant
    (λ place matches. (
      matches.pattern,
      matches.stands,
      subst (λ ls. IsMeasured ls matches.pattern)
          (sym c.as_slice-len-items.ensures.value ∙ sym (take_all i lengths c.loop-len-test.false))
          (c.self.invariant place matches.pattern matches.stands).measured,
    )))
