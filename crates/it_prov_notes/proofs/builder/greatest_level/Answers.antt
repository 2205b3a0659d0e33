use Rattle.std.proofs.Common.{◌≡◌, ◌∙◌, arith, sym, subst, take, take_all, true}
use Rattle.std.proofs.lemmas.Slice.Eq.{bytes_eq-Decides}
use Rattle.it_prov.specs.Best.{IsGreatest}
use Rattle.it_prov_notes.specs.inside.Judged.{HasLevel}
use Rattle.it_prov_notes.proofs.Levels.{higher_more, lower_more}
use Rattle.it_prov_notes.proofs.builder.greatest_level.Goals as goal
use Rattle.it_prov_notes.proofs.builder.greatest_level.Goals.{then-eq, else-eq}

pub loop-builder-preserved : goal.loop-builder-preserved
loop-builder-preserved c =
    let xs = c.args.builders.now in
    let i = c.loop-builder.builder-index in
    let b = c.builder-item.result in
    let below = c.loop-builder-test.true in
    let decides = bytes_eq-Decides c.as_str.result.now c.args.id.now in
    elim c.if-eq.branch [
      | then-eq w ↦
          let same : b.now.id ≡ c.args.id.now = sym c.as_str.ensures
          ∙ decides.0 (sym c.eq.ensures ∙ w.if-eq.true) in
          rw w.greatest-is
          (higher_more c.args.id.now xs i b below c.builder-item.is c.loop-builder.greatest
          c.loop-builder.invariant w.greater.result same w.greater.ensures.one
          w.greater.ensures.level w.greater.ensures.found)
      | else-eq w ↦
          let other : ¬ (b.now.id ≡ c.args.id.now) = λ same. (
          let equal : c.eq.result ≡ true = c.eq.ensures ∙ decides.1 (c.as_str.ensures ∙ same) in
          cc (equal, w.if-eq.false)) in
          rw w.greatest-is
          (lower_more c.args.id.now xs i b below c.builder-item.is c.loop-builder.greatest
          c.loop-builder.invariant other)
    ]

pub returns : goal.returns
returns c =
    let builders = c.args.builders.now in
    let all : take c.loop-builder.builder-index builders ≡ builders =
    take_all c.loop-builder.builder-index builders (omega arith) in
    subst (λ bs. IsGreatest (HasLevel bs c.args.id.now) c.loop-builder.greatest) all
    c.loop-builder.invariant
