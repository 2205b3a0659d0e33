use Rattle.std.proofs.Common.{◌≡◌, ◌≢◌, length, arith, refl, sym, rules}
use Rattle.std.specs.Str.{chars}
use Rattle.std.proofs.lemmas.Bool.Decides.{nat_tests}
use Rattle.std.proofs.lemmas.List.{nil_from_length}
use Rattle.it_glob.specs.Pattern.{MatchesChars}
use Rattle.it_glob.specs.inside.Restarts.{place_of}
use Rattle.it_glob.proofs.Counting.{Spent, spent_none, spent_one, counts_at_star, counts_at_taken}
use Rattle.it_glob.proofs.Counting.{counts_at_restart, counts_bound, counts_least}
use Rattle.it_glob.proofs.Steps.{at_star, at_taken, not_taken, at_restart, at_no_restart, at_end}
use Rattle.it_glob.proofs.Steps.{no_items_left, no_characters, some_characters}
use Rattle.it_glob.specs.declared.item.Item.TheVariants.{Star}
use Rattle.it_glob.proofs.match_items.match_items.Goals as goal
use Rattle.it_glob.proofs.match_items.match_items.Goals.{After-next_try}
use Rattle.it_glob.proofs.match_items.match_items.Goals.{
  in-Some-2+in-Some-split_first_char+else-takes,
}
use Rattle.it_glob.proofs.match_items.match_items.Goals.{in-None+else-is_empty}

-- the items do not match here, and what that took
record Misses (c : After-next_try) : Type 0 where
  no_match : ¬ (MatchesChars c.loop-item.items.now (chars c.loop-item.text.now))
  spent : Spent c.loop-item.items.now c.loop-item.steps c.match-split_first.steps

misses : (c : After-next_try) → Misses c
misses c = elim c.match-split_first.branch [
  | in-Some-2+in-Some-split_first_char+else-takes w ↦
      let plain : w.in-Some.item.now ≢ Star = λ e. let f = w.if-is_star.ensures.1 e in cc in
      record {
        no_match = not_taken w.in-Some.ensures.cases.0 w.in-Some-split_first_char.ensures plain
            (λ t. let f = w.if-takes.ensures.1 t in cc);
        spent = rw w.steps-is
            (spent_one w.in-Some.ensures.cases.0 plain w.saturating_add-steps.ensures);
      }
  | in-None+else-is_empty w ↦ record {
    no_match = no_items_left (nil_from_length _ w.in-None.ensures.cases)
        (some_characters _ c.loop-item.invariant.is_text
        (grind (arith, nat_tests, w.if-is_empty.ensures)));
    spent = rw w.steps-is (spent_none _ _);
  }
]

pub loop-item-preserved-in-Some : goal.loop-item-preserved-in-Some
loop-item-preserved-in-Some c =
    let star = c.if-is_star.ensures.0 refl in
    record {
      is_text = c.loop-item.invariant.is_text;
      stands = at_star c.in-Some.ensures.cases.0 star c.loop-item.invariant.stands;
      counts = counts_at_star c.in-Some.ensures.cases.0 star c.loop-item.invariant.counts;
    }

pub loop-item-preserved-then-takes : goal.loop-item-preserved-then-takes
loop-item-preserved-then-takes c =
    let plain : c.in-Some.item.now ≢ Star = λ e. let f = c.if-is_star.ensures.1 e in cc in
    record {
      is_text = search rules;
      stands = at_taken c.in-Some.ensures.cases.0 c.in-Some-split_first_char.ensures plain
          (c.if-takes.ensures.0 refl) c.loop-item.invariant.stands;
      counts = counts_at_taken c.in-Some.ensures.cases.0 c.in-Some-split_first_char.ensures plain
          c.saturating_add-steps.ensures (omega arith) c.loop-item.invariant.counts;
    }

pub returns-then-is_empty : goal.returns-then-is_empty
returns-then-is_empty c =
    let none : length c.loop-item.text.now ≡ 0 = grind (arith, nat_tests, c.if-is_empty.ensures) in
    let end = nil_from_length _ c.in-None.ensures.cases in
    record {
      answer = (λ _. at_end end (no_characters _ none) c.loop-item.invariant.stands, λ _. refl);
      at_most = counts_bound (spent_none _ _) c.loop-item.invariant.counts;
      at_least = λ _. counts_least end c.loop-item.invariant.counts;
    }

pub returns-in_default-clause-at_most : goal.returns-in_default-clause-at_most
returns-in_default-clause-at_most c = counts_bound (spent_none _ _) c.loop-item.invariant.counts

pub returns-in_default-next_try : goal.returns-in_default-next_try
returns-in_default-next_try c =
    let miss = misses (goal.at.returns-in_default-next_try c).After-next_try in
    record {
      answer = (
        λ f. cc,
        λ m. absurd (at_no_restart _ _ _ (place_of c.loop-item.restart) miss.no_match
            (sym c.in_default-next_try.ensures) c.loop-item.invariant.stands m),
      );
      at_most = counts_bound miss.spent c.loop-item.invariant.counts;
      at_least = λ f. cc;
    }

pub loop-item-preserved : goal.loop-item-preserved
loop-item-preserved c =
    let miss = misses (goal.at.loop-item-preserved c).After-next_try in
    record {
      is_text = search rules;
      stands = at_restart _ _ _ (place_of c.loop-item.restart) _ miss.no_match
          (sym c.in-Some-next_try.ensures) c.loop-item.invariant.stands;
      counts = counts_at_restart _ _ _ (place_of c.loop-item.restart) _ miss.spent (omega arith)
          (sym c.in-Some-next_try.ensures) c.loop-item.invariant.counts;
    }
