-- How many tests a matching makes. An item is tested at most once against each character: a try
-- begins one character further than the one before it, and tests one item against one character
-- after another.
use Rattle.std.proofs.Common.{◌≡◌, ◌≢◌, ℕ, zero, suc, ◌+◌, ◌*◌, ◌<◌, ◌≤◌, ◌-◌, ◌^◌, min, List, []}
use Rattle.std.proofs.Common.{◌∷◌, Option, Some, None, length, arith, refl, ap, sym, subst, ◌∙◌}
use Rattle.std.specs.Prelude.{IfSome}
use Rattle.std.proofs.Math.Nat.{mul-le-mul_right}
use Rattle.std.proofs.lemmas.Option.{same_Some, IfSome_then}
use Rattle.it_glob.specs.Pattern.{plain_count}
use Rattle.it_glob.specs.inside.Restarts.{Place, next_place}
use Rattle.it_glob.specs.declared.item.Item.{Item}
use Rattle.it_glob.specs.declared.item.Item.TheVariants.{Star, Any, OneOf, Exactly}

-- how many items stand before the first star
abbrev run : List Item → ℕ
run [] = 0
run (Star ∷ items) = 0
run (item ∷ items) = run items + 1

run-plain : (item : Item) (items : List Item) → item ≢ Star → run (item ∷ items) ≡ run items + 1
run-plain Star items n = absurd (n refl)
run-plain Any items n = refl
run-plain (OneOf negated body) items n = refl
run-plain (Exactly c) items n = refl

run_le : (items : List Item) → run items ≤ length items
run_le [] = omega arith
run_le (Star ∷ items) = omega arith
run_le (Any ∷ items) = omega (arith, run_le items)
run_le (OneOf negated body ∷ items) = omega (arith, run_le items)
run_le (Exactly c ∷ items) = omega (arith, run_le items)

plain_count-plain : (item : Item) (items : List Item) → item ≢ Star → plain_count (item ∷ items)
    ≡ plain_count items + 1
plain_count-plain Star items n = absurd (n refl)
plain_count-plain Any items n = refl
plain_count-plain (OneOf negated body) items n = refl
plain_count-plain (Exactly c) items n = refl

plain_count_le : (items : List Item) → plain_count items ≤ length items
plain_count_le [] = omega arith
plain_count_le (Star ∷ items) = omega (arith, plain_count_le items)
plain_count_le (Any ∷ items) = omega (arith, plain_count_le items)
plain_count_le (OneOf negated body ∷ items) = omega (arith, plain_count_le items)
plain_count_le (Exactly c ∷ items) = omega (arith, plain_count_le items)

-- where the try that is under way began
abbrev origin : Place → Option Place → Place
origin whole None = whole
origin whole (Some place) = place

-- these tests are counted so far: in the try that is under way `done` items took a character each,
-- after `before` items of the pattern and `skipped` characters of the text
pub record Counts (whole : Place) (items : List Item) (cs : List ℕ) (restart : Option Place)
    (steps : ℕ) : Type 0 where
  pub before : ℕ
  pub skipped : ℕ
  pub done : ℕ
  pub items_before : before + length (origin whole restart).0 ≡ length whole.0
  pub characters_skipped : skipped + length (origin whole restart).1 ≡ length whole.1
  pub items_done : done + length items ≡ length (origin whole restart).0
  pub characters_done : done + length cs ≡ length (origin whole restart).1
  pub run_done : done + run items ≡ run (origin whole restart).0
  pub at_most : steps ≤ before * length whole.1 + skipped * run (origin whole restart).0 + done
  -- each item that is no star and lies behind was tested
  pub at_least : plain_count whole.0 ≤ steps + plain_count items
  pub at_least_again : IfSome restart (λ p. plain_count whole.0 ≤ steps + plain_count p.0)

-- a run that is done took at most each of its items for each character
run_product : (skipped done n : ℕ) → skipped + done ≤ n → skipped * done + done ≤ done * n
run_product skipped zero n h = omega arith
run_product skipped (suc done) n h =
    omega (arith, mul-le-mul_right {m = skipped + 1} {n = n} (suc done) (omega arith))

-- the run of a try, in place of its name
run_is : {whole : Place} {items : List Item} {cs : List ℕ} {restart : Option Place} {steps : ℕ}
    (s : Counts whole items cs restart steps) (n : ℕ)
    → run (origin whole restart).0 ≡ n → steps ≤ s.before * length whole.1 + s.skipped * n + s.done
run_is {whole} {items} {cs} {restart} {steps} s n e =
    subst (λ x. steps ≤ s.before * length whole.1 + s.skipped * x + s.done) e s.at_most

past_star : {whole : Place} {items : List Item} {cs : List ℕ} {restart : Option Place} {steps : ℕ}
    → Counts whole (Star ∷ items) cs restart steps → Counts whole items cs (Some (items, cs)) steps
past_star {whole} {items} {cs} {restart} {steps} s = record {
  before = s.before + s.done + 1;
  skipped = s.skipped + s.done;
  done = 0;
  items_before = omega (arith, s.items_before, s.items_done);
  characters_skipped = omega (arith, s.characters_skipped, s.characters_done);
  items_done = omega arith;
  characters_done = omega arith;
  run_done = omega arith;
  at_most =
      let most = run_is s s.done (omega (arith, s.run_done)) in
      let product = run_product s.skipped s.done (length whole.1)
      (omega (arith, s.characters_skipped, s.characters_done)) in
      omega (arith, most, product);
  at_least = s.at_least;
  at_least_again = s.at_least;
}

past_one : {whole : Place} {item : Item} {items : List Item} {c : ℕ} {cs : List ℕ}
    {restart : Option Place} {steps steps' : ℕ}
    → item ≢ Star → steps' ≡ min (steps + 1) (2 ^ 64 - 1) → length whole.0 < 2 ^ 64
    → Counts whole (item ∷ items) (c ∷ cs) restart steps → Counts whole items cs restart steps'
past_one {whole} {item} {items} {c} {cs} {restart} {steps} {steps'} n e fits s = record {
  before = s.before;
  skipped = s.skipped;
  done = s.done + 1;
  items_before = s.items_before;
  characters_skipped = s.characters_skipped;
  items_done = omega (arith, s.items_done);
  characters_done = omega (arith, s.characters_done);
  run_done = omega (arith, s.run_done, run-plain item items n);
  at_most = omega (arith, s.at_most);
  at_least = omega (arith, s.at_least, plain_count-plain item items n, plain_count_le whole.0);
  at_least_again = IfSome_then restart s.at_least_again
      (λ p h. omega (arith, plain_count_le whole.0));
}

pub counts_at_star : {whole : Place} {left : List Item} {item : Item} {items : List Item}
    {cs : List ℕ} {restart : Option Place} {steps : ℕ}
    → left ≡ item ∷ items → item ≡ Star → Counts whole left cs restart steps
    → Counts whole items cs (Some (items, cs)) steps
counts_at_star {whole} {left} {item} {items} {cs} {restart} {steps} e star s =
    past_star (subst (λ l. Counts whole l cs restart steps) (e ∙ ap (λ x. x ∷ items) star) s)

pub counts_at_taken : {whole : Place} {left : List Item} {item : Item} {items : List Item}
    {text : List ℕ} {c : ℕ} {cs : List ℕ} {restart : Option Place} {steps steps' : ℕ}
    → left ≡ item ∷ items → text ≡ c ∷ cs → item ≢ Star → steps' ≡ min (steps + 1) (2 ^ 64 - 1)
    → length whole.0 < 2 ^ 64
    → Counts whole left text restart steps → Counts whole items cs restart steps'
counts_at_taken {whole} {left} {item} {items} {text} {c} {cs} {restart} {steps} e f n more fits s =
    past_one n more fits (subst (λ l. Counts whole l (c ∷ cs) restart steps) e
    (subst (λ x. Counts whole left x restart steps) f s))

-- of the tests that are counted now, so many were made of items before the next star
pub record Spent (items : List Item) (steps steps' : ℕ) : Type 0 where
  pub tests : ℕ
  pub in_run : tests ≤ run items
  pub no_more : steps' ≤ steps + tests
  pub no_less : min steps (2 ^ 64 - 1) ≤ steps'

-- no test was made
pub spent_none : (items : List Item) (steps : ℕ) → Spent items steps steps
spent_none items steps = record {
  tests = 0;
  in_run = omega arith;
  no_more = omega arith;
  no_less = omega arith;
}

-- one test was made
pub spent_one : {left : List Item} {item : Item} {items : List Item} {steps steps' : ℕ}
    → left ≡ item ∷ items → item ≢ Star
    → steps' ≡ min (steps + 1) (2 ^ 64 - 1) → Spent left steps steps'
spent_one {left} {item} {items} {steps} {steps'} e n more =
    subst (λ l. Spent l steps steps') (sym e) (record {
      tests = 1;
      in_run = omega (arith, run-plain item items n);
      no_more = omega arith;
      no_less = omega arith;
    })

restarted : {whole : Place} {items ritems : List Item} {cs rcs : List ℕ} {c steps steps' : ℕ}
    → Spent items steps steps' → length whole.0 < 2 ^ 64
    → Counts whole items cs (Some (ritems, c ∷ rcs)) steps
    → Counts whole ritems rcs (Some (ritems, rcs)) steps'
restarted {whole} {items} {ritems} {cs} {rcs} {c} {steps} {steps'} spent fits s = record {
  before = s.before;
  skipped = s.skipped + 1;
  done = 0;
  items_before = s.items_before;
  characters_skipped = omega (arith, s.characters_skipped);
  items_done = omega arith;
  characters_done = omega arith;
  run_done = omega arith;
  at_most = omega (arith, s.at_most, s.run_done, spent.in_run, spent.no_more);
  at_least = omega (arith, s.at_least_again, spent.no_less, plain_count_le whole.0);
  at_least_again = omega (arith, s.at_least_again, spent.no_less, plain_count_le whole.0);
}

pub counts_at_restart : (whole : Place) (items : List Item) (cs : List ℕ) (restart : Option Place)
    (p : Place) {steps steps' : ℕ} → Spent items steps steps'
    → length whole.0 < 2 ^ 64 → next_place restart ≡ Some p → Counts whole items cs restart steps
    → Counts whole p.0 p.1 (Some p) steps'
counts_at_restart whole items cs None p spent fits e s = cc
counts_at_restart whole items cs (Some (ritems, [])) p spent fits e s = cc
counts_at_restart whole items cs (Some (ritems, c ∷ rcs)) p {steps} {steps'} spent fits e s =
    subst (λ q. Counts whole q.0 q.1 (Some q) steps') (same_Some _ _ e) (restarted spent fits s)

-- wherever a matching ends, it has made no more tests than this
pub counts_bound : {whole : Place} {items : List Item} {cs : List ℕ} {restart : Option Place}
    {steps steps' : ℕ} → Spent items steps steps'
    → Counts whole items cs restart steps → steps' ≤ (length whole.0 + 1) * (length whole.1 + 1)
counts_bound {whole} {items} {cs} {restart} spent s =
    let r = run (origin whole restart).0 in
    let wide : s.skipped * r ≤ length whole.1 * r =
    mul-le-mul_right r (omega (arith, s.characters_skipped)) in
    let high : (s.before + r) * length whole.1 ≤ length whole.0 * length whole.1 =
    mul-le-mul_right (length whole.1)
    (omega (arith, s.items_before, run_le (origin whole restart).0)) in
    omega (
      arith,
      wide,
      high,
      s.at_most,
      s.run_done,
      spent.in_run,
      spent.no_more,
      s.items_before,
      run_le (origin whole restart).0,
    )

-- a match has tested each item that is no star
pub counts_least : {whole : Place} {left : List Item} {cs : List ℕ} {restart : Option Place}
    {steps : ℕ} → left ≡ []
    → Counts whole left cs restart steps → plain_count whole.0 ≤ steps
counts_least {whole} {left} {cs} {restart} {steps} e s =
    let here : Counts whole [] cs restart steps =
    subst (λ l. Counts whole l cs restart steps) e s in
    omega (arith, here.at_least)
