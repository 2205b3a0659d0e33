use Rattle.std.proofs.Common.{◌==◌, ◌||◌, ◌∙◌, ℕ, ap, eqb}
use Rattle.std.specs.List.{list_any}
use Rattle.std.proofs.lemmas.List.Filters.{dedup_is}
use Rattle.it_prov.specs.Index.{is_of}
use Rattle.it_prov.proofs.Subjects.{are_candidates}
use Rattle.it_prov.proofs.lookup.candidates.Goals as goal

pub returns : goal.returns
returns c = λ test tells held indexed.
    let index = c.args.index.now in
    let digests = c.args.digests.now in
    let first = c.push_agreeing.new.places.items in
    let second = c.push_agreeing-2.new.places.items in
    let pushed = c.push_agreeing-3.new.places.items in
    let sorted = c.sort_unstable.new.self.items in
    let none = λ (place : ℕ). ap (list_any (λ p. p == place)) c.new-places.ensures.items in
    dedup_is eqb sorted c.dedup.new.self.items c.dedup.ensures.filtered
    ∙ are_candidates digests test tells index held indexed first second pushed sorted
    (λ place. c.in_ok-push_agreeing.ensures test tells place
    ∙ ap (λ b. b || list_any (is_of test place) c.entries_under.result.now) (none place)
    ∙ c.entries_under.ensures test place)
    (λ place. c.in_ok-push_agreeing-2.ensures test tells place
    ∙ ap (λ b. list_any (λ p. p == place) first || b) (c.entries_under-2.ensures test place))
    (λ place. c.in_ok-push_agreeing-3.ensures test tells place
    ∙ ap (λ b. list_any (λ p. p == place) second || b) (c.entries_under-3.ensures test place))
    c.sort_unstable.ensures.permutation c.sort_unstable.ensures.sorted
