use Rattle.std.proofs.Common.{◌∙◌, not}
use Rattle.std.specs.List.{list_any}
use Rattle.std.specs.Ordering.{is_eq}
use Rattle.it_sublayouts.proofs.Pairs.{Key, keys_alike, one_pair_more}
use Rattle.it_sublayouts.proofs.listed.ListedSublayouts.add.Goals as goal

pub returns-clause-is_new : goal.returns-clause-is_new
returns-clause-is_new c =
    let key : Key = (c.args.folders, c.args.payload) in
    c.in_ok-is_new.ensures.added
    ∙ (λ i. not (list_any (λ k. is_eq (keys_alike key k i)) c.args.self.now.places.keys))

pub returns-clause-added : goal.returns-clause-added
returns-clause-added c = λ f p.
    one_pair_more (c.args.folders, c.args.payload) c.args.self.now.places c.insert.new.self
    c.in_ok-is_new.ensures.updates f p
