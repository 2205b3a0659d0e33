use Rattle.std.proofs.Common.{◌≡◌, ◌∙◌, rules, sym}
use Rattle.it_glob.specs.Pattern.{front_of, items_of}
use Rattle.it_glob.proofs.Fronts.{front_alone, matching_begins}
use Rattle.it_glob.proofs.pattern.Pattern.literal_front.Goals as goal

pub returns-clause-begins : goal.returns-clause-begins
returns-clause-begins c =
    let value : c.front_of_text.result.now ≡ front_of (items_of c.args.self.now) = search rules in
    λ path u m. rw value (matching_begins (items_of c.args.self.now) path u m)

pub returns-clause-alone : goal.returns-clause-alone
returns-clause-alone c =
    let value : c.front_of_text.result.now ≡ front_of (items_of c.args.self.now) = search rules in
    λ whole path u m. front_alone c.args.self.now path (rw c.text.ensures at c.text.utf8) (sym value ∙ whole) u m
