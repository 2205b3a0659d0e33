use Rattle.std.proofs.Common.{◌≡◌, List, None, Some, refl, subst}
use Rattle.std.specs.List.{slice_get}
use Rattle.std.proofs.lemmas.Option.{slice_get_past, slice_get_read}
use Rattle.it_docs.specs.declared.rule.Rule.{Rule}
use Rattle.it_rule_notes.proofs.RulesAt.{one_rules}
use Rattle.it_rule_notes.proofs.rule_note.words_at.Goals as goal

pub returns-in_default-get : goal.returns-in_default-get
returns-in_default-get c = λ words are.
    let book = c.args.book.now in
    let rules = c.in-Some.rules.now in
    let same : are.rules ≡ rules = one_rules book.layout.now book.deliver.now c.args.item.now
    c.args.side are.rules rules are.are_rules c.in-Some.ensures in
    let here : slice_get rules c.args.index ≡ Some are.rule =
    subst (λ (all : List Rule). slice_get all c.args.index ≡ Some are.rule) same are.is_rule in
    let past : slice_get rules c.args.index ≡ None =
    slice_get_past rules c.args.index c.in_default-get.ensures.lookup.3 in
    cc (here, past)

pub returns : goal.returns
returns c =
    let lookup = c.in-Some-get.ensures.lookup in
    let rules = c.in-Some.rules.now in
    let rule = c.in-Some-get.rule.now in
    record {
      rules = rules;
      rule = rule;
      are_rules = c.in-Some.ensures;
      is_rule = slice_get_read rules _ c.args.index rule refl lookup.3.0 lookup.1;
      are_words = c.in_ok-words_of.ensures.is_rule;
      as_written = c.in_ok-words_of.ensures.are_words;
    }
