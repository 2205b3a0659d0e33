-- Which paths a rule can reach.
use Rattle.std.proofs.Common.{◌≡◌, ◌∙◌, ℕ, zero, suc, ◌<◌, slice_index, List, [], ◌∷◌, ◌++◌, IfOk}
use Rattle.std.proofs.Common.{Result, Ok, Err, Bool, true, false, Bor, append_assoc, sym, ap, subst}
use Rattle.std.proofs.Common.{refl, codes, lit<}
use Rattle.std.specs.Str.{IsUtf8, encode_utf8_all}
use Rattle.std.specs.Prelude.{encode_utf8}
use Rattle.std.proofs.lemmas.Option.{get_or_from_slice_get}
use Rattle.std.proofs.lemmas.Str.{IsUtf8-append, IsUtf8-from_ascii, IsUtf8-past_char}
use Rattle.it_glob.specs.Pattern.{BeginsWith}
use Rattle.it_rules.specs.FolderPrefix.{folder_prefix, lacks_slash}
use Rattle.it_rules.specs.Paths.{ArePaths}
use Rattle.it_rules.specs.inside.Reach.{IsMatchUnder}
use Rattle.it_rules.specs.Ranges.{Covers, IsFrontRange}
use Rattle.it_rules.specs.Rules.{Claims, IsMatch}
use Rattle.it_rules.specs.Item.{Recorded, Links}
use Rattle.it_docs.specs.declared.rule.Rule.TheVariants.{Match}
use Rattle.it_docs.specs.declared.rule.Side.{Side}
use Rattle.it_rules.proofs.Listed.{slice_get_within}

-- where what P holds of begins with a front, the range of the front covers it
pub front_covers : (P : List ℕ → Type 0) (paths : List (Bor (List ℕ))) (front : List ℕ)
    (start end : ℕ) → ArePaths paths → IsFrontRange paths front start end
    → ((path : List ℕ) → IsUtf8 path → P path → BeginsWith path front) → Covers P paths start end
front_covers P paths front start end are range begins = record {
  start_first = range.start_first;
  within = range.within;
  covers = λ i path here p.
      let text : IsUtf8 path.now =
      subst (λ lent. IsUtf8 lent.now) (get_or_from_slice_get paths i path path here)
      (are.are_texts i path (slice_get_within paths i path here)) in
      (range.exact i path here).0 (begins path.now text p);
}

-- a range that covers more
covers_less : (P Q : List ℕ → Type 0) (paths : List (Bor (List ℕ))) (start end : ℕ)
    → ((path : List ℕ) → Q path → P path) → Covers P paths start end → Covers Q paths start end
covers_less P Q paths start end less h = record {
  start_first = h.start_first;
  within = h.within;
  covers = λ i path here q. h.covers i path here
      (less path.now q);
}

past_chars : (cs bs rest : List ℕ) → IsUtf8 bs → bs ≡ encode_utf8_all cs ++ rest → IsUtf8 rest
past_chars [] bs rest u e = subst IsUtf8 e u
past_chars (c ∷ cs) bs rest u e =
    past_chars cs (encode_utf8_all cs ++ rest) rest
    (IsUtf8-past_char bs (encode_utf8_all cs ++ rest) c u
    (e ∙ append_assoc (encode_utf8 c) (encode_utf8_all cs) rest)) refl

-- what follows a text in a text is a text
rest_is_text : (front rest : List ℕ) → IsUtf8 front → IsUtf8 (front ++ rest) → IsUtf8 rest
rest_is_text front rest (cs, (scalars, e)) u = past_chars cs (front ++ rest) rest u
    (ap (λ f. f ++ rest) (sym e))

slash_is_ascii : (i : ℕ) → slice_index (codes "/") i < 128
slash_is_ascii zero = lit< tt
slash_is_ascii (suc i) = lit< tt

folder_is_text : (prefix : List ℕ) → IsUtf8 prefix → IsUtf8 (folder_prefix prefix)
folder_is_text prefix u = go (lacks_slash prefix) refl
  where
    go : (b : Bool) → lacks_slash prefix ≡ b → IsUtf8 (folder_prefix prefix)
    go true e = rw e (IsUtf8-append prefix (codes "/") u
        (IsUtf8-from_ascii (codes "/") slash_is_ascii))
    go false e = rw e u

-- what a pattern with this front matches after a folder's prefix begins with the prefix and the
-- front
pub folder_begins : (pattern prefix front path : List ℕ) → IsUtf8 prefix
    → ((rest : List ℕ) → IsUtf8 rest → IsMatch pattern rest → BeginsWith rest front) → IsUtf8 path
    → IsMatchUnder pattern prefix path → BeginsWith path (folder_prefix prefix ++ front)
folder_begins pattern prefix front path text begins u (rest, e, m) =
    let b = begins rest (rest_is_text (folder_prefix prefix) rest (folder_is_text prefix text)
    (subst IsUtf8 e u)) m in (
      b.0,
      e ∙ ap (λ r. folder_prefix prefix ++ r) b.1
          ∙ sym (append_assoc (folder_prefix prefix) front b.0),
    )

pub match_covers : {E : Type 0} (pattern source : List ℕ) (linked_side : Side)
    (target from : List ℕ) (paths : List (Bor (List ℕ))) (found : Result (ℕ × ℕ) E)
    → IfOk found (λ range. Covers (IsMatchUnder pattern source) paths range.0 range.1)
    → IfOk found (λ range. (side : Side) (item : Recorded) (links : Links)
    → Covers (Claims (Match pattern source linked_side target from) side item links) paths
    range.0 range.1)
match_covers pattern source linked_side target from paths (Ok range) h = λ side item links.
    covers_less (IsMatchUnder pattern source)
    (Claims (Match pattern source linked_side target from) side item links) paths range.0
    range.1 (λ path m. (m.rest, m.under_source, m.is_match)) h
match_covers pattern source linked_side target from paths (Err e) h = tt
