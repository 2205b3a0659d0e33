-- The rule that a list of texts forms, as a function.
use Rattle.std.specs.Prelude.{ℕ, List, [], ◌∷◌, Bool, ◌&&◌, if◌then◌else◌, codes, Option, Some}
use Rattle.std.specs.Prelude.{None, option_map}
use Rattle.it_docs.specs.Rule.{is_keyword}
use Rattle.it_docs.specs.declared.rule.Rule.{Rule}
use Rattle.it_docs.specs.declared.rule.Rule.TheVariants.{Match, Create, Delete, Modify, Allow}
use Rattle.it_docs.specs.declared.rule.Rule.TheVariants.{Disallow, Require}
use Rattle.it_docs.specs.declared.rule.Side.{Side}
use Rattle.it_docs.specs.declared.rule.Side.TheVariants.{Materials, Products}

unfoldable pub side_of : List ℕ → Option Side
side_of text =
    if is_keyword (codes "MATERIALS") text then Some Materials
    else (if is_keyword (codes "PRODUCTS") text then Some Products else None)

unfoldable pub short_of : List ℕ → List ℕ → Option Rule
short_of keyword operand =
    if is_keyword (codes "CREATE") keyword then Some (Create operand)
    else (if is_keyword (codes "DELETE") keyword then Some (Delete operand)
    else (if is_keyword (codes "MODIFY") keyword then Some (Modify operand)
    else (if is_keyword (codes "ALLOW") keyword then Some (Allow operand)
    else (if is_keyword (codes "DISALLOW") keyword then Some (Disallow operand)
    else (if is_keyword (codes "REQUIRE") keyword then Some (Require operand) else None)))))

-- the texts are the keywords MATCH, WITH and FROM
abbrev pub is_match : List ℕ → List ℕ → List ℕ → Bool
is_match match with from =
    is_keyword (codes "MATCH") match
    && (is_keyword (codes "WITH") with && is_keyword (codes "FROM") from)

-- the MATCH of these parts, where the side's text names a side
unfoldable pub match_of : List ℕ → List ℕ → List ℕ → List ℕ → List ℕ → Option Rule
match_of pattern source side target step =
    option_map (λ s. Match pattern source s target step) (side_of side)

-- the MATCH with one or both prefixes that the texts form
unfoldable pub prefixed_of : List (List ℕ) → Option Rule
prefixed_of (m ∷ p ∷ a ∷ b ∷ c ∷ d ∷ f ∷ s ∷ []) =
    if is_keyword (codes "IN") a && is_match m c f then match_of p b d [] s
    else (if is_keyword (codes "IN") c && is_match m a f then match_of p [] b d s else None)
prefixed_of (m ∷ p ∷ i ∷ a ∷ w ∷ d ∷ j ∷ b ∷ f ∷ s ∷ []) =
    if (is_keyword (codes "IN") i && is_keyword (codes "IN") j) && is_match m w f
    then match_of p a d b s else None
prefixed_of texts = None

unfoldable pub rule_of : List (List ℕ) → Option Rule
rule_of (k ∷ x ∷ []) = short_of k x
rule_of (m ∷ p ∷ w ∷ d ∷ f ∷ s ∷ []) = if is_match m w f then match_of p [] d [] s else None
rule_of texts = prefixed_of texts
