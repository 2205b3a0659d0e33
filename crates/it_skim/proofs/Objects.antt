-- Objects, and what else tokens begin.
use Rattle.std.proofs.Common.{◌≡◌, ◌∙◌, ℕ, List, [], ◌∷◌, Bool, false, Option, Some, None}
use Rattle.std.proofs.Common.{ap, arith, option_and_then, refl, subst, sym}
use Rattle.std.specs.Prelude.{unwrap_or}
use Rattle.json.specs.Find.{get}
use Rattle.json.specs.Json.{Json, null, boolean, number, string, array, object, Items, if_last, parse_map}
use Rattle.json.specs.Json.{value}
use Rattle.json.specs.Token.{Token}
use Rattle.json.proofs.Found.{Some_inj, not_found}
use Rattle.json.proofs.Grammar.{value-begin_object, value_is}
use Rattle.serde_json.specs.Read.{max_depth}
use Rattle.it_skim.specs.inside.Reading.{AreRead, IsRead}

-- after the brace come the members
pub object_read : (ts new : List Token) (name text : List ℕ) (found : Option Bool)
    → AreRead ts new name text found
    → IsRead (Token.begin_object ∷ ts) new name text (unwrap_or found false)
object_read ts new name text None none =
    let whole : value max_depth (Token.begin_object ∷ ts) ≡ None =
    value-begin_object max_depth ts (omega arith) ∙ ap (parse_map object) none in
    record {
      here = λ has. absurd (cc has);
      only = λ j rest e is. not_found (j, rest) (sym whole ∙ e);
    }
object_read ts new name text (Some has) (ms, all, is) =
    let whole : value max_depth (Token.begin_object ∷ ts) ≡ Some (object ms, new) =
    value-begin_object max_depth ts (omega arith) ∙ ap (parse_map object) all in
    record {
      here = λ yes. (object ms, whole, is.0 yes);
      only = λ j rest e found.
          let both = Some_inj (object ms, new) (j, rest) (sym whole ∙ e) in (
            is.1 (subst (λ (i : Json). get name i ≡ Some (string text)) (sym (ap (λ p. p.0) both))
                found),
            sym (ap (λ p. p.1) both),
          );
    }

-- ---- other tokens begin no object
module _ (name text : List ℕ) (j : Json) (rest : List Token)
    (here : get name j ≡ Some (string text)) where
  listed : (r : Option (Items × List Token)) → parse_map array r ≡ Some (j, rest) → ⊥
  listed None e = not_found (j, rest) e
  listed (Some p) e =
      let same : array p.0 ≡ j = ap (λ q. q.0) (Some_inj (array p.0, p.1) (j, rest) e) in
      not_found (string text) (ap (get name) same ∙ here)

  other : (p : Json × List Token) → get name p.0 ≡ None → Some p ≡ Some (j, rest) → ⊥
  other p nothing e =
      let same : p.0 ≡ j = ap (λ q. q.0) (Some_inj p (j, rest) e) in
      not_found (string text) (sym nothing ∙ ap (get name) same ∙ here)

  begun : (old : List Token) → ((ts : List Token) → old ≡ Token.begin_object ∷ ts → ⊥)
      → value max_depth old ≡ Some (j, rest) → ⊥
  begun [] never e = not_found (j, rest) (sym (value_is max_depth []) ∙ e)
  begun (Token.begin_object ∷ ts) never e = never ts refl
  begun (Token.end_object ∷ ts) never e =
      not_found (j, rest) (sym (value_is max_depth (Token.end_object ∷ ts)) ∙ e)
  begun (Token.begin_array ∷ ts) never e =
      listed _ (sym (value_is max_depth (Token.begin_array ∷ ts)) ∙ e)
  begun (Token.end_array ∷ ts) never e =
      not_found (j, rest) (sym (value_is max_depth (Token.end_array ∷ ts)) ∙ e)
  begun (Token.key k ∷ ts) never e =
      not_found (j, rest) (sym (value_is max_depth (Token.key k ∷ ts)) ∙ e)
  begun (Token.string s ∷ ts) never e =
      other (string s, ts) refl (sym (value_is max_depth (Token.string s ∷ ts)) ∙ e)
  begun (Token.number s ∷ ts) never e =
      other (number s, ts) refl (sym (value_is max_depth (Token.number s ∷ ts)) ∙ e)
  begun (Token.boolean b ∷ ts) never e =
      other (boolean b, ts) refl (sym (value_is max_depth (Token.boolean b ∷ ts)) ∙ e)
  begun (Token.null ∷ ts) never e =
      other (null, ts) refl (sym (value_is max_depth (Token.null ∷ ts)) ∙ e)
  begun (Token.bad ∷ ts) never e =
      not_found (j, rest) (sym (value_is max_depth (Token.bad ∷ ts)) ∙ e)

pub no_object : (old new : List Token) (name text : List ℕ)
    → ((ts : List Token) → old ≡ Token.begin_object ∷ ts → ⊥) → IsRead old new name text false
no_object old new name text never = record {
  here = λ has. absurd (cc has);
  only = λ j rest e here. absurd (begun name text j rest here old never e);
}

-- ---- the whole text
pub last : (o : Option (Json × List Token)) (j : Json)
    → option_and_then (λ p. if_last p.0 p.1) o ≡ Some j → o ≡ Some (j, [])
last None j e = not_found j e
last (Some (i, [])) j e = ap (λ x. Some (x, [])) (Some_inj i j e)
last (Some (i, t ∷ ts)) j e = not_found j e

pub whole_text : (o : Option (Json × List Token)) (j : Json) (rest : List Token)
    → o ≡ Some (j, rest) → rest ≡ [] → option_and_then (λ p. if_last p.0 p.1) o ≡ Some j
whole_text o j rest is end =
    ap (option_and_then (λ p. if_last p.0 p.1)) is ∙ ap (if_last j) end
