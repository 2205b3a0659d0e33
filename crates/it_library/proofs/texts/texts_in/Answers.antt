use Rattle.std.proofs.Common.{◌≡◌, ◌∙◌, ◌++◌, ◌∷◌, [], ℕ, List, All, Bor, Contains, ap}
use Rattle.std.proofs.Common.{append_assoc, flat_map, map, subst, sym}
use Rattle.std.proofs.lemmas.List.{map-append}
use Rattle.std.proofs.lemmas.List.Elements.{All-push}
use Rattle.it_library.proofs.Pieces.{piece_more}
use Rattle.it_library.proofs.texts.texts_in.Goals as goal

abbrev shown : List (Bor (List ℕ)) → List (List ℕ)
shown texts = map (λ text. text.now) texts

abbrev ended : List ℕ → List ℕ
ended text = text ++ 0 ∷ []

abbrev HasNone : List ℕ → Type 0
HasNone text = ¬ Contains text 0

pub loop-rest-preserved : goal.loop-rest-preserved
loop-rest-preserved c =
    let before = c.loop-rest.invariant in
    let first = c.in-Some.ensures in
    let texts = shown c.loop-rest.texts.items in
    let text = c.in-Some.text.now in
    let further = c.in-Some.further.now in
    let more : shown c.push.new.self.items ≡ texts ++ text ∷ [] = ap shown c.in_ok-push.ensures.items
    ∙ map-append (λ (t : Bor (List ℕ)). t.now) c.loop-rest.texts.items (c.in-Some.text ∷ []) in
    record {
      bytes_are = subst (λ ts. c.args.bytes.now ≡ flat_map ended ts ++ further) (sym more)
          (piece_more ended c.args.bytes.now texts text c.loop-rest.rest.now further
          before.bytes_are (first.bytes_are ∙ sym (append_assoc text (0 ∷ []) further)));
      no_zero = subst (All HasNone) (sym more)
          (All-push HasNone texts text before.no_zero first.no_zero);
    }
