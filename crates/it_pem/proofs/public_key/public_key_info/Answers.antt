use Rattle.std.proofs.Common.{◌≡◌, ◌∙◌, ℕ, List, Option, Some, None, option_and_then, ap, sym}
use Rattle.std.specs.Str.Lines.{lines}
use Rattle.base64.specs.Engines.{standard}
use Rattle.base64.specs.GeneralPurpose.{decoded_of}
use Rattle.it_pem.specs.PublicKeyText.{at_most, body_of, info_in}
use Rattle.it_pem.proofs.public_key.public_key_info.Goals as goal

decodes : (text body : List ℕ) (found : Option (List ℕ))
    → found ≡ at_most 2048 (body_of (lines text)) → found ≡ Some body
    → decoded_of standard body ≡ info_in text
unfolding info_in
decodes text body found is some = sym (ap (option_and_then (decoded_of standard)) (sym is ∙ some))

nothing : (text : List ℕ) (found : Option (List ℕ))
    → found ≡ at_most 2048 (body_of (lines text)) → found ≡ None → None ≡ info_in text
unfolding info_in
nothing text found is none = sym (ap (option_and_then (decoded_of standard)) (sym is ∙ none))

pub returns-in-Some : goal.returns-in-Some
returns-in-Some c = c.decoded.ensures
    ∙ decodes c.args.text.now c.in-Some.body c.body_in.result c.body_in.ensures c.in-Some.is

pub returns-in-None : goal.returns-in-None
returns-in-None c = nothing c.args.text.now c.body_in.result c.body_in.ensures c.in-None.is
