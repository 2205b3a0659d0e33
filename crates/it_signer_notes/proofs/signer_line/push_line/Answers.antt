use Rattle.std.proofs.Common.{◌++◌, ℕ, List, codes, find}
use Rattle.it_report.specs.Name.{name_form}
use Rattle.it_signer_notes.specs.Nearest.{is_near}
use Rattle.it_signer_notes.specs.SignerText.{listing_text, signer_text}
use Rattle.it_signer_notes.specs.inside.Lent.{lent}
use Rattle.it_signer_notes.proofs.Texts.{more}
use Rattle.it_signer_notes.proofs.signer_line.push_line.Goals as goal

pub returns : goal.returns
unfolding signer_text
returns c =
    let start = c.args.text.now.items in
    let identity = c.args.identity.now in
    let front : List ℕ = codes "the provenance is signed by " in
    let named : List ℕ = front ++ name_form identity.name in
    let of : List ℕ = named ++ codes " of " in
    let issued : List ℕ = of ++ name_form identity.issuer in
    let unlisted : List ℕ = issued ++ codes ", which is the key of no builder" in
    let listing : List ℕ = listing_text (find (is_near identity) (lent c.args.keys.now)) in
    let one = more start front (name_form identity.name) c.extend_from_slice.new.self.items
    c.push_name.new.text.items c.in_ok-extend_from_slice.ensures.items
    (rw c.as_slice.ensures at c.in_ok-push_name.ensures) in
    let two = more start named (codes " of ") c.push_name.new.text.items
    c.extend_from_slice-2.new.self.items one c.in_ok-extend_from_slice-2.ensures.items in
    let three = more start of (name_form identity.issuer) c.extend_from_slice-2.new.self.items
    c.push_name-2.new.text.items two
    (rw c.as_slice-2.ensures at c.in_ok-push_name-2.ensures) in
    let four = more start issued (codes ", which is the key of no builder")
    c.push_name-2.new.text.items c.extend_from_slice-3.new.self.items three
    c.in_ok-extend_from_slice-3.ensures.items in
    let five = more start unlisted listing c.extend_from_slice-3.new.self.items
    c.push_listing.new.text.items four c.in_ok-push_listing.ensures in
    more start (unlisted ++ listing) (codes "\n") c.push_listing.new.text.items
    c.push.new.self.items five c.in_ok-push.ensures.items
