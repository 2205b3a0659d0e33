use Rattle.std.proofs.Common.{◌≡◌, ◌∙◌, false, refl, sym, true}
use Rattle.std.proofs.lemmas.Bool.Decides.{Decides-eqb}
use Rattle.std.proofs.lemmas.Slice.Eq.{slice_eq-Decides}
use Rattle.it_rsa_forms.proofs.Salts.{not_opened, salt_opened}
use Rattle.it_rsa_forms.proofs.pss.opened_salt.Goals as goal

pub returns-then-eq : goal.returns-then-eq
returns-then-eq c =
    let mark = c.in_ok-mark.ensures in
    salt_opened c.args.digest.now c.args.bytes.now c.args.hash.now _ c.as_slice.result.now
    c.in_ok-mark.mark (record { within = mark.0; some = mark.1; zeros = mark.2 }) refl
    (c.as_slice.ensures ∙ c.message_sha256-again.ensures) c.if-bytes-mark-ne1.false
    ((slice_eq-Decides Decides-eqb c.as_slice.result.now c.args.hash.now c.eq.result
    c.eq.ensures).0 c.if-eq.true)

pub returns-else-eq : goal.returns-else-eq
returns-else-eq c =
    let mark = c.in_ok-mark.ensures in
    not_opened c.args.digest.now c.args.bytes.now c.args.hash.now _ c.as_slice.result.now
    c.in_ok-mark.mark (record { within = mark.0; some = mark.1; zeros = mark.2 }) refl
    (c.as_slice.ensures ∙ c.message_sha256-again.ensures)
    (λ same.
    let yes : c.eq.result ≡ true = (slice_eq-Decides Decides-eqb c.as_slice.result.now
    c.args.hash.now c.eq.result c.eq.ensures).1 same in
    let no : false ≡ true = sym c.if-eq.false ∙ yes in cc)
