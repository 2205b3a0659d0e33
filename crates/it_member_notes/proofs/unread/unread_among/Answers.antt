use Rattle.std.proofs.Common.{◌≡◌, [], ◌∷◌, ◌++◌, Contains, sym, ap, ◌∙◌, append_assoc, inl, inr}
use Rattle.std.proofs.lemmas.List.Elements.{All-push}
use Rattle.serde_json.specs.Data.{object}
use Rattle.it_borrowed.specs.NamedMembers.{NamedMember, members_in}
use Rattle.it_findings.specs.MemberNames.{known_names, read_names}
use Rattle.it_member_notes.specs.UnreadMembers.{HasUnread}
use Rattle.it_member_notes.specs.declared.unread_member.UnreadMember.{UnreadMember}
use Rattle.it_member_notes.proofs.Naming.{unread_note}
use Rattle.it_member_notes.proofs.Noting.{not_so}
use Rattle.it_member_notes.proofs.unread.unread_among.Goals as goal

pub loop-name-preserved : goal.loop-name-preserved
loop-name-preserved c =
    let l = c.loop-name.invariant in
    let e : NamedMember = (c.in-Some.name, c.in-Some.field-0-1) in
    let left = c.next.new.self in
    let all : c.args.members.entries ≡ l.0 ++ e ∷ left = l.1
    ∙ ap (λ es. l.0 ++ es) c.in-Some.ensures.steps in
    (l.0 ++ e ∷ [], all ∙ sym (append_assoc l.0 (e ∷ []) left), l.2)

pub loop-name-preserved-in_ok-push : goal.loop-name-preserved-in_ok-push
loop-name-preserved-in_ok-push c =
    let l = c.loop-name.invariant in
    let e : NamedMember = (c.in-Some.name, c.in-Some.field-0-1) in
    let left = c.next.new.self in
    let all : c.args.members.entries ≡ l.0 ++ e ∷ left = l.1
    ∙ ap (λ es. l.0 ++ es) c.in-Some.ensures.steps in
    let place = c.args.place.now in
    let text = c.in-Some.name.now in
    let no_read = not_so c.has_meaning.result (Contains (read_names place) text)
    (λ read. c.has_meaning.ensures.1 (inl read)) c.if-not-has_meaning.true in
    let no_known = not_so c.has_meaning.result (Contains (known_names place) text)
    (λ known. c.has_meaning.ensures.1 (inr known)) c.if-not-has_meaning.true in
    let note = c.in_ok-unread_member.field-0 in
    let made = c.in_ok-unread_member.ensures in (
      l.0 ++ e ∷ [],
      all ∙ sym (append_assoc l.0 (e ∷ []) left),
      rw c.in_ok-push.ensures.items
          (All-push (λ (n : UnreadMember).
          HasUnread (object (members_in c.args.members.entries)) n × (n.place ≡ place)) _ _ l.2
          (unread_note c.args.members.entries l.0 left e place note all made.place
          made.name no_read no_known made.close)),
    )
