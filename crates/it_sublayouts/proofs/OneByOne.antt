-- Which sublayouts are listed, one key id after another.
use Rattle.std.proofs.Common.{◌≡◌, ◌∙◌, ◌⊎◌, ℕ, Bool, true, false, not, List, [], ◌∷◌, ◌++◌}
use Rattle.std.proofs.Common.{inl, inr, refl, sym, ap, subst, append-nil, ⊎_elim}
use Rattle.std.proofs.lemmas.List.Elements.{Contains-append_cases, Contains-append_left}
use Rattle.std.proofs.lemmas.List.Elements.{Contains-push}
use Rattle.it_base.proofs.Members.{in_cases, in_none}
use Rattle.it_dsse.specs.Panel.{Panel}
use Rattle.it_docs.specs.Layout.{LayoutOf}
use Rattle.it_sublayouts.specs.Counted.{IsAmong, Place, folders_of, setting_of}
use Rattle.it_sublayouts.specs.declared.counted.CountedSublayout.{CountedSublayout}
use Rattle.it_sublayouts.specs.declared.level.StepAt.{StepAt}
use Rattle.it_sublayouts.specs.declared.listed.ListedSublayouts.{ListedSublayouts}
use Rattle.it_sublayouts.specs.declared.signed_layout.SignedLayout.{SignedLayout}
use Rattle.it_sublayouts.specs.inside.Below.{AreListed, AreListedWith, CountsAt, IdListed}
use Rattle.it_sublayouts.specs.inside.Below.{IsWithThoseBelow, Lists, StepStands}
use Rattle.it_sublayouts.specs.inside.Listed.{IsAdded, was_listed}
use Rattle.it_sublayouts.specs.inside.Signed.{IsRead, IsSignedFor}
use Rattle.it_sublayouts.proofs.Standing.{one_payload}

-- what is not new was there, and what is new was not
pub was_there : (was is_new : Bool) → is_new ≡ not was → is_new ≡ false → was ≡ true
was_there true is_new is old = refl
was_there false is_new is old = cc

pub was_not : (was is_new : Bool) → is_new ≡ not was → is_new ≡ true → was ≡ false
was_not true is_new is now = cc
was_not false is_new is now = refl

-- one that is listed with others is one of them all
module _ (listed : ListedSublayouts) (before : List CountedSublayout) (folders : List (List ℕ))
    (payload : List ℕ) (are : AreListedWith listed before folders payload)
    (first : CountedSublayout) (over : folders_of first.at ≡ folders)
    (is : first.payload ≡ payload) where
  abbrev all : List CountedSublayout
  all = before ++ first ∷ []

  among_all : (f : List (List ℕ)) (p : List ℕ)
      → IsAmong before f p ⊎ ((folders ≡ f) × (payload ≡ p)) → IsAmong all f p
  among_all f p either = ⊎_elim
      (λ (early : IsAmong before f p). record {
        sublayout = early.sublayout;
        stands = Contains-append_left before (first ∷ []) early.sublayout early.stands;
        folders_are = early.folders_are;
        payload_is = early.payload_is;
      })
      (λ same. record {
        sublayout = first;
        stands = Contains-push before first;
        folders_are = over ∙ same.0;
        payload_is = is ∙ same.1;
      }) either

  one_of_them : (f : List (List ℕ)) (p : List ℕ) → IsAmong all f p
      → IsAmong before f p ⊎ ((folders ≡ f) × (payload ≡ p))
  one_of_them f p among = ⊎_elim
      (λ early. inl (record {
        sublayout = among.sublayout;
        stands = early;
        folders_are = among.folders_are;
        payload_is = among.payload_is;
      }))
      (λ late. ⊎_elim
      (λ (same : first ≡ among.sublayout). inr (
        sym over ∙ ap (λ (s : CountedSublayout). folders_of s.at) same ∙ among.folders_are,
        sym is ∙ ap (λ (s : CountedSublayout). s.payload) same ∙ among.payload_is,
      ))
      (λ later. absurd (in_none among.sublayout later)) (in_cases first [] among.sublayout late))
      (Contains-append_cases before (first ∷ []) among.sublayout among.stands)

  pub with_first : AreListed listed all
  with_first f p = (
    λ now. among_all f p ((are f p).0 now),
    λ among. (are f p).1 (one_of_them f p among),
  )

module _ (panel : Panel) (at : StepAt) (id : List ℕ) where
  abbrev places : List Place
  places = at.level.now.at.now ++ (at.step.now.name, id) ∷ []

  -- nothing is listed where nothing counts
  pub none_for : (listed : ListedSublayouts)
      → ((payload : List ℕ) → ¬ CountsAt panel at id payload)
      → Lists (IdListed panel at id) listed listed []
  none_for listed none before are = (
    λ payload counts. absurd (none payload counts),
    subst (AreListed listed) (sym (append-nil before)) are,
  )

  module _ (stands : StepStands panel at) where
    -- one payload counts under a key id
    same_payload : (p q : List ℕ) → CountsAt panel at id p → CountsAt panel at id q → p ≡ q
    same_payload p q x y =
        let level = at.level.now in
        x.payload_is
        ∙ one_payload (setting_of panel level) level.layout.now level.links.now at.step.now id
        x.sublayout y.sublayout x.counts y.counts level.depth stands.holds.0 stands.holds.1
        ∙ sym y.payload_is

    -- ---- one that counts, and is added
    module _ (old new : ListedSublayouts) (folders : List (List ℕ)) (payload : List ℕ)
        (named : folders ≡ folders_of places) (counts : CountsAt panel at id payload)
        (added : IsAdded old new folders payload) where
      -- nothing is listed where it was
      pub listed_again : was_listed old folders payload ≡ true
          → Lists (IdListed panel at id) old new []
      listed_again was before are =
          let among : IsAmong before folders payload = (are folders payload).0 was in (
            λ p counts_too. subst (IsAmong before (folders_of places))
                (same_payload payload p counts counts_too)
                (subst (λ f. IsAmong before f payload) named among),
            subst (AreListed new) (sym (append-nil before)) (λ f p. (
              λ now. ⊎_elim (λ earlier. (are f p).0 earlier)
                  (λ same. subst (IsAmong before f) same.1
                  (subst (λ g. IsAmong before g payload) same.0 among))
                  ((added f p).0 now),
              λ is. (added f p).1 (inl ((are f p).1 is)),
            )),
          )

      module _ (place : List Place) (placed : folders ≡ folders_of place) (read : List ℕ)
          (is : read ≡ payload) (before : List CountedSublayout) (are : AreListed old before) where
        listed_now : AreListedWith new before (folders_of place) read
        listed_now f p = (
          λ now. ⊎_elim (λ was. inl ((are f p).0 was))
              (λ same. inr (sym placed ∙ same.0, is ∙ same.1)) ((added f p).0 now),
          λ either. (added f p).1 (⊎_elim (λ among. inl ((are f p).1 among))
              (λ same. inr (placed ∙ same.0, sym is ∙ same.1)) either),
        )

        as_new : was_listed old folders payload ≡ false → (found : List CountedSublayout)
            → IsWithThoseBelow panel at id before found → IdListed panel at id before found
        as_new not_yet [] h = absurd h
        as_new not_yet (first ∷ others) h =
            let counts_too : CountsAt panel at id first.payload = record {
              sublayout = first.layout;
              counts = h.0.counts;
              payload_is = h.0.payload_is;
            } in
            let over : folders_of first.at ≡ folders = ap folders_of h.0.at_is ∙ sym named in
            let same = same_payload first.payload payload counts_too counts in (
              h.0,
              λ among. let was : was_listed old folders payload ≡ true =
                  (are folders payload).1 (subst (IsAmong before folders) same
                  (subst (λ f. IsAmong before f first.payload) over among)) in
                  absurd (cc (was, not_yet)),
              h.1,
            )

      -- it is listed where it was not
      pub listed_new : (place : List Place) → folders ≡ folders_of place → (read : List ℕ)
          → read ≡ payload → was_listed old folders payload ≡ false → (last : ListedSublayouts)
          (found : List CountedSublayout)
          → ((before : List CountedSublayout)
          → AreListedWith new before (folders_of place) read
          → IsWithThoseBelow panel at id before found × AreListed last (before ++ found))
          → Lists (IdListed panel at id) old last found
      listed_new place placed read is not_yet last found make before are =
          let made = make before (listed_now place placed read is before are) in
          (as_new place placed read is before are not_yet found made.0, made.1)

-- a payload that counts, as it is read
pub signed_as : (panel : Panel) (at : StepAt) (id payload : List ℕ) → CountsAt panel at id payload
    → (signed : SignedLayout) → IsRead payload signed
    → IsSignedFor panel at.level.now.layout.now at.level.now.links.now at.step.now id signed
signed_as panel at id payload is signed read =
    let counts = is.counts in record {
      counts = record {
        file = counts.file;
        envelope = counts.envelope;
        object = counts.object;
        is_step = counts.is_step;
        stands = counts.stands;
        claimed = counts.claimed;
        is_envelope = counts.is_envelope;
        type_is = counts.type_is;
        listed = counts.listed;
        known = counts.known;
        signed = counts.signed;
        is_layout = subst (λ p. LayoutOf p signed.layout) is.payload_is read.reads;
      };
      payload_is = read.payload_is ∙ is.payload_is;
    }
