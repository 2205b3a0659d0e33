-- Checked by panels that are alike on the keys which it can ask for, a layout comes to the same.
use Rattle.std.proofs.Common.{◌≡◌, ◌∙◌, ℕ, zero, suc, List, Some, Contains, inl, inr, ⊎_elim, refl}
use Rattle.std.proofs.Common.{sym, ap, subst}
use Rattle.std.specs.FinMap.{get}
use Rattle.std.specs.Prelude.{◌<ℤ◌}
use Rattle.std.proofs.lemmas.Option.{same_Some}
use Rattle.it_base.specs.Table.{Named}
use Rattle.it_dsse.specs.Panel.{KeyNumber, Panel}
use Rattle.it_dsse.specs.Signed.{IsSigner, Signed, message_of}
use Rattle.it_dsse.specs.declared.envelope.Envelope.{Envelope}
use Rattle.it_dsse.specs.declared.key_object.KeyObject.{KeyObject}
use Rattle.it_docs.specs.Layout.{LayoutOf}
use Rattle.it_docs.specs.declared.layout.Layout.{Layout}
use Rattle.it_docs.specs.declared.step.Step.{Step}
use Rattle.it_chain.specs.Alike.{HasSameOutcome}
use Rattle.it_chain.specs.AlikePanels.{IsOneKey, PanelsAlike, PanelsAlikeOver}
use Rattle.it_chain.specs.Contents.{Contents}
use Rattle.it_chain.specs.CountedBodies.{Counted, Setting}
use Rattle.it_chain.specs.Sublayouts.{IsSublayout, folder_of}
use Rattle.it_chain.specs.Threshold.{Found, KeyCounts}
use Rattle.it_chain.proofs.CountedSublayouts.{sublayout_as}
use Rattle.it_chain.proofs.Images.{images, images_distinct, length_images, of_images, to_images}
use Rattle.it_chain.proofs.Sides.{Comes, Moves, come, side_at}

pub panels_back : (panel other : Panel) (objects : Named KeyObject)
    → PanelsAlike panel other objects → PanelsAlike other panel objects
panels_back panel other objects alike = record {
  valid = λ id object message sig known. let both = alike.valid id object message sig known in
      (both.1, both.0);
  one_key = λ id object second another known also.
      let both = alike.one_key id object second another known also in (both.1, both.0);
}

-- ---- signatures
-- whose key signed by one panel signed by the other
pub signed_there : (panel other : Panel) (objects : Named KeyObject)
    → PanelsAlike panel other objects → (envelope : Envelope) (id : List ℕ) (object : KeyObject)
    (key : KeyNumber) → get objects id ≡ Some object → Signed panel envelope id object key
    → IsSigner other envelope object id
signed_there panel other objects alike envelope id object key known signed =
    let at = signed.signature in
    let there = (alike.valid id object (message_of envelope) at.1.sig known).0
    (record { key = key; names = signed.key; valid = at.4.valid }) in (
      there.key,
      record {
        key = there.names;
        signature = (
          at.0,
          at.1,
          at.2,
          at.3,
          record { admitted = at.4.admitted; valid = there.valid },
        );
      },
    )

-- ---- sublayouts
pub alike_here : (panel other : Panel) (depth : ℕ) (layout : Layout) (bundle : Contents)
    → PanelsAlikeOver panel other depth layout bundle → PanelsAlike panel other layout.keys
alike_here panel other zero layout bundle over = over
alike_here panel other (suc depth) layout bundle over = over.0

-- a sublayout that counts by one panel counts by the other
pub sublayout_there : (panel other : Panel) (layout : Layout) (bundle : Contents)
    → PanelsAlike panel other layout.keys → (step : Step) (id : List ℕ) (sublayout : Layout)
    → IsSublayout (IsSigner panel) layout bundle step id sublayout
    → IsSublayout (IsSigner other) layout bundle step id sublayout
sublayout_there panel other layout bundle alike step id sublayout =
    sublayout_as (IsSigner panel) (IsSigner other) layout bundle step id sublayout
    (λ envelope object known signed. signed_there panel other layout.keys alike envelope id object
    signed.0 known signed.1)

pub over_back : (panel other : Panel) (depth : ℕ) (layout : Layout) (bundle : Contents)
    → PanelsAlikeOver panel other depth layout bundle
    → PanelsAlikeOver other panel depth layout bundle
over_back panel other zero layout bundle over = panels_back panel other layout.keys over
over_back panel other (suc depth) layout bundle over =
    let back = panels_back panel other layout.keys over.0 in (
      back,
      λ step id sublayout is. over_back panel other depth sublayout
          (folder_of step.name id bundle)
          (over.1 step id sublayout
          (sublayout_there other panel layout bundle back step id sublayout is)),
    )

-- a body that counts and is a layout is a sublayout that counts
pub counted_sublayout : (setting : Setting) (layout : Layout) (bundle : Contents) (step : Step)
    (id payload : List ℕ) (sublayout : Layout) → Contains layout.steps step
    → Counted setting layout bundle step id payload → LayoutOf payload sublayout
    → IsSublayout (IsSigner setting.panel) layout bundle step id sublayout
counted_sublayout setting layout bundle step id payload sublayout is_step c is = record {
  file = c.file;
  envelope = c.envelope;
  object = c.object;
  is_step = is_step;
  stands = c.stands;
  claimed = c.claimed;
  is_envelope = c.is_envelope;
  type_is = c.type_is;
  listed = c.listed;
  known = c.known;
  signed = (c.key, c.signed);
  is_layout = subst (λ body. LayoutOf body sublayout) (sym c.payload_is) is;
}

-- ---- keys
-- the panels give one key these numbers
record IsRenamed (panel other : Panel) (objects : Named KeyObject) (key another : KeyNumber)
    : Type 0 where
  id : List ℕ
  object : KeyObject
  known : get objects id ≡ Some object
  here : panel.key_of id object ≡ Some key
  there : other.key_of id object ≡ Some another

renamed_back : (panel other : Panel) (objects : Named KeyObject) (key another : KeyNumber)
    → IsRenamed panel other objects key another → IsRenamed other panel objects another key
renamed_back panel other objects key another r = record {
  id = r.id;
  object = r.object;
  known = r.known;
  here = r.there;
  there = r.here;
}

renamed_one : (panel other : Panel) (objects : Named KeyObject) → PanelsAlike panel other objects
    → (key m n : KeyNumber) → IsRenamed panel other objects key m
    → IsRenamed panel other objects key n → m ≡ n
renamed_one panel other objects alike key m n x y =
    let here : IsOneKey panel x.id x.object y.id y.object =
    record { key = key; first = x.here; second = y.here } in
    let there = (alike.one_key x.id x.object y.id y.object x.known y.known).0 here in
    same_Some m there.key (sym x.there ∙ there.first)
    ∙ same_Some there.key n (sym there.second ∙ y.there)

-- ---- what counts, and how many different keys
module _ (here there : Setting) (layout : Layout) (bundle : Contents) (step : Step)
    (alike : PanelsAlike here.panel there.panel layout.keys) where
  signs : (id payload : List ℕ) (c : Counted here layout bundle step id payload)
      → IsSigner there.panel c.envelope c.object id
  signs id payload c = signed_there here.panel there.panel layout.keys alike c.envelope id c.object
      c.key c.known c.signed

  abbrev counted_there : (id payload : List ℕ) → Counted here layout bundle step id payload
      → Counted there layout bundle step id payload
  counted_there id payload c = record {
    file = c.file;
    envelope = c.envelope;
    object = c.object;
    key = (signs id payload c).0;
    body = c.body;
    stands = c.stands;
    claimed = c.claimed;
    is_envelope = c.is_envelope;
    type_is = c.type_is;
    payload_is = c.payload_is;
    listed = c.listed;
    known = c.known;
    signed = (signs id payload c).1;
    reads = c.reads;
  }

  -- a key that counts does so under its other number
  abbrev CountsAs : KeyNumber → KeyNumber → Type 0
  CountsAs key another = IsRenamed here.panel there.panel layout.keys key another
      × KeyCounts there layout bundle step another

  counts_as : (key : KeyNumber) → KeyCounts here layout bundle step key → (another : KeyNumber)
      × CountsAs key another
  counts_as key k =
      let signed = signs k.id k.payload k.counted in (
        signed.0,
        (
          record {
            id = k.id;
            object = k.counted.object;
            known = k.counted.known;
            here = k.counted.signed.key ∙ ap Some k.key_is;
            there = signed.1.key;
          },
          record {
            id = k.id;
            payload = k.payload;
            counted = counted_there k.id k.payload k.counted;
            key_is = refl;
          },
        ),
      )

module _ (here there : Setting) (layout : Layout) (bundle : Contents) (step : Step)
    (alike : PanelsAlike here.panel there.panel layout.keys) where
  abbrev As : KeyNumber → KeyNumber → Type 0
  As = CountsAs here there layout bundle step alike

  back : PanelsAlike there.panel here.panel layout.keys
  back = panels_back here.panel there.panel layout.keys alike

  counts_back : (another : KeyNumber) → KeyCounts there layout bundle step another
      → (key : KeyNumber) × KeyCounts here layout bundle step key × As key another
  counts_back another k =
      let was = counts_as there here layout bundle step back another k in (
        was.0,
        was.1.1,
        (renamed_back there.panel here.panel layout.keys another was.0 was.1.0, k),
      )

  as_one : (key other another : KeyNumber) → As key other → As key another → other ≡ another
  as_one key other another x y =
      renamed_one here.panel there.panel layout.keys alike key other another x.0 y.0

  as_back : (key other another : KeyNumber) → As other key → As another key → other ≡ another
  as_back key other another x y =
      renamed_one there.panel here.panel layout.keys back key other another
      (renamed_back here.panel there.panel layout.keys other key x.0)
      (renamed_back here.panel there.panel layout.keys another key y.0)

  -- as many different keys are found
  found_there : (found : ℕ) → Found here layout bundle step found
      → Found there layout bundle step found
  found_there found f =
      let renaming = λ (key : KeyNumber) (c : Contains f.keys key).
      counts_as here there layout bundle step alike key ((f.are_those key).0 c) in
      record {
        keys = images As f.keys renaming;
        once = images_distinct As as_back f.keys renaming f.once;
        are_those = λ key. (
          λ c. (of_images As f.keys renaming key c).2.1,
          λ k. let was = counts_back key k in
              to_images As as_one f.keys renaming was.0 key ((f.are_those was.0).1 was.1) was.2,
        );
        number_is = length_images As f.keys renaming ∙ f.number_is;
      }

-- ---- layouts
-- what a layout comes to by one panel it comes to by the other
abbrev PanelsCome : Setting → Setting → ℕ → Type 0
PanelsCome here there depth = (layout : Layout) (bundle : Contents)
    → PanelsAlikeOver here.panel there.panel depth layout bundle
    → Comes depth layout here bundle there bundle

module _ (here there : Setting) (moment : here.moment ≡ there.moment) where
  moves_zero : (layout : Layout) (bundle : Contents)
      → PanelsAlikeOver here.panel there.panel 0 layout bundle
      → Moves layout (side_at here 0 bundle) (side_at there 0 bundle)
  moves_zero layout bundle over = record {
    expiry = subst (λ moment. layout.expires <ℤ moment) moment;
    bodies = λ step id payload c. counted_there here there layout bundle step over id payload;
    found = λ step found c. found_there here there layout bundle step over found;
    held = λ step id payload sublayout m c counted is x. x;
    failing = λ step id payload sublayout refusal c counted is x. x;
  }

  moves_more : (depth : ℕ) → PanelsCome here there depth → (layout : Layout) (bundle : Contents)
      → PanelsAlikeOver here.panel there.panel (suc depth) layout bundle
      → Moves layout (side_at here (suc depth) bundle) (side_at there (suc depth) bundle)
  moves_more depth inner layout bundle over =
      let below = λ (step : Step) (id payload : List ℕ) (sublayout : Layout)
      (c : Contains layout.steps step) (counted : Counted here layout bundle step id payload)
      (is : LayoutOf payload sublayout). inner sublayout (folder_of step.name id bundle)
      (over.1 step id sublayout
      (counted_sublayout here layout bundle step id payload sublayout c counted is)) in
      record {
        expiry = subst (λ moment. layout.expires <ℤ moment) moment;
        bodies = λ step id payload c. counted_there here there layout bundle step over.0 id payload;
        found = λ step found c. found_there here there layout bundle step over.0 found;
        held = λ step id payload sublayout m c counted is.
            (below step id payload sublayout c counted is).0 m;
        failing = λ step id payload sublayout refusal c counted is. ⊎_elim inl
            (λ x. inr (x.0, (below step id payload sublayout c counted is).1 refusal x.1));
      }

panels_come : (depth : ℕ) (here there : Setting) → here.moment ≡ there.moment
    → PanelsCome here there depth
panels_come zero here there moment layout bundle over =
    let back = over_back here.panel there.panel 0 layout bundle over in
    come 0 layout here bundle there bundle (moves_zero here there moment layout bundle over)
    (moves_zero there here (sym moment) layout bundle back)
panels_come (suc depth) here there moment layout bundle over =
    let back = over_back here.panel there.panel (suc depth) layout bundle over in
    come (suc depth) layout here bundle there bundle
    (moves_more here there moment depth (panels_come depth here there moment) layout bundle over)
    (moves_more there here (sym moment) depth (panels_come depth there here (sym moment)) layout
    bundle back)

-- by panels that are alike on all those keys a layout comes to the same
pub alike_panel_chains : (here there : Setting) (depth : ℕ) (layout : Layout) (bundle : Contents)
    → here.moment ≡ there.moment → PanelsAlikeOver here.panel there.panel depth layout bundle
    → HasSameOutcome depth layout here bundle there bundle
alike_panel_chains here there depth layout bundle moment over =
    let alike = alike_here here.panel there.panel depth layout bundle over in
    let back = over_back here.panel there.panel depth layout bundle over in
    let to = panels_come depth here there moment layout bundle over in
    let from = panels_come depth there here (sym moment) layout bundle back in
    record {
      chain = λ m. (to.0 m, from.0 m);
      first = λ refusal. (to.1 refusal, from.1 refusal);
      found = λ step found c. (
        found_there here there layout bundle step alike found,
        found_there there here layout bundle step
            (panels_back here.panel there.panel layout.keys alike) found,
      );
    }
