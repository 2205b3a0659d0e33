-- What counts alike in two bundles comes to the same over them, at every depth.
use Rattle.std.proofs.Common.{◌≡◌, ℕ, zero, suc, List, inl, inr, ⊎_elim, Contains, sym, ap, subst}
use Rattle.std.proofs.Common.{◌∙◌}
use Rattle.std.proofs.lemmas.Option.{same_Some}
use Rattle.it_dsse.specs.Envelope.{EnvelopeOf}
use Rattle.it_dsse.specs.Panel.{KeyNumber}
use Rattle.it_docs.specs.Layout.{LayoutOf}
use Rattle.it_docs.specs.declared.layout.Layout.{Layout}
use Rattle.it_docs.specs.declared.step.Step.{Step}
use Rattle.it_chain.specs.Alike.{ChainAlike, Comparing, HasSameOutcome, FoldersCompare, HasCopies}
use Rattle.it_chain.specs.Alike.{LevelWithin, ChainWithin, any_two, deeper_alike}
use Rattle.it_chain.specs.Contents.{Contents}
use Rattle.it_chain.specs.CountedBodies.{Setting, Counted}
use Rattle.it_chain.specs.Threshold.{KeyCounts, Found}
use Rattle.it_chain.specs.Sublayouts.{folder_of}
use Rattle.it_chain.proofs.Sides.{Comes, Moves, come, side_at}

-- an id's key is one
pub one_key : (setting : Setting) (layout : Layout) (a b : Contents) (step : Step)
    (id payload other : List ℕ) (x : Counted setting layout a step id payload)
    (y : Counted setting layout b step id other) → x.key ≡ y.key
one_key setting layout a b step id payload other x y =
    let object : x.object ≡ y.object = same_Some x.object y.object (sym x.known ∙ y.known) in
    same_Some x.key y.key (sym x.signed.key ∙ ap (setting.panel.key_of id) object ∙ y.signed.key)

pub key_moved : (setting : Setting) (layout : Layout) (a b : Contents) (step : Step)
    → ((id payload : List ℕ) → Counted setting layout a step id payload
    → Counted setting layout b step id payload)
    → (key : KeyNumber) → KeyCounts setting layout a step key → KeyCounts setting layout b step key
key_moved setting layout a b step move key k = record {
  id = k.id;
  payload = k.payload;
  counted = move k.id k.payload k.counted;
  key_is = one_key setting layout b a step k.id k.payload k.payload (move k.id k.payload k.counted)
      k.counted ∙ k.key_is;
}

found_moved : (setting : Setting) (layout : Layout) (a b : Contents) (step : Step)
    → ((id payload : List ℕ) → Counted setting layout a step id payload
    → Counted setting layout b step id payload)
    → ((id payload : List ℕ) → Counted setting layout b step id payload
    → Counted setting layout a step id payload) → (found : ℕ)
    → Found setting layout a step found → Found setting layout b step found
found_moved setting layout a b step move back found f = record {
  keys = f.keys;
  once = f.once;
  are_those = λ key. (
    λ h. key_moved setting layout a b step move key ((f.are_those key).0 h),
    λ h. (f.are_those key).1 (key_moved setting layout b a step back key h),
  );
  number_is = f.number_is;
}

-- ---- alike bundles in one setting
moves_zero : (setting : Setting) (layout : Layout) (a b : Contents)
    → LevelWithin any_two setting layout a b → LevelWithin any_two setting layout b a
    → Moves layout (side_at setting 0 a) (side_at setting 0 b)
moves_zero setting layout a b h k = record {
  expiry = λ x. x;
  bodies = h.bodies;
  found = λ step found c. found_moved setting layout a b step
      (λ id payload. h.bodies step id payload c) (λ id payload. k.bodies step id payload c) found;
  held = λ step id payload sublayout m c counted is x. x;
  failing = λ step id payload sublayout refusal c counted is x. x;
}

-- what a layout comes to over one bundle it comes to over an alike one
abbrev Transports : Setting → ℕ → Type 0
Transports setting depth = (layout : Layout) (a b : Contents) → ChainAlike setting depth layout a b
    → Comes depth layout setting a setting b

moves_more : (setting : Setting) (depth : ℕ) → Transports setting depth
    → (layout : Layout) (a b : Contents) → ChainAlike setting (suc depth) layout a b
    → Moves layout (side_at setting (suc depth) a) (side_at setting (suc depth) b)
moves_more setting depth inner layout a b h =
    let deeper = λ (step : Step) (id payload : List ℕ) (sublayout : Layout)
    (c : Contains layout.steps step) (counted : Counted setting layout a step id payload)
    (is : LayoutOf payload sublayout).
    inner sublayout (folder_of step.name id a) (folder_of step.name id b) (
      h.0.folders step id payload sublayout c counted is,
      h.1.folders step id payload sublayout c
          (h.0.bodies step id payload c counted) is,
    ) in
    record {
      expiry = λ x. x;
      bodies = h.0.bodies;
      found = λ step found c. found_moved setting layout a b step
          (λ id payload. h.0.bodies step id payload c)
          (λ id payload. h.1.bodies step id payload c) found;
      held = λ step id payload sublayout m c counted is.
          (deeper step id payload sublayout c counted is).0 m;
      failing = λ step id payload sublayout refusal c counted is. ⊎_elim inl
          (λ x. inr (x.0, (deeper step id payload sublayout c counted is).1 refusal x.1));
    }

transports : (setting : Setting) (depth : ℕ) → Transports setting depth
transports setting zero layout a b h =
    come 0 layout setting a setting b (moves_zero setting layout a b h.0 h.1)
    (moves_zero setting layout b a h.1 h.0)
transports setting (suc depth) layout a b h =
    come (suc depth) layout setting a setting b
    (moves_more setting depth (transports setting depth) layout a b h)
    (moves_more setting depth (transports setting depth) layout b a (h.1, h.0))

bodies_within : (setting : Setting) (depth : ℕ) (layout : Layout) (a b : Contents)
    → ChainWithin setting depth layout a b → (step : Step) → Contains layout.steps step
    → (id payload : List ℕ)
    → Counted setting layout a step id payload → Counted setting layout b step id payload
bodies_within setting zero layout a b h step c id payload = h.bodies step id payload c
bodies_within setting (suc depth) layout a b h step c id payload = h.bodies step id payload c

-- alike bundles come to the same
pub alike_chains : (setting : Setting) (depth : ℕ) (layout : Layout) (a b : Contents)
    → ChainAlike setting depth layout a b → HasSameOutcome depth layout setting a setting b
alike_chains setting depth layout a b h =
    let to = transports setting depth layout a b h in
    let from = transports setting depth layout b a (h.1, h.0) in
    let there = bodies_within setting depth layout a b h.0 in
    let back = bodies_within setting depth layout b a h.1 in
    record {
      chain = λ m. (to.0 m, from.0 m);
      first = λ refusal. (to.1 refusal, from.1 refusal);
      found = λ step found c. (
        found_moved setting layout a b step (there step c)
            (back step c) found,
        found_moved setting layout b a step (back step c)
            (there step c) found,
      );
    }

-- what counts does so by a copy of its file
copied : (setting : Setting) (layout : Layout) (a b : Contents) → HasCopies setting layout a b
    → (step : Step) (id payload : List ℕ) → Contains layout.steps step
    → Counted setting layout a step id payload → Counted setting layout b step id payload
copied setting layout a b copies step id payload c counted =
    let copy = copies step id payload c counted in
    record {
      file = copy.copy;
      envelope = counted.envelope;
      object = counted.object;
      key = counted.key;
      body = counted.body;
      stands = copy.stands;
      claimed = copy.claimed;
      is_envelope = subst (λ bytes. EnvelopeOf bytes counted.envelope) (sym copy.same_bytes)
          counted.is_envelope;
      type_is = counted.type_is;
      payload_is = counted.payload_is;
      listed = counted.listed;
      known = counted.known;
      signed = counted.signed;
      reads = counted.reads;
    }

level_within : (sub : Comparing) (setting : Setting) (layout : Layout) (a b : Contents)
    → HasCopies setting layout a b → FoldersCompare sub setting layout a b
    → LevelWithin sub setting layout a b
level_within sub setting layout a b copies folders = record {
  bodies = copied setting layout a b copies;
  folders = folders;
}

-- bundles that have copies of each other's files that count are alike
pub noise_alike : (setting : Setting) (depth : ℕ) (layout : Layout) (a b : Contents)
    → HasCopies setting layout a b → HasCopies setting layout b a
    → FoldersCompare (deeper_alike setting depth) setting layout a b
    → ChainAlike setting depth layout a b
noise_alike setting zero layout a b there back folders = (
  level_within any_two setting layout a b there folders,
  level_within any_two setting layout b a back (λ step id payload sublayout c counted is. tt),
)
noise_alike setting (suc depth) layout a b there back folders = (
  level_within (ChainWithin setting depth) setting layout a b there
      (λ step id payload sublayout c counted is.
      (folders step id payload sublayout c counted is).0),
  level_within (ChainWithin setting depth) setting layout b a back
      (λ step id payload sublayout c counted is. (folders step id payload sublayout c
      (copied setting layout b a back step id payload c counted) is).1),
)
