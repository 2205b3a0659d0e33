-- The records that the deciding functions list for a step are those of the ids that count, in the
-- order of the ids.
use Rattle.std.proofs.Common.{◌≡◌, ℕ, List, [], ◌∷◌, map, filter, Bool, true, false, cond, T}
use Rattle.std.proofs.Common.{Option, Some, None, inl, inr, bytes_eq, nat_cmp, Contains, refl, sym}
use Rattle.std.proofs.Common.{subst}
use Rattle.std.specs.Cmp.Lexicographic.{slice_cmp}
use Rattle.std.specs.FinMap.{entries, entries_sorted, get, is_sorted, keys}
use Rattle.std.specs.List.{list_any}
use Rattle.std.proofs.lemmas.Map.Made.{is_member-Decides}
use Rattle.std.proofs.lemmas.Slice.Eq.{bytes_eq-Decides}
use Rattle.it_dsse.specs.declared.key_object.KeyObject.{KeyObject}
use Rattle.it_docs.specs.declared.layout.Layout.{Layout}
use Rattle.it_docs.specs.declared.step.Step.{Step}
use Rattle.it_chain.specs.Answer.{Answering, id_answer, ids_answer, signers, with_record}
use Rattle.it_chain.specs.Contents.{Contents}
use Rattle.it_chain.specs.CountedBodies.{Setting, Counted}
use Rattle.it_chain.specs.First.{Failing, ChainPlace, IsBefore, at_id, StandsInChain}
use Rattle.it_chain.specs.Level.{Holding}
use Rattle.it_chain.specs.Lower.{Lower, AnswersRight}
use Rattle.it_chain.specs.inside.IdRecords.{AreRecords, Gives, InOrder, IsGiven}
use Rattle.it_chain.specs.declared.record.IdRecord.{IdRecord}
use Rattle.it_chain.specs.declared.refusal.ChainRefusal.{ChainRefusal}
use Rattle.it_chain.proofs.Entries.{first_below, entry_known, known_entry}
use Rattle.it_chain.proofs.Ids.{Sublayouts, none_of_given, tells_id}
use Rattle.it_chain.proofs.Members.{in_head, in_tail, in_cases, in_none}
use Rattle.it_chain.proofs.Orders.{one_before}
use Rattle.it_chain.proofs.Outcomes.{Tells, tells_behind, tells_then, tells_made, tells_weaker}

-- no record is before the first
pub none_before : (first : IdRecord) (others : List IdRecord) → InOrder (first ∷ others)
    → (r : IdRecord) → Contains (first ∷ others) r → ¬ IsBefore r.id first.id
none_before first others in_order r c before = elim (in_cases first others r c) [
  | inl head ↦ let itself : IsBefore r.id r.id =
      subst (λ (x : IdRecord). IsBefore r.id x.id) head before in one_before r.id r.id itself itself
  | inr later ↦ one_before first.id r.id (in_order.0 r later) before
]

-- whether a step lists the id of an entry
abbrev pub is_listed : Step → List ℕ × KeyObject → Bool
is_listed step entry = list_any (bytes_eq entry.0) step.pubkeys

module _ (sub : Holding) (setting : Setting) (layout : Layout) (bundle : Contents)
    (step : Step) where
  -- an id that the step does not list
  pub gives_none : (e : List ℕ × KeyObject) → is_listed step e ≡ false
      → Gives sub setting layout bundle step e.0 None
  gives_none e unlisted payload c =
      let is : is_listed step e ≡ true = (is_member-Decides bytes_eq-Decides step.pubkeys e.0).1
      c.listed in
      cc

  -- the records of entries of the map of keys
  abbrev pub AreOf : List (List ℕ × KeyObject) → List IdRecord → Type 0
  AreOf [] records = records ≡ []
  AreOf (e ∷ es) records = (given : Option IdRecord) × (rest : List IdRecord)
      × (records ≡ with_record given rest) × Gives sub setting layout bundle step e.0 given
      × AreOf es rest

  each_given : (e : List ℕ × KeyObject) (es : List (List ℕ × KeyObject)) (given : Option IdRecord)
      (rest : List IdRecord) → Gives sub setting layout bundle step e.0 given
      → ((r : IdRecord) → Contains rest r → (f : List ℕ × KeyObject) × Contains es f
      × IsGiven sub setting layout bundle step f.0 r)
      → (r : IdRecord) → Contains (with_record given rest) r → (f : List ℕ × KeyObject)
      × Contains (e ∷ es) f × IsGiven sub setting layout bundle step f.0 r
  each_given e es None rest gives later r c = let f = later r c in (f.0, in_tail e es f.0 f.1, f.2)
  each_given e es (Some q) rest gives later r c = elim (in_cases q rest r c) [
    | inl same ↦ (e, in_head e es, subst (IsGiven sub setting layout bundle step e.0) same gives)
    | inr among ↦ let f = later r among in (f.0, in_tail e es f.0 f.1, f.2)
  ]

  each_of : (es : List (List ℕ × KeyObject)) (records : List IdRecord) → AreOf es records
      → (r : IdRecord) → Contains records r → (e : List ℕ × KeyObject) × Contains es e
      × IsGiven sub setting layout bundle step e.0 r
  each_of [] records h r c = absurd (in_none r (subst (λ rs. Contains rs r) h c))
  each_of (e ∷ es) records h r c = each_given e es h.0 h.1 h.3 (each_of es h.1 h.4) r
      (subst (λ rs. Contains rs r) h.2 c)

  in_given : (given : Option IdRecord) (rest : List IdRecord) (r : IdRecord) → Contains rest r
      → Contains (with_record given rest) r
  in_given None rest r c = c
  in_given (Some q) rest r c = in_tail q rest r c

  the_given : (id payload : List ℕ) (given : Option IdRecord) (rest : List IdRecord)
      → Gives sub setting layout bundle step id given
      → Counted setting layout bundle step id payload
      → (r : IdRecord) × Contains (with_record given rest) r
      × IsGiven sub setting layout bundle step id r
  the_given id payload None rest gives c = absurd (gives payload c)
  the_given id payload (Some q) rest gives c = (q, in_head q rest, gives)

  all_of : (es : List (List ℕ × KeyObject)) (records : List IdRecord) → AreOf es records
      → (e : List ℕ × KeyObject) → Contains es e → (payload : List ℕ)
      → Counted setting layout bundle step e.0 payload
      → (r : IdRecord) × Contains records r × IsGiven sub setting layout bundle step e.0 r
  all_of [] records h e c payload counted = absurd (in_none e c)
  all_of (f ∷ es) records h e c payload counted = elim (in_cases f es e c) [
    | inl same ↦
        let r = the_given e.0 payload h.0 h.1
        (subst (λ (g : List ℕ × KeyObject). Gives sub setting layout bundle step g.0 h.0) same
        h.3) counted in
        (r.0, subst (λ rs. Contains rs r.0) (sym h.2) r.1, r.2)
    | inr later ↦
        let r = all_of es h.1 h.4 e later payload counted in
        (r.0, subst (λ rs. Contains rs r.0) (sym h.2) (in_given h.0 h.1 r.0 r.1), r.2)
  ]

  order_given : (e : List ℕ × KeyObject) (given : Option IdRecord) (rest : List IdRecord)
      → Gives sub setting layout bundle step e.0 given
      → ((r : IdRecord) → Contains rest r → IsBefore e.0 r.id) → InOrder rest
      → InOrder (with_record given rest)
  order_given e None rest gives before h = h
  order_given e (Some q) rest gives before h =
      (λ other c. subst (λ id. IsBefore id other.id) (sym gives.id_is) (before other c), h)

  order_of : (es : List (List ℕ × KeyObject)) (records : List IdRecord)
      → T (is_sorted (slice_cmp nat_cmp) es) → AreOf es records → InOrder records
  order_of [] records sorted h = subst InOrder (sym h) tt
  order_of (e ∷ es) records sorted h =
      let parts = first_below e es sorted in
      subst InOrder (sym h.2) (order_given e h.0 h.1 h.3
      (λ r c. let f = each_of es h.1 h.4 r c in subst (IsBefore e.0) (sym f.2.id_is)
      (parts.0 f.0 f.1))
      (order_of es h.1 parts.1 h.4))

  -- those of all its entries are those of the step
  pub are_records : (records : List IdRecord) → AreOf (entries layout.keys) records
      → AreRecords sub setting layout bundle step records
  are_records records h = record {
    each = λ r c. let e = each_of (entries layout.keys) records h r c in
        subst (λ id. IsGiven sub setting layout bundle step id r) (sym e.2.id_is) e.2;
    all = λ id payload c. all_of (entries layout.keys) records h (id, c.object)
        (known_entry layout.keys id c.object c.known) payload c;
    in_order = order_of (entries layout.keys) records (entries_sorted layout.keys) h;
  }

module _ (lower : Lower) (right : AnswersRight lower) (setting : Setting) (layout : Layout)
    (bundle : Contents) (answers : Answering) (sub : Holding) (fails : Failing)
    (inside : Sublayouts answers sub fails) (step : Step) where
  abbrev At : ChainPlace → ChainRefusal → Type 0
  At = StandsInChain sub fails setting layout bundle

  tells_entry : (e : List ℕ × KeyObject) (es : List (List ℕ × KeyObject)) (listed : Bool)
      → is_listed step e ≡ listed → get layout.keys e.0 ≡ Some e.1
      → Tells At (map (at_id step) (map (λ f. f.0) es)) (AreOf sub setting layout bundle step es)
      (ids_answer lower setting answers layout bundle step (filter (is_listed step) es))
      → Tells At (map (at_id step) (map (λ f. f.0) (e ∷ es)))
      (AreOf sub setting layout bundle step (e ∷ es))
      (ids_answer lower setting answers layout bundle step
      (cond listed (e ∷ filter (is_listed step) es) (filter (is_listed step) es)))
  tells_entry e es true is known rest =
      tells_then At (at_id step e.0 ∷ []) (map (at_id step) (map (λ f. f.0) es))
      (Gives sub setting layout bundle step e.0) (AreOf sub setting layout bundle step (e ∷ es))
      (id_answer lower setting answers layout bundle step e) _
      (tells_id lower right setting layout bundle step answers sub fails inside e.0 e.1
      ((is_member-Decides bytes_eq-Decides step.pubkeys e.0).0 is) known)
      (λ given none gives. tells_made At (map (at_id step) (map (λ f. f.0) es))
      (AreOf sub setting layout bundle step es) (AreOf sub setting layout bundle step (e ∷ es))
      (ids_answer lower setting answers layout bundle step (filter (is_listed step) es))
      (with_record given) rest
      (λ records none' are. (given, records, refl, gives, are)))
  tells_entry e es false unlisted known rest =
      let gives = gives_none sub setting layout bundle step e unlisted in
      tells_behind At (at_id step e.0 ∷ []) (map (at_id step) (map (λ f. f.0) es))
      (AreOf sub setting layout bundle step (e ∷ es))
      (ids_answer lower setting answers layout bundle step (filter (is_listed step) es)) (
        none_of_given sub setting layout bundle step fails inside.one inside.apart e.0 None gives,
        tt,
      )
      (tells_weaker At (map (at_id step) (map (λ f. f.0) es))
      (AreOf sub setting layout bundle step es) (AreOf sub setting layout bundle step (e ∷ es))
      (ids_answer lower setting answers layout bundle step (filter (is_listed step) es))
      (λ records are. (None, records, refl, gives, are)) rest)

  tells_entries : (es : List (List ℕ × KeyObject))
      → ((e : List ℕ × KeyObject) → Contains es e → get layout.keys e.0 ≡ Some e.1)
      → Tells At (map (at_id step) (map (λ f. f.0) es)) (AreOf sub setting layout bundle step es)
      (ids_answer lower setting answers layout bundle step (filter (is_listed step) es))
  tells_entries [] known = (tt, refl)
  tells_entries (e ∷ es) known = tells_entry e es (is_listed step e) refl (known e (in_head e es))
      (tells_entries es (λ f c. known f (in_tail e es f c)))

  -- the records of a step are what is answered, or the first place of its ids at which something
  -- stands
  pub tells_records : Tells At (map (at_id step) (keys layout.keys))
      (AreRecords sub setting layout bundle step)
      (ids_answer lower setting answers layout bundle step (signers layout step))
  tells_records =
      tells_weaker At (map (at_id step) (keys layout.keys))
      (AreOf sub setting layout bundle step (entries layout.keys))
      (AreRecords sub setting layout bundle step)
      (ids_answer lower setting answers layout bundle step
      (filter (is_listed step) (entries layout.keys)))
      (are_records sub setting layout bundle step)
      (tells_entries (entries layout.keys) (entry_known layout.keys))
