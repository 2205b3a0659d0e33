-- What the crates below answer, as functions that are right.
use Rattle.std.proofs.Common.{◌≡◌, ◌≢◌, ℕ, ◌+◌, ◌-◌, List, [], ◌++◌, length, take, drop, Bool, ◌&&◌}
use Rattle.std.proofs.Common.{not, eqb, eqb-true, eq-eqb, codes, Decides, Contains, arith, sym, ap}
use Rattle.std.proofs.Common.{subst, ◌∙◌, length-append, append_assoc, drop_at, take_at}
use Rattle.std.specs.Set.{is_member}
use Rattle.std.specs.Str.{bytes_eq}
use Rattle.std.proofs.lemmas.Bool.Decides.{Decides-and, Decides-like, Decides-not}
use Rattle.std.proofs.lemmas.Map.Made.{is_member-Decides}
use Rattle.std.proofs.lemmas.Slice.Eq.{bytes_eq-Decides}
use Rattle.it_digest.proofs.Decided.{is_same_map, is_same_map-Decides}
use Rattle.it_dsse.proofs.Decided.{envelope_of, envelope_of-finds}
use Rattle.it_docs.proofs.LayoutDecided.{layout_of, layout_of-finds}
use Rattle.it_docs.proofs.LinkDecided.{link_of, link_of-finds}
use Rattle.it_rules.specs.Item.{Recorded}
use Rattle.it_rules.proofs.FaultDecided.{fault_of, fault_of-is}
use Rattle.it_chain.specs.Lower.{AnswersRight, Lower}
use Rattle.it_chain.specs.ClaimedFiles.{IsClaimed}

-- what stands between a step's name with a full stop, and the last five bytes
abbrev middle_of : List ℕ → List ℕ → List ℕ
middle_of step name = take (length name - (length step + 6)) (drop (length step + 1) name)

-- decides `IsClaimed`
abbrev is_claimed : List ℕ → List ℕ → Bool
is_claimed step name =
    let middle = middle_of step name in
    bytes_eq name (step ++ codes "." ++ middle ++ codes ".link")
    && (not (bytes_eq middle []) && not (is_member eqb middle 46))

-- decides whether two records are equal
abbrev is_same : Recorded → Recorded → Bool
is_same a b = is_same_map a.materials b.materials && is_same_map a.products b.products

-- the deciding functions of the crates below
pub the_lower : Lower
the_lower = record {
  is_claimed = is_claimed;
  envelope_of = envelope_of;
  link_of = link_of;
  layout_of = layout_of;
  is_same = is_same;
  fault_of = fault_of;
}

middle_found : (step middle : List ℕ) → middle_of step (step ++ codes "." ++ middle
    ++ codes ".link") ≡ middle
middle_found step middle =
    let front = step ++ codes "." in
    let one_more : length front ≡ length step + 1 = length-append step (codes ".") in
    let rest : drop (length step + 1) (front ++ middle ++ codes ".link") ≡ middle ++ codes ".link" =
    ap (drop (length step + 1)) (append_assoc front middle (codes ".link"))
    ∙ drop_at front (middle ++ codes ".link") (length step + 1) one_more in
    let long : length middle ≡ length (front ++ middle ++ codes ".link") - (length step + 6) =
    omega (
      arith,
      one_more,
      length-append (front ++ middle) (codes ".link"),
      length-append front middle,
    ) in
    rw rest (take_at middle (codes ".link") _ long)

abbrev HasMiddle : List ℕ → List ℕ → List ℕ → Type 0
HasMiddle step name middle = (name ≡ step ++ codes "." ++ middle ++ codes ".link")
    × ((middle ≢ []) × ¬ Contains middle 46)

has_middle : (step name : List ℕ) → IsClaimed step name → HasMiddle step name (middle_of step name)
has_middle step name c =
    let same : c.middle ≡ middle_of step name = sym (middle_found step c.middle)
    ∙ ap (middle_of step) (sym c.name_is) in
    subst (HasMiddle step name) same (c.name_is, (c.not_empty, c.no_stop))

is_claimed-Decides : (step name : List ℕ) → Decides (is_claimed step name) (IsClaimed step name)
is_claimed-Decides step name =
    let middle = middle_of step name in
    Decides-like (is_claimed step name) (λ h. record {
      middle = middle;
      name_is = h.0;
      not_empty = h.1.0;
      no_stop = h.1.1;
    }) (has_middle step name)
    (Decides-and (bytes_eq name (step ++ codes "." ++ middle ++ codes ".link"))
    (not (bytes_eq middle []) && not (is_member eqb middle 46))
    (bytes_eq-Decides name (step ++ codes "." ++ middle ++ codes ".link"))
    (Decides-and (not (bytes_eq middle [])) (not (is_member eqb middle 46))
    (Decides-not (bytes_eq middle []) (bytes_eq-Decides middle []))
    (Decides-not (is_member eqb middle 46)
    (is_member-Decides (λ a b. (eqb-true a b, eq-eqb a b)) middle 46))))

is_same-Decides : (a b : Recorded) → Decides (is_same a b) (a ≡ b)
is_same-Decides a b =
    Decides-like (is_same a b) (λ h i. record { materials = h.0 i; products = h.1 i })
    (λ e. (ap (λ (r : Recorded). r.materials) e, ap (λ (r : Recorded). r.products) e))
    (Decides-and (is_same_map a.materials b.materials) (is_same_map a.products b.products)
    (is_same_map-Decides a.materials b.materials) (is_same_map-Decides a.products b.products))

-- they answer what the definitions say
pub the_lower-right : AnswersRight the_lower
unfolding the_lower
the_lower-right = record {
  claimed = is_claimed-Decides;
  envelope = envelope_of-finds;
  link = link_of-finds;
  layout = layout_of-finds;
  same = is_same-Decides;
  fault = λ rules side item links _. fault_of-is side item links rules;
}
