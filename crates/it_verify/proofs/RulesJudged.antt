-- How the rules of inspections are judged, one inspection after the other.
use Rattle.std.proofs.Common.{◌≡◌, ◌⊎◌, List, [], ◌∷◌, ◌++◌, flat_map, zip, length, inl, inr}
use Rattle.std.proofs.Common.{⊎_elim, refl, sym, subst, arith}
use Rattle.std.specs.List.{AllByRecursion, AllZip}
use Rattle.it_base.specs.Places.{IsFirst}
use Rattle.it_docs.specs.declared.link.Link.{Link}
use Rattle.it_docs.specs.declared.rule.Side.TheVariants.{Materials, Products}
use Rattle.it_docs.specs.declared.step.Inspection.{Inspection}
use Rattle.it_rules.specs.Item.{Links}
use Rattle.it_rules.specs.Rules.{RulesHold}
use Rattle.it_verify.specs.Inspections.{InspectionFails, sides_of}
use Rattle.it_verify.specs.inside.Inspections.{SideFails}
use Rattle.it_verify.specs.Inspections.{InspectionRulesHold, recorded_in}
use Rattle.it_verify.specs.inside.Failures.{RefusedAs}
use Rattle.it_verify.specs.declared.failure.Failure.{Failure}
use Rattle.it_report.specs.declared.refusal.Refusal.{Refusal}
use Rattle.it_verify.proofs.Failures.{refused_weaker}

-- lists of which one is empty
pub zip_over : {X Y : Type 0} (xs : List X) (ys : List Y) → (length xs ≡ 0) ⊎ (length ys ≡ 0)
    → zip xs ys ≡ []
zip_over [] ys h = refl
zip_over (x ∷ xs) [] h = refl
zip_over (x ∷ xs) (y ∷ ys) h = absurd (⊎_elim (λ e. omega (arith, e)) (λ e. omega (arith, e)) h)

module _ (links : Links) where
  abbrev pub Hold : List (Inspection × Link) → Type 0
  Hold = AllByRecursion (λ p. InspectionRulesHold links p.0 p.1)

  -- the rules of both sides
  pub both_hold : (inspection : Inspection) (link : Link)
      → RulesHold inspection.expected_materials Materials (recorded_in link) links
      → RulesHold inspection.expected_products Products (recorded_in link) links
      → InspectionRulesHold links inspection link
  both_hold inspection link materials products Materials = materials
  both_hold inspection link materials products Products = products

  pub hold_more : (done : List (Inspection × Link)) (p : Inspection × Link) → Hold done
      → InspectionRulesHold links p.0 p.1 → Hold (done ++ p ∷ [])
  hold_more [] p h last = (last, tt)
  hold_more (d ∷ done) p h last = (h.0, hold_more done p h.1 last)

  pub hold_zip : (inspections : List Inspection) (given : List Link) (Has : Inspection → Link
      → Type 0) → AllZip Has inspections given → Hold (zip inspections given)
      → AllZip (InspectionRulesHold links) inspections given
  hold_zip [] [] Has h all = tt
  hold_zip [] (l ∷ ls) Has h all = absurd h
  hold_zip (i ∷ is) [] Has h all = absurd h
  hold_zip (i ∷ is) (l ∷ ls) Has h all = (all.0, hold_zip is ls Has h.1 all.1)

  first_behind : (done rest : List (Inspection × Link)) (r : Refusal) → Hold done
      → IsFirst (InspectionFails links) (flat_map sides_of rest) r → IsFirst (InspectionFails links)
      (flat_map sides_of (done ++ rest)) r
  first_behind [] rest r h first = first
  first_behind (d ∷ done) rest r h first =
      inr (
        λ q x. x.2.fails (h.0 Materials x.0),
        inr (λ q x. x.2.fails (h.0 Products x.0), first_behind done rest r h.1 first),
      )

  module _ (pairs done rest : List (Inspection × Link)) (inspection : Inspection) (link : Link)
      (all : pairs ≡ done ++ (inspection, link) ∷ rest) (hold : Hold done) where
    abbrev First : List (Inspection × Link) → Refusal → Type 0
    First some = IsFirst (InspectionFails links) (flat_map sides_of some)

    behind : (r : Refusal) → First ((inspection, link) ∷ rest) r → First pairs r
    behind r first = subst (λ ps. First ps r) (sym all)
        (first_behind done ((inspection, link) ∷ rest) r hold first)

    -- the rules of an inspection fail on a side, where those before it hold
    pub materials_fail : (e : Failure)
        → RefusedAs (SideFails links inspection.name Materials inspection.expected_materials link) e
        → RefusedAs (First pairs) e
    materials_fail e = refused_weaker
        (SideFails links inspection.name Materials inspection.expected_materials link)
        (First pairs) e (λ r x. behind r (inl x))

    pub products_fail : (e : Failure) → RulesHold inspection.expected_materials Materials
        (recorded_in link) links
        → RefusedAs (SideFails links inspection.name Products inspection.expected_products link) e
        → RefusedAs (First pairs) e
    products_fail e materials =
        refused_weaker (SideFails links inspection.name Products inspection.expected_products link)
        (First pairs) e (λ r x. behind r (inr (λ q y. y.2.fails (materials y.0), inl x)))
