-- The table of the doubles of the base point.
use Rattle.std.proofs.Common.{◌≡◌, ◌⊎◌, inl, inr, ℕ, zero, suc, ◌+◌, ◌^◌, ◌<◌, Bool, true, false, ◌&&◌, nat_eq, nat_lt, List, [], ◌∷◌, ◌++◌, length, length-append, get_or, refl, sym, ap, ◌∙◌, add-one, arith}
use Rattle.std.proofs.Math.Seq.{get_or-append_seam}
use Rattle.std.proofs.lemmas.Bool.Decides.{nat_tests}
use Rattle.std.proofs.lemmas.List.{get_or_append_left}
use Rattle.it_ed_field.specs.Limbs.{number_of}
use Rattle.it_ed_point.specs.Curve.{base, double_of}
use Rattle.it_ed_point.specs.declared.point.Point.{Point}
use Rattle.it_ed_point.specs.declared.base_doubles.Limbs.{Limbs}
use Rattle.it_ed_point.specs.declared.base_doubles.Coordinates.{Coordinates}
use Rattle.it_ed_point.specs.declared.base_table.TheConstants.{BASE_DOUBLES}
use Rattle.it_ed_point.specs.inside.Doubles.{doubled, AreDoubles, HoldsNumber, HoldsPoint, number_in}

unfoldable are_limbs_of : Limbs → ℕ → Bool
are_limbs_of l n =
    nat_lt l.0 (2 ^ 51) && (nat_lt l.1 (2 ^ 51) && (nat_lt l.2 (2 ^ 51) && (nat_lt l.3 (2 ^ 51) && (nat_lt l.4 (2 ^ 51)
    && nat_eq (number_in l) n))))

unfoldable are_those_of : Coordinates → Point → Bool
are_those_of c p = are_limbs_of c.x p.x && (are_limbs_of c.y p.y && (are_limbs_of c.z p.z && are_limbs_of c.t p.t))

-- whether a list has a point's coordinates, those of its double, and so on
unfoldable are_doubles : Point → List Coordinates → Bool
are_doubles p [] = true
are_doubles p (c ∷ rest) = are_those_of c p && are_doubles (double_of p) rest

both : (a b : Bool) → (a && b) ≡ true → (a ≡ true) × (b ≡ true)
both true b e = (refl, e)
both false b e = absurd (cc)

limbs_held : (l : Limbs) (n : ℕ) → are_limbs_of l n ≡ true → HoldsNumber l n
unfolding are_limbs_of
limbs_held l n e = grind (arith, nat_tests)

point_held : (c : Coordinates) (p : Point) → are_those_of c p ≡ true → HoldsPoint c p
unfolding are_those_of
point_held c p e =
    let x = both (are_limbs_of c.x p.x) _ e in
    let y = both (are_limbs_of c.y p.y) _ x.1 in
    let z = both (are_limbs_of c.z p.z) _ y.1 in
    record {
      x = limbs_held c.x p.x x.0;
      y = limbs_held c.y p.y y.0;
      z = limbs_held c.z p.z z.0;
      t = limbs_held c.t p.t z.1;
    }

double_held : (i : ℕ) (p : Point) (list : List Coordinates) (other : Coordinates) → are_doubles p list ≡ true → i < length list
    → HoldsPoint (get_or list i other) (doubled i p)
unfolding are_doubles doubled
double_held i p [] other e below = absurd (omega arith)
double_held zero p (c ∷ rest) other e below = point_held c p (both (are_those_of c p) _ e).0
double_held (suc i) p (c ∷ rest) other e below =
    double_held i (double_of p) rest other (both (are_those_of c p) _ e).1 (omega arith)

table_is : are_doubles base BASE_DOUBLES ≡ true
unfolding are_doubles are_those_of are_limbs_of double_of number_of
table_is = refl

next : (i : ℕ) (p : Point) → doubled (suc i) p ≡ double_of (doubled i p)
unfolding doubled
next zero p = refl
next (suc i) p = next i (double_of p)

pub next_double : (i : ℕ) (p : Point) → doubled (i + 1) p ≡ double_of (doubled i p)
next_double i p = rw add-one (next i p)

pub table_held : (i : ℕ) (other : Coordinates) → i < 253 → HoldsPoint (get_or BASE_DOUBLES i other) (doubled i base)
table_held i other below = double_held i base BASE_DOUBLES other table_is below

pub no_doubles : (p : Point) → AreDoubles 0 p []
no_doubles p = record { many = refl; each = λ place other below. absurd (omega arith) }

pub more_doubles : (i : ℕ) (p s : Point) (ds : List Point) → AreDoubles i p ds → s ≡ doubled i p → AreDoubles (i + 1) p (ds ++ s ∷ [])
more_doubles i p s ds d e = record {
  many = length-append ds (s ∷ []) ∙ (let one : length ds + 1 ≡ i + 1 = rw d.many refl in one);
  each = λ place other below. at place other (last_or_earlier place i below);
}
  where
    last_or_earlier : (k n : ℕ) → k < n + 1 → (k < n) ⊎ (k ≡ n)
    last_or_earlier k n h = grind (arith)

    at : (place : ℕ) (other : Point) → (place < i) ⊎ (place ≡ i) → get_or (ds ++ s ∷ []) place other ≡ doubled place p
    at place other (inl earlier) =
        get_or_append_left ds (s ∷ []) other place (rw d.many earlier) ∙ d.each place other earlier
    at place other (inr last) =
        ap (λ (k : ℕ). get_or (ds ++ s ∷ []) k other) (last ∙ sym d.many) ∙ get_or-append_seam ds s [] other
        ∙ e ∙ ap (λ (k : ℕ). doubled k p) (sym last)

pub double_in : (place : ℕ) (p q r : Point) (ds : List Point) → AreDoubles 253 p ds → place < 253 → p ≡ q → r ≡ get_or ds place r
    → r ≡ doubled place q
double_in place p q r ds d below e f = f ∙ d.each place r below ∙ ap (doubled place) e
