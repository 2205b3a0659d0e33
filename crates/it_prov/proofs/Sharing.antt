-- Answers that serve all builders with the same keys.
use Rattle.std.proofs.Common.{◌≡◌, ◌∙◌, ◌*◌, ◌<◌, ◌≤◌, ◌==◌, ◌||◌, ℕ, List, Bool, true, false, Option}
use Rattle.std.proofs.Common.{None, Some, Any, Contains, IsSome, IsTrue, ap, arith, if◌then◌else◌}
use Rattle.std.proofs.Common.{is_some, length, map, option_map, refl, subst, sym, unwrap_or}
use Rattle.std.specs.Borrow.{Bor}
use Rattle.std.specs.BTreeMap.{get as at_key}
use Rattle.std.specs.FinMap.{get, len}
use Rattle.std.specs.List.{slice_get}
use Rattle.std.specs.Ordering.{nat_cmp}
use Rattle.std.proofs.lemmas.Bool.{false≢true, or_left, or_right}
use Rattle.std.proofs.lemmas.Option.{none-some, same_Some, slice_get_within}
use Rattle.it_base.specs.Table.{Named}
use Rattle.it_dsse.specs.Meter.{RaisedBy}
use Rattle.it_dsse.specs.Panel.{Panel}
use Rattle.it_dsse.specs.declared.envelope.Envelope.{Envelope}
use Rattle.it_dsse.specs.declared.key_object.KeyObject.{KeyObject}
use Rattle.it_docs.specs.declared.policy.Builder.{Builder}
use Rattle.it_docs.specs.declared.policy.Expectation.{Expectation}
use Rattle.it_prov.specs.Answered.{AreAllAnswers, AreAnswers, IsAnswer, IsAskedOfBuilder, unasked}
use Rattle.it_prov.specs.Meets.{SignedByBuilder}
use Rattle.it_prov.specs.declared.answers.Answer.{Answer}
use Rattle.it_prov.specs.declared.some_answers.SomeAnswers.{SomeAnswers}
use Rattle.it_prov.specs.inside.Distinct.{AllHaveSameAt, AreAsked, HasSameAt, HaveSameAt}
use Rattle.it_prov.specs.inside.Possible.{ArePossible, CanSign}
use Rattle.it_prov.specs.inside.Shared.{AreAnswersFor, HoldAnswers, IsAnswerAt, SignedAt, SomeSigned}
use Rattle.it_prov.specs.inside.Shared.{TellsSigned, answer_at, answers_at, not_signed}
use Rattle.it_prov.proofs.Asking.{raised_as, raised_none}
use Rattle.it_prov.proofs.Holding.{zip_mapped}
use Rattle.it_prov.proofs.Images.{in_images, of_images}
use Rattle.it_prov.proofs.Possible.{signer_can}

none_some_of : {T : Type 0} (found : Option T) → IsSome found → found ≡ None → ⊥
none_some_of found some none = false≢true (sym (ap is_some none) ∙ some)

-- ---- a builder with the same keys has the same answer
module _ (panel : Panel) (envelope : Envelope) where
  signed_as : (one other : Builder) → one.keys ≡ other.keys → SignedByBuilder panel envelope one
      → SignedByBuilder panel envelope other
  signed_as one other same h = record {
    id = h.id;
    object = h.object;
    key = h.key;
    is_key = subst (λ (ks : Named KeyObject). get ks h.id ≡ Some h.object) same h.is_key;
    signed = h.signed;
  }

  asked_as : (one other : Builder) (n : ℕ) → one.keys ≡ other.keys
      → IsAskedOfBuilder panel envelope one n → IsAskedOfBuilder panel envelope other n
  unfolding signed_as
  asked_as one other n same h = record {
    signed = signed_as one other same h.signed;
    tried = h.tried;
  }

  answer_as : (one other : Builder) (answer : Answer) → one.keys ≡ other.keys
      → IsAnswer panel envelope one answer → IsAnswer panel envelope other answer
  answer_as one other answer same h = record {
    answer = (
      λ yes. signed_as one other same (h.answer.0 yes),
      λ signs. h.answer.1 (signed_as other one (sym same) signs),
    );
    at_most = subst (λ (ks : Named KeyObject).
        RaisedBy (λ n. n ≤ len ks * length envelope.signatures) unasked answer.asked) same
        h.at_most;
    at_least = λ yes. raised_as (IsAskedOfBuilder panel envelope one)
        (IsAskedOfBuilder panel envelope other) (λ n. asked_as one other n same) unasked
        answer.asked (h.at_least yes);
  }

  -- ---- a builder that cannot have signed has an answer without asking
  pub not_asked : (builder : Builder) → ¬ CanSign envelope builder
      → IsAnswer panel envelope builder not_signed
  not_asked builder cannot = record {
    answer = (
      λ yes. absurd (false≢true yes),
      λ signs. absurd (cannot (signer_can panel envelope builder signs)),
    );
    at_most = raised_none _ unasked unasked refl;
    at_least = λ yes. absurd (false≢true yes);
  }

  -- ---- the answers of the builders that were asked serve all
  module _ (distinct : List (Bor Builder)) (answers : SomeAnswers)
      (h : AreAnswersFor panel envelope distinct answers) where
    serves_by : (builder : Builder) (place : ℕ) (found : Option (Bor Builder))
        → slice_get distinct place ≡ found
        → option_map (λ (b : Bor Builder). b.now.keys) found ≡ Some builder.keys
        → IsAnswer panel envelope builder (answer_at answers place)
    serves_by builder place None is same = cc
    serves_by builder place (Some b) is same =
        answer_as b.now builder (answer_at answers place)
        (same_Some b.now.keys builder.keys same) (h.each place b is)

    answer_serves : (builder : Builder) (place : ℕ) → HasSameAt distinct builder place
        → IsAnswer panel envelope builder (answer_at answers place)
    answer_serves builder place same =
        serves_by builder place (slice_get distinct place) refl same

    pub answers_serve : (expectations : List Expectation) (lists : List (List ℕ))
        → AllHaveSameAt distinct expectations lists
        → AreAllAnswers panel envelope expectations (map (answers_at answers) lists)
    answers_serve =
        zip_mapped (λ (e : Expectation) places. HaveSameAt distinct e.builders places)
        (λ (e : Expectation) of_one. AreAnswers panel envelope e.builders of_one)
        (answers_at answers)
        (λ e places. zip_mapped (HasSameAt distinct) (IsAnswer panel envelope) (answer_at answers)
        answer_serves e.builders places)

    -- ---- some builder signed if some builder that was asked did
    some_shared : (expectations : List Expectation) (lists : List (List ℕ))
        → AreAsked expectations distinct lists → IsTrue answers.some_signed
        → Any SomeSigned (map (answers_at answers) lists)
    some_shared expectations lists asked told =
        let some = h.some told in
        let place = some.0 in
        let signed = some.1 in
        let at = asked.used place (slice_get_within distinct place signed.builder signed.stands) in
        let of_one = in_images (answers_at answers) lists at.0 at.1 in
        let one = in_images (answer_at answers) at.0 place at.2 in (
          of_one.0,
          answers_at answers at.0,
          of_one.1,
          of_one.2,
          (
            one.0,
            answer_at answers place,
            one.1,
            one.2,
            (h.each place signed.builder signed.stands).answer.1 signed.signed,
          ),
        )

    some_distinct : (lists : List (List ℕ)) → Any SomeSigned (map (answers_at answers) lists)
        → IsTrue answers.some_signed
    some_distinct lists some =
        let of_one = of_images (answers_at answers) lists some.0 some.1 some.2 some.3 in
        let signed : SomeSigned (answers_at answers of_one.0) =
        subst SomeSigned (sym of_one.2) some.4 in
        let one = of_images (answer_at answers) of_one.0 signed.0 signed.1 signed.2 signed.3 in
        h.none one.0 (subst (λ (a : Answer). IsTrue a.signed) (sym one.2) signed.4)

    pub tells_signed : (expectations : List Expectation) (lists : List (List ℕ))
        → AreAsked expectations distinct lists → TellsSigned answers lists
    tells_signed expectations lists asked =
        (some_shared expectations lists asked, some_distinct lists)

  -- ---- the answers, one after another
  module _ (distinct : List (Bor Builder)) where
    pub none_held : (answers : SomeAnswers)
        → ((place : ℕ) → at_key nat_cmp answers.by_place place ≡ None)
        → answers.some_signed ≡ false → HoldAnswers panel envelope distinct answers
    none_held answers none unsigned = record {
      each = λ place answer is. absurd (none-some answer (sym (none place) ∙ is));
      some = λ yes. absurd (false≢true (sym unsigned ∙ yes));
      none = λ place answer is yes. absurd (none-some answer (sym (none place) ∙ is));
    }

    module _ (place : ℕ) (builder : Bor Builder) (answer : Answer) (old new : SomeAnswers)
        (stands : slice_get distinct place ≡ Some builder)
        (is : IsAnswer panel envelope builder.now answer)
        (at : (other : ℕ) → at_key nat_cmp new.by_place other
        ≡ (if place == other then Some answer else at_key nat_cmp old.by_place other))
        (signed : new.some_signed ≡ (old.some_signed || answer.signed))
        (held : HoldAnswers panel envelope distinct old) where
      each_by : (other : ℕ) (found : Answer) (b : Bool) → (place == other) ≡ b
          → (if b then Some answer else at_key nat_cmp old.by_place other) ≡ Some found
          → IsAnswerAt panel envelope distinct other found
      each_by other found true here known = record {
        builder = builder;
        stands = subst (λ n. slice_get distinct n ≡ Some builder) (same_place here) stands;
        is = subst (IsAnswer panel envelope builder.now) (same_Some answer found known) is;
      } where
        same_place : (place == other) ≡ true → place ≡ other
        same_place e = grind (arith, e)
      each_by other found false here known = held.each other found known

      some_by : (before now : Bool) → old.some_signed ≡ before → answer.signed ≡ now
          → IsTrue (before || now) → (p : ℕ) × SignedAt panel envelope distinct p
      some_by true now was says told = held.some was
      some_by false true was says told = (
        place,
        record { builder = builder; stands = stands; signed = is.answer.0 says },
      )
      some_by false false was says told = absurd (false≢true told)

      none_by : (other : ℕ) (found : Answer) (b : Bool) → (place == other) ≡ b
          → (if b then Some answer else at_key nat_cmp old.by_place other) ≡ Some found
          → IsTrue found.signed → IsTrue (old.some_signed || answer.signed)
      none_by other found true here known told =
          or_right old.some_signed answer.signed
          (subst (λ (a : Answer). IsTrue a.signed) (sym (same_Some answer found known)) told)
      none_by other found false here known told =
          or_left old.some_signed answer.signed (held.none other found known told)

      pub one_more_held : HoldAnswers panel envelope distinct new
      one_more_held = record {
        each = λ other found known.
            each_by other found (place == other) refl (sym (at other) ∙ known);
        some = λ yes. some_by old.some_signed answer.signed refl refl (sym signed ∙ yes);
        none = λ other found known yes. signed
            ∙ none_by other found (place == other) refl (sym (at other) ∙ known) yes;
      }

    -- all that can have signed were asked
    module _ (places : List ℕ) (answers : SomeAnswers)
        (possible : ArePossible envelope distinct places)
        (held : HoldAnswers panel envelope distinct answers)
        (asked : (place : ℕ) → Contains places place → place < length distinct
        → IsSome (at_key nat_cmp answers.by_place place)) where
      each_of : (place : ℕ) (builder : Bor Builder) → slice_get distinct place ≡ Some builder
          → (found : Option Answer) → at_key nat_cmp answers.by_place place ≡ found
          → IsAnswer panel envelope builder.now (unwrap_or found not_signed)
      each_of place builder stands None known = not_asked builder.now (λ can.
          none_some_of (at_key nat_cmp answers.by_place place) (asked place (possible place builder stands can)
          (slice_get_within distinct place builder stands)) known)
      each_of place builder stands (Some answer) known =
          let at = held.each place answer known in
          subst (λ (b : Bor Builder). IsAnswer panel envelope b.now answer)
          (same_Some at.builder builder (sym at.stands ∙ stands)) at.is

      none_of : (place : ℕ) (found : Option Answer) → at_key nat_cmp answers.by_place place ≡ found
          → IsTrue (unwrap_or found not_signed).signed → IsTrue answers.some_signed
      none_of place None known told = absurd (false≢true told)
      none_of place (Some answer) known told = held.none place answer known told

      pub all_answered : AreAnswersFor panel envelope distinct answers
      all_answered = record {
        each = λ place builder stands.
            each_of place builder stands (at_key nat_cmp answers.by_place place) refl;
        some = held.some;
        none = λ place. none_of place (at_key nat_cmp answers.by_place place) refl;
      }
