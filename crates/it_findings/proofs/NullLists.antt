-- Lists of a document and members of its objects, one at a time.
use Rattle.std.proofs.Common.{◌≡◌, ◌∙◌, ℕ, zero, suc, ◌+◌, ◌<◌, ◌≤◌, List, [], ◌∷◌, ◌++◌, length, map}
use Rattle.std.proofs.Common.{take, take_all, get_or, is_some, true, false}
use Rattle.std.proofs.Common.{refl, sym, ap, subst, arith}
use Rattle.std.proofs.lemmas.Bool.{false≢true}
use Rattle.std.proofs.lemmas.List.{append-nil, length-map}
use Rattle.std.specs.declared.alloc.Global.{Global}
use Rattle.json.specs.Find as tree
use Rattle.json.specs.Json as json
use Rattle.json.specs.Value.{items_view}
use Rattle.json.specs.declared.value.Value.{Value}
use Rattle.serde_json.specs.Data.{Data, null, boolean, number, string, array, object, Members}
use Rattle.serde_json.specs.Data.{no_members, member}
use Rattle.serde_json.specs.Find.{as_null}
use Rattle.it_borrowed.specs.Tree.{as_data, data_of, data_of_items}
use Rattle.it_findings.specs.Joined.{Joined}
use Rattle.it_borrowed.specs.NamedMembers.{NamedMember, members_in}
use Rattle.it_findings.specs.NullKeys.{listed, null_ids}
use Rattle.it_findings.proofs.Joining.{joined_more}

listed_items : (vs : List (Value Global)) → listed (data_of_items (items_view vs)) ≡ map as_data vs
listed_items [] = refl
listed_items (v ∷ vs) = ap (λ ds. as_data v ∷ ds) (listed_items vs)

viewed : (vs : List (Value Global)) (i : ℕ) (v : Value Global) → i < length vs → v ≡ get_or vs i v
    → as_data v ≡ get_or (map as_data vs) i (as_data v)
viewed [] i v below here = absurd (omega (arith, below))
viewed (w ∷ vs) zero v below here = ap as_data here
viewed (w ∷ vs) (suc i) v below here = viewed vs i v (omega (arith, below)) here

-- what is said of the items so far, and then of the next one
pub joined_item : {F : Type 0} (R : ℕ → Data → List F → Type 0) (vs : List (Value Global)) (i : ℕ) (v : Value Global)
    (found here : List F) → i < length vs → v ≡ get_or vs i v
    → Joined R (take i (map as_data vs)) found → R i (as_data v) here
    → Joined R (take (i + 1) (map as_data vs)) (found ++ here)
joined_item R vs i v found here below at so is =
    let within : i < length (map as_data vs) = rw length-map below in
    joined_more R (map as_data vs) i (as_data v) found here within (viewed vs i v below at) so is

-- what is said of all items
pub joined_items : {F : Type 0} (R : ℕ → Data → List F → Type 0) (vs : List (Value Global)) (i : ℕ)
    (found : List F) → length vs ≤ i → Joined R (take i (map as_data vs)) found
    → Joined R (listed (data_of_items (items_view vs))) found
joined_items R vs i found ends so =
    let within : length (map as_data vs) ≤ i = rw length-map ends in
    let all : take i (map as_data vs) ≡ listed (data_of_items (items_view vs)) =
    take_all i (map as_data vs) within ∙ sym (listed_items vs) in
    subst (λ ds. Joined R ds found) all so

-- which values are null
pub null_data : (j : json.Json) → tree.is_null j ≡ is_some (as_null (data_of j))
null_data json.null = refl
null_data (json.boolean b) = refl
null_data (json.number s) = refl
null_data (json.string s) = refl
null_data (json.array js) = refl
null_data (json.object ms) = refl

step : (id : List ℕ) (d : Data) (ms ns : Members) (ids : List (List ℕ))
    → null_ids ns ≡ null_ids ms ++ ids
    → null_ids (member id d ns) ≡ null_ids (member id d ms) ++ ids
step id null ms ns ids e = ap (λ xs. id ∷ xs) e
step id (boolean b) ms ns ids e = e
step id (number n) ms ns ids e = e
step id (string s) ms ns ids e = e
step id (array ds) ms ns ids e = e
step id (object os) ms ns ids e = e

one_more : (done : List NamedMember) (e : NamedMember) → null_ids (members_in (done ++ e ∷ []))
    ≡ null_ids (members_in done) ++ null_ids (member e.0.now (as_data e.1.now) no_members)
one_more [] e = refl
one_more (x ∷ done) e =
    step x.0.now (as_data x.1.now) (members_in done) (members_in (done ++ e ∷ []))
    (null_ids (member e.0.now (as_data e.1.now) no_members)) (one_more done e)

one_null : (id : List ℕ) (d : Data) → is_some (as_null d) ≡ true
    → null_ids (member id d no_members) ≡ id ∷ []
one_null id null e = refl
one_null id (boolean b) e = absurd (false≢true e)
one_null id (number n) e = absurd (false≢true e)
one_null id (string s) e = absurd (false≢true e)
one_null id (array ds) e = absurd (false≢true e)
one_null id (object ms) e = absurd (false≢true e)

none_null : (id : List ℕ) (d : Data) → is_some (as_null d) ≡ false
    → null_ids (member id d no_members) ≡ []
none_null id null e = absurd (false≢true (sym e))
none_null id (boolean b) e = refl
none_null id (number n) e = refl
none_null id (string s) e = refl
none_null id (array ds) e = refl
none_null id (object ms) e = refl

-- one more member, which is null or not
pub nulls_more : (done : List NamedMember) (e : NamedMember) → is_some (as_null (as_data e.1.now)) ≡ true
    → null_ids (members_in (done ++ e ∷ []))
    ≡ null_ids (members_in done) ++ e.0.now ∷ []
nulls_more done e is =
    one_more done e
    ∙ ap (λ ids. null_ids (members_in done) ++ ids) (one_null e.0.now (as_data e.1.now) is)

pub nulls_skip : (done : List NamedMember) (e : NamedMember) → is_some (as_null (as_data e.1.now)) ≡ false
    → null_ids (members_in (done ++ e ∷ [])) ≡ null_ids (members_in done)
nulls_skip done e is =
    one_more done e
    ∙ ap (λ ids. null_ids (members_in done) ++ ids) (none_null e.0.now (as_data e.1.now) is)
    ∙ append-nil (null_ids (members_in done))
