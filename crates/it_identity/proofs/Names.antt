-- Names tell identities apart, and their numbers are large.
use Rattle.std.proofs.Common.{◌≡◌, ◌∙◌, ℕ, zero, suc, ◌+◌, ◌-◌, ◌*◌, ◌/◌, ◌%◌, ◌^◌, ◌<◌, ◌≤◌, List, [], ◌∷◌}
use Rattle.std.proofs.Common.{◌++◌, length, get_or, take, drop, replicate, arith, ap, refl, sym, subst}
use Rattle.std.proofs.lemmas.List.{drop-drop, drop-replicate, drop_at, length-append, length-replicate, take_at}
use Rattle.it_numbers.specs.Bytes.{big, big_bytes}
use Rattle.it_numbers.proofs.Big.{bytes-big}
use Rattle.it_identity.specs.Identity.{IsIdentity, IsOfBytes}
use Rattle.it_identity.specs.Name.{identity_name, number_of}
use Rattle.it_identity.specs.declared.identity.Identity.{Identity}

-- lists of one length before others
split : (xs ys us vs : List ℕ) → length xs ≡ length ys → xs ++ us ≡ ys ++ vs → (xs ≡ ys) × (us ≡ vs)
split [] [] us vs long e = (refl, e)
split [] (y ∷ ys) us vs long e = absurd (omega arith)
split (x ∷ xs) [] us vs long e = absurd (omega arith)
split (x ∷ xs) (y ∷ ys) us vs long e =
    let head : x ≡ y = cc in
    let rest : xs ++ us ≡ ys ++ vs = cc in
    let shorter : length xs ≡ length ys = omega arith in
    let both = split xs ys us vs shorter rest in
    ((λ i. head i ∷ both.0 i), both.1)

-- what five first elements and the rest are
record Told (a b c d a' b' c' d' : ℕ) (xs ys : List ℕ) : Type 0 where
  first : a ≡ a'
  second : b ≡ b'
  third : c ≡ c'
  fourth : d ≡ d'
  rest : xs ≡ ys

told : (a b c d a' b' c' d' : ℕ) (xs ys : List ℕ)
    → 4 ∷ a ∷ b ∷ c ∷ d ∷ xs ≡ 4 ∷ a' ∷ b' ∷ c' ∷ d' ∷ ys → Told a b c d a' b' c' d' xs ys
told a b c d a' b' c' d' xs ys e =
    record { first = cc; second = cc; third = cc; fourth = cc; rest = cc }

same_count : (m n : ℕ) → m / 256 ≡ n / 256 → m % 256 ≡ n % 256 → m ≡ n
same_count m n high low = omega arith

name_tells : (one other : Identity) → identity_name one ≡ identity_name other → one ≡ other
unfolding identity_name
name_tells one other e =
    let parts = told _ _ _ _ _ _ _ _ _ _ e in
    let name_long = same_count (length one.name) (length other.name) parts.first parts.second in
    let issuer_long = same_count (length one.issuer) (length other.issuer) parts.third parts.fourth in
    let long : length (one.name ++ one.issuer) ≡ length (other.name ++ other.issuer) =
    length-append one.name one.issuer ∙ (λ i. name_long i + issuer_long i)
    ∙ sym (length-append other.name other.issuer) in
    let both = split (one.name ++ one.issuer) (other.name ++ other.issuer) _ _ long parts.rest in
    let texts = split one.name other.name one.issuer other.issuer name_long both.0 in
    λ i. record { name = texts.0 i; issuer = texts.1 i }

-- ---- names are made of bytes
cons_small : (x : ℕ) (xs : List ℕ) → x < 256 → ((k : ℕ) → get_or xs k 0 < 256)
    → (k : ℕ) → get_or (x ∷ xs) k 0 < 256
cons_small x xs small h zero = small
cons_small x xs small h (suc k) = h k

both_small : (xs ys : List ℕ) → ((k : ℕ) → get_or xs k 0 < 256) → ((k : ℕ) → get_or ys k 0 < 256)
    → (k : ℕ) → get_or (xs ++ ys) k 0 < 256
both_small [] ys h g k = g k
both_small (x ∷ xs) ys h g zero = h zero
both_small (x ∷ xs) ys h g (suc k) = both_small xs ys (λ j. h (suc j)) g k

zeros_small : (n k : ℕ) → get_or (replicate n 0) k 0 < 256
zeros_small zero k = omega arith
zeros_small (suc n) zero = omega arith
zeros_small (suc n) (suc k) = zeros_small n k

high_small : (n : ℕ) → n ≤ 512 → n / 256 < 256
high_small n few = omega arith

low_small : (n : ℕ) → n % 256 < 256
low_small n = omega arith

name_small : (identity : Identity) → IsIdentity identity → IsOfBytes identity
    → (k : ℕ) → get_or (identity_name identity) k 0 < 256
unfolding identity_name
name_small identity is bytes =
    let n = length identity.name in
    let m = length identity.issuer in
    let zeros : List ℕ = replicate (1024 - (n + m)) 0 in
    let texts : List ℕ = identity.name ++ identity.issuer ++ zeros in
    let small : (k : ℕ) → get_or texts k 0 < 256 =
    both_small (identity.name ++ identity.issuer) zeros
    (both_small identity.name identity.issuer bytes.name bytes.issuer)
    (zeros_small (1024 - (n + m))) in
    cons_small 4 (n / 256 ∷ n % 256 ∷ m / 256 ∷ m % 256 ∷ texts) (omega arith)
    (cons_small (n / 256) (n % 256 ∷ m / 256 ∷ m % 256 ∷ texts) (high_small n is.name.few)
    (cons_small (n % 256) (m / 256 ∷ m % 256 ∷ texts) (low_small n)
    (cons_small (m / 256) (m % 256 ∷ texts) (high_small m is.issuer.few)
    (cons_small (m % 256) texts (low_small m) small))))

-- ---- names have 1,029 bytes
texts_long : (name issuer : List ℕ) → length name ≤ 512 → length issuer ≤ 512
    → length (name ++ issuer ++ replicate (1024 - (length name + length issuer)) 0) ≡ 1024
texts_long name issuer few few' =
    let k = 1024 - (length name + length issuer) in
    let zeros : List ℕ = replicate k 0 in
    let both : length (name ++ issuer) ≡ length name + length issuer = length-append name issuer in
    let long : length zeros ≡ k = length-replicate k (zero) in
    let whole : length (name ++ issuer ++ zeros) ≡ length (name ++ issuer) + length zeros =
    length-append (name ++ issuer) zeros in
    omega (arith, few, few', both, long, whole)

name_long : (identity : Identity) → IsIdentity identity → length (identity_name identity) ≡ 1029
unfolding identity_name
name_long identity is =
    ap (λ n. suc (suc (suc (suc (suc n)))))
    (texts_long identity.name identity.issuer is.name.few is.issuer.few)

-- ---- numbers
pub numbers_tell : (one other : Identity) → IsIdentity one → IsIdentity other → IsOfBytes one
    → IsOfBytes other → number_of one ≡ number_of other → one ≡ other
numbers_tell one other is good bytes others e =
    name_tells one other
    (sym (bytes-big (identity_name one) (name_small one is bytes))
    ∙ ap (λ n. big_bytes n (number_of one)) (name_long one is ∙ sym (name_long other good))
    ∙ ap (big_bytes (length (identity_name other))) e
    ∙ bytes-big (identity_name other) (name_small other good others))

above : (n power rest : ℕ) → n < power → n < 4 * power + rest
above n power rest h = omega arith

first_above : (bytes : List ℕ) (n count : ℕ) → length bytes ≡ count → n < 2 ^ (8 * count)
    → n < big (4 ∷ bytes)
unfolding big
first_above bytes n count long h =
    above n (2 ^ (8 * length bytes)) (big bytes) (subst (λ c. n < 2 ^ (8 * c)) (sym long) h)

pub numbers_large : (identity : Identity) → IsIdentity identity → (n : ℕ) → n < 2 ^ (8 * 1028)
    → n < number_of identity
unfolding identity_name
numbers_large identity is n h =
    first_above _ n 1028
    (ap (λ n. suc (suc (suc (suc n))))
    (texts_long identity.name identity.issuer is.name.few is.issuer.few)) h

-- ---- a name as it is laid out
-- what is laid behind a front, over what was there
lay_behind : (front back text : List ℕ) (n : ℕ) → length front ≡ n
    → take n (front ++ back) ++ text ++ drop (n + length text) (front ++ back)
    ≡ front ++ text ++ drop (length text) back
lay_behind front back text n long =
    let before : take n (front ++ back) ≡ front = take_at front back n long in
    let behind : drop (n + length text) (front ++ back) ≡ drop (length text) back =
    sym (drop-drop (length text) n (front ++ back)) ∙ ap (drop (length text)) (drop_at front back n long) in
    λ i. before i ++ text ++ behind i

-- the counts of two texts, after the kind
abbrev counts : List ℕ → List ℕ → List ℕ
counts name issuer = 4 ∷ length name / 256 ∷ length name % 256
    ∷ length issuer / 256 ∷ length issuer % 256 ∷ []

abbrev pub laid : List ℕ → List ℕ → List ℕ
laid name issuer = 4 ∷ length name / 256 ∷ length name % 256
    ∷ length issuer / 256 ∷ length issuer % 256
    ∷ (name ++ issuer ++ replicate (1024 - (length name + length issuer)) 0)

pub name_laid : (name issuer one two : List ℕ)
    → one ≡ take 5 (counts name issuer ++ replicate 1024 0) ++ name
    ++ drop (5 + length name) (counts name issuer ++ replicate 1024 0)
    → two ≡ take (5 + length name) one ++ issuer ++ drop (5 + length name + length issuer) one
    → two ≡ laid name issuer
name_laid name issuer one two first second =
    let front = counts name issuer ++ name in
    let back = drop (length name) (replicate 1024 0) in
    let long : length front ≡ 5 + length name = length-append (counts name issuer) name in
    let same : one ≡ front ++ back =
    first ∙ lay_behind (counts name issuer) (replicate 1024 0) name 5 refl in
    let zeros : drop (length issuer) back ≡ replicate (1024 - (length name + length issuer)) 0 =
    drop-drop (length issuer) (length name) (replicate 1024 0)
    ∙ drop-replicate (length name + length issuer) 1024 0 in
    second
    ∙ (λ i. take (5 + length name) (same i) ++ issuer ++ drop (5 + length name + length issuer) (same i))
    ∙ lay_behind front back issuer (5 + length name) long
    ∙ (λ i. front ++ issuer ++ zeros i)

pub name_is : (identity : Identity) → laid identity.name identity.issuer ≡ identity_name identity
unfolding identity_name
name_is identity = refl
