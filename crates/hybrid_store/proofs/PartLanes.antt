-- Branches and versions of parts, one after another.
use Rattle.std.proofs.Common.{◌≡◌, ◌≢◌, ◌⊎◌, inl, inr, ℕ, suc, ◌+◌, ◌<◌, ◌==◌, Bool, true, false, cond, List, [], ◌∷◌, ◌++◌, length, map, take, drop, set, get_or, Option, None, refl, arith, ap, sym, ◌∙◌}
use Rattle.std.proofs.lemmas.Bool.{cases_eq, eq-eqb, ne_eqb}
use Rattle.std.proofs.lemmas.List.{take_more, take-append-drop, append_assoc, append-nil, map-append, length-append, length-map, length-set, get_or-set_other, get_or-set_same}
use Rattle.std.proofs.lemmas.List.Elements.{filter-append}
use Rattle.db_value.specs.declared.version.VersionPlace.{VersionPlace}
use Rattle.db_store.specs.Dataset.{root}
use Rattle.bit_rows.specs.Kept.{KeptLane, no_kept}
use Rattle.hybrid_store.specs.declared.made.MadeVersion.{MadeVersion}
use Rattle.hybrid_store.specs.declared.parts.BranchPart.{BranchPart}
use Rattle.hybrid_store.specs.Parts.{versions_of, places_from, order_of, seconds_of, base_in, bases_from}
use Rattle.hybrid_store.specs.Assembled.{with_second, AreWith}

-- ---- the versions of a branch

versions_append : (b : ℕ) (xs ys : List MadeVersion) → versions_of b (xs ++ ys) ≡ versions_of b xs ++ versions_of b ys
versions_append b xs ys = filter-append (λ (v : MadeVersion). v.branch == b) xs ys

seconds_more : (b : ℕ) (xs : List MadeVersion) (x : MadeVersion) (t : Bool) → (x.branch == b) ≡ t → seconds_of b (xs ++ x ∷ []) ≡ seconds_of b xs ++ cond t (x.second ∷ []) []
seconds_more b xs x t e =
    ap (λ (vs : List MadeVersion). None ∷ map second vs) (versions_append b xs (x ∷ []))
    ∙ ap (λ (os : List (Option VersionPlace)). None ∷ os) (map-append second (versions_of b xs) (versions_of b (x ∷ [])))
    ∙ ap (λ q. None ∷ (map second (versions_of b xs) ++ map second (cond q (x ∷ []) []))) e
    ∙ ap (λ (os : List (Option VersionPlace)). None ∷ (map second (versions_of b xs) ++ os)) (by t)
  where
    second : MadeVersion → Option VersionPlace
    second v = v.second

    by : (q : Bool) → map second (cond q (x ∷ []) []) ≡ cond q (x.second ∷ []) []
    by true = refl
    by false = refl

-- how many there are with the root's, or the version that the branch begins with
pub seconds_count : (b : ℕ) (xs : List MadeVersion) → length (seconds_of b xs) ≡ suc (length (versions_of b xs))
seconds_count b xs = ap suc (length-map (versions_of b xs) (λ (v : MadeVersion). v.second))

-- before the next one there is room for it
pub seconds_room : (xs : List MadeVersion) (i : ℕ) (x : MadeVersion) → i < length xs → x ≡ get_or xs i x → length (seconds_of x.branch (take i xs)) < length (seconds_of x.branch xs)
seconds_room xs i x h is =
    let one = ap (λ (vs : List MadeVersion). length (versions_of x.branch vs)) (take_more xs i x h) in
    let two = ap (λ (vs : List MadeVersion). length vs) (versions_append x.branch (take i xs) (get_or xs i x ∷ [])) in
    let three = length-append (versions_of x.branch (take i xs)) (versions_of x.branch (get_or xs i x ∷ [])) in
    let own : length (versions_of x.branch (get_or xs i x ∷ [])) ≡ 1 =
    ap (λ (v : MadeVersion). length (versions_of x.branch (v ∷ []))) (sym is) ∙ ap (λ q. length (cond q (x ∷ []) [])) (eq-eqb x.branch x.branch refl) in
    let rest = ap (λ (vs : List MadeVersion). length (versions_of x.branch vs)) (take-append-drop (i + 1) xs) in
    let four = ap (λ (vs : List MadeVersion). length vs) (versions_append x.branch (take (i + 1) xs) (drop (i + 1) xs)) in
    let five = length-append (versions_of x.branch (take (i + 1) xs)) (versions_of x.branch (drop (i + 1) xs)) in
    let a = seconds_count x.branch (take i xs) in
    let b = seconds_count x.branch xs in
    omega (arith, one, two, three, own, rest, four, five, a, b)

-- ---- the order made

places_more : (bs xs : List MadeVersion) (x : MadeVersion) → places_from bs (xs ++ x ∷ []) ≡ places_from bs xs ++ record { branch = x.branch; position = suc (length (versions_of x.branch (bs ++ xs))) } ∷ []
places_more bs [] x = ap (λ (vs : List MadeVersion). record { branch = x.branch; position = suc (length (versions_of x.branch vs)) } ∷ []) (sym (append-nil bs))
places_more bs (y ∷ ys) x =
    ap (λ (os : List VersionPlace). record { branch = y.branch; position = suc (length (versions_of y.branch bs)) } ∷ os)
    (places_more (bs ++ y ∷ []) ys x
    ∙ ap (λ (vs : List MadeVersion). places_from (bs ++ y ∷ []) ys ++ record { branch = x.branch; position = suc (length (versions_of x.branch vs)) } ∷ []) (append_assoc bs (y ∷ []) ys))

-- with the next version
pub order_more : (xs : List MadeVersion) (i : ℕ) (x : MadeVersion) → i < length xs → x ≡ get_or xs i x → order_of (take (i + 1) xs) ≡ order_of (take i xs) ++ record { branch = x.branch; position = length (seconds_of x.branch (take i xs)) } ∷ []
order_more xs i x h is =
    ap order_of (take_more xs i x h ∙ ap (λ (v : MadeVersion). take i xs ++ v ∷ []) (sym is))
    ∙ ap (λ (os : List VersionPlace). root ∷ os) (places_more [] (take i xs) x)
    ∙ ap (λ n. order_of (take i xs) ++ record { branch = x.branch; position = n } ∷ []) (sym (seconds_count x.branch (take i xs)))

pub with_none : (old : List KeptLane) → ((b : ℕ) → b < length old → (get_or old b no_kept).seconds ≡ None ∷ []) → AreWith old [] old
with_none old f = record { count = refl; each = λ b h i. record (get_or old b no_kept) { seconds = f b h i } }

pub with_more : (old lanes : List KeptLane) (xs : List MadeVersion) (i : ℕ) (x : MadeVersion) → i < length xs → x ≡ get_or xs i x → AreWith old (take i xs) lanes → x.branch < length old
    → AreWith old (take (i + 1) xs) (set lanes x.branch (with_second (get_or lanes x.branch no_kept) x.second))
with_more old lanes xs i x h is was lt = record {
  count = length-set lanes x.branch more ∙ was.count;
  each = λ b g. each b g (cases_eq b x.branch);
}
  where
    more : KeptLane
    more = with_second (get_or lanes x.branch no_kept) x.second

    next : take (i + 1) xs ≡ take i xs ++ x ∷ []
    next = take_more xs i x h ∙ ap (λ (v : MadeVersion). take i xs ++ v ∷ []) (sym is)

    each : (b : ℕ) → b < length old → (b ≡ x.branch) ⊎ (b ≢ x.branch) → get_or (set lanes x.branch more) b no_kept ≡ record (get_or old b no_kept) { seconds = seconds_of b (take (i + 1) xs) }
    each b g (inl e) =
        ap (λ k. get_or (set lanes x.branch more) k no_kept) e
        ∙ get_or-set_same lanes x.branch more no_kept (let n = was.count in omega (arith, n, lt))
        ∙ ap (λ (k : KeptLane). with_second k x.second) (was.each x.branch lt)
        ∙ ap (λ (os : List (Option VersionPlace)). record (get_or old x.branch no_kept) { seconds = os }) (sym (seconds_more x.branch (take i xs) x true (eq-eqb x.branch x.branch refl)) ∙ ap (seconds_of x.branch) (sym next))
        ∙ ap (λ k. record (get_or old k no_kept) { seconds = seconds_of k (take (i + 1) xs) }) (sym e)
    each b g (inr n) =
        get_or-set_other lanes x.branch b more no_kept n
        ∙ was.each b g
        ∙ ap (λ (os : List (Option VersionPlace)). record (get_or old b no_kept) { seconds = os })
        (sym (append-nil (seconds_of b (take i xs))) ∙ sym (seconds_more b (take i xs) x false (ne_eqb x.branch b (λ e. n (sym e)))) ∙ ap (seconds_of b) (sym next))

-- ---- the versions at position 0

bases_append : (bs : List VersionPlace) (xs : List BranchPart) (x : BranchPart) → bases_from bs (xs ++ x ∷ []) ≡ bases_from bs xs ++ base_in (bases_from bs xs) x.origin ∷ []
bases_append bs [] x = refl
bases_append bs (y ∷ ys) x = bases_append (bs ++ base_in bs y.origin ∷ []) ys x

pub bases_more : (xs : List BranchPart) (i : ℕ) (d : BranchPart) → i < length xs → bases_from [] (take (i + 1) xs) ≡ bases_from [] (take i xs) ++ base_in (bases_from [] (take i xs)) (get_or xs i d).origin ∷ []
bases_more xs i d h = ap (bases_from []) (take_more xs i d h) ∙ bases_append [] (take i xs) (get_or xs i d)
