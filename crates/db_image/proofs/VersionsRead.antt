-- What is kept of the versions that are read.
use Rattle.std.proofs.Common.{◌≡◌, ◌≢◌, ◌⊎◌, inl, inr, ℕ, zero, suc, ◌+◌, ◌<◌, ◌≤◌, ◌==◌, true, cond, List, [], ◌∷◌, ◌++◌, map, length, replicate, get_or, Option, Some, None, Ok, refl, sym, ap, subst, ◌∙◌, arith}
use Rattle.std.specs.Prelude.{nat_lt, set}
use Rattle.std.specs.Int.{w32}
use Rattle.std.proofs.lemmas.Bool.{eq-eqb, ne_eqb, cases_eq, ltb-true, leb-true}
use Rattle.std.proofs.lemmas.List.{length_push, length-set, length-replicate, append-nil, get_or-set_same, get_or-set_other, map_push, append_assoc}
use Rattle.std.proofs.lemmas.List.Elements.{filter-append}
use Rattle.db_value.specs.declared.version.VersionPlace.{VersionPlace}
use Rattle.db_store.specs.Dataset.{root}
use Rattle.db_store.specs.Order.{number_in}
use Rattle.hybrid_store.specs.declared.made.MadeVersion.{MadeVersion as VersionLaid}
use Rattle.hybrid_store.specs.Parts.{versions_of, places_from, order_of, seconds_of}
use Rattle.image_text.specs.declared.image.MadeVersion.{MadeVersion}
use Rattle.image_text.specs.Reading.{repeat, number_at, last_of, is_there, is_begun, next_version, versions_at}
use Rattle.image_text.proofs.Loop.{bind_ok}
use Rattle.image_text.proofs.Counted.{both_true}
use Rattle.db_image.specs.Parts.{version_part}
use Rattle.db_image.proofs.Steps.{repeat_keeps, AddsVersion, version_adds}
use Rattle.db_image.proofs.Grown.{IsProper, IsThere, HasBegun, IsGrown, GrowsBy, grown}

-- the versions, as the layout has them
abbrev pub laid_versions : List MadeVersion → List VersionLaid
laid_versions vs = map version_part vs

-- what versions that are read keep, with the last positions of branches
pub record AreVersions (bases : List VersionPlace) (s : List ℕ × List MadeVersion) : Type 0 where
  pub count : length s.0 ≡ length bases
  pub lasts : (b : ℕ) → last_of s.0 b ≡ length (versions_of b (laid_versions s.1))
  pub few : (b : ℕ) → last_of s.0 b ≤ 65535
  pub branches : (b k : ℕ) (p : VersionPlace) → get_or (seconds_of b (laid_versions s.1)) k None ≡ Some p → p.branch < length bases
  pub grown : IsGrown bases (last_of s.0) (λ b. seconds_of b (laid_versions s.1)) (order_of (laid_versions s.1))

pub places_push : (front vs : List VersionLaid) (v : VersionLaid) → places_from front (vs ++ v ∷ []) ≡ places_from front vs ++ record { branch = v.branch; position = suc (length (versions_of v.branch (front ++ vs))) } ∷ []
places_push front [] v = ap (λ l. record { branch = v.branch; position = suc (length (versions_of v.branch l)) } ∷ []) (sym (append-nil front))
places_push front (w ∷ vs) v =
    ap (λ l. record { branch = w.branch; position = suc (length (versions_of w.branch front)) } ∷ l)
    (places_push (front ++ w ∷ []) vs v ∙ ap (λ l. places_from (front ++ w ∷ []) vs ++ record { branch = v.branch; position = suc (length (versions_of v.branch l)) } ∷ []) (append_assoc front (w ∷ []) vs))

pub own_versions : (b : ℕ) (vs : List VersionLaid) (v : VersionLaid) → v.branch ≡ b → versions_of b (vs ++ v ∷ []) ≡ versions_of b vs ++ v ∷ []
own_versions b vs v e = filter-append (λ (w : VersionLaid). w.branch == b) vs (v ∷ []) ∙ ap (λ q. versions_of b vs ++ cond q (v ∷ []) []) (eq-eqb v.branch b e)

pub other_versions : (b : ℕ) (vs : List VersionLaid) (v : VersionLaid) → v.branch ≢ b → versions_of b (vs ++ v ∷ []) ≡ versions_of b vs
other_versions b vs v e = filter-append (λ (w : VersionLaid). w.branch == b) vs (v ∷ []) ∙ ap (λ q. versions_of b vs ++ cond q (v ∷ []) []) (ne_eqb v.branch b e) ∙ append-nil (versions_of b vs)

pub begun_is : (bases : List VersionPlace) (lasts : List ℕ) (b : ℕ) → is_begun bases lasts b ≡ true → (b < length lasts) × HasBegun bases (last_of lasts) b
begun_is bases lasts b e =
    let two = both_true (nat_lt b (length lasts)) (is_there lasts (get_or bases b root)) e in
    (ltb-true b (length lasts) two.0, leb-true (get_or bases b root).position (last_of lasts (get_or bases b root).branch) two.1)

module _ (bases : List VersionPlace) (s t : List ℕ × List MadeVersion) (proper : (c : ℕ) → IsProper (get_or bases c root)) (are : AreVersions bases s) (a : AddsVersion bases s t) where
  abbrev b : ℕ
  b = a.added.branch

  abbrev v : VersionLaid
  v = version_part a.added

  abbrev vs : List VersionLaid
  vs = laid_versions s.1

  abbrev lasts : List ℕ
  lasts = set s.0 b (last_of s.0 b + 1)

  begun : (b < length s.0) × HasBegun bases (last_of s.0) b
  begun = begun_is bases s.0 b a.begun

  own : last_of lasts b ≡ suc (last_of s.0 b)
  own = get_or-set_same s.0 b (last_of s.0 b + 1) 0 begun.0 ∙ omega arith

  others : (c : ℕ) → c ≢ b → last_of lasts c ≡ last_of s.0 c
  others c n = get_or-set_other s.0 b c (last_of s.0 b + 1) 0 n

  turned : (c : ℕ) → c ≢ b → b ≢ c
  turned c n e = n (sym e)

  second_made : (p : VersionPlace) → a.added.second ≡ Some p → HasBegun bases (last_of s.0) p.branch × IsThere (last_of s.0) p
  second_made p e = let m = a.second p e in ((begun_is bases s.0 p.branch m.0).1, m.1)

  second_there : (p : VersionPlace) → a.added.second ≡ Some p → p.branch < length bases
  second_there p e = let m = a.second p e in let l = (begun_is bases s.0 p.branch m.0).0 in let c = are.count in omega (arith, l, c)

  grows : GrowsBy bases (last_of s.0) (last_of lasts) (λ c. seconds_of c vs) (λ c. seconds_of c (vs ++ v ∷ [])) b a.added.second
  grows = record {
    begun = begun.1;
    made = second_made;
    own = own;
    others = others;
    own_seconds = ap (λ l. None ∷ map (λ (w : VersionLaid). w.second) l) (own_versions b vs v refl) ∙ ap (λ l. None ∷ l) (map_push (λ (w : VersionLaid). w.second) (versions_of b vs) v);
    others_seconds = λ c n. ap (λ l. None ∷ map (λ (w : VersionLaid). w.second) l) (other_versions c vs v (turned c n));
  }

  order_next : order_of (vs ++ v ∷ []) ≡ order_of vs ++ record { branch = b; position = suc (last_of s.0 b) } ∷ []
  order_next = ap (λ l. root ∷ l) (places_push [] vs v) ∙ ap (λ k. order_of vs ++ record { branch = b; position = suc k } ∷ []) (sym (are.lasts b))

  counted : (c : ℕ) → (c ≡ b) ⊎ (c ≢ b) → last_of lasts c ≡ length (versions_of c (vs ++ v ∷ []))
  counted c (inl e) =
      subst (λ k. last_of lasts k ≡ length (versions_of k (vs ++ v ∷ []))) (sym e)
      (let l = ap length (own_versions b vs v refl) in let m = length_push (versions_of b vs) v in let o = own in let h = are.lasts b in omega (arith, l, m, o, h))
  counted c (inr n) = others c n ∙ are.lasts c ∙ ap length (sym (other_versions c vs v (turned c n)))

  few : (c : ℕ) → (c ≡ b) ⊎ (c ≢ b) → last_of lasts c ≤ 65535
  few c (inl e) = subst (λ k. last_of lasts k ≤ 65535) (sym e) (let o = own in let f = a.few in omega (arith, o, f))
  few c (inr n) = subst (λ k. k ≤ 65535) (sym (others c n)) (are.few c)

  push_some : (l : List (Option VersionPlace)) (second : Option VersionPlace) (k : ℕ) (p : VersionPlace) → get_or (l ++ second ∷ []) k None ≡ Some p → (get_or l k None ≡ Some p) ⊎ (second ≡ Some p)
  push_some [] second zero p e = inr e
  push_some [] second (suc k) p e = inl e
  push_some (y ∷ l) second zero p e = inl e
  push_some (y ∷ l) second (suc k) p e = push_some l second k p e

  there : (c k : ℕ) (p : VersionPlace) → get_or (seconds_of c (vs ++ v ∷ [])) k None ≡ Some p → (c ≡ b) ⊎ (c ≢ b) → p.branch < length bases
  there c k p e (inl q) = at (push_some (seconds_of b vs) a.added.second k p (sym (ap (λ l. get_or l k None) grows.own_seconds) ∙ subst (λ d. get_or (seconds_of d (vs ++ v ∷ [])) k None ≡ Some p) q e))
    where
      at : (get_or (seconds_of b vs) k None ≡ Some p) ⊎ (a.added.second ≡ Some p) → p.branch < length bases
      at (inl f) = are.branches b k p f
      at (inr f) = second_there p f
  there c k p e (inr n) = are.branches c k p (sym (ap (λ l. get_or l k None) (grows.others_seconds c n)) ∙ e)

  grown_next : IsGrown bases (last_of lasts) (λ c. seconds_of c (vs ++ v ∷ [])) (order_of (vs ++ v ∷ []))
  grown_next =
      subst (λ o. IsGrown bases (last_of lasts) (λ c. seconds_of c (vs ++ v ∷ [])) o) (sym order_next)
      (grown bases (last_of s.0) (last_of lasts) (λ c. seconds_of c vs) (λ c. seconds_of c (vs ++ v ∷ [])) (order_of vs) b a.added.second proper are.grown grows)

  both : AreVersions bases (lasts, s.1 ++ a.added ∷ [])
  both =
      let e = map_push version_part s.1 a.added in
      record {
        count = length-set s.0 b (last_of s.0 b + 1) ∙ are.count;
        lasts = λ c. subst (λ l. last_of lasts c ≡ length (versions_of c l)) (sym (map_push version_part s.1 a.added)) (counted c (cases_eq c b));
        few = λ c. few c (cases_eq c b);
        branches = λ c k p f. there c k p (subst (λ l. get_or (seconds_of c l) k None ≡ Some p) (map_push version_part s.1 a.added) f) (cases_eq c b);
        grown = subst (λ l. IsGrown bases (last_of lasts) (λ c. seconds_of c l) (order_of l)) (sym (map_push version_part s.1 a.added)) grown_next;
      }

  pub version_kept : AreVersions bases t
  version_kept = subst (AreVersions bases) (λ i. (sym a.lasts i, sym a.versions i)) both

-- ---- no version yet

pub zero_at : (n b : ℕ) → last_of (replicate n 0) b ≡ 0
zero_at zero b = refl
zero_at (suc n) zero = refl
zero_at (suc n) (suc b) = zero_at n b

abbrev no_versions : List MadeVersion
no_versions = []

abbrev only_none : List (Option VersionPlace)
only_none = None ∷ []

abbrev nothing : Option VersionPlace
nothing = None

none_past : (k : ℕ) → get_or only_none k nothing ≡ nothing
none_past zero = refl
none_past (suc k) = refl

none_some : (p : VersionPlace) → nothing ≡ Some p → ⊥
none_some p e = cc

-- a place at position 0 that stands for itself is the root
only_root : (at : VersionPlace) → IsProper at → at.position ≤ 0 → at ≡ root
only_root at (inl e) z = e
only_root at (inr s) z = absurd (omega (arith, s, z))

only_first : (i : ℕ) → i < 1 → i ≡ 0
only_first zero l = refl
only_first (suc i) l = absurd (omega (arith, l))

none_yet : (bases : List VersionPlace) → AreVersions bases (replicate (length bases) 0, no_versions)
none_yet bases =
    let z = zero_at (length bases) in
    record {
      count = length-replicate (length bases) 0;
      lasts = λ b. zero_at (length bases) b;
      few = λ b. subst (λ k. k ≤ 65535) (sym (zero_at (length bases) b)) (omega arith);
      branches = λ b k p e. absurd (none_some p (sym (none_past k) ∙ e));
      grown = record {
        some = omega arith;
        first = refl;
        count = λ c. ap suc (sym (zero_at (length bases) c));
        stands = λ at p t. subst (λ (v : VersionPlace). number_in (root ∷ []) v < 1) (sym (only_root at p (subst (λ k. at.position ≤ k) (zero_at (length bases) at.branch) t))) (omega arith);
        there = λ i l. subst (λ k. (get_or (root ∷ []) k root).position ≤ last_of (replicate (length bases) 0) (get_or (root ∷ []) k root).branch) (sym (only_first i l)) (omega arith);
        later = λ i s l. absurd (omega (arith, s, l));
        once = λ i l. subst (λ k. number_in (root ∷ []) (get_or (root ∷ []) k root) ≡ k) (sym (only_first i l)) refl;
        parents = λ i s l. absurd (omega (arith, s, l));
        made = λ c k p e. absurd (none_some p (sym (none_past k) ∙ e));
      };
    }

pub versions_are : (bases : List VersionPlace) (b : List ℕ) (x : (List ℕ × List MadeVersion) × List ℕ) → ((c : ℕ) → IsProper (get_or bases c root)) → versions_at bases b ≡ Ok x → AreVersions bases x.0
unfolding versions_at
versions_are bases b x proper e =
    let n = bind_ok (number_at w32 b) (λ n. repeat (next_version bases) n.0 (replicate (length bases) 0, no_versions) n.1) x e in
    repeat_keeps (AreVersions bases) (next_version bases) (λ s c y are f. version_kept bases s y.0 proper are (version_adds bases s c y f)) n.0.0 (replicate (length bases) 0, no_versions) n.0.1 x (none_yet bases) n.2
