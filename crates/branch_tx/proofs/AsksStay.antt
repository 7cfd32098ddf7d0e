-- Questions to versions stay under the locks that they need.
use Rattle.std.proofs.Common.{◌≡◌, ◌⊎◌, inl, inr, ℕ, zero, suc, ◌<◌, ◌≤◌, ◌==◌, Bool, true, false, cond, List, [], ◌∷◌, ◌++◌, length, map, refl, ap, sym, ◌∙◌, subst, arith, Option, Some, None}
use Rattle.std.specs.List.{filter}
use Rattle.std.proofs.lemmas.Bool.{eqb-true, cases_lt}
use Rattle.std.proofs.lemmas.List.{length-map, ext_get_or}
use Rattle.std.proofs.Math.ListN.{get_or-map}
use Rattle.db_value.specs.Relations.{columns_at}
use Rattle.db_value.specs.Condition.{holds}
use Rattle.db_value.specs.declared.record.Record.{Record}
use Rattle.db_value.specs.declared.schema.Relation.{Relation}
use Rattle.db_value.specs.declared.condition.Term.{Term}
use Rattle.db_value.specs.declared.version.VersionName.{VersionName}
use Rattle.db_value.specs.declared.version.VersionPlace.{VersionPlace}
use Rattle.db_value.specs.declared.reply.Reply.TheVariants.{Listed, Paired}
use Rattle.db_store.specs.Table.{Table, Contents, rows_of}
use Rattle.db_store.specs.Overlay.{Overlay}
use Rattle.db_store.specs.Dataset.{Branch, Dataset, branch_named, no_branch, head_of}
use Rattle.lock_table.specs.declared.need.Need.{Need}
use Rattle.stmt_text.specs.declared.stmt.ScanOver.{ScanOver}
use Rattle.stmt_text.specs.declared.stmt.ScanOver.TheVariants.{Current, Named, Heads}
use Rattle.branch_tx.specs.Keeping.{Keeping, over_table}
use Rattle.db_store.specs.Found.{Found, NoBranch, NoPosition, Head, Fixed, found_by, found, branch_names, plain}
use Rattle.branch_tx.specs.Found.{Source, Own, Other, source_of, lacking, lacking_or, first_lacking}
use Rattle.branch_tx.specs.Act.{Tx, Outcome, answered, unless, marked, union_marked, pairs_of, unlike, contents_from, rows_from, scan_versions, scan_over, scan_of, join_in, join_of, minus_of}
use Rattle.line_needs.specs.Early.{terms_refusal}
use Rattle.line_needs.specs.Needs.{catalogue, lock_of, shared, found_needs, names_needs, branch_needs, scan_needs}
use Rattle.branch_tx.specs.Frame.{Within}
use Rattle.branch_tx.proofs.Entries.{Frame, named_there}
use Rattle.branch_tx.proofs.ReadsStay.{found_stays, head_stays}

-- ---- needs of several names

within_parts : (N : ℕ → Type 0) (ns ms : List Need) → Within N (ns ++ ms) → Within N ns × Within N ms
within_parts N [] ms w = (tt, w)
within_parts N (n ∷ ns) ms w = let rest = within_parts N ns ms w.1 in ((w.0, rest.0), rest.1)

within_both : (N : ℕ → Type 0) (ns ms : List Need) → Within N ns → Within N ms → Within N (ns ++ ms)
within_both N [] ms v w = w
within_both N (n ∷ ns) ms v w = (v.0, within_both N ns ms v.1 w)

-- the locks of all branches are held
pub branch_within : (N : ℕ → Type 0) (n b : ℕ) → Within N (branch_needs n) → b < n → N (lock_of b)
branch_within N zero b w l = absurd (omega (arith, l))
branch_within N (suc n) b w l =
    let both = within_parts N (branch_needs n) (shared (lock_of n) ∷ []) w in
    at (branch_within N n b both.0) both.1.0 (cases_lt b n)
  where
    at : (b < n → N (lock_of b)) → N (lock_of n) → (b < n) ⊎ (n ≤ b) → N (lock_of b)
    at below last (inl h) = below h
    at below last (inr h) = let e : n ≡ b = omega (arith, l, h) in subst (λ (k : ℕ). N (lock_of k)) e last

abbrev name_in : Branch → List ℕ
name_in b = b.name

-- what was asked of two versions, in the order in which they are named
names_two : (N : ℕ → Type 0) (d : Dataset) (v w : VersionName) → Within N (names_needs d (v ∷ w ∷ [])) → Within N (found_needs (found d v)) × Within N (found_needs (found d w))
names_two N d v w h =
    let first = within_parts N (found_needs (found d v)) (names_needs d (w ∷ [])) h in
    let second = within_parts N (found_needs (found d w)) [] first.1 in
    (first.0, second.0)

module _ (N : ℕ → Type 0) (s t : Dataset) (f : Frame N s t) where
  -- ---- the heads

  pub names_stay : N catalogue → branch_names t ≡ branch_names s
  names_stay h = ext_get_or [] (branch_names t) (branch_names s)
      (length-map t.branches name_in ∙ f.count h ∙ sym (length-map s.branches name_in))
      (λ i l. get_or-map name_in t.branches i no_branch
      ∙ f.name i (let n = length-map t.branches name_in in let c = f.count h in omega (arith, l, n, c))
      ∙ sym (get_or-map name_in s.branches i no_branch))

  plain_within : (name : List ℕ) (o : Option ℕ) → N catalogue → Within N (branch_needs (length s.branches)) → branch_named s name ≡ o → Within N (found_needs (found_by s name None o))
  plain_within name None h w e = (h, tt)
  plain_within name (Some b) h w e = (branch_within N (length s.branches) b w (named_there s name b e), tt)

  -- what each of them needs
  heads_within : (names : List (List ℕ)) → N catalogue → Within N (branch_needs (length s.branches)) → Within N (names_needs s (map plain names))
  heads_within [] h w = tt
  heads_within (name ∷ names) h w = within_both N (found_needs (found s (plain name))) (names_needs s (map plain names)) (plain_within name (branch_named s name) h w refl) (heads_within names h w)

  -- ---- the needs of questions

  pub names_same : (names : List VersionName) → Within N (names_needs s names) → names_needs t names ≡ names_needs s names
  names_same [] w = refl
  names_same (v ∷ vs) w =
      let both = within_parts N (found_needs (found s v)) (names_needs s vs) w in
      let one = found_stays N s t f v both.0 in
      let more = names_same vs both.1 in
      λ i. found_needs (one i) ++ more i

  pub scan_needs_same : (b : ℕ) (over : ScanOver) → Within N (scan_needs s b over) → scan_needs t b over ≡ scan_needs s b over
  scan_needs_same b Current w = refl
  scan_needs_same b (Named names) w = names_same names w
  scan_needs_same b Heads w = ap (λ n. shared catalogue ∷ branch_needs n) (f.count w.0)

  -- ---- their answers

  module _ (b : ℕ) (l : b < length s.branches) (tx : Tx (List Overlay)) where
    abbrev old : Keeping (List Overlay)
    old = over_table (head_of s b)

    abbrev new : Keeping (List Overlay)
    new = over_table (head_of t b)

    abbrev before : VersionName → Source
    before v = source_of b (found s v)

    abbrev after : VersionName → Source
    after v = source_of b (found t v)

    lack_stays : (v : VersionName) → Within N (found_needs (found s v)) → lacking (after v) ≡ lacking (before v)
    lack_stays v w = ap (λ (x : Found). lacking (source_of b x)) (found_stays N s t f v w)

    lacks_stay : (names : List VersionName) → Within N (names_needs s names) → first_lacking (map after names) ≡ first_lacking (map before names)
    lacks_stay [] w = refl
    lacks_stay (v ∷ vs) w =
        let both = within_parts N (found_needs (found s v)) (names_needs s vs) w in
        let one = lack_stays v both.0 in
        let more = lacks_stay vs both.1 in
        λ i. lacking_or (one i) (more i)

    -- the head is read where the version is the current branch's plain name
    own_at : (r : ℕ) (at : VersionPlace) (table : Table) (q : Bool) → (at.branch == b) ≡ q → N (lock_of at.branch)
        → contents_from new tx r (source_of b (Head at table)) ≡ contents_from old tx r (source_of b (Head at table))
    own_at r at table true e h =
        let is : at.branch ≡ b = eqb-true at.branch b e in
        ap (λ (x : Table). contents_from (over_table x) tx r (source_of b (Head at table))) (head_stays N s t f b l (subst (λ (k : ℕ). N (lock_of k)) is h))
    own_at r at table false e h =
        ap (λ (q : Bool). contents_from new tx r (cond q Own (Other table))) e
        ∙ sym (ap (λ (q : Bool). contents_from old tx r (cond q Own (Other table))) e)

    contents_at : (r : ℕ) (x : Found) → Within N (found_needs x) → contents_from new tx r (source_of b x) ≡ contents_from old tx r (source_of b x)
    contents_at r (NoBranch name) w = refl
    contents_at r (NoPosition c name n) w = refl
    contents_at r (Head at table) w = own_at r at table (at.branch == b) refl w.0
    contents_at r (Fixed at table) w = refl

    contents_stay : (r : ℕ) (v : VersionName) → Within N (found_needs (found s v)) → contents_from new tx r (after v) ≡ contents_from old tx r (before v)
    contents_stay r v w = ap (λ (x : Found). contents_from new tx r (source_of b x)) (found_stays N s t f v w) ∙ contents_at r (found s v) w

    rows_stay : (p : Record → Bool) (r : ℕ) (v : VersionName) → Within N (found_needs (found s v)) → rows_from new p tx r (after v) ≡ rows_from old p tx r (before v)
    rows_stay p r v w = ap (λ (m : Contents). filter p (rows_of m)) (contents_stay r v w)

    lists_stay : (p : Record → Bool) (r : ℕ) (names : List VersionName) → Within N (names_needs s names) → map (λ v. rows_from new p tx r (after v)) names ≡ map (λ v. rows_from old p tx r (before v)) names
    lists_stay p r [] w = refl
    lists_stay p r (v ∷ vs) w =
        let both = within_parts N (found_needs (found s v)) (names_needs s vs) w in
        let one = rows_stay p r v both.0 in
        let more = lists_stay p r vs both.1 in
        λ i. one i ∷ more i

    versions_stay : (r : ℕ) (p : Record → Bool) (names : List VersionName) → Within N (names_needs s names) → scan_versions new after tx r p names ≡ scan_versions old before tx r p names
    versions_stay r p names w =
        let lacks = lacks_stay names w in
        let rows = lists_stay p r names w in
        λ i. unless tx (lacks i) (answered tx (Listed names (union_marked (rows i))))

    over_stays : (r : ℕ) (p : Record → Bool) (over : ScanOver) → Within N (scan_needs s b over) → scan_over new after (branch_names t) tx r p over ≡ scan_over old before (branch_names s) tx r p over
    over_stays r p Current w = ap (λ (x : Table). scan_over (over_table x) before (branch_names s) tx r p Current) (head_stays N s t f b l w.0)
    over_stays r p (Named names) w = versions_stay r p names w
    over_stays r p Heads w =
        ap (λ (names : List (List ℕ)). scan_versions new after tx r p (map plain names)) (names_stay w.0)
        ∙ versions_stay r p (map plain (branch_names s)) (heads_within (branch_names s) w.0 w.1)

    pub scan_stays : (schema : List Relation) (name : List ℕ) (over : ScanOver) (terms : List Term) (o : Option ℕ) → Within N (scan_needs s b over)
        → scan_of new schema after (branch_names t) tx name over terms o ≡ scan_of old schema before (branch_names s) tx name over terms o
    scan_stays schema name over terms None w = refl
    scan_stays schema name over terms (Some r) w =
        ap (λ (x : Outcome (List Overlay)). unless tx (terms_refusal schema r terms) x) (over_stays r (holds (columns_at schema r) terms) over w)

    both_lack : (v u : VersionName) → Within N (found_needs (found s v)) → Within N (found_needs (found s u)) → first_lacking (after v ∷ after u ∷ []) ≡ first_lacking (before v ∷ before u ∷ [])
    both_lack v u w x =
        let one = lack_stays v w in
        let more = lack_stays u x in
        λ i. lacking_or (one i) (lacking_or (more i) None)

    join_in_stays : (r q : ℕ) (v u : VersionName) (p : Record → Bool) → Within N (names_needs s (v ∷ u ∷ [])) → join_in new tx r q (after v) (after u) p ≡ join_in old tx r q (before v) (before u) p
    join_in_stays r q v u p w =
        let both = names_two N s v u w in
        let lacks = both_lack v u both.0 both.1 in
        let rows = rows_stay p r v both.0 in
        let others = contents_stay q u both.1 in
        λ i. unless tx (lacks i) (answered tx (Paired (pairs_of (rows i) (others i))))

    pub join_stays : (schema : List Relation) (name other : List ℕ) (v u : VersionName) (terms : List Term) (o q : Option ℕ) → Within N (names_needs s (v ∷ u ∷ []))
        → join_of new schema tx name other (after v) (after u) terms o q ≡ join_of old schema tx name other (before v) (before u) terms o q
    join_stays schema name other v u terms None q w = refl
    join_stays schema name other v u terms (Some r) None w = refl
    join_stays schema name other v u terms (Some r) (Some q) w =
        ap (λ (x : Outcome (List Overlay)). unless tx (terms_refusal schema r terms) x) (join_in_stays r q v u (holds (columns_at schema r) terms) w)

    pub minus_stays : (name : List ℕ) (v u : VersionName) (o : Option ℕ) → Within N (names_needs s (v ∷ u ∷ [])) → minus_of new tx name (after v) (after u) o ≡ minus_of old tx name (before v) (before u) o
    minus_stays name v u None w = refl
    minus_stays name v u (Some r) w =
        let both = names_two N s v u w in
        let lacks = both_lack v u both.0 both.1 in
        let rows = contents_stay r v both.0 in
        let others = contents_stay r u both.1 in
        λ i. unless tx (lacks i) (answered tx (Listed [] (map marked (unlike (rows_of (rows i)) (others i)))))
