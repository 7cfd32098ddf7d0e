-- Wants cover needs, so lines with conflicting needs have conflicting wants.
use Rattle.std.proofs.Common.{◌≡◌, ◌⊎◌, inl, inr, ⊎_elim, ℕ, ◌==◌, nat_lt, not, ◌||◌, suc, zero, Bool, true, false, cond, List, [], ◌∷◌, ◌++◌, Option, Some, None, length, refl, sym, ap, ◌∙◌, subst, arith}
use Rattle.std.proofs.lemmas.Bool.{eqb-true, eq-eqb, ne_eqb, false≢true, and_from, and_parts}
use Rattle.std.proofs.lemmas.List.Quantifiers.{position-Some}
use Rattle.db_value.specs.Text.{same}
use Rattle.db_value.proofs.Same.{bytes_is, bytes_same}
use Rattle.db_value.specs.declared.version.VersionName.{VersionName}
use Rattle.db_store.specs.Dataset.{Dataset, Branch as StoredBranch, no_branch, branch_at, branch_named}
use Rattle.db_store.specs.Found.{NoPosition, place_found, found_by}
use Rattle.lock_table.specs.declared.need.Need.{Need}
use Rattle.lock_table.specs.Grants.{Has}
use Rattle.lock_table.proofs.Kept.{has_left, has_right, has_parts}
use Rattle.stmt_text.specs.declared.stmt.Stmt.{Stmt}
use Rattle.stmt_text.specs.declared.stmt.Stmt.TheVariants.{Begin, Commit, Abort, On, LogOf, Graph, Segments, Checkpoint, Branch as NewBranch, Merge, Insert, Update, Delete, Get, Scan, Join, Minus}
use Rattle.stmt_text.specs.declared.stmt.ScanOver.{ScanOver}
use Rattle.stmt_text.specs.declared.stmt.ScanOver.TheVariants.{Current, Named, Heads as AllHeads}
use Rattle.line_needs.specs.Early.{is_early}
use Rattle.line_needs.specs.Needs.{catalogue, lock_of, shared as shared_need, exclusive as exclusive_need, found_needs, source_needs, names_needs, branch_needs, all_needs, scan_needs, on_needs, log_needs, merge_needs, stmt_needs, needs}
use Rattle.wait_die.specs.declared.want.WaitLock.{WaitLock}
use Rattle.wait_die.specs.declared.want.WaitLock.TheVariants.{Catalogue, Heads, Branch}
use Rattle.wait_die.specs.declared.want.Want.{Want}
use Rattle.wait_die.specs.Wants.{shared, exclusive, version_wants, names_wants, heads_wants, source_wants, scan_wants, wants}
use Rattle.wait_die.specs.Conflict.{same_lock, meets}
use Rattle.wait_die.specs.Covers.{is_lock_of, stands_for, covers, IsCovered, NeedsLaw, ConflictLaw, CoverLaw, StaysLaw, LinesLaw}
use Rattle.wait_die.proofs.Locks.{same_is}

module _ (d : Dataset) where
  -- one need is covered by one of the wants
  one : (ws : List Want) (w : Want) (m n : Need) → Has ws w → covers d w m ≡ true → Has (m ∷ []) n → IsCovered d ws n
  one ws w m n h e i = ⊎_elim (λ (a : m ≡ n). (w, h, subst (λ (x : Need). covers d w x ≡ true) a e)) (λ (a : ⊥). absurd a) i

  left : (ws vs : List Want) (n : Need) → IsCovered d ws n → IsCovered d (ws ++ vs) n
  left ws vs n c = (c.0, has_left ws vs c.0 c.1, c.2)

  right : (ws vs : List Want) (n : Need) → IsCovered d vs n → IsCovered d (ws ++ vs) n
  right ws vs n c = (c.0, has_right ws vs c.0 c.1, c.2)

  named_covers : (name : List ℕ) (b : ℕ) (e f : Bool) → branch_named d name ≡ Some b → (e || not f) ≡ true → covers d (record { lock = Branch name; exclusive = e }) (record { lock = lock_of b; exclusive = f }) ≡ true
  named_covers name b e f is h = and_from (is_lock_of (branch_named d name) (lock_of b)) (e || not f) (ap (λ (o : Option ℕ). is_lock_of o (lock_of b)) is ∙ eq-eqb (lock_of b) (lock_of b) refl) h

  heads_covers : (b : ℕ) → covers d (shared Heads) (shared_need (lock_of b)) ≡ true
  heads_covers b =
      let none : (lock_of b == catalogue) ≡ false = ne_eqb (lock_of b) catalogue (λ e. absurd (omega (arith, e))) in
      and_from (not (lock_of b == catalogue)) true (ap not none) refl

  -- what a version's name needs is covered by a want of the catalogue and one of the branch
  found_covered : (ws : List Want) (v : VersionName) (c : Want) → Has ws c → covers d c (shared_need catalogue) ≡ true → Has ws (shared (Branch v.branch))
      → (p o : Option ℕ) → branch_named d v.branch ≡ o → (n : Need) → Has (found_needs (found_by d v.branch p o)) n → IsCovered d ws n
  found_covered ws v c h e i None None is n k = one ws c (shared_need catalogue) n h e k
  found_covered ws v c h e i None (Some b) is n k = one ws (shared (Branch v.branch)) (shared_need (lock_of b)) n i (named_covers v.branch b false false is refl) k
  found_covered ws v c h e i (Some p) None is n k = one ws c (shared_need catalogue) n h e k
  found_covered ws v c h e i (Some p) (Some b) is n k = at (nat_lt p (length (branch_at d b).versions)) k
    where
      at : (t : Bool) → Has (found_needs (cond t (place_found d (record { branch = b; position = p })) (NoPosition b v.branch p))) n → IsCovered d ws n
      at true k = absurd k
      at false k = one ws (shared (Branch v.branch)) (shared_need (lock_of b)) n i (named_covers v.branch b false false is refl) k

  version_covered : (v : VersionName) (n : Need) → Has (found_needs (found_by d v.branch v.position (branch_named d v.branch))) n → IsCovered d (version_wants v) n
  version_covered v n k = found_covered (version_wants v) v (shared Catalogue) (inl refl) refl (inr (inl refl)) v.position (branch_named d v.branch) refl n k

  names_covered : (vs : List VersionName) (n : Need) → Has (names_needs d vs) n → IsCovered d (names_wants vs) n
  names_covered [] n k = absurd k
  names_covered (v ∷ vs) n k = ⊎_elim
      (λ (a : Has (found_needs (found_by d v.branch v.position (branch_named d v.branch))) n). left (version_wants v) (names_wants vs) n (version_covered v n a))
      (λ (a : Has (names_needs d vs) n). right (version_wants v) (names_wants vs) n (names_covered vs n a))
      (has_parts (found_needs (found_by d v.branch v.position (branch_named d v.branch))) (names_needs d vs) n k)

  branches_covered : (count : ℕ) (n : Need) → Has (branch_needs count) n → IsCovered d heads_wants n
  branches_covered zero n k = absurd k
  branches_covered (suc c) n k = ⊎_elim
      (λ (a : Has (branch_needs c) n). branches_covered c n a)
      (λ (a : Has (shared_need (lock_of c) ∷ []) n). one heads_wants (shared Heads) (shared_need (lock_of c)) n (inr (inl refl)) (heads_covers c) a)
      (has_parts (branch_needs c) (shared_need (lock_of c) ∷ []) n k)

  heads_covered : (n : Need) → Has (all_needs d) n → IsCovered d heads_wants n
  heads_covered n k = ⊎_elim
      (λ (a : shared_need catalogue ≡ n). one heads_wants (shared Catalogue) (shared_need catalogue) n (inl refl) refl (inl a))
      (λ (a : Has (branch_needs (length d.branches)) n). branches_covered (length d.branches) n a)
      k

  module _ (b : ℕ) (current : List ℕ) (here : branch_named d current ≡ Some b) where
    reads : (n : Need) → Has (shared_need (lock_of b) ∷ []) n → IsCovered d (shared (Branch current) ∷ []) n
    reads n k = one (shared (Branch current) ∷ []) (shared (Branch current)) (shared_need (lock_of b)) n (inl refl) (named_covers current b false false here refl) k

    changes : (n : Need) → Has (exclusive_need (lock_of b) ∷ []) n → IsCovered d (exclusive (Branch current) ∷ []) n
    changes n k = one (exclusive (Branch current) ∷ []) (exclusive (Branch current)) (exclusive_need (lock_of b)) n (inl refl) (named_covers current b true true here refl) k

    source_covered : (at : Option VersionName) (n : Need) → Has (source_needs d b at) n → IsCovered d (source_wants current at) n
    source_covered None n k = reads n k
    source_covered (Some v) n k = version_covered v n k

    scan_covered : (over : ScanOver) (n : Need) → Has (scan_needs d b over) n → IsCovered d (scan_wants current over) n
    scan_covered Current n k = reads n k
    scan_covered (Named names) n k = names_covered names n k
    scan_covered AllHeads n k = heads_covered n k

    on_covered : (o : Option ℕ) (n : Need) → Has (on_needs o) n → IsCovered d (shared Catalogue ∷ []) n
    on_covered None n k = one (shared Catalogue ∷ []) (shared Catalogue) (shared_need catalogue) n (inl refl) refl k
    on_covered (Some c) n k = absurd k

    log_covered : (name : List ℕ) (o : Option ℕ) → branch_named d name ≡ o → (n : Need) → Has (log_needs o) n → IsCovered d (shared Catalogue ∷ shared (Branch name) ∷ []) n
    log_covered name None is n k = one (shared Catalogue ∷ shared (Branch name) ∷ []) (shared Catalogue) (shared_need catalogue) n (inl refl) refl k
    log_covered name (Some c) is n k = one (shared Catalogue ∷ shared (Branch name) ∷ []) (shared (Branch name)) (shared_need (lock_of c)) n (inr (inl refl)) (named_covers name c false false is refl) k

    merge_covered : (name : List ℕ) (o : Option ℕ) → branch_named d name ≡ o → (n : Need) → Has (merge_needs b o) n → IsCovered d (shared Catalogue ∷ shared (Branch name) ∷ exclusive (Branch current) ∷ []) n
    merge_covered name None is n k = one (shared Catalogue ∷ shared (Branch name) ∷ exclusive (Branch current) ∷ []) (shared Catalogue) (shared_need catalogue) n (inl refl) refl k
    merge_covered name (Some c) is n k = ⊎_elim
        (λ (a : exclusive_need (lock_of b) ≡ n). one (shared Catalogue ∷ shared (Branch name) ∷ exclusive (Branch current) ∷ []) (exclusive (Branch current)) (exclusive_need (lock_of b)) n (inr (inr (inl refl))) (named_covers current b true true here refl) (inl a))
        (λ (a : Has (shared_need (lock_of c) ∷ []) n). one (shared Catalogue ∷ shared (Branch name) ∷ exclusive (Branch current) ∷ []) (shared (Branch name)) (shared_need (lock_of c)) n (inr (inl refl)) (named_covers name c false false is refl) a)
        k

    branch_covered : (origin : VersionName) (n : Need) → Has (exclusive_need catalogue ∷ found_needs (found_by d origin.branch origin.position (branch_named d origin.branch))) n → IsCovered d (exclusive Catalogue ∷ shared (Branch origin.branch) ∷ []) n
    branch_covered origin n k = ⊎_elim
        (λ (a : exclusive_need catalogue ≡ n). one (exclusive Catalogue ∷ shared (Branch origin.branch) ∷ []) (exclusive Catalogue) (exclusive_need catalogue) n (inl refl) refl (inl a))
        (λ (a : Has (found_needs (found_by d origin.branch origin.position (branch_named d origin.branch))) n). found_covered (exclusive Catalogue ∷ shared (Branch origin.branch) ∷ []) origin (exclusive Catalogue) (inl refl) refl (inr (inl refl)) origin.position (branch_named d origin.branch) refl n a)
        k

    stmt_covered : (x : Stmt) (n : Need) → Has (stmt_needs d b x) n → IsCovered d (wants current x) n
    stmt_covered (Begin room) n k = absurd k
    stmt_covered Commit n k = absurd k
    stmt_covered Abort n k = absurd k
    stmt_covered Checkpoint n k = absurd k
    stmt_covered (On name) n k = on_covered (branch_named d name) n k
    stmt_covered (LogOf name) n k = log_covered name (branch_named d name) refl n k
    stmt_covered Graph n k = heads_covered n k
    stmt_covered Segments n k = heads_covered n k
    stmt_covered (NewBranch name origin) n k = branch_covered origin n k
    stmt_covered (Merge name prefer) n k = merge_covered name (branch_named d name) refl n k
    stmt_covered (Insert relation key fields) n k = changes n k
    stmt_covered (Update relation key sets) n k = changes n k
    stmt_covered (Delete relation key) n k = changes n k
    stmt_covered (Get relation key at) n k = source_covered at n k
    stmt_covered (Scan relation over terms) n k = scan_covered over n k
    stmt_covered (Join one other v w terms) n k = names_covered (v ∷ w ∷ []) n k
    stmt_covered (Minus relation v w) n k = names_covered (v ∷ w ∷ []) n k

    pub line_covered : (begun changed : Bool) (x : Stmt) (n : Need) → Has (needs d b begun changed x) n → IsCovered d (wants current x) n
    line_covered begun changed x n k = at (is_early d.schema begun changed x) k
      where
        at : (t : Bool) → Has (cond t [] (stmt_needs d b x)) n → IsCovered d (wants current x) n
        at true k = absurd k
        at false k = stmt_covered x n k

  -- a lock by name and one by number
  not_both : (l : ℕ) → (l == catalogue) ≡ true → not (l == catalogue) ≡ true → ⊥
  not_both l e f = false≢true (ap not (sym e) ∙ f)

  not_branch : (l : ℕ) → (l == catalogue) ≡ true → (o : Option ℕ) → is_lock_of o l ≡ true → ⊥
  not_branch l e None f = false≢true f
  not_branch l e (Some c) f = let x : l ≡ catalogue = eqb-true l catalogue e in let y : l ≡ lock_of c = eqb-true l (lock_of c) f in absurd (omega (arith, x, y))

  name_is : (name : List ℕ) (c : ℕ) → branch_named d name ≡ Some c → (branch_at d c).name ≡ name
  name_is name c e = bytes_is (branch_at d c).name name (position-Some (λ (x : StoredBranch). same x.name name) d.branches c no_branch e).1

  same_names : (n m : List ℕ) (l : ℕ) (o u : Option ℕ) → branch_named d n ≡ o → branch_named d m ≡ u → is_lock_of o l ≡ true → is_lock_of u l ≡ true → same n m ≡ true
  same_names n m l None u p q e f = absurd (false≢true e)
  same_names n m l (Some b) None p q e f = absurd (false≢true f)
  same_names n m l (Some b) (Some c) p q e f =
      let x : l ≡ lock_of b = eqb-true l (lock_of b) e in
      let y : l ≡ lock_of c = eqb-true l (lock_of c) f in
      let is : b ≡ c = omega (arith, x, y) in
      let names : n ≡ m = sym (name_is n b p) ∙ ap (λ (i : ℕ). (branch_at d i).name) is ∙ name_is m c q in
      subst (λ (k : List ℕ). same n k ≡ true) names (bytes_same n)

  meet : (a b : WaitLock) (l : ℕ) → stands_for d a l ≡ true → stands_for d b l ≡ true → meets a b ≡ true
  meet Catalogue Catalogue l e f = refl
  meet Catalogue Heads l e f = absurd (not_both l e f)
  meet Catalogue (Branch m) l e f = absurd (not_branch l e (branch_named d m) f)
  meet Heads Catalogue l e f = absurd (not_both l f e)
  meet Heads Heads l e f = refl
  meet Heads (Branch m) l e f = refl
  meet (Branch n) Catalogue l e f = absurd (not_branch l f (branch_named d n) e)
  meet (Branch n) Heads l e f = refl
  meet (Branch n) (Branch m) l e f = same_names n m l (branch_named d n) (branch_named d m) refl refl e f

both : (a b c e : Bool) → (a || not c) ≡ true → (b || not e) ≡ true → (c || e) ≡ true → (a || b) ≡ true
both true b c e f g h = refl
both false true c e f g h = refl
both false false true e f g h = absurd (false≢true f)
both false false false true f g h = absurd (false≢true g)
both false false false false f g h = absurd (false≢true h)

weaker : (v w n : Bool) → (v || not w) ≡ true → (w || not n) ≡ true → (v || not n) ≡ true
weaker true w n f g = refl
weaker false true n f g = absurd (false≢true f)
weaker false false n f g = g

pub needs_law : NeedsLaw
needs_law d b current here begun changed x n k = line_covered d b current here begun changed x n k

pub conflict_law : ConflictLaw
conflict_law d w v n m e f c =
    let one = and_parts (stands_for d w.lock n.lock) (w.exclusive || not n.exclusive) e in
    let two = and_parts (stands_for d v.lock m.lock) (v.exclusive || not m.exclusive) f in
    let both_of = and_parts (n.lock == m.lock) (n.exclusive || m.exclusive) c in
    let is : n.lock ≡ m.lock = eqb-true n.lock m.lock both_of.0 in
    and_from (meets w.lock v.lock) (w.exclusive || v.exclusive)
    (meet d w.lock v.lock m.lock (subst (λ (l : ℕ). stands_for d w.lock l ≡ true) is one.0) two.0)
    (both w.exclusive v.exclusive n.exclusive m.exclusive one.1 two.1 both_of.1)

pub cover_law : CoverLaw
cover_law d v w n i e =
    let one = and_parts (same_lock v.lock w.lock) (v.exclusive || not w.exclusive) i in
    let two = and_parts (stands_for d w.lock n.lock) (w.exclusive || not n.exclusive) e in
    and_from (stands_for d v.lock n.lock) (v.exclusive || not n.exclusive)
    (subst (λ (x : WaitLock). stands_for d x n.lock ≡ true) (sym (same_is v.lock w.lock one.0)) two.0)
    (weaker v.exclusive w.exclusive n.exclusive one.1 two.1)

stands_on : (d e : Dataset) → ((name : List ℕ) (b : ℕ) → branch_named d name ≡ Some b → branch_named e name ≡ Some b) → (a : WaitLock) (l : ℕ) → stands_for d a l ≡ true → stands_for e a l ≡ true
stands_on d e k Catalogue l h = h
stands_on d e k Heads l h = h
stands_on d e k (Branch name) l h = at (branch_named d name) refl h
  where
    at : (o : Option ℕ) → branch_named d name ≡ o → is_lock_of o l ≡ true → is_lock_of (branch_named e name) l ≡ true
    at None p h = absurd (false≢true h)
    at (Some b) p h = ap (λ (o : Option ℕ). is_lock_of o l) (k name b p) ∙ h

pub stays_law : StaysLaw
stays_law d e k w n h =
    let two = and_parts (stands_for d w.lock n.lock) (w.exclusive || not n.exclusive) h in
    and_from (stands_for e w.lock n.lock) (w.exclusive || not n.exclusive) (stands_on d e k w.lock n.lock two.0) two.1

pub lines_law : LinesLaw
lines_law d b c of to p q begun changed begun' changed' x y n m h i e =
    let one = needs_law d b of p begun changed x n h in
    let two = needs_law d c to q begun' changed' y m i in
    (one.0, two.0, one.1, two.1, conflict_law d one.0 two.0 n m one.2 two.2 e)
