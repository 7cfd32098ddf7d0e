-- Versions that are lent to a transaction, and what their names stand for.
use Rattle.std.proofs.Common.{◌≡◌, ℕ, ◌==◌, ◌&&◌, Bool, true, false, cond, not, List, [], ◌∷◌, ◌++◌, length, take, ap, sym, ◌∙◌, refl, Option, Some, None, subst, inl}
use Rattle.std.specs.Prelude.{is_some}
use Rattle.std.proofs.lemmas.Bool.{and_parts, eq-eqb, eqb-true, false≢true, true≢false}
use Rattle.std.proofs.lemmas.List.Quantifiers.{position-Some}
use Rattle.db_value.specs.Text.{same}
use Rattle.db_value.specs.declared.version.VersionName.{VersionName}
use Rattle.db_value.specs.declared.version.VersionPlace.{VersionPlace}
use Rattle.db_value.specs.declared.reply.Refusal.{Refusal}
use Rattle.db_value.specs.declared.reply.Refusal.TheVariants.{NoBranch as RefusedBranch, NoVersion as RefusedVersion}
use Rattle.db_store.specs.Table.{Table}
use Rattle.db_store.specs.Dataset.{Dataset, no_branch, branch_at, branch_named, head_of, head_place}
use Rattle.lock_table.specs.Rows.{Row}
use Rattle.stmt_text.proofs.SpellingSteps.{same_word}
use Rattle.db_store.specs.Found.{Found, NoBranch, NoPosition, Head, Fixed, found, head_found, found_by, found_as, lack}
use Rattle.branch_tx.specs.Found.{Own, Other, Lacking, source_of}
use Rattle.branch_tx.specs.Granted.{Granted, same_version, lent_table, lent_source, is_current, source_in}
use Rattle.lock_table.specs.Grants.{Has, row}
use Rattle.line_needs.specs.Needs.{lock_of, shared, found_needs}
use Rattle.branch_tx.specs.Frame.{Within}
use Rattle.branch_tx.proofs.Spellings.{version_is, same_self, same_name}
use Rattle.store_tx.specs.Keeps.{OwnedBy, AllGranted, AllLent}

-- a name that stands for nothing is lacking
pub lack_source : (b : ℕ) (f : Found) (why : Refusal) → lack f ≡ Some why → source_of b f ≡ Lacking why
lack_source b (NoBranch name) why e = let q : RefusedBranch name ≡ why = cc in ap Lacking q
lack_source b (NoPosition c name n) why e = let q : RefusedVersion name n ≡ why = cc in ap Lacking q
lack_source b (Head at t) why e = absurd cc
lack_source b (Fixed at t) why e = absurd cc

-- the plain name of the branch means the working table
own_by : (d : Dataset) (b : ℕ) (name : List ℕ) (p : Option ℕ) (o : Option ℕ) → o ≡ Some b → is_some p ≡ false → source_of b (found_by d name p o) ≡ Own
own_by d b name (Some n) o e f = absurd (true≢false f)
own_by d b name None o e f = ap (λ q. source_of b (head_found d name q)) e ∙ ap (λ q. cond q Own (Other (head_of d b))) (eq-eqb b b refl)

plain : (q : Bool) → not q ≡ true → q ≡ false
plain true e = absurd (false≢true e)
plain false e = refl

pub own_source : (d : Dataset) (b : ℕ) (g : Granted) (v : VersionName) → g.name ≡ (branch_at d b).name → branch_named d (branch_at d b).name ≡ Some b → is_current g v ≡ true → source_of b (found d v) ≡ Own
own_source d b g v n there e =
    let parts = and_parts (same v.branch g.name) (not (is_some v.position)) e in
    let name : v.branch ≡ (branch_at d b).name = same_word v.branch g.name parts.0 ∙ n in
    own_by d b v.branch v.position (branch_named d v.branch) (ap (branch_named d) name ∙ there) (plain (is_some v.position) parts.1)

head_by : (d : Dataset) (b : ℕ) (name : List ℕ) (p : Option ℕ) (o : Option ℕ) → o ≡ Some b → is_some p ≡ false → found_by d name p o ≡ Head (head_place d b) (head_of d b)
head_by d b name (Some n) o e f = absurd (true≢false f)
head_by d b name None o e f = ap (head_found d name) e

pub current_head : (d : Dataset) (b : ℕ) (g : Granted) (v : VersionName) → g.name ≡ (branch_at d b).name → branch_named d (branch_at d b).name ≡ Some b → is_current g v ≡ true → found d v ≡ Head (head_place d b) (head_of d b)
current_head d b g v n there e =
    let parts = and_parts (same v.branch g.name) (not (is_some v.position)) e in
    let name : v.branch ≡ (branch_at d b).name = same_word v.branch g.name parts.0 ∙ n in
    head_by d b v.branch v.position (branch_named d v.branch) (ap (branch_named d) name ∙ there) (plain (is_some v.position) parts.1)

-- and needs the branch
pub current_need : (d : Dataset) (rows : List Row) (s b : ℕ) (g : Granted) (v : VersionName) → g.name ≡ (branch_at d b).name → branch_named d (branch_at d b).name ≡ Some b → is_current g v ≡ true → AllGranted rows s (found_needs (found d v)) → Has rows (row s (shared (lock_of b)))
current_need d rows s b g v n there e a = a (shared (lock_of b)) (subst (λ (f : Found). Has (found_needs f) (shared (lock_of b))) (sym (current_head d b g v n there e)) (inl refl))

pub own_in : (g : Granted) (v : VersionName) → is_current g v ≡ true → source_in g v ≡ Own
own_in g v e = ap (λ q. cond q Own (lent_source (lent_table g.lent v))) e

-- a version that was lent is what its name stands for
lent_at : (d : Dataset) (rows : List Row) (s b : ℕ) (l : VersionName × Table) (ls : List (VersionName × Table)) (v : VersionName) (t : Table) (q : Bool) → same_version l.0 v ≡ q → source_of b (found d l.0) ≡ Other l.1
    → cond q (Some l.1) (lent_table ls v) ≡ Some t → (lent_table ls v ≡ Some t → source_of b (found d v) ≡ Other t) → source_of b (found d v) ≡ Other t
lent_at d rows s b l ls v t true r h e more = let table : l.1 ≡ t = cc in ap (λ (u : VersionName). source_of b (found d u)) (sym (version_is l.0 v r)) ∙ h ∙ ap Other table
lent_at d rows s b l ls v t false r h e more = more e

pub lent_is : (d : Dataset) (rows : List Row) (s b : ℕ) (ls : List (VersionName × Table)) (v : VersionName) (t : Table) → AllLent d rows s b ls → lent_table ls v ≡ Some t → source_of b (found d v) ≡ Other t
lent_is d rows s b [] v t a e = absurd cc
lent_is d rows s b (l ∷ ls) v t a e = lent_at d rows s b l ls v t (same_version l.0 v) refl a.0.0 e (lent_is d rows s b ls v t a.1)

-- a found version that isn't the working table is another table
by_branch : (d : Dataset) (b c : ℕ) (name : List ℕ) (t : Table) (q : Bool) → (c == b) ≡ q → (branch_named d name ≡ Some b → ⊥) → branch_named d name ≡ Some c → head_of d c ≡ t → cond q Own (Other (head_of d c)) ≡ Other t
by_branch d b c name t true r not_own n table = absurd (not_own (n ∙ ap Some (eqb-true c b r)))
by_branch d b c name t false r not_own n table = ap Other table

other_plain : (d : Dataset) (b : ℕ) (name : List ℕ) (at : VersionPlace) (t : Table) (o : Option ℕ) → branch_named d name ≡ o → (branch_named d name ≡ Some b → ⊥) → head_found d name o ≡ Head at t → source_of b (head_found d name o) ≡ Other t
other_plain d b name at t None n not_own e = absurd cc
other_plain d b name at t (Some c) n not_own e = let table : head_of d c ≡ t = cc in by_branch d b c name t (c == b) refl not_own n table

other_by : (d : Dataset) (b : ℕ) (name : List ℕ) (p : Option ℕ) (at : VersionPlace) (t : Table) → (is_some p ≡ false → branch_named d name ≡ Some b → ⊥) → found_by d name p (branch_named d name) ≡ found_as p at t → source_of b (found_by d name p (branch_named d name)) ≡ Other t
other_by d b name None at t not_own e = other_plain d b name at t (branch_named d name) refl (not_own refl) e
other_by d b name (Some n) at t not_own e = ap (source_of b) e

named_is : (d : Dataset) (b : ℕ) (name : List ℕ) → branch_named d name ≡ Some b → (branch_at d b).name ≡ name
named_is d b name e = same_word (branch_at d b).name name (position-Some _ d.branches b no_branch e).1

current_if : (d : Dataset) (b : ℕ) (g : Granted) (v : VersionName) → g.name ≡ (branch_at d b).name → is_some v.position ≡ false → branch_named d v.branch ≡ Some b → is_current g v ≡ true
current_if d b g v k p n =
    let name : v.branch ≡ g.name = sym (named_is d b v.branch n) ∙ sym k in
    ap (λ (w : List ℕ). same w g.name && not (is_some v.position)) name ∙ ap (λ q. q && not (is_some v.position)) (same_self g.name) ∙ ap not p

pub other_source : (d : Dataset) (b : ℕ) (g : Granted) (v : VersionName) (at : VersionPlace) (t : Table) → g.name ≡ (branch_at d b).name → is_current g v ≡ false → found d v ≡ found_as v.position at t → source_of b (found d v) ≡ Other t
other_source d b g v at t k c e = other_by d b v.branch v.position at t (λ p n. true≢false (sym (current_if d b g v k p n) ∙ c)) e

-- one version more
pub lent_more : (d : Dataset) (rows : List Row) (s b : ℕ) (ls : List (VersionName × Table)) (v : VersionName) (t : Table) → AllLent d rows s b ls → source_of b (found d v) ≡ Other t → Within (OwnedBy rows s) (found_needs (found d v)) → AllLent d rows s b (ls ++ (v, t) ∷ [])
lent_more d rows s b [] v t a e w = ((e, w), tt)
lent_more d rows s b (l ∷ ls) v t a e w = (a.0, lent_more d rows s b ls v t a.1 e w)

-- is lent
there_at : (q : Bool) (l t : Table) (o : Option Table) → is_some o ≡ true → is_some (cond q (Some l) o) ≡ true
there_at true l t o e = refl
there_at false l t o e = e

pub lent_last : (ls : List (VersionName × Table)) (v : VersionName) (t : Table) → is_some (lent_table (ls ++ (v, t) ∷ []) v) ≡ true
lent_last [] v t = ap (λ q. is_some (cond q (Some t) None)) (same_name v)
lent_last (l ∷ ls) v t = there_at (same_version l.0 v) l.1 t (lent_table (ls ++ (v, t) ∷ []) v) (lent_last ls v t)

-- what is lent stays so behind more
front_at : (q : Bool) (t : Table) (o p : Option Table) → (is_some o ≡ true → is_some p ≡ true) → is_some (cond q (Some t) o) ≡ true → is_some (cond q (Some t) p) ≡ true
front_at true t o p f e = refl
front_at false t o p f e = f e

pub lent_front : (ks ls : List (VersionName × Table)) (v : VersionName) → take (length ks) ls ≡ ks → is_some (lent_table ks v) ≡ true → is_some (lent_table ls v) ≡ true
lent_front [] ls v e h = absurd (false≢true h)
lent_front (k ∷ ks) [] v e h = absurd cc
lent_front (k ∷ ks) (l ∷ ls) v e h =
    let first : l ≡ k = cc in
    let more : take (length ks) ls ≡ ks = cc in
    ap (λ (x : VersionName × Table). is_some (cond (same_version x.0 v) (Some x.1) (lent_table ls v))) first ∙ front_at (same_version k.0 v) k.1 (lent_table ks v) (lent_table ls v) (lent_front ks ls v more) h
