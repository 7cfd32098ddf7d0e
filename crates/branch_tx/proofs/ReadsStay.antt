-- What a transaction reads of a dataset stays under the locks that it needs.
use Rattle.std.proofs.Common.{◌≡◌, ℕ, ◌<◌, ◌-◌, ◌==◌, get_or, nat_lt, nat_le, Bool, true, false, cond, List, length, refl, ap, sym, ◌∙◌, subst, Option, Some, None}
use Rattle.std.proofs.lemmas.Bool.{ltb-true, eqb-true}
use Rattle.db_value.specs.declared.version.VersionName.{VersionName}
use Rattle.db_value.specs.declared.version.VersionPlace.{VersionPlace}
use Rattle.db_value.specs.declared.reply.Reply.{Reply}
use Rattle.db_value.specs.declared.reply.Reply.TheVariants.{Done, Made}
use Rattle.db_store.specs.Table.{Table}
use Rattle.db_store.specs.Overlay.{Overlay}
use Rattle.db_store.specs.Dataset.{Branch, Dataset, Version, branch_at, branch_named, no_version, head_of, IsMade}
use Rattle.db_store.specs.Fits.{most_versions}
use Rattle.std.proofs.lemmas.Bool.{lt-ltb}
use Rattle.branch_tx.specs.Keeping.{over_table}
use Rattle.db_store.specs.Found.{Found, NoBranch, NoPosition, Head, Fixed, found_by, position_found, place_found, found}
use Rattle.branch_tx.specs.Found.{Own, Other, source_of}
use Rattle.branch_tx.specs.Act.{Tx, Outcome, get_from}
use Rattle.branch_tx.specs.Alone.{ground_of, made_next, told, told_of}
use Rattle.line_needs.specs.Needs.{catalogue, lock_of, found_needs}
use Rattle.branch_tx.specs.Frame.{Within}
use Rattle.branch_tx.proofs.Entries.{Frame, named_there}

module _ (N : ℕ → Type 0) (s t : Dataset) (f : Frame N s t) where
  -- ---- names of versions

  position_stays : (name : List ℕ) (b n : ℕ) (q : Bool) → b < length s.branches → nat_lt n (length (branch_at s b).versions) ≡ q
      → Within N (found_needs (cond q (place_found s (record { branch = b; position = n })) (NoPosition b name n)))
      → position_found t name n (Some b) ≡ cond q (place_found s (record { branch = b; position = n })) (NoPosition b name n)
  position_stays name b n true l e w =
      let at : VersionPlace = record { branch = b; position = n } in
      let m : IsMade s at = (l, ltb-true _ _ e) in
      ap (λ (q : Bool). cond q (place_found t at) (NoPosition b name n)) (lt-ltb n (length (branch_at t b).versions) (f.made at m).1)
      ∙ ap (λ (v : Version). Fixed at v.table) (f.version at m)
  position_stays name b n false l e w =
      let same = f.locked b l w.0 in
      (λ i. cond (nat_lt n (length (same i).versions)) (Fixed (record { branch = b; position = n }) (get_or (same i).versions n no_version).table) (NoPosition b name n))
      ∙ ap (λ (q : Bool). cond q (place_found s (record { branch = b; position = n })) (NoPosition b name n)) e

  by_stays : (name : List ℕ) (p o : Option ℕ) → branch_named s name ≡ o → Within N (found_needs (found_by s name p o)) → found_by t name p (branch_named t name) ≡ found_by s name p o
  by_stays name None None e w = ap (found_by t name None) (f.unnamed w.0 name e)
  by_stays name None (Some b) e w =
      let same = f.locked b (named_there s name b e) w.0 in
      ap (found_by t name None) (f.named name b e)
      ∙ (λ i. Head (record { branch = b; position = length (same i).versions - 1 }) (get_or (same i).versions (length (same i).versions - 1) no_version).table)
  by_stays name (Some n) None e w = ap (found_by t name (Some n)) (f.unnamed w.0 name e)
  by_stays name (Some n) (Some b) e w = ap (found_by t name (Some n)) (f.named name b e) ∙ position_stays name b n (nat_lt n (length (branch_at s b).versions)) (named_there s name b e) refl w

  pub found_stays : (v : VersionName) → Within N (found_needs (found s v)) → found t v ≡ found s v
  found_stays v w = by_stays v.branch v.position (branch_named s v.branch) refl w

  name_at : N catalogue → (name : List ℕ) (o : Option ℕ) → branch_named s name ≡ o → branch_named t name ≡ o
  name_at h name None e = f.unnamed h name e
  name_at h name (Some b) e = f.named name b e

  pub named_stays : N catalogue → (name : List ℕ) → branch_named t name ≡ branch_named s name
  named_stays h name = name_at h name (branch_named s name) refl

  -- ---- the current branch

  pub head_stays : (b : ℕ) → b < length s.branches → N (lock_of b) → head_of t b ≡ head_of s b
  head_stays b l h = ap (λ (x : Branch). (get_or x.versions (length x.versions - 1) no_version).table) (f.locked b l h)

  pub ground_stays : (b : ℕ) → b < length s.branches → N (lock_of b) → ground_of t b ≡ ground_of s b
  ground_stays b l h = let same = f.locked b l h in λ i. record { schema = f.schema i; name = (same i).name; full = nat_le most_versions (length (same i).versions) }

  pub next_stays : (b : ℕ) → b < length s.branches → N (lock_of b) → made_next t b ≡ made_next s b
  next_stays b l h = ap (λ (x : Branch). Made x.name (length x.versions)) (f.locked b l h)

  reply_stays : (b : ℕ) (q : Bool) (r : Reply) → made_next t b ≡ made_next s b → told t b q r ≡ told s b q r
  reply_stays b true r e = refl
  reply_stays b false Done e = e
  reply_stays b false _ e = refl

  pub told_stays : (b : ℕ) (q : Bool) (o : Outcome (List Overlay)) → b < length s.branches → N (lock_of b) → told_of t b q o ≡ told_of s b q o
  told_stays b q o l h = λ i. record { tx = o.tx; reply = reply_stays b q o.reply (next_stays b l h) i }

  -- ---- a look-up in a version: the head is read where the version is the current branch's plain name

  own_at : (b r key : ℕ) (tx : Tx (List Overlay)) (at : VersionPlace) (table : Table) (q : Bool) → (at.branch == b) ≡ q → b < length s.branches → N (lock_of at.branch)
      → get_from (over_table (head_of t b)) tx r key (source_of b (Head at table)) ≡ get_from (over_table (head_of s b)) tx r key (source_of b (Head at table))
  own_at b r key tx at table true e l h =
      let is : at.branch ≡ b = eqb-true at.branch b e in
      ap (λ (x : Table). get_from (over_table x) tx r key (source_of b (Head at table))) (head_stays b l (subst (λ (k : ℕ). N (lock_of k)) is h))
  own_at b r key tx at table false e l h =
      ap (λ (q : Bool). get_from (over_table (head_of t b)) tx r key (cond q Own (Other table))) e
      ∙ sym (ap (λ (q : Bool). get_from (over_table (head_of s b)) tx r key (cond q Own (Other table))) e)

  pub from_stays : (b r key : ℕ) (tx : Tx (List Overlay)) (x : Found) → b < length s.branches → Within N (found_needs x)
      → get_from (over_table (head_of t b)) tx r key (source_of b x) ≡ get_from (over_table (head_of s b)) tx r key (source_of b x)
  from_stays b r key tx (NoBranch name) l w = refl
  from_stays b r key tx (NoPosition c name n) l w = refl
  from_stays b r key tx (Head at table) l w = own_at b r key tx at table (at.branch == b) refl l w.0
  from_stays b r key tx (Fixed at table) l w = refl
