-- The log of a branch stays under the branch's lock, and the graph under all locks.
use Rattle.std.proofs.Common.{◌≡◌, ℕ, zero, suc, ◌<◌, ◌-◌, ◌==◌, Bool, true, false, cond, List, [], ◌∷◌, ◌++◌, length, ◌≤◌, refl, ap, ◌∙◌, arith, Option, Some, None}
use Rattle.db_value.specs.declared.report.LogLine.{LogLine}
use Rattle.db_value.specs.declared.version.VersionPlace.{VersionPlace}
use Rattle.db_value.specs.declared.report.LogLine.TheVariants.{Root, Same as SameAs, Made as MadeAt}
use Rattle.db_value.specs.declared.reply.Reply.TheVariants.{Versions}
use Rattle.db_store.specs.Dataset.{Branch, Dataset, Version, branch_at, last_of, version_at, proper, proper_if, before, IsMade}
use Rattle.db_store.specs.Sound.{IsSound}
use Rattle.db_store.proofs.StateLemmas.{proper_made}
use Rattle.version_log.specs.Log.{name_of, name_if, made_line, log_line, log_down, branch_log, log_of}
use Rattle.version_log.specs.Graph.{first_logs, graph_of}
use Rattle.line_needs.specs.Needs.{catalogue, lock_of}
use Rattle.branch_tx.proofs.Entries.{Frame}

module _ (N : ℕ → Type 0) (s t : Dataset) (f : Frame N s t) (sound : IsSound s) where
  name_stays : (at : VersionPlace) → at.branch < length s.branches → name_of t at ≡ name_of s at
  name_stays at l = λ i. record { branch = f.name at.branch l i; position = Some at.position }

  proper_stays : (at : VersionPlace) → at.branch < length s.branches → proper t at ≡ proper s at
  proper_stays at l = ap (λ (p : VersionPlace). cond (at.position == 0) p at) (f.base at.branch l)

  -- the name of where a made version was made
  proper_name : (at : VersionPlace) → IsMade s at → name_of t (proper t at) ≡ name_of s (proper s at)
  proper_name at m = ap (name_of t) (proper_stays at m.0) ∙ name_stays (proper s at) (proper_made s at sound m).0

  if_stays : (at : VersionPlace) (o : Option VersionPlace) → IsMade s at → (version_at s at).second ≡ o → name_if t (proper_if t o) ≡ name_if s (proper_if s o)
  if_stays at None m e = refl
  if_stays at (Some p) m e = ap Some (proper_name p (sound.seconds at p m e))

  second_stays : (at : VersionPlace) (q : Bool) → IsMade s at → name_if t (cond q None (proper_if t (version_at t at).second)) ≡ name_if s (cond q None (proper_if s (version_at s at).second))
  second_stays at true m = refl
  second_stays at false m = ap (λ (v : Version). name_if t (proper_if t v.second)) (f.version at m) ∙ if_stays at (version_at s at).second m refl

  made_stays : (at : VersionPlace) (q : Bool) → IsMade s at → made_line t at (cond q None (Some (proper t (before at)))) ≡ made_line s at (cond q None (Some (proper s (before at))))
  made_stays at true m = refl
  made_stays at false m =
      let own = name_stays at m.0 in
      let parent = proper_name (before at) (m.0, omega (arith, m.1)) in
      let second = second_stays at (at.position == 0) m in
      λ i. MadeAt (own i) (parent i) (second i)

  line_stays : (b n : ℕ) → b < length s.branches → n < length (branch_at s b).versions → log_line t b n ≡ log_line s b n
  line_stays b zero l h =
      let name = f.name b l in
      let base = ap (name_of t) (f.base b l) ∙ name_stays (branch_at s b).base (sound.bases b l).0 in
      λ i. cond (b == 0) Root (SameAs (name i) (base i))
  line_stays b (suc n) l h = made_stays (record { branch = b; position = suc n }) (suc n == 0) (l, h)

  down_stays : (b n : ℕ) → b < length s.branches → n < length (branch_at s b).versions → log_down t b n ≡ log_down s b n
  down_stays b zero l h = λ i. line_stays b zero l h i ∷ []
  down_stays b (suc n) l h =
      let line = line_stays b (suc n) l h in
      let more = down_stays b n l (omega (arith, h)) in
      λ i. line i ∷ more i

  -- the whole log of a branch
  all_stays : (b : ℕ) → b < length s.branches → N (lock_of b) → branch_log t b ≡ branch_log s b
  all_stays b l h =
      let last : last_of t b ≡ last_of s b = ap (λ (x : Branch). length x.versions - 1) (f.locked b l h) in
      ap (log_down t b) last ∙ down_stays b (last_of s b) l (let r = sound.rooted b l in omega (arith, r))

  pub log_stays : (name : List ℕ) (b : ℕ) → b < length s.branches → N (lock_of b) → log_of t name (Some b) ≡ log_of s name (Some b)
  log_stays name b l h = ap (λ (ls : List LogLine). Versions ls false) (all_stays b l h)

  logs_stay : (n : ℕ) → n ≤ length s.branches → ((b : ℕ) → b < length s.branches → N (lock_of b)) → first_logs t n ≡ first_logs s n
  logs_stay zero h all = refl
  logs_stay (suc n) h all =
      let l : n < length s.branches = omega (arith, h) in
      let more = logs_stay n (omega (arith, h)) all in
      let here = all_stays n l (all n l) in
      λ i. more i ++ here i

  pub graph_stays : N catalogue → ((b : ℕ) → b < length s.branches → N (lock_of b)) → graph_of t ≡ graph_of s
  graph_stays c all =
      ap (λ n. Versions (first_logs t n) true) (f.count c)
      ∙ ap (λ (ls : List LogLine). Versions ls true) (logs_stay (length s.branches) (omega arith) all)
