-- A statement that is a transaction of its own.
use Rattle.std.proofs.Common.{◌≡◌, ℕ, ◌+◌, ◌<◌, ◌||◌, Bool, true, false, cond, List, [], ◌∷◌, length, ap, sym, ◌∙◌, refl, subst, arith, nat_lt, nat_cmp, Option, Some, None}
use Rattle.std.specs.Prelude.{is_some}
use Rattle.std.specs.FinMap.{get, empty, get-empty}
use Rattle.std.proofs.lemmas.Bool.{false≢true, true≢false, or_right}
use Rattle.std.proofs.lemmas.List.{get_or-replicate}
use Rattle.db_value.specs.Value.{Value}
use Rattle.db_value.specs.Schema.{most_relations}
use Rattle.db_value.specs.declared.condition.Prefer.{Prefer}
use Rattle.db_value.specs.declared.entry.Change.{Change}
use Rattle.db_value.specs.declared.entry.Entry.{Entry}
use Rattle.db_value.specs.declared.entry.Entry.TheVariants.{Commit as CommitEntry}
use Rattle.db_value.specs.declared.schema.Relation.{Relation}
use Rattle.db_value.specs.declared.version.VersionName.{VersionName}
use Rattle.db_value.specs.declared.version.VersionPlace.{VersionPlace}
use Rattle.db_value.specs.declared.reply.Reply.{Reply}
use Rattle.db_value.specs.declared.reply.Reply.TheVariants.{Done, Made}
use Rattle.db_value.specs.declared.reply.Refusal.{Refusal}
use Rattle.db_value.specs.declared.reply.Refusal.TheVariants.{BranchesFull}
use Rattle.db_store.specs.Overlay.{Overlay, untouched, is_touched, count_touched, touch}
use Rattle.db_store.specs.RowWidths.{all_widths}
use Rattle.db_store.specs.Dataset.{Dataset, branch_named, head_of, head_place}
use Rattle.db_store.specs.Sound.{IsSound}
use Rattle.db_store.specs.Counted.{IsCounted}
use Rattle.db_store.specs.Fits.{fits, most_branches}
use Rattle.db_store.proofs.OverlayLemmas.{count_touch, count_untouched}
use Rattle.db_store.proofs.StateLemmas.{few_relations}
use Rattle.stmt_text.specs.declared.stmt.Stmt.{Stmt}
use Rattle.stmt_text.specs.declared.stmt.Stmt.TheVariants.{Begin, Commit, Abort, On, LogOf, Graph, Segments, Checkpoint, Branch, Merge}
use Rattle.line_needs.specs.declared.known.Known.{Known}
use Rattle.line_needs.specs.Known.{known_of}
use Rattle.branch_tx.specs.Keeping.{Keeping, over_table}
use Rattle.db_store.specs.Found.{found, lack, branch_names}
use Rattle.branch_tx.specs.Found.{source_of}
use Rattle.branch_tx.specs.Act.{Tx, Outcome, body_refusal, refused, answered, unless, is_body}
use Rattle.branch_tx.specs.Merging.{put_all, merged_to}
use Rattle.branch_tx.specs.Frame.{is_changed}
use Rattle.branch_tx.specs.Alone.{merge_named, fresh, told, told_of, ground_of, made_next, has_changed, commit_reply, entry_made, entry_of, place_in, branch_as, on_of}
use Rattle.branch_tx.specs.Laws.{IsRoomy}
use Rattle.branch_tx.proofs.Acts.{is_done, act_does, act_begun, asked_begun, begun, done_begun}
use Rattle.branch_tx.proofs.Ends.{entry_is}
use Rattle.branch_tx.proofs.Keeps.{merge_changes}
use Rattle.store_tx.specs.Ends.{is_abort, is_begin}
use Rattle.store_tx.specs.declared.stored.LogCall.TheVariants.{Nothing, Save}
use Rattle.store_tx.specs.Stored.{IsNamedIf, call_if, call_of, is_checkpoint, entry_called}
use Rattle.store_tx.specs.Statements.{IsWork, begun_tx, step_out, act_over, commit_over, entry_over, branch_out, branch_entry}
use Rattle.store_tx.proofs.KeepsLemmas.{act_is}

-- a transaction that has done nothing, and what a statement does in it
abbrev none_yet : Tx (List Overlay)
none_yet = fresh untouched

abbrev own : Dataset → ℕ → Stmt → Outcome (List Overlay)
own d b x = act_over d b none_yet x

-- such a statement is an action
own_step : (d : Dataset) (b : ℕ) (x : Stmt) → IsWork x → step_out d b x ≡ told_of d b false (own d b x)
own_step d b (Begin room) a = absurd a
own_step d b Commit a = absurd a
own_step d b Abort a = absurd a
own_step d b (On name) a = absurd a
own_step d b (LogOf name) a = absurd a
own_step d b Graph a = absurd a
own_step d b Segments a = absurd a
own_step d b Checkpoint a = absurd a
own_step d b (Branch name origin) a = absurd a
own_step d b _ a = refl

-- what is known of it on its own is known in a transaction that was opened for it
known_begun : (schema : List Relation) (x : Stmt) → IsWork x → known_of schema false false x ≡ known_of schema true false x
known_begun schema (Begin room) a = absurd a
known_begun schema Commit a = absurd a
known_begun schema Abort a = absurd a
known_begun schema (On name) a = absurd a
known_begun schema (LogOf name) a = absurd a
known_begun schema Graph a = absurd a
known_begun schema Segments a = absurd a
known_begun schema Checkpoint a = absurd a
known_begun schema (Branch name origin) a = absurd a
known_begun schema _ a = refl

pub own_known : (schema : List Relation) (x : Stmt) (k : Known) (room : ℕ) (tx : Tx (List Overlay)) → IsWork x → tx ≡ begun_tx room → k ≡ known_of schema false false x → k ≡ known_of schema true (is_changed tx) x
own_known schema x k room tx a is e =
    let clean : is_changed tx ≡ false = ap is_changed is ∙ ap (λ (n : ℕ). nat_lt 0 n || false) count_untouched in
    e ∙ known_begun schema x a ∙ ap (λ (q : Bool). known_of schema true q x) (sym clean)

-- in a transaction that was opened for it, it does the same
merged_begun : (d : Dataset) (b : ℕ) (from : VersionPlace) (cs : List Change) (o : Option Refusal) → merged_to (over_table (head_of d b)) d.schema (begun none_yet) from cs o ≡ done_begun (merged_to (over_table (head_of d b)) d.schema none_yet from cs o)
merged_begun d b from cs (Some why) = refl
merged_begun d b from cs None =
    let k : Keeping (List Overlay) = over_table (head_of d b) in
    asked_begun k none_yet (body_refusal (is_body k d.schema (Some from) (put_all k untouched cs))) _ _ refl

cond_begun : (q : Bool) (o p o' p' : Outcome (List Overlay)) → o' ≡ done_begun o → p' ≡ done_begun p → cond q o' p' ≡ done_begun (cond q o p)
cond_begun true o p o' p' e f = e
cond_begun false o p o' p' e f = f

named_begun : (d : Dataset) (b : ℕ) (name : List ℕ) (prefer : Prefer) (o : Option ℕ) → merge_named (over_table (head_of d b)) d b (begun none_yet) name prefer o ≡ done_begun (merge_named (over_table (head_of d b)) d b none_yet name prefer o)
named_begun d b name prefer None = refl
named_begun d b name prefer (Some c) = cond_begun (ground_of d b).full _ _ _ _ refl (merged_begun d b (head_place d c) (merge_changes d b prefer c) _)

own_begun : (d : Dataset) (b : ℕ) (x : Stmt) → IsWork x → act_over d b (begun none_yet) x ≡ done_begun (own d b x)
own_begun d b (Merge name prefer) a = cond_begun (is_changed none_yet) _ _ _ _ refl (named_begun d b name prefer (branch_named d name))
own_begun d b x a =
    act_is d b (begun none_yet) x a
    ∙ act_begun (over_table (head_of d b)) (ground_of d b) (λ v. source_of b (found d v)) (branch_names d) none_yet x
    ∙ ap done_begun (sym (act_is d b none_yet x a))

-- what it may do to the transaction
module _ (P : Outcome (List Overlay) → Type 0) (refuses : (why : Refusal) → P (refused none_yet why)) (merges : (work : List Overlay) (from : VersionPlace) → P (answered (record none_yet { work = work; second = Some from }) Done)) where
  cond_does : (q : Bool) (o p : Outcome (List Overlay)) → P o → P p → P (cond q o p)
  cond_does true o p h l = h
  cond_does false o p h l = l

  taken_does : (o : Option Refusal) (x : Outcome (List Overlay)) → P x → P (unless none_yet o x)
  taken_does None x h = h
  taken_does (Some why) x h = refuses why

  merged_does : (d : Dataset) (b : ℕ) (from : VersionPlace) (cs : List Change) (o : Option Refusal) → P (merged_to (over_table (head_of d b)) d.schema none_yet from cs o)
  merged_does d b from cs (Some why) = refuses why
  merged_does d b from cs None =
      let k : Keeping (List Overlay) = over_table (head_of d b) in
      taken_does (body_refusal (is_body k d.schema (Some from) (put_all k untouched cs))) _ (merges (put_all k untouched cs) from)

  named_does : (d : Dataset) (b : ℕ) (name : List ℕ) (prefer : Prefer) (o : Option ℕ) → P (merge_named (over_table (head_of d b)) d b none_yet name prefer o)
  named_does d b name prefer None = refuses _
  named_does d b name prefer (Some c) = cond_does (ground_of d b).full _ _ (refuses _) (merged_does d b (head_place d c) (merge_changes d b prefer c) _)

own_does : (d : Dataset) (b : ℕ) (x : Stmt) (P : Outcome (List Overlay) → Type 0) → IsWork x → ((why : Refusal) → P (refused none_yet why)) → ((reply : Reply) → is_done reply ≡ false → P (answered none_yet reply))
    → ((r key : ℕ) (state : Option (List Value)) → r < length d.schema → P (answered (record none_yet { work = touch untouched r key state }) Done))
    → ((work : List Overlay) (from : VersionPlace) → P (answered (record none_yet { work = work; second = Some from }) Done)) → P (own d b x)
own_does d b (Merge name prefer) P a refuses tells puts merges = cond_does P refuses merges (is_changed none_yet) _ _ (refuses _) (named_does P refuses merges d b name prefer (branch_named d name))
own_does d b x P a refuses tells puts merges =
    subst P (sym (act_is d b none_yet x a)) (act_does (over_table (head_of d b)) (length d.schema) none_yet P refuses tells puts (ground_of d b) (λ v. source_of b (found d v)) (branch_names d) x refl)

own_made : (d : Dataset) (b : ℕ) (x : Stmt) → IsWork x → (own d b x).tx.made ≡ None
own_made d b x a = own_does d b x (λ o. o.tx.made ≡ None) a (λ why. refl) (λ reply e. refl) (λ r key state h. refl) (λ work from. refl)

own_moved : (d : Dataset) (b : ℕ) (x : Stmt) → IsWork x → (own d b x).tx.moved ≡ None
own_moved d b x a = own_does d b x (λ o. o.tx.moved ≡ None) a (λ why. refl) (λ reply e. refl) (λ r key state h. refl) (λ work from. refl)

-- one key is touched
touched_first : (r key : ℕ) (state : Option (List Value)) → r < most_relations → count_touched (touch untouched r key state) ≡ 1
touched_first r key state h = count_touch untouched r key state h ∙ ap (λ q. cond q (count_touched untouched) (count_touched untouched + 1)) new ∙ ap (λ n. n + 1) count_untouched
  where
    new : is_touched untouched r key ≡ false
    new = ap (λ (o : Overlay). is_some (get o key)) (get_or-replicate most_relations r empty empty h) ∙ ap is_some (get-empty nat_cmp key)

-- where it is done, something is to be committed
own_changed : (d : Dataset) (b : ℕ) (x : Stmt) → IsWork x → IsCounted d → is_done (own d b x).reply ≡ true → has_changed (over_table (head_of d b)) (own d b x).tx ≡ true
own_changed d b x a c = own_does d b x (λ o. is_done o.reply ≡ true → has_changed (over_table (head_of d b)) o.tx ≡ true) a
    (λ why e. absurd (false≢true e)) (λ reply e f. absurd (false≢true (sym e ∙ f)))
    (λ r key state h e. ap (λ n. nat_lt 0 n || false) (touched_first r key state (let few = few_relations d.schema c.relations in omega (arith, h, few))))
    (λ work from e. or_right (nat_lt 0 (count_touched work)) true refl)

-- and else nothing was done
own_kept : (d : Dataset) (b : ℕ) (x : Stmt) → IsWork x → is_done (own d b x).reply ≡ false → (own d b x).tx ≡ none_yet
own_kept d b x a = own_does d b x (λ o. is_done o.reply ≡ false → o.tx ≡ none_yet) a (λ why e. refl) (λ reply e f. refl) (λ r key state h e. absurd (true≢false e)) (λ work from e. absurd (true≢false e))

-- a transaction without a new branch has its changes as its entry
plain_entry : (d : Dataset) (b : ℕ) (tx : Tx (List Overlay)) (o : Option (List ℕ × VersionPlace)) → o ≡ None → entry_made (over_table (head_of d b)) d.schema b tx o ≡ commit_over d b tx
plain_entry d b tx o e = ap (entry_made (over_table (head_of d b)) d.schema b tx) e

not_abort : (x : Stmt) → IsWork x → is_abort x ≡ false
not_abort Abort a = absurd a
not_abort _ a = refl

own_entry : (d : Dataset) (b : ℕ) (x : Stmt) → IsWork x → entry_over d b x (step_out d b x).tx ≡ commit_over d b (own d b x).tx
own_entry d b x a =
    ap (λ q. cond q None (entry_of (over_table (head_of d b)) d.schema b (step_out d b x).tx)) (not_abort x a)
    ∙ ap (λ (o : Outcome (List Overlay)). entry_of (over_table (head_of d b)) d.schema b o.tx) (own_step d b x a)
    ∙ plain_entry d b (own d b x).tx (own d b x).tx.made (own_made d b x a)

-- nothing is committed of a transaction in which nothing was done
nothing : (d : Dataset) (b : ℕ) (tx : Tx (List Overlay)) → tx.work ≡ untouched → tx.second ≡ None → commit_over d b tx ≡ None
nothing d b tx w s =
    ap (λ (os : List Overlay). cond (nat_lt 0 (count_touched os) || is_some tx.second) (Some (CommitEntry b tx.second ((over_table (head_of d b)).changes (all_widths d.schema) tx.work))) None) w
    ∙ ap (λ n. cond (nat_lt 0 n || is_some tx.second) (Some (CommitEntry b tx.second ((over_table (head_of d b)).changes (all_widths d.schema) tx.work))) None) count_untouched
    ∙ ap (λ o. cond (is_some o) (Some (CommitEntry b tx.second ((over_table (head_of d b)).changes (all_widths d.schema) tx.work))) None) s

-- its entry fits
act_roomy : (x : Stmt) → IsWork x → IsRoomy x
act_roomy (Begin room) a = absurd a
act_roomy _ a = tt

pub own_fits : (d : Dataset) (b : ℕ) (x : Stmt) (tx : Tx (List Overlay)) (e : Entry) → IsSound d → IsCounted d → b < length d.branches → IsWork x → tx ≡ (act_over d b (begun none_yet) x).tx → commit_over d b tx ≡ Some e → fits d e ≡ true
own_fits d b x tx e s c h a is f =
    entry_is d b (x ∷ []) e s c h (act_roomy x a, tt)
    (ap (λ (o : Outcome (List Overlay)). entry_of (over_table (head_of d b)) d.schema b o.tx) (own_step d b x a) ∙ plain_entry d b (own d b x).tx (own d b x).tx.made (own_made d b x a)
    ∙ ap (λ (o : Outcome (List Overlay)). commit_over d b o.tx) (sym (own_begun d b x a)) ∙ ap (commit_over d b) (sym is) ∙ f)

told_other : (d : Dataset) (b : ℕ) (r : Reply) → is_done r ≡ false → told d b false r ≡ r
told_other d b Done e = absurd (true≢false e)
told_other d b _ e = refl

pub done_is : (r : Reply) → is_done r ≡ true → r ≡ Done
done_is Done e = refl
done_is _ e = absurd (false≢true e)

pub not_done : (r : Reply) → is_done r ≡ false → r ≡ Done → ⊥
not_done r e f = true≢false (sym (ap is_done f) ∙ e)

other_done : (r : Reply) → (r ≡ Done → ⊥) → is_done r ≡ false
other_done Done n = absurd (n refl)
other_done _ n = refl

reply_same : (d : Dataset) (b : ℕ) (x : Stmt) → IsWork x → (act_over d b (begun none_yet) x).reply ≡ (own d b x).reply
reply_same d b x a = ap (λ (o : Outcome (List Overlay)). o.reply) (own_begun d b x a)

-- the reply to a change, which tells the version that it made
pub own_told : (d : Dataset) (b : ℕ) (x : Stmt) (tx : Tx (List Overlay)) (r : Reply) → IsCounted d → IsWork x → tx ≡ (act_over d b (begun none_yet) x).tx → r ≡ (act_over d b (begun none_yet) x).reply → r ≡ Done
    → commit_reply (over_table (head_of d b)) d b tx ≡ (step_out d b x).reply
own_told d b x tx r c a is re e =
    let done : (own d b x).reply ≡ Done = sym (reply_same d b x a) ∙ sym re ∙ e in
    ap (commit_reply (over_table (head_of d b)) d b) (is ∙ ap (λ (o : Outcome (List Overlay)). o.tx) (own_begun d b x a))
    ∙ ap (λ q. cond q (made_next d b) Done) (own_changed d b x a c (ap is_done done))
    ∙ sym (ap (told d b false) done) ∙ sym (ap (λ (o : Outcome (List Overlay)). o.reply) (own_step d b x a))

-- its entry
pub own_stored : (d : Dataset) (b : ℕ) (x : Stmt) (tx : Tx (List Overlay)) → IsWork x → tx ≡ (act_over d b (begun none_yet) x).tx → commit_over d b tx ≡ entry_over d b x (step_out d b x).tx
own_stored d b x tx a is = ap (commit_over d b) (is ∙ ap (λ (o : Outcome (List Overlay)). o.tx) (own_begun d b x a)) ∙ sym (own_entry d b x a)

-- any other reply, and what it leaves
pub own_answered : (d : Dataset) (b : ℕ) (x : Stmt) (r : Reply) → IsWork x → r ≡ (act_over d b (begun none_yet) x).reply → (r ≡ Done → ⊥) → r ≡ (step_out d b x).reply
own_answered d b x r a re n =
    let same = re ∙ reply_same d b x a in
    same ∙ sym (told_other d b (own d b x).reply (ap is_done (sym same) ∙ other_done r n)) ∙ sym (ap (λ (o : Outcome (List Overlay)). o.reply) (own_step d b x a))

pub own_none : (d : Dataset) (b : ℕ) (x : Stmt) (r : Reply) → IsWork x → r ≡ (act_over d b (begun none_yet) x).reply → (r ≡ Done → ⊥) → None ≡ entry_over d b x (step_out d b x).tx
own_none d b x r a re n =
    let kept = own_kept d b x a (ap is_done (sym (re ∙ reply_same d b x a)) ∙ other_done r n) in
    sym (own_entry d b x a ∙ ap (commit_over d b) kept ∙ nothing d b none_yet refl refl)

-- a line that changes nothing has no entry
pub quiet : (d : Dataset) (b : ℕ) (x : Stmt) (tx : Tx (List Overlay)) → tx.work ≡ untouched → tx.second ≡ None → tx.made ≡ None → None ≡ entry_over d b x tx
quiet d b x tx w e m = sym (by_abort (is_abort x))
  where
    by_abort : (q : Bool) → cond q None (entry_of (over_table (head_of d b)) d.schema b tx) ≡ None
    by_abort true = refl
    by_abort false = plain_entry d b tx tx.made m ∙ nothing d b tx w e

-- what a statement asks of the log that is no checkpoint
pub call_is : (x : Stmt) (o : Option Entry) → is_checkpoint x ≡ false → call_of x o ≡ call_if o
call_is x (Some e) n = refl
call_is x None n = ap (λ q. cond q Save Nothing) n

pub asks_nothing : (x : Stmt) (o : Option Entry) → is_checkpoint x ≡ false → None ≡ o → Nothing ≡ call_of x o
asks_nothing x o n e = ap call_if e ∙ sym (call_is x o n)

-- a statement that reads or changes records is none
pub work_asks : (x : Stmt) → IsWork x → is_checkpoint x ≡ false
work_asks Checkpoint a = absurd a
work_asks _ a = refl

-- an image is asked for
pub asks_image : (d : Dataset) (b : ℕ) (x : Stmt) → x ≡ Checkpoint → Save ≡ call_of x (entry_over d b x (step_out d b x).tx)
asks_image d b x e = ap (call_of Checkpoint) (quiet d b Checkpoint none_yet refl refl refl) ∙ ap (λ y. call_of y (entry_over d b y (step_out d b y).tx)) (sym e)

pub quiet_commit : (d : Dataset) (b : ℕ) (x : Stmt) → x ≡ Commit → None ≡ entry_over d b x (step_out d b x).tx
quiet_commit d b x e = quiet d b Commit none_yet refl refl refl ∙ ap (λ y. entry_over d b y (step_out d b y).tx) (sym e)

pub quiet_log : (d : Dataset) (b : ℕ) (x : Stmt) (name : List ℕ) → x ≡ LogOf name → None ≡ entry_over d b x (step_out d b x).tx
quiet_log d b x name e = quiet d b (LogOf name) none_yet refl refl refl ∙ ap (λ y. entry_over d b y (step_out d b y).tx) (sym e)

pub quiet_graph : (d : Dataset) (b : ℕ) (x : Stmt) → x ≡ Graph → None ≡ entry_over d b x (step_out d b x).tx
quiet_graph d b x e = quiet d b Graph none_yet refl refl refl ∙ ap (λ y. entry_over d b y (step_out d b y).tx) (sym e)

pub quiet_segments : (d : Dataset) (b : ℕ) (x : Stmt) → x ≡ Segments → None ≡ entry_over d b x (step_out d b x).tx
quiet_segments d b x e = quiet d b Segments none_yet refl refl refl ∙ ap (λ y. entry_over d b y (step_out d b y).tx) (sym e)

pub quiet_on : (d : Dataset) (b : ℕ) (x : Stmt) (name : List ℕ) → x ≡ On name → None ≡ entry_over d b x (step_out d b x).tx
quiet_on d b x name e = by_name (branch_named d name) refl ∙ ap (λ y. entry_over d b y (step_out d b y).tx) (sym e)
  where
    by_name : (o : Option ℕ) → branch_named d name ≡ o → None ≡ entry_over d b (On name) (on_of none_yet name (branch_named d name)).tx
    by_name None f = quiet d b (On name) (on_of none_yet name None).tx refl refl refl ∙ ap (λ q. entry_over d b (On name) (on_of none_yet name q).tx) (sym f)
    by_name (Some c) f = quiet d b (On name) (on_of none_yet name (Some c)).tx refl refl refl ∙ ap (λ q. entry_over d b (On name) (on_of none_yet name q).tx) (sym f)

-- a new branch: its entry, and the session stays
module _ (d : Dataset) (b : ℕ) (name : List ℕ) where
  new_entry : (at : VersionPlace) (o : Option Refusal) (there : Option ℕ) (count : ℕ) → entry_of (over_table (head_of d b)) d.schema b (branch_as none_yet name at o there count).tx ≡ branch_entry (branch_as none_yet name at o there count).tx.made
  new_entry at (Some why) there count = nothing d b none_yet refl refl
  new_entry at None (Some old) count = nothing d b none_yet refl refl
  new_entry at None None count = by_room (nat_lt count most_branches)
    where
      by_room : (q : Bool) → entry_of (over_table (head_of d b)) d.schema b (cond q (answered (record none_yet { made = Some (name, at) }) (Made name 0)) (refused none_yet BranchesFull)).tx
          ≡ branch_entry (cond q (answered (record none_yet { made = Some (name, at) }) (Made name 0)) (refused none_yet BranchesFull)).tx.made
      by_room true = refl
      by_room false = nothing d b none_yet refl refl

  new_stays : (at : VersionPlace) (o : Option Refusal) (there : Option ℕ) (count : ℕ) → (branch_as none_yet name at o there count).tx.moved ≡ None
  new_stays at (Some why) there count = refl
  new_stays at None (Some old) count = refl
  new_stays at None None count = by_room (nat_lt count most_branches)
    where
      by_room : (q : Bool) → (cond q (answered (record none_yet { made = Some (name, at) }) (Made name 0)) (refused none_yet BranchesFull)).tx.moved ≡ None
      by_room true = refl
      by_room false = refl

pub branch_stored : (d : Dataset) (b : ℕ) (x : Stmt) (name : List ℕ) (origin : VersionName) → x ≡ Branch name origin → branch_entry (branch_out d name origin).tx.made ≡ entry_over d b x (step_out d b x).tx
branch_stored d b x name origin e =
    sym (new_entry d b name (place_in (found d origin)) (lack (found d origin)) (branch_named d name) (length d.branches))
    ∙ ap (λ y. entry_over d b y (step_out d b y).tx) (sym e)

pub branch_stays : (d : Dataset) (b : ℕ) (x : Stmt) (name : List ℕ) (origin : VersionName) → x ≡ Branch name origin → None ≡ (step_out d b x).tx.moved
branch_stays d b x name origin e = sym (new_stays d b name (place_in (found d origin)) (lack (found d origin)) (branch_named d name) (length d.branches)) ∙ ap (λ y. (step_out d b y).tx.moved) (sym e)

-- a statement that acts stays on its branch
pub own_stay : (d : Dataset) (b : ℕ) (x : Stmt) → IsWork x → None ≡ (step_out d b x).tx.moved
own_stay d b x a = sym (own_moved d b x a) ∙ ap (λ (o : Outcome (List Overlay)). o.tx.moved) (sym (own_step d b x a))

-- what is called for an entry is called with it
pub called_is : (o : Option Entry) → entry_called (call_if o) ≡ o
called_is None = refl
called_is (Some e) = refl

pub called_of : (x : Stmt) (o : Option Entry) → entry_called (call_of x o) ≡ o
called_of x (Some e) = refl
called_of x None = by (is_checkpoint x)
  where
    by : (q : Bool) → entry_called (cond q Save Nothing) ≡ None
    by true = refl
    by false = refl

-- what is committed has no name
pub commit_named : (d : Dataset) (b : ℕ) (tx : Tx (List Overlay)) → IsNamedIf (commit_over d b tx)
commit_named d b tx = by (nat_lt 0 (count_touched tx.work) || is_some tx.second)
  where
    by : (q : Bool) → IsNamedIf (cond q (Some (CommitEntry b tx.second ((over_table (head_of d b)).changes (all_widths d.schema) tx.work))) None)
    by true = tt
    by false = tt

-- a statement that is none of these acts
pub acts : (x : Stmt) → ((room : Option ℕ) → x ≡ Begin room → ⊥) → (x ≡ Commit → ⊥) → (x ≡ Abort → ⊥) → ((name : List ℕ) → x ≡ On name → ⊥) → ((name : List ℕ) → x ≡ LogOf name → ⊥) → ((name : List ℕ) (origin : VersionName) → x ≡ Branch name origin → ⊥) → (x ≡ Graph → ⊥) → (x ≡ Segments → ⊥) → (x ≡ Checkpoint → ⊥) → IsWork x
acts (Begin room) a b c d e f g h i = absurd (a room refl)
acts Commit a b c d e f g h i = absurd (b refl)
acts Abort a b c d e f g h i = absurd (c refl)
acts (On name) a b c d e f g h i = absurd (d name refl)
acts (LogOf name) a b c d e f g h i = absurd (e name refl)
acts Graph a b c d e f g h i = absurd (g refl)
acts Segments a b c d e f g h i = absurd (h refl)
acts Checkpoint a b c d e f g h i = absurd (i refl)
acts (Branch name origin) a b c d e f g h i = absurd (f name origin refl)
acts _ a b c d e f g h i = tt

-- what begins no transaction is no `begin`
pub no_begin : (x : Stmt) → is_begin x ≡ false → (room : Option ℕ) → x ≡ Begin room → ⊥
no_begin x e room f = true≢false (sym (ap is_begin f) ∙ e)

pub other_begin : (x : Stmt) → ((room : Option ℕ) → x ≡ Begin room → ⊥) → is_begin x ≡ false
other_begin (Begin room) n = absurd (n room refl)
other_begin _ n = refl
