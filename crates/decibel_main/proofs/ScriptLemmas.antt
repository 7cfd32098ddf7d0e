-- A run on a log, and on two files.
use Rattle.std.proofs.Common.{◌≡◌, ◌⊎◌, inl, inr, map, ⊎_elim, ◌∙◌, ◌+◌, ◌-◌, ◌^◌, ◌<◌, ◌≤◌, ◌++◌, ◌∷◌, [], List, ℕ, Bool, true, false, cond, nat_lt, refl, sym, ap, subst, arith, Option, Some, None}
use Rattle.std.specs.Prelude.{Result, Ok, Err, OnOk, IsErrOf}
use Rattle.std.proofs.lemmas.List.{append-nil}
use Rattle.std.proofs.lemmas.Result.{on_ok_weaker}
use Rattle.db_value.specs.declared.entry.Entry.{Entry}
use Rattle.db_store.specs.State.{State}
use Rattle.db_outside.specs.Count.{counted}
use Rattle.db_outside.specs.declared.disk.Disk.{Ghosts}
use Rattle.entry_codec.specs.declared.log.Log.{Ghosts as LogGhosts}
use Rattle.entry_codec.specs.Logs.{Opening, gives, MayGive, IsNoLater}
use Rattle.store_tx.specs.Stored.{Has, GivesOwed}
use Rattle.db_core.specs.Order.{World, opening}
use Rattle.db_core.specs.Cores.{WithLog, StandsIn, InEach}
use Rattle.generations.specs.declared.dataset.Dataset.{Dataset}
use Rattle.generations.specs.declared.pair.Pair.{Pair}
use Rattle.generations.specs.Datasets.{pair_in, generation_in, counted_in, counts_in, place_in, KeepsIn, OwesIn, moment_in, OpensNowIn, OpensSinceIn, QuietIn}
use Rattle.generations.specs.Files.{opened, counts, reads}
use Rattle.generations.specs.Given.{opening_of}
use Rattle.generations.specs.Pairs.{moments_of, AreAllOnDisk, NoneRose, BothOnlyRead}
use Rattle.generations.specs.Reopens.{StaysQuiet}
use Rattle.script_run.specs.declared.run.RunStop.{RunStop}
use Rattle.script_run.specs.declared.run.RunStop.TheVariants.{Fault, Memory as NoMemory}
use Rattle.db_core.specs.Heard.{Marked, said, failures, world_after}
use Rattle.db_core.specs.Marks.{NoneSaves}
use Rattle.db_core.specs.Groups.{alone_groups, failed_groups}
use Rattle.db_core.specs.Accounts.{Account, opened_account, account, GivesBy, GivesDuring, IsHeldBy, StoresGroups}
use Rattle.db_core.proofs.Grouping.{unfailed_groups_law}
use Rattle.script_run.specs.Runs.{RunsAll, RunsCut, RunsWhole}
use Rattle.script_run.proofs.OutputLemmas.{out_end}
use Rattle.db_core.proofs.Storing.{few_alone, stores_none, unfailed_law, one_opening_law}
use Rattle.decibel_main.specs.Ends.{IsEndOf, IsRanStatus}
use Rattle.decibel_main.specs.Faults.{EndsByBytes, TellsDisks}
use Rattle.decibel_main.specs.Images.{OpensNow, OpensSince, faults_in}
use Rattle.decibel_main.specs.Scripts.{GivesAs, RunsLog, RunsOn, RunsScript}
use Rattle.decibel_main.specs.declared.status.Status.{Status}
use Rattle.decibel_main.specs.declared.status.Status.TheVariants.{Done, Usage, NotDataset, Damaged, ReadFault, WriteFault, DiskFault, TooLong, Memory, AlreadyThere, BadLine}
use Rattle.decibel_main.proofs.FileLemmas.{keeps_pairs, owes_pairs, faults_are, one_rose}

counted_below : (n : ℕ) → n < 2 ^ 64 - 1 → counted n ≡ n
counted_below n below = by (nat_lt n (2 ^ 64 - 1)) (search (arith, below))
  where
    by : (b : Bool) → b ≡ true → cond b n (2 ^ 64 - 1) ≡ n
    by true is = refl
    by false is = absurd (cc is)

-- no count rose, so nothing failed
pub none_failed : (n old new : ℕ) → (new < 2 ^ 64 - 1 → n + old ≤ new) → old ≤ new → counted new ≤ counted old → new < 2 ^ 64 - 1 → n ≡ 0
none_failed n old new few later le below =
    omega (arith, few below, le, counted_below new below, counted_below old (omega (arith, later, below)))

-- so its count is what it was
pub none_rose : (old new : ℕ) → old ≤ new → counted new ≤ counted old → new < 2 ^ 64 - 1 → new ≡ old
none_rose old new later le below = omega (arith, later, le, counted_below new below, counted_below old (omega (arith, later, below)))

-- what holds after Ok
pub ok_of : {T E P : Type 0} (r : Result T E) (x : T) → r ≡ Ok x → OnOk r P → P
ok_of (Ok y) x is p = p
ok_of (Err e) x is p = absurd (cc is)

module _ {L S V P Q : Type 0} (j : LogGhosts L S V P Q) where
  abbrev Log : World → L → L → List (List ℕ) → Status → Option (List ℕ) → Option (List ℕ) → Type 0
  Log w old new all status before written = RunsLog j w old new all status before written

  -- nothing was run
  pub runs_none : (w : World) (log : L) (all : List (List ℕ)) (before : Option (List ℕ)) → Log w log log all Memory before before
  runs_none w log all before = record {
    ran = [];
    rest = all;
    lines = refl;
    stores = stores_none j w log;
    answers = ([], inl refl, λ old h. h ∙ ap Some (sym (append-nil old) ∙ ap (λ t. old ++ t) (sym (out_end w))));
    unfailed = λ is. absurd (cc is);
    count = λ is. absurd (cc is);
  }

  module _ (w : World) (k m : WithLog L) (all : List (List ℕ)) (before written : Option (List ℕ)) where
    abbrev All : Type 0
    All = RunsAll j w k m all before written

    abbrev Cut : Type 0
    Cut = RunsCut j w k m all before written

    abbrev Whole : Type 0
    Whole = RunsWhole j w k m all before written

    abbrev Of : Status → Type 0
    Of status = Log w k.log m.log all status before written

    of_done : All → counted (j.faults m.log) ≤ counted (j.faults k.log) → Of Done
    of_done a le = record {
      ran = a.ran;
      rest = [];
      lines = a.runs.lines;
      stores = a.runs.stores;
      answers = (refl, a.answers);
      unfailed = λ is below. none_failed (failures a.ran) (j.faults k.log) (j.faults m.log) (few_alone j w a.ran k.log m.log a.runs.stores) a.runs.stores.later le below;
      count = λ is below. none_rose (j.faults k.log) (j.faults m.log) a.runs.stores.later le below;
    }

    of_fault : All → Of DiskFault
    of_fault a = record { ran = a.ran; rest = []; lines = a.runs.lines; stores = a.runs.stores; answers = (refl, a.answers); unfailed = λ is. absurd (cc is); count = λ is. absurd (cc is) }

    of_cut : Cut → Of WriteFault
    of_cut a = record { ran = a.done ++ a.last ∷ []; rest = a.rest; lines = a.runs.lines; stores = a.runs.stores; answers = (a.done, a.last, refl, a.answers); unfailed = λ is. absurd (cc is); count = λ is. absurd (cc is) }

    of_whole : Whole → Of Memory
    of_whole a = record { ran = a.ran; rest = a.rest; lines = a.runs.lines; stores = a.runs.stores; answers = (a.done, a.one_more, a.answers); unfailed = λ is. absurd (cc is); count = λ is. absurd (cc is) }

    module _ (ran : Result (Unit {0}) RunStop) (all_of : OnOk ran All) (cut_of : IsErrOf ran Fault → Cut) (whole_of : IsErrOf ran NoMemory → Whole) where
      pub runs_by : (status : Status) → IsEndOf status ran (counted (j.faults k.log)) (counted (j.faults m.log)) → Of status
      runs_by Done end = of_done (ok_of ran tt end.0 all_of) end.1
      runs_by DiskFault end = of_fault (ok_of ran tt end.0 all_of)
      runs_by WriteFault end = of_cut (cut_of end)
      runs_by Memory end = of_whole (whole_of end)
      runs_by Usage end = absurd end
      runs_by NotDataset end = absurd end
      runs_by (Damaged file at) end = absurd end
      runs_by ReadFault end = absurd end
      runs_by TooLong end = absurd end
      runs_by AlreadyThere end = absurd end
      runs_by (BadLine n) end = absurd end

  -- a run of a core in a world in which it stood
  pub run_told : (w : World) (k m : WithLog L) (log log' : L) (all : List (List ℕ)) (before written : Option (List ℕ)) (ran : Result (Unit {0}) RunStop) (status : Status) (x y : ℕ)
      → StandsIn w k.kept → k.log ≡ log → log' ≡ m.log → x ≡ counted (j.faults log) → y ≡ counted (j.faults log')
      → OnOk ran (InEach k.kept (λ v. RunsAll j v k m all before written))
      → (IsErrOf ran Fault → InEach k.kept (λ v. RunsCut j v k m all before written))
      → (IsErrOf ran NoMemory → InEach k.kept (λ v. RunsWhole j v k m all before written))
      → IsEndOf status ran x y → Log w log log' all status before written
  run_told w k m log log' all before written ran status x y stands same after is_x is_y all_of cut_of whole_of end =
      subst (λ (p : L × L). Log w p.0 p.1 all status before written) (λ i. (same i, sym after i))
      (runs_by w k m all before written ran (on_ok_weaker ran (λ each. each w stands) all_of) (λ f. cut_of f w stands) (λ f. whole_of f w stands) status
      (subst (λ (p : ℕ × ℕ). IsEndOf status ran p.0 p.1) (λ i. ((is_x ∙ ap (λ (l : L). counted (j.faults l)) (sym same)) i, (is_y ∙ ap (λ (l : L). counted (j.faults l)) after) i)) end))

-- lines that were run don't end by bytes
pub ran_not : {P : Type 0} (status : Status) → IsRanStatus status → EndsByBytes status → P
ran_not NotDataset ran bytes = absurd ran
ran_not (Damaged file at) ran bytes = absurd ran
ran_not AlreadyThere ran bytes = absurd ran
ran_not (BadLine n) ran bytes = absurd ran
ran_not Done ran bytes = absurd bytes
ran_not Usage ran bytes = absurd bytes
ran_not ReadFault ran bytes = absurd bytes
ran_not WriteFault ran bytes = absurd bytes
ran_not DiskFault ran bytes = absurd bytes
ran_not TooLong ran bytes = absurd bytes
ran_not Memory ran bytes = absurd bytes

-- ---- on two files

module _ {D : Type 0} (g : Ghosts D) where
  abbrev pub faults_l : Dataset D g → ℕ
  faults_l l = g.faults l.file.disk + g.faults l.beside.disk

  -- what a dataset in two files is as a log
  abbrev pub log_of : {S V P Q : Type 0} → LogGhosts (Dataset D g) S V P Q
  log_of = record {
    faults = λ l. faults_l l;
    counts = λ l. counts_in l;
    Keeps = λ l s es f. KeepsIn l s es f;
    Owes = λ l s es f. OwesIn l s es f;
    generation = λ l. generation_in l;
    moment = λ l. moment_in l;
    opens_now = λ l o. OpensNowIn l o;
    opens_since = λ l t o. OpensSinceIn l t o;
    Quiet = λ l t. QuietIn l t;
  }

  -- what it has tells what its files open to
  has_pairs : (S V P Q : Type 0) (owing : Bool) (l : Dataset D g) (s : State) (es : List Entry) (f : Option (List ℕ)) → Has (log_of {S = S} {V = V} {P = P} {Q = Q}) owing l s es f
      → OpensNow g (pair_in l) (λ o. MayGive (generation_in l) s es f o ⊎ GivesOwed owing (generation_in l) s o)
  has_pairs S V P Q false l s es f k = λ c d hc hd. inl (keeps_pairs g l s es f k c d hc hd)
  has_pairs S V P Q true l s es f (inl k) = λ c d hc hd. inl (keeps_pairs g l s es f k c d hc hd)
  has_pairs S V P Q true l s es f (inr owes) = owes_pairs g l s es f owes

  -- lines that were run, and what a log did for them
  module _ {S V P Q : Type 0} (disks : Pair D) (a b : Dataset D g) (s : State) (es : List Entry) (only : BothOnlyRead g disks (pair_in a)) (kept : KeepsIn a s es None) (ran : List Marked) (groups : List (List Marked))
      (stores : StoresGroups (log_of {S = S} {V = V} {P = P} {Q = Q}) (opening s) ran groups a b) where
    abbrev first : Account
    first = opened_account (generation_in a) es

    abbrev last : Account
    last = account (opening s) first groups

    abbrev after : State
    after = (world_after (opening s) ran).state

    held : IsHeldBy (log_of {S = S} {V = V} {P = P} {Q = Q}) a s first
    held = record { generation = refl; pending = None; among = tt; has = kept }

    few : faults_in g (pair_in b) < 2 ^ 64 - 1 → failed_groups groups + faults_in g disks ≤ faults_in g (pair_in b)
    few below =
        omega (arith, faults_are g a, faults_are g b, only.first.later, only.second.later, stores.few (omega (arith, below, faults_are g b)))

    keeps : IsHeldBy (log_of {S = S} {V = V} {P = P} {Q = Q}) b after last
    keeps = stores.held first held

    now : OpensNow g (pair_in b) (GivesBy after last keeps.pending)
    now = λ c d hc hd.
        let o : Opening = opening_of (reads c d) in
        subst (λ (n : ℕ). MayGive n after last.entries keeps.pending o ⊎ GivesOwed last.owing n after o) keeps.generation (has_pairs S V P Q last.owing b after last.entries keeps.pending keeps.has c d hc hd)

    settled : failures ran ≡ 0 → OpensNow g (pair_in b) (GivesAs after last)
    settled none = λ c d hc hd.
        let clean = unfailed_law (opening s) first groups (unfailed_groups_law (opening s) ran groups stores.cut none) refl refl in
        one_opening_law after last keeps.pending (opening_of (reads c d)) keeps.among clean.0 clean.1 (now c d hc hd)

    -- before the first line was run
    at_first : (o : Opening) → o ≡ gives (generation_in a) s es → GivesDuring (opening s) first groups o
    at_first o is = ([], groups, refl, inl is)

    any_moment : NoneSaves (opening s) (map said ran) → (c d : List ℕ) → reads c d ≡ counts (counted_in a) (generation_in a) (opened s es (place_in a)) → StaysQuiet (moments_of g disks) a c d
        → OpensSince g (moments_of g disks) (pair_in b) (GivesDuring (opening s) first groups)
    any_moment none c d is quiet = λ x y hx hy.
        let o = opening_of (reads x y) in
        ⊎_elim (λ was. at_first o (quiet.opens o was ∙ ap opening_of is)) (λ during. during)
        ((stores.any_moment none first refl held).adds (moments_of g disks) (only.first.any_moment.later, only.second.any_moment.later) quiet.quiet o (x, y, hx, hy, refl))

    pub runs_on : (c d : List ℕ) → reads c d ≡ counts (counted_in a) (generation_in a) (opened s es (place_in a)) → (AreAllOnDisk g disks → StaysQuiet (moments_of g disks) a c d) → RunsOn g disks (pair_in b) (generation_in a) s es ran groups
    runs_on c d is quiet = record { cut = stores.cut; few = few; pending = keeps.pending; among = keeps.among; now = now; settled = settled; any_moment = λ none durable. any_moment none c d is (quiet durable) }

  -- what the status of a run says of the disks
  pub run_tells : (disks : Pair D) (a b : Dataset D g) (status : Status) → BothOnlyRead g disks (pair_in a) → NoneRose g disks (pair_in a) → (EndsByBytes status → NoneRose g disks (pair_in b))
      → (status ≡ DiskFault → faults_l a < faults_l b) → (status ≡ Done → faults_l b < 2 ^ 64 - 1 → faults_l b ≡ faults_l a) → IsNoLater (counts_in a) (counts_in b) → TellsDisks g disks (pair_in b) status
  run_tells disks a b status only none by_bytes less same each = record {
    fault = λ is. one_rose g disks (pair_in b) (omega (arith, less is, faults_are g a, faults_are g b, only.first.later, only.second.later));
    done = λ is below. let all = same is (omega (arith, below, faults_are g b)) in
        (omega (arith, all, faults_are g a, faults_are g b, none.0, each.0, each.1), omega (arith, all, faults_are g a, faults_are g b, none.1, each.0, each.1));
    by_bytes = by_bytes;
  }

  pub runs_files : {S V P Q : Type 0} (disks : Pair D) (a b : Dataset D g) (s : State) (es : List Entry) (all : List (List ℕ)) (status : Status) (before written : Option (List ℕ)) → BothOnlyRead g disks (pair_in a) → KeepsIn a s es None
      → RunsLog (log_of {S = S} {V = V} {P = P} {Q = Q}) (opening s) a b all status before written
      → (c d : List ℕ) → reads c d ≡ counts (counted_in a) (generation_in a) (opened s es (place_in a)) → (AreAllOnDisk g disks → StaysQuiet (moments_of g disks) a c d) → RunsScript g disks (pair_in b) all status before written c d
  runs_files disks a b s es all status before written only kept r c d is quiet = record {
    file = counted_in a;
    generation = generation_in a;
    state = s;
    entries = es;
    at = place_in a;
    opens = is;
    ran = r.ran;
    rest = r.rest;
    lines = r.lines;
    runs = runs_on disks a b s es only kept r.ran (alone_groups r.ran) r.stores c d is quiet;
    answers = r.answers;
    unfailed = λ done below. r.unfailed done (omega (arith, below, faults_are g b));
  }
