-- An import on a log, and on two files.
use Rattle.std.proofs.Common.{◌≡◌, ◌∙◌, ◌-◌, ◌^◌, ◌<◌, ◌≤◌, [], ◌∷◌, List, ℕ, Bool, true, false, cond, nat_lt, map, refl, sym, ap, subst, arith, Option, None}
use Rattle.std.specs.Prelude.{Result, Ok, Err, OnOk, IfErr}
use Rattle.std.specs.Result.{is_ok}
use Rattle.std.proofs.lemmas.Bool.{ltb-true, ltb-false}
use Rattle.db_value.specs.declared.entry.Entry.{Entry}
use Rattle.db_store.specs.State.{State}
use Rattle.db_outside.specs.Count.{counted}
use Rattle.db_outside.specs.declared.disk.Disk.{Ghosts}
use Rattle.entry_codec.specs.declared.log.Log.{Ghosts as LogGhosts}
use Rattle.db_core.specs.Order.{World, opening}
use Rattle.db_core.specs.Cores.{WithLog, StandsIn}
use Rattle.csv_port.specs.declared.imports.Imported.{Imported}
use Rattle.csv_port.specs.declared.stop.ImportStop.{ImportStop}
use Rattle.csv_port.specs.declared.stop.ImportStop.TheVariants.{BadRow, NoRelation, KeyThere, Full, DiskFault as LogFailed, Memory as NoMemory}
use Rattle.csv_port.specs.Import.{import_told, lines_told, Tells}
use Rattle.csv_port.specs.Ran.{RunsFirst, RunsToEnd, StopsAs}
use Rattle.generations.specs.declared.dataset.Dataset.{Dataset}
use Rattle.generations.specs.declared.pair.Pair.{Pair}
use Rattle.generations.specs.Datasets.{pair_in, generation_in, counted_in, place_in, KeepsIn}
use Rattle.generations.specs.Files.{opened, counts, reads}
use Rattle.generations.specs.Pairs.{moments_of, AreAllOnDisk, BothOnlyRead}
use Rattle.generations.specs.Reopens.{StaysQuiet}
use Rattle.script_run.specs.Device.{Appends, AppendsShort}
use Rattle.db_core.specs.Heard.{Marked, said, failures, lines_of, unmarked}
use Rattle.db_core.specs.Groups.{alone_groups}
use Rattle.db_core.specs.Accounts.{StoresAll, NoneCheckpoints}
use Rattle.db_core.specs.Runs.{Runs}
use Rattle.db_core.proofs.Storing.{stores_none, no_image_law}
use Rattle.decibel_main.specs.Ends.{IsRowsStatus, IsUntouched}
use Rattle.decibel_main.specs.Faults.{EndsByBytes}
use Rattle.decibel_main.specs.Imports.{imported_text, line_refused, stop_status, TellsMade, EndedBy, EndsImport, ImportsAll, ImportsLog, RunsImport}
use Rattle.decibel_main.specs.declared.status.Status.{Status}
use Rattle.decibel_main.specs.declared.status.Status.TheVariants.{Done, Usage, NotDataset, Damaged, ReadFault, WriteFault, DiskFault, TooLong, Memory, AlreadyThere, BadLine}
use Rattle.decibel_main.proofs.ScriptLemmas.{none_rose, log_of, runs_on}

-- a count that is told to be greater is greater
pub counted_less : (a b : ℕ) → counted a < counted b → a < b
counted_less a b less = by (nat_lt a (2 ^ 64 - 1)) refl (nat_lt b (2 ^ 64 - 1)) refl
  where
    value : (n : ℕ) (q : Bool) → nat_lt n (2 ^ 64 - 1) ≡ q → counted n ≡ cond q n (2 ^ 64 - 1)
    value n q is = ap (λ (c : Bool). cond c n (2 ^ 64 - 1)) is

    by : (p : Bool) → nat_lt a (2 ^ 64 - 1) ≡ p → (q : Bool) → nat_lt b (2 ^ 64 - 1) ≡ q → a < b
    by true ia true ib = omega (arith, less, value a true ia, value b true ib)
    by true ia false ib = omega (arith, less, value a true ia, value b false ib, ltb-false b (2 ^ 64 - 1) ib)
    by false ia true ib = omega (arith, less, value a false ia, value b true ib, ltb-true b (2 ^ 64 - 1) ib)
    by false ia false ib = omega (arith, less, value a false ia, value b false ib)

-- lines without marks have none
none_marked : (lines : List (List ℕ)) → failures (map unmarked lines) ≡ 0
none_marked [] = refl
none_marked (line ∷ lines) = none_marked lines

module _ (told : Result Imported ImportStop) (ran : List Marked) (rest : List (List ℕ)) (before after : Option (List ℕ)) where
  -- rows were imported
  ends_made : (made : Imported) (rose : Bool) (status : Status) → ImportsAll made told ran rest → EndedBy (Ok made) rose status before after → EndsImport status told ran rest before after
  ends_made made true status all e = subst (λ (t : Status). EndsImport t told ran rest before after) (sym e.0) (ap is_ok all.0, e.1)
  ends_made made false Done all e = (made, all, e)
  ends_made made false WriteFault all e = (made, all, e)
  ends_made made false Memory all e = e
  ends_made made false Usage all e = absurd e
  ends_made made false NotDataset all e = absurd e
  ends_made made false (Damaged file at) all e = absurd e
  ends_made made false ReadFault all e = absurd e
  ends_made made false DiskFault all e = absurd e
  ends_made made false TooLong all e = absurd e
  ends_made made false AlreadyThere all e = absurd e
  ends_made made false (BadLine n) all e = absurd e

  -- the import stopped
  ends_stop : (stop : ImportStop) (rose : Bool) → Tells told (Err stop) → after ≡ before → EndsImport (stop_status rose stop) told ran rest before after
  ends_stop (BadRow row) rose tells quiet = (BadRow row, tells, refl, quiet)
  ends_stop NoRelation rose tells quiet = (NoRelation, tells, refl, quiet)
  ends_stop (KeyThere row) rose tells quiet = (KeyThere row, tells, refl, quiet)
  ends_stop (Full row) rose tells quiet = (Full row, tells, refl, quiet)
  ends_stop LogFailed true tells quiet = (tells, quiet)
  ends_stop LogFailed false tells quiet = quiet
  ends_stop NoMemory rose tells quiet = quiet

-- it ends so
pub rows_status : (told : Result Imported ImportStop) (ran : List Marked) (rest : List (List ℕ)) (before after : Option (List ℕ)) (status : Status) → EndsImport status told ran rest before after → IsRowsStatus status
rows_status told ran rest before after Done e = tt
rows_status told ran rest before after WriteFault e = tt
rows_status told ran rest before after (BadLine n) e = tt
rows_status told ran rest before after DiskFault e = tt
rows_status told ran rest before after Memory e = tt
rows_status told ran rest before after Usage e = absurd e
rows_status told ran rest before after NotDataset e = absurd e
rows_status told ran rest before after (Damaged file at) e = absurd e
rows_status told ran rest before after ReadFault e = absurd e
rows_status told ran rest before after TooLong e = absurd e
rows_status told ran rest before after AlreadyThere e = absurd e

-- no row that was imported is refused
made_row : {P : Type 0} (made : Imported) (rose : Bool) (n : ℕ) (status : Status) (before after : Option (List ℕ)) → status ≡ BadLine n → EndedBy (Ok made) rose status before after → P
made_row made true n status before after is e = absurd (cc (sym is ∙ e.0))
made_row made false n status before after is e = absurd (subst (λ (t : Status). TellsMade made t before after) is e)

-- what ends by bytes touches no disk
pub bytes_untouched : (status : Status) → EndsByBytes status → IsUntouched status
bytes_untouched NotDataset bytes = tt
bytes_untouched (Damaged file at) bytes = tt
bytes_untouched AlreadyThere bytes = tt
bytes_untouched (BadLine n) bytes = tt
bytes_untouched Done bytes = absurd bytes
bytes_untouched Usage bytes = absurd bytes
bytes_untouched ReadFault bytes = absurd bytes
bytes_untouched WriteFault bytes = absurd bytes
bytes_untouched DiskFault bytes = absurd bytes
bytes_untouched TooLong bytes = absurd bytes
bytes_untouched Memory bytes = absurd bytes

-- no import that stopped ends with status Done
not_done : (stop : ImportStop) (rose : Bool) → stop_status rose stop ≡ Done → ⊥
not_done (BadRow row) rose is = cc is
not_done NoRelation rose is = cc is
not_done (KeyThere row) rose is = cc is
not_done (Full row) rose is = cc is
not_done LogFailed true is = cc is
not_done LogFailed false is = cc is
not_done NoMemory rose is = cc is

-- and none whose log failed
not_rose : (imported : Result Imported ImportStop) (rose : Bool) (before after : Option (List ℕ)) → EndedBy imported rose Done before after → rose ≡ false
not_rose (Ok made) true before after e = absurd (cc e.0)
not_rose (Ok made) false before after e = refl
not_rose (Err stop) rose before after e = absurd (not_done stop rose (sym e.0))

not_less : (a b : ℕ) → nat_lt a b ≡ false → b ≤ a
not_less a b is = omega (arith, ltb-false a b is)

module _ {L S V P Q : Type 0} (j : LogGhosts L S V P Q) where
  -- a row that is refused spares the log
  row_spares : (old new : WithLog L) (stop : ImportStop) (rose : Bool) (n : ℕ) → stop_status rose stop ≡ BadLine n → StopsAs j.faults old new stop → new.log ≡ old.log
  row_spares old new (BadRow row) rose n is s = s.1
  row_spares old new NoRelation rose n is s = s.1
  row_spares old new (KeyThere row) rose n is s = s.1
  row_spares old new (Full row) rose n is s = s.1
  row_spares old new LogFailed true n is s = absurd (cc is)
  row_spares old new LogFailed false n is s = absurd (cc is)
  row_spares old new NoMemory rose n is s = absurd (cc is)

  abbrev Log : State → L → L → List ℕ → List ℕ → Status → Option (List ℕ) → Option (List ℕ) → Type 0
  Log s old new relation input status before after = ImportsLog j s old new relation input status before after

  -- if no disk was to be written, the log was not called
  pub untouched_log : (s : State) (old new : L) (relation input : List ℕ) (status : Status) (before after : Option (List ℕ)) → IsUntouched status → Log s old new relation input status before after → new ≡ old
  untouched_log s old new relation input (BadLine n) before after u r = r.spared n refl
  untouched_log s old new relation input Usage before after u r = absurd r.ends
  untouched_log s old new relation input NotDataset before after u r = absurd r.ends
  untouched_log s old new relation input (Damaged file at) before after u r = absurd r.ends
  untouched_log s old new relation input ReadFault before after u r = absurd r.ends
  untouched_log s old new relation input TooLong before after u r = absurd r.ends
  untouched_log s old new relation input AlreadyThere before after u r = absurd r.ends
  untouched_log s old new relation input Done before after u r = absurd u
  untouched_log s old new relation input WriteFault before after u r = absurd u
  untouched_log s old new relation input DiskFault before after u r = absurd u
  untouched_log s old new relation input Memory before after u r = absurd u

  -- nothing was run
  pub imports_none : (s : State) (log : L) (relation input : List ℕ) (before : Option (List ℕ)) → Log s log log relation input Memory before before
  imports_none s log relation input before = record {
    ran = [];
    rest = lines_told s relation input;
    lines = refl;
    stores = stores_none j (opening s) log;
    ends = refl;
    others = tt;
    spared = λ n is. absurd (cc is);
    count = λ is. absurd (cc is);
  }

  module _ (s : State) (k m : WithLog L) (relation input : List ℕ) (rose : Bool) (status : Status) (before after : Option (List ℕ)) where
    abbrev lines : List (List ℕ)
    lines = lines_told s relation input

    by_result : (imported : Result Imported ImportStop) → Tells (import_told s relation input) imported
        → RunsFirst j (opening s) k m lines
        → OnOk imported (RunsToEnd j (opening s) k m lines)
        → IfErr imported (StopsAs j.faults k m)
        → EndedBy imported rose status before after
        → rose ≡ nat_lt (counted (j.faults k.log)) (counted (j.faults m.log))
        → Log s k.log m.log relation input status before after
    by_result (Ok made) tells first all stops e is_rose = record {
      ran = map unmarked lines;
      rest = [];
      lines = all.0.lines;
      stores = all.0.stores;
      ends = ends_made (import_told s relation input) (map unmarked lines) [] before after made rose status (tells, refl, none_marked lines) e;
      others = all.1;
      spared = λ n is. made_row made rose n status before after is e;
      count = λ is below. none_rose (j.faults k.log) (j.faults m.log) all.0.stores.later
          (not_less _ _ (sym is_rose ∙ not_rose (Ok made) rose before after (subst (λ (t : Status). EndedBy (Ok made) rose t before after) is e))) below;
    }
    by_result (Err stop) tells first all stops e is_rose = record {
      ran = first.0;
      rest = first.1;
      lines = first.2.lines;
      stores = first.2.stores;
      ends = subst (λ (t : Status). EndsImport t (import_told s relation input) first.0 first.1 before after) (sym e.0) (ends_stop (import_told s relation input) first.0 first.1 before after stop rose tells e.1);
      others = first.3;
      spared = λ n is. row_spares k m stop rose n (sym e.0 ∙ is) stops;
      count = λ is. absurd (not_done stop rose (sym e.0 ∙ is));
    }

  -- an import into a core on which nothing was run before
  pub imports_told : (k m : WithLog L) (s : State) (log log' : L) (relation input : List ℕ) (rose : Bool) (status : Status) (before after : Option (List ℕ)) (imported : Result Imported ImportStop) (x y : ℕ)
      → StandsIn (opening s) k.kept → k.log ≡ log → log' ≡ m.log → x ≡ counted (j.faults log) → y ≡ counted (j.faults log') → rose ≡ nat_lt x y
      → Tells (import_told k.kept.state relation input) imported
      → RunsFirst j (opening k.kept.state) k m (lines_told k.kept.state relation input)
      → OnOk imported (RunsToEnd j (opening k.kept.state) k m (lines_told k.kept.state relation input))
      → IfErr imported (StopsAs j.faults k m)
      → EndedBy imported rose status before after
      → Log s log log' relation input status before after
  imports_told k m s log log' relation input rose status before after imported x y stands same after_is is_x is_y is_rose tells first all stops e =
      let now : k.kept.state ≡ s = sym stands.state in
      subst (λ (p : L × L). Log s p.0 p.1 relation input status before after) (λ i. (same i, sym after_is i))
      (by_result s k m relation input rose status before after imported
      (subst (λ (x : State). Tells (import_told x relation input) imported) now tells)
      (subst (λ (x : State). RunsFirst j (opening x) k m (lines_told x relation input)) now first)
      (subst (λ (x : State). OnOk imported (RunsToEnd j (opening x) k m (lines_told x relation input))) now all)
      stops e
      (is_rose ∙ (λ i. nat_lt ((is_x ∙ ap (λ (l : L). counted (j.faults l)) (sym same)) i) ((is_y ∙ ap (λ (l : L). counted (j.faults l)) after_is) i))))

-- ---- on two files

module _ {D S V P Q : Type 0} (g : Ghosts D) (disks : Pair D) (a b : Dataset D g) (s : State) (es : List Entry) (relation input : List ℕ) (status : Status) (before after : Option (List ℕ)) (only : BothOnlyRead g disks (pair_in a)) where
  pub imports_files : KeepsIn a s es None → ImportsLog (log_of g {S = S} {V = V} {P = P} {Q = Q}) s a b relation input status before after
      → (c d : List ℕ) → reads c d ≡ counts (counted_in a) (generation_in a) (opened s es (place_in a)) → (AreAllOnDisk g disks → StaysQuiet (moments_of g disks) a c d) → RunsImport g disks (pair_in b) relation input status before after c d
  imports_files kept r c d is quiet =
      let runs = runs_on g disks a b s es only kept r.ran (alone_groups r.ran) r.stores c d is quiet in
      record {
        file = counted_in a;
        generation = generation_in a;
        state = s;
        entries = es;
        at = place_in a;
        opens = is;
        ran = r.ran;
        rest = r.rest;
        lines = r.lines;
        runs = runs;
        any_moment = runs.any_moment (no_image_law (opening s) (map said r.ran) r.others);
        ends = r.ends;
      }
