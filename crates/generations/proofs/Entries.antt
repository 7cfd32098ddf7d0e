-- Entries one after another, one more at a time.
use Rattle.std.proofs.Common.{◌≡◌, zero, suc, ℕ, ◌+◌, ◌<◌, ◌≤◌, Bool, true, false, cond, List, [], ◌∷◌, ◌++◌, length, get_or, drop, refl, sym, ◌∙◌, ap, arith, append_assoc, length-drop, Option, Some, None, option_map, option_and_then}
use Rattle.std.proofs.lemmas.List.{drop-drop, drop_more}
use Rattle.db_value.specs.declared.entry.Entry.{Entry}
use Rattle.db_value.specs.declared.entry.Entry.TheVariants.{Commit, Branch}
use Rattle.db_store.specs.Fits.{fits}
use Rattle.db_store.specs.State.{State, dataset_of, grow}
use Rattle.entry_codec.specs.Spelling.{entry_size}
use Rattle.entry_codec.specs.Grammar.{entry_in, entries_from, entries_in, onto_entries}
use Rattle.generations.specs.Files.{applied}

pub some_size : (e : Entry) → 0 < entry_size e
some_size (Commit b second changes) = omega arith
some_size (Branch name origin) = omega arith

enough_with : (n m : ℕ) (l : List ℕ) (o : Option Entry) → ((e : Entry) → entries_from n (drop (entry_size e) l) ≡ entries_from m (drop (entry_size e) l))
    → option_and_then (λ e. option_map (onto_entries e) (entries_from n (drop (entry_size e) l))) o ≡ option_and_then (λ e. option_map (onto_entries e) (entries_from m (drop (entry_size e) l))) o
enough_with n m l None same = refl
enough_with n m l (Some e) same = ap (λ (x : Option (List Entry)). option_map (onto_entries e) x) (same e)

-- as many steps as there are bytes are enough
pub enough : (n m : ℕ) (b : List ℕ) → length b ≤ n → length b ≤ m → entries_from n b ≡ entries_from m b
enough n m [] p q = refl
enough zero m (x ∷ b) p q = absurd (omega (arith, p))
enough (suc n) zero (x ∷ b) p q = absurd (omega (arith, q))
enough (suc n) (suc m) (x ∷ b) p q = enough_with n m (x ∷ b) (entry_in (x ∷ b))
    (λ e. enough n m (drop (entry_size e) (x ∷ b)) (omega (arith, p, length-drop (entry_size e) (x ∷ b), some_size e)) (omega (arith, q, length-drop (entry_size e) (x ∷ b), some_size e)))

-- an entry at the front
pub one_entry : (l : List ℕ) (e : Entry) → 0 < length l → entry_in l ≡ Some e → entries_in l ≡ option_map (onto_entries e) (entries_in (drop (entry_size e) l))
one_entry [] e some is = absurd (omega (arith, some))
one_entry (x ∷ b) e some is =
    ap (λ (o : Option Entry). option_and_then (λ f. option_map (onto_entries f) (entries_from (length b) (drop (entry_size f) (x ∷ b)))) o) is
    ∙ ap (λ (o : Option (List Entry)). option_map (onto_entries e) o)
    (enough (length b) (length (drop (entry_size e) (x ∷ b))) (drop (entry_size e) (x ∷ b)) (omega (arith, length-drop (entry_size e) (x ∷ b), some_size e)) (omega arith))

pub no_entry : (l : List ℕ) → 0 < length l → entry_in l ≡ None → entries_in l ≡ None
no_entry [] some is = absurd (omega (arith, some))
no_entry (x ∷ b) some is = ap (λ (o : Option Entry). option_and_then (λ f. option_map (onto_entries f) (entries_from (length b) (drop (entry_size f) (x ∷ b)))) o) is

-- entries in front of others
abbrev pub ahead : List Entry → List Entry → List Entry
ahead xs ys = xs ++ ys

two_maps : (old : List Entry) (e : Entry) (x : Option (List Entry)) → option_map (ahead old) (option_map (onto_entries e) x) ≡ option_map (ahead (old ++ e ∷ [])) x
two_maps old e None = refl
two_maps old e (Some es) = ap (λ (l : List Entry). Some l) (sym (append_assoc old (e ∷ []) es))

-- one entry more was read
pub goes : (all : Option (List Entry)) (old new : List Entry) (b : List ℕ) (at size : ℕ) (e : Entry) → all ≡ option_map (ahead old) (entries_in (drop at b)) → at < length b → entry_in (drop at b) ≡ Some e → size ≡ entry_size e
    → new ≡ old ++ e ∷ [] → all ≡ option_map (ahead new) (entries_in (drop (at + size) b))
goes all old new b at size e is lt entry long so =
    is ∙ ap (λ (o : Option (List Entry)). option_map (ahead old) o) (one_entry (drop at b) e (omega (arith, lt, length-drop at b)) entry)
    ∙ two_maps old e (entries_in (drop (entry_size e) (drop at b)))
    ∙ ap (λ (l : List Entry). option_map (ahead l) (entries_in (drop (entry_size e) (drop at b)))) (sym so)
    ∙ ap (λ (l : List ℕ). option_map (ahead new) (entries_in l)) (drop-drop (entry_size e) at b)
    ∙ ap (λ (k : ℕ). option_map (ahead new) (entries_in (drop (at + k) b))) (sym long)

pub stops : (all : Option (List Entry)) (old : List Entry) (b : List ℕ) (at : ℕ) → all ≡ option_map (ahead old) (entries_in (drop at b)) → at < length b → entry_in (drop at b) ≡ None → all ≡ None
stops all old b at is lt none = is ∙ ap (λ (o : Option (List Entry)). option_map (ahead old) o) (no_entry (drop at b) (omega (arith, lt, length-drop at b)) none)

-- one entry more was added
pub applied_more : (s : State) (es : List Entry) (i : ℕ) (d : Entry) → i < length es → fits (dataset_of s) (get_or es i d) ≡ true → applied s (drop i es) ≡ applied (grow s (get_or es i d)) (drop (i + 1) es)
applied_more s es i d lt fit =
    ap (λ (l : List Entry). applied s l) (drop_more es i d lt)
    ∙ ap (λ (q : Bool). cond q (applied (grow s (get_or es i d)) (drop (i + 1) es)) None) fit

pub applied_none : (s : State) (es : List Entry) (i : ℕ) (d : Entry) → i < length es → fits (dataset_of s) (get_or es i d) ≡ false → applied s (drop i es) ≡ None
applied_none s es i d lt fit =
    ap (λ (l : List Entry). applied s l) (drop_more es i d lt)
    ∙ ap (λ (q : Bool). cond q (applied (grow s (get_or es i d)) (drop (i + 1) es)) None) fit
